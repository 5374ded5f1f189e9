use Rattle.disk_host.specs.Drafts.{state_of}
use Rattle.disk_host.proofs.QuietLemmas.{draft_is, ok_too, err_too}
use Rattle.disk_host.proofs.vault.DiskVaultVault.draft_append.Goals as goal

pub returns-clause-appended : goal.returns-clause-appended
returns-clause-appended g c = ok_too _ _ c.counted.ensures.same (draft_is (λ content. state_of content.draft.stage) c.args.self.now.contents.items c.args.copy _ _ _ _ _ _ _ _) c.append-answer.ensures.ok

pub returns-clause-gone : goal.returns-clause-gone
returns-clause-gone g c = err_too _ _ c.counted.ensures.same (draft_is (λ content. state_of content.draft.stage) c.args.self.now.contents.items c.args.copy _ _ _ _ _ _ _ _) c.append-answer.ensures.err
