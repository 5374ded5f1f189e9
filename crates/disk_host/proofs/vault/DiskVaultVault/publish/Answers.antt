use Rattle.disk_host.specs.Drafts.{state_of}
use Rattle.disk_host.proofs.QuietLemmas.{draft_is}
use Rattle.disk_host.proofs.vault.DiskVaultVault.publish.Goals as goal

pub returns-clause-gone : goal.returns-clause-gone
returns-clause-gone g c = draft_is (λ content. state_of content.draft.stage) c.args.self.now.contents.items c.args.copy _ _ _ _ _ _ _ _ c.publish-answer.ensures
