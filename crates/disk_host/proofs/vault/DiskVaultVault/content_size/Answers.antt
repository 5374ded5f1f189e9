use Rattle.std.proofs.Common.{◌∙◌, refl, ap}
use Rattle.disk_host.specs.Drafts.{state_of}
use Rattle.disk_host.proofs.QuietLemmas.{reading}
use Rattle.disk_host.proofs.vault.DiskVaultVault.content_size.Goals as goal

pub returns-clause-call : goal.returns-clause-call
returns-clause-call g c =
    reading (λ content. state_of content.draft.stage) c.args.self.now.contents.items c.args.copy c.size-answer.new.self c.index_mut.result.now _ _ _ _ _ _ _
    (ap (λ draft. state_of draft.stage) c.size-answer.ensures ∙ ap (λ content. state_of content.draft.stage) c.index_mut.ensures.value) refl c.counted.ensures.later c.counted.ensures.cause
