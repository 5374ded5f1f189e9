use Rattle.std.proofs.Common.{sym, ◌∙◌, ap}
use Rattle.disk_calm.specs.Held.{Held}
use Rattle.disk_memory.proofs.SettledLemmas.{settled_fresh, no_draft_anew}
use Rattle.disk_memory.proofs.vault.MemVault.new.Goals as goal

pub returns-clause-settled : goal.returns-clause-settled
returns-clause-settled c = let r = c.in_ok-new.ensures.view in settled_fresh c.new.result.faults c.in_ok-new.field-0 r.calls (r.now ∙ sym r.opened)

pub returns-clause-drafts : goal.returns-clause-drafts
returns-clause-drafts c = no_draft_anew c.args.copies _ (ap (λ (h : Held). h.drafts) c.in_ok-new.ensures.view.now)
