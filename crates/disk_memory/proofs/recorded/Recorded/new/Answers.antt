use Rattle.std.proofs.Common.{sym, ◌∙◌, ap, List, length}
use Rattle.disk_calm.specs.Store.{held}
use Rattle.disk_memory.specs.declared.calls.VaultEntry.{VaultEntry}
use Rattle.disk_memory.specs.declared.past.Made.{Made}
use Rattle.disk_memory.proofs.RecordedLemmas.{recorded_anew}
use Rattle.disk_memory.proofs.recorded.Recorded.new.Goals as goal

pub invariant_of-result : goal.invariant_of-result
invariant_of-result c = record {
  same_levels = c.in_ok-new-2.ensures.levels ∙ sym c.in_ok-new.ensures.levels;
  same_copies = c.in_ok-new-2.ensures.copies ∙ sym c.in_ok-new.ensures.copies;
  recorded = recorded_anew c.new.result.lost 0 c.new.result.made.items (held c.in_ok-new.field-0) (held c.in_ok-new-2.field-0) (sym (ap (λ (es : List (Made VaultEntry)). length es) c.new.ensures.made)) (c.in_ok-new-2.ensures.held ∙ sym c.in_ok-new.ensures.held);
}
