use Rattle.std.proofs.Common.{sym, ap, List, length}
use Rattle.disk_calm.specs.Store.{held}
use Rattle.disk_memory.specs.declared.calls.VaultEntry.{VaultEntry}
use Rattle.disk_memory.specs.declared.past.Made.{Made}
use Rattle.disk_memory.proofs.RecordedLemmas.{recorded_anew}
use Rattle.disk_memory.proofs.recorded.Recorded.opened.Goals as goal

pub invariant_of-result : goal.invariant_of-result
invariant_of-result c = record {
  same_levels = sym c.in_ok-opened.ensures.same.levels;
  same_copies = sym c.in_ok-opened.ensures.same.copies;
  recorded = recorded_anew c.new.result.lost 0 c.new.result.made.items (held c.in_ok-opened.opened) (held c.args.store) (sym (ap (λ (es : List (Made VaultEntry)). length es) c.new.ensures.made)) (sym c.in_ok-opened.ensures.held);
}
