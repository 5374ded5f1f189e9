use Rattle.std.proofs.Common.{sym, ◌∙◌}
use Rattle.disk_calm.specs.Store.{held}
use Rattle.disk_memory.proofs.RecordedLemmas.{recorded_anew}
use Rattle.disk_memory.proofs.recorded.Recorded.reopen.Goals as goal

pub invariant_of-self-2 : goal.invariant_of-self-2
invariant_of-self-2 c = record {
  same_levels = sym c.in_ok-self.ensures.same.levels;
  same_copies = sym c.in_ok-self.ensures.same.copies;
  recorded = recorded_anew c.args.self.now.past.lost c.len-self.result c.args.self.now.past.made.items (held c.in_ok-self.field-0) (held c.args.store) (c.len-self.ensures ∙ c.args.self.now.past.made.ok.0) (sym c.in_ok-self.ensures.held);
}
