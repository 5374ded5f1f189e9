use Rattle.std.proofs.Common.{sym, ◌∙◌}
use Rattle.disk_memory.proofs.ReplayLemmas.{touched_any}
use Rattle.disk_memory.proofs.image.is_in.Goals as goal

pub returns : goal.returns
returns c = c.any_holds.ensures ∙ sym (touched_any c.args.ranges.now c.args.place)
