use Rattle.std.proofs.Common.{◌≡◌, ◌≤◌, take, length}
use Rattle.std.specs.List.{filter, range_with_len}
use Rattle.stripe_examiner.specs.Known.{whole_level}
use Rattle.stripe_examiner.proofs.knowing.whole_levels.Given as goal

-- those of the levels so far
abbrev pub invariant-loop-r : goal.invariant-loop-r
invariant-loop-r l = record {
  are : l.whole.items ≡ filter (whole_level (take l.levels.count l.levels.levels)) (range_with_len 0 l.r);
  few : length l.whole.items ≤ l.r;
}
