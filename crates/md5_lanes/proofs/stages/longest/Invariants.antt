use Rattle.std.proofs.Common.{ℕ, ◌<◌, ◌≤◌, List, length, get_or}
use Rattle.std.specs.Borrow.{Bor}
use Rattle.md5_lanes.proofs.stages.longest.Given as goal

abbrev pub invariant-loop-i : goal.invariant-loop-i
invariant-loop-i l = record {
  longest : (j : ℕ) (none : Bor (List ℕ)) → j < l.i → length (get_or l.blocks j none).now ≤ length l.longest;
  short : length l.longest ≤ 4194304;
}
