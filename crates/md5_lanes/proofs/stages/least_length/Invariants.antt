use Rattle.std.proofs.Common.{ℕ, ◌<◌, ◌≤◌, List, length, get_or}
use Rattle.std.specs.Borrow.{Bor}
use Rattle.std.specs.List.{All}
use Rattle.md5_lanes.proofs.stages.least_length.Given as goal

abbrev pub invariant-loop-i : goal.invariant-loop-i
invariant-loop-i l = record {
  least : (j : ℕ) (none : Bor (List ℕ)) → j < l.i → l.len ≤ length (get_or l.blocks j none).now;
  greatest : (n : ℕ) → All (λ block. n ≤ length block.now) l.blocks → n ≤ l.len;
}
