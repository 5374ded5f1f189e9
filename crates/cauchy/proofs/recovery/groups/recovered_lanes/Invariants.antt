use Rattle.std.proofs.Common.{ℕ}
use Rattle.cauchy.specs.Elimination.{cell}
use Rattle.cauchy.specs.Lanes.{HasLanes}
use Rattle.cauchy.specs.Solving.{recovered, AreTablesOf}
use Rattle.cauchy.proofs.recovery.groups.recovered_lanes.Given as goal

abbrev pub invariant-loop-i : goal.invariant-loop-i
invariant-loop-i l =
    (m : ℕ → ℕ → ℕ) → AreTablesOf l.count m l.tables → HasLanes l.sum (λ k. recovered m l.i (λ i. cell l.given i k) l.j)
