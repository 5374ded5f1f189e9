use Rattle.std.proofs.Common.{◌≡◌, get_or}
use Rattle.cauchy.specs.Elimination.{entries, row_sum}
use Rattle.cauchy.proofs.elimination.sum_of_products.Given as goal

abbrev pub invariant-loop-j : goal.invariant-loop-j
invariant-loop-j l = l.sum ≡ row_sum (entries l.matrix) l.j (λ k. get_or l.values.items k 0) l.i
