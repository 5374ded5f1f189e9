use Rattle.std.proofs.Common.{◌+◌, ◌<◌, ℕ, length, get_or}
use Rattle.position_alloc.specs.Words.{IsLowestIn}
use Rattle.position_alloc.proofs.tree.put_leaves.Given as goal

abbrev pub invariant-loop-w : goal.invariant-loop-w
invariant-loop-w l = (w : ℕ) → w < l.w → IsLowestIn w (get_or l.words w 0) (get_or l.tree (length l.words + w) 0)
