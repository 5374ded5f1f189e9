use Rattle.std.proofs.Common.{ℕ, ◌<◌}
use Rattle.stripe_examiner.specs.Search.{block_in, wanted_at, IsRightBlock}
use Rattle.stripe_examiner.proofs.search.are_right.Given as goal

abbrev pub invariant-loop-j : goal.invariant-loop-j
invariant-loop-j l = (j : ℕ) → j < l.j → IsRightBlock l.shape (wanted_at l.wanted j) (block_in l.size l.blocks j)
