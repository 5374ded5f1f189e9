use Rattle.std.proofs.Common.{◌≡◌, take}
use Rattle.arrayvec.specs.ArrayVec.{array_vec_len}
use Rattle.stripe_examiner.proofs.search.with_level.Given as goal

abbrev pub invariant-loop-one : goal.invariant-loop-one
invariant-loop-one l = (array_vec_len l.levels ≡ l.one-index) × (l.levels.items ≡ take l.one-index l.chosen)
