use Rattle.std.proofs.Common.{◌≡◌, take}
use Rattle.arrayvec.specs.ArrayVec.{array_vec_len}
use Rattle.stripe_examiner.specs.Search.{columns_of}
use Rattle.stripe_examiner.proofs.search.columns.Given as goal

abbrev pub invariant-loop-one : goal.invariant-loop-one
invariant-loop-one l = (array_vec_len l.columns ≡ l.one-index) × (l.columns.items ≡ columns_of (take l.one-index l.wanted))
