use Rattle.std.proofs.Common.{[], ◌≡◌, ◌≤◌, get_or, ℕ}
use Rattle.file_table.specs.declared.shape.Shape.{Shape}
use Rattle.stripe_reader.specs.Fetched.{hashed_front}
use Rattle.stripe_reader.specs.HashedLanes.{AreDigests}
use Rattle.stripe_reader.proofs.FrontLemmas.{MapsFirst}
use Rattle.stripe_reader.proofs.hashers.give_digests.Given as goal

abbrev pub invariant-loop-k : goal.invariant-loop-k
invariant-loop-k l = record {
  others : (j : ℕ) → l.k ≤ j → get_or l.lanes j [] ≡ get_or l.fn.lanes j [];
  given : (shape : Shape) → AreDigests shape l.count l.fn.lanes 0 l.digests → MapsFirst (hashed_front shape l.count) [] l.k l.fn.lanes l.lanes;
}
