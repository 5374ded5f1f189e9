use Rattle.file_table.specs.declared.shape.Shape.{Shape}
use Rattle.stripe_reader.specs.HashedLanes.{AreSlotDigests}
use Rattle.stripe_reader.specs.Hashing.{hashed}
use Rattle.stripe_reader.specs.WindowValue.{no_slot}
use Rattle.stripe_reader.proofs.FrontLemmas.{MapsFirst}
use Rattle.stripe_reader.proofs.hashers.give_slots.Given as goal

abbrev pub invariant-loop-i : goal.invariant-loop-i
invariant-loop-i l = (shape : Shape) → AreSlotDigests shape l.fn.slots l.digests → MapsFirst (hashed shape) no_slot l.i l.fn.slots l.slots
