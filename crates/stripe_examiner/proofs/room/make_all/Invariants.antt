use Rattle.std.proofs.Common.{◌≡◌, All, length}
use Rattle.stripe_examiner.specs.Room.{IsStripeRoomFor}
use Rattle.stripe_examiner.proofs.room.make_all.Given as goal

-- so many rooms were made
abbrev pub invariant-loop : goal.invariant-loop
invariant-loop l = (length l.rooms.items ≡ l.counter) × All (IsStripeRoomFor l.table) l.rooms.items
