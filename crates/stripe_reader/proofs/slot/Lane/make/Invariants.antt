use Rattle.std.proofs.Common.{◌≡◌, length}
use Rattle.stripe_reader.specs.WindowValue.{HasBlocks}
use Rattle.stripe_reader.proofs.slot.Lane.make.Given as goal

abbrev pub invariant-loop : goal.invariant-loop
invariant-loop l = (length l.slots.items ≡ l.counter) × HasBlocks l.block_size l.slots.items
