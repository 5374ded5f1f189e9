use Rattle.std.proofs.Common.{◌≡◌, All, length}
use Rattle.parity_writer.specs.Summing.{HaveSize}
use Rattle.parity_writer.proofs.summing.make_sums.Given as goal

-- so many were made
abbrev pub invariant-loop : goal.invariant-loop
invariant-loop l = (length l.sums.items ≡ l.counter) × All (HaveSize l.block_size) l.sums.items
