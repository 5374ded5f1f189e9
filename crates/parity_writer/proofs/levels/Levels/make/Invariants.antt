use Rattle.std.proofs.Common.{◌≡◌, length}
use Rattle.parity_writer.specs.LevelsValue.{HaveSize}
use Rattle.parity_writer.proofs.levels.Levels.make.Given as goal

abbrev pub invariant-loop : goal.invariant-loop
invariant-loop l = (length l.levels.items ≡ l.counter) × HaveSize l.block_size l.levels.items
