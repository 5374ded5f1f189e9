use Rattle.std.proofs.Common.{take}
use Rattle.parity_writer.specs.Parity.{Row}
use Rattle.stripe_examiner.specs.Judged.{AreMissingIn}
use Rattle.stripe_examiner.specs.Known.{AreRemainders}
use Rattle.stripe_examiner.specs.Restorable.{filled}
use Rattle.stripe_examiner.proofs.finding.take_found.Given as goal

-- the blocks so far are taken
abbrev pub invariant-loop-j : goal.invariant-loop-j
invariant-loop-j l =
    (row : Row) → AreMissingIn row l.size l.wanted → AreRemainders l.size row (take l.levels.count l.levels.levels) l.fn.remainders
    → AreRemainders l.size (filled l.size l.blocks (take l.j l.wanted) row) (take l.levels.count l.levels.levels) l.remainders
