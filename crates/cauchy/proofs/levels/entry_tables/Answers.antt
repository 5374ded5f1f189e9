use Rattle.cauchy.proofs.LevelsLemmas.{made_more}
use Rattle.std.proofs.Common.{refl, length-set, ◌∙◌, arith}
use Rattle.cauchy.specs.Levels.{AreColumnTables}
use Rattle.cauchy.proofs.levels.entry_tables.Goals as goal

pub loop-c-init : goal.loop-c-init
loop-c-init g c = record { long = refl; made = λ q h. absurd (omega arith) }

pub loop-c-preserved : goal.loop-c-preserved
loop-c-preserved g c =
    record {
      long = length-set c.loop-c.tables c.loop-c.c c.column_tables.result ∙ c.loop-c.invariant.long;
      made = made_more (AreColumnTables g.row.N) c.loop-c.tables c.loop-c.c c.column_tables.result
          (omega (arith, c.loop-c.invariant.long, c.loop-c-test.true, c.requires.columns)) c.loop-c.invariant.made c.column_tables.ensures;
    }

pub returns : goal.returns
returns g c = λ q h. c.loop-c.invariant.made q (omega arith)
