use Rattle.cauchy.proofs.LevelsLemmas.{made_more}
use Rattle.std.proofs.Common.{ℕ, List, subst, length-set, ◌∙◌, arith}
use Rattle.cauchy.specs.Lanes.{AreLaneTables}
use Rattle.cauchy.specs.Matrix.{entry_of}
use Rattle.cauchy.proofs.levels.column_tables.Goals as goal

pub loop-r-preserved : goal.loop-r-preserved
loop-r-preserved g c =
    record {
      long = length-set c.loop-r.tables c.loop-r.r c.lane_tables.result ∙ c.loop-r.invariant.long;
      made = made_more (λ (q : ℕ) (tables : List (List ℕ)). AreLaneTables (entry_of q c.args.column) tables) c.loop-r.tables c.loop-r.r c.lane_tables.result
          (omega (arith, c.loop-r.invariant.long, c.loop-r-test.true)) c.loop-r.invariant.made
          (subst (λ (k : ℕ). AreLaneTables k c.lane_tables.result) c.entry.ensures c.lane_tables.ensures);
    }

pub returns : goal.returns
returns g c = λ q h. c.loop-r.invariant.made q (omega arith)
