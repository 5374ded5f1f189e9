use Rattle.std.proofs.Common.{◌≡◌, ℕ, ◌<◌, get_or, length, take, Some, None, true, false}
use Rattle.std.specs.Prelude.{if◌then◌else◌}
use Rattle.parity_writer.specs.LevelsValue.{level_at}
use Rattle.parity_writer.specs.Parity.{Row}
use Rattle.stripe_examiner.specs.Findings.{is_wrong}
use Rattle.stripe_examiner.specs.Known.{AreRemainders}
use Rattle.stripe_examiner.specs.Surveyed.{plan_in}
use Rattle.stripe_examiner.proofs.judging.wrong_levels.Given as goal

-- the flags of the levels so far tell whether these are wrong
abbrev pub invariant-loop-r : goal.invariant-loop-r
invariant-loop-r l =
    record {
      long : length l.wrong ≡ 6;
      flags : (row : Row) → (l.known ≡ true → AreRemainders l.survey.plan.table.now.shape.block_size row (take l.levels.count l.levels.levels) l.remainders)
          → (k : ℕ) → k < l.r → get_or l.wrong k false ≡ is_wrong (plan_in l.survey) l.stripe (level_at l.levels k) (if l.known then Some row else None) k;
    }
