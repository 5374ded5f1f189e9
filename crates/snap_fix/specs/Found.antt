-- What a check and a fix of the same selection share.
use Rattle.std.specs.Prelude.{◌≡◌, ◌≢◌, ℕ, ◌<◌, List, length, true, Contains}
use Rattle.file_restorer.specs.declared.finishing.Finish.{Finish}
use Rattle.file_restorer.specs.declared.finishing.Finish.TheVariants.{Gone}
use Rattle.repair_scope.specs.declared.scope.Mode.TheVariants.{Check, Fix}
use Rattle.snap_fix.specs.Ending.{finish_at, finishes_at, is_finished}
use Rattle.snap_fix.specs.Mended.{Mended, answer_of, is_repaired}
use Rattle.repair_scope.specs.Plan.{FixPlan}
use Rattle.file_table.specs.Table.{records_in}

-- each cell that is to be written is
abbrev pub AreAllWritten : FixPlan → List Mended → Type 0
AreAllWritten plan stripes = (mended : Mended) (d : ℕ) → Contains stripes mended → d < length plan.table.columns
    → is_repaired plan mended.facts d ≡ true → answer_of mended d ≡ true

-- no file that is to be finished is gone
abbrev pub IsNoneGone : FixPlan → List (List Finish) → Type 0
IsNoneGone plan finishes = (d i : ℕ) → d < length plan.table.columns → i < length (records_in plan.table d)
    → is_finished plan d i ≡ true → finish_at (finishes_at finishes d) i ≢ Gone

-- one is the plan of a check and the other that of a fix, and they differ in that alone
pub record DifferInMode (check fix : FixPlan) : Type 0 where
  pub checks : check.scope.mode ≡ Check
  pub fixes : fix.scope.mode ≡ Fix
  pub only_bad : check.scope.only_bad ≡ fix.scope.only_bad
  pub levels : check.scope.levels ≡ fix.scope.levels
  pub table : check.table ≡ fix.table
  pub entries : check.entries ≡ fix.entries
