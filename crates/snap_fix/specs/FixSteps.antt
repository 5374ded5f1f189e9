-- The levels of a stripe that is written anew, where a recovery is tried.
use Rattle.std.specs.Prelude.{◌≡◌, ℕ, List, [], ◌∷◌, Bool, IsTrue}
use Rattle.std.specs.List.{range_with_len, flat_map}
use Rattle.disk_model.specs.Cause.{Rose}
use Rattle.disk_model.specs.Sink.{SinkView}
use Rattle.disk_model.specs.Vault.{GoesOn, SomeCalls, ChangesBy, DraftsStay, Reads}
use Rattle.parity_writer.specs.LevelsValue.{LevelsValue}
use Rattle.snap_report.specs.Answer.{Gained}
use Rattle.file_restorer.specs.Breaking.{broke_parity}
use Rattle.snap_fix.specs.BrokenStripe.{FailsAtLevel}
use Rattle.snap_report.specs.Report.{ReportView}
use Rattle.snap_report.specs.Told.{Told}
use Rattle.snap_report.specs.declared.events.Event.{Event}
use Rattle.stripe_reader.specs.WindowValue.{WindowValue}
use Rattle.stripe_examiner.specs.Facts.{StripeFacts}
use Rattle.stripe_examiner.specs.Known.{AreFacts}
use Rattle.stripe_examiner.specs.Marks.{levels_read, row_if}
use Rattle.snap_fix.specs.Mended.{all_level_news, level_news, wrong_in}
use Rattle.repair_scope.specs.Plan.{FixPlan, is_searched}
use Rattle.snap_fix.specs.Repairing.{FlagsWritten, LevelsOutside}
use Rattle.snap_fix.specs.Underway.{AddsZeros, KeepsLevels, IsMendedLevel, HoldsWrong, done_well, wrong_writes}

-- these are the facts of a stripe of the window: its levels were read where a recovery is tried
pub record ShowsTried (plan : FixPlan) (facts : StripeFacts) (stripe i : ℕ) (window : WindowValue) (levels : LevelsValue)
    (known : Bool) : Type 0 where
  pub are : AreFacts plan facts
  pub stripe_is : facts.stripe ≡ stripe
  pub levels_are : facts.levels ≡ levels_read (is_searched plan stripe) levels
  pub row : facts.row ≡ row_if known window i

-- The wrong levels of a stripe were written, and nothing else of the vault changed.
pub record MendsParity {W R : Type 0} (view : W → SinkView) (standing : R → ReportView) (stands : R → List Event → Type 0)
    (plan : FixPlan) (facts : StripeFacts) (before after : List Bool) (old new : LevelsOutside W R) (count : ℕ) : Type 0 where
  pub calls : SomeCalls old.vault new.vault
  pub ran : GoesOn old.vault new.vault (done_well (wrong_writes plan facts))
  pub drafts : DraftsStay old.vault new.vault
  pub told : Told view standing stands plan.table.columns (all_level_news plan facts) old.lines new.lines old.reports new.reports
  pub count_is : count ≡ wrong_in plan (record { facts = facts; answers = [] })
  pub changes : ChangesBy (KeepsLevels plan.table.shape.block_size (IsMendedLevel plan (facts ∷ []))) old.vault new.vault
  pub zeros : IsTrue old.vault.tells → AddsZeros plan.table.shape.block_size (IsMendedLevel plan (facts ∷ [])) old.vault.files new.vault.files
  pub holds : Reads (HoldsWrong plan facts) new.vault
  pub flags : FlagsWritten plan facts before after

-- The write of a wrong level failed, and the vault's count rose. Just what is told of the levels below it was told.
pub record MendsNotParity {W R : Type 0} (view : W → SinkView) (standing : R → ReportView) (stands : R → List Event → Type 0)
    (plan : FixPlan) (facts : StripeFacts) (old new : LevelsOutside W R) : Type 0 where
  pub rose : Rose old.vault.faults new.vault.faults
  pub call : IsTrue new.vault.tells_calls → Gained broke_parity old.vault.calls new.vault.calls
  pub calls : SomeCalls old.vault new.vault
  pub drafts : DraftsStay old.vault new.vault
  pub level : ℕ
  pub ran : FailsAtLevel plan facts level [] old.vault new.vault
  pub told : Told view standing stands plan.table.columns (flat_map (level_news plan facts) (range_with_len 0 level))
      old.lines new.lines old.reports new.reports
  pub changes : ChangesBy (KeepsLevels plan.table.shape.block_size (IsMendedLevel plan (facts ∷ []))) old.vault new.vault
