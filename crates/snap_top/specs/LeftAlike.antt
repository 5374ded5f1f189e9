-- Two syncs, or two scrubs, of one array: they read, leave and print the same.
use Rattle.std.specs.Prelude.{◌≡◌, ◌≢◌, ◌↔◌, ℕ, List, Bool, false, IsTrue, Ok}
use Rattle.disk_model.specs.Files.{Files}
use Rattle.parity_writer.specs.Keeps.{SameParities}
use Rattle.snap_config.specs.declared.options.Options.{Options}
use Rattle.snap_report.specs.Telling.{Tells, between}
use Rattle.snap_sync.specs.Part.{SyncRun, without_checks}
use Rattle.snap_top.specs.Stands.{StandsAfter}
use Rattle.snap_top.specs.Asked.{asked_by}
use Rattle.snap_top.specs.Entry.{Entry, Exit}
use Rattle.snap_top.specs.Scrub.{ScrubRun, marked_table}
use Rattle.snap_top.specs.Sync.{end_table}

-- They were asked for the same command, with the same log. The number of readers may differ.
pub record AskSame (one other : Entry) : Type 0 where
  pub asked : Options
  pub asked_then : Options
  pub words : asked_by one.texts ≡ Ok asked
  pub words_then : asked_by other.texts ≡ Ok asked_then
  pub command : asked.command ≡ asked_then.command
  pub log : asked.log ≡ asked_then.log

-- a run printed this text, or a front of it, which has status 3
pub record HasPrinted (text : List ℕ) (before : Entry) (exit : Exit) (status : ℕ) : Type 0 where
  pub failed : Bool
  pub status_is : (status ≡ 3) ↔ IsTrue failed
  pub told : Tells text (between false before.out) (between failed exit.after.out)

-- two runs printed the same text, and have the same status where the output of neither failed
pub record PrintAlike (before before_then : Entry) (exit exit_then : Exit) (status status_then : ℕ) : Type 0 where
  pub text : List ℕ
  pub printed : HasPrinted text before exit status
  pub printed_then : HasPrinted text before_then exit_then status_then
  pub statuses : status ≢ 3 → status_then ≢ 3 → status ≡ status_then

-- Two syncs began with the same table, laid out the same and read the same. They left the same table, but for the times of the last checks
-- where their moments differ; and the same parity, as it reads and in each image.
pub record SyncsAlike (one other : SyncRun) (exit exit_then : Exit) : Type 0 where
  pub loaded : one.loaded ≡ other.loaded
  pub start : one.plan.start ≡ other.plan.start
  pub readings : one.readings ≡ other.readings
  pub tables : without_checks (end_table one) ≡ without_checks (end_table other)
  pub at_once : one.plan.now ≡ other.plan.now → end_table one ≡ end_table other
  pub parity : (files files_then : Files) → StandsAfter exit files → StandsAfter exit_then files_then
      → SameParities one.plan.start.shape.levels files_then files

-- Two scrubs began with the same table, read the same and marked the same. The levels read the same at their ends.
pub record ScrubsAlike (one other : ScrubRun) (exit exit_then : Exit) : Type 0 where
  pub loaded : one.loaded ≡ other.loaded
  pub readings : one.readings ≡ other.readings
  pub table : marked_table one ≡ marked_table other
  pub parity : exit.after.vault.files.parities ≡ exit_then.after.vault.files.parities
