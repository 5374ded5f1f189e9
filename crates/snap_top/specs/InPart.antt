-- What a sync leaves that went to its end.
use Rattle.std.specs.Prelude.{◌≡◌, ℕ, ◌++◌, ◌-◌, length, All, Bool, false, IsTrue}
use Rattle.array_scan.specs.Layout.{pending_stripes}
use Rattle.content_file.specs.Save.{HasSaved}
use Rattle.content_file.specs.Spelling.{spelling}
use Rattle.disk_model.specs.Cause.{Rose}
use Rattle.disk_model.specs.Vault.{Holds, copies_of}
use Rattle.snap_report.specs.EventLines.{lines_of}
use Rattle.snap_report.specs.Telling.{Tells, between}
use Rattle.snap_report.specs.Text.{sync_text}
use Rattle.snap_sync.specs.Closing.{verified_in}
use Rattle.snap_sync.specs.Ended.{IsFoundIn}
use Rattle.stripe_findings.specs.Findings.{events_of}
use Rattle.snap_sync.specs.Part.{AllVerified, IsFullSync, IsPartSync, NoneRose, SyncRun, layout_by, readings_by, run_trees, verified_stripes}
use Rattle.stripe_findings.specs.Reading.{StripeReading, is_verified, stripes_of}
use Rattle.snap_top.specs.Output.{IsEndStatus}
use Rattle.snap_top.specs.Entry.{Entry, Exit}
use Rattle.snap_top.specs.Sync.{end_table}
use Rattle.snap_top.specs.Began.{IsSyncOf}

-- A sync that went to its end: all pending stripes of the layout were read, and where no folder's count of faults rose this gave what
-- the trees hold. It is the part sync of those that are verified, and every copy spells its table; in each that is not something was
-- found. Where all are verified, it is the full sync. So it stands as the vault reads, and in each image. It printed the lines of what
-- was found and its last line, or a prefix where the output failed. Its status is 0 exactly where all are verified and the output did
-- not fail. A failure of the output is counted, and changes nothing else of this.
pub record EndsInPart (before : Entry) (exit : Exit) (status : ℕ) : Type 0 where
  pub run : SyncRun
  pub is_sync : IsSyncOf before exit run
  pub tells : IsTrue exit.after.vault.tells
  pub all : stripes_of run.readings ≡ pending_stripes run.plan.start.infos
  pub laid : run.plan.start ≡ layout_by run.setup run.loaded (run_trees run)
  pub given : NoneRose run.folders exit.after.folders
      → run.readings ≡ readings_by run.plan.start (run_trees run) (pending_stripes run.plan.start.infos)
  pub part : Holds (IsPartSync run.plan.start (run_trees run) (verified_stripes run.plan.start run.readings) run.plan.now
      before.opener.vault.files (end_table run)) exit.after.vault
  pub saved : Holds (HasSaved (copies_of before.opener.vault) (spelling (end_table run))) exit.after.vault
  pub found : All (λ (reading : StripeReading). is_verified run.plan.start reading ≡ false
      → IsFoundIn (events_of run.plan.start run.readings) reading.stripe) run.readings
  pub full : AllVerified run.plan.start run.readings
      → Holds (IsFullSync run.setup run.loaded (run_trees run) run.plan.now before.opener.vault.files (end_table run)) exit.after.vault
  pub output_failed : Bool
  pub printed : Tells (lines_of run.plan.start.columns (events_of run.plan.start run.readings)
      ++ sync_text (verified_in run.plan.start run.readings) (length run.readings - verified_in run.plan.start run.readings))
      (between false before.out) (between output_failed exit.after.out)
  pub status_is : IsEndStatus status output_failed (AllVerified run.plan.start run.readings)
  pub output : IsTrue output_failed → Rose before.out.faults exit.after.out.faults
