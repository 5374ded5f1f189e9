-- What a run leaves that was asked to scrub an array.
use Rattle.std.specs.Prelude.{◌≡◌, ◌≢◌, ℕ, List, [], ◌++◌, ◌<◌, length, Bool, false, IsTrue, sum_by}
use Rattle.content_file.specs.Save.{HasSaved}
use Rattle.content_file.specs.Spelling.{spelling}
use Rattle.disk_model.specs.Cause.{Rose, RoseBy}
use Rattle.disk_model.specs.Vault.{Holds, copies_of}
use Rattle.snap_report.specs.EndLines.{scrub_text}
use Rattle.snap_report.specs.EventLines.{lines_of}
use Rattle.snap_report.specs.Telling.{Tells, between}
use Rattle.snap_report.specs.declared.events.Event.{Event}
use Rattle.snap_scrub.specs.Findings.{events_of}
use Rattle.snap_scrub.specs.Marks.{at_most}
use Rattle.snap_scrub.specs.Plan.{plan_of}
use Rattle.snap_scrub.specs.Reading.{cells_of, unread_levels}
use Rattle.snap_sync.specs.Part.{AllTell, NoneRose, readings_by, trees_of}
use Rattle.stripe_findings.specs.Reading.{unread_cells}
use Rattle.stripe_reader.specs.Columns.{folder_at}
use Rattle.snap_top.specs.Output.{IsEndStatus}
use Rattle.snap_top.specs.Began.{IsScrubOf}
use Rattle.snap_top.specs.Entry.{Entry, Exit}
use Rattle.snap_top.specs.Scrub.{MayStandMarked, ScrubRun, marked_table}

-- all that a scrub found
abbrev pub events_scrubbed : ScrubRun → List Event
events_scrubbed run = events_of run.loaded run.readings

-- A scrub that went to its end: it read just the stripes of its plan (`ScrubsOver`). Where the folders tell what they hold, and the count of
-- faults of none rose, this gave what the trees hold. Each cell and each level that it could not read was counted as a fault. Where a stripe was read, every copy
-- spells the table with the marks, as the vault reads and in each image; parity stays. It printed all lines, or a prefix where the
-- output failed; its status is 0 exactly where that did not and nothing was found. A failure of the output is counted, and changes
-- nothing else of this.
pub record EndsScrubbed (before : Entry) (exit : Exit) (status : ℕ) : Type 0 where
  pub run : ScrubRun
  pub is_scrub : IsScrubOf before exit run
  pub given : AllTell run.folders → NoneRose run.folders exit.after.folders
      → cells_of run.readings ≡ readings_by run.loaded (trees_of run.folders) (plan_of run.loaded run.way run.now)
  pub unread_cells_of : (d : ℕ) → d < length run.loaded.columns
      → RoseBy (unread_cells d (cells_of run.readings)) (folder_at run.folders d).faults (folder_at run.ended d).faults
  pub unread_levels_of : RoseBy (sum_by unread_levels run.readings) before.opener.vault.faults exit.after.vault.faults
  pub moment : MayStandMarked run before.opener.vault.files exit.after.vault.files
  pub saved : run.readings ≢ [] → Holds (HasSaved (copies_of before.opener.vault) (spelling (marked_table run))) exit.after.vault
  pub output_failed : Bool
  pub printed : Tells
      (lines_of run.loaded.columns (events_scrubbed run) ++ scrub_text (length run.readings) (at_most (length (events_scrubbed run))))
      (between false before.out) (between output_failed exit.after.out)
  pub status_is : IsEndStatus status output_failed (events_scrubbed run ≡ [])
  pub output : IsTrue output_failed → Rose before.out.faults exit.after.out.faults
