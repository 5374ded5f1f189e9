-- What a run leaves that was asked to fix an array.
use Rattle.std.specs.Prelude.{◌≡◌, ℕ, ◌<◌, List, ◌++◌, length, Bool, false, IsTrue, count_by, sum_by}
use Rattle.cauchy.specs.Matrix.{byte_of}
use Rattle.disk_model.specs.Cause.{Rose, RoseBy}
use Rattle.disk_model.specs.Vault.{Holds}
use Rattle.file_table.specs.declared.block.Cell.{Cell}
use Rattle.parity_writer.specs.Sound.{Sound, Closed}
use Rattle.stripe_examiner.specs.Counts.{at_most}
use Rattle.snap_fix.specs.Ending.{Finishes}
use Rattle.snap_fix.specs.FixCourse.{fix_events}
use Rattle.snap_fix.specs.Fixing.{facts_of}
use Rattle.stripe_examiner.specs.Facts.{StripeFacts}
use Rattle.snap_fix.specs.Genuine.{AreGenuine, held_row}
use Rattle.stripe_examiner.specs.Looking.{unread_cells, unread_in}
use Rattle.snap_fix.specs.Mended.{has_lost, wrong_in, written_in}
use Rattle.repair_scope.specs.Plan.{entry_at}
use Rattle.stripe_examiner.specs.Place.{starts_of}
use Rattle.snap_fix.specs.Restored.{CanBeHad, HasFixed, HoldsCell}
use Rattle.snap_fix.specs.Underway.{AddsZeros, IsMendedLevel}
use Rattle.snap_report.specs.EndLines.{fix_text}
use Rattle.snap_report.specs.EventLines.{lines_of}
use Rattle.snap_report.specs.Kind.{is_left}
use Rattle.snap_report.specs.Telling.{Tells, between}
use Rattle.snap_report.specs.declared.events.Event.{Event}
use Rattle.stripe_reader.specs.Columns.{folder_at}
use Rattle.snap_top.specs.Output.{IsEndStatus}
use Rattle.snap_top.specs.Fix.{FixRun, LeavesFixed, MayStandFixed}
use Rattle.snap_top.specs.Lost.{IsDamagedOfSynced, NamesLost, NamesPending}
use Rattle.snap_top.specs.Began.{IsFixOf}
use Rattle.snap_top.specs.Entry.{Entry, Exit}

-- all events of a fix
abbrev pub events_in : FixRun → Finishes → List Event
events_in run finishes = fix_events run.plan run.stripes finishes

-- Where no hash is met by chance: a selected damaged cell of a synced stripe, of a record that isn't blocked, has the
-- snapshot's block, at its real length, where that can be had: where no more cells of its stripe are missing than levels are
-- intact, or it was given. It stands under PATH, or under PATH`.unrecoverable` where its record has a lost block. Such a
-- cell, also of a blocked record, is told to be lost exactly where its block can't be had.
pub record Restores (run : FixRun) (finishes : Finishes) (snapshot : Closed) : Type 0 where
  pub restored : (facts : StripeFacts) (d : ℕ) (cell : Cell) (is_intact : ℕ → Bool)
      → IsDamagedOfSynced run.plan (facts_of run.stripes) snapshot facts d cell is_intact
      → (entry_at run.plan d cell.rec).blocked ≡ false → CanBeHad run.plan facts is_intact d
      → HoldsCell run.plan.table d cell (has_lost run.plan run.stripes d cell.rec) (byte_of (held_row run.plan.table snapshot facts.stripe) d)
      (folder_at run.ended d).tree
  pub named : NamesLost run.plan (facts_of run.stripes) snapshot (events_in run finishes)

-- A fix that went to its end: it looked at all stripes with something selected, and what it did to the files is what follows of that. What it could
-- not read was counted as a fault. Its selected wrong levels hold the sums of the rows that are known, also in each image; its copies and all other bytes
-- of its levels stay. It printed all lines, or a prefix where the output failed; its status is 0 exactly where that did not and nothing is left.
-- Each selected damaged cell of a pending stripe is told to be lost. Where the table that it began with was sound, and no hash is met by
-- chance, it restores the snapshot's blocks. A failure of the output is counted, and changes nothing else of this.
pub record EndsFixed (before : Entry) (exit : Exit) (status : ℕ) : Type 0 where
  pub run : FixRun
  pub is_fix : IsFixOf before exit run
  pub tells : IsTrue exit.after.vault.tells
  pub finishes : Finishes
  pub fixed : HasFixed run.plan (starts_of run.loaded run.lists) run.stripes finishes run.listed run.ended
  pub unread : (d : ℕ) → d < length run.plan.table.columns
      → RoseBy (unread_cells d (facts_of run.stripes)) (folder_at run.folders d).faults (folder_at run.ended d).faults
  pub unread_levels : RoseBy (unread_in run.readings) before.opener.vault.faults exit.after.vault.faults
  pub moment : MayStandFixed run before.opener.vault.files exit.after.vault.files
  pub leaves : Holds (LeavesFixed run) exit.after.vault
  pub zeros : AddsZeros run.plan.table.shape.block_size (IsMendedLevel run.plan (facts_of run.stripes)) before.opener.vault.files exit.after.vault.files
  pub output_failed : Bool
  pub printed : Tells (lines_of run.loaded.columns (events_in run finishes)
      ++ fix_text (at_most (sum_by (written_in run.plan) run.stripes)) (at_most (sum_by (wrong_in run.plan) run.stripes)) (at_most (count_by is_left (events_in run finishes))))
      (between false before.out) (between output_failed exit.after.out)
  pub status_is : IsEndStatus status output_failed (count_by is_left (events_in run finishes) ≡ 0)
  pub output : IsTrue output_failed → Rose before.out.faults exit.after.out.faults
  pub pending : NamesPending run.plan (facts_of run.stripes) (events_in run finishes)
  pub restores : (snapshot : Closed) (is_changed : ℕ → ℕ → Bool)
      → Sound run.loaded before.opener.vault.files snapshot is_changed
      → AreGenuine run.plan (held_row run.plan.table snapshot) (facts_of run.stripes) → Restores run finishes snapshot
