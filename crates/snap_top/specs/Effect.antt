-- What a command does to an array, and what is promised of that: one value for a run that only reads, one for a sync, for a fix and for a scrub.
-- All that is said of every run goes by these values. A further command is one more variant of `Did`, and one more value.
use Rattle.std.specs.Prelude.{◌≡◌, ℕ, List, [], length, Bool, true, false, not}
use Rattle.disk_model.specs.Cause.{Rose}
use Rattle.disk_model.specs.Files.{Files, Stays}
use Rattle.disk_model.specs.Folder.{FolderView}
use Rattle.disk_model.specs.Tree.{Tree}
use Rattle.disk_model.specs.Vault.{VaultState}
use Rattle.file_table.specs.Table.{Column, TableValue}
use Rattle.parity_writer.specs.Parity.{Rows, no_rows}
use Rattle.parity_writer.specs.Sound.{Closed}
use Rattle.snap_fix.specs.Fixing.{facts_of}
use Rattle.snap_fix.specs.Genuine.{AreGenuine, held_row}
use Rattle.snap_sync.specs.Images.{MayStand, StandsBy, rows_after}
use Rattle.snap_sync.specs.Part.{AllTell, AreOfPartSyncs, SyncRun, layout_by, run_trees}
use Rattle.snap_top.specs.Began.{IsFixOf, IsScrubOf, IsSyncOf}
use Rattle.snap_top.specs.Did.{Did, fixes, reads_only, scrubs, syncs}
use Rattle.snap_top.specs.Entry.{Entry, Exit}
use Rattle.snap_top.specs.Fix.{AllFixed, FixRun, IsGenuineFix, LeavesFixed, MayStandFixed}
use Rattle.snap_top.specs.InPart.{EndsInPart}
use Rattle.snap_top.specs.Loading.{ReadsWell}
use Rattle.snap_top.specs.Restoring.{EndsFixed}
use Rattle.snap_top.specs.Scrub.{LeavesMarked, MayStandMarked, ScrubRun}
use Rattle.snap_top.specs.Scrubbed.{EndsScrubbed}
use Rattle.snap_top.specs.SoundAtEnd.{IsSoundAtEnd}
use Rattle.snap_top.specs.Spared.{SparesRest}
use Rattle.snap_top.specs.Sync.{LeavesSynced}
use Rattle.snap_top.specs.Views.{AllReadOnly, KeepsBy, World}

-- What a run did: to files, copies, folders and the vault; what it told by; what it closed; what is supposed of it; and what it was and leaves.
pub record Effect : Type 1 where
  -- whenever the run is stopped, each image comes by this from one that there was before it
  pub may_stand : Files → Files → Type 0
  -- what stands at its end besides, as it reads and in each image, by the files at its beginning
  pub stands_after : Files → Files → Type 0
  -- what so many copies hold at a moment of it, by the files at its beginning and then
  pub copies_are : ℕ → Files → Files → Type 0
  -- what it did to the folders, and whether it writes files of them: if not, their trees stay
  pub folders_after : List FolderView → List FolderView → Type 0
  pub writes_files : Bool
  -- what it did to the vault's count of writing calls
  pub vault_after : VaultState → VaultState → Type 0
  -- the columns that give the names in the lines of its events, by the table that it began with
  pub told_columns : TableValue → List Column
  -- it did more than to read, and did not break off in that
  pub has_ended : Bool
  -- how many stripes it read so as to close them; the rows that it has closed once it read so many, and how many levels of these it writes
  pub stripes_read : ℕ
  pub rows_closed : ℕ → Rows
  pub levels_closed : ℕ
  -- so many of the stripes that it read have their rows in parity, by the files at its beginning and then
  pub has_closed : ℕ → Files → Files → Type 0
  -- no block that it met has a recorded hash by chance, by the rows that were synced
  pub meets_no_chance : Closed → Type 0
  -- what soundness rests on besides, of so many copies, by the files at its beginning and the rows that were synced
  pub supposes : ℕ → Files → Closed → Type 0
  -- this is what a run did, by the configuration that was asked for, over what its opener held
  pub is_of : Entry → Exit → Type 0
  -- no reading of a copy failed while the table was loaded that it worked by
  pub loads_well : (before : Entry) (exit : Exit) → is_of before exit → Type 0
  -- where it broke off, it did so after that table was loaded
  pub breaks_behind : (before : Entry) (exit : Exit) → is_of before exit → Type 0
  -- what it left at its end is sound with the rows of all that it closed, if it did not break off
  pub sound_at_end : Entry → Exit → ℕ → Type 0
  -- what it leaves that did not break off
  pub ends : Entry → Exit → ℕ → Type 0
  -- what it leaves alone of the trees and of the vault's files, wherever it is stopped
  pub spares : List Tree → List Tree → Files → Files → Type 0

-- where a run did not break off, and where it did
abbrev pub IfWhole : (failed : Bool) → Type 0 → Type 0
IfWhole true P = Unit {0}
IfWhole false P = P

abbrev pub IfBroke : (failed : Bool) → Type 0 → Type 0
IfBroke true P = P
IfBroke false P = Unit {0}

-- it only read: all stays, and it closes nothing
abbrev pub reading : Effect
reading = record {
  may_stand = Stays;
  stands_after = λ old new. Unit {0};
  copies_are = λ copies old new. new ≡ old;
  folders_after = AllReadOnly;
  writes_files = false;
  vault_after = λ old new. new.writes ≡ old.writes;
  told_columns = λ table. table.columns;
  has_ended = false;
  stripes_read = 0;
  rows_closed = λ count. no_rows;
  levels_closed = 0;
  has_closed = λ count old new. count ≡ 0;
  meets_no_chance = λ snapshot. Unit {0};
  supposes = λ copies files snapshot. Unit {0};
  is_of = λ before exit. Unit {0};
  loads_well = λ before exit is. Unit {0};
  breaks_behind = λ before exit is. Unit {0};
  sound_at_end = λ before exit status. Unit {0};
  ends = λ before exit status. Unit {0};
  spares = λ trees left old new. Unit {0};
}

-- A sync closes the stripes that it read and verified. Its copies hold the table of a part sync of what was laid out, where the folders tell
-- their trees, or what they held. Its lines give names by what it laid out.
abbrev pub syncing : Bool → SyncRun → Effect
syncing failed run = record reading {
  may_stand = MayStand run.plan run.readings;
  stands_after = λ old new. IfWhole failed (LeavesSynced run old new);
  copies_are = λ copies old new. AllTell run.folders
      → AreOfPartSyncs (layout_by run.setup run.loaded (run_trees run)) (run_trees run) run.plan.now copies old new;
  vault_after = λ old new. Unit {0};
  told_columns = λ table. run.plan.start.columns;
  has_ended = not failed;
  stripes_read = length run.readings;
  rows_closed = λ count. rows_after run.plan run.readings count;
  levels_closed = run.plan.start.shape.levels;
  has_closed = λ count old new. StandsBy run.plan run.readings count old new;
  is_of = λ before exit. IsSyncOf before exit run;
  loads_well = λ before exit is. ReadsWell before is.loading.at;
  breaks_behind = λ before exit is. IfBroke failed (Rose is.loading.at.faults exit.after.vault.faults);
  sound_at_end = λ before exit status. IfWhole failed ((ends : IsSoundAtEnd before exit status) × (ends.run ≡ run));
  ends = λ before exit status. AllTell before.opener.folders → (ends : EndsInPart before exit status) × (ends.run ≡ run);
}

-- A fix leaves the copies, and closes nothing. It supposes that no hash was met by chance, and that all content files have blocks of its size.
abbrev pub fixing : Bool → FixRun → Effect
fixing failed run = record reading {
  may_stand = MayStandFixed run;
  stands_after = λ old new. IfWhole failed (LeavesFixed run new);
  copies_are = λ copies old new. new.contents ≡ old.contents;
  folders_after = AllFixed run;
  writes_files = true;
  vault_after = λ old new. Unit {0};
  has_ended = not failed;
  meets_no_chance = λ snapshot. AreGenuine run.plan (held_row run.plan.table snapshot) (facts_of run.stripes);
  supposes = λ copies files snapshot. IsGenuineFix run copies files snapshot;
  is_of = λ before exit. IsFixOf before exit run;
  loads_well = λ before exit is. ReadsWell before is.loading.at;
  breaks_behind = λ before exit is. Unit {0};
  ends = λ before exit status. AllTell before.opener.folders → (ends : EndsFixed before exit status) × (ends.run ≡ run);
  spares = λ trees left old new. SparesRest run trees left old new;
}

-- A scrub leaves each copy as it was, or with the table of its marks; one that read no stripe makes no writing call.
abbrev pub scrubbing : Bool → ScrubRun → Effect
scrubbing failed run = record reading {
  may_stand = MayStandMarked run;
  stands_after = λ old new. IfWhole failed (LeavesMarked run new);
  copies_are = λ copies old new. MayStandMarked run old new;
  vault_after = λ old new. run.readings ≡ [] → new.writes ≡ old.writes;
  has_ended = not failed;
  is_of = λ before exit. IsScrubOf before exit run;
  loads_well = λ before exit is. ReadsWell before is.loading.at;
  breaks_behind = λ before exit is. Unit {0};
  ends = λ before exit status. (ends : EndsScrubbed before exit status) × (ends.run ≡ run);
}

abbrev pub effect : Did → Effect
effect reads_only = reading
effect (syncs failed run) = syncing failed run
effect (fixes failed run) = fixing failed run
effect (scrubs failed run) = scrubbing failed run

-- what stays whatever was done, and what only grows
abbrev pub Keeps : Did → World → World → Type 0
Keeps did = KeepsBy (effect did).folders_after (effect did).vault_after
