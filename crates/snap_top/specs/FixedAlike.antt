-- Two fixes of one array: they print, find and restore the same.
use Rattle.std.specs.Prelude.{◌≡◌, ◌≢◌, ℕ, ◌<◌, List, length, map, Bool, true, false, Option, None, Some, IsTrue}
use Rattle.disk_model.specs.Files.{Files, parity_of}
use Rattle.disk_model.specs.Tree.{Tree, File, file_of, path_of}
use Rattle.file_restorer.specs.State.{record_path}
use Rattle.file_table.specs.Table.{record_at, records_in}
use Rattle.snap_fix.specs.Ending.{Finishes, is_finished}
use Rattle.snap_fix.specs.Fixing.{facts_of}
use Rattle.snap_fix.specs.Mended.{has_lost}
use Rattle.stripe_examiner.specs.Facts.{StripeFacts}
use Rattle.stripe_reader.specs.Columns.{folder_at}
use Rattle.snap_top.specs.Alike.{SeenAlike, seen_by}
use Rattle.snap_top.specs.Fix.{FixRun}
use Rattle.snap_top.specs.Restoring.{events_in}
use Rattle.snap_top.specs.Entry.{Entry, Exit}

-- the folders of two runs keep the same stamps
abbrev pub KeepStampsAlike : Entry → Entry → Type 0
KeepStampsAlike one other = (d : ℕ) → (folder_at one.opener.folders d).keeps ≡ (folder_at other.opener.folders d).keeps

-- the bytes of a file, where there is one
abbrev pub bytes_in : Option File → Option (List ℕ)
bytes_in None = None
bytes_in (Some file) = Some file.bytes

-- two trees have files with the same bytes under the same names
abbrev pub HaveSameBytes : Tree → Tree → Type 0
HaveSameBytes tree other = (name : List ℕ) → bytes_in (file_of tree name) ≡ bytes_in (file_of other name)

-- the copies of two vaults are the same, and so is each level
pub record HaveSameFiles (files others : Files) : Type 0 where
  pub contents : files.contents ≡ others.contents
  pub parity : (level : ℕ) → parity_of files level ≡ parity_of others level

-- a name of no finished file with a lost block
abbrev pub IsNoLostName : FixRun → ℕ → List ℕ → Type 0
IsNoLostName run d name = (i : ℕ) (lost : Bool) → i < length (records_in run.plan.table d) → is_finished run.plan d i ≡ true
    → has_lost run.plan run.stripes d i ≡ true → path_of (record_path (records_in run.plan.table d) i) lost ≢ name

-- the folder keeps the recorded stamp of each finished file that has this path
abbrev pub KeepsStampUnder : FixRun → ℕ → List ℕ → Type 0
KeepsStampUnder run d name = (i : ℕ) → i < length (records_in run.plan.table d) → is_finished run.plan d i ≡ true
    → path_of (record_path (records_in run.plan.table d) i) false ≡ name → IsTrue ((folder_at run.folders d).keeps (record_at run.plan.table.columns d i).meta.stamp)

-- Two fixes began with the same table, saw the same blocks and know the same rows. They told the same, and leave the same bytes: under each name of each
-- folder, and in each copy and level of the vault. They leave the same files, with their stamps, but finished ones with a lost block, and those
-- whose recorded stamp the folder does not keep.
pub record FixesAlike (one other : FixRun) (finishes finishes_then : Finishes) (exit exit_then : Exit) : Type 0 where
  pub loaded : one.loaded ≡ other.loaded
  pub seen : SeenAlike (seen_by one) (seen_by other)
  pub rows : map (λ (facts : StripeFacts). facts.row) (facts_of one.stripes)
      ≡ map (λ (facts : StripeFacts). facts.row) (facts_of other.stripes)
  pub events : events_in one finishes ≡ events_in other finishes_then
  pub folders : (d : ℕ) → d < length one.loaded.columns
      → HaveSameBytes (folder_at exit.after.folders d).tree (folder_at exit_then.after.folders d).tree
  pub whole : (d : ℕ) (name : List ℕ) → d < length one.loaded.columns → KeepsStampUnder one d name → IsNoLostName one d name
      → file_of (folder_at exit.after.folders d).tree name ≡ file_of (folder_at exit_then.after.folders d).tree name
  pub vault : HaveSameFiles exit.after.vault.files exit_then.after.vault.files
