-- What a fix did to the files of a column's records, and what its folder holds then.
use Rattle.std.specs.Prelude.{◌≡◌, ◌≢◌, ◌⊎◌, ℕ, ◌+◌, ◌<◌, max, List, [], ◌∷◌, ◌++◌, length, get_or, slice_index_or, Bool, true, false, Option, None, Some, IsTrue, All, map}
use Rattle.std.specs.List.{list_any}
use Rattle.disk_model.specs.Answer.{is_missing}
use Rattle.disk_model.specs.Bytes.{put}
use Rattle.disk_model.specs.Folder.{FolderView, FolderCall, FolderDone, FolderGoesOn}
use Rattle.disk_model.specs.Stopped.{MayBeLeft}
use Rattle.disk_model.specs.Tree.{Tree, File, IsTree, file_of, path_of}
use Rattle.disk_model.specs.declared.answer.Answer.TheVariants.{Missing}
use Rattle.file_table.specs.Table.{Record, no_record}
use Rattle.snap_report.specs.Answer.{broke_folder}
use Rattle.stripe_reader.specs.Starts.{StartsValue, no_start, start_in, starts_at}
use Rattle.stripe_reader.specs.declared.starts.Start.{Start}
use Rattle.stripe_reader.specs.declared.starts.Place.{Place}
use Rattle.stripe_reader.specs.declared.starts.Place.TheVariants.{Plain, Lost, Nowhere}
use Rattle.file_restorer.specs.declared.state.FileState.{FileState}

abbrev pub no_state : FileState
no_state = record { lost = false; touched = false; size = 0 }

abbrev pub state_in : List (List FileState) → ℕ → ℕ → FileState
state_in states d i = slice_index_or (get_or states d []) i no_state

-- when a fix begins: nothing is lost or touched, and each file has the size that it was listed with
abbrev pub first_state : Start → FileState
first_state start = record { lost = false; touched = false; size = start.size }

abbrev pub first_states : StartsValue → List (List FileState)
first_states starts = map (λ (column : List Start). map first_state column) starts.columns

-- ---- what was written to a file

-- one write: a place, and the bytes from there on
pub record Write : Type 0 where
  pub at : ℕ
  pub bytes : List ℕ

-- something was written
abbrev pub has_some : List Write → Bool
has_some [] = false
has_some (write ∷ writes) = true

-- the bytes of a file after some writes, one after another
abbrev pub puts : List ℕ → List Write → List ℕ
puts file [] = file
puts file (write ∷ writes) = puts (put file write.at write.bytes) writes

-- the length of a file of a length after some writes
abbrev pub size_after : ℕ → List Write → ℕ
size_after size [] = size
size_after size (write ∷ writes) = size_after (max size (write.at + length write.bytes)) writes

-- the bytes that stood in the place of a record: under PATH, else under PATH`.unrecoverable`, else none
abbrev pub bytes_or : Option File → List ℕ → List ℕ
bytes_or None others = others
bytes_or (Some file) others = file.bytes

abbrev pub bytes_placed : Tree → List ℕ → List ℕ
bytes_placed tree path = bytes_or (file_of tree (path_of path false)) (bytes_or (file_of tree (path_of path true)) [])

-- the place where the file of a record stood
abbrev pub place_by : Option File → Option File → Place
place_by (Some file) other = Plain
place_by None (Some file) = Lost
place_by None None = Nowhere

abbrev pub place_in : Tree → List ℕ → Place
place_in tree path = place_by (file_of tree (path_of path false)) (file_of tree (path_of path true))

-- where a file that was touched is looked for: it was renamed back, or it is not looked for where there was none
abbrev pub place_then : Place → Place
place_then Plain = Plain
place_then Lost = Plain
place_then Nowhere = Nowhere

-- the file under PATH`.unrecoverable` after PATH was touched: it is gone where it was renamed
abbrev pub lost_then : Place → Option File → Option File
lost_then Plain file = file
lost_then Lost file = None
lost_then Nowhere file = None

-- Nothing was done to the file of a record.
pub record IsUntouched (start : Start) (state : FileState) (writes : List Write) (path : List ℕ) (first later : Tree) : Type 0 where
  pub none : writes ≡ []
  pub place : start.place ≡ place_in first path
  pub same : (lost : Bool) → file_of later (path_of path lost) ≡ file_of first (path_of path lost)

-- Its file stands under PATH, with what was written to it.
pub record IsTouched (start : Start) (state : FileState) (writes : List Write) (path : List ℕ) (first later : Tree) : Type 0 where
  pub place : start.place ≡ place_then (place_in first path)
  pub file : File
  pub there : file_of later (path_of path false) ≡ Some file
  pub bytes : file.bytes ≡ puts (bytes_placed first path) writes
  pub lost : file_of later (path_of path true) ≡ lost_then (place_in first path) (file_of first (path_of path true))

-- What the folder of a record holds of it, while a fix writes blocks.
abbrev pub HoldsBy : Bool → Start → FileState → List Write → List ℕ → Tree → Tree → Type 0
HoldsBy false = IsUntouched
HoldsBy true = IsTouched

pub record HoldsRecord (start : Start) (state : FileState) (writes : List Write) (path : List ℕ) (first later : Tree) : Type 0 where
  pub holds : HoldsBy state.touched start state writes path first later
  pub size : state.size ≡ length (puts (bytes_placed first path) writes)

-- ---- of a column

abbrev pub record_path : List Record → ℕ → List ℕ
record_path records i = (slice_index_or records i no_record).path

-- the path is one of the two names of a record
abbrev pub IsNameOf : List Record → List ℕ → Type 0
IsNameOf records name = (i : ℕ) × (lost : Bool) × (i < length records) × (name ≡ path_of (record_path records i) lost)

-- What the folder of a column holds, while a fix writes blocks: of each record by what was written to it, and of each other
-- name what it held at first. A file that was not there at first stands under the path of a record.
pub record HoldsColumn (records : List Record) (starts : List Start) (states : List FileState) (writes : List (List Write))
    (first later : Tree) : Type 0 where
  pub starts_are : length starts ≡ length records
  pub states_are : length states ≡ length records
  pub writes_are : length writes ≡ length records
  pub each : (i : ℕ) → i < length records
      → HoldsRecord (slice_index_or starts i no_start) (slice_index_or states i no_state) (get_or writes i [])
      (record_path records i) first later
  pub others : (name : List ℕ) → ¬ (IsNameOf records name) → file_of later name ≡ file_of first name

-- the same, as far as the folder tells its files
abbrev pub HoldsTold : List Record → List Start → List FileState → List (List Write) → FolderView → FolderView → Type 0
HoldsTold records starts states writes first later = IsTrue first.tells → HoldsColumn records starts states writes first.tree later.tree

-- such a call, whether or not it failed; and one that did not fail, or only reads
abbrev pub AnyCall : (FolderCall → Type 0) → FolderDone → Type 0
AnyCall P done = P done.call

abbrev pub WellCall : (FolderCall → Type 0) → FolderDone → Type 0
WellCall P done = P done.call × (broke_folder done ≡ false)

-- Only such calls were made of a folder. Where it tells its files, what it holds then is among what a stop within these calls may leave.
pub record FolderMakes (P : FolderDone → Type 0) (old new : FolderView) : Type 0 where
  pub done : List FolderDone
  pub each : All P done
  pub goes_on : FolderGoesOn old new done
  pub left : IsTrue old.tells → IsTree old.tree → MayBeLeft old.keeps done old.tree new.tree

-- one of these calls found no file
abbrev pub has_missing : List FolderDone → Bool
has_missing done = list_any (λ (one : FolderDone). is_missing one.answer) done

-- which calls were made
abbrev pub calls_made : List FolderDone → List FolderCall
calls_made done = map (λ (one : FolderDone). one.call) done

-- Of these calls the first ones were made, in this order, and the last that was made is the only one that found no file.
pub record StopsAtMissing (calls : List FolderCall) (done : List FolderDone) : Type 0 where
  pub front : List FolderDone
  pub found : has_missing front ≡ false
  pub call : FolderCall
  pub rest : List FolderCall
  pub calls_are : calls ≡ calls_made front ++ call ∷ rest
  pub done_is : done ≡ front ++ record { call = call; answer = Missing } ∷ []

-- Such calls, of which none failed, and one found no file or none did. Where none did, they are just these, in this order. Where one
-- did, they are these up to that one.
pub record AreStepCalls (P : FolderCall → Type 0) (calls : List FolderCall) (missing : Bool) (done : List FolderDone) : Type 0 where
  pub each : All (WellCall P) done
  pub found : has_missing done ≡ missing
  pub just : missing ≡ false → calls_made done ≡ calls
  pub stops : missing ≡ true → StopsAtMissing calls done

-- Calls of which this holds were made of a folder. Where it tells its files, what it holds then is among what a stop
-- within these calls may leave.
pub record FolderMakesBy (P : List FolderDone → Type 0) (old new : FolderView) : Type 0 where
  pub done : List FolderDone
  pub are : P done
  pub goes_on : FolderGoesOn old new done
  pub left : IsTrue old.tells → IsTree old.tree → MayBeLeft old.keeps done old.tree new.tree

-- a step on a file was made by such calls: just these where each found its file, and else these up to the one that found none
abbrev pub StepMakes : (FolderCall → Type 0) → List FolderCall → Bool → FolderView → FolderView → Type 0
StepMakes P calls missing old new = FolderMakesBy (AreStepCalls P calls missing) old new

-- each name but the two of this path holds what it held
abbrev pub OthersStay : List ℕ → Tree → Tree → Type 0
OthersStay path before later = (name : List ℕ) → ((lost : Bool) → name ≢ path_of path lost) → file_of later name ≡ file_of before name

-- a file stands under the path of a record: by its place, and by whether a call of this run changed it
abbrev pub stands : Place → Bool → Bool
stands Plain touched = true
stands Lost touched = false
stands Nowhere touched = touched

-- ---- where files are looked for

-- a place stays, or the file that had the other name is looked for under PATH
abbrev pub StaysPlace : Place → Place → Type 0
StaysPlace before after = (after ≡ before) ⊎ ((before ≡ Lost) × (after ≡ Plain))

-- Each start keeps its size and, but for files that were renamed back, its place.
abbrev pub KeepsStarts : StartsValue → StartsValue → Type 0
KeepsStarts before after = (d i : ℕ)
    → ((start_in (starts_at after.columns d) i).size ≡ (start_in (starts_at before.columns d) i).size)
    × StaysPlace (start_in (starts_at before.columns d) i).place (start_in (starts_at after.columns d) i).place
