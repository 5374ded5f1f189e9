-- A block of a file is written anew.
use Rattle.std.specs.Prelude.{◌≡◌, ◌≢◌, ◌⊎◌, ℕ, ◌*◌, ◌<◌, List, [], ◌∷◌, ◌++◌, length, get_or, slice_set, Bool, true, false, not, if◌then◌else◌, None, IsTrue}
use Rattle.disk_model.specs.Folder.{FolderView, FolderCall, Make, WriteAt, Rename, MayHold}
use Rattle.disk_model.specs.Tree.{Tree, file_of, path_of, is_directory_of, IsApart, IsTree}
use Rattle.disk_model.specs.declared.fault.FileFault.{FileFault}
use Rattle.disk_model.specs.declared.fault.FileFault.TheVariants.{Failed, Missing}
use Rattle.file_table.specs.Table.{TableValue, record_at, records_in}
use Rattle.file_table.specs.declared.block.Cell.{Cell}
use Rattle.stripe_reader.specs.Reading.{block_length}
use Rattle.stripe_reader.specs.Starts.{StartsValue, StartsFit, starts_at, start_in}
use Rattle.stripe_reader.specs.declared.starts.Start.{Start}
use Rattle.stripe_reader.specs.declared.starts.Place.{Place}
use Rattle.stripe_reader.specs.declared.starts.Place.TheVariants.{Lost, Nowhere}
use Rattle.file_restorer.specs.declared.state.FileState.{FileState}
use Rattle.file_restorer.specs.Breaking.{StepFails}
use Rattle.file_restorer.specs.Order.{FolderWrites, block_calls, put_calls}
use Rattle.file_restorer.specs.State.{Write, HoldsRecord, HoldsColumn, HoldsTold, OthersStay, StaysPlace, StepMakes, record_path, size_after, state_in, stands}

-- there is a state for each record of each column
pub record StatesFit (table : TableValue) (states : List (List FileState)) : Type 0 where
  pub columns : length states ≡ length table.columns
  pub records : (d : ℕ) → d < length table.columns → length (get_or states d []) ≡ length (records_in table d)

-- A file may stand under PATH, and under PATH`.unrecoverable`, as far as the other files go.
pub record IsFree (tree : Tree) (path : List ℕ) : Type 0 where
  pub plain : (file_of tree path ≢ None) ⊎ IsApart tree path
  pub lost : (name : List ℕ) → file_of tree name ≢ None → is_directory_of (path_of path true) name ≡ false

-- where the block of a cell begins in its file, and the name of that
abbrev pub block_start : TableValue → Cell → ℕ
block_start table cell = cell.index * table.shape.block_size

abbrev pub cell_path : TableValue → ℕ → Cell → List ℕ
cell_path table d cell = record_path (records_in table d) cell.rec

-- what was written to the files of a column, with one more write to the file of a record
abbrev pub with_write : List (List Write) → ℕ → Write → List (List Write)
with_write writes i write = slice_set writes i (get_or writes i [] ++ write ∷ [])

abbrev pub mended_writes : TableValue → Cell → List ℕ → Bool → List (List Write) → List (List Write)
mended_writes table cell bytes written writes =
    if written then with_write writes cell.rec (record { at = block_start table cell; bytes = bytes }) else writes

-- starts with another place of one record, and states with another state of one
abbrev pub with_place : StartsValue → ℕ → ℕ → Place → StartsValue
with_place starts d i place =
    let column = starts_at starts.columns d in
    record { columns = slice_set starts.columns d (slice_set column i (record { place = place; size = (start_in column i).size })) }

abbrev pub with_state : List (List FileState) → ℕ → ℕ → FileState → List (List FileState)
with_state states d i state = slice_set states d (slice_set (get_or states d []) i state)

-- the calls that a block takes: its file is renamed back if it stood under the other name, or made if there was none, and written
abbrev pub IsSetUpCall : Place → List ℕ → FolderCall → Type 0
IsSetUpCall place path call =
    ((place ≡ Lost) × (call ≡ Rename path false)) ⊎ ((place ≡ Nowhere) × (call ≡ Make path))

abbrev pub IsBlockCall : Place → List ℕ → ℕ → List ℕ → FolderCall → Type 0
IsBlockCall place path at bytes call = (call ≡ WriteAt path at bytes) ⊎ IsSetUpCall place path call

-- ---- of one record

-- what was written to the file of a record so far
pub record IsWrittenSoFar (path : List ℕ) (start : Start) (state : FileState) (tree : Tree) : Type 0 where
  pub first : Tree
  pub writes : List Write
  pub holds : HoldsRecord start state writes path first tree

-- The file of a record can be put under PATH: it stands there, or may stand there, and it is as it was written so far.
pub record CanSetUp (path : List ℕ) (start : Start) (state : FileState) (folder : FolderView) : Type 0 where
  pub may : stands start.place state.touched ≡ false → MayHold folder path
  pub so_far : IsTrue folder.tells → IsWrittenSoFar path start state folder.tree

-- Such calls were made: just these where each found its file, and else these up to the one that found none. What the folder holds
-- of the record goes on by these writes. All other names hold what they held.
pub record GoesOnBy (P : FolderCall → Type 0) (calls : List FolderCall) (missing : Bool) (added : List Write) (path : List ℕ)
    (start : Start) (state : FileState) (folder : FolderView) (start_new : Start) (state_new : FileState) (folder_new : FolderView) : Type 0 where
  pub makes : StepMakes P calls missing folder folder_new
  pub same_size : start_new.size ≡ start.size
  pub stood : StaysPlace start.place start_new.place
  pub size : state_new.size ≡ size_after state.size added
  pub same_lost : state_new.lost ≡ state.lost
  pub stays_touched : state.touched ≡ true → state_new.touched ≡ true
  pub holds : IsTrue folder.tells → (first : Tree) (writes : List Write)
      → HoldsRecord start state writes path first folder.tree → HoldsRecord start_new state_new (writes ++ added) path first folder_new.tree
  pub others : IsTrue folder.tells → OthersStay path folder.tree folder_new.tree

-- Its file stands under PATH, and nothing was written to it.
pub record SetsUp (path : List ℕ) (start : Start) (state : FileState) (folder : FolderView)
    (start_new : Start) (state_new : FileState) (folder_new : FolderView) : Type 0 where
  pub goes_on : GoesOnBy (IsSetUpCall start.place path) (put_calls start.place state.touched path) false [] path start state folder
      start_new state_new folder_new
  pub there : IsTrue folder.tells → stands start_new.place state_new.touched ≡ true
  pub wrote : FolderWrites (put_calls start.place state.touched path) folder folder_new

-- Bytes were written to its file.
pub record WritesBytes (path : List ℕ) (at : ℕ) (bytes : List ℕ) (start : Start) (state : FileState) (folder : FolderView)
    (start_new : Start) (state_new : FileState) (folder_new : FolderView) : Type 0 where
  pub goes_on : GoesOnBy (IsBlockCall start.place path at bytes) (block_calls start.place state.touched path at bytes) false
      (record { at = at; bytes = bytes } ∷ []) path start state folder start_new state_new folder_new
  pub touched : state_new.touched ≡ true
  pub wrote : FolderWrites (block_calls start.place state.touched path at bytes) folder folder_new

-- the last call that was made of these found its file gone, which does not happen where the folder tells its files
pub record FindsNone (P : FolderCall → Type 0) (calls : List FolderCall) (path : List ℕ) (start : Start) (state : FileState)
    (folder : FolderView) (start_new : Start) (state_new : FileState) (folder_new : FolderView) : Type 0 where
  pub untold : folder.tells ≡ false
  pub goes_on : GoesOnBy P calls true [] path start state folder start_new state_new folder_new

abbrev pub EndsBy : FileFault → (FolderCall → Type 0) → List FolderCall → List ℕ → Start → FileState → FolderView → Start → FileState → FolderView
    → Type 0
EndsBy Failed P calls path start state folder start_new state_new folder_new = StepFails P calls folder folder_new
EndsBy Missing P calls path start state folder start_new state_new folder_new =
    FindsNone P calls path start state folder start_new state_new folder_new

-- ---- of a column

-- what a fix has written of a column so far, where its folder tells its files: they are as it wrote them, and the file of this
-- record may be written
pub record IsUnderway (table : TableValue) (d rec : ℕ) (starts : StartsValue) (states : List (List FileState)) (tree : Tree) : Type 0 where
  pub first : Tree
  pub writes : List (List Write)
  pub is_tree : IsTree first
  pub holds : HoldsColumn (records_in table d) (starts_at starts.columns d) (get_or states d []) writes first tree
  pub free : IsFree first (record_path (records_in table d) rec)

-- the block of a cell can be written
pub record CanWrite (table : TableValue) (d : ℕ) (cell : Cell) (bytes : List ℕ) (starts : StartsValue)
    (states : List (List FileState)) (folder : FolderView) : Type 0 where
  pub column : d < length table.columns
  pub rec : cell.rec < length (records_in table d)
  pub block : cell.index < length (record_at table.columns d cell.rec).blocks
  pub long : length bytes ≡ block_length table.shape.block_size (record_at table.columns d cell.rec).meta.size cell.index
  pub starts_fit : StartsFit table starts
  pub states_fit : StatesFit table states
  pub is_open : folder.closed ≡ false
  pub underway : IsTrue folder.tells → IsUnderway table d cell.rec starts states folder.tree

-- The block was written, or the last call that was made for it found its file gone, which does not happen where the folder
-- tells its files.
pub record MendsCell (table : TableValue) (d : ℕ) (cell : Cell) (bytes : List ℕ) (written : Bool)
    (starts : StartsValue) (states : List (List FileState)) (folder : FolderView)
    (starts_new : StartsValue) (states_new : List (List FileState)) (folder_new : FolderView) : Type 0 where
  pub place : Place
  pub state : FileState
  pub starts_are : starts_new ≡ with_place starts d cell.rec place
  pub stood : StaysPlace (start_in (starts_at starts.columns d) cell.rec).place place
  pub states_are : states_new ≡ with_state states d cell.rec state
  pub same_lost : state.lost ≡ (state_in states d cell.rec).lost
  pub size : state.size ≡ size_after (state_in states d cell.rec).size
      (if written then record { at = block_start table cell; bytes = bytes } ∷ [] else [])
  pub touched : written ≡ true → state.touched ≡ true
  pub stays_touched : (state_in states d cell.rec).touched ≡ true → state.touched ≡ true
  pub there : IsTrue folder.tells → written ≡ true
  pub wrote : written ≡ true
      → FolderWrites (block_calls (start_in (starts_at starts.columns d) cell.rec).place (state_in states d cell.rec).touched
      (cell_path table d cell) (block_start table cell) bytes) folder folder_new
  pub makes : StepMakes (IsBlockCall (start_in (starts_at starts.columns d) cell.rec).place (cell_path table d cell)
      (block_start table cell) bytes)
      (block_calls (start_in (starts_at starts.columns d) cell.rec).place (state_in states d cell.rec).touched
      (cell_path table d cell) (block_start table cell) bytes) (not written) folder folder_new
  pub holds : (first : FolderView) (writes : List (List Write)) → first.tells ≡ folder.tells
      → (IsTrue first.tells → IsFree first.tree (cell_path table d cell)) → (IsTrue first.tells → IsTree first.tree)
      → HoldsTold (records_in table d) (starts_at starts.columns d) (get_or states d []) writes first folder
      → HoldsTold (records_in table d) (starts_at starts_new.columns d) (get_or states_new d [])
      (mended_writes table cell bytes written writes) first folder_new

-- its calls were made up to one that failed, and each before that found its file
abbrev pub MendsNot : TableValue → ℕ → Cell → List ℕ → StartsValue → List (List FileState) → FolderView → FolderView → Type 0
MendsNot table d cell bytes starts states folder folder_new =
    StepFails (IsBlockCall (start_in (starts_at starts.columns d) cell.rec).place (cell_path table d cell) (block_start table cell) bytes)
    (block_calls (start_in (starts_at starts.columns d) cell.rec).place (state_in states d cell.rec).touched (cell_path table d cell)
    (block_start table cell) bytes) folder folder_new
