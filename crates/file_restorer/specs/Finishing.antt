-- The files of the selected records are finished, once all blocks are written.
use Rattle.std.specs.Prelude.{◌≡◌, ◌≢◌, ◌⊎◌, ℕ, ◌<◌, ◌==◌, ◌&&◌, ◌||◌, not, List, [], ◌∷◌, ◌++◌, length, Bool, true, false, if◌then◌else◌, Option, None, Some, IsTrue}
use Rattle.std.specs.Ordering.{int_eq}
use Rattle.disk_model.specs.Bytes.{resized}
use Rattle.disk_model.specs.Folder.{FolderView, FolderCall, Make, SetSize, SetStamp, Rename}
use Rattle.disk_model.specs.Tree.{Tree, File, file_of, meta_of, path_of, IsTree}
use Rattle.disk_model.specs.declared.meta.Meta.{Meta}
use Rattle.disk_model.specs.declared.meta.Stamp.{Stamp}
use Rattle.file_table.specs.Table.{TableValue, record_at, records_in}
use Rattle.stripe_reader.specs.Starts.{StartsValue, StartsFit, starts_at, start_in}
use Rattle.stripe_reader.specs.declared.starts.Start.{Start}
use Rattle.stripe_reader.specs.declared.starts.Place.{Place}
use Rattle.stripe_reader.specs.declared.starts.Place.TheVariants.{Plain, Lost, Nowhere}
use Rattle.file_restorer.specs.declared.finishing.Finish.{Finish}
use Rattle.file_restorer.specs.declared.finishing.Finish.TheVariants.{Kept, Restored, Unstamped, Renamed, Gone}
use Rattle.file_restorer.specs.declared.state.FileState.{FileState}
use Rattle.file_restorer.specs.Breaking.{StepFails}
use Rattle.file_restorer.specs.Mending.{StatesFit, IsFree}
use Rattle.file_restorer.specs.Order.{FolderWrites, put_calls}
pub use Rattle.file_restorer.specs.State.{OthersStay, stands}
use Rattle.file_restorer.specs.State.{StepMakes, bytes_placed, record_path, state_in}

-- ---- what is done, by what is known of the file

-- the stamp differs from the recorded one, as far as the listing knows
abbrev pub same_stamp : Stamp → Option Meta → Bool
same_stamp stamp None = false
same_stamp stamp (Some listed) = int_eq listed.stamp.seconds stamp.seconds && listed.stamp.nanos == stamp.nanos

-- a call of the finish, or one before it, changed the file: it was touched, it is set up now, or its size is set
abbrev pub is_changed : Meta → Start → FileState → Bool
is_changed meta start state = state.touched || not (stands start.place state.touched) || not (state.size == meta.size)

-- its stamp is set
abbrev pub is_stamped : Meta → Option Meta → Start → FileState → Bool
is_stamped meta listed start state = is_changed meta start state || not (same_stamp meta.stamp listed)

-- what is done to a file without a lost block, in a folder that keeps its recorded stamp or doesn't
abbrev pub stamped_finish : Bool → Bool → Finish
stamped_finish changed is_kept = if changed then Restored is_kept else (if is_kept then Restored true else Unstamped)

-- the same, in a folder that keeps these stamps
abbrev pub whole_finish : Meta → Option Meta → Start → FileState → (Stamp → Bool) → Finish
whole_finish meta listed start state keeps =
    if is_stamped meta listed start state then stamped_finish (is_changed meta start state) (keeps meta.stamp) else Kept

-- and to one with a lost block
abbrev pub lost_finish : Start → FileState → Finish
lost_finish start state = if stands start.place state.touched then Renamed else Kept

abbrev pub finish_of : Meta → Option Meta → Start → FileState → (Stamp → Bool) → Finish
finish_of meta listed start state keeps =
    if state.lost then lost_finish start state else whole_finish meta listed start state keeps

-- the file was gone
abbrev pub was_gone : Finish → Bool
was_gone Kept = false
was_gone (Restored stamped) = false
was_gone Unstamped = false
was_gone Renamed = false
was_gone Gone = true

-- ---- by which calls

abbrev pub IsWholeCall : Option Meta → Start → FileState → List ℕ → Meta → FolderCall → Type 0
IsWholeCall listed start state path meta call =
    ((start.place ≡ Lost) × (call ≡ Rename path false))
    ⊎ (((stands start.place state.touched ≡ false) × (start.place ≡ Nowhere) × (call ≡ Make path))
    ⊎ ((((state.size == meta.size) ≡ false) × (call ≡ SetSize path meta.size))
    ⊎ ((is_stamped meta listed start state ≡ true) × (call ≡ SetStamp path meta.stamp))))

abbrev pub IsFinishCall : Bool → Option Meta → Start → FileState → List ℕ → Meta → FolderCall → Type 0
IsFinishCall false listed start state path meta call = IsWholeCall listed start state path meta call
IsFinishCall true listed start state path meta call = (stands start.place state.touched ≡ true) × (call ≡ Rename path true)

-- ---- in which order

-- the size is set where it differs
abbrev pub size_calls : ℕ → ℕ → List ℕ → List FolderCall
size_calls before size path = if before == size then [] else SetSize path size ∷ []

-- A file without a lost block is put under PATH, then its size is set, then its stamp, each where it is due. One with a lost block is
-- renamed, if it stands under PATH.
abbrev pub whole_calls : Option Meta → Start → FileState → List ℕ → Meta → List FolderCall
whole_calls listed start state path meta =
    (put_calls start.place state.touched path ++ size_calls state.size meta.size path)
    ++ (if is_stamped meta listed start state then SetStamp path meta.stamp ∷ [] else [])

abbrev pub lost_calls : Start → FileState → List ℕ → List FolderCall
lost_calls start state path = if stands start.place state.touched then Rename path true ∷ [] else []

abbrev pub finish_calls : Bool → Option Meta → Start → FileState → List ℕ → Meta → List FolderCall
finish_calls lost listed start state path meta = if lost then lost_calls start state path else whole_calls listed start state path meta

-- ---- what the folder holds then

-- nothing is under either name but what was there
abbrev pub SameNames : List ℕ → Tree → Tree → Type 0
SameNames path before later = (lost : Bool) → file_of later (path_of path lost) ≡ file_of before (path_of path lost)

-- what stands under PATH`.unrecoverable` once the file stands under PATH: it is gone where it was renamed back
abbrev pub lost_after : Place → Option File → Option File
lost_after Plain file = file
lost_after Lost file = None
lost_after Nowhere file = file

-- a file stands under PATH with these bytes, and with its recorded stamp where the folder keeps that; the other name is gone,
-- if the file had it
pub record StandsWhole (keeps : Stamp → Bool) (meta : Meta) (place : Place) (bytes path : List ℕ) (before later : Tree) : Type 0 where
  pub file : File
  pub there : file_of later (path_of path false) ≡ Some file
  pub bytes_are : file.bytes ≡ resized bytes meta.size
  pub stamp : IsTrue (keeps meta.stamp) → file.stamp ≡ meta.stamp
  pub lost : file_of later (path_of path true) ≡ lost_after place (file_of before (path_of path true))

-- what stood under PATH stands under PATH`.unrecoverable`
pub record StandsLost (path : List ℕ) (before later : Tree) : Type 0 where
  pub moved : file_of later (path_of path true) ≡ file_of before (path_of path false)
  pub none : file_of later (path_of path false) ≡ None

abbrev pub HoldsFinished : Finish → (Stamp → Bool) → Meta → Start → FileState → List ℕ → List ℕ → Tree → Tree → Type 0
HoldsFinished Kept keeps meta start state bytes path before later = SameNames path before later
HoldsFinished (Restored stamped) keeps meta start state bytes path before later = StandsWhole keeps meta start.place bytes path before later
HoldsFinished Unstamped keeps meta start state bytes path before later = SameNames path before later
HoldsFinished Renamed keeps meta start state bytes path before later = StandsLost path before later
HoldsFinished Gone keeps meta start state bytes path before later = ⊥

-- the bytes of the file of a record before it is finished: those in its place
abbrev pub bytes_now : Tree → List ℕ → List ℕ
bytes_now tree path = bytes_placed tree path

-- The start and the state of a record fit what its folder holds: its file stands where they say, with that size.
pub record FitsTree (path : List ℕ) (listed : Option Meta) (start : Start) (state : FileState) (tree : Tree) : Type 0 where
  pub plain : stands start.place state.touched ≡ true → file_of tree (path_of path false) ≢ None
  pub absent : stands start.place state.touched ≡ false → file_of tree (path_of path false) ≡ None
  pub lost : start.place ≡ Lost → file_of tree (path_of path true) ≢ None
  pub nowhere : start.place ≡ Nowhere → file_of tree (path_of path true) ≡ None
  pub size : state.size ≡ length (bytes_now tree path)
  pub recorded : state.touched ≡ false → start.place ≡ Plain → (file : File) → file_of tree (path_of path false) ≡ Some file
      → listed ≡ Some (meta_of file)

-- a record can be finished: no other file stands in the way of either of its names
pub record CanFinish (table : TableValue) (d i : ℕ) (listed : Option Meta) (starts : StartsValue)
    (states : List (List FileState)) (folder : FolderView) : Type 0 where
  pub column : d < length table.columns
  pub rec : i < length (records_in table d)
  pub starts_fit : StartsFit table starts
  pub states_fit : StatesFit table states
  pub is_tree : IsTrue folder.tells → IsTree folder.tree
  pub is_open : folder.closed ≡ false
  pub free : IsTrue folder.tells → IsFree folder.tree (record_path (records_in table d) i)
  pub fits : IsTrue folder.tells
      → FitsTree (record_path (records_in table d) i) listed (start_in (starts_at starts.columns d) i) (state_in states d i) folder.tree

-- The file of the record was finished, or the last call that was made for it found it gone, which does not happen where the
-- folder tells its files.
pub record FinishesRecord (table : TableValue) (d i : ℕ) (listed : Option Meta) (finish : Finish) (starts : StartsValue)
    (states : List (List FileState)) (folder : FolderView) (starts_new : StartsValue)
    (states_new : List (List FileState)) (folder_new : FolderView) : Type 0 where
  pub is : (finish ≡ finish_of (record_at table.columns d i).meta listed (start_in (starts_at starts.columns d) i)
      (state_in states d i) folder.keeps)
      ⊎ ((finish ≡ Gone) × (folder.tells ≡ false)
      × (finish_of (record_at table.columns d i).meta listed (start_in (starts_at starts.columns d) i)
      (state_in states d i) folder.keeps ≢ Kept))
  pub starts_fit : StartsFit table starts_new
  pub states_fit : StatesFit table states_new
  pub other_starts : (k j : ℕ) → ((k ≢ d) ⊎ (j ≢ i)) → start_in (starts_at starts_new.columns k) j ≡ start_in (starts_at starts.columns k) j
  pub other_states : (k j : ℕ) → ((k ≢ d) ⊎ (j ≢ i)) → state_in states_new k j ≡ state_in states k j
  pub makes : StepMakes (IsFinishCall (state_in states d i).lost listed (start_in (starts_at starts.columns d) i)
      (state_in states d i) (record_path (records_in table d) i) (record_at table.columns d i).meta)
      (finish_calls (state_in states d i).lost listed (start_in (starts_at starts.columns d) i) (state_in states d i)
      (record_path (records_in table d) i) (record_at table.columns d i).meta) (was_gone finish) folder folder_new
  pub holds : IsTrue folder.tells
      → HoldsFinished finish folder.keeps (record_at table.columns d i).meta (start_in (starts_at starts.columns d) i)
      (state_in states d i)
      (bytes_now folder.tree (record_path (records_in table d) i)) (record_path (records_in table d) i) folder.tree folder_new.tree
  pub whole : IsTrue folder.tells → (state_in states d i).lost ≡ false
      → StandsWhole folder.keeps (record_at table.columns d i).meta (start_in (starts_at starts.columns d) i).place
      (bytes_now folder.tree (record_path (records_in table d) i)) (record_path (records_in table d) i) folder.tree folder_new.tree
  pub others : IsTrue folder.tells → OthersStay (record_path (records_in table d) i) folder.tree folder_new.tree
  pub wrote : was_gone finish ≡ false
      → FolderWrites (finish_calls (state_in states d i).lost listed (start_in (starts_at starts.columns d) i) (state_in states d i)
      (record_path (records_in table d) i) (record_at table.columns d i).meta) folder folder_new

-- its calls were made up to one that failed, and each before that found its file
abbrev pub FinishesNot : TableValue → ℕ → ℕ → Option Meta → StartsValue → List (List FileState) → FolderView → FolderView → Type 0
FinishesNot table d i listed starts states folder folder_new =
    StepFails (IsFinishCall (state_in states d i).lost listed (start_in (starts_at starts.columns d) i) (state_in states d i)
    (record_path (records_in table d) i) (record_at table.columns d i).meta)
    (finish_calls (state_in states d i).lost listed (start_in (starts_at starts.columns d) i) (state_in states d i)
    (record_path (records_in table d) i) (record_at table.columns d i).meta) folder folder_new
