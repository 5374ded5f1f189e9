-- The steps of a finish, each on the file of one record: it is put under its path, then its size is set, then its stamp.
use Rattle.std.specs.Prelude.{◌≡◌, ◌≢◌, ℕ, ◌==◌, List, Bool, true, false, Option, None, Some, IsTrue}
use Rattle.disk_model.specs.Folder.{FolderView, FolderCall, SetSize, Rename, TreeBy, TreeStays}
use Rattle.disk_model.specs.Path.{IsRecordPath}
use Rattle.disk_model.specs.Stamp.{IsStamp}
use Rattle.disk_model.specs.Tree.{Tree, File, file_of, path_of, IsTree}
use Rattle.disk_model.specs.Writing.{ChangesFile, Resizes}
use Rattle.disk_model.specs.declared.fault.FileFault.{FileFault}
use Rattle.disk_model.specs.declared.fault.FileFault.TheVariants.{Missing, Failed}
use Rattle.disk_model.specs.declared.meta.Meta.{Meta}
use Rattle.stripe_reader.specs.declared.starts.Start.{Start}
use Rattle.stripe_reader.specs.declared.starts.Place.{Place}
use Rattle.stripe_reader.specs.declared.starts.Place.TheVariants.{Lost, Nowhere}
use Rattle.file_restorer.specs.declared.finishing.Finish.{Finish}
use Rattle.file_restorer.specs.declared.state.FileState.{FileState}
use Rattle.file_restorer.specs.Breaking.{StepFails}
use Rattle.file_restorer.specs.Finishing.{FitsTree, HoldsFinished, bytes_now, lost_after, size_calls}
use Rattle.file_restorer.specs.Mending.{IsFree, IsSetUpCall}
use Rattle.file_restorer.specs.Order.{FolderWrites, put_calls}
use Rattle.file_restorer.specs.State.{OthersStay, StepMakes, stands}

-- ---- what a step begins with

-- The file of a path stands where its place says, and may stand under either of its names.
pub record IsPlacedIn (path : List ℕ) (place : Place) (touched : Bool) (tree : Tree) : Type 0 where
  pub is_tree : IsTree tree
  pub free : IsFree tree path
  pub plain : stands place touched ≡ true → file_of tree (path_of path false) ≢ None
  pub absent : stands place touched ≡ false → file_of tree (path_of path false) ≡ None
  pub lost : place ≡ Lost → file_of tree (path_of path true) ≢ None
  pub nowhere : place ≡ Nowhere → file_of tree (path_of path true) ≡ None

-- the same, as far as the folder tells its files
pub record IsPlaced (path : List ℕ) (place : Place) (touched : Bool) (folder : FolderView) : Type 0 where
  pub is_path : IsRecordPath path
  pub is_open : folder.closed ≡ false
  pub tree : IsTrue folder.tells → IsPlacedIn path place touched folder.tree

-- the file of a path can be finished
pub record IsReady (path : List ℕ) (listed : Option Meta) (meta : Meta) (start : Start) (state : FileState)
    (folder : FolderView) : Type 0 where
  pub placed : IsPlaced path start.place state.touched folder
  pub stamp : IsStamp meta.stamp
  pub fits : IsTrue folder.tells → FitsTree path listed start state folder.tree

-- ---- its calls, each only where it is due

-- the file does not stand under its path, and is renamed back or made
abbrev pub IsPutCall : Place → Bool → List ℕ → FolderCall → Type 0
IsPutCall place touched path call = (stands place touched ≡ false) × IsSetUpCall place path call

-- the size differs, and is set
abbrev pub IsSizeCall : List ℕ → ℕ → ℕ → FolderCall → Type 0
IsSizeCall path before size call = ((before == size) ≡ false) × (call ≡ SetSize path size)

-- the file stands under its path, and is renamed
abbrev pub IsLostCall : Start → FileState → List ℕ → FolderCall → Type 0
IsLostCall start state path call = (stands start.place state.touched ≡ true) × (call ≡ Rename path true)

-- ---- what it ends with

-- of these calls the first ones were made, only such, and the last of them found its file gone, which does not happen where
-- the folder tells its files
pub record FindsNoFile (P : FolderCall → Type 0) (calls : List FolderCall) (old new : FolderView) : Type 0 where
  pub untold : old.tells ≡ false
  pub makes : StepMakes P calls true old new
  pub last : (call : FolderCall) × P call

abbrev pub BreaksBy : FileFault → (FolderCall → Type 0) → List FolderCall → FolderView → FolderView → Type 0
BreaksBy Failed = StepFails
BreaksBy Missing = FindsNoFile

-- a file with these bytes stands under the path, and this one under its other name
pub record Stands (path bytes : List ℕ) (lost : Option File) (before later : Tree) : Type 0 where
  pub file : File
  pub there : file_of later (path_of path false) ≡ Some file
  pub bytes_are : file.bytes ≡ bytes
  pub lost_is : file_of later (path_of path true) ≡ lost
  pub others : OthersStay path before later

-- the file stands under its path: it did, or it was renamed back, or made
pub record SetsUp (path : List ℕ) (place : Place) (touched : Bool) (old new : FolderView) : Type 0 where
  pub makes : StepMakes (IsPutCall place touched path) (put_calls place touched path) false old new
  pub stays : stands place touched ≡ true → TreeStays old new
  pub stand : IsTrue old.tells
      → Stands path (bytes_now old.tree path) (lost_after place (file_of old.tree (path_of path true))) old.tree new.tree
  pub wrote : FolderWrites (put_calls place touched path) old new

-- the file has this size: it had it, or it was set
abbrev pub SizesBy : Bool → List ℕ → ℕ → Tree → Tree → Type 0
SizesBy true path size old new = new ≡ old
SizesBy false path size old new = ChangesFile path (Resizes size) old new

pub record FitsSize (path : List ℕ) (before size : ℕ) (old new : FolderView) : Type 0 where
  pub makes : StepMakes (IsSizeCall path before size) (size_calls before size path) false old new
  pub tree : TreeBy (SizesBy (before == size) path size) old new
  pub wrote : FolderWrites (size_calls before size path) old new

-- the file is finished as it was to be, by such calls, of which each found its file and those that write are just these
pub record FinishesBy (wanted finish : Finish) (P : FolderCall → Type 0) (calls : List FolderCall) (meta : Meta)
    (start : Start) (state : FileState) (path : List ℕ) (old new : FolderView) : Type 0 where
  pub is : finish ≡ wanted
  pub makes : StepMakes P calls false old new
  pub holds : IsTrue old.tells
      → HoldsFinished finish old.keeps meta start state (bytes_now old.tree path) path old.tree new.tree
  pub others : IsTrue old.tells → OthersStay path old.tree new.tree
  pub wrote : FolderWrites calls old new
