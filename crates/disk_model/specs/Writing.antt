-- What the writing calls of a folder make of its files.
use Rattle.std.specs.Prelude.{◌≡◌, ◌⊎◌, ℕ, ◌<◌, ◌≤◌, List, [], length, slice_index, Option, None, Some, Bool, not, false, IsTrue, if◌then◌else◌}
use Rattle.std.specs.FinMap as map
use Rattle.disk_model.specs.Answer.{is_failure}
use Rattle.disk_model.specs.Bytes.{put, resized, Torn}
use Rattle.disk_model.specs.Folder.{FolderView, FolderCall, ListFiles, Look, ReadAt, Make, WriteAt, SetSize, SetStamp, Rename, IsFolderCall, TreeBy}
use Rattle.disk_model.specs.Tree.{Tree, File, file_of, path_of}
use Rattle.disk_model.specs.declared.answer.Answer.{Answer}
use Rattle.disk_model.specs.declared.meta.Stamp.{Stamp}

-- the file at the path, where there is one, became another by this step, and all else stays
pub record ChangesFile (path : List ℕ) (step : File → File → Type 0) (old new : Tree) : Type 0 where
  pub none : file_of old path ≡ None → new ≡ old
  pub some : (before : File) → file_of old path ≡ Some before → (after : File) × step before after × (new ≡ map.insert old path after)

-- all bytes were written, with zeros before them where the file was shorter; the stamp isn't said
abbrev pub Writes : ℕ → List ℕ → File → File → Type 0
Writes at bytes before after = after.bytes ≡ put before.bytes at bytes

-- A write of n bytes was cut short: any bytes in its range, zeros before it where the file was shorter, a length between the old
-- one and that of the whole write. The stamp isn't said.
pub record WritesPart (at n : ℕ) (before after : File) : Type 0 where
  pub torn : Torn at n before.bytes after.bytes
  pub zeros : (i : ℕ) → length before.bytes ≤ i → i < at → slice_index after.bytes i ≡ 0

-- it was cut to a size, or extended to it with zeros; the stamp isn't said
abbrev pub Resizes : ℕ → File → File → Type 0
Resizes size before after = after.bytes ≡ resized before.bytes size

-- it has this stamp, where that is kept
abbrev pub Stamps : Bool → Stamp → File → File → Type 0
Stamps is_kept stamp before after = after ≡ record before { stamp = (if is_kept then stamp else before.stamp) }

-- with a file under the path where there was none
abbrev pub or_added : Option File → List ℕ → File → Tree → Tree
or_added None path file tree = map.insert tree path file
or_added (Some there) path file tree = tree

-- with an empty file under the path, where there is none
abbrev pub made : List ℕ → Stamp → Tree → Tree
made path stamp tree = or_added (file_of tree path) path (record { stamp = stamp; bytes = [] }) tree

-- with a file that stood under one path under another
abbrev pub moved : Option File → List ℕ → List ℕ → Tree → Tree
moved None from to tree = tree
moved (Some file) from to tree = map.insert (map.remove tree from) to file

-- with the file of one path, where there is one, under another, in the place of a file there
abbrev pub renamed : List ℕ → List ℕ → Tree → Tree
renamed from to tree = moved (file_of tree from) from to tree

-- a step was made, or not
abbrev pub OrNot : (Tree → Tree → Type 0) → Tree → Tree → Type 0
OrNot step old new = (new ≡ old) ⊎ step old new

-- what a call does to the files that answers no fault, in a folder that keeps these stamps
abbrev pub Does : (Stamp → Bool) → FolderCall → Tree → Tree → Type 0
Does keeps ListFiles old new = new ≡ old
Does keeps (Look path lost) old new = new ≡ old
Does keeps (ReadAt path lost at n) old new = new ≡ old
Does keeps (Make path) old new = (stamp : Stamp) × (new ≡ made path stamp old)
Does keeps (WriteAt path at bytes) old new = ChangesFile path (Writes at bytes) old new
Does keeps (SetSize path size) old new = ChangesFile path (Resizes size) old new
Does keeps (SetStamp path stamp) old new = ChangesFile path (Stamps (keeps stamp) stamp) old new
Does keeps (Rename path lost) old new = new ≡ renamed (path_of path (not lost)) (path_of path lost) old

-- what a call may do to them that answers `Failed`: a part of a write, and of any other call all or nothing
abbrev pub MayDo : (Stamp → Bool) → FolderCall → Tree → Tree → Type 0
MayDo keeps ListFiles old new = new ≡ old
MayDo keeps (Look path lost) old new = new ≡ old
MayDo keeps (ReadAt path lost at n) old new = new ≡ old
MayDo keeps (Make path) old new = OrNot (Does keeps (Make path)) old new
MayDo keeps (WriteAt path at bytes) old new = ChangesFile path (WritesPart at (length bytes)) old new
MayDo keeps (SetSize path size) old new = OrNot (Does keeps (SetSize path size)) old new
MayDo keeps (SetStamp path stamp) old new = OrNot (Does keeps (SetStamp path stamp)) old new
MayDo keeps (Rename path lost) old new = OrNot (Does keeps (Rename path lost)) old new

-- a call that writes
pub record IsFolderWrite (call : FolderCall) (answer : Answer) (old new : FolderView) : Type 0 where
  pub called : IsFolderCall call answer old new
  pub does : is_failure answer ≡ false → TreeBy (Does old.keeps call) old new
  pub may : IsTrue (is_failure answer) → TreeBy (MayDo old.keeps call) old new
