-- What a stop within a run that writes a folder may leave of its files, by the files at the start and the calls since then.
use Rattle.std.specs.Prelude.{◌≡◌, ◌≢◌, ◌⊎◌, ℕ, ◌+◌, ◌<◌, ◌≤◌, List, [], ◌∷◌, length, slice_index, Option, None, Some, IfSome, Bool, false, IsTrue, All}
use Rattle.disk_model.specs.Folder.{FolderView, FolderCall, FolderDone, ListFiles, Look, ReadAt, Make, WriteAt, SetSize, SetStamp, Rename, IsFolder, IsFolderReading}
use Rattle.disk_model.specs.Tree.{Tree, File, file_of, path_of, IsTree}
use Rattle.disk_model.specs.Writing.{MayDo, IsFolderWrite}
use Rattle.disk_model.specs.declared.meta.Stamp.{Stamp}

-- a call that changes a file finds it under PATH, or under PATH`.unrecoverable` where a rename was not done
abbrev pub found_under : Bool → FolderCall → FolderCall
found_under lost ListFiles = ListFiles
found_under lost (Look path other) = Look path other
found_under lost (ReadAt path other at n) = ReadAt path other at n
found_under lost (Make path) = Make path
found_under lost (WriteAt path at bytes) = WriteAt (path_of path lost) at bytes
found_under lost (SetSize path size) = SetSize (path_of path lost) size
found_under lost (SetStamp path stamp) = SetStamp (path_of path lost) stamp
found_under lost (Rename path other) = Rename path other

-- a part of a write, or of any other call all or nothing, with the file under either name
abbrev pub StopMayDo : (Stamp → Bool) → FolderCall → Tree → Tree → Type 0
StopMayDo keeps call old new = (lost : Bool) × MayDo keeps (found_under lost call) old new

-- Any bytes in each range that was written, and each other call done or not, in the order of the calls; what is left is a tree.
abbrev pub MayBeLeft : (Stamp → Bool) → List FolderDone → Tree → Tree → Type 0
MayBeLeft keeps [] old new = new ≡ old
MayBeLeft keeps (done ∷ calls) old new = (mid : Tree) × IsTree mid × StopMayDo keeps done.call old mid × MayBeLeft keeps calls mid new

-- the PATH of a call that writes
abbrev pub written_path : FolderCall → Option (List ℕ)
written_path ListFiles = None
written_path (Look path lost) = None
written_path (ReadAt path lost at n) = None
written_path (Make path) = Some path
written_path (WriteAt path at bytes) = Some path
written_path (SetSize path size) = Some path
written_path (SetStamp path stamp) = Some path
written_path (Rename path lost) = Some path

-- neither name of what the call writes is this one
abbrev pub LeavesAlone : List ℕ → FolderCall → Type 0
LeavesAlone name call = IfSome (written_path call) (λ path. (lost : Bool) → path_of path lost ≢ name)

-- what the call writes is PATH, or neither name of it is one of PATH's
abbrev pub IsOwnOrApart : List ℕ → FolderCall → Type 0
IsOwnOrApart path call = IfSome (written_path call) (λ other. (other ≡ path) ⊎ ((one two : Bool) → path_of other one ≢ path_of path two))

-- A call on PATH neither makes it nor, but where that is allowed, renames it back: no other file takes the place of PATH's.
abbrev pub KeepsPlace : List ℕ → Bool → FolderCall → Type 0
KeepsPlace path back ListFiles = Unit {0}
KeepsPlace path back (Look other lost) = Unit {0}
KeepsPlace path back (ReadAt other lost at n) = Unit {0}
KeepsPlace path back (Make other) = other ≢ path
KeepsPlace path back (WriteAt other at bytes) = Unit {0}
KeepsPlace path back (SetSize other size) = Unit {0}
KeepsPlace path back (SetStamp other stamp) = Unit {0}
KeepsPlace path back (Rename other lost) = other ≡ path → lost ≡ false → IsTrue back

-- a byte of PATH's file is in no range that the call writes, and before the end that it sets
abbrev pub IsUntouchedBy : List ℕ → ℕ → FolderCall → Type 0
IsUntouchedBy path i ListFiles = Unit {0}
IsUntouchedBy path i (Look other lost) = Unit {0}
IsUntouchedBy path i (ReadAt other lost at n) = Unit {0}
IsUntouchedBy path i (Make other) = Unit {0}
IsUntouchedBy path i (WriteAt other at bytes) = other ≡ path → (i < at) ⊎ (at + length bytes ≤ i)
IsUntouchedBy path i (SetSize other size) = other ≡ path → i < size
IsUntouchedBy path i (SetStamp other stamp) = Unit {0}
IsUntouchedBy path i (Rename other lost) = Unit {0}

-- each call since then
abbrev pub EachCall : (FolderCall → Type 0) → List FolderDone → Type 0
EachCall P calls = All (λ (done : FolderDone). P done.call) calls

-- the file still has each of its bytes that none of the calls touched
abbrev pub KeepsUntouched : List ℕ → List FolderDone → File → File → Type 0
KeepsUntouched path calls before after = (i : ℕ) → i < length before.bytes → EachCall (IsUntouchedBy path i) calls
    → (i < length after.bytes) × (slice_index after.bytes i ≡ slice_index before.bytes i)

-- PATH's file at the start stands under one of its names, with each byte that was not touched
pub record StandsKept (path : List ℕ) (calls : List FolderDone) (before : File) (new : Tree) : Type 0 where
  pub lost : Bool
  pub after : File
  pub there : file_of new (path_of path lost) ≡ Some after
  pub keeps : KeepsUntouched path calls before after

-- one call that reads or writes was answered
abbrev pub IsAnswered : FolderDone → FolderView → FolderView → Type 0
IsAnswered done old new = IsFolderReading done.call done.answer old new ⊎ IsFolderWrite done.call done.answer old new

-- just these calls were answered, one after another
abbrev pub AreAnswered : List FolderDone → FolderView → FolderView → Type 0
AreAnswered [] old new = new ≡ old
AreAnswered (done ∷ calls) old new = (mid : FolderView) × IsFolder mid × IsAnswered done old mid × AreAnswered calls mid new
