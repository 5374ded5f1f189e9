-- The folders, listed side by side: each is asked once.
use Rattle.std.specs.Prelude.{◌≡◌, ℕ, ◌<◌, ◌≤◌, ◌⊎◌, List, [], length, get_or, Option, None, Some, false, IsTrue, Result}
use Rattle.disk_model.specs.Answer.{listing_answer}
use Rattle.disk_model.specs.Folder.{FolderView, ListFiles, IsFolderReading, quiet_folder}
use Rattle.disk_model.specs.Tree.{IsListing, listing_of}
use Rattle.disk_model.specs.declared.answer.Answer.TheVariants as answers
use Rattle.disk_model.specs.declared.fault.ListFault.{ListFault}
use Rattle.disk_model.specs.declared.fault.ListFault.TheVariants as lists
use Rattle.folder_listing.specs.declared.listing.Listing.{Listing}
use Rattle.folder_listing.specs.declared.listing.ListingFault.{ListingFault}
use Rattle.folder_listing.specs.declared.listing.ListingFault.TheVariants.{Folder, Memory}
use Rattle.folder_listing.specs.Kept.{ListedFile, lists_of}

-- a folder was listed, and these are its files
pub record Lists (old new : FolderView) (files : List ListedFile) : Type 0 where
  pub call : IsFolderReading ListFiles answers.Done old new
  pub listing : IsListing files
  pub found : IsTrue old.tells → files ≡ listing_of old.tree

abbrev pub folder_at : List FolderView → ℕ → FolderView
folder_at folders d = get_or folders d (quiet_folder 0 false)

-- a folder was asked for its files, once: it was listed, it failed, or memory ran out
pub record IsAsked (old new : FolderView) : Type 0 where
  pub answer : Result Unit ListFault
  pub call : IsFolderReading ListFiles (listing_answer answer) old new

-- each folder was listed once, and these are the files of each
pub record ListsAll (olds news : List FolderView) (lists : List (List ListedFile)) : Type 0 where
  pub as_many : length lists ≡ length olds
  pub each : (d : ℕ) → d < length olds → Lists (folder_at olds d) (folder_at news d) (get_or lists d [])

-- A folder failed. Each was asked once: those before it were listed, and those behind it answered as they did.
pub record FailsAt (disk : ℕ) (olds news : List FolderView) : Type 0 where
  pub as_many : length news ≡ length olds
  pub within : disk < length olds
  pub failed : IsFolderReading ListFiles answers.Failed (folder_at olds disk) (folder_at news disk)
  pub before : (d : ℕ) → d < disk → IsFolderReading ListFiles answers.Done (folder_at olds d) (folder_at news d)
  pub behind : (d : ℕ) → disk < d → d < length olds → IsAsked (folder_at olds d) (folder_at news d)

-- Each folder was asked once. The first so many were listed; if these are not all, memory ran out for the next one, and those behind
-- it answered as they did.
pub record ListsFirst (count : ℕ) (olds news : List FolderView) : Type 0 where
  pub as_many : length news ≡ length olds
  pub within : count ≤ length olds
  pub before : (d : ℕ) → d < count → IsFolderReading ListFiles answers.Done (folder_at olds d) (folder_at news d)
  pub ran_out : count < length olds → IsFolderReading ListFiles answers.OutOfMemory (folder_at olds count) (folder_at news count)
  pub behind : (d : ℕ) → count < d → d < length olds → IsAsked (folder_at olds d) (folder_at news d)

-- memory ran out: before any folder was asked, or after the first so many were listed
abbrev pub RunsOut : List FolderView → List FolderView → Type 0
RunsOut olds news = (news ≡ olds) ⊎ ((count : ℕ) × ListsFirst count olds news)

-- the first fault, in the order of the columns, is the one that is told
abbrev pub FailsListing : List FolderView → List FolderView → ListingFault → Type 0
FailsListing olds news (Folder disk) = FailsAt disk olds news
FailsListing olds news Memory = RunsOut olds news

-- ---- how they are listed

-- what a folder gave that was asked: these files, or why it gave none
abbrev pub Gives : FolderView → FolderView → List ListedFile → Option ListFault → Type 0
Gives old new files None = Lists old new files
Gives old new files (Some lists.Failed) = IsFolderReading ListFiles answers.Failed old new
Gives old new files (Some lists.Memory) = IsFolderReading ListFiles answers.OutOfMemory old new

-- there is a place for what each of so many folders gives
pub record HavePlaces (count : ℕ) (listings : List Listing) (faults : List (Option ListFault)) : Type 0 where
  pub for_files : length listings ≡ count
  pub for_faults : length faults ≡ count

-- each folder was asked once, and what it gave is in its own place
pub record GiveAll (olds news : List FolderView) (listings : List Listing) (faults : List (Option ListFault)) : Type 0 where
  pub folders : length news ≡ length olds
  pub places : HavePlaces (length olds) listings faults
  pub each : (d : ℕ) → d < length olds →
      Gives (folder_at olds d) (folder_at news d) (get_or (lists_of listings) d []) (get_or faults d None)

-- the first fault, and the column where it is; or there is none
abbrev pub IsFirstFault : List (Option ListFault) → Option (ℕ × ListFault) → Type 0
IsFirstFault faults None = (d : ℕ) → d < length faults → get_or faults d None ≡ None
IsFirstFault faults (Some (disk, fault)) =
    (disk < length faults) × (get_or faults disk None ≡ Some fault) × ((d : ℕ) → d < disk → get_or faults d None ≡ None)
