-- What comes before anything is read of parity or written: the folders are listed, and the files of all records are placed.
use Rattle.std.specs.Prelude.{◌≡◌, ℕ, List, length}
use Rattle.folder_listing.specs.Kept.{ListedFile}
use Rattle.folder_listing.specs.Listings.{ListsAll, FailsAt, RunsOut}
use Rattle.folder_listing.specs.declared.listing.ListingFault.{ListingFault}
use Rattle.folder_listing.specs.declared.listing.ListingFault.TheVariants as listing
use Rattle.disk_model.specs.Folder.{FolderView}
use Rattle.file_table.specs.Table.{TableValue}
use Rattle.array_setup.specs.declared.ways.Selection.{Selection}
use Rattle.snap_report.specs.declared.answer.RunFault.{RunFault}
use Rattle.snap_report.specs.declared.answer.RunFault.TheVariants.{Folder, Vault, Memory}
use Rattle.snap_fix.specs.declared.beginning.Work.{Work}
use Rattle.repair_scope.specs.declared.scope.Mode.{Mode}
use Rattle.repair_scope.specs.Plan.{IsScope, plan_of, entries_of, stripes_of}
use Rattle.stripe_examiner.specs.Place.{starts_of}
use Rattle.stripe_examiner.specs.Room.{IsRoomFor}

-- The folders were listed, each once, and this is what the run works with.
pub record Begins (mode : Mode) (selection : Selection) (names : List (List ℕ)) (table : TableValue) (work : Work)
    (olds news : List FolderView) : Type 0 where
  pub lists : List (List ListedFile)
  pub as_many : length news ≡ length olds
  pub listed : ListsAll olds news lists
  pub scope : IsScope mode selection work.scope
  pub entries : work.entries ≡ entries_of selection names table lists
  pub starts : work.starts ≡ starts_of table lists
  pub stripes : work.stripes.items ≡ stripes_of (plan_of work.scope table work.entries)
  pub room : IsRoomFor table work.room

-- the folders were not listed
abbrev pub of_listing : ListingFault → RunFault
of_listing (listing.Folder disk) = Folder disk
of_listing listing.Memory = Memory

-- Why a run did not begin: a folder could not be listed; or memory ran out, before any folder was asked or after the first so many
-- were listed.
abbrev pub BeginsNot : List FolderView → List FolderView → RunFault → Type 0
BeginsNot olds news (Folder disk) = FailsAt disk olds news
BeginsNot olds news Memory = RunsOut olds news
BeginsNot olds news Vault = ⊥
