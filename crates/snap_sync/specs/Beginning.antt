-- What comes before the vault is touched: the folders are listed, and their kept files laid out.
use Rattle.std.specs.Prelude.{◌≡◌, List, length, None}
use Rattle.folder_listing.specs.Kept.{ListedFile, kept_lists}
use Rattle.array_scan.specs.Layout.{layout, all_sorted}
use Rattle.folder_listing.specs.Listings.{ListsAll, FailsAt, RunsOut}
use Rattle.array_scan.specs.Refusals.{refusal, IsCause}
use Rattle.array_scan.specs.declared.fault.ScanFault.{ScanFault}
use Rattle.disk_model.specs.Folder.{FolderView}
use Rattle.file_table.specs.Table.{TableValue}
use Rattle.file_table.specs.Valid.{IsValid}
use Rattle.array_setup.specs.Setup.{SetupValue}
use Rattle.array_setup.specs.declared.ways.SyncWay.{SyncWay}
use Rattle.snap_report.specs.declared.answer.RunFault.TheVariants.{Folder, Vault, Memory}
use Rattle.snap_sync.specs.declared.fault.SyncFault.{SyncFault}
use Rattle.snap_sync.specs.declared.fault.SyncFault.TheVariants.{Scan, Run}

-- The folders were listed, each once, and their kept files are laid out: this is the table.
pub record LaysOut (setup : SetupValue) (way : SyncWay) (old start : TableValue) (olds news : List FolderView) : Type 0 where
  pub lists : List (List ListedFile)
  pub as_many : length news ≡ length olds
  pub listed : ListsAll olds news lists
  pub unrefused : refusal way.force_zero way.force_empty old (all_sorted old (kept_lists setup lists)) ≡ None
  pub start_is : start ≡ layout old (kept_lists setup lists)
  pub valid : IsValid start

-- the folders were listed, each once, and the layout of their kept files is refused
pub record RefusesLayout (setup : SetupValue) (way : SyncWay) (old : TableValue) (olds news : List FolderView) (fault : ScanFault) : Type 0 where
  pub lists : List (List ListedFile)
  pub listed : ListsAll olds news lists
  pub cause : IsCause (refusal way.force_zero way.force_empty old (all_sorted old (kept_lists setup lists))) fault

-- Why a sync did not begin: the layout is refused, and then the old table is handed back; a folder could not be listed; or memory ran
-- out, before any folder was asked or after the first so many were listed.
abbrev pub BeginsNot : SetupValue → SyncWay → TableValue → List FolderView → List FolderView → SyncFault → Type 0
BeginsNot setup way old olds news (Scan fault table) = (table ≡ old) × RefusesLayout setup way old olds news fault
BeginsNot setup way old olds news (Run (Folder disk)) = FailsAt disk olds news
BeginsNot setup way old olds news (Run Memory) = RunsOut olds news
BeginsNot setup way old olds news (Run Vault) = ⊥
