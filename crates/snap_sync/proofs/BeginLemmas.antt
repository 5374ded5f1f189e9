-- Before the vault is touched.
use Rattle.std.proofs.Common.{◌≡◌, List, [], length, All, inr, refl, arith}
use Rattle.std.proofs.lemmas.List.Elements.{All-from_get_or}
use Rattle.std.proofs.lemmas.List.FromFn.{length-map-range_with_len}
use Rattle.folder_listing.specs.Kept.{ListedFile, kept_lists}
use Rattle.folder_listing.specs.Listings.{ListsAll, RunsOut, FailsListing}
use Rattle.folder_listing.specs.declared.listing.ListingFault.{ListingFault}
use Rattle.folder_listing.specs.declared.listing.ListingFault.TheVariants as listing
use Rattle.disk_model.specs.Folder.{FolderView}
use Rattle.disk_model.specs.Tree.{IsListing}
use Rattle.file_table.specs.Table.{TableValue}
use Rattle.array_setup.specs.Setup.{SetupValue}
use Rattle.array_setup.specs.declared.ways.SyncWay.{SyncWay}
use Rattle.snap_sync.specs.Beginning.{BeginsNot}
use Rattle.array_scan.specs.Layout.{all_sorted, layout, column_laid}
use Rattle.array_scan.specs.Refusals.{refusal, IsCause}
use Rattle.array_scan.specs.declared.fault.ScanFault.{ScanFault}
use Rattle.snap_sync.specs.declared.fault.SyncFault.TheVariants.{Scan}
use Rattle.snap_sync.specs.Fault.{of_listing}

-- each list of files is a listing
pub lists_are_listings : (olds news : List FolderView) (lists : List (List ListedFile)) → ListsAll olds news lists → All IsListing lists
lists_are_listings olds news lists all = All-from_get_or IsListing lists [] (λ d lt. (all.each d (omega (arith, lt, all.as_many))).listing)

-- a fault of the listings
pub listing_fails : (setup : SetupValue) (way : SyncWay) (old : TableValue) (olds news : List FolderView) (fault : ListingFault)
    → FailsListing olds news fault → BeginsNot setup way old olds news (of_listing fault)
listing_fails setup way old olds news (listing.Folder disk) fails = fails
listing_fails setup way old olds news listing.Memory fails = fails

-- all folders were listed
pub all_listed : (olds news : List FolderView) (lists : List (List ListedFile)) → length news ≡ length olds → ListsAll olds news lists → RunsOut olds news
all_listed olds news lists as_many all = inr (
  length olds,
  record {
    as_many = as_many;
    within = omega arith;
    before = λ d lt. (all.each d lt).call;
    ran_out = λ below. absurd (omega (arith, below));
    behind = λ d above lt. absurd (omega (arith, above, lt));
  },
)

-- the layout is refused, and the old table handed back
pub layout_refused : (setup : SetupValue) (way : SyncWay) (old : TableValue) (olds news : List FolderView) (lists : List (List ListedFile)) (fault : ScanFault) → ListsAll olds news lists
    → IsCause (refusal way.force_zero way.force_empty old (all_sorted old (kept_lists setup lists))) fault → BeginsNot setup way old olds news (Scan fault old)
layout_refused setup way old olds news lists fault all cause = (refl, record { lists = lists; listed = all; cause = cause })

-- a layout has the columns of the old table
pub layout_width : (old : TableValue) (kept : List (List ListedFile)) → length (layout old kept).columns ≡ length old.columns
layout_width old kept = length-map-range_with_len (column_laid old (all_sorted old kept)) 0 (length old.columns)
