-- What comes before anything is read of parity or written.
use Rattle.std.proofs.Common.{◌≡◌, ℕ, List, [], length, get_or, All, inr, ap, ◌∙◌, arith}
use Rattle.std.proofs.lemmas.List.{length-map}
use Rattle.std.proofs.lemmas.List.Elements.{All-from_get_or}
use Rattle.std.proofs.lemmas.List.FromFn.{length-map-range_with_len, get_or-map-range_with_len}
use Rattle.folder_listing.specs.Kept.{ListedFile}
use Rattle.folder_listing.specs.Listings.{ListsAll, RunsOut, FailsListing}
use Rattle.folder_listing.specs.declared.listing.ListingFault.{ListingFault}
use Rattle.folder_listing.specs.declared.listing.ListingFault.TheVariants as listing
use Rattle.disk_model.specs.Folder.{FolderView}
use Rattle.disk_model.specs.Tree.{IsListing}
use Rattle.file_table.specs.Table.{TableValue, records_in}
use Rattle.array_setup.specs.declared.ways.Selection.{Selection}
use Rattle.snap_fix.specs.Beginning.{BeginsNot, of_listing}
use Rattle.repair_scope.specs.Plan.{EntriesFit, column_entries, entries_of, entry_of}

-- each list of files is a listing
pub lists_are_listings : (olds news : List FolderView) (lists : List (List ListedFile)) → ListsAll olds news lists → All IsListing lists
lists_are_listings olds news lists all = All-from_get_or IsListing lists [] (λ d lt. (all.each d (omega (arith, lt, all.as_many))).listing)

-- a fault of the listings
pub listing_fails : (olds news : List FolderView) (fault : ListingFault) → FailsListing olds news fault → BeginsNot olds news (of_listing fault)
listing_fails olds news (listing.Folder disk) fails = fails
listing_fails olds news listing.Memory fails = fails

-- all folders were listed
pub all_listed : (olds news : List FolderView) (lists : List (List ListedFile)) → length news ≡ length olds → ListsAll olds news lists → RunsOut olds news
all_listed olds news lists as_many all = inr (
  length olds,
  record {
    as_many = as_many;
    within = omega arith;
    before = λ d lt. (all.each d lt).call;
    ran_out = λ below. absurd (omega (arith, below));
    behind = λ d above lt. absurd (omega (arith, above, lt));
  },
)

-- there is an entry for each record of each column
pub entries_fit : (selection : Selection) (names : List (List ℕ)) (table : TableValue) (lists : List (List ListedFile)) → EntriesFit table (entries_of selection names table lists)
entries_fit selection names table lists = record {
  columns = length-map-range_with_len (column_entries selection names table lists) 0 (length table.columns);
  records = λ d within.
      ap length (get_or-map-range_with_len (column_entries selection names table lists) 0 (length table.columns) d d [] within (omega arith))
      ∙ length-map (records_in table d) (entry_of selection (get_or names d []) (get_or lists d []));
}
