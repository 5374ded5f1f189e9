-- Kept files as they come from a listing, and tables whose records are just these.
use Rattle.std.specs.Prelude.{◌≡◌, ℕ, ◌<◌, List, [], length, map, get_or, All, AllPairs}
use Rattle.disk_model.specs.Path.{IsRecordPath}
use Rattle.disk_model.specs.Tree.{IsListedBefore}
use Rattle.file_table.specs.Valid.{IsMeta}
use Rattle.file_table.specs.Table.{Record, TableValue, column_at}
use Rattle.folder_listing.specs.Kept.{ListedFile}

-- the files of records, as they were listed
abbrev pub own_files : List Record → List ListedFile
own_files records = map (λ (kept : Record). (kept.path, kept.meta)) records

-- the kept files of each column are the files of its records, with their sizes and stamps
pub record HoldsJust (table : TableValue) (kept : List (List ListedFile)) : Type 0 where
  pub count : length kept ≡ length table.columns
  pub each : (d : ℕ) → d < length table.columns → get_or kept d [] ≡ own_files (column_at table.columns d).records

-- kept files of a column: paths that a record may have, in the order of a listing, each with a size and a stamp that fit their fields
pub record AreKeptFiles (files : List ListedFile) : Type 0 where
  pub order : AllPairs (λ (a b : ListedFile). IsListedBefore a.0 b.0) files
  pub paths : All (λ (file : ListedFile). IsRecordPath file.0) files
  pub metas : All (λ (file : ListedFile). IsMeta file.1) files

-- kept files of each column of a table
pub record AreKept (table : TableValue) (kept : List (List ListedFile)) : Type 0 where
  pub count : length kept ≡ length table.columns
  pub each : (d : ℕ) → d < length table.columns → AreKeptFiles (get_or kept d [])
