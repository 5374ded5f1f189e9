-- The table of the kept files of each column.
use Rattle.std.specs.Prelude.{◌≡◌, ℕ, ◌<◌, List, [], length, map, filter, get_or, Bool, true, false, not, nat_lt, nat_eq, ◌&&◌, if◌then◌else◌, All}
use Rattle.std.specs.List.{flat_map, range_with_len, list_any}
use Rattle.file_table.specs.declared.info.Info.{Info}
use Rattle.file_table.specs.declared.info.Mark.{Mark}
use Rattle.file_table.specs.declared.info.Mark.TheVariants.{Pending, Synced}
use Rattle.file_table.specs.Table.{Column, TableValue, column_at, blocks_of, positions_of, end_of, info_at, no_info}
use Rattle.array_scan.specs.declared.sorting.Sorted.{Sorted}
use Rattle.array_scan.specs.declared.sorting.ColumnFiles.{ColumnFiles}
use Rattle.array_scan.specs.declared.placing.Given.{Given}
use Rattle.folder_listing.specs.Kept.{ListedFile, each_column}
use Rattle.array_scan.specs.Fates.{sorted_files, IsSound, AreFates}
use Rattle.array_scan.specs.Laying.{laid_column, given, touched}

-- the kept files of a column, and of each column, with their fates
abbrev pub sorted_at : TableValue → List (List ListedFile) → ℕ → List Sorted
sorted_at old kept d = sorted_files (column_at old.columns d).records (get_or kept d [])

abbrev pub all_sorted : TableValue → List (List ListedFile) → List (List Sorted)
all_sorted old kept = each_column (sorted_at old kept) (length old.columns)

-- the columns of the new table
abbrev pub column_laid : TableValue → List (List Sorted) → ℕ → Column
column_laid old files d = laid_column old.shape.block_size (column_at old.columns d) (get_or files d [])

abbrev pub columns_laid : TableValue → List (List Sorted) → List Column
columns_laid old files = each_column (column_laid old files) (length old.columns)

-- the positions that a column gave out or freed, and those of all columns
abbrev pub touched_at : TableValue → List (List Sorted) → ℕ → List ℕ
touched_at old files d = touched old.shape.block_size (column_at old.columns d) (get_or files d [])

abbrev pub all_touched : TableValue → List (List Sorted) → List ℕ
all_touched old files = flat_map (touched_at old files) (range_with_len 0 (length old.columns))

-- A stripe is as it was where it was there and no column gave out or freed its position; any other is pending.
abbrev pub is_as_before : TableValue → List ℕ → ℕ → Bool
is_as_before old positions stripe = nat_lt stripe (length old.infos) && not (list_any (λ (p : ℕ). nat_eq p stripe) positions)

abbrev pub laid_info : TableValue → List ℕ → ℕ → Info
laid_info old positions stripe = if is_as_before old positions stripe then info_at old.infos stripe else no_info

-- the table of sorted files: it ends at the greatest position
abbrev pub laid_table : TableValue → List (List Sorted) → TableValue
laid_table old files =
    let columns = columns_laid old files in
    record {
      shape = old.shape;
      columns = columns;
      infos = map (laid_info old (all_touched old files)) (range_with_len 0 (end_of (positions_of (blocks_of columns))));
    }

-- the table of the kept files of each column
abbrev pub layout : TableValue → List (List ListedFile) → TableValue
layout old kept = laid_table old (all_sorted old kept)

-- the pending stripes, ascending
abbrev pub is_pending : Mark → Bool
is_pending Pending = true
is_pending Synced = false

abbrev pub pending_stripes : List Info → List ℕ
pending_stripes infos = filter (λ (stripe : ℕ). is_pending (info_at infos stripe).mark) (range_with_len 0 (length infos))

-- the files of each column, and the positions that it gives out
abbrev pub sorted_of : List ColumnFiles → List (List Sorted)
sorted_of columns = map (λ (column : ColumnFiles). column.files.items) columns

abbrev pub given_of : List Given → List (List ℕ)
given_of columns = map (λ (column : Given). column.positions.items) columns

abbrev pub given_at : TableValue → List (List Sorted) → ℕ → List ℕ
given_at old files d = given old.shape.block_size (column_at old.columns d) (get_or files d [])

-- files of the columns of a table: the records that they name are there, and the blocks of each are kept by one file at most
pub record AreSound (old : TableValue) (files : List (List Sorted)) : Type 0 where
  pub count : length files ≡ length old.columns
  pub each : (d : ℕ) → d < length old.columns → All (IsSound (length (column_at old.columns d).records)) (get_or files d [])
  pub fates : (d : ℕ) → d < length old.columns → AreFates (column_at old.columns d).records (get_or files d [])
