-- At which positions the blocks of a column stand.
use Rattle.std.specs.Prelude.{ℕ, zero, suc, List, [], ◌∷◌, ◌++◌, map, filter, take, drop, sum_by, not, Option, None, Some}
use Rattle.std.specs.List.{flat_map}
use Rattle.std.specs.Ordering.{nat_cmp}
use Rattle.std.specs.FinSet.{FinSet, contains, insert, from_list}
use Rattle.position_alloc.specs.Lowest.{lowest_free}
use Rattle.file_table.specs.declared.block.Block.{Block}
use Rattle.file_table.specs.Table.{Record, Column, block_count, column_blocks, positions_of}
use Rattle.array_scan.specs.declared.sorting.Sorted.{Sorted}
use Rattle.array_scan.specs.Fates.{record_of, origin}

-- the blocks that a file keeps, and all that stay in the column
abbrev pub kept_blocks : List Record → Option ℕ → List Block
kept_blocks records None = []
kept_blocks records (Some i) = (record_of records i).blocks

abbrev pub staying : List Record → List Sorted → List ℕ
staying records files = positions_of (flat_map (λ (file : Sorted). kept_blocks records (origin file.fate)) files)

-- the positions of the blocks that stay. Those of the others are freed
abbrev pub taken : List Record → List Sorted → FinSet nat_cmp
taken records files = from_list (staying records files)

-- how many blocks of a file, and of all, have no position yet
abbrev pub blocks_without : ℕ → Option ℕ → ℕ
blocks_without blocks None = blocks
blocks_without blocks (Some i) = 0

abbrev pub needed : ℕ → Sorted → ℕ
needed block_size file = blocks_without (block_count block_size file.meta.size) (origin file.fate)

abbrev pub all_needed : ℕ → List Sorted → ℕ
all_needed block_size files = sum_by (needed block_size) files

-- so many positions, each the lowest that is free then
abbrev pub free_positions : FinSet nat_cmp → ℕ → List ℕ
free_positions set zero = []
free_positions set (suc count) = lowest_free set ∷ free_positions (insert set (lowest_free set)) count

-- the positions that a column gives out
abbrev pub given : ℕ → Column → List Sorted → List ℕ
given block_size column files = free_positions (taken column.records files) (all_needed block_size files)

-- blocks without a hash
abbrev pub bare_block : ℕ → Block
bare_block position = record { position = position; hash = None }

abbrev pub bare : List ℕ → List Block
bare positions = map bare_block positions

-- the blocks of a file: those that it keeps, or as many as it needs at the first of these positions
abbrev pub blocks_by : List Record → List ℕ → ℕ → Option ℕ → List Block
blocks_by records free blocks None = bare (take blocks free)
blocks_by records free blocks (Some i) = (record_of records i).blocks

abbrev pub laid_record : ℕ → List Record → List ℕ → Sorted → Record
laid_record block_size records free file =
    record { path = file.path; meta = file.meta; blocks = blocks_by records free (block_count block_size file.meta.size) (origin file.fate) }

-- the files of a column, which take these positions in turn
abbrev pub laid_records : ℕ → List Record → List ℕ → List Sorted → List Record
laid_records block_size records free [] = []
laid_records block_size records free (file ∷ files) =
    laid_record block_size records free file ∷ laid_records block_size records (drop (needed block_size file) free) files

-- their blocks, one file after another
abbrev pub blocks_laid : ℕ → List Record → List ℕ → List Sorted → List Block
blocks_laid block_size records free files = flat_map (λ (kept : Record). kept.blocks) (laid_records block_size records free files)

-- a column after these files were laid out in it
abbrev pub laid_column : ℕ → Column → List Sorted → Column
laid_column block_size column files =
    record { name = column.name; records = laid_records block_size column.records (given block_size column files) files }

-- the positions whose block is not the same kept block as before: those that were given out, and those that were freed
abbrev pub freed : Column → List Sorted → List ℕ
freed column files = filter (λ (position : ℕ). not (contains (taken column.records files) position)) (positions_of (column_blocks column))

abbrev pub touched : ℕ → Column → List Sorted → List ℕ
touched block_size column files = given block_size column files ++ freed column files
