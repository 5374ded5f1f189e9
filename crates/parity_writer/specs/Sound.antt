-- When a table and parity are sound: each synced stripe has a row whose blocks have the recorded hashes, and whose
-- sums are its levels.
use Rattle.std.specs.Prelude.{◌≡◌, ℕ, ◌<◌, ◌≤◌, List, [], ◌∷◌, length, map, slice_index, slice_index_or, Bool, false, Option, None, Some}
use Rattle.std.specs.List.{range_with_len}
use Rattle.block_hash.specs.Hash.{hash}
use Rattle.block_hash.specs.declared.Digest16.{Digest16}
use Rattle.disk_model.specs.Bytes.{resized}
use Rattle.disk_model.specs.Files.{Files, parity_of}
use Rattle.file_table.specs.Cells.{CellView, StripeView, stripe_view}
use Rattle.file_table.specs.Table.{TableValue, info_at}
use Rattle.file_table.specs.declared.info.Mark.{Mark}
use Rattle.file_table.specs.declared.info.Mark.TheVariants.{Pending, Synced}
use Rattle.file_table.specs.declared.shape.Shape.{Shape}
use Rattle.stripe_reader.specs.Reading.{block_length}
use Rattle.parity_writer.specs.Parity.{Row, HasLevel}

-- a row for each stripe
abbrev pub Snapshot : Type 0
Snapshot = ℕ → Row

-- the rows that each stripe was closed with, the newest first
abbrev pub Closed : Type 0
Closed = ℕ → List Row

-- the newest of a stripe's rows, and no blocks where there is none
abbrev pub newest : List Row → Row
newest [] = []
newest (row ∷ rows) = row

-- of each stripe the row that it was last closed with
abbrev pub last_row : Closed → Snapshot
last_row snapshot stripe = newest (snapshot stripe)

-- a stripe of the table that is marked synced
pub record IsSynced (table : TableValue) (stripe : ℕ) : Type 0 where
  pub within : stripe < length table.infos
  pub mark : (info_at table.infos stripe).mark ≡ Synced

-- the real length of a block
abbrev pub real_length : Shape → CellView → ℕ
real_length shape cell = block_length shape.block_size cell.meta.size cell.index

-- a block of a row by what is seen of its cell: its bytes have the recorded hash, at their real length, and zeros are
-- behind them
pub record IsBlockOf (shape : Shape) (cell : CellView) (block : List ℕ) : Type 0 where
  pub hash : cell.hash ≡ Some (record { 0 = hash shape.kind shape.seed (resized block (real_length shape cell)) })
  pub zeros : (i : ℕ) → real_length shape cell ≤ i → slice_index block i ≡ 0

-- the same, or zeros where the column has no cell
abbrev pub IsBlockAt : Shape → Option CellView → List ℕ → Type 0
IsBlockAt shape None block = (i : ℕ) → slice_index block i ≡ 0
IsBlockAt shape (Some cell) block = IsBlockOf shape cell block

-- a row that stands at a stripe, column by column
pub record IsRowOf (shape : Shape) (seen : StripeView) (row : Row) : Type 0 where
  pub as_many : length row ≡ length seen.cells
  pub blocks : (d : ℕ) → d < length seen.cells → IsBlockAt shape (slice_index_or seen.cells d None) (slice_index_or row d [])

-- ---- the cells that a stripe was closed with

-- what a block had when its stripe was closed: its real length, and its hash
pub record PastCell : Type 0 where
  pub length : ℕ
  pub hash : Digest16

-- column by column, where a column had a block
abbrev pub PastRow : Type 0
PastRow = List (Option PastCell)

abbrev pub past_cell : ℕ → Option Digest16 → Option PastCell
past_cell real None = None
past_cell real (Some digest) = Some (record { length = real; hash = digest })

-- of a cell that has its hash
abbrev pub closed_cell : Shape → Option CellView → Option PastCell
closed_cell shape None = None
closed_cell shape (Some cell) = past_cell (real_length shape cell) cell.hash

-- of the cells of a stripe
abbrev pub closed_cells : TableValue → ℕ → PastRow
closed_cells table stripe = map (closed_cell table.shape) (stripe_view table stripe).cells

-- the cells that parity was last closed with: of a synced stripe its own. Of a pending one they are not known.
abbrev pub closed_row_by : Mark → PastRow → Option PastRow
closed_row_by Synced cells = Some cells
closed_row_by Pending cells = None

abbrev pub closed_row : TableValue → ℕ → Option PastRow
closed_row table stripe = closed_row_by (info_at table.infos stripe).mark (closed_cells table stripe)

-- a block with this hash, at this length, and with zeros behind it
pub record IsClosedBlock (shape : Shape) (cell : PastCell) (block : List ℕ) : Type 0 where
  pub is_hash : cell.hash ≡ record { 0 = hash shape.kind shape.seed (resized block cell.length) }
  pub zeros : (i : ℕ) → cell.length ≤ i → slice_index block i ≡ 0

-- the same, or zeros where there was no block
abbrev pub HasCell : Shape → Option PastCell → List ℕ → Type 0
HasCell shape None block = (i : ℕ) → slice_index block i ≡ 0
HasCell shape (Some cell) block = IsClosedBlock shape cell block

-- A row that a stripe was closed with, column by column. Behind the end of either list there is no block: so a column that
-- comes later asks for nothing.
abbrev pub HasCells : Shape → PastRow → Row → Type 0
HasCells shape cells row = (d : ℕ) → HasCell shape (slice_index_or cells d None) (slice_index_or row d [])

-- a row's blocks in the first columns, and empty ones where it has none
abbrev pub across : ℕ → Row → Row
across columns row = map (λ (d : ℕ). slice_index_or row d []) (range_with_len 0 columns)

-- Each synced stripe was closed. Where its cells are known that it was closed with, it was last closed with a row of these;
-- and each of its levels is the sum of this row, but for those whose bytes were changed from outside.
pub record Sound (table : TableValue) (files : Files) (snapshot : Closed) (is_changed : ℕ → ℕ → Bool) : Type 0 where
  pub was_closed : (stripe : ℕ) → IsSynced table stripe → 0 < length (snapshot stripe)
  pub rows : (stripe : ℕ) (cells : PastRow) → IsSynced table stripe → closed_row table stripe ≡ Some cells
      → HasCells table.shape cells (last_row snapshot stripe)
  pub sums : (stripe level : ℕ) → IsSynced table stripe → level < table.shape.levels → is_changed stripe level ≡ false
      → HasLevel table.shape.block_size level stripe (last_row snapshot stripe) (parity_of files level)
