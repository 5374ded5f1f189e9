-- All levels of a row of blocks, which stand end to end, and the vectors that they are made of.
use Rattle.std.specs.Prelude.{◌≡◌, ℕ, ◌+◌, ◌*◌, ◌<◌, ◌≤◌, List, [], length, map, slice_index_or, slice_range}
use Rattle.std.specs.Borrow.{Bor}
use Rattle.cauchy.specs.Lanes.{HasLanes, AreLaneTables}
use Rattle.cauchy.specs.Matrix.{entry_of, parity_byte, parity_of}
use Rattle.cauchy.specs.System.{byte_in}

-- the blocks of a row
abbrev pub blocks_of : List (Bor (List ℕ)) → List (List ℕ)
blocks_of blocks = map (λ block. block.now) blocks

-- block r, where blocks of so many bytes stand end to end, is level r of the row
abbrev pub HoldsLevel : ℕ → List (List ℕ) → ℕ → List ℕ → Type 0
HoldsLevel size row r out = slice_range out (r * size) (r * size + size) ≡ parity_of r size row

-- for each of the first levels the tables of the column's entry
abbrev pub AreColumnTables : ℕ → ℕ → List (List (List ℕ)) → Type 0
AreColumnTables count column tables = (r : ℕ) → r < count → AreLaneTables (entry_of r column) (slice_index_or tables r [])

-- the same for each of the first columns
abbrev pub AreEntryTables : ℕ → ℕ → List (List (List (List ℕ))) → Type 0
AreEntryTables count columns tables = (c : ℕ) → c < columns → AreColumnTables count c (slice_index_or tables c [])

-- a vector for each of the first levels, with 32 bytes of that level of the row
pub record HoldLanes (count start : ℕ) (row : List (List ℕ)) (lanes : List (List ℕ)) : Type 0 where
  pub long : length lanes ≡ count
  pub each : (r : ℕ) → r < count → HasLanes (slice_index_or lanes r []) (λ k. parity_byte r row (start + k))

-- of the bytes from start on and before end, those of the first levels `done` are the row's, and those before start are as
-- they were
pub record FillsWithin (start end done count size : ℕ) (row : List (List ℕ)) (old new : List ℕ) : Type 0 where
  pub same_length : length new ≡ length old
  pub within : (r p : ℕ) → r < done → start ≤ p → p < end → byte_in size new p r ≡ parity_byte r row p
  pub before : (r p : ℕ) → r < count → p < start → byte_in size new p r ≡ byte_in size old p r
