-- What a window has once its cells were read and before their blocks are hashed, and what it has then.
use Rattle.std.specs.Prelude.{ℕ, ◌≤◌, List, ◌++◌, length, map, take, drop, All}
use Rattle.disk_model.specs.Folder.{FolderView}
use Rattle.file_table.specs.Table.{TableValue}
use Rattle.file_table.specs.declared.shape.Shape.{Shape}
use Rattle.stripe_reader.specs.Columns.{ReadsWindow}
use Rattle.stripe_reader.specs.Hashing.{IsUnhashed, hashed}
use Rattle.stripe_reader.specs.Held.{HoldsCells}
use Rattle.stripe_reader.specs.SlotValue.{SlotValue}
use Rattle.stripe_reader.specs.Starts.{StartsValue}
use Rattle.stripe_reader.specs.WindowValue.{WindowValue}

-- the first slots of a lane with their digests, and the others as they are
abbrev pub hashed_front : Shape → ℕ → List SlotValue → List SlotValue
hashed_front shape n slots = map (hashed shape) (take n slots) ++ drop n slots

-- a window with the digests of all cells that were read last
abbrev pub hashed_window : Shape → WindowValue → WindowValue
hashed_window shape window = record window { lanes = map (hashed_front shape window.count) window.lanes }

-- cells were read into the first slots of a lane, and have no digests yet
pub record IsUnhashedFront (block_size n : ℕ) (slots : List SlotValue) : Type 0 where
  pub enough : n ≤ length slots
  pub unhashed : All (IsUnhashed block_size) (take n slots)

-- no cell that was read last has a digest yet
abbrev pub IsUnhashedWindow : WindowValue → Type 0
IsUnhashedWindow window = All (IsUnhashedFront window.block_size window.count) window.lanes

-- These stripes of all columns were read into a window and not hashed: its slots have no digests, and with their
-- digests they keep what was read. It keeps which cells of the table they have.
pub record FetchesWindow (table : TableValue) (starts : StartsValue) (stripes : List ℕ) (before after : WindowValue)
    (olds news : List FolderView) : Type 0 where
  pub unhashed : IsUnhashedWindow after
  pub cells : HoldsCells table stripes after
  pub read : ReadsWindow table starts stripes before (hashed_window table.shape after) olds news
