-- The memory of a run.
use Rattle.std.specs.Prelude.{◌≡◌, ℕ, ◌*◌, ◌<◌, max, min, List, length, All}
use Rattle.file_table.specs.Table.{TableValue}
use Rattle.stripe_reader.specs.WindowValue.{Fits, stripe_count}
use Rattle.stripe_examiner.specs.declared.room.Room.{Room}
use Rattle.stripe_examiner.specs.declared.room.StripeRoom.{StripeRoom}

-- room for one stripe: for what is found in its cells, for their marks, for its levels and for a search
pub record IsStripeRoomFor (table : TableValue) (own : StripeRoom) : Type 0 where
  pub found : length own.found.items ≡ length table.columns
  pub marks : length own.marks.items ≡ length table.columns
  pub levels : own.levels.block_size ≡ table.shape.block_size
  pub remainders : length own.remainders.items ≡ 6 * table.shape.block_size
  pub blocks : length own.blocks.items ≡ 6 * table.shape.block_size

-- a room for each of so many stripes
pub record AreRoomsFor (table : TableValue) (count : ℕ) (rooms : List StripeRoom) : Type 0 where
  pub as_many : length rooms ≡ count
  pub each : All (IsStripeRoomFor table) rooms

-- how many stripes a window of a check or a fix has: as many as one of any run, but no more than the table has, and at
-- least one
abbrev pub window_room : TableValue → ℕ
window_room table = max 1 (min (stripe_count (length table.columns) table.shape.block_size) (length table.infos))

-- room for a window of a run, with just so many stripes as one has, for each of them, and for one block
pub record IsRoomFor (table : TableValue) (room : Room) : Type 0 where
  pub some : 0 < room.window.room
  pub just : room.window.room ≡ window_room table
  pub window : Fits table room.window
  pub block : length room.block.items ≡ table.shape.block_size
  pub as_many : length room.stripes.items ≡ room.window.room
  pub each : All (IsStripeRoomFor table) room.stripes.items
