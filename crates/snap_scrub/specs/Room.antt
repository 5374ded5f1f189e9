-- The memory of a scrub.
use Rattle.std.specs.Prelude.{◌≡◌, ℕ, ◌<◌, ◌≤◌, length, All}
use Rattle.content_file.specs.Save.{piece_size}
use Rattle.file_table.specs.Table.{TableValue}
use Rattle.parity_writer.specs.Summing.{HaveSize}
use Rattle.stripe_reader.specs.Fetched.{hashed_window}
use Rattle.stripe_reader.specs.Starts.{recorded_starts}
use Rattle.stripe_reader.specs.WindowValue.{Fits}
use Rattle.snap_scrub.specs.declared.room.Check.{Check}
use Rattle.snap_scrub.specs.declared.room.Room.{Room}
use Rattle.snap_scrub.specs.declared.beginning.Work.{Work}

-- room for the levels of a stripe of a table, and for the sums of some
pub record IsCheckFor (table : TableValue) (check : Check) : Type 0 where
  pub levels : check.levels.block_size ≡ table.shape.block_size
  pub sums : All (HaveSize table.shape.block_size) check.sums.items

-- it was used, and its sums stay
pub record KeepsCheck (table : TableValue) (old new : Check) : Type 0 where
  pub room : IsCheckFor table new
  pub sums : new.sums ≡ old.sums

-- it was used, and has as many sums as before
pub record UsesCheck (table : TableValue) (old new : Check) : Type 0 where
  pub room : IsCheckFor table new
  pub as_many : length new.sums.items ≡ length old.sums.items

-- room for two windows of a table, for what they are compared in, with sums for each stripe of either, and for a piece of a draft
pub record IsRoomFor (table : TableValue) (room : Room) : Type 0 where
  pub starts : room.starts ≡ recorded_starts table
  pub near : Fits table room.near
  pub far : Fits table room.far
  pub check : IsCheckFor table room.check
  pub near_sums : room.near.room ≤ length room.check.sums.items
  pub far_sums : room.far.room ≤ length room.check.sums.items
  pub piece : length room.piece.items ≡ piece_size

-- the near window was hashed, the far one was used, and the check, and nothing else
pub record UsesRoom (table : TableValue) (old new : Room) : Type 0 where
  pub rest : new ≡ record old { near = hashed_window table.shape old.near; far = new.far; check = new.check }
  pub check : UsesCheck table old.check new.check

-- there is room to begin so many stripes with, and to go on with those that the near window has no room for
pub record IsEnoughFor (stripes : ℕ) (room : Room) : Type 0 where
  pub first : 0 < stripes → 0 < room.near.room
  pub more : room.near.room < stripes → 0 < room.far.room

-- stripes of a table, a verdict for each, and room
pub record IsWorkFor (table : TableValue) (work : Work) : Type 0 where
  pub within : All (λ stripe. stripe < length table.infos) work.stripes.items
  pub verdicts : length work.verdicts.items ≡ length work.stripes.items
  pub room : IsRoomFor table work.room
