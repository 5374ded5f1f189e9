-- The blocks that follow from the first choice of levels, which are made before others are tried, and digests of some of them.
use Rattle.std.specs.Prelude.{◌≡◌, ℕ, ◌*◌, ◌<◌, ◌≤◌, List, length, take, slice_index_or, true, Option, None, Some, All}
use Rattle.block_hash.specs.Hash.{hash}
use Rattle.block_hash.specs.declared.Digest16.{Digest16}
use Rattle.file_table.specs.declared.shape.Shape.{Shape}
use Rattle.parity_writer.specs.LevelsValue.{LevelValue}
use Rattle.parity_writer.specs.Parity.{Row}
use Rattle.parity_writer.specs.WindowRow.{row_at}
use Rattle.stripe_reader.specs.WindowValue.{WindowValue}
use Rattle.stripe_examiner.specs.declared.room.FirstChoice.{FirstChoice}
use Rattle.stripe_examiner.specs.declared.room.StripeRoom.{StripeRoom}
use Rattle.stripe_examiner.specs.declared.search.Wanted.{Wanted}
use Rattle.stripe_examiner.specs.Judged.{JudgesStripe, KeepsRead}
use Rattle.stripe_examiner.specs.Known.{AreRemainders, whole_levels}
use Rattle.stripe_examiner.specs.Marks.{levels_read, wanted_marked}
use Rattle.repair_scope.specs.Plan.{FixPlan}
use Rattle.stripe_examiner.specs.Room.{IsStripeRoomFor}
use Rattle.stripe_examiner.specs.Search.{FollowsFrom, block_in, found_in}

-- each digest that there is, of the first so many, is that of the block of its number
abbrev pub AreDigestsOf : ℕ → Shape → List ℕ → List (Option Digest16) → Type 0
AreDigestsOf count shape blocks digests =
    (j : ℕ) (digest : Digest16) → j < count → slice_index_or digests j None ≡ Some digest
    → digest.0 ≡ hash shape.kind shape.seed (block_in shape.block_size blocks j)

-- there are enough levels, and the blocks follow from the first of them
pub record FollowsFirst (shape : Shape) (wanteds : List Wanted) (remainders levels work : List ℕ) : Type 0 where
  pub enough : length wanteds ≤ length levels
  pub follows : FollowsFrom shape wanteds remainders (take (length wanteds) levels) (found_in shape wanteds work)

-- before a search: the blocks were made, or they were not, and the digests are theirs
pub record IsReady (shape : Shape) (wanteds : List Wanted) (remainders levels work : List ℕ) (first : FirstChoice) : Type 0 where
  pub made : first.is_made ≡ true → FollowsFirst shape wanteds remainders levels work
  pub digests : AreDigestsOf 6 shape work first.digests

-- what is left of the levels of a row, and the blocks that follow from the first of those that were read whole
pub record IsFirstOf (shape : Shape) (wanteds : List Wanted) (row : Row) (levels : List LevelValue)
    (remainders work : List ℕ) : Type 0 where
  pub are : AreRemainders shape.block_size row levels remainders
  pub follows : FollowsFirst shape wanteds remainders (whole_levels levels) work

-- they were made, or they were not, and the digests are theirs
pub record HasFirst (shape : Shape) (wanteds : List Wanted) (row : Row) (levels : List LevelValue) (first : FirstChoice)
    (remainders work : List ℕ) : Type 0 where
  pub made : first.is_made ≡ true → IsFirstOf shape wanteds row levels remainders work
  pub digests : AreDigestsOf 6 shape work first.digests

-- the same of the room of a stripe of a window
abbrev pub HasFirstIn : FixPlan → ℕ → ℕ → WindowValue → StripeRoom → Type 0
HasFirstIn plan stripe i window own =
    HasFirst plan.table.shape (wanted_marked plan stripe own.marks.items) (row_at window i) (levels_read true own.levels) own.first
    own.remainders.items own.blocks.items

-- they were made in it, where that can be done, and what was read stays
pub record MakesFirst (plan : FixPlan) (stripe i : ℕ) (window : WindowValue) (old new : StripeRoom) : Type 0 where
  pub room : IsStripeRoomFor plan.table new
  pub kept : KeepsRead old new
  pub first : HasFirstIn plan stripe i window new

-- there is room for six blocks of so many bytes in each room
abbrev pub HaveSixBlocks : ℕ → List StripeRoom → Type 0
HaveSixBlocks size rooms = All (λ (own : StripeRoom). length own.blocks.items ≡ 6 * size) rooms

-- its digests may have become more, and all else is as it was
pub record HashesRoom (shape : Shape) (old new : StripeRoom) : Type 0 where
  pub kept : KeepsRead old new
  pub remainders : new.remainders ≡ old.remainders
  pub blocks : new.blocks ≡ old.blocks
  pub is_made : new.first.is_made ≡ old.first.is_made
  pub digests : AreDigestsOf 6 shape old.blocks.items old.first.digests → AreDigestsOf 6 shape new.blocks.items new.first.digests

-- the same of rooms
pub record HashesRooms (shape : Shape) (before after : List StripeRoom) : Type 0 where
  pub as_many : length after ≡ length before
  pub each : (k : ℕ) (other : StripeRoom) → k < length before
      → HashesRoom shape (slice_index_or before k other) (slice_index_or after k other)

-- a stripe was judged in its room, and what was read of it stays
pub record JudgesRoom (plan : FixPlan) (stripe i : ℕ) (window : WindowValue) (old new : StripeRoom) : Type 0 where
  pub room : IsStripeRoomFor plan.table new
  pub kept : KeepsRead old new
  pub judged : JudgesStripe plan stripe i window new
