-- The stripes of a window whose levels were read are marked, one after another, and what was found is put into their rows.
use Rattle.std.specs.Prelude.{◌≡◌, ℕ, ◌<◌, List, length, get_or, slice_index_or, true, false}
use Rattle.disk_model.specs.Vault.{VaultView}
use Rattle.stripe_reader.specs.WindowValue.{WindowValue, slot_at}
use Rattle.stripe_examiner.specs.declared.marking.SlotMark.{SlotMark}
use Rattle.stripe_examiner.specs.declared.room.StripeRoom.{StripeRoom}
use Rattle.stripe_examiner.specs.Asking.{AsksSpare}
use Rattle.stripe_examiner.specs.Facts.{StripeFacts}
use Rattle.stripe_examiner.specs.Judged.{row_judged}
use Rattle.stripe_examiner.specs.Looking.{LevelsAreRead, numbers_of, facts_at}
use Rattle.stripe_examiner.specs.Marks.{ChangesStripe, IsMarked, MarkCells, column_mark, is_marked_missing, levels_read, row_if, gifts_after, slots_at}
use Rattle.repair_scope.specs.Plan.{FixPlan, seen_at, is_searched}
use Rattle.stripe_examiner.specs.Room.{AreRoomsFor, IsStripeRoomFor}
use Rattle.stripe_examiner.specs.Shown.{IsFound, found_at}
use Rattle.stripe_examiner.specs.Spare.{SpareView}

-- the number of a stripe of a window
abbrev pub number_at : List ℕ → ℕ → ℕ
number_at numbers k = get_or numbers k 0

-- a window is as large as another, has as many stripes, and keeps the same cells of the table
pub record IsAsLarge (before after : WindowValue) : Type 0 where
  pub room : after.room ≡ before.room
  pub block_size : after.block_size ≡ before.block_size
  pub count : after.count ≡ before.count
  pub lanes : length after.lanes ≡ length before.lanes
  pub cells : after.cells ≡ before.cells

-- the levels of the stripes of these numbers were read into their rooms, one stripe after another
pub record ReadsLevelsOf (plan : FixPlan) (numbers : List ℕ) (rooms : List StripeRoom) (old new : VaultView) : Type 0 where
  pub stripes : List StripeFacts
  pub numbers_are : numbers_of stripes ≡ numbers
  pub are : (k : ℕ) (other : StripeRoom) → k < length numbers
      → (facts_at stripes k).levels ≡ levels_read (is_searched plan (number_at numbers k)) (slice_index_or rooms k other).levels
  pub counts : (k : ℕ) (other : StripeRoom) → k < length numbers → is_searched plan (number_at numbers k) ≡ true
      → (slice_index_or rooms k other).levels.count ≡ plan.table.shape.levels
  pub read : LevelsAreRead plan stripes old new

-- the same, and there is room for each of these stripes
pub record ReadsRooms (plan : FixPlan) (numbers : List ℕ) (rooms : List StripeRoom) (old new : VaultView) : Type 0 where
  pub rooms_are : AreRoomsFor plan.table (length numbers) rooms
  pub read : ReadsLevelsOf plan numbers rooms old new

-- the marks of the columns and of the cells of a stripe, by what their slots kept before and after
pub record HasMarks (plan : FixPlan) (stripe i : ℕ) (before : WindowValue) (marks : List SlotMark) (after : WindowValue) : Type 0 where
  pub as_many : length marks ≡ length plan.table.columns
  pub each : (d : ℕ) → d < length plan.table.columns
      → IsMarked (is_searched plan stripe) plan.table.shape (seen_at plan stripe d) (slot_at before i d)
      (column_mark marks d) (slot_at after i d)
  pub cells : MarkCells plan stripe i before marks

-- what was found in its cells was noted, and then they were marked
pub record MarksStripe (plan : FixPlan) (stripe i : ℕ) (before after : WindowValue) (own : StripeRoom) : Type 0 where
  pub cells : HasMarks plan stripe i before own.marks.items after
  pub found : (d : ℕ) → d < length plan.table.columns → IsFound plan stripe (slot_at before i d) d (found_at own.found.items d)

-- the same, in its room: the levels that were read stay, and so do the other stripes of the window
pub record MarksIn (plan : FixPlan) (stripe i : ℕ) (before after : WindowValue) (old own : StripeRoom) : Type 0 where
  pub room : IsStripeRoomFor plan.table own
  pub levels : own.levels ≡ old.levels
  pub marked : MarksStripe plan stripe i before after own
  pub changes : ChangesStripe i before after

-- the same of the stripes of these numbers, each in its room
pub record MarksStripes (plan : FixPlan) (numbers : List ℕ) (before after : WindowValue) (olds rooms : List StripeRoom) : Type 0 where
  pub rooms_are : AreRoomsFor plan.table (length numbers) rooms
  pub levels : (k : ℕ) (other : StripeRoom) → k < length numbers
      → (slice_index_or rooms k other).levels ≡ (slice_index_or olds k other).levels
  pub large : IsAsLarge before after
  pub marked : (k : ℕ) (other : StripeRoom) → k < length numbers
      → MarksStripe plan (number_at numbers k) k before after (slice_index_or rooms k other)

-- what the spare gave for the damaged cells of these stripes, by their marks
pub record AsksForMarked (plan : FixPlan) (numbers : List ℕ) (before after : WindowValue) (rooms : List StripeRoom)
    (old new : SpareView) : Type 0 where
  pub stripes : List StripeFacts
  pub numbers_are : numbers_of stripes ≡ numbers
  pub slots : (k : ℕ) → k < length numbers → (facts_at stripes k).slots ≡ slots_at before k
  pub gifts : (k : ℕ) (other : StripeRoom) → k < length numbers
      → (facts_at stripes k).gifts ≡ gifts_after k after (slice_index_or rooms k other).marks.items
  pub asked : AsksSpare plan stripes old new

-- the blocks that were found of a stripe stand in its row, where that is known
pub record PutsStripe (plan : FixPlan) (stripe i : ℕ) (before after : WindowValue) (own : StripeRoom) : Type 0 where
  pub row : row_if own.known after i ≡ row_judged plan stripe i before own
  pub others : (d : ℕ) → is_marked_missing (column_mark own.marks.items d) ≡ false → slot_at after i d ≡ slot_at before i d
