-- A window of stripes is examined: their cells are read beside their levels, the spare is asked, and what follows is judged.
use Rattle.std.specs.Prelude.{◌≡◌, ℕ, ◌<◌, ◌≤◌, List, length, slice_index_or, All}
use Rattle.disk_model.specs.Folder.{FolderView}
use Rattle.disk_model.specs.Vault.{VaultView}
use Rattle.stripe_reader.specs.Columns.{ReadsWindow}
use Rattle.stripe_reader.specs.Fetched.{IsUnhashedWindow, hashed_window}
use Rattle.stripe_reader.specs.Held.{CanRead, HoldsCells}
use Rattle.stripe_reader.specs.Starts.{StartsValue, StartsFit}
use Rattle.stripe_reader.specs.WindowValue.{WindowValue, Fits}
use Rattle.stripe_examiner.specs.declared.room.Room.{Room}
use Rattle.stripe_examiner.specs.declared.room.StripeRoom.{StripeRoom}
use Rattle.stripe_examiner.specs.Asking.{AsksSpare}
use Rattle.stripe_examiner.specs.Facts.{StripeFacts}
use Rattle.stripe_examiner.specs.Known.{AreFacts}
use Rattle.stripe_examiner.specs.Looking.{LevelsAreRead, numbers_of, facts_at}
use Rattle.stripe_examiner.specs.MarkedWindow.{IsAsLarge, number_at}
use Rattle.stripe_examiner.specs.Marks.{levels_read, slots_at}
use Rattle.repair_scope.specs.Plan.{FixPlan, EntriesFit, is_searched}
use Rattle.stripe_examiner.specs.Room.{AreRoomsFor, IsRoomFor, IsStripeRoomFor}
use Rattle.stripe_examiner.specs.Shown.{ShowsStripe}
use Rattle.stripe_examiner.specs.Spare.{SpareView}

-- stripes of these numbers can be examined in a room, with files where they stood
pub record CanExamineWindow (plan : FixPlan) (starts : StartsValue) (numbers : List ℕ) (room : Room) : Type 0 where
  pub entries : EntriesFit plan.table plan.entries
  pub starts_fit : StartsFit plan.table starts
  pub within : All (λ stripe. stripe < length plan.table.infos) numbers
  pub room_is : IsRoomFor plan.table room
  pub enough : length numbers ≤ room.window.room

-- These are the facts of the stripes: their cells were read into the window, and stripe after stripe the levels of those whose recovery is
-- tried, and the spare gave what the facts say. The room of each of them shows its facts.
pub record ExaminesWindow (plan : FixPlan) (starts : StartsValue) (numbers : List ℕ) (before after : Room)
    (folders folders_after : List FolderView) (vault vault_after : VaultView) (spare spare_after : SpareView) : Type 0 where
  pub stripes : List StripeFacts
  pub numbers_are : numbers_of stripes ≡ numbers
  pub window : WindowValue
  pub read : ReadsWindow plan.table starts numbers before.window window folders folders_after
  pub slots : (k : ℕ) → k < length stripes → (facts_at stripes k).slots ≡ slots_at window k
  pub are : All (AreFacts plan) stripes
  pub each : (k : ℕ) (other : StripeRoom) → k < length stripes
      → ShowsStripe plan (facts_at stripes k) k after.window (slice_index_or after.stripes.items k other)
  pub levels : LevelsAreRead plan stripes vault vault_after
  pub asked : AsksSpare plan stripes spare spare_after
  pub room : IsRoomFor plan.table after
  pub as_large : after.window.room ≡ before.window.room
  pub count : after.window.count ≡ length numbers
  pub cells : HoldsCells plan.table numbers after.window

-- stripes of these numbers can be examined in a window, of so many folders, with a room for each of them, or more
pub record CanExamineRooms (plan : FixPlan) (starts : StartsValue) (numbers : List ℕ) (window : WindowValue) (folders : ℕ)
    (rooms : List StripeRoom) : Type 0 where
  pub entries : EntriesFit plan.table plan.entries
  pub read : CanRead plan.table starts numbers window folders
  pub as_many : length numbers ≤ length rooms
  pub each : All (IsStripeRoomFor plan.table) rooms

-- they were, and this is what the window and the rooms show
pub record ExaminesRooms (plan : FixPlan) (starts : StartsValue) (numbers : List ℕ) (before after : WindowValue) (rooms : List StripeRoom)
    (folders folders_after : List FolderView) (vault vault_after : VaultView) (spare spare_after : SpareView) : Type 0 where
  pub stripes : List StripeFacts
  pub numbers_are : numbers_of stripes ≡ numbers
  pub window : WindowValue
  pub read : ReadsWindow plan.table starts numbers before window folders folders_after
  pub slots : (k : ℕ) → k < length stripes → (facts_at stripes k).slots ≡ slots_at window k
  pub are : All (AreFacts plan) stripes
  pub each : (k : ℕ) (other : StripeRoom) → k < length stripes
      → ShowsStripe plan (facts_at stripes k) k after (slice_index_or rooms k other)
  pub levels : LevelsAreRead plan stripes vault vault_after
  pub asked : AsksSpare plan stripes spare spare_after
  pub as_many : length numbers ≤ length rooms
  pub rooms_are : All (IsStripeRoomFor plan.table) rooms
  pub fits : Fits plan.table after
  pub as_large : after.room ≡ before.room
  pub count : after.count ≡ length numbers
  pub cells : HoldsCells plan.table numbers after

-- Stripes whose cells and levels were read were examined, each in its room, which shows its facts: these are of what was read.
pub record ExaminesRead (plan : FixPlan) (numbers : List ℕ) (read after : WindowValue) (olds rooms : List StripeRoom)
    (spare spare_after : SpareView) : Type 0 where
  pub stripes : List StripeFacts
  pub numbers_are : numbers_of stripes ≡ numbers
  pub slots : (k : ℕ) → k < length stripes → (facts_at stripes k).slots ≡ slots_at read k
  pub are : All (AreFacts plan) stripes
  pub each : (k : ℕ) (other : StripeRoom) → k < length stripes
      → ShowsStripe plan (facts_at stripes k) k after (slice_index_or rooms k other)
  pub levels : (k : ℕ) (other : StripeRoom) → k < length numbers
      → (facts_at stripes k).levels ≡ levels_read (is_searched plan (number_at numbers k)) (slice_index_or olds k other).levels
  pub asked : AsksSpare plan stripes spare spare_after
  pub rooms_are : AreRoomsFor plan.table (length numbers) rooms
  pub large : IsAsLarge read after

-- stripes of these numbers were fetched into the window of a room, and can be examined there
pub record CanExamineFetched (plan : FixPlan) (numbers : List ℕ) (room : Room) : Type 0 where
  pub entries : EntriesFit plan.table plan.entries
  pub within : All (λ stripe. stripe < length plan.table.infos) numbers
  pub room_is : IsRoomFor plan.table room
  pub number : room.window.count ≡ length numbers
  pub cells : HoldsCells plan.table numbers room.window
  pub enough : length numbers ≤ room.window.room
  pub unhashed : IsUnhashedWindow room.window

-- These are the facts of the stripes that were fetched into the window: of its cells with their digests, of the levels that were read
-- stripe after stripe where a recovery is tried, and of what the spare gave. The room of each of them shows its facts.
pub record ExaminesFetched (plan : FixPlan) (numbers : List ℕ) (before after : Room) (vault vault_after : VaultView)
    (spare spare_after : SpareView) : Type 0 where
  pub stripes : List StripeFacts
  pub numbers_are : numbers_of stripes ≡ numbers
  pub slots : (k : ℕ) → k < length stripes
      → (facts_at stripes k).slots ≡ slots_at (hashed_window plan.table.shape before.window) k
  pub are : All (AreFacts plan) stripes
  pub each : (k : ℕ) (other : StripeRoom) → k < length stripes
      → ShowsStripe plan (facts_at stripes k) k after.window (slice_index_or after.stripes.items k other)
  pub levels : LevelsAreRead plan stripes vault vault_after
  pub asked : AsksSpare plan stripes spare spare_after
  pub room : IsRoomFor plan.table after
  pub as_large : after.window.room ≡ before.window.room

-- the same, with as many rooms as there are stripes, or more
pub record CanExamineFetchedRooms (plan : FixPlan) (numbers : List ℕ) (window : WindowValue) (rooms : List StripeRoom) : Type 0 where
  pub entries : EntriesFit plan.table plan.entries
  pub within : All (λ stripe. stripe < length plan.table.infos) numbers
  pub fits : Fits plan.table window
  pub number : window.count ≡ length numbers
  pub cells : HoldsCells plan.table numbers window
  pub unhashed : IsUnhashedWindow window
  pub as_many : length numbers ≤ length rooms
  pub each : All (IsStripeRoomFor plan.table) rooms

pub record ExaminesFetchedRooms (plan : FixPlan) (numbers : List ℕ) (before after : WindowValue) (rooms : List StripeRoom)
    (vault vault_after : VaultView) (spare spare_after : SpareView) : Type 0 where
  pub stripes : List StripeFacts
  pub numbers_are : numbers_of stripes ≡ numbers
  pub slots : (k : ℕ) → k < length stripes → (facts_at stripes k).slots ≡ slots_at (hashed_window plan.table.shape before) k
  pub are : All (AreFacts plan) stripes
  pub each : (k : ℕ) (other : StripeRoom) → k < length stripes
      → ShowsStripe plan (facts_at stripes k) k after (slice_index_or rooms k other)
  pub levels : LevelsAreRead plan stripes vault vault_after
  pub asked : AsksSpare plan stripes spare spare_after
  pub rooms_are : All (IsStripeRoomFor plan.table) rooms
  pub fits : Fits plan.table after
  pub as_large : after.room ≡ before.room
