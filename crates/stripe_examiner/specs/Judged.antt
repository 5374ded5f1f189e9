-- A stripe of a window is judged by what was read: whether its row is known, and which of its levels are wrong.
use Rattle.std.specs.Prelude.{◌≡◌, ℕ, ◌<◌, ◌≤◌, List, [], length, get_or, Bool, true, false, Option, None, Some, if◌then◌else◌, All}
use Rattle.cauchy.specs.System.{AreDistinctBelow}
use Rattle.parity_writer.specs.Parity.{Row}
use Rattle.parity_writer.specs.WindowRow.{bytes_of, row_at}
use Rattle.stripe_reader.specs.WindowValue.{WindowValue, slot_at}
use Rattle.stripe_examiner.specs.declared.marking.SlotMark.{SlotMark}
use Rattle.stripe_examiner.specs.declared.room.StripeRoom.{StripeRoom}
use Rattle.stripe_examiner.specs.declared.search.Wanted.{Wanted}
use Rattle.stripe_examiner.specs.Judging.{TellsWrong}
use Rattle.stripe_examiner.specs.Knowing.{HaveCells}
use Rattle.stripe_examiner.specs.Known.{IsKnown}
use Rattle.stripe_examiner.specs.Marks.{CanExamine, column_mark, is_marked_missing, wanted_marked, levels_read}
use Rattle.repair_scope.specs.Plan.{FixPlan, is_searched}
use Rattle.stripe_examiner.specs.Restorable.{filled}
use Rattle.stripe_examiner.specs.Room.{IsStripeRoomFor}
use Rattle.stripe_examiner.specs.Search.{columns_of, found_in}

-- what is searched for are blocks of distinct columns of a row, which has no bytes there, none of them longer than a block of the array
pub record AreMissingIn (row : Row) (block_size : ℕ) (wanteds : List Wanted) : Type 0 where
  pub distinct : AreDistinctBelow (length row) (columns_of wanteds)
  pub empty : All (λ (wanted : Wanted). get_or row wanted.column [] ≡ []) wanteds
  pub lengths : All (λ (wanted : Wanted). wanted.length ≤ block_size) wanteds

-- each column that is marked as missing has no bytes
abbrev pub AreEmpty : FixPlan → ℕ → WindowValue → List SlotMark → Type 0
AreEmpty plan i window marks =
    (d : ℕ) → d < length plan.table.columns → is_marked_missing (column_mark marks d) ≡ true → bytes_of (slot_at window i d) ≡ []

-- the row with the blocks that were found, where it is known
abbrev pub row_found : FixPlan → ℕ → ℕ → WindowValue → List SlotMark → List ℕ → Row
row_found plan stripe i window marks blocks =
    let wanteds = wanted_marked plan stripe marks in
    filled plan.table.shape.block_size (found_in plan.table.shape wanteds blocks) wanteds (row_at window i)

abbrev pub row_judged : FixPlan → ℕ → ℕ → WindowValue → StripeRoom → Option Row
row_judged plan stripe i window own =
    if own.known then Some (row_found plan stripe i window own.marks.items own.blocks.items) else None

-- a stripe of a window, whose cells were marked and whose levels were read, can be judged
pub record CanJudge (plan : FixPlan) (stripe i : ℕ) (window : WindowValue) (own : StripeRoom) : Type 0 where
  pub can : CanExamine plan stripe i window
  pub room : IsStripeRoomFor plan.table own
  pub cells : HaveCells plan stripe own.marks.items
  pub empty : AreEmpty plan i window own.marks.items
  pub count : is_searched plan stripe ≡ true → own.levels.count ≡ plan.table.shape.levels

-- nothing is known of the row where no recovery is tried
abbrev pub IsJudged : Bool → FixPlan → ℕ → ℕ → WindowValue → StripeRoom → Type 0
IsJudged false plan stripe i window own = own.known ≡ false
IsJudged true plan stripe i window own =
    IsKnown plan.table.shape (wanted_marked plan stripe own.marks.items) (row_at window i) (levels_read true own.levels)
    (row_judged plan stripe i window own)

pub record JudgesStripe (plan : FixPlan) (stripe i : ℕ) (window : WindowValue) (own : StripeRoom) : Type 0 where
  pub known : IsJudged (is_searched plan stripe) plan stripe i window own
  pub places : is_searched plan stripe ≡ true → own.levels.count ≤ length own.levels.levels
  pub few : own.known ≡ true → length (wanted_marked plan stripe own.marks.items) ≤ 6
  pub wrong : is_searched plan stripe ≡ true → TellsWrong plan stripe own.levels (row_judged plan stripe i window own) own.wrong

-- what was found, marked and read of a stripe stays
pub record KeepsRead (old new : StripeRoom) : Type 0 where
  pub found : new.found ≡ old.found
  pub marks : new.marks ≡ old.marks
  pub levels : new.levels ≡ old.levels
