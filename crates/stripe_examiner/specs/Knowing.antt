-- What leads from the marks of a stripe to its row.
use Rattle.std.specs.Prelude.{◌≡◌, ◌≢◌, ℕ, ◌*◌, ◌<◌, ◌≤◌, List, length, is_some, true, All}
use Rattle.stripe_reader.specs.WindowValue.{WindowValue, slot_at}
use Rattle.stripe_examiner.specs.declared.marking.SlotMark.{SlotMark}
use Rattle.stripe_examiner.specs.declared.search.Wanted.{Wanted}
use Rattle.stripe_examiner.specs.Marks.{is_marked_missing, column_mark}
use Rattle.repair_scope.specs.Plan.{FixPlan, seen_at}

-- each column that is marked as missing has a cell
abbrev pub HaveCells : FixPlan → ℕ → List SlotMark → Type 0
HaveCells plan stripe marks =
    (d : ℕ) → d < length plan.table.columns → is_marked_missing (column_mark marks d) ≡ true
    → is_some (seen_at plan stripe d) ≡ true

-- blocks that were found stand end to end, and each has a column of a window and at most so many bytes there
pub record CanPutFound (size : ℕ) (wanteds : List Wanted) (blocks : List ℕ) (window : WindowValue) : Type 0 where
  pub size_is : size ≡ window.block_size
  pub columns : All (λ (wanted : Wanted). wanted.column < length window.lanes) wanteds
  pub lengths : All (λ (wanted : Wanted). wanted.length ≤ size) wanteds
  pub bytes : length blocks ≡ length wanteds * size

-- the slots of a stripe are as they were, but in the columns of these blocks
abbrev pub KeepsOtherColumns : ℕ → List Wanted → WindowValue → WindowValue → Type 0
KeepsOtherColumns i wanteds before after =
    (d : ℕ) → All (λ (wanted : Wanted). wanted.column ≢ d) wanteds
    → slot_at after i d ≡ slot_at before i d
