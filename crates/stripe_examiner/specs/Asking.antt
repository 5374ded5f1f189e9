-- What the spare gave for the damaged cells of stripes, and what it held and did not give.
use Rattle.std.specs.Prelude.{◌≡◌, ℕ, ◌≤◌, ◌&&◌, not, List, length, is_some, sum_by, count_by, Bool, true, IsTrue, All}
use Rattle.std.specs.List.{range_with_len}
use Rattle.disk_model.specs.Cause.{RoseBy}
use Rattle.stripe_examiner.specs.Facts.{StripeFacts, gift_of, is_asked, wanted_at}
use Rattle.repair_scope.specs.Plan.{FixPlan}
use Rattle.stripe_examiner.specs.Spare.{SpareView, holds_block}

-- the spare holds the block of the cell of a column: one of its real length, with its recorded hash
abbrev pub is_held : SpareView → FixPlan → StripeFacts → ℕ → Bool
is_held spare plan facts d = holds_block spare (wanted_at plan facts d).hash.0 (wanted_at plan facts d).length

-- the cell is one that the spare is asked for, and it holds its block and did not give it
abbrev pub is_withheld : SpareView → FixPlan → StripeFacts → ℕ → Bool
is_withheld spare plan facts d = is_asked plan facts d && not (is_some (gift_of facts d)) && is_held spare plan facts d

abbrev pub withheld_in : SpareView → FixPlan → StripeFacts → ℕ
withheld_in spare plan facts = count_by (is_withheld spare plan facts) (range_with_len 0 (length plan.table.columns))

-- What the spare holds stays. Where it tells that, it gave nothing but what it holds, and its count of faults rose by no less than
-- the blocks that it holds of cells that are asked of it and did not give. How often it was asked is not said.
pub record AsksSpare (plan : FixPlan) (stripes : List StripeFacts) (old new : SpareView) : Type 0 where
  pub later : old.faults ≤ new.faults
  pub same : new ≡ record old { faults = new.faults }
  pub gave : IsTrue old.tells
      → All (λ (facts : StripeFacts). (d : ℕ) → is_some (gift_of facts d) ≡ true → is_held old plan facts d ≡ true) stripes
  pub withheld : IsTrue old.tells → RoseBy (sum_by (withheld_in old plan) stripes) old.faults new.faults
