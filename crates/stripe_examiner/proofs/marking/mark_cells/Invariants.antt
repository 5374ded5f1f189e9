use Rattle.std.proofs.Common.{◌≡◌, ℕ, ◌<◌, ◌≤◌}
use Rattle.file_table.specs.Cells.{cell_view}
use Rattle.file_table.specs.Table.{column_at}
use Rattle.stripe_reader.specs.WindowValue.{slot_at}
use Rattle.stripe_examiner.specs.AskedCell.{AsksCells, asks_for, holds_wanted, is_marked_given}
use Rattle.stripe_examiner.specs.Facts.{is_damaged, is_sought, wanted_by}
use Rattle.stripe_examiner.specs.Marks.{ChangesStripe, IsMarked, cell_mark, column_mark, mark_of_cell}
use Rattle.stripe_examiner.specs.Shown.{IsFound, found_at}
use Rattle.stripe_examiner.specs.Surveyed.{plan_in}
use Rattle.stripe_examiner.proofs.marking.mark_cells.Given as goal

-- what is found in the columns so far is noted, they are marked, and the others are as they were
abbrev pub invariant-loop-d : goal.invariant-loop-d
invariant-loop-d g l = record {
  found : (e : ℕ) → e < l.d → IsFound (plan_in l.survey) l.stripe (slot_at l.fn.window l.i e) e (found_at l.found e);
  changes : ChangesStripe l.i l.fn.window l.window;
  marked : (e : ℕ) → e < l.d
      → IsMarked l.searched l.survey.plan.table.now.shape (cell_view (column_at l.survey.plan.table.now.columns e) l.stripe)
      (slot_at l.fn.window l.i e) (column_mark l.marks e) (slot_at l.window l.i e);
  cells : (e : ℕ) → e < l.d → cell_mark l.marks e
      ≡ mark_of_cell (is_damaged l.survey.plan.table.now.shape.kind (cell_view (column_at l.survey.plan.table.now.columns e) l.stripe) (slot_at l.fn.window l.i e)) (is_sought (plan_in l.survey) l.stripe e);
  asks : AsksCells l.d
      (λ e. asks_for l.searched l.survey.plan.table.now.shape.kind (cell_view (column_at l.survey.plan.table.now.columns e) l.stripe) (slot_at l.fn.window l.i e))
      (λ e. holds_wanted (g.P.Spare.holding l.fn.spare) (wanted_by l.survey.plan.table.now.shape e (cell_view (column_at l.survey.plan.table.now.columns e) l.stripe)))
      (λ e. is_marked_given (column_mark l.marks e))
      (g.P.Spare.holding l.fn.spare) (g.P.Spare.holding l.spare);
  rest : (e : ℕ) → l.d ≤ e → slot_at l.window l.i e ≡ slot_at l.fn.window l.i e;
}
