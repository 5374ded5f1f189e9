use Rattle.std.proofs.Common.{rules, ◌≡◌, ◌≢◌, inl, inr, ℕ, ◌<◌, Bool, length, sym, ap, ◌∙◌, None, subst, arith}
use Rattle.std.specs.Prelude.{slice_set}
use Rattle.std.proofs.lemmas.Bool.{cases_lt}
use Rattle.std.proofs.lemmas.List.{get_or-set_same, get_or-set_other}
use Rattle.file_table.specs.Cells.{cell_view}
use Rattle.file_table.specs.Table.{column_at}
use Rattle.stripe_reader.specs.SlotValue.{SlotValue}
use Rattle.stripe_reader.specs.WindowValue.{slot_at}
use Rattle.stripe_examiner.specs.declared.marking.ColumnMark.{ColumnMark}
use Rattle.stripe_examiner.specs.declared.marking.SlotMark.{SlotMark}
use Rattle.stripe_examiner.specs.AskedCell.{AsksCells, asks_for, holds_wanted, is_marked_given}
use Rattle.stripe_examiner.specs.Facts.{is_damaged, is_sought, wanted_by}
use Rattle.stripe_examiner.specs.Marks.{IsMarked, column_mark, mark_in, mark_of_cell, no_mark}
use Rattle.repair_scope.specs.Plan.{seen_at}
use Rattle.stripe_examiner.specs.Shown.{IsFound, found_at}
use Rattle.stripe_examiner.specs.Surveyed.{plan_in}
use Rattle.stripe_examiner.proofs.AskingLemmas.{block_as, cells_more, holds_still}
use Rattle.stripe_examiner.proofs.marking.mark_cells.Goals as goal

pub loop-d-preserved : goal.loop-d-preserved
loop-d-preserved g c =
    let so_far = c.loop-d.invariant in
    let one = c.mark_slot.ensures in
    let old = g.P.Spare.holding c.args.spare.now in
    let mid = g.P.Spare.holding c.loop-d.spare in
    let new = g.P.Spare.holding c.mark_slot.new.spare in
    let table = c.args.survey.now.plan.table.now in
    let d = c.loop-d.d in
    let marks = slice_set c.loop-d.marks d c.mark_slot.result in
    let seen = λ (e : ℕ). cell_view (column_at table.columns e) c.args.stripe in
    let asked = λ (e : ℕ). asks_for c.is_searched-searched.result table.shape.kind (seen e) (slot_at c.args.window.now c.args.i e) in
    let held = λ (e : ℕ). holds_wanted old (wanted_by table.shape e (seen e)) in
    let after = c.mark_slot.new.window in
    let is_marked = λ (e : ℕ) (before : SlotValue) (mark : ColumnMark) (slot : SlotValue). IsMarked c.is_searched-searched.result table.shape (seen e) before mark slot in
    let plan = plan_in c.args.survey.now in
    let cell_is = λ (e : ℕ) (before : SlotValue) (mark : SlotMark). mark.cell ≡ mark_of_cell (is_damaged table.shape.kind (seen e) before) (is_sought plan c.args.stripe e) in
    let within : d < length c.loop-d.marks = omega (arith, c.loop-d.auto.marks, c.requires.marks, c.disks-d-end.ensures.count, c.loop-d-test.true) in
    let noted = c.mark_slot.new.found in
    let place : d < length c.loop-d.found = omega (arith, c.loop-d.auto.found, c.requires.found, c.disks-d-end.ensures.count, c.loop-d-test.true) in
    let is_found = IsFound (plan_in c.args.survey.now) c.args.stripe in
    record {
      found = λ e below. elim (cases_lt e d) [
        | inl near ↦
            let other : e ≢ d = λ same. omega (arith, near, same) in
            subst (is_found (slot_at c.args.window.now c.args.i e) e) (sym (get_or-set_other c.loop-d.found d e noted None other)) (so_far.found e near)
        | inr far ↦
            let here : d ≡ e = omega (arith, below, far) in
            subst (λ (k : ℕ). is_found (slot_at c.args.window.now c.args.i k) k (found_at (slice_set c.loop-d.found d noted) k)) here
            (subst (is_found (slot_at c.args.window.now c.args.i d) d) (sym (get_or-set_same c.loop-d.found d noted None place))
            (subst (λ (slot : SlotValue). is_found slot d noted) (so_far.rest d (omega arith)) one.found))
      ];
      changes = search rules;
      marked = λ e below. elim (cases_lt e d) [
        | inl near ↦
            let other : e ≢ d = λ same. omega (arith, near, same) in
            subst (λ (mark : SlotMark). is_marked e (slot_at c.args.window.now c.args.i e) mark.column (slot_at after c.args.i e)) (sym (get_or-set_other c.loop-d.marks d e c.mark_slot.result no_mark other))
            (subst (λ slot. is_marked e (slot_at c.args.window.now c.args.i e) (column_mark c.loop-d.marks e) slot) (sym (one.changes.others c.args.i e (inr other))) (so_far.marked e near))
        | inr far ↦
            let here : e ≡ d = omega (arith, below, far) in
            subst (λ (k : ℕ). is_marked k (slot_at c.args.window.now c.args.i k) (column_mark marks k) (slot_at after c.args.i k)) (sym here)
            (subst (λ (mark : SlotMark). is_marked d (slot_at c.args.window.now c.args.i d) mark.column (slot_at after c.args.i d)) (sym (get_or-set_same c.loop-d.marks d c.mark_slot.result no_mark within))
            (subst (λ slot. is_marked d slot c.mark_slot.result.column (slot_at after c.args.i d)) (so_far.rest d (omega arith)) one.mark))
      ];
      cells = λ e below. elim (cases_lt e d) [
        | inl near ↦
            let other : e ≢ d = λ same. omega (arith, near, same) in
            subst (cell_is e (slot_at c.args.window.now c.args.i e)) (sym (get_or-set_other c.loop-d.marks d e c.mark_slot.result no_mark other)) (so_far.cells e near)
        | inr far ↦
            let here : d ≡ e = omega (arith, below, far) in
            subst (λ (k : ℕ). cell_is k (slot_at c.args.window.now c.args.i k) (mark_in marks k)) here
            (subst (cell_is d (slot_at c.args.window.now c.args.i d)) (sym (get_or-set_same c.loop-d.marks d c.mark_slot.result no_mark within))
            (subst (λ slot. cell_is d slot c.mark_slot.result) (so_far.rest d (omega arith)) one.cell))
      ];
      asks = cells_more asked held (λ e. is_marked_given (column_mark c.loop-d.marks e)) (λ e. is_marked_given (column_mark marks e)) d old mid new
          (λ e below. ap (λ (mark : SlotMark). is_marked_given mark.column) (get_or-set_other c.loop-d.marks d e c.mark_slot.result no_mark (λ same. omega (arith, below, same))))
          so_far.asks
          (block_as _ _ _ (asked d) (held d) (is_marked_given (column_mark marks d)) mid new
          (ap (λ (slot : SlotValue). asks_for c.is_searched-searched.result table.shape.kind (seen d) slot) (so_far.rest d (omega arith)))
          (holds_still old mid _ _ so_far.asks.same)
          (ap (λ (mark : SlotMark). is_marked_given mark.column) (sym (get_or-set_same c.loop-d.marks d c.mark_slot.result no_mark within)))
          one.asks);
      rest = search rules;
    }

pub returns-clause-found : goal.returns-clause-found
returns-clause-found g c = λ d below. c.loop-d.invariant.found d (omega (arith, below, c.disks-d-end.ensures.count, c.loop-d-test.false))

pub returns-clause-marked : goal.returns-clause-marked
returns-clause-marked g c =
    let table = c.args.survey.now.plan.table.now in
    let stripe = c.args.stripe in
    let plan = plan_in c.args.survey.now in
    let so_far = c.loop-d.invariant in
    record {
      changes = so_far.changes;
      as_many = c.loop-d.auto.marks ∙ c.requires.marks;
      each = λ d within.
          let below : d < c.loop-d.d = omega (arith, within, c.disks-d-end.ensures.count) in
          subst (λ (searched : Bool). IsMarked searched table.shape (seen_at plan stripe d) (slot_at c.args.window.now c.args.i d) (column_mark c.loop-d.marks d) (slot_at c.loop-d.window c.args.i d))
          c.is_searched-searched.ensures (so_far.marked d below);
      cells = λ d within. so_far.cells d (omega (arith, within, c.disks-d-end.ensures.count));
    }

pub returns-clause-asks : goal.returns-clause-asks
returns-clause-asks g c =
    let table = c.args.survey.now.plan.table.now in
    let stripe = c.args.stripe in
    let plan = plan_in c.args.survey.now in
    let old = g.P.Spare.holding c.args.spare.now in
    let new = g.P.Spare.holding c.loop-d.spare in
    let asks = λ (searched : Bool) (count : ℕ). AsksCells count (λ e. asks_for searched table.shape.kind (seen_at plan stripe e) (slot_at c.args.window.now c.args.i e))
    (λ e. holds_wanted old (wanted_by table.shape e (seen_at plan stripe e))) (λ e. is_marked_given (column_mark c.loop-d.marks e)) old new in
    let all : c.loop-d.d ≡ length table.columns = omega (arith, c.disks-d-end.ensures.count, c.loop-d-test.false) in
    subst (λ (searched : Bool). asks searched (length table.columns)) c.is_searched-searched.ensures
    (subst (λ (count : ℕ). asks c.is_searched-searched.result count) all c.loop-d.invariant.asks)
