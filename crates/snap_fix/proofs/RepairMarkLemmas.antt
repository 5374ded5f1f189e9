-- By its marks, a cell of a stripe stays, is lost, or is to be written: at most one of these.
use Rattle.std.proofs.Common.{◌≡◌, ℕ, Bool, true, false, Option, None, refl, sym, ap, ◌∙◌}
use Rattle.std.specs.Prelude.{◌&&◌, ◌||◌, not}
use Rattle.file_table.specs.declared.block.Cell.{Cell}
use Rattle.stripe_examiner.specs.declared.marking.SlotMark.{SlotMark}
use Rattle.stripe_examiner.specs.Findings.{is_lost_by}
use Rattle.snap_fix.specs.Mended.{is_blocked_cell}
use Rattle.repair_scope.specs.Plan.{FixPlan, cell_at, has_selected, is_in_scope, is_synced, selects_cell}
use Rattle.snap_fix.specs.RepairSteps.{is_repaired_by}
use Rattle.stripe_examiner.specs.Showing.{is_damaged_mark, is_known_mark, is_unknown_mark}

pub and_false : (b : Bool) → (b && false) ≡ false
and_false true = refl
and_false false = refl

pub or_true : (b : Bool) → (b || true) ≡ true
or_true true = refl
or_true false = refl

pub or_swap : (a b : Bool) → (a || b) ≡ (b || a)
or_swap true true = refl
or_swap true false = refl
or_swap false true = refl
or_swap false false = refl

pub both : (a b : Bool) → (a && b) ≡ true → b ≡ true
both true b is = is
both false b is = absurd cc

pub not_blocked : (b : Bool) → not b ≡ true → b ≡ false
not_blocked true is = absurd cc
not_blocked false is = refl

-- a cell that is to be written is not lost
pub not_lost_by : (selected damaged known free : Bool) → (selected && damaged && known && free) ≡ true → (selected && (damaged && not known)) ≡ false
not_lost_by selected damaged true free is = ap (λ (b : Bool). selected && b) (and_false damaged) ∙ and_false selected
not_lost_by selected damaged false free is = absurd (
    let clash : false ≡ true = sym (ap (λ (b : Bool). b && free) (and_false (selected && damaged))) ∙ is in cc)

-- a lost cell, and one that isn't damaged, is not to be written
pub lost_stays : (plan : FixPlan) (stripe d : ℕ) (mark : SlotMark) (known : Bool) → is_lost_by plan stripe mark known d ≡ true → is_repaired_by plan stripe mark known d ≡ false
lost_stays plan stripe d mark known lost = by (is_repaired_by plan stripe mark known d) refl
  where
    by : (b : Bool) → is_repaired_by plan stripe mark known d ≡ b → b ≡ false
    by false is = refl
    by true is = absurd (
        let lost_not : is_lost_by plan stripe mark known d ≡ false
        = not_lost_by (selects_cell plan stripe d) (is_damaged_mark mark.cell) (is_known_mark (is_synced plan stripe) mark known) (not (is_blocked_cell plan d (cell_at plan stripe d))) is in
        let clash : true ≡ false = sym lost ∙ lost_not in cc)

pub right_stays : (plan : FixPlan) (stripe d : ℕ) (mark : SlotMark) (known : Bool) → is_damaged_mark mark.cell ≡ false
    → (is_repaired_by plan stripe mark known d ≡ false) × (is_lost_by plan stripe mark known d ≡ false)
right_stays plan stripe d mark known is =
    let known_is : Bool = is_known_mark (is_synced plan stripe) mark known in (
      ap (λ (b : Bool). selects_cell plan stripe d && b && known_is && not (is_blocked_cell plan d (cell_at plan stripe d))) is
          ∙ ap (λ (b : Bool). b && known_is && not (is_blocked_cell plan d (cell_at plan stripe d))) (and_false (selects_cell plan stripe d)),
      ap (λ (b : Bool). selects_cell plan stripe d && (b && not known_is)) is ∙ and_false (selects_cell plan stripe d),
    )

pub none_stays : (plan : FixPlan) (stripe d : ℕ) (mark : SlotMark) (known : Bool) → cell_at plan stripe d ≡ None
    → (is_repaired_by plan stripe mark known d ≡ false) × (is_lost_by plan stripe mark known d ≡ false)
none_stays plan stripe d mark known none = (
  ap (λ (b : Bool). b && is_damaged_mark mark.cell && is_known_mark (is_synced plan stripe) mark known && not (is_blocked_cell plan d (cell_at plan stripe d))) unselected,
  ap (λ (b : Bool). b && is_unknown_mark (is_synced plan stripe) mark known) unselected,
)
  where
    unselected : selects_cell plan stripe d ≡ false
    unselected = ap (λ (c : Option Cell). is_in_scope plan stripe && has_selected plan d c) none ∙ and_false (is_in_scope plan stripe)
