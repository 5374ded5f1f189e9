-- What the marks of a stripe say of its facts, and the writes and the losses of one stripe more.
use Rattle.std.proofs.Common.{◌≡◌, ◌⊎◌, inl, inr, ℕ, ◌<◌, List, [], ◌∷◌, ◌++◌, length, get_or, set, Bool, true, false, if◌then◌else◌, Option, Some, refl, sym, ap, ap₂, ◌∙◌, arith, zero-add}
use Rattle.std.specs.Prelude.{◌&&◌, ◌||◌, ◌==◌, not, is_some}
use Rattle.std.proofs.Math.Bool.{and-false, or-false}
use Rattle.std.proofs.lemmas.Bool.{cases_eq, eq-eqb, ne_eqb}
use Rattle.std.proofs.lemmas.Grind.{flat_map-append}
use Rattle.std.proofs.lemmas.List.{append-nil, ext_get_or, length-set, get_or-set_same, get_or-set_other}
use Rattle.std.proofs.lemmas.List.Folds.{list_any-append}
use Rattle.std.proofs.lemmas.List.FromFn.{length-map-range_with_len, get_or-map-range_with_len}
use Rattle.file_table.specs.declared.block.Cell.{Cell}
use Rattle.stripe_reader.specs.WindowValue.{WindowValue}
use Rattle.stripe_examiner.specs.declared.marking.SlotMark.{SlotMark}
use Rattle.stripe_examiner.specs.Facts.{StripeFacts, damaged_at}
use Rattle.stripe_examiner.specs.Findings.{is_lost, is_lost_by}
use Rattle.stripe_examiner.specs.Marks.{mark_in}
use Rattle.snap_fix.specs.Mended.{Mended, is_blocked_cell, is_repaired, is_written, is_of, loses, has_lost, write_of, writes_in, writes_of, column_writes, answer_of}
use Rattle.stripe_examiner.specs.Showing.{known_block, block_or_none, ShowsFacts, is_damaged_mark, is_known_mark}
use Rattle.file_restorer.specs.Mending.{block_start, with_write}
use Rattle.repair_scope.specs.Plan.{FixPlan, cell_at, is_synced, selects_cell}
use Rattle.snap_fix.specs.RepairSteps.{is_repaired_by}
use Rattle.file_restorer.specs.State.{Write}
use Rattle.stripe_examiner.proofs.ShownLemmas.{known_shown, lost_shown as lost_as_shown}

-- ---- what the marks say

-- of a cell that is not damaged it doesn't matter whether its block is known
with_damaged : (selected damaged known free marked known_marked : Bool) → damaged ≡ marked → (damaged ≡ true → known ≡ known_marked)
    → (selected && damaged && known && free) ≡ (selected && marked && known_marked && free)
with_damaged selected true known free marked known_marked same known_is = ap₂ (λ (m k : Bool). selected && m && k && free) same (known_is refl)
with_damaged selected false known free marked known_marked same known_is =
    ap (λ (b : Bool). b && known && free) (and-false selected) ∙ sym (ap (λ (b : Bool). b && known_marked && free) (and-false selected))
    ∙ ap (λ (m : Bool). selected && m && known_marked && free) same

pub and_parts : (a b c e : Bool) → (a && b && c && e) ≡ true → (a ≡ true) × (b ≡ true) × (c ≡ true) × (e ≡ true)
and_parts true true true true is = (refl, refl, refl, refl)
and_parts true true true false is = absurd cc
and_parts true true false true is = absurd cc
and_parts true true false false is = absurd cc
and_parts true false c e is = absurd (by c e is)
  where
    by : (c e : Bool) → (false && c && e) ≡ true → ⊥
    by true true holds = cc
    by true false holds = cc
    by false true holds = cc
    by false false holds = cc
and_parts false b c e is = absurd (by b c e is)
  where
    by : (b c e : Bool) → (false && b && c && e) ≡ true → ⊥
    by true true true holds = cc
    by true true false holds = cc
    by true false true holds = cc
    by true false false holds = cc
    by false true true holds = cc
    by false true false holds = cc
    by false false true holds = cc
    by false false false holds = cc

module _ (plan : FixPlan) (facts : StripeFacts) (stripe i d : ℕ) (window : WindowValue) (marks : List SlotMark) (known : Bool)
    (within : d < length plan.table.columns) (stripe_is : facts.stripe ≡ stripe) (shows : ShowsFacts plan facts i marks known window) where
  pub block_known : damaged_at plan facts d ≡ true → is_some (known_block plan facts d) ≡ is_known_mark (is_synced plan stripe) (mark_in marks d) known
  block_known damaged =
      known_shown plan facts i marks known window shows d within damaged
      ∙ ap (λ (s : ℕ). is_known_mark (is_synced plan s) (mark_in marks d) known) stripe_is

  pub repaired_shown : is_repaired plan facts d ≡ is_repaired_by plan stripe (mark_in marks d) known d
  repaired_shown =
      ap (λ (s : ℕ). selects_cell plan s d && damaged_at plan facts d && is_some (known_block plan facts d) && not (is_blocked_cell plan d (cell_at plan s d))) stripe_is
      ∙ with_damaged (selects_cell plan stripe d) (damaged_at plan facts d) (is_some (known_block plan facts d)) (not (is_blocked_cell plan d (cell_at plan stripe d)))
      (is_damaged_mark (mark_in marks d).cell) (is_known_mark (is_synced plan stripe) (mark_in marks d) known) (shows.damaged d within) block_known

  pub lost_shown : is_lost plan facts d ≡ is_lost_by plan stripe (mark_in marks d) known d
  lost_shown = lost_as_shown plan facts i marks known window shows d within ∙ ap (λ (s : ℕ). is_lost_by plan s (mark_in marks d) known d) stripe_is

-- ---- one stripe more

module _ (plan : FixPlan) (stripes : List Mended) (mended : Mended) (d : ℕ) where
  writes_push : (i : ℕ) → writes_of plan (stripes ++ mended ∷ []) d i ≡ writes_of plan stripes d i ++ writes_in plan d i mended
  writes_push i = flat_map-append (writes_in plan d i) stripes (mended ∷ []) ∙ ap (λ (ws : List Write). writes_of plan stripes d i ++ ws) (append-nil (writes_in plan d i mended))

  writes_at : (all : List Mended) (n i : ℕ) → i < n → get_or (column_writes plan all d n) i [] ≡ writes_of plan all d i
  writes_at all n i below = get_or-map-range_with_len (writes_of plan all d) 0 n i i [] below (zero-add i)

  long : (all : List Mended) (n : ℕ) → length (column_writes plan all d n) ≡ n
  long all n = length-map-range_with_len (writes_of plan all d) 0 n

  -- what is written in it, by its cell
  abbrev write_by : ℕ → Bool → Option Cell → List Write
  write_by i written cell = if is_of i cell && written then write_of plan d mended.facts cell else []

  none_by : (b : Bool) (writes : List Write) → (if b && false then writes else []) ≡ []
  none_by true writes = refl
  none_by false writes = refl

  -- nothing was written of the column
  pub writes_same : (n : ℕ) → is_written plan mended d ≡ false → column_writes plan (stripes ++ mended ∷ []) d n ≡ column_writes plan stripes d n
  writes_same n not_written = ext_get_or [] (column_writes plan (stripes ++ mended ∷ []) d n) (column_writes plan stripes d n)
      (long (stripes ++ mended ∷ []) n ∙ sym (long stripes n))
      (λ i below.
      let near : i < n = omega (arith, below, long (stripes ++ mended ∷ []) n) in
      writes_at (stripes ++ mended ∷ []) n i near ∙ writes_push i
      ∙ ap (λ (b : Bool). writes_of plan stripes d i ++ write_by i b (cell_at plan mended.facts.stripe d)) not_written
      ∙ ap (λ (ws : List Write). writes_of plan stripes d i ++ ws) (none_by (is_of i (cell_at plan mended.facts.stripe d)) (write_of plan d mended.facts (cell_at plan mended.facts.stripe d)))
      ∙ append-nil (writes_of plan stripes d i) ∙ sym (writes_at stripes n i near))

  -- a block of a record was written
  pub writes_more : (n : ℕ) (cell : Cell) (bytes : List ℕ) → cell.rec < n → cell_at plan mended.facts.stripe d ≡ Some cell → is_written plan mended d ≡ true
      → bytes ≡ block_or_none (known_block plan mended.facts d)
      → column_writes plan (stripes ++ mended ∷ []) d n ≡ with_write (column_writes plan stripes d n) cell.rec (record { at = block_start plan.table cell; bytes = bytes })
  writes_more n cell bytes rec cell_is written bytes_are = ext_get_or [] (column_writes plan (stripes ++ mended ∷ []) d n) (set before cell.rec more)
      (long (stripes ++ mended ∷ []) n ∙ sym (length-set before cell.rec more ∙ long stripes n))
      (λ i below.
      let near : i < n = omega (arith, below, long (stripes ++ mended ∷ []) n) in
      writes_at (stripes ++ mended ∷ []) n i near ∙ writes_push i
      ∙ ap₂ (λ (b : Bool) (c : Option Cell). writes_of plan stripes d i ++ write_by i b c) written cell_is
      ∙ by i near (cases_eq cell.rec i))
    where
      before : List (List Write)
      before = column_writes plan stripes d n

      write : Write
      write = record { at = block_start plan.table cell; bytes = bytes }

      more : List Write
      more = get_or before cell.rec [] ++ write ∷ []

      by : (i : ℕ) → i < n → (cell.rec ≡ i) ⊎ (cell.rec ≡ i → ⊥)
          → writes_of plan stripes d i ++ (if (cell.rec == i) && true then write_of plan d mended.facts (Some cell) else []) ≡ get_or (set before cell.rec more) i []
      by i near (inl same) =
          ap (λ (b : Bool). writes_of plan stripes d i ++ (if b && true then write_of plan d mended.facts (Some cell) else [])) (eq-eqb cell.rec i same)
          ∙ ap (λ (bs : List ℕ). writes_of plan stripes d i ++ record { at = block_start plan.table cell; bytes = bs } ∷ []) (sym bytes_are)
          ∙ ap (λ (ws : List Write). ws ++ write ∷ []) (sym (writes_at stripes n i near) ∙ ap (λ (k : ℕ). get_or before k []) (sym same))
          ∙ sym (get_or-set_same before cell.rec more [] (omega (arith, rec, long stripes n)))
          ∙ ap (λ (k : ℕ). get_or (set before cell.rec more) k []) same
      by i near (inr other) =
          ap (λ (b : Bool). writes_of plan stripes d i ++ (if b && true then write_of plan d mended.facts (Some cell) else [])) (ne_eqb cell.rec i other)
          ∙ append-nil (writes_of plan stripes d i) ∙ sym (writes_at stripes n i near)
          ∙ sym (get_or-set_other before cell.rec i more [] (λ same. other (sym same)))

  -- what is lost
  pub lost_push : (i : ℕ) → has_lost plan (stripes ++ mended ∷ []) d i ≡ (has_lost plan stripes d i || loses plan d i mended)
  lost_push i = list_any-append (loses plan d i) stripes (mended ∷ []) ∙ ap (λ (b : Bool). has_lost plan stripes d i || b) (or-false (loses plan d i mended))

-- what a stripe loses of a record, by what becomes of its cell
pub loses_by : (plan : FixPlan) (d i : ℕ) (mended : Mended) (lost repaired answer : Bool)
    → is_lost plan mended.facts d ≡ lost
    → is_repaired plan mended.facts d ≡ repaired → answer_of mended d ≡ answer
    → loses plan d i mended ≡ (is_of i (cell_at plan mended.facts.stripe d) && (lost || (repaired && not answer)))
loses_by plan d i mended lost repaired answer lost_is repaired_is answer_is =
    ap (λ (l : Bool). is_of i (cell_at plan mended.facts.stripe d) && (l || (is_repaired plan mended.facts d && not (answer_of mended d)))) lost_is
    ∙ ap₂ (λ (r a : Bool). is_of i (cell_at plan mended.facts.stripe d) && (lost || (r && not a))) repaired_is answer_is
