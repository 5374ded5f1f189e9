-- The rows that parity holds after stripes were read, and what writing them keeps.
use Rattle.std.proofs.Common.{◌≡◌, ◌≢◌, ◌⊎◌, inl, inr, ⊎_elim, ℕ, zero, suc, ◌+◌, ◌-◌, ◌*◌, ◌/◌, ◌%◌, ◌<◌, ◌≤◌, ◌==◌, List, [], ◌∷◌, ◌++◌, length, take, get_or, Bool, true, false, if◌then◌else◌, Option, None, Some, refl, sym, ◌∙◌, ap, ap₂, subst, arith}
use Rattle.std.proofs.lemmas.Bool.{cases_eq, cases_lt, eq-eqb, ne_eqb}
use Rattle.std.proofs.lemmas.List.{take_more}
use Rattle.std.proofs.lemmas.Nat.{div-add-mod'}
use Rattle.std.proofs.Math.Nat.{mod-lt}
use Rattle.cauchy.specs.Matrix.{parity_byte}
use Rattle.disk_model.specs.Files.{Files, parity_of}
use Rattle.file_table.specs.Table.{TableValue}
use Rattle.parity_writer.specs.Chosen.{Choice, stripe_in, is_chosen, rows_with as window_rows}
use Rattle.parity_writer.specs.Keeps.{HasByte, IsOutside, SameParities}
use Rattle.parity_writer.specs.Parity.{Row, Rows, with_row, HoldsRows, IsOutsideAll, WritesBlocks}
use Rattle.parity_writer.specs.WindowRow.{row_at}
use Rattle.parity_writer.proofs.WriteLemmas.{apart}
use Rattle.stripe_reader.specs.WindowValue.{WindowValue}
use Rattle.snap_sync.specs.Calls.{no_reading}
use Rattle.snap_sync.specs.Closing.{rows_with}
use Rattle.snap_sync.specs.Images.{IsInSynced, KeepsSynced, IsOutsideRows, HasParity}
use Rattle.stripe_findings.specs.Reading.{StripeReading, is_verified, row_of}

-- a stripe has a row
pub record HasRow (rows : Rows) (stripe : ℕ) : Type 0 where
  pub row : Row
  pub is : rows stripe ≡ Some row

-- one more row
row_there : (at : ℕ) (row : Row) (rows : Rows) → with_row at row rows at ≡ Some row
row_there at row rows = ap (λ (b : Bool). if b then Some row else rows at) (eq-eqb at at refl)

row_stays : (at : ℕ) (row : Row) (rows : Rows) (stripe : ℕ) → HasRow rows stripe → HasRow (with_row at row rows) stripe
row_stays at row rows stripe has = let one = by (stripe == at) in record { row = one.0; is = one.1 }
  where
    by : (b : Bool) → (its : Row) × ((if b then Some row else rows stripe) ≡ Some its)
    by true = (row, refl)
    by false = (has.row, has.is)

module _ (start : TableValue) where
  abbrev step : StripeReading → Rows → Rows
  step reading rows = if is_verified start reading then with_row reading.stripe (row_of reading) rows else rows

  pub rows_append : (xs ys : List StripeReading) (rows : Rows) → rows_with start (xs ++ ys) rows ≡ rows_with start ys (rows_with start xs rows)
  rows_append [] ys rows = refl
  rows_append (x ∷ xs) ys rows = rows_append xs ys (step x rows)

  pub rows_stay : (xs : List StripeReading) (rows : Rows) (stripe : ℕ) → HasRow rows stripe → HasRow (rows_with start xs rows) stripe
  rows_stay [] rows stripe has = has
  rows_stay (x ∷ xs) rows stripe has = rows_stay xs (step x rows) stripe (by (is_verified start x))
    where
      by : (b : Bool) → HasRow (if b then with_row x.stripe (row_of x) rows else rows) stripe
      by true = row_stays x.stripe (row_of x) rows stripe has
      by false = has

  -- a verified stripe has one
  pub verified_has_row : (xs : List StripeReading) (rows : Rows) (i : ℕ) → i < length xs → is_verified start (get_or xs i no_reading) ≡ true
      → HasRow (rows_with start xs rows) (get_or xs i no_reading).stripe
  verified_has_row [] rows i within is = absurd (omega (arith, within))
  verified_has_row (x ∷ xs) rows zero within is =
      rows_stay xs (step x rows) x.stripe
      (subst (λ (r : Rows). HasRow r x.stripe) (sym (ap (λ (b : Bool). if b then with_row x.stripe (row_of x) rows else rows) is))
      (record { row = row_of x; is = row_there x.stripe (row_of x) rows }))
  verified_has_row (x ∷ xs) rows (suc i) within is = verified_has_row xs (step x rows) i (omega (arith, within)) is

  -- a row is of one of the stripes, or was there before
  pub row_is_of : (xs : List StripeReading) (rows : Rows) (stripe : ℕ) (row : Row) → rows_with start xs rows stripe ≡ Some row
      → ((i : ℕ) × (i < length xs) × ((get_or xs i no_reading).stripe ≡ stripe)) ⊎ (rows stripe ≡ Some row)
  row_is_of [] rows stripe row is = inr is
  row_is_of (x ∷ xs) rows stripe row is = ⊎_elim (λ there. inl (suc there.0, omega (arith, there.1), there.2)) (by (is_verified start x)) (row_is_of xs (step x rows) stripe row is)
    where
      by : (b : Bool) → (if b then with_row x.stripe (row_of x) rows else rows) stripe ≡ Some row
          → ((i : ℕ) × (i < length (x ∷ xs)) × ((get_or (x ∷ xs) i no_reading).stripe ≡ stripe)) ⊎ (rows stripe ≡ Some row)
      by true was = elim (cases_eq stripe x.stripe) [
        | inl same ↦ inl (0, omega arith, sym same)
        | inr other ↦ inr (sym (ap (λ (b : Bool). if b then Some (row_of x) else rows stripe) (ne_eqb stripe x.stripe other)) ∙ was)
      ]
      by false was = inr was

-- a window, its stripes and which of them are chosen are those of some readings
pub record IsWindowOf (start : TableValue) (ws : List StripeReading) (window : WindowValue) (choice : Choice) : Type 0 where
  pub block_size : window.block_size ≡ start.shape.block_size
  pub as_many : length choice.stripes ≡ length ws
  pub stripes : (i : ℕ) → i < length ws → stripe_in choice i ≡ (get_or ws i no_reading).stripe
  pub chosen : (i : ℕ) → i < length ws → is_chosen choice i ≡ is_verified start (get_or ws i no_reading)
  pub rows : (i : ℕ) → i < length ws → row_at window i ≡ row_of (get_or ws i no_reading)

-- the rows of the chosen stripes of a window are those of its readings
pub window_rows_are : (start : TableValue) (ws : List StripeReading) (window : WindowValue) (choice : Choice) → IsWindowOf start ws window choice → (rows : Rows) (n : ℕ) → n ≤ length ws
    → window_rows window choice n rows ≡ rows_with start (take n ws) rows
window_rows_are start ws window choice of rows zero within = refl
window_rows_are start ws window choice of rows (suc n) within =
    let below : n < length ws = omega (arith, within) in
    let one = get_or ws n no_reading in
    let so_far = window_rows window choice n rows in
    ap (λ (b : Bool). if b then with_row (stripe_in choice n) (row_at window n) so_far else so_far) (of.chosen n below)
    ∙ ap₂ (λ (s : ℕ) (row : Row). if is_verified start one then with_row s row so_far else so_far) (of.stripes n below) (of.rows n below)
    ∙ ap (step start one) (window_rows_are start ws window choice of rows n (omega (arith, within)))
    ∙ sym (rows_append start (take n ws) (one ∷ []) rows)
    ∙ ap (λ (xs : List StripeReading). rows_with start xs rows) (sym (take_more ws n no_reading below))
    ∙ ap (λ (m : ℕ). rows_with start (take m ws) rows) (next n)
  where
    next : (m : ℕ) → m + 1 ≡ suc m
    next m = omega arith

-- ---- what writes keep

-- a place in the block of one stripe is outside of that of another
pub other_place : (size s t i : ℕ) → s ≢ t → s * size ≤ i → i < s * size + size → IsOutside size t i
other_place size s t i differs behind before =
    let back : s * size + (i - s * size) ≡ i = omega (arith, behind) in
    subst (λ (at : ℕ). IsOutside size t at) back (apart size size s t (i - s * size) refl differs (omega (arith, behind, before)))

module _ (size : ℕ) (IsOne : ℕ → Type 0) (old new : Files) (writes : WritesBlocks size IsOne old new) where
  -- rows of other stripes are still there
  pub other_rows_kept : (levels : ℕ) (rows : Rows) → ((s : ℕ) (row : Row) → rows s ≡ Some row → (t : ℕ) → IsOne t → s ≢ t) → HoldsRows levels size rows old → HoldsRows levels size rows new
  other_rows_kept levels rows differs holds = record {
    level = λ level s row below is i within.
        writes.keeps.bytes level (s * size + i) _ (λ t one. apart size size s t i refl (differs s row is t one) within) (holds.level level s row below is i within);
  }

  -- and so is each stripe that a table calls synced
  pub synced_kept : (table : TableValue) → table.shape.block_size ≡ size → ((s : ℕ) → IsOne s → (i : ℕ) → (is : IsInSynced table i) → is.stripe ≢ s) → KeepsSynced table old new
  synced_kept table size_is differs = record {
    bytes = λ level i x is has. writes.keeps.bytes level i x
        (λ t one.
        other_place size is.stripe t i (differs t one i is)
        (subst (λ (n : ℕ). is.stripe * n ≤ i) size_is is.behind) (subst (λ (n : ℕ). i < is.stripe * n + n) size_is is.before))
        has;
  }

  -- parity after writes of stripes that have rows now
  module _ (levels bytes : ℕ) (first : Files) (rows more : Rows) (was : HasParity levels size bytes rows first old) (holds : HoldsRows levels size more new) (some : 0 < bytes → 0 < size)
      (ends : (s : ℕ) → IsOne s → s * size + size ≤ bytes) (written : (s : ℕ) → IsOne s → HasRow more s) (stays : (s : ℕ) → HasRow rows s → HasRow more s) where
    outside_written : (i : ℕ) → IsOutsideRows size more i → IsOutsideAll size IsOne i
    outside_written i out s one = let has = written s one in out s has.row has.is

    outside_before : (i : ℕ) → IsOutsideRows size more i → IsOutsideRows size rows i
    outside_before i out s row is = let has = stays s (record { row = row; is = is }) in out s has.row has.is

    reaches : (level : ℕ) → level < levels → (i : ℕ) → i < bytes → i < length (parity_of new level)
    reaches level below i within = by (more (i / size)) refl
      where
        s : ℕ
        s = i / size

        place : s * size + i % size ≡ i
        place = div-add-mod' i size

        small : i % size < size
        small = mod-lt i (some (omega (arith, within)))

        no : (row : Row) → None ≡ Some row → ⊥
        no row is = cc

        by : (o : Option Row) → more s ≡ o → i < length (parity_of new level)
        by None is =
            let out : IsOutsideRows size more i = λ t row has. other_place size s t i (λ same. no row (sym is ∙ ap more same ∙ has)) (omega (arith, place)) (omega (arith, place, small)) in
            (writes.keeps.bytes level i _ (outside_written i out) (record { within = omega (arith, within, was.lengths level below); is = refl })).within
        by (Some row) is = let has = holds.level level s row below is (i % size) small in omega (arith, has.within, place)

    pub parity_more : HasParity levels size bytes more first new
    parity_more = record {
      lengths = λ level below.
          let short = writes.no_longer level bytes (omega (arith, was.lengths level below)) ends in
          elim (cases_lt 0 bytes) [
            | inl full ↦ let far = reaches level below (bytes - 1) (omega (arith, full)) in omega (arith, short, far, full)
            | inr none ↦ omega (arith, short, none)
          ];
      rows_held = holds;
      others = λ level i x below out has. writes.keeps.bytes level i x (outside_written i out) (was.others level i x below (outside_before i out) has);
    }

-- the same levels hold the same
pub same_rows : (levels size : ℕ) (rows : Rows) (a b : Files) → SameParities levels a b → HoldsRows levels size rows a → HoldsRows levels size rows b
same_rows levels size rows a b same holds = record {
  level = λ level s row below is i within. subst (λ (file : List ℕ). HasByte file (s * size + i) (parity_byte level row i)) (sym (same level below)) (holds.level level s row below is i within);
}

pub same_parity : (levels size bytes : ℕ) (rows : Rows) (first a b : Files) → SameParities levels a b → HasParity levels size bytes rows first a → HasParity levels size bytes rows first b
same_parity levels size bytes rows first a b same has = record {
  lengths = λ level below. ap (λ (file : List ℕ). length file) (same level below) ∙ has.lengths level below;
  rows_held = same_rows levels size rows a b same has.rows_held;
  others = λ level i x below out it. subst (λ (file : List ℕ). HasByte file i x) (sym (same level below)) (has.others level i x below out it);
}
