-- What is written of a stripe, by whether it is chosen.
use Rattle.std.proofs.Common.{◌≡◌, ◌≢◌, inl, inr, ℕ, zero, suc, ◌+◌, ◌<◌, ◌≤◌, List, [], length, Bool, true, false, if◌then◌else◌, Some, refl, sym, ◌∙◌, ap, arith}
use Rattle.std.specs.List.{AllPairs}
use Rattle.std.proofs.lemmas.Bool.{cases_eq, eq-eqb, ne_eqb}
use Rattle.disk_model.specs.Vault.{VaultCall}
use Rattle.stripe_reader.specs.WindowValue.{WindowValue}
use Rattle.parity_writer.specs.Calls.{sum_calls}
use Rattle.parity_writer.specs.Chosen.{Choice, IsChosen, stripe_in, is_chosen, choice_calls, rows_with}
use Rattle.parity_writer.specs.Parity.{Row, Rows, with_row, HasRow}
use Rattle.parity_writer.specs.WindowRow.{row_at}

module _ (window : WindowValue) (choice : Choice) (i : ℕ) where
  calls_by : ℕ → Bool → List VaultCall
  calls_by levels chosen = if chosen then sum_calls levels window.block_size (stripe_in choice i) (row_at window i) else []

  pub calls_chosen : (levels : ℕ) → is_chosen choice i ≡ true → choice_calls levels window choice i ≡ sum_calls levels window.block_size (stripe_in choice i) (row_at window i)
  unfolding calls_by
  calls_chosen levels on = ap (calls_by levels) on

  pub calls_none : (levels : ℕ) → is_chosen choice i ≡ false → choice_calls levels window choice i ≡ []
  unfolding calls_by
  calls_none levels off = ap (calls_by levels) off

  more : i + 1 ≡ suc i
  more = omega arith

  rows_by : Rows → Bool → Rows
  rows_by rows chosen = if chosen then with_row (stripe_in choice i) (row_at window i) (rows_with window choice i rows) else rows_with window choice i rows

  pub rows_chosen : (rows : Rows) → is_chosen choice i ≡ true → rows_with window choice (i + 1) rows ≡ with_row (stripe_in choice i) (row_at window i) (rows_with window choice i rows)
  unfolding rows_by
  rows_chosen rows on = ap (λ (n : ℕ). rows_with window choice n rows) more ∙ ap (rows_by rows) on

  pub rows_none : (rows : Rows) → is_chosen choice i ≡ false → rows_with window choice (i + 1) rows ≡ rows_with window choice i rows
  unfolding rows_by
  rows_none rows off = ap (λ (n : ℕ). rows_with window choice n rows) more ∙ ap (rows_by rows) off

-- a stripe has a row that is given to it, and any other one the row that it had
row_here : (at : ℕ) (row : Row) (rows : Rows) (stripe : ℕ) → stripe ≡ at → with_row at row rows stripe ≡ Some row
row_here at row rows stripe same = ap (λ (b : Bool). if b then Some row else rows stripe) (eq-eqb stripe at same)

row_there : (at : ℕ) (row : Row) (rows : Rows) (stripe : ℕ) → stripe ≢ at → with_row at row rows stripe ≡ rows stripe
row_there at row rows stripe other = ap (λ (b : Bool). if b then Some row else rows stripe) (ne_eqb stripe at other)

module _ (window : WindowValue) (choice : Choice) (rows : Rows) where
  abbrev after : ℕ → Rows
  after count = rows_with window choice count rows

  -- one more stripe leaves the row of another one
  passed_by : (count stripe : ℕ) (chosen : Bool) → is_chosen choice count ≡ chosen → (chosen ≡ true → stripe ≢ stripe_in choice count) → after (suc count) stripe ≡ after count stripe
  passed_by count stripe false is other = ap (λ (b : Bool). (if b then with_row (stripe_in choice count) (row_at window count) (after count) else after count) stripe) is
  passed_by count stripe true is other =
      ap (λ (b : Bool). (if b then with_row (stripe_in choice count) (row_at window count) (after count) else after count) stripe) is
      ∙ row_there (stripe_in choice count) (row_at window count) (after count) stripe (other refl)

  -- a stripe that is not chosen has the row that it had
  pub other_row : (count stripe : ℕ) → count ≤ length choice.stripes → ¬ (IsChosen choice stripe) → after count stripe ≡ rows stripe
  other_row zero stripe few not = refl
  other_row (suc count) stripe few not =
      passed_by count stripe (is_chosen choice count) refl (λ chosen same. not (record { i = count; within = omega (arith, few); stripe_is = sym same; chosen = chosen }))
      ∙ other_row count stripe (omega (arith, few)) not

  -- a chosen stripe has its row, where the stripes are distinct
  pub chosen_row : (count i : ℕ) → AllPairs (λ (a b : ℕ). a ≢ b) choice.stripes → count ≤ length choice.stripes → i < count → is_chosen choice i ≡ true
      → after count (stripe_in choice i) ≡ Some (row_at window i)
  chosen_row zero i once few below chosen = absurd (omega (arith, below))
  chosen_row (suc count) i once few below chosen = elim (cases_eq i count) [
    | inl same ↦
        ap (λ (n : ℕ). after (suc count) (stripe_in choice n)) same
        ∙ ap (λ (b : Bool). (if b then with_row (stripe_in choice count) (row_at window count) (after count) else after count) (stripe_in choice count)) (ap (is_chosen choice) (sym same) ∙ chosen)
        ∙ row_here (stripe_in choice count) (row_at window count) (after count) (stripe_in choice count) refl
        ∙ ap (λ (n : ℕ). Some (row_at window n)) (sym same)
    | inr other ↦
        passed_by count (stripe_in choice i) (is_chosen choice count) refl (λ chosen_too. once i count 0 (omega (arith, below, other)) (omega (arith, few)))
        ∙ chosen_row count i once (omega (arith, few)) (omega (arith, below, other)) chosen
  ]

  -- a stripe that has a row has one after one more stripe
  with_more : (count stripe : ℕ) (chosen : Bool) → HasRow (after count) stripe → HasRow (if chosen then with_row (stripe_in choice count) (row_at window count) (after count) else after count) stripe
  with_more count stripe false has = has
  with_more count stripe true has = elim (cases_eq stripe (stripe_in choice count)) [
    | inl same ↦ (row_at window count, row_here (stripe_in choice count) (row_at window count) (after count) stripe same)
    | inr other ↦ (has.0, row_there (stripe_in choice count) (row_at window count) (after count) stripe other ∙ has.1)
  ]

  pub had_row : (count stripe : ℕ) → HasRow rows stripe → HasRow (after count) stripe
  had_row zero stripe has = has
  had_row (suc count) stripe has = with_more count stripe (is_chosen choice count) (had_row count stripe has)

  pub chosen_has : (count i : ℕ) → i < count → is_chosen choice i ≡ true → HasRow (after count) (stripe_in choice i)
  chosen_has zero i below chosen = absurd (omega (arith, below))
  chosen_has (suc count) i below chosen = elim (cases_eq i count) [
    | inl same ↦ (
      row_at window count,
      ap (λ (n : ℕ). after (suc count) (stripe_in choice n)) same
          ∙ ap (λ (b : Bool). (if b then with_row (stripe_in choice count) (row_at window count) (after count) else after count) (stripe_in choice count)) (ap (is_chosen choice) (sym same) ∙ chosen)
          ∙ row_here (stripe_in choice count) (row_at window count) (after count) (stripe_in choice count) refl,
    )
    | inr other ↦ with_more count (stripe_in choice i) (is_chosen choice count) (chosen_has count i (omega (arith, below, other)) chosen)
  ]
