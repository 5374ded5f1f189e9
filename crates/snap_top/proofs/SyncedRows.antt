-- The rows that a sync closed are those that its trees give.
use Rattle.std.proofs.Common.{◌≡◌, inl, inr, ℕ, ◌≤◌, ◌++◌, List, [], ◌∷◌, length, take, Bool, true, false, if◌then◌else◌, None, Some, refl, sym, ap, ◌∙◌, subst}
use Rattle.std.proofs.lemmas.Bool.Decides.{eqb_tells}
use Rattle.disk_model.specs.Tree.{Tree}
use Rattle.file_table.specs.Table.{TableValue}
use Rattle.parity_writer.specs.Parity.{Row, Rows, no_rows, with_row}
use Rattle.snap_sync.specs.Closing.{rows_of, rows_with}
use Rattle.snap_sync.specs.Images.{rows_after}
use Rattle.snap_sync.specs.Part.{IsToldRun, SyncRun, reading_by, readings_by, run_trees, verified_stripes}
use Rattle.snap_sync.proofs.CellLemmas.{FindsCells}
use Rattle.snap_sync.proofs.PartLemmas.{given_again, rows_filter}
use Rattle.stripe_findings.specs.Reading.{StripeReading, is_verified, row_of}

-- the trees verify the stripe, and this is its row as they give it
pub record IsGivenRow (start : TableValue) (trees : List Tree) (stripe : ℕ) (row : Row) : Type 0 where
  pub verified : is_verified start (reading_by start trees stripe) ≡ true
  pub row_is : row ≡ row_of (reading_by start trees stripe)

abbrev pub AreGiven : TableValue → List Tree → Rows → Type 0
AreGiven start trees rows = (stripe : ℕ) (row : Row) → rows stripe ≡ Some row → IsGivenRow start trees stripe row

module _ (start : TableValue) (trees : List Tree) where
  abbrev row_at : ℕ → Row
  row_at stripe = row_of (reading_by start trees stripe)

  none_given : AreGiven start trees no_rows
  none_given stripe row is = let clash : None ≡ Some row = is in absurd cc

  given_with : (at : ℕ) (rows : Rows) → AreGiven start trees rows → is_verified start (reading_by start trees at) ≡ true → AreGiven start trees (with_row at (row_at at) rows)
  given_with at rows given verified stripe row is = elim (eqb_tells stripe at) [
    | inl same ↦
        let here : Some (row_at at) ≡ Some row = sym (ap (λ (b : Bool). if b then Some (row_at at) else rows stripe) same.0) ∙ is in
        let row_is : row ≡ row_at at = cc in
        subst (λ (s : ℕ). IsGivenRow start trees s row) (sym same.1) (record { verified = verified; row_is = row_is })
    | inr other ↦ given stripe row (sym (ap (λ (b : Bool). if b then Some (row_at at) else rows stripe) other.0) ∙ is)
  ]

  all_given : (stripes : List ℕ) (rows : Rows) → AreGiven start trees rows → AreGiven start trees (rows_with start (readings_by start trees stripes) rows)
  all_given [] rows given = given
  all_given (at ∷ stripes) rows given = by (is_verified start (reading_by start trees at)) refl (all_given stripes)
    where
      by : (b : Bool) → is_verified start (reading_by start trees at) ≡ b
          → ((others : Rows) → AreGiven start trees others → AreGiven start trees (rows_with start (readings_by start trees stripes) others))
          → AreGiven start trees (rows_with start (readings_by start trees stripes) (if b then with_row at (row_at at) rows else rows))
      by true is rest = rest (with_row at (row_at at) rows) (given_with at rows given is)
      by false is rest = rest rows given

pub rows_given : FindsCells → (run : SyncRun) (count : ℕ) → IsToldRun run → count ≤ length run.readings → AreGiven run.plan.start (run_trees run) (rows_after run.plan run.readings count)
rows_given finds run count told within =
    let start : TableValue = run.plan.start in
    let read : List StripeReading = take count run.readings in
    subst (AreGiven start (run_trees run))
    (sym (rows_filter start read no_rows
    ∙ ap (rows_of start) (given_again run.setup run.loaded start (run.readings ++ run.ahead) run.folders run.listed run.ended told finds run.readings run.ahead refl count within)))
    (all_given start (run_trees run) (verified_stripes start read) no_rows (none_given start (run_trees run)))
