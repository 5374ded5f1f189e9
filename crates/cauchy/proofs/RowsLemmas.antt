-- Matrices that grow by a row.
use Rattle.std.proofs.Common.{◌≡◌, ℕ, ◌+◌, ◌<◌, List, [], ◌∷◌, ◌++◌, map, length, get_or, refl, sym, ap, ◌∙◌, inl, inr, arith, length-append}
use Rattle.std.proofs.lemmas.Bool.{cases_lt}
use Rattle.std.proofs.lemmas.List.{get_or_append_left, length-map, map-append}
use Rattle.std.proofs.Math.Seq.{get_or-append_seam}
use Rattle.arrayvec.specs.ArrayVec.{ArrayVec, array_vec_len}
use Rattle.cauchy.specs.Elimination.{rows_of, HasShape}

module _ (old new : ArrayVec (ArrayVec ℕ)) (row : ArrayVec ℕ) (pushed : new.items ≡ old.items ++ row ∷ []) where
  rows_grow : rows_of new ≡ rows_of old ++ row.items ∷ []
  rows_grow = ap (map (λ r. r.items)) pushed ∙ map-append (λ r. r.items) old.items (row ∷ [])

  row_count : length (rows_of old) ≡ array_vec_len old
  row_count = length-map old.items (λ r. r.items)

  -- an earlier row
  pub row_before : (i : ℕ) → i < array_vec_len old → get_or (rows_of new) i [] ≡ get_or (rows_of old) i []
  row_before i h =
      ap (λ (rows : List (List ℕ)). get_or rows i []) rows_grow ∙ get_or_append_left (rows_of old) (row.items ∷ []) [] i (omega (arith, row_count))

  -- the new row
  pub row_here : (i : ℕ) → i ≡ array_vec_len old → get_or (rows_of new) i [] ≡ row.items
  row_here i here =
      ap (get_or (rows_of new) i) refl ∙ ap (λ (rows : List (List ℕ)). get_or rows i []) rows_grow
      ∙ ap (λ (k : ℕ). get_or (rows_of old ++ row.items ∷ []) k []) (here ∙ sym row_count) ∙ get_or-append_seam (rows_of old) row.items [] []

  pub HasShape-push : (rows columns : ℕ) → HasShape rows columns old → length row.items ≡ columns → HasShape (rows + 1) columns new
  HasShape-push rows columns shape long =
      record {
        row_count = ap length pushed ∙ length-append old.items (row ∷ []) ∙ ap (λ (n : ℕ). n + 1) shape.row_count;
        lengths = λ i h.
            elim (cases_lt i rows) [
              | inl below ↦ ap length (row_before i (omega (arith, shape.row_count))) ∙ shape.lengths i below
              | inr above ↦ ap length (row_here i (omega (arith, shape.row_count))) ∙ long
            ];
      }
