-- The missing blocks of a stripe, as they are searched for and found.
use Rattle.std.proofs.Common.{◌≡◌, inl, inr, ℕ, ◌*◌, ◌<◌, ◌≤◌, List, [], ◌∷◌, length, take, sym, ap, ◌∙◌, subst, arith}
use Rattle.std.specs.List.{All}
use Rattle.std.proofs.lemmas.Bool.{cases_lt}
use Rattle.std.proofs.lemmas.List.{get_or-map, length-append, length-map}
use Rattle.cauchy.specs.System.{AreDistinctBelow}
use Rattle.file_table.specs.declared.shape.Shape.{Shape}
use Rattle.parity_writer.specs.LevelsValue.{LevelValue}
use Rattle.parity_writer.specs.Parity.{Row}
use Rattle.stripe_examiner.specs.declared.search.Wanted.{Wanted}
use Rattle.stripe_examiner.specs.Judged.{AreMissingIn}
use Rattle.stripe_examiner.specs.Known.{AreRemainders}
use Rattle.stripe_examiner.specs.Restorable.{filled}
use Rattle.stripe_examiner.specs.Search.{Finds, choices, found_in}
use Rattle.stripe_examiner.proofs.SearchChoices.{choices_none, distinct_few}

pub distinct_below : (n m : ℕ) (xs : List ℕ) → n ≤ m → AreDistinctBelow n xs → AreDistinctBelow m xs
distinct_below n m xs few is = record { below = λ j within. omega (arith, is.below j within, few); distinct = is.distinct }

pub columns_below : (row : Row) (size n : ℕ) (wanteds : List Wanted) → length row ≤ n → AreMissingIn row size wanteds → All (λ (one : Wanted). one.column < n) wanteds
columns_below row size n wanteds few missing k other within =
    let long = length-map wanteds (λ (wanted : Wanted). wanted.column) in
    omega (arith, few, get_or-map (λ (wanted : Wanted). wanted.column) wanteds k other 0 within, missing.distinct.below k (omega (arith, within, long)))

-- of more blocks than there are levels none are found
pub few_found : (shape : Shape) (wanteds : List Wanted) (remainders levels blocks : List ℕ) → AreDistinctBelow 6 levels → Finds shape wanteds remainders levels blocks → length wanteds ≤ 6
few_found shape wanteds remainders levels blocks distinct found = elim (cases_lt 6 (length wanteds)) [
  | inl many ↦
      let few = distinct_few 6 levels distinct in
      let none : choices (length wanteds) levels ≡ [] = choices_none (length wanteds) levels (omega (arith, few, many)) in
      absurd (omega (arith, ap (λ (cs : List (List ℕ)). length cs) (sym found.parts ∙ none), length-append found.earlier (found.choice ∷ found.later)))
  | inr few ↦ omega (arith, few)
]

-- at the same shape
pub left_at_shape : (shape its_shape : Shape) (wanteds : List Wanted) (n : ℕ) (work remainders : List ℕ) (row : Row) (levels : List LevelValue) → its_shape ≡ shape → n ≡ length wanteds
    → AreRemainders its_shape.block_size (filled its_shape.block_size (take (n * its_shape.block_size) work) wanteds row) levels remainders
    → AreRemainders shape.block_size (filled shape.block_size (found_in shape wanteds work) wanteds row) levels remainders
left_at_shape shape its_shape wanteds n work remainders row levels shape_is many are =
    subst (λ (s : Shape). AreRemainders s.block_size (filled s.block_size (found_in s wanteds work) wanteds row) levels remainders) shape_is
    (subst (λ (m : ℕ). AreRemainders its_shape.block_size (filled its_shape.block_size (take (m * its_shape.block_size) work) wanteds row) levels remainders) many are)
