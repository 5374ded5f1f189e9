-- Some choice of so many levels passes a test throughout exactly where as many levels pass it.
use Rattle.std.proofs.Common.{◌≡◌, ℕ, zero, suc, ◌+◌, ◌≤◌, Bool, true, false, cond, List, [], ◌∷◌, length, map, refl, ap, ◌∙◌, arith}
use Rattle.std.specs.List.{All, Contains, count_by}
use Rattle.std.proofs.lemmas.List.{get_or-map, length-map}
use Rattle.std.proofs.lemmas.List.Elements.{All-nil, All-cons, All-head, All-tail, Contains-append_left, Contains-append_right}
use Rattle.std.proofs.lemmas.List.Sums.{sum_by-cons}
use Rattle.stripe_examiner.specs.Search.{choices}
use Rattle.stripe_examiner.proofs.SearchChoices.{IsSublist, nothing, with_first, without}

module _ (test : ℕ → Bool) where
  abbrev pub Passes : ℕ → Type 0
  Passes x = test x ≡ true

  -- an element that passes, and one that does not
  counted : (x : ℕ) (xs : List ℕ) → test x ≡ true → count_by test (x ∷ xs) ≡ suc (count_by test xs)
  counted x xs passes =
      let more = sum_by-cons (λ y. cond (test y) 1 0) x xs in
      let one = ap (λ (b : Bool). cond b 1 0 + count_by test xs) passes in
      omega (arith, more, one)

  not_counted : (x : ℕ) (xs : List ℕ) → test x ≡ false → count_by test (x ∷ xs) ≡ count_by test xs
  not_counted x xs fails =
      let more = sum_by-cons (λ y. cond (test y) 1 0) x xs in
      let none = ap (λ (b : Bool). cond b 1 0 + count_by test xs) fails in
      omega (arith, more, none)

  at_least : (x : ℕ) (xs : List ℕ) → count_by test xs ≤ count_by test (x ∷ xs)
  at_least x xs =
      let more = sum_by-cons (λ y. cond (test y) 1 0) x xs in
      omega arith

  pub sublist_count : {part xs : List ℕ} → IsSublist part xs → All Passes part → length part ≤ count_by test xs
  sublist_count (nothing xs) each = omega arith
  sublist_count (with_first x {part} {xs} rest) each =
      let more = counted x xs (All-head Passes x part each) in
      let less = sublist_count rest (All-tail Passes x part each) in
      omega (arith, more, less)
  sublist_count (without x {part} {xs} rest) each =
      let more = at_least x xs in
      let less = sublist_count rest each in
      omega (arith, more, less)

  contains_start : (x : ℕ) (tried : List (List ℕ)) (choice : List ℕ) → Contains tried choice → Contains (map (λ (c : List ℕ). x ∷ c) tried) (x ∷ choice)
  contains_start x tried choice there = (
    there.0,
    omega (arith, length-map tried (λ (c : List ℕ). x ∷ c), there.1),
    get_or-map (λ (c : List ℕ). x ∷ c) tried there.0 choice (x ∷ choice) there.1 ∙ ap (λ (c : List ℕ). x ∷ c) there.2,
  )

  -- a choice of so many whose elements all pass
  abbrev pub PassingChoice : ℕ → List ℕ → Type 0
  PassingChoice m levels = (choice : List ℕ) × Contains (choices m levels) choice × All Passes choice

  pub passing_choice : (m : ℕ) (levels : List ℕ) → m ≤ count_by test levels → PassingChoice m levels
  passing_choice zero levels few = ([], (0, omega arith, refl), All-nil Passes)
  passing_choice (suc m) [] few = absurd (omega arith)
  passing_choice (suc m) (x ∷ xs) few =
      (elim (test x) as (λ (b : Bool). test x ≡ b → PassingChoice (suc m) (x ∷ xs)) [
        | true ↦ λ passes.
            let rest = passing_choice m xs (omega (arith, counted x xs passes, few)) in (
              x ∷ rest.0,
              Contains-append_left (map (λ (c : List ℕ). x ∷ c) (choices m xs)) (choices (suc m) xs) (x ∷ rest.0) (contains_start x (choices m xs) rest.0 rest.1),
              All-cons Passes x rest.0 passes rest.2,
            )
        | false ↦ λ fails.
            let rest = passing_choice (suc m) xs (omega (arith, not_counted x xs fails, few)) in
            (rest.0, Contains-append_right (map (λ (c : List ℕ). x ∷ c) (choices m xs)) (choices (suc m) xs) rest.0 rest.1, rest.2)
      ]) refl
