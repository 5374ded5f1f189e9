-- Lists that agree place by place, and tests that are decided by search.
use Rattle.std.proofs.Common.{◌≡◌, ◌≢◌, ◌⊎◌, inl, inr, ℕ, zero, suc, ◌+◌, ◌<◌, ◌||◌, List, [], ◌∷◌, ◌++◌, length, get_or, count_by, Bool, true, false, refl, sym, ap, ap₂, ◌∙◌, subst, arith}
use Rattle.std.specs.Prelude.{sum_by, bytes_eq}
use Rattle.std.specs.List.{flat_map, list_any, range_with_len}
use Rattle.std.proofs.lemmas.Bool.{cases_eq}
use Rattle.std.proofs.lemmas.List.Sums.{length-filter, sum_by-cons}
use Rattle.std.proofs.lemmas.Slice.Eq.{bytes_eq-Decides}
use Rattle.disk_model.specs.Tree.{path_of}
use Rattle.stripe_examiner.proofs.CellFactsLemmas.{filter_below}

-- ---- what is gathered of lists of which it agrees place by place

pub flat_map_same : {A B : Type 0} (f : A → List B) (none : A) (xs ys : List A) → length xs ≡ length ys → ((k : ℕ) → k < length xs → f (get_or xs k none) ≡ f (get_or ys k none)) → flat_map f xs ≡ flat_map f ys
flat_map_same f none [] [] long each = refl
flat_map_same f none [] (y ∷ ys) long each = absurd (omega (arith, long))
flat_map_same f none (x ∷ xs) [] long each = absurd (omega (arith, long))
flat_map_same {A} {B} f none (x ∷ xs) (y ∷ ys) long each =
    ap₂ (λ (first rest : List B). first ++ rest) (each 0 (omega arith)) (flat_map_same f none xs ys (omega (arith, long)) (λ k within. each (suc k) (omega (arith, within))))

pub sum_by_same : {A : Type 0} (f : A → ℕ) (none : A) (xs ys : List A) → length xs ≡ length ys → ((k : ℕ) → k < length xs → f (get_or xs k none) ≡ f (get_or ys k none)) → sum_by f xs ≡ sum_by f ys
sum_by_same f none [] [] long each = refl
sum_by_same f none [] (y ∷ ys) long each = absurd (omega (arith, long))
sum_by_same f none (x ∷ xs) [] long each = absurd (omega (arith, long))
sum_by_same f none (x ∷ xs) (y ∷ ys) long each =
    sum_by-cons f x xs
    ∙ ap₂ (λ (first rest : ℕ). first + rest) (each 0 (omega arith)) (sum_by_same f none xs ys (omega (arith, long)) (λ k within. each (suc k) (omega (arith, within))))
    ∙ sym (sum_by-cons f y ys)

pub any_same : {A : Type 0} (f : A → Bool) (none : A) (xs ys : List A) → length xs ≡ length ys → ((k : ℕ) → k < length xs → f (get_or xs k none) ≡ f (get_or ys k none)) → list_any f xs ≡ list_any f ys
any_same f none [] [] long each = refl
any_same f none [] (y ∷ ys) long each = absurd (omega (arith, long))
any_same f none (x ∷ xs) [] long each = absurd (omega (arith, long))
any_same f none (x ∷ xs) (y ∷ ys) long each =
    ap₂ (λ (first rest : Bool). first || rest) (each 0 (omega arith)) (any_same f none xs ys (omega (arith, long)) (λ k within. each (suc k) (omega (arith, within))))

-- tests that agree below a bound pass as many numbers
pub count_below : (p q : ℕ → Bool) (n : ℕ) → ((d : ℕ) → d < n → p d ≡ q d) → count_by p (range_with_len 0 n) ≡ count_by q (range_with_len 0 n)
count_below p q n same = sym (length-filter p (range_with_len 0 n)) ∙ ap (λ (xs : List ℕ). length xs) (filter_below p q n same) ∙ length-filter q (range_with_len 0 n)

-- ---- searches

-- something holds of the element at some place, or of none
module _ {A : Type 0} (none : A) (P : A → Type 0) (decide : (x : A) → P x ⊎ ¬ (P x)) where
  abbrev IsFound : List A → Type 0
  IsFound xs = (k : ℕ) × (k < length xs) × P (get_or xs k none)

  abbrev IsNowhere : List A → Type 0
  IsNowhere xs = (k : ℕ) → k < length xs → ¬ (P (get_or xs k none))

  behind : (x : A) (xs : List A) → ¬ (P x) → IsNowhere xs → IsNowhere (x ∷ xs)
  behind x xs not rest zero within = not
  behind x xs not rest (suc k) within = rest k (omega (arith, within))

  pub found_or_nowhere : (xs : List A) → IsFound xs ⊎ IsNowhere xs
  found_or_nowhere [] = inr (λ k within. absurd (omega (arith, within)))
  found_or_nowhere (x ∷ xs) = elim (decide x) [
    | inl here ↦ inl (0, omega arith, here)
    | inr not ↦ elim (found_or_nowhere xs) [
      | inl found ↦ inl (suc found.0, (let near = found.1 in omega (arith, near)), found.2)
      | inr rest ↦ inr (behind x xs not rest)
    ]
  ]

-- a name is one of the two of some path, or of none
module _ (path : ℕ → List ℕ) (name : List ℕ) where
  abbrev IsNameBelow : ℕ → Type 0
  IsNameBelow n = (i : ℕ) × (lost : Bool) × (i < n) × (name ≡ path_of (path i) lost)

  abbrev IsNoneBelow : ℕ → Type 0
  IsNoneBelow n = (i : ℕ) (lost : Bool) → i < n → name ≢ path_of (path i) lost

  unequal : (other : List ℕ) → bytes_eq name other ≡ false → name ≢ other
  unequal other differs same = let clash : false ≡ true = sym differs ∙ (bytes_eq-Decides name other).1 same in cc

  more : (n : ℕ) → IsNoneBelow n → name ≢ path_of (path n) false → name ≢ path_of (path n) true → IsNoneBelow (suc n)
  more n none plain other i lost below same = elim (cases_eq i n) [
    | inl here ↦ by lost (subst (λ (j : ℕ). name ≡ path_of (path j) lost) here same)
    | inr there ↦ none i lost (omega (arith, below, there)) same
  ]
    where
      by : (b : Bool) → name ≡ path_of (path n) b → ⊥
      by false is = plain is
      by true is = other is

  pub named_or_not : (n : ℕ) → IsNameBelow n ⊎ IsNoneBelow n
  named_or_not zero = inr (λ i lost below same. absurd (omega (arith, below)))
  named_or_not (suc n) = elim (named_or_not n) [
    | inl found ↦ inl (found.0, found.1, (let near = found.2 in omega (arith, near)), found.3)
    | inr none ↦ plain none (bytes_eq name (path_of (path n) false)) refl
  ]
    where
      last : IsNoneBelow n → name ≢ path_of (path n) false → (b : Bool) → bytes_eq name (path_of (path n) true) ≡ b → IsNameBelow (suc n) ⊎ IsNoneBelow (suc n)
      last none apart true is = inl (n, true, omega arith, (bytes_eq-Decides name (path_of (path n) true)).0 is)
      last none apart false is = inr (more n none apart (unequal (path_of (path n) true) is))

      plain : IsNoneBelow n → (b : Bool) → bytes_eq name (path_of (path n) false) ≡ b → IsNameBelow (suc n) ⊎ IsNoneBelow (suc n)
      plain none true is = inl (n, false, omega arith, (bytes_eq-Decides name (path_of (path n) false)).0 is)
      plain none false is = last none (unequal (path_of (path n) false) is) (bytes_eq name (path_of (path n) true)) refl
