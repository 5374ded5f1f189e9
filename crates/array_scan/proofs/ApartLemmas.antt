-- Lists of numbers without a number twice, and lists that share none.
use Rattle.std.proofs.Common.{◌≡◌, ◌≢◌, inl, inr, ℕ, ◌+◌, ◌-◌, ◌<◌, List, [], ◌++◌, length, get_or, take, drop, sym, subst, arith, length-append, AllPairs}
use Rattle.std.specs.List.{Contains}
use Rattle.std.proofs.lemmas.Bool.{cases_lt}
use Rattle.std.proofs.lemmas.List.{get_or_append_left, get_or-append-add, take-append-drop, get_or_default}
use Rattle.std.proofs.lemmas.List.Elements.{Contains-get_or, Contains-append_left, Contains-append_right}
use Rattle.folder_listing.proofs.JoinedLemmas.{AllPairs-across}

-- no number stands twice
abbrev pub Distinct : List ℕ → Type 0
Distinct ps = AllPairs (λ (a b : ℕ). a ≢ b) ps

-- no number is in both
abbrev pub Apart : List ℕ → List ℕ → Type 0
Apart ps qs = (p : ℕ) → Contains ps p → Contains qs p → ⊥

pub none_in_nothing : {X : Type 0} (x : X) → ¬ (Contains [] x)
none_in_nothing x there = omega (arith, there.1)

pub AllPairs-append : {X : Type 0} (R : X → X → Type 0) (xs ys : List X) → AllPairs R xs → AllPairs R ys → ((x y : X) → Contains xs x → Contains ys y → R x y) → AllPairs R (xs ++ ys)
AllPairs-append R xs ys one two across i j d less within =
    elim (cases_lt j (length xs)) [
      | inl j_in ↦
          subst (R (get_or (xs ++ ys) i d)) (sym (get_or_append_left xs ys d j j_in))
          (subst (λ a. R a (get_or xs j d)) (sym (get_or_append_left xs ys d i (omega arith))) (one i j d less j_in))
      | inr j_out ↦
          let n = j - length xs in
          let j_is : length xs + n ≡ j = omega arith in
          let n_in : n < length ys = omega (arith, length-append xs ys) in
          let there : get_or (xs ++ ys) j d ≡ get_or ys n d = subst (λ (m : ℕ). get_or (xs ++ ys) m d ≡ get_or ys n d) j_is (get_or-append-add xs ys n d) in
          elim (cases_lt i (length xs)) [
            | inl i_in ↦
                subst (R (get_or (xs ++ ys) i d)) (sym there)
                (subst (λ a. R a (get_or ys n d)) (sym (get_or_append_left xs ys d i i_in)) (across (get_or xs i d) (get_or ys n d) (Contains-get_or xs i d i_in) (Contains-get_or ys n d n_in)))
            | inr i_out ↦
                let m = i - length xs in
                let i_is : length xs + m ≡ i = omega arith in
                let here : get_or (xs ++ ys) i d ≡ get_or ys m d = subst (λ (k : ℕ). get_or (xs ++ ys) k d ≡ get_or ys m d) i_is (get_or-append-add xs ys m d) in
                subst (R (get_or (xs ++ ys) i d)) (sym there) (subst (λ a. R a (get_or ys n d)) (sym here) (two m n d (omega arith) n_in))
          ]
    ]

pub distinct-append : (xs ys : List ℕ) → Distinct xs → Distinct ys → Apart xs ys → Distinct (xs ++ ys)
distinct-append xs ys one two apart =
    AllPairs-append (λ (a b : ℕ). a ≢ b) xs ys one two (λ x y first second same. apart y (subst (Contains xs) same first) second)

pub distinct_apart : (xs ys : List ℕ) → Distinct (xs ++ ys) → Apart xs ys
distinct_apart xs ys all p first second = AllPairs-across (λ (a b : ℕ). a ≢ b) xs ys all p p first second (refl_of p)
  where
    refl_of : (p : ℕ) → p ≡ p
    refl_of p = omega arith

-- what is in a part of a list is in the list
pub in_take : {X : Type 0} (n : ℕ) (xs : List X) (x : X) → Contains (take n xs) x → Contains xs x
in_take n xs x there = subst (λ (ys : List _). Contains ys x) (take-append-drop n xs) (Contains-append_left (take n xs) (drop n xs) x there)

pub in_drop : {X : Type 0} (n : ℕ) (xs : List X) (x : X) → Contains (drop n xs) x → Contains xs x
in_drop n xs x there = subst (λ (ys : List _). Contains ys x) (take-append-drop n xs) (Contains-append_right (take n xs) (drop n xs) x there)
