-- What is among lists that are joined, cut, mapped or filtered.
use Rattle.std.proofs.Common.{◌≡◌, inl, inr, ℕ, zero, suc, ◌+◌, ◌-◌, ◌<◌, nat_eq, List, [], ◌∷◌, ◌++◌, length, take, drop, get_or, min, Bool, true, false, refl, sym, ap, ◌∙◌, arith}
use Rattle.std.specs.List.{All, Contains, filter, flat_map, list_any}
use Rattle.std.proofs.lemmas.Bool.{both_ways, cases_lt, eq-eqb, eqb-true, or_cases, or_parts, true_from_ne_false}
use Rattle.std.proofs.lemmas.List.{get_or-append-add, get_or-map, get_or-drop, get_or-take, get_or_append_left, get_or-append_right, length-append, length-drop, length-map, length-take}
use Rattle.std.proofs.lemmas.List.Elements.{All-cons, All-nil}
use Rattle.file_table.specs.Table.{positions_of}
use Rattle.file_table.specs.declared.block.Block.{Block}

pub contains_left : {X : Type 0} (xs ys : List X) (x : X) → Contains xs x → Contains (xs ++ ys) x
contains_left {X} xs ys x has =
    let long : length (xs ++ ys) ≡ length xs + length ys = length-append xs ys in
    (has.0, omega (arith, has.1, long), get_or_append_left xs ys x has.0 has.1 ∙ has.2)

pub contains_right : {X : Type 0} (xs ys : List X) (x : X) → Contains ys x → Contains (xs ++ ys) x
contains_right {X} xs ys x has =
    let long : length (xs ++ ys) ≡ length xs + length ys = length-append xs ys in
    (length xs + has.0, omega (arith, has.1, long), get_or-append-add xs ys has.0 x ∙ has.2)

-- an element of what is made of one of a list
pub contains_joined : {X A : Type 0} (f : X → List A) (xs : List X) (i : ℕ) (d : X) (a : A) → i < length xs → Contains (f (get_or xs i d)) a → Contains (flat_map f xs) a
contains_joined f [] i d a within has = absurd (omega arith)
contains_joined f (x ∷ xs) zero d a within has = contains_left (f x) (flat_map f xs) a has
contains_joined f (x ∷ xs) (suc i) d a within has = contains_right (f x) (flat_map f xs) a (contains_joined f xs i d a (omega arith) has)

pub contains_first : {X : Type 0} (xs : List X) (n : ℕ) (x : X) → Contains (take n xs) x → Contains xs x
contains_first xs n x has =
    let long : length (take n xs) ≡ min n (length xs) = length-take n xs in
    (has.0, omega (arith, has.1, long), sym (get_or-take n xs has.0 x (omega (arith, has.1, long))) ∙ has.2)

-- what passes
pub kept_pass : {X : Type 0} (p : X → Bool) (P : X → Type 0) (xs : List X) → All (λ x. p x ≡ true → P x) xs → All P (filter p xs)
kept_pass p P [] each = All-nil P
kept_pass {X} p P (x ∷ xs) each = by_case (p x) refl (each 0 x (omega arith)) (kept_pass p P xs (λ k d within. each (suc k) d (omega arith)))
  where
    by_case : (b : Bool) → p x ≡ b → (p x ≡ true → P x) → All P (filter p xs) → All P (filter p (x ∷ xs))
    by_case true is here rest = rw is (All-cons P x (filter p xs) (here is) rest)
    by_case false is here rest = rw is rest

pub contains_kept : (p : ℕ → Bool) (ns : List ℕ) (n : ℕ) → Contains ns n → p n ≡ true → Contains (filter p ns) n
contains_kept p [] n has is = absurd (omega (arith, has.1))
contains_kept p (m ∷ ns) n has is = by_place has.0 has.1 has.2 (contains_kept p ns n)
  where
    here : (b : Bool) → p m ≡ b → (p m ≡ true) → m ≡ n → Contains (filter p (m ∷ ns)) n
    here true at passes same = rw at (0, omega arith, same)
    here false at passes same = cc

    later : (b : Bool) → p m ≡ b → Contains (filter p ns) n → Contains (filter p (m ∷ ns)) n
    later true at rest = rw at (suc rest.0, omega (arith, rest.1), rest.2)
    later false at rest = rw at rest

    by_place : (k : ℕ) → k < length (m ∷ ns) → get_or (m ∷ ns) k n ≡ n → (Contains ns n → p n ≡ true → Contains (filter p ns) n) → Contains (filter p (m ∷ ns)) n
    by_place zero within same more = here (p m) refl (ap p same ∙ is) same
    by_place (suc k) within same more = later (p m) refl (more (k, omega arith, same) is)

pub contains_drop : (n : ℕ) (xs : List ℕ) (x : ℕ) → Contains (drop n xs) x → Contains xs x
contains_drop n xs x has = let long : length (drop n xs) ≡ length xs - n = length-drop n xs in (n + has.0, omega (arith, has.1, long), sym (get_or-drop n xs has.0 x) ∙ has.2)

-- what is among all that each gives, is among what one of them gives
pub record IsGivenBy {X A : Type 0} (f : X → List A) (xs : List X) (d : X) (a : A) : Type 0 where
  pub at : ℕ
  pub within : at < length xs
  pub has : Contains (f (get_or xs at d)) a

pub given_by_one : {X A : Type 0} (f : X → List A) (xs : List X) (d : X) (a : A) → Contains (flat_map f xs) a → IsGivenBy f xs d a
given_by_one f [] d a has = absurd (omega (arith, has.1))
given_by_one {X} {A} f (x ∷ xs) d a has =
    let long : length (f x ++ flat_map f xs) ≡ length (f x) + length (flat_map f xs) = length-append (f x) (flat_map f xs) in
    elim (cases_lt has.0 (length (f x))) [
      | inl first ↦ record { at = 0; within = omega arith; has = (has.0, first, sym (get_or_append_left (f x) (flat_map f xs) a has.0 first) ∙ has.2) }
      | inr later ↦
          let rest : Contains (flat_map f xs) a = (has.0 - length (f x), omega (arith, has.1, long, later), sym (get_or-append_right (f x) (flat_map f xs) (length (f x)) has.0 a refl later) ∙ has.2) in
          let one : IsGivenBy f xs d a = given_by_one f xs d a rest in
          record { at = suc one.at; within = omega (arith, one.within); has = one.has }
    ]

pub any_contains : (xs : List ℕ) (x : ℕ) → list_any (λ (y : ℕ). nat_eq y x) xs ≡ true → Contains xs x
any_contains [] x is = cc
any_contains (y ∷ xs) x is = elim (or_cases (nat_eq y x) (list_any (λ (z : ℕ). nat_eq z x) xs) is) [
  | inl here ↦ (0, omega arith, eqb-true y x here)
  | inr later ↦ let rest : Contains xs x = any_contains xs x later in (suc rest.0, omega (arith, rest.1), rest.2)
]

pub contains_any : (xs : List ℕ) (x : ℕ) → Contains xs x → list_any (λ (y : ℕ). nat_eq y x) xs ≡ true
contains_any xs x has = true_from_ne_false _ (λ none. none_is xs none has)
  where
    none_is : (ys : List ℕ) → list_any (λ (y : ℕ). nat_eq y x) ys ≡ false → Contains ys x → ⊥
    none_is [] none in_it = omega (arith, in_it.1)
    none_is (y ∷ ys) none in_it = by_place in_it.0 in_it.1 in_it.2 (none_is ys (or_parts (nat_eq y x) (list_any (λ (z : ℕ). nat_eq z x) ys) none).1)
      where
        by_place : (k : ℕ) → k < length (y ∷ ys) → get_or (y ∷ ys) k x ≡ x → (Contains ys x → ⊥) → ⊥
        by_place zero within same not_later = both_ways (nat_eq y x) (or_parts (nat_eq y x) (list_any (λ (z : ℕ). nat_eq z x) ys) none).0 (eq-eqb y x same)
        by_place (suc k) within same not_later = not_later (k, omega (arith, within), same)

-- the position of a block that is there
pub contains_positions : (blocks : List Block) (p : ℕ) (block : Block) → block.position ≡ p → Contains blocks block → Contains (positions_of blocks) p
contains_positions blocks p block is has =
    let long : length (positions_of blocks) ≡ length blocks = length-map blocks (λ (b : Block). b.position) in
    (has.0, omega (arith, has.1, long), get_or-map (λ (b : Block). b.position) blocks has.0 block p has.1 ∙ ap (λ (b : Block). b.position) has.2 ∙ is)
