-- Lists that are joined, and what a function gives each number or each element, joined.
use Rattle.std.proofs.Common.{◌≡◌, ℕ, zero, suc, ◌+◌, ◌<◌, List, [], ◌∷◌, ◌++◌, length, get_or, All, AllPairs, sym, ap, ◌∙◌, subst, arith, length-append}
use Rattle.std.specs.List.{flat_map, range_with_len, Contains}
use Rattle.std.proofs.lemmas.List.{append-nil, map-id, get_or_append_left, get_or-append-add, get_or_default}
use Rattle.std.proofs.lemmas.List.FromFn.{map-range_with_len_more}
use Rattle.std.proofs.lemmas.List.Elements.{All-nil, All-append}
use Rattle.std.proofs.lemmas.Grind.{flat_map-append}
use Rattle.file_table.proofs.PrefixLemmas.{All-left, All-right}

pub range_more : (n : ℕ) → range_with_len 0 (n + 1) ≡ range_with_len 0 n ++ n ∷ []
range_more n = sym (map-id (range_with_len 0 (n + 1))) ∙ map-range_with_len_more (λ (k : ℕ). k) 0 n n (omega arith) ∙ ap (λ (ks : List ℕ). ks ++ n ∷ []) (map-id (range_with_len 0 n))

pub flat_range_more : {X : Type 0} (f : ℕ → List X) (n : ℕ) → flat_map f (range_with_len 0 n) ++ f n ≡ flat_map f (range_with_len 0 (n + 1))
flat_range_more f n =
    ap (λ (xs : List _). flat_map f (range_with_len 0 n) ++ xs) (sym (append-nil (f n))) ∙ sym (flat_map-append f (range_with_len 0 n) (n ∷ []))
    ∙ ap (flat_map f) (sym (range_more n))

pub all_flat : {X A : Type 0} (P : A → Type 0) (f : X → List A) (xs : List X) → ((k : ℕ) (d : X) → k < length xs → All P (f (get_or xs k d))) → All P (flat_map f xs)
all_flat P f [] each = All-nil P
all_flat P f (x ∷ xs) each = All-append P (f x) (flat_map f xs) (each 0 x (omega arith)) (all_flat P f xs (λ k d within. each (suc k) d (omega arith)))

pub all_of_flat : {X A : Type 0} (P : A → Type 0) (f : X → List A) (xs : List X) → All P (flat_map f xs) → (k : ℕ) (d : X) → k < length xs → All P (f (get_or xs k d))
all_of_flat P f [] all k d within = absurd (omega arith)
all_of_flat P f (x ∷ xs) all zero d within = All-left P (f x) (flat_map f xs) all
all_of_flat P f (x ∷ xs) all (suc k) d within = all_of_flat P f xs (All-right P (f x) (flat_map f xs) all) k d (omega arith)

pub AllPairs-right : {X : Type 0} (R : X → X → Type 0) (xs ys : List X) → AllPairs R (xs ++ ys) → AllPairs R ys
AllPairs-right R xs ys all i j d less within =
    subst (R (get_or ys i d)) (get_or-append-add xs ys j d)
    (subst (λ x. R x (get_or (xs ++ ys) (length xs + j) d)) (get_or-append-add xs ys i d)
    (all (length xs + i) (length xs + j) d (omega arith) (omega (arith, length-append xs ys))))

-- each of a list stands in the relation to each of the list behind it
pub AllPairs-across : {X : Type 0} (R : X → X → Type 0) (xs ys : List X) → AllPairs R (xs ++ ys) → (x y : X) → Contains xs x → Contains ys y → R x y
AllPairs-across R xs ys all x y first second =
    let i = first.0 in
    let j = second.0 in
    let here : R (get_or (xs ++ ys) i x) (get_or (xs ++ ys) (length xs + j) x) = all i (length xs + j) x (omega (arith, first.1)) (omega (arith, length-append xs ys, second.1)) in
    let left : R (get_or xs i x) (get_or (xs ++ ys) (length xs + j) x) = subst (λ a. R a (get_or (xs ++ ys) (length xs + j) x)) (get_or_append_left xs ys x i first.1) here in
    let right : R (get_or xs i x) (get_or ys j x) = subst (R (get_or xs i x)) (get_or-append-add xs ys j x) left in
    subst (R x) second.2 (subst (R x) (get_or_default ys j x y second.1) (subst (λ a. R a (get_or ys j x)) first.2 right))
