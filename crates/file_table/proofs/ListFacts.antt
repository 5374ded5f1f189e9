-- Facts on the last element of a list.
use Rattle.std.proofs.Common.{◌≡◌, ℕ, ◌+◌, ◌-◌, ◌<◌, ◌≤◌, List, [], ◌∷◌, ◌++◌, length, get_or, set, take, sym, ap, ◌∙◌, arith, suc, min}
use Rattle.std.specs.List.{AllPairs}
use Rattle.std.proofs.lemmas.List.{take-append-drop, drop_more, drop_all, set_split, length_push, get_or_push, take_at, get_or-take, length-take-le, length-take}

-- a list is all but its last element, and that
pub split_last : {X : Type 0} (xs : List X) (d : X) → 0 < length xs → xs ≡ take (length xs - 1) xs ++ get_or xs (length xs - 1) d ∷ []
split_last {X} xs d some =
    let n : ℕ = length xs - 1 in
    let below : n < length xs = omega arith in
    let past : length xs ≤ n + 1 = omega arith in
    sym (take-append-drop n xs) ∙ ap (λ (ys : List X). take n xs ++ ys) (drop_more xs n d below ∙ ap (λ (ys : List X). get_or xs n d ∷ ys) (drop_all (n + 1) xs past))

-- a write to the last element
pub set_last : {X : Type 0} (xs : List X) (y : X) → 0 < length xs → set xs (length xs - 1) y ≡ take (length xs - 1) xs ++ y ∷ []
set_last {X} xs y some =
    let n : ℕ = length xs - 1 in
    let below : n < length xs = omega arith in
    let past : length xs ≤ suc n = omega arith in
    set_split xs n y below ∙ ap (λ (ys : List X). take n xs ++ y ∷ ys) (drop_all (suc n) xs past)

-- the last element of a list with one more, and the rest of it
pub last_of_push : {X : Type 0} (xs : List X) (y d : X) → get_or (xs ++ y ∷ []) (length (xs ++ y ∷ []) - 1) d ≡ y
last_of_push xs y d =
    let long : length (xs ++ y ∷ []) ≡ length xs + 1 = length_push xs y in
    let at : length xs ≡ length (xs ++ y ∷ []) - 1 = omega arith in
    get_or_push xs y d _ at

pub front_of_push : {X : Type 0} (xs : List X) (y : X) → take (length (xs ++ y ∷ []) - 1) (xs ++ y ∷ []) ≡ xs
front_of_push xs y =
    let long : length (xs ++ y ∷ []) ≡ length xs + 1 = length_push xs y in
    let at : length xs ≡ length (xs ++ y ∷ []) - 1 = omega arith in
    take_at xs (y ∷ []) _ at

-- all but the last element are as many less one
pub length_of_front : {X : Type 0} (xs : List X) → length (take (length xs - 1) xs) ≡ length xs - 1
length_of_front xs = let less : length xs - 1 ≤ length xs = omega arith in length-take-le _ xs less

-- what holds of each pair holds of each pair of the first ones
pub AllPairs-take : {X : Type 0} (R : X → X → Type 0) (n : ℕ) (xs : List X) → AllPairs R xs → AllPairs R (take n xs)
AllPairs-take R n xs all i j d less within =
    let long : j < min n (length xs) = rw (← length-take n xs) within in
    let first : i < n = omega arith in
    let second : j < n = omega arith in
    let there : j < length xs = omega arith in
    rw (get_or-take n xs i d, get_or-take n xs j d) (all i j d less there)
