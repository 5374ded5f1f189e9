-- What holds of each folder, seen through what stands round it.
use Rattle.std.proofs.Common.{◌≡◌, ◌∙◌, ℕ, ◌<◌, List, [], ◌∷◌, length, map, get_or, refl, sym, ap, subst}
use Rattle.std.proofs.lemmas.List.{length-map}

-- to map twice is to map once
map_through : {X Y Z : Type 0} (view : X → Z) (inner : Y → X) (ys : List Y) → map (λ y. view (inner y)) ys ≡ map view (map inner ys)
map_through view inner [] = refl
map_through view inner (y ∷ ys) = ap (λ (zs : List _). view (inner y) ∷ zs) (map_through view inner ys)

-- what holds in each column of a list, holds in each column of one round it
pub in_each_column : {X Y Z : Type 0} (P : Z → Type 0) (view : X → Z) (inner : Y → X) (ys : List Y) (xs : List X) (other : Z) → map inner ys ≡ xs
    → ((column : ℕ) → column < length xs → P (get_or (map view xs) column other))
    → (column : ℕ) → column < length ys → P (get_or (map (λ y. view (inner y)) ys) column other)
in_each_column P view inner ys xs other same each column within =
    let views : map (λ y. view (inner y)) ys ≡ map view xs = map_through view inner ys ∙ ap (λ l. map view l) same in
    let long : length ys ≡ length xs = sym (length-map ys inner) ∙ ap (λ l. length l) same in
    subst (λ l. P (get_or l column other)) (sym views) (each column (subst (λ n. column < n) long within))
