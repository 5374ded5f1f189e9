-- The sums of a row, block after block.
use Rattle.std.proofs.Common.{◌≡◌, set, inl, inr, ℕ, zero, suc, ◌+◌, ◌<◌, ◌≤◌, List, [], ◌∷◌, ◌++◌, length, take, drop, get_or, refl, sym, ◌∙◌, ap, ap₂, subst, arith, length-append, zero-add}
use Rattle.std.specs.Borrow.{Bor}
use Rattle.std.specs.Int.Bits.{bit_xor}
use Rattle.std.proofs.lemmas.Bool.{cases_lt}
use Rattle.std.proofs.lemmas.List.{map-append, take_more_set, get_or_append_left, get_or-append_right, get_or_past, take_more, take-append-drop, length-take}
use Rattle.std.proofs.lemmas.List.FromFn.{fill_by_all, length-map-range_with_len, get_or-map-range_with_len}
use Rattle.std.proofs.Math.Seq.{get_or-append_seam}
use Rattle.cauchy.specs.Field.{sum_below, product}
use Rattle.cauchy.specs.Levels.{blocks_of}
use Rattle.cauchy.specs.Matrix.{entry_of, byte_of, parity_byte, parity_of}

-- a level of a row, byte by byte
pub length-level : (level size : ℕ) (row : List (List ℕ)) → length (parity_of level size row) ≡ size
unfolding parity_of
length-level level size row = length-map-range_with_len (parity_byte level row) 0 size

pub byte_of_level : (level size : ℕ) (row : List (List ℕ)) (i : ℕ) → i < size → get_or (parity_of level size row) i 0 ≡ parity_byte level row i
unfolding parity_of
byte_of_level level size row i below = get_or-map-range_with_len (parity_byte level row) 0 size i i 0 below (zero-add i)

pub level_of_bytes : (level size : ℕ) (row : List (List ℕ)) (xs : List ℕ) → length xs ≡ size → ((i : ℕ) → i < size → get_or xs i 0 ≡ parity_byte level row i) → xs ≡ parity_of level size row
unfolding parity_of
level_of_bytes level size row xs long bytes = fill_by_all (parity_byte level row) xs size 0 long bytes

same_sums : (f g : ℕ → ℕ) (n : ℕ) → ((c : ℕ) → c < n → f c ≡ g c) → sum_below f n ≡ sum_below g n
same_sums f g zero same = refl
same_sums f g (suc n) same = ap₂ (λ (a : ℕ) (b : ℕ). bit_xor a b) (same_sums f g n (λ c below. same c (omega (arith, below)))) (same n (omega arith))

module _ (level : ℕ) (row : List (List ℕ)) (i : ℕ) where
  byte_after : (b c : List ℕ) → get_or b i 0 ≡ get_or c i 0 → (k : ℕ) → k < length (row ++ b ∷ []) → byte_of (row ++ b ∷ []) k i ≡ byte_of (row ++ c ∷ []) k i
  byte_after b c same k below = elim (cases_lt k (length row)) [
    | inl before ↦
        let one : get_or (row ++ b ∷ []) k [] ≡ get_or row k [] = get_or_append_left row (b ∷ []) [] k before in
        let other : get_or (row ++ c ∷ []) k [] ≡ get_or row k [] = get_or_append_left row (c ∷ []) [] k before in
        ap (λ (block : List ℕ). get_or block i 0) (one ∙ sym other)
    | inr after ↦
        let here : length row ≡ k = omega (arith, after, below, length-append row (b ∷ [])) in
        subst (λ (n : ℕ). byte_of (row ++ b ∷ []) n i ≡ byte_of (row ++ c ∷ []) n i) here
        (ap (λ (block : List ℕ). get_or block i 0) (get_or-append_seam row b [] [])
        ∙ same ∙ sym (ap (λ (block : List ℕ). get_or block i 0) (get_or-append_seam row c [] [])))
  ]

  -- of one block more only the byte there counts
  same_push : (b c : List ℕ) → get_or b i 0 ≡ get_or c i 0 → parity_byte level (row ++ b ∷ []) i ≡ parity_byte level (row ++ c ∷ []) i
  unfolding parity_byte
  same_push b c same =
      same_sums (λ k. product (entry_of level k) (byte_of (row ++ b ∷ []) k i)) (λ k. product (entry_of level k) (byte_of (row ++ c ∷ []) k i)) (length (row ++ b ∷ []))
      (λ k below. ap (product (entry_of level k)) (byte_after b c same k below))
      ∙ ap (sum_below (λ k. product (entry_of level k) (byte_of (row ++ c ∷ []) k i))) (length-append row (b ∷ []) ∙ sym (length-append row (c ∷ [])))

  -- behind the bytes of a block its column adds nothing
  past_block : (bytes : List ℕ) → ((size : ℕ) → parity_of level size (row ++ [] ∷ []) ≡ parity_of level size row) → length bytes ≤ i
      → parity_byte level row i ≡ parity_byte level (row ++ bytes ∷ []) i
  past_block bytes no_block past =
      let below : i < suc i = omega arith in
      sym (same_push bytes [] (get_or_past bytes i 0 past)
      ∙ sym (byte_of_level level (suc i) (row ++ [] ∷ []) i below)
      ∙ ap (λ (xs : List ℕ). get_or xs i 0) (no_block (suc i))
      ∙ byte_of_level level (suc i) row i below)

-- a front of a level has the term of a block added, and the rest stays
next_front : (level : ℕ) (row : List (List ℕ)) (bytes front rest new : List ℕ) → ((size : ℕ) → parity_of level size (row ++ [] ∷ []) ≡ parity_of level size row)
    → (front ≡ parity_of level (length front) row → new ≡ parity_of level (length front) (row ++ bytes ∷ [])) → length new ≡ length front → length bytes ≡ length front
    → front ++ rest ≡ parity_of level (length (front ++ rest)) row → new ++ rest ≡ parity_of level (length (front ++ rest)) (row ++ bytes ∷ [])
next_front level row bytes front rest new no_block adds same_length as_long whole =
    level_of_bytes level size (row ++ bytes ∷ []) (new ++ rest) (length-append new rest ∙ ap (λ n. n + length rest) same_length ∙ sym (length-append front rest)) each
  where
    size : ℕ
    size = length (front ++ rest)

    was : (i : ℕ) → i < size → get_or (front ++ rest) i 0 ≡ parity_byte level row i
    was i below = ap (λ (xs : List ℕ). get_or xs i 0) whole ∙ byte_of_level level size row i below

    front_is : new ≡ parity_of level (length front) (row ++ bytes ∷ [])
    front_is = adds (level_of_bytes level (length front) row front refl
        (λ i near. sym (get_or_append_left front rest 0 i near) ∙ was i (omega (arith, near, length-append front rest))))

    each : (i : ℕ) → i < size → get_or (new ++ rest) i 0 ≡ parity_byte level (row ++ bytes ∷ []) i
    each i below = elim (cases_lt i (length front)) [
      | inl near ↦
          get_or_append_left new rest 0 i (omega (arith, near, same_length))
          ∙ ap (λ (xs : List ℕ). get_or xs i 0) front_is
          ∙ byte_of_level level (length front) (row ++ bytes ∷ []) i near
      | inr far ↦
          get_or-append_right new rest (length front) i 0 same_length far
          ∙ sym (get_or-append_right front rest (length front) i 0 refl far)
          ∙ was i below
          ∙ past_block level row i bytes no_block (omega (arith, far, as_long))
    ]

-- a block is added to the front of a level that is as long
pub next_bytes : (level : ℕ) (row : List (List ℕ)) (bytes out new : List ℕ) → ((size : ℕ) → parity_of level size (row ++ [] ∷ []) ≡ parity_of level size row)
    → (take (length bytes) out ≡ parity_of level (length (take (length bytes) out)) row → new ≡ parity_of level (length (take (length bytes) out)) (row ++ bytes ∷ []))
    → length new ≡ length (take (length bytes) out) → length bytes ≤ length out
    → out ≡ parity_of level (length out) row → new ++ drop (length bytes) out ≡ parity_of level (length out) (row ++ bytes ∷ [])
next_bytes level row bytes out new no_block adds same_length short =
    let n = length bytes in
    let long : n ≡ length (take n out) = omega (arith, short, length-take n out) in
    subst (λ (ys : List ℕ). ys ≡ parity_of level (length ys) row → new ++ drop n out ≡ parity_of level (length ys) (row ++ bytes ∷ [])) (take-append-drop n out)
    (next_front level row bytes (take n out) (drop n out) new no_block adds same_length long)

-- the sum of one column more of a row
pub sum_more : (level size d : ℕ) (row : List (List ℕ)) (bytes old new : List ℕ) → d < length row → bytes ≡ get_or row d [] → length old ≡ size
    → ((front : List (List ℕ)) → length front ≡ d → old ≡ parity_of level (length old) front → new ≡ parity_of level (length old) (front ++ bytes ∷ []))
    → old ≡ parity_of level size (take d row) → new ≡ parity_of level size (take (d + 1) row)
sum_more level size d row bytes old new within is long adds so_far =
    let count : length (take d row) ≡ d = omega (arith, within, length-take d row) in
    adds (take d row) count (so_far ∙ ap (λ (n : ℕ). parity_of level n (take d row)) (sym long))
    ∙ ap (λ (n : ℕ). parity_of level n (take d row ++ bytes ∷ [])) long
    ∙ ap (λ (b : List ℕ). parity_of level size (take d row ++ b ∷ [])) is
    ∙ ap (parity_of level size) (sym (take_more row d [] within))

-- the blocks of one column more
pub blocks_more : (blocks : List (Bor (List ℕ))) (d : ℕ) (block : Bor (List ℕ)) (row : List (List ℕ)) → d < length blocks → d < length row → blocks_of (take d blocks) ≡ take d row
    → block.now ≡ get_or row d [] → blocks_of (take (d + 1) (set blocks d block)) ≡ take (d + 1) row
blocks_more blocks d block row here within so_far is =
    ap blocks_of (take_more_set blocks d block here)
    ∙ map-append (λ (b : Bor (List ℕ)). b.now) (take d blocks) (block ∷ [])
    ∙ ap (λ (front : List (List ℕ)). front ++ block.now ∷ []) so_far
    ∙ ap (λ (b : List ℕ). take d row ++ b ∷ []) is
    ∙ sym (take_more row d [] within)
