-- Vectors of four words, turned into vectors of one word of each block.
use Rattle.std.proofs.Common.{◌≡◌, ℕ, zero, suc, ◌+◌, ◌-◌, ◌*◌, ◌^◌, ◌<◌, ◌≤◌, List, [], ◌∷◌, ◌++◌, length, take, drop, get_or, slice_index, refl, sym, ap, ◌∙◌, arith, w8, Fits}
use Rattle.std.proofs.lemmas.List.{ext_get_or, get_or_append_left, get_or-append_right}
use Rattle.std.proofs.lemmas.Simd.{get_or-chunk, length-chunk, chunk-fits, below_from_Fits, get_or_wider}
use Rattle.std.specs.Borrow.{Bor}
use lib.Lanes.{chunk, number_l, digits_l}
use Rattle.md5.specs.Md5.{word_at}
use Rattle.md5_lanes.specs.Lanes.{bytes_of}
use Rattle.md5_lanes.proofs.MessageLemmas.{bytes_is, for_eight, word_at_part}

pub for_four : (P : ℕ → Type 0) → P 0 → P 1 → P 2 → P 3 → (j : ℕ) → j < 4 → P j
for_four P p0 p1 p2 p3 zero h = p0
for_four P p0 p1 p2 p3 (suc zero) h = p1
for_four P p0 p1 p2 p3 (suc (suc zero)) h = p2
for_four P p0 p1 p2 p3 (suc (suc (suc zero))) h = p3
for_four P p0 p1 p2 p3 (suc (suc (suc (suc j)))) h = absurd (omega arith)

-- a list of four, written out
four_of : (xs : List ℕ) → length xs ≡ 4 → xs ≡ get_or xs 0 0 ∷ get_or xs 1 0 ∷ get_or xs 2 0 ∷ get_or xs 3 0 ∷ []
four_of xs long = ext_get_or 0 _ _ long (λ i h. for_four (λ k. get_or xs k 0 ≡ get_or (get_or xs 0 0 ∷ get_or xs 1 0 ∷ get_or xs 2 0 ∷ get_or xs 3 0 ∷ []) k 0) refl refl refl refl i (omega arith))

-- four bytes as one number are the word there
number_is : (bytes : List ℕ) (at j : ℕ) → at + 16 ≤ length bytes → j < 4 → number_l 256 (chunk (4 * j) 4 (chunk at 16 bytes)) ≡ word_at bytes (at + 4 * j)
number_is bytes at j fits low =
    let xs : List ℕ = chunk at 16 bytes in
    let ys : List ℕ = chunk (4 * j) 4 xs in
    let long : length ys ≡ 4 = length-chunk (4 * j) 4 xs (omega (arith, length-chunk at 16 bytes fits)) in
    let byte : (k : ℕ) → k < 4 → get_or ys k 0 ≡ slice_index bytes (at + 4 * j + k) = λ k h.
    get_or-chunk (4 * j) 4 xs k 0 h ∙ get_or-chunk at 16 bytes (4 * j + k) 0 (omega arith) ∙ ap (slice_index bytes) (omega arith) in
    let first : at + 4 * j + 0 ≡ at + 4 * j = omega arith in
    let b0 : get_or ys 0 0 ≡ slice_index bytes (at + 4 * j) = byte 0 (omega arith) ∙ ap (slice_index bytes) first in
    let b1 : get_or ys 1 0 ≡ slice_index bytes (at + 4 * j + 1) = byte 1 (omega arith) in
    let b2 : get_or ys 2 0 ≡ slice_index bytes (at + 4 * j + 2) = byte 2 (omega arith) in
    let b3 : get_or ys 3 0 ≡ slice_index bytes (at + 4 * j + 3) = byte 3 (omega arith) in
    ap (number_l 256) (four_of ys long) ∙ omega (arith, b0, b1, b2, b3)

-- sixteen bytes as four words
pub four_words : (bytes : List ℕ) (at j : ℕ) → at + 16 ≤ length bytes → ((k : ℕ) → Fits w8 (get_or bytes k 0)) → j < 4
    → slice_index (digits_l (2 ^ 32) 4 (number_l 256 (chunk at 16 bytes))) j ≡ word_at bytes (at + 4 * j)
four_words bytes at j fits small low =
    get_or_wider 256 4 (2 ^ 32) 4 (chunk at 16 bytes) j refl (below_from_Fits w8 (chunk at 16 bytes) (chunk-fits w8 at 16 bytes small)) low
    ∙ number_is bytes at j fits low

-- an element of two joined lists of four
pub in_first : (xs ys : List ℕ) (k : ℕ) → length xs ≡ 4 → k < 4 → get_or (xs ++ ys) k 0 ≡ slice_index xs k
in_first xs ys k long h = get_or_append_left xs ys 0 k (omega arith)

pub in_second : (xs ys : List ℕ) (k : ℕ) → length xs ≡ 4 → get_or (xs ++ ys) (4 + k) 0 ≡ slice_index ys k
in_second xs ys k long =
    let e : 4 + k - 4 ≡ k = omega arith in
    get_or-append_right xs ys 4 (4 + k) 0 long (omega arith) ∙ ap (slice_index ys) e

-- a word of each of eight blocks, where vector k has four words of block k
pub one_of_each : (blocks : List (Bor (List ℕ))) (none : Bor (List ℕ)) (place j : ℕ) (f0 f1 f2 f3 f4 f5 f6 f7 : List ℕ) → length blocks ≡ 8
    → slice_index f0 j ≡ word_at (get_or blocks 0 none).now place
    → slice_index f1 j ≡ word_at (get_or blocks 1 none).now place
    → slice_index f2 j ≡ word_at (get_or blocks 2 none).now place
    → slice_index f3 j ≡ word_at (get_or blocks 3 none).now place
    → slice_index f4 j ≡ word_at (get_or blocks 4 none).now place
    → slice_index f5 j ≡ word_at (get_or blocks 5 none).now place
    → slice_index f6 j ≡ word_at (get_or blocks 6 none).now place
    → slice_index f7 j ≡ word_at (get_or blocks 7 none).now place
    → (i : ℕ) → i < 8
    → slice_index (slice_index f0 j ∷ slice_index f1 j ∷ slice_index f2 j ∷ slice_index f3 j ∷ slice_index f4 j ∷ slice_index f5 j ∷ slice_index f6 j ∷ slice_index f7 j ∷ []) i
    ≡ word_at (bytes_of blocks i) place
one_of_each blocks none place j f0 f1 f2 f3 f4 f5 f6 f7 long e0 e1 e2 e3 e4 e5 e6 e7 i lt =
    let all : List ℕ = slice_index f0 j ∷ slice_index f1 j ∷ slice_index f2 j ∷ slice_index f3 j ∷ slice_index f4 j ∷ slice_index f5 j ∷ slice_index f6 j ∷ slice_index f7 j ∷ [] in
    for_eight (λ k. slice_index all k ≡ word_at (get_or blocks k none).now place) e0 e1 e2 e3 e4 e5 e6 e7 i lt
    ∙ ap (λ b. word_at b place) (sym (bytes_is blocks i none (omega arith)))

-- the word at `place`, as that at byte j of the 64 at `at`
pub word_at_place : (p : List ℕ) (at place j : ℕ) → place ≡ at + j → j + 4 ≤ 64 → word_at p place ≡ word_at (take 64 (drop at p)) j
word_at_place p at place j e h = ap (word_at p) e ∙ word_at_part p at j h
