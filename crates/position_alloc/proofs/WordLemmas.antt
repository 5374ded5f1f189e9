-- The set of the positions whose bits are set.
use Rattle.std.proofs.Common.{◌≡◌, ◌≢◌, ℕ, zero, suc, ◌+◌, ◌-◌, ◌*◌, ◌/◌, ◌%◌, ◌^◌, ◌<◌, ◌≤◌, Bool, true, false, cond, not, ◌||◌, ◌&&◌, eqb, List, [], ◌∷◌, ◌++◌, length, get_or, set, replicate, refl, sym, ap, ◌∙◌, inl, inr, arith, w64, bit_and, bit_or, get_or-set_other, get_or-set_same}
use Rattle.std.proofs.lemmas.Bool.{cases_lt, cases_eq, eqb-true, eqb-false}
use Rattle.std.proofs.lemmas.List.{get_or_past, get_or_default, get_or_append_left, get_or-append_right}
use Rattle.std.proofs.lemmas.Nat.Bits.{bit_at-zero, bit_at_set_same, bit_at_set_other, bit_at_clear_same, bit_at_clear_other}
use Rattle.std.specs.Int.{bit_at, bit_not}
use Rattle.std.specs.List.{range_with_len, filter, list_any}
use Rattle.std.specs.Cmp.{nat_cmp_total}
use Rattle.std.specs.Ordering.{nat_cmp}
use Rattle.std.specs.FinSet.{contains, empty, insert, remove, same_set, nat_cmp-IsAntisymmetric, contains-from_list_nat, contains-insert, contains-remove, contains-empty}
use Rattle.position_alloc.specs.Lowest.{IsLowestFree}
use Rattle.position_alloc.specs.Words.{is_taken, taken_of}
use Rattle.position_alloc.proofs.LowestLemmas.{tied_same, tied_apart}

and_true : (b : Bool) → (b && true) ≡ b
and_true true = refl
and_true false = refl

and_false : (b : Bool) → (b && false) ≡ false
and_false true = refl
and_false false = refl

zero_padding : (n i : ℕ) → ◌≡◌ {A = ℕ} (get_or (replicate n 0) i 0) 0
zero_padding zero i = refl
zero_padding (suc n) zero = refl
zero_padding (suc n) (suc i) = zero_padding n i

-- a number is among those that pass a test
any-filter : (test : ℕ → Bool) (xs : List ℕ) (p : ℕ) → list_any (λ y. eqb y p) (filter test xs) ≡ (test p && list_any (λ y. eqb y p) xs)
any-filter test [] p = sym (and_false (test p))
any-filter test (x ∷ xs) p =
    (elim (eqb x p) as (λ (b : Bool). eqb x p ≡ b → list_any (λ y. eqb y p) (filter test (x ∷ xs)) ≡ (test p && (b || list_any (λ y. eqb y p) xs))) [
      | true ↦ λ here.
          let same : x ≡ p = eqb-true x p here in
          (elim (test x) as (λ (c : Bool). test x ≡ c → list_any (λ y. eqb y p) (cond c (x ∷ filter test xs) (filter test xs)) ≡ (test p && true)) [
            | true ↦ λ passes. ap (λ (b : Bool). b || list_any (λ y. eqb y p) (filter test xs)) here ∙ sym (and_true (test p) ∙ ap test (sym same) ∙ passes)
            | false ↦ λ fails.
                let not_here : test p ≡ false = ap test (sym same) ∙ fails in
                any-filter test xs p ∙ ap (λ (b : Bool). b && list_any (λ y. eqb y p) xs) not_here ∙ sym (and_true (test p) ∙ not_here)
          ]) refl
      | false ↦ λ other.
          (elim (test x) as (λ (c : Bool). list_any (λ y. eqb y p) (cond c (x ∷ filter test xs) (filter test xs)) ≡ (test p && list_any (λ y. eqb y p) xs)) [
            | true ↦ ap (λ (b : Bool). b || list_any (λ y. eqb y p) (filter test xs)) other ∙ any-filter test xs p
            | false ↦ any-filter test xs p
          ])
    ]) refl

in_range : (a n p : ℕ) → a ≤ p → p < a + n → list_any (λ y. eqb y p) (range_with_len a n) ≡ true
in_range a zero p low high = absurd (omega arith)
in_range a (suc n) p low high =
    (elim (eqb a p) as (λ (b : Bool). eqb a p ≡ b → (b || list_any (λ y. eqb y p) (range_with_len (a + 1) n)) ≡ true) [
      | true ↦ λ here. refl
      | false ↦ λ other. let apart : a ≢ p = eqb-false a p other in in_range (a + 1) n p (omega arith) (omega arith)
    ]) refl

out_of_range : (a n p : ℕ) → a + n ≤ p → list_any (λ y. eqb y p) (range_with_len a n) ≡ false
out_of_range a zero p h = refl
out_of_range a (suc n) p h =
    (elim (eqb a p) as (λ (b : Bool). eqb a p ≡ b → (b || list_any (λ y. eqb y p) (range_with_len (a + 1) n)) ≡ false) [
      | true ↦ λ here. let same : a ≡ p = eqb-true a p here in absurd (omega arith)
      | false ↦ λ other. out_of_range (a + 1) n p (omega arith)
    ]) refl

-- no position past the words is taken
pub free_past : (words : List ℕ) (p : ℕ) → 64 * length words ≤ p → is_taken words p ≡ false
free_past words p h =
    let none : get_or words (p / 64) 0 ≡ 0 = get_or_past words (p / 64) 0 (omega arith) in
    ap (λ (word : ℕ). eqb (bit_at word (p % 64)) 1) none ∙ ap (λ (b : ℕ). eqb b 1) (bit_at-zero (p % 64))

-- the set holds the positions whose bits are set
pub contains-taken_of : (words : List ℕ) (p : ℕ) → contains (taken_of words) p ≡ is_taken words p
unfolding taken_of
contains-taken_of words p =
    contains-from_list_nat (filter (is_taken words) (range_with_len 0 (64 * length words))) p
    ∙ any-filter (is_taken words) (range_with_len 0 (64 * length words)) p
    ∙ elim (cases_lt p (64 * length words)) [
      | inl within ↦ ap (λ (b : Bool). is_taken words p && b) (in_range 0 (64 * length words) p (omega arith) (omega arith)) ∙ and_true (is_taken words p)
      | inr past ↦
          ap (λ (b : Bool). is_taken words p && b) (out_of_range 0 (64 * length words) p (omega arith)) ∙ and_false (is_taken words p)
          ∙ sym (free_past words p past)
    ]

-- where there are no words
pub none_taken : (words : List ℕ) → length words ≡ 0 → IsLowestFree (taken_of words) 0
none_taken words none =
    record { free = contains-taken_of words 0 ∙ free_past words 0 (omega arith); below = λ q h. absurd (omega arith) }

-- a taken position has its word
pub taken_within : (words : List ℕ) (p : ℕ) → contains (taken_of words) p ≡ true → p / 64 < length words
taken_within words p there =
    elim (cases_lt (p / 64) (length words)) [
      | inl within ↦ within
      | inr past ↦
          let absent : contains (taken_of words) p ≡ false = contains-taken_of words p ∙ free_past words p (omega arith) in
          cc
    ]

pub taken_of-none : taken_of [] ≡ empty
taken_of-none =
    same_set nat_cmp_total nat_cmp-IsAntisymmetric (taken_of []) empty
    (λ q. contains-taken_of [] q ∙ free_past [] q (omega arith) ∙ sym (contains-empty nat_cmp q))

-- free words at the end change nothing
pub taken_of-longer : (words : List ℕ) (n : ℕ) → taken_of (words ++ replicate n 0) ≡ taken_of words
taken_of-longer words n =
    same_set nat_cmp_total nat_cmp-IsAntisymmetric (taken_of (words ++ replicate n 0)) (taken_of words)
    (λ q. contains-taken_of (words ++ replicate n 0) q ∙ ap (λ (word : ℕ). eqb (bit_at word (q % 64)) 1) (padded (q / 64)) ∙ sym (contains-taken_of words q))
  where
    padded : (i : ℕ) → get_or (words ++ replicate n 0) i 0 ≡ get_or words i 0
    padded i =
        elim (cases_lt i (length words)) [
          | inl within ↦ get_or_append_left words (replicate n 0) 0 i within
          | inr past ↦
              get_or-append_right words (replicate n 0) (length words) i 0 refl past ∙ zero_padding n (i - length words) ∙ sym (get_or_past words i 0 past)
        ]

-- ---- one bit that changes

same_place : (p q : ℕ) → q / 64 ≡ p / 64 → q % 64 ≡ p % 64 → q ≡ p
same_place p q words bits = omega arith

-- bits of the new word are those of the old one but at p
module _ (words : List ℕ) (p word : ℕ) (within : p / 64 < length words) where
  other_bits : ((k : ℕ) → k < 64 → k ≢ p % 64 → bit_at word k ≡ bit_at (get_or words (p / 64) 0) k) → (q : ℕ) → q ≢ p → is_taken (set words (p / 64) word) q ≡ is_taken words q
  other_bits same q apart =
      elim (cases_eq (q / 64) (p / 64)) [
        | inl here ↦
            let bit : q % 64 ≢ p % 64 = λ bits. apart (same_place p q here bits) in
            ap (λ (i : ℕ). eqb (bit_at (get_or (set words (p / 64) word) i 0) (q % 64)) 1) here
            ∙ ap (λ (w : ℕ). eqb (bit_at w (q % 64)) 1) (get_or-set_same words (p / 64) word 0 within)
            ∙ ap (λ (b : ℕ). eqb b 1) (same (q % 64) (omega arith) bit)
            ∙ ap (λ (i : ℕ). eqb (bit_at (get_or words i 0) (q % 64)) 1) (sym here)
        | inr elsewhere ↦ ap (λ (w : ℕ). eqb (bit_at w (q % 64)) 1) (get_or-set_other words (p / 64) (q / 64) word 0 elsewhere)
      ]

  this_bit : is_taken (set words (p / 64) word) p ≡ eqb (bit_at word (p % 64)) 1
  this_bit = ap (λ (w : ℕ). eqb (bit_at w (p % 64)) 1) (get_or-set_same words (p / 64) word 0 within)

pub taken_of-set : (words : List ℕ) (p : ℕ) → p / 64 < length words
    → taken_of (set words (p / 64) (bit_or (get_or words (p / 64) 0) (1 * 2 ^ (p % 64) % 2 ^ 64))) ≡ insert (taken_of words) p
taken_of-set words p within =
    let word : ℕ = bit_or (get_or words (p / 64) 0) (1 * 2 ^ (p % 64) % 2 ^ 64) in
    same_set nat_cmp_total nat_cmp-IsAntisymmetric (taken_of (set words (p / 64) word)) (insert (taken_of words) p)
    (λ q.
    contains-taken_of (set words (p / 64) word) q
    ∙ elim (cases_eq q p) [
      | inl same ↦
          let bit : bit_at word (p % 64) ≡ 1 = bit_at_set_same w64 (get_or words (p / 64) 0) (p % 64) (omega arith) in
          ap (is_taken (set words (p / 64) word)) same ∙ this_bit words p word within ∙ ap (λ (b : ℕ). eqb b 1) bit
          ∙ sym (contains-insert nat_cmp_total (taken_of words) p q ∙ ap (λ (b : Bool). b || contains (taken_of words) q) (tied_same q p same))
      | inr apart ↦
          other_bits words p word within (λ k h other. bit_at_set_other w64 (get_or words (p / 64) 0) (p % 64) (omega arith) k other) q apart
          ∙ sym (contains-insert nat_cmp_total (taken_of words) p q ∙ ap (λ (b : Bool). b || contains (taken_of words) q) (tied_apart q p apart) ∙ contains-taken_of words q)
    ])

pub taken_of-clear : (words : List ℕ) (p : ℕ) → p / 64 < length words
    → taken_of (set words (p / 64) (bit_and (get_or words (p / 64) 0) (bit_not w64 (1 * 2 ^ (p % 64) % 2 ^ 64)))) ≡ remove (taken_of words) p
taken_of-clear words p within =
    let word : ℕ = bit_and (get_or words (p / 64) 0) (bit_not w64 (1 * 2 ^ (p % 64) % 2 ^ 64)) in
    same_set nat_cmp_total nat_cmp-IsAntisymmetric (taken_of (set words (p / 64) word)) (remove (taken_of words) p)
    (λ q.
    contains-taken_of (set words (p / 64) word) q
    ∙ elim (cases_eq q p) [
      | inl same ↦
          let bit : bit_at word (p % 64) ≡ 0 = bit_at_clear_same w64 (get_or words (p / 64) 0) (p % 64) (omega arith) in
          ap (is_taken (set words (p / 64) word)) same ∙ this_bit words p word within ∙ ap (λ (b : ℕ). eqb b 1) bit
          ∙ sym (contains-remove nat_cmp_total (taken_of words) p q ∙ ap (λ (b : Bool). not b && contains (taken_of words) q) (tied_same q p same))
      | inr apart ↦
          other_bits words p word within (λ k h other. bit_at_clear_other w64 (get_or words (p / 64) 0) (p % 64) (omega arith) k h other) q apart
          ∙ sym (contains-remove nat_cmp_total (taken_of words) p q ∙ ap (λ (b : Bool). not b && contains (taken_of words) q) (tied_apart q p apart) ∙ contains-taken_of words q)
    ])

-- a word that was read, and is put back with the bit set or cleared
module _ (words new : List ℕ) (p x : ℕ) (within : p / 64 < length words) (read : x ≡ get_or words (p / 64) x) where
  word_is : x ≡ get_or words (p / 64) 0
  word_is = read ∙ get_or_default words (p / 64) x 0 within

  pub taken_of-marked : new ≡ set words (p / 64) (bit_or x (1 * 2 ^ (p % 64) % 2 ^ 64)) → taken_of new ≡ insert (taken_of words) p
  taken_of-marked put =
      ap taken_of (put ∙ ap (λ (y : ℕ). set words (p / 64) (bit_or y (1 * 2 ^ (p % 64) % 2 ^ 64))) word_is) ∙ taken_of-set words p within

  pub taken_of-given : new ≡ set words (p / 64) (bit_and x (bit_not w64 (1 * 2 ^ (p % 64) % 2 ^ 64))) → taken_of new ≡ remove (taken_of words) p
  taken_of-given put =
      ap taken_of (put ∙ ap (λ (y : ℕ). set words (p / 64) (bit_and y (bit_not w64 (1 * 2 ^ (p % 64) % 2 ^ 64)))) word_is) ∙ taken_of-clear words p within
