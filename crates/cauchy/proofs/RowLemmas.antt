-- The sum over the columns of a row is the sum over the missing ones and the sum over all others.
use Rattle.std.proofs.Common.{◌≡◌, ◌≢◌, ℕ, zero, suc, ◌<◌, ◌≤◌, Bool, true, false, cond, eqb, List, [], ◌∷◌, length, get_or, refl, sym, ap, ◌∙◌, inl, inr, arith}
use Rattle.std.specs.Int.Bits.{bit_xor, xor_zero_l, xor_zero_r}
use Rattle.std.proofs.lemmas.Bool.{cases_lt, eq-eqb, eqb-true, eqb-false}
use Rattle.std.proofs.lemmas.Bool.Decides.{eqb_tells}
use Rattle.gf256.specs.Field.{sum_below, product}
use Rattle.cauchy.specs.Matrix.{entry_of, byte_of, parity_byte}
use Rattle.cauchy.specs.System.{chosen_sum}
use Rattle.cauchy.specs.Recovery.{is_among, others_sum}
use Rattle.cauchy.proofs.Sums.{sum_below-same, sum_below-xor, sum_below-zeros, sum_below-swap}

-- ---- where a column stands among the chosen ones

pub index_of : List ℕ → ℕ → ℕ
index_of [] c = 0
index_of (m ∷ ms) c = cond (eqb m c) 0 (suc (index_of ms c))

pub among_index : (ms : List ℕ) (c : ℕ) → is_among ms c ≡ true → (index_of ms c < length ms) × (get_or ms (index_of ms c) 0 ≡ c)
unfolding index_of
among_index [] c h = absurd (cc)
among_index (m ∷ ms) c h =
    (elim (eqb m c) as (λ (b : Bool). eqb m c ≡ b → cond b true (is_among ms c) ≡ true
    → (cond b 0 (suc (index_of ms c)) < suc (length ms)) × (get_or (m ∷ ms) (cond b 0 (suc (index_of ms c))) 0 ≡ c)) [
      | true ↦ λ same there. (omega arith, eqb-true m c same)
      | false ↦ λ other there. let rest = among_index ms c there in (omega (arith, rest.0), rest.1)
    ]) refl h

past : (m : ℕ) (ms : List ℕ) (c j : ℕ) → j < suc (length ms) → m ≢ c → ((i : ℕ) → i < length ms → get_or ms i 0 ≢ c) → get_or (m ∷ ms) j 0 ≢ c
past m ms c zero hj first rest = first
past m ms c (suc j) hj first rest = rest j (omega arith)

pub not_among : (ms : List ℕ) (c : ℕ) → is_among ms c ≡ false → (j : ℕ) → j < length ms → get_or ms j 0 ≢ c
not_among [] c h j hj = absurd (omega arith)
not_among (m ∷ ms) c h j hj =
    (elim (eqb m c) as (λ (b : Bool). eqb m c ≡ b → cond b true (is_among ms c) ≡ false → get_or (m ∷ ms) j 0 ≢ c) [
      | true ↦ λ same there. absurd (cc)
      | false ↦ λ other there. past m ms c j hj (eqb-false m c other) (not_among ms c there)
    ]) refl h

pub among_at : (ms : List ℕ) (j : ℕ) → j < length ms → is_among ms (get_or ms j 0) ≡ true
among_at ms j hj =
    (elim (is_among ms (get_or ms j 0)) as (λ (b : Bool). is_among ms (get_or ms j 0) ≡ b → b ≡ true) [
      | true ↦ λ there. refl
      | false ↦ λ absent. absurd (not_among ms (get_or ms j 0) absent j hj refl)
    ]) refl

-- no column is chosen twice
abbrev pub AreDistinct : List ℕ → Type 0
AreDistinct ms = (j k : ℕ) → j < k → k < length ms → get_or ms j 0 ≢ get_or ms k 0

distinct_index : (ms : List ℕ) → AreDistinct ms → (j k : ℕ) → j < length ms → k < length ms → get_or ms j 0 ≡ get_or ms k 0 → j ≡ k
distinct_index ms apart j k hj hk same =
    elim (cases_lt j k) [
      | inl less ↦ absurd (apart j k less hk same)
      | inr more ↦ elim (cases_lt k j) [
        | inl less ↦ absurd (apart k j less hj (sym same))
        | inr equal ↦ omega arith
      ]
    ]

pub index_at : (ms : List ℕ) → AreDistinct ms → (j : ℕ) → j < length ms → index_of ms (get_or ms j 0) ≡ j
index_at ms apart j hj =
    let found = among_index ms (get_or ms j 0) (among_at ms j hj) in
    distinct_index ms apart (index_of ms (get_or ms j 0)) j found.0 hj found.1

-- ---- a sum with one term

one_term_past : (f : ℕ → ℕ) (n m : ℕ) → n ≤ m → sum_below (λ c. cond (eqb c m) (f c) 0) n ≡ 0
one_term_past f n m h =
    sum_below-zeros (λ c. cond (eqb c m) (f c) 0) n
    (λ c hc. elim (eqb_tells c m) [ inl same ↦ absurd (omega (arith, same.1)) | inr other ↦ ap (λ (b : Bool). cond b (f c) 0) other.0 ])

one_term : (f : ℕ → ℕ) (n m : ℕ) → m < n → sum_below (λ c. cond (eqb c m) (f c) 0) n ≡ f m
one_term f zero m h = absurd (omega arith)
one_term f (suc n) m h =
    elim (cases_lt m n) [
      | inl earlier ↦
          ap (λ (x : ℕ). bit_xor x (cond (eqb n m) (f n) 0)) (one_term f n m earlier)
          ∙ ap (bit_xor (f m)) (elim (eqb_tells n m) [ inl same ↦ absurd (omega (arith, same.1)) | inr other ↦ ap (λ (b : Bool). cond b (f n) 0) other.0 ])
          ∙ xor_zero_r (f m)
      | inr later ↦
          let at_n : n ≡ m = omega arith in
          ap (λ (x : ℕ). bit_xor x (cond (eqb n m) (f n) 0)) (one_term_past f n m later)
          ∙ xor_zero_l (cond (eqb n m) (f n) 0) ∙ ap (λ (b : Bool). cond b (f n) 0) (eq-eqb n m at_n) ∙ ap f at_n
    ]

-- a column's term, as one of the chosen columns or of the others
column_term : (ms : List ℕ) → AreDistinct ms → (f : ℕ → ℕ) (c : ℕ)
    → f c ≡ bit_xor (sum_below (λ j. cond (eqb c (get_or ms j 0)) (f c) 0) (length ms)) (cond (is_among ms c) 0 (f c))
column_term ms apart f c =
    (elim (is_among ms c) as (λ (b : Bool). is_among ms c ≡ b → f c ≡ bit_xor (sum_below (λ j. cond (eqb c (get_or ms j 0)) (f c) 0) (length ms)) (cond b 0 (f c))) [
      | true ↦ λ there.
          let found = among_index ms c there in
          sym (xor_zero_r (sum_below (λ j. cond (eqb c (get_or ms j 0)) (f c) 0) (length ms))
          ∙ sum_below-same (λ j. cond (eqb c (get_or ms j 0)) (f c) 0) (λ j. cond (eqb j (index_of ms c)) (f c) 0) (length ms)
          (λ j hj. ap (λ (b : Bool). cond b (f c) 0)
          (elim (eqb_tells j (index_of ms c)) [
            | inl same ↦ eq-eqb c (get_or ms j 0) (sym found.1 ∙ ap (λ (i : ℕ). get_or ms i 0) (sym same.1)) ∙ sym same.0
            | inr other ↦
                elim (eqb_tells c (get_or ms j 0)) [
                  | inl same ↦ absurd (other.1 (distinct_index ms apart j (index_of ms c) hj found.0 (sym same.1 ∙ sym found.1)))
                  | inr apart_too ↦ apart_too.0 ∙ sym other.0
                ]
          ]))
          ∙ one_term (λ j. f c) (length ms) (index_of ms c) found.0)
      | false ↦ λ absent.
          sym (ap (λ (x : ℕ). bit_xor x (f c))
          (sum_below-zeros (λ j. cond (eqb c (get_or ms j 0)) (f c) 0) (length ms)
          (λ j hj. elim (eqb_tells c (get_or ms j 0)) [
            | inl same ↦ absurd (not_among ms c absent j hj (sym same.1))
            | inr other ↦ ap (λ (b : Bool). cond b (f c) 0) other.0
          ]))
          ∙ xor_zero_l (f c))
    ]) refl

pub split_sum : (ms : List ℕ) → AreDistinct ms → (f : ℕ → ℕ) (n : ℕ) → ((j : ℕ) → j < length ms → get_or ms j 0 < n)
    → sum_below f n ≡ bit_xor (sum_below (λ j. f (get_or ms j 0)) (length ms)) (sum_below (λ c. cond (is_among ms c) 0 (f c)) n)
split_sum ms apart f n within =
    sum_below-same f (λ c. bit_xor (sum_below (λ j. cond (eqb c (get_or ms j 0)) (f c) 0) (length ms)) (cond (is_among ms c) 0 (f c))) n (λ c hc. column_term ms apart f c)
    ∙ sum_below-xor (λ c. sum_below (λ j. cond (eqb c (get_or ms j 0)) (f c) 0) (length ms)) (λ c. cond (is_among ms c) 0 (f c)) n
    ∙ ap (λ (x : ℕ). bit_xor x (sum_below (λ c. cond (is_among ms c) 0 (f c)) n))
    (sum_below-swap (λ c j. cond (eqb c (get_or ms j 0)) (f c) 0) n (length ms)
    ∙ sum_below-same (λ j. sum_below (λ c. cond (eqb c (get_or ms j 0)) (f c) 0) n) (λ j. f (get_or ms j 0)) (length ms)
    (λ j hj. one_term f n (get_or ms j 0) (within j hj)))

-- a byte of a level, from the missing columns and from the others
pub parity_byte-split : (level : ℕ) (missing : List ℕ) (row : List (List ℕ)) (p : ℕ) → AreDistinct missing → ((j : ℕ) → j < length missing → get_or missing j 0 < length row)
    → parity_byte level row p ≡ bit_xor (chosen_sum level missing (λ j. byte_of row (get_or missing j 0) p)) (others_sum level missing row p)
unfolding parity_byte
parity_byte-split level missing row p apart within = split_sum missing apart (λ c. product (entry_of level c) (byte_of row c p)) (length row) within
