-- The sum over the columns of a row is the sum over the chosen ones and the sum over all others.
use Rattle.std.proofs.Common.{◌≡◌, ◌≢◌, ℕ, zero, suc, ◌<◌, Bool, true, false, cond, eqb, List, [], ◌∷◌, length, get_or, refl, sym, ap, ◌∙◌, inl, inr, arith}
use Rattle.std.specs.List.{All}
use Rattle.std.specs.Int.Bits.{bit_xor, xor_assoc, xor_self, xor_zero_l, xor_zero_r}
use Rattle.std.proofs.lemmas.Nat.{xor_comm}
use Rattle.std.proofs.lemmas.Bool.{cases_lt}
use Rattle.std.proofs.lemmas.Bool.Decides.{eqb_tells}
use Rattle.std.proofs.lemmas.List.Elements.{All-head, All-tail}
use Rattle.cauchy.specs.Field.{sum_below, product}
use Rattle.cauchy.specs.Matrix.{entry_of, byte_of, parity_byte}
use Rattle.cauchy.specs.Recovery.{is_among, others_sum}
use Rattle.cauchy.specs.System.{AreDistinctBelow, chosen_sum}
use Rattle.stripe_examiner.proofs.SearchChoices.{distinct_tail, first_apart}

-- a sum added twice is gone
pub added_twice : (a b : ℕ) → bit_xor (bit_xor a b) b ≡ a
added_twice a b = xor_assoc a b b ∙ ap (bit_xor a) (xor_self b) ∙ xor_zero_r a

pub sum_below-same : (f g : ℕ → ℕ) (n : ℕ) → ((j : ℕ) → j < n → f j ≡ g j) → sum_below f n ≡ sum_below g n
sum_below-same f g zero same = refl
sum_below-same f g (suc n) same =
    ap (λ (x : ℕ). bit_xor x (f n)) (sum_below-same f g n (λ j less. same j (omega arith))) ∙ ap (bit_xor (sum_below g n)) (same n (omega arith))

zeros_sum : (f : ℕ → ℕ) (n : ℕ) → ((j : ℕ) → j < n → f j ≡ 0) → sum_below f n ≡ 0
zeros_sum f zero zeros = refl
zeros_sum f (suc n) zeros =
    ap (λ (x : ℕ). bit_xor x (f n)) (zeros_sum f n (λ j less. zeros j (omega arith))) ∙ xor_zero_l (f n) ∙ zeros n (omega arith)

-- the first term apart
sum_below-first : (f : ℕ → ℕ) (n : ℕ) → sum_below f (suc n) ≡ bit_xor (f 0) (sum_below (λ j. f (suc j)) n)
sum_below-first f zero = xor_zero_l (f 0) ∙ sym (xor_zero_r (f 0))
sum_below-first f (suc n) =
    ap (λ (x : ℕ). bit_xor x (f (suc n))) (sum_below-first f n) ∙ xor_assoc (f 0) (sum_below (λ j. f (suc j)) n) (f (suc n))

-- a sum without one of its terms
abbrev pub except : ℕ → (ℕ → ℕ) → ℕ → ℕ
except m f c = cond (eqb m c) 0 (f c)

pub except-same : (m : ℕ) (f : ℕ → ℕ) (c : ℕ) → m ≡ c → except m f c ≡ 0
except-same m f c is =
    elim (eqb_tells m c) [ inl same ↦ ap (λ (b : Bool). cond b 0 (f c)) same.0 | inr other ↦ absurd (other.1 is) ]

pub except-other : (m : ℕ) (f : ℕ → ℕ) (c : ℕ) → m ≢ c → except m f c ≡ f c
except-other m f c apart =
    elim (eqb_tells m c) [ inl same ↦ absurd (apart same.1) | inr other ↦ ap (λ (b : Bool). cond b 0 (f c)) other.0 ]

pub one_apart : (m : ℕ) (f : ℕ → ℕ) (n : ℕ) → m < n → sum_below f n ≡ bit_xor (f m) (sum_below (except m f) n)
one_apart m f zero less = absurd (omega arith)
one_apart m f (suc n) less =
    elim (cases_lt m n) [
      | inl earlier ↦
          let apart : m ≢ n = omega arith in
          ap (λ (x : ℕ). bit_xor x (f n)) (one_apart m f n earlier) ∙ xor_assoc (f m) (sum_below (except m f) n) (f n)
          ∙ ap (λ (x : ℕ). bit_xor (f m) (bit_xor (sum_below (except m f) n) x)) (sym (except-other m f n apart))
      | inr last ↦
          let is : m ≡ n = omega arith in
          xor_comm (sum_below f n) (f n)
          ∙ ap (λ (c : ℕ). bit_xor (f c) (sum_below f n)) (sym is)
          ∙ ap (bit_xor (f m)) (sum_below-same f (except m f) n (λ j near. let apart : m ≢ j = omega arith in sym (except-other m f j apart))
          ∙ sym (xor_zero_r (sum_below (except m f) n)) ∙ ap (bit_xor (sum_below (except m f) n)) (sym (except-same m f n is)))
    ]

-- ---- the chosen columns apart

pub not_among : (m : ℕ) (ms : List ℕ) → All (λ c. m ≢ c) ms → is_among ms m ≡ false
not_among m [] new = refl
not_among m (c ∷ ms) new =
    elim (eqb_tells c m) [
      | inl same ↦ absurd (All-head (λ x. m ≢ x) c ms new (sym same.1))
      | inr other ↦ ap (λ (b : Bool). cond b true (is_among ms m)) other.0 ∙ not_among m ms (All-tail (λ x. m ≢ x) c ms new)
    ]

abbrev others : List ℕ → (ℕ → ℕ) → ℕ → ℕ
others ms f c = cond (is_among ms c) 0 (f c)

others-cons : (m : ℕ) (ms : List ℕ) (f : ℕ → ℕ) (c : ℕ) → except m (others ms f) c ≡ others (m ∷ ms) f c
others-cons m ms f c =
    elim (eqb m c) as (λ (b : Bool). cond b 0 (cond (is_among ms c) 0 (f c)) ≡ cond (cond b true (is_among ms c)) 0 (f c)) [ true ↦ refl | false ↦ refl ]

pub chosen_apart : (ms : List ℕ) (f : ℕ → ℕ) (n : ℕ) → AreDistinctBelow n ms
    → sum_below f n ≡ bit_xor (sum_below (λ j. f (get_or ms j 0)) (length ms)) (sum_below (λ c. cond (is_among ms c) 0 (f c)) n)
chosen_apart [] f n distinct = sym (xor_zero_l (sum_below f n))
chosen_apart (m ∷ ms) f n distinct =
    let chosen = sum_below (λ j. f (get_or ms j 0)) (length ms) in
    let rest = sum_below (others (m ∷ ms) f) n in
    let first : others ms f m ≡ f m = ap (λ (b : Bool). cond b 0 (f m)) (not_among m ms (first_apart n m ms distinct)) in
    chosen_apart ms f n (distinct_tail n m ms distinct)
    ∙ ap (bit_xor chosen) (one_apart m (others ms f) n (distinct.below 0 (omega arith))
    ∙ ap (λ (x : ℕ). bit_xor x (sum_below (except m (others ms f)) n)) first
    ∙ ap (bit_xor (f m)) (sum_below-same (except m (others ms f)) (others (m ∷ ms) f) n (λ c less. others-cons m ms f c)))
    ∙ sym (xor_assoc chosen (f m) rest)
    ∙ ap (λ (x : ℕ). bit_xor x rest) (xor_comm chosen (f m) ∙ sym (sum_below-first (λ j. f (get_or (m ∷ ms) j 0)) (length ms)))

-- a byte of a level, from the chosen columns and from the others
pub level_byte : (level : ℕ) (columns : List ℕ) (row : List (List ℕ)) (p : ℕ) → AreDistinctBelow (length row) columns
    → parity_byte level row p ≡ bit_xor (chosen_sum level columns (λ j. byte_of row (get_or columns j 0) p)) (others_sum level columns row p)
unfolding parity_byte
level_byte level columns row p distinct = chosen_apart columns (λ c. product (entry_of level c) (byte_of row c p)) (length row) distinct

-- where the chosen columns have no bytes, the others alone give the level
pub empty_level : (level : ℕ) (columns : List ℕ) (row : List (List ℕ)) (p : ℕ) → ((a : ℕ) → product a 0 ≡ 0) → AreDistinctBelow (length row) columns
    → ((j : ℕ) → j < length columns → byte_of row (get_or columns j 0) p ≡ 0) → parity_byte level row p ≡ others_sum level columns row p
empty_level level columns row p nothing distinct empty =
    level_byte level columns row p distinct
    ∙ ap (λ (x : ℕ). bit_xor x (others_sum level columns row p))
    (zeros_sum (λ j. product (entry_of level (get_or columns j 0)) (byte_of row (get_or columns j 0) p)) (length columns)
    (λ j hj. ap (product (entry_of level (get_or columns j 0))) (empty j hj) ∙ nothing (entry_of level (get_or columns j 0))))
    ∙ xor_zero_l (others_sum level columns row p)
