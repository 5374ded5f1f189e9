-- Where no pivot of the elimination is 0, a system has exactly one solution.
use Rattle.std.proofs.Common.{◌≡◌, ◌≢◌, ℕ, zero, suc, ◌<◌, ◌≤◌, Bool, true, false, cond, eqb, refl, sym, ap, ◌∙◌, inl, inr, arith}
use Rattle.std.specs.Int.Bits.{bit_xor, xor_assoc, xor_zero_l, xor_zero_r, xor_self}
use Rattle.std.proofs.lemmas.Nat.{xor_comm, xor_lt}
use Rattle.std.proofs.lemmas.Bool.{cases_lt, eq-eqb, eqb-false}
use Rattle.std.proofs.lemmas.Bool.Decides.{eqb_tells}
use Rattle.gf256.specs.Field.{sum_below, product, quotient}
use Rattle.cauchy.specs.Elimination.{reduced, reduced_given, IsEliminable, IsMatrix, IsVector, row_sum, Solves, unit}
use Rattle.gf256.proofs.Theorems.{product_lt, product_comm, product_assoc, product_of_sum, sum_times, cancel_left, quotient_lt, quotient_times, xor_exchange, product-zero, times_one}
use Rattle.cauchy.proofs.Factors.{product_left_comm}
use Rattle.cauchy.proofs.Sums.{sum_below-same, sum_below-xor, sum_below-product, sum_below-lt, sum_below-swap}

pub IsMatrix-reduced : (n : ℕ) (m : ℕ → ℕ → ℕ) → IsMatrix (suc n) m → IsMatrix n (reduced m n)
IsMatrix-reduced n m hm i j hi hj =
    xor_lt 8 (product (m n n) (m i j)) (product (m i n) (m n j))
    (product_lt (m n n) (m i j) (hm n n (omega arith) (omega arith)) (hm i j (omega arith) (omega arith)))
    (product_lt (m i n) (m n j) (hm i n (omega arith) (omega arith)) (hm n j (omega arith) (omega arith)))

pub IsVector-reduced : (n : ℕ) (m : ℕ → ℕ → ℕ) (b : ℕ → ℕ) → IsMatrix (suc n) m → IsVector (suc n) b → IsVector n (reduced_given m n b)
IsVector-reduced n m b hm hb i hi =
    xor_lt 8 (product (m n n) (b i)) (product (m i n) (b n))
    (product_lt (m n n) (b i) (hm n n (omega arith) (omega arith)) (hb i (omega arith)))
    (product_lt (m i n) (b n) (hm i n (omega arith) (omega arith)) (hb n (omega arith)))

-- ---- what elimination makes of one side

row_sum-reduced : (n : ℕ) (m : ℕ → ℕ → ℕ) (z : ℕ → ℕ) → IsMatrix (suc n) m → IsVector n z → (i : ℕ) → i < n
    → row_sum (reduced m n) n z i ≡ bit_xor (product (m n n) (row_sum m n z i)) (product (m i n) (row_sum m n z n))
row_sum-reduced n m z hm hz i hi =
    sum_below-same (λ j. product (reduced m n i j) (z j)) (λ j. bit_xor (product (m n n) (product (m i j) (z j))) (product (m i n) (product (m n j) (z j)))) n
    (λ j hj.
    sum_times (product (m n n) (m i j)) (product (m i n) (m n j)) (z j)
    ∙ ap (λ (x : ℕ). bit_xor x (product (product (m i n) (m n j)) (z j)))
    (product_assoc (m n n) (m i j) (z j) (hm n n (omega arith) (omega arith)) (hm i j (omega arith) (omega arith)) (hz j (omega arith)))
    ∙ ap (bit_xor (product (m n n) (product (m i j) (z j))))
    (product_assoc (m i n) (m n j) (z j) (hm i n (omega arith) (omega arith)) (hm n j (omega arith) (omega arith)) (hz j (omega arith))))
    ∙ sum_below-xor (λ j. product (m n n) (product (m i j) (z j))) (λ j. product (m i n) (product (m n j) (z j))) n
    ∙ ap (λ (x : ℕ). bit_xor x (sum_below (λ j. product (m i n) (product (m n j) (z j))) n)) (sum_below-product (m n n) (λ j. product (m i j) (z j)) n)
    ∙ ap (bit_xor (product (m n n) (row_sum m n z i))) (sum_below-product (m i n) (λ j. product (m n j) (z j)) n)

-- a term taken to the other side
pub move : (a b c : ℕ) → bit_xor a b ≡ c → a ≡ bit_xor c b
move a b c h = sym (xor_zero_r a) ∙ ap (bit_xor a) (sym (xor_self b)) ∙ sym (xor_assoc a b b) ∙ ap (λ (x : ℕ). bit_xor x b) h

-- ---- one step of arithmetic: with equation i and the last one, p s + a t = p b + a c

eliminates : (p a s t b c z : ℕ) → p < 256 → a < 256 → z < 256 → bit_xor s (product a z) ≡ b → bit_xor t (product p z) ≡ c
    → bit_xor (product p s) (product a t) ≡ bit_xor (product p b) (product a c)
eliminates p a s t b c z hp ha hz first last =
    ap (λ (x : ℕ). bit_xor x (product a t)) (ap (product p) (move s (product a z) b first) ∙ product_of_sum p b (product a z))
    ∙ ap (bit_xor (bit_xor (product p b) (product p (product a z)))) (ap (product a) (move t (product p z) c last) ∙ product_of_sum a c (product p z))
    ∙ ap (λ (x : ℕ). bit_xor (bit_xor (product p b) x) (bit_xor (product a c) (product a (product p z)))) (product_left_comm p a z hp ha hz)
    ∙ xor_exchange (product p b) (product a (product p z)) (product a c) (product a (product p z))
    ∙ ap (bit_xor (bit_xor (product p b) (product a c))) (xor_self (product a (product p z)))
    ∙ xor_zero_r (bit_xor (product p b) (product a c))

-- and back: where the last unknown solves the last equation, equation i follows
returns_to : (p a s t b c z : ℕ) → 0 < p → p < 256 → a < 256 → s < 256 → b < 256 → z < 256
    → bit_xor (product p s) (product a t) ≡ bit_xor (product p b) (product a c) → product p z ≡ bit_xor c t → bit_xor s (product a z) ≡ b
returns_to p a s t b c z some hp ha hs hb hz both last =
    cancel_left p (bit_xor s (product a z)) b some hp (xor_lt 8 s (product a z) hs (product_lt a z ha hz)) hb
    (product_of_sum p s (product a z)
    ∙ ap (bit_xor (product p s)) (product_left_comm p a z hp ha hz ∙ ap (product a) last ∙ product_of_sum a c t ∙ xor_comm (product a c) (product a t))
    ∙ sym (xor_assoc (product p s) (product a t) (product a c))
    ∙ ap (λ (x : ℕ). bit_xor x (product a c)) both
    ∙ xor_assoc (product p b) (product a c) (product a c)
    ∙ ap (bit_xor (product p b)) (xor_self (product a c)) ∙ xor_zero_r (product p b))

-- ---- exactly one solution

Solves-reduced : (n : ℕ) (m : ℕ → ℕ → ℕ) (b z : ℕ → ℕ) → IsMatrix (suc n) m → IsVector (suc n) z → Solves (suc n) m b z → Solves n (reduced m n) (reduced_given m n b) z
Solves-reduced n m b z hm hz solved i hi =
    row_sum-reduced n m z hm (λ j hj. hz j (omega arith)) i hi
    ∙ eliminates (m n n) (m i n) (row_sum m n z i) (row_sum m n z n) (b i) (b n) (z n) (hm n n (omega arith) (omega arith)) (hm i n (omega arith) (omega arith)) (hz n (omega arith))
    (solved i (omega arith)) (solved n (omega arith))

-- the last unknown, from the last equation
last_term : (n : ℕ) (m : ℕ → ℕ → ℕ) (b z : ℕ → ℕ) → row_sum m (suc n) z n ≡ b n → product (m n n) (z n) ≡ bit_xor (b n) (row_sum m n z n)
last_term n m b z solved = move (product (m n n) (z n)) (row_sum m n z n) (b n) (xor_comm (product (m n n) (z n)) (row_sum m n z n) ∙ solved)

-- two solutions agree
pub only_solution : (n : ℕ) (m : ℕ → ℕ → ℕ) (b y z : ℕ → ℕ) → IsMatrix n m → IsEliminable n m → IsVector n y → IsVector n z → Solves n m b y → Solves n m b z
    → (j : ℕ) → j < n → y j ≡ z j
only_solution zero m b y z hm pivots hy hz solved_y solved_z j hj = absurd (omega arith)
only_solution (suc n) m b y z hm pivots hy hz solved_y solved_z j hj =
    let before : (k : ℕ) → k < n → y k ≡ z k =
    only_solution n (reduced m n) (reduced_given m n b) y z (IsMatrix-reduced n m hm) pivots.1
    (λ k hk. hy k (omega arith)) (λ k hk. hz k (omega arith)) (Solves-reduced n m b y hm hy solved_y) (Solves-reduced n m b z hm hz solved_z) in
    elim (cases_lt j n) [
      | inl earlier ↦ before j earlier
      | inr last ↦
          let at_n : j ≡ n = omega arith in
          let rest : row_sum m n y n ≡ row_sum m n z n = sum_below-same (λ k. product (m n k) (y k)) (λ k. product (m n k) (z k)) n (λ k hk. ap (product (m n k)) (before k hk)) in
          ap y at_n
          ∙ cancel_left (m n n) (y n) (z n) pivots.0 (hm n n (omega arith) (omega arith)) (hy n (omega arith)) (hz n (omega arith))
          (last_term n m b y (solved_y n (omega arith)) ∙ ap (bit_xor (b n)) rest ∙ sym (last_term n m b z (solved_z n (omega arith))))
          ∙ ap z (sym at_n)
    ]

-- a vector with another value at n
abbrev pub with_value : ℕ → ℕ → (ℕ → ℕ) → ℕ → ℕ
with_value n x z j = cond (eqb j n) x (z j)

pub with_value-same : (n x : ℕ) (z : ℕ → ℕ) → with_value n x z n ≡ x
with_value-same n x z = ap (λ (b : Bool). cond b x (z n)) (eq-eqb n n refl)

pub with_value-other : (n x : ℕ) (z : ℕ → ℕ) (j : ℕ) → j < n → with_value n x z j ≡ z j
with_value-other n x z j h = elim (eqb_tells j n) [
  | inl same ↦ absurd (omega (arith, same.1))
  | inr other ↦ ap (λ (b : Bool). cond b x (z j)) other.0
]

pub IsVector-with_value : (n x : ℕ) (z : ℕ → ℕ) → x < 256 → IsVector n z → IsVector (suc n) (with_value n x z)
IsVector-with_value n x z hx hz j hj =
    elim (eqb j n) as (λ (b : Bool). eqb j n ≡ b → cond b x (z j) < 256) [
      | true ↦ λ same. hx
      | false ↦ λ other. hz j (let apart : j ≢ n = eqb-false j n other in omega arith)
    ] refl

row_sum-lt : (n : ℕ) (m : ℕ → ℕ → ℕ) (z : ℕ → ℕ) → IsMatrix (suc n) m → IsVector n z → (i : ℕ) → i < suc n → row_sum m n z i < 256
row_sum-lt n m z hm hz i hi =
    sum_below-lt (λ j. product (m i j) (z j)) n (λ j hj. product_lt (m i j) (z j) (hm i j hi (omega arith)) (hz j hj))

-- a solution of the reduced system, and the last unknown from the last equation
pub Solves-back : (n : ℕ) (m : ℕ → ℕ → ℕ) (b z : ℕ → ℕ) → IsMatrix (suc n) m → 0 < m n n → IsVector (suc n) b → IsVector n z
    → Solves n (reduced m n) (reduced_given m n b) z → (x : ℕ) → x < 256 → product (m n n) x ≡ bit_xor (b n) (row_sum m n z n)
    → Solves (suc n) m b (with_value n x z)
Solves-back n m b z hm pivot hb hz solved x hx last i hi =
    let here : row_sum m (suc n) (with_value n x z) i ≡ bit_xor (row_sum m n z i) (product (m i n) x) =
    ap (λ (y : ℕ). bit_xor y (product (m i n) (with_value n x z n)))
    (sum_below-same (λ j. product (m i j) (with_value n x z j)) (λ j. product (m i j) (z j)) n (λ j hj. ap (product (m i j)) (with_value-other n x z j hj)))
    ∙ ap (λ (y : ℕ). bit_xor (row_sum m n z i) (product (m i n) y)) (with_value-same n x z) in
    elim (cases_lt i n) [
      | inl earlier ↦
          here
          ∙ returns_to (m n n) (m i n) (row_sum m n z i) (row_sum m n z n) (b i) (b n) x pivot (hm n n (omega arith) (omega arith)) (hm i n (omega arith) (omega arith))
          (row_sum-lt n m z hm hz i hi) (hb i (omega arith)) hx
          (sym (row_sum-reduced n m z hm hz i earlier) ∙ solved i earlier) last
      | inr later ↦
          let at_n : i ≡ n = omega arith in
          here ∙ ap (λ (k : ℕ). bit_xor (row_sum m n z k) (product (m k n) x)) at_n ∙ ap (bit_xor (row_sum m n z n)) last
          ∙ xor_comm (row_sum m n z n) (bit_xor (b n) (row_sum m n z n)) ∙ xor_assoc (b n) (row_sum m n z n) (row_sum m n z n)
          ∙ ap (bit_xor (b n)) (xor_self (row_sum m n z n)) ∙ xor_zero_r (b n) ∙ ap b (sym at_n)
    ]

-- a solution exists
pub some_solution : (n : ℕ) (m : ℕ → ℕ → ℕ) (b : ℕ → ℕ) → IsMatrix n m → IsEliminable n m → IsVector n b → (z : ℕ → ℕ) × (IsVector n z × Solves n m b z)
some_solution zero m b hm pivots hb = (λ j. 0, (λ j h. absurd (omega arith), λ i h. absurd (omega arith)))
some_solution (suc n) m b hm pivots hb =
    let rest = some_solution n (reduced m n) (reduced_given m n b) (IsMatrix-reduced n m hm) pivots.1 (IsVector-reduced n m b hm hb) in
    let z = rest.0 in
    let pivot_lt : m n n < 256 = hm n n (omega arith) (omega arith) in
    let side : bit_xor (b n) (row_sum m n z n) < 256 = xor_lt 8 (b n) (row_sum m n z n) (hb n (omega arith)) (row_sum-lt n m z hm rest.1.0 n (omega arith)) in
    let x = quotient (bit_xor (b n) (row_sum m n z n)) (m n n) in
    let x_lt : x < 256 = quotient_lt (bit_xor (b n) (row_sum m n z n)) (m n n) side pivots.0 pivot_lt in
    let last : product (m n n) x ≡ bit_xor (b n) (row_sum m n z n) =
    product_comm (m n n) x pivot_lt x_lt ∙ quotient_times (bit_xor (b n) (row_sum m n z n)) (m n n) side pivots.0 pivot_lt in
    (with_value n x z, (IsVector-with_value n x z x_lt rest.1.0, Solves-back n m b z hm pivots.0 hb rest.1.0 rest.1.1 x x_lt last))

-- ---- from a matrix and its reduced matrix, as the program holds them

pub IsEliminable-same : (n : ℕ) (m m' : ℕ → ℕ → ℕ) → ((i j : ℕ) → i < n → j < n → m' i j ≡ m i j) → IsEliminable n m → IsEliminable n m'
IsEliminable-same zero m m' same pivots = tt
IsEliminable-same (suc n) m m' same pivots =
    let here : m' n n ≡ m n n = same n n (omega arith) (omega arith) in (
      omega (arith, pivots.0),
      IsEliminable-same n (reduced m n) (reduced m' n)
          (λ i j hi hj.
          ap (λ (x : ℕ). bit_xor (product x (m' i j)) (product (m' i n) (m' n j))) here
          ∙ ap (λ (x : ℕ). bit_xor (product (m n n) x) (product (m' i n) (m' n j))) (same i j (omega arith) (omega arith))
          ∙ ap (λ (x : ℕ). bit_xor (product (m n n) (m i j)) (product x (m' n j))) (same i n (omega arith) (omega arith))
          ∙ ap (λ (x : ℕ). bit_xor (product (m n n) (m i j)) (product (m i n) x)) (same n j (omega arith) (omega arith)))
          pivots.1,
    )

-- the reduced matrix can be eliminated further
pub rest_eliminable : (n : ℕ) (m m' : ℕ → ℕ → ℕ) → IsMatrix (suc n) m → IsEliminable (suc n) m → ((i j : ℕ) → i < n → j < n → m' i j ≡ reduced m n i j)
    → IsMatrix n m' × IsEliminable n m'
rest_eliminable n m m' hm pivots same =
    (λ i j hi hj. omega (arith, same i j hi hj, IsMatrix-reduced n m hm i j hi hj), IsEliminable-same n (reduced m n) m' same pivots.1)

pub rest_given : (n : ℕ) (m : ℕ → ℕ → ℕ) (b b' : ℕ → ℕ) → IsMatrix (suc n) m → IsVector (suc n) b → ((i : ℕ) → i < n → b' i ≡ reduced_given m n b i) → IsVector n b'
rest_given n m b b' hm hb same i hi = omega (arith, same i hi, IsVector-reduced n m b hm hb i hi)

-- the solution of the reduced system, with the last unknown
pub solved_step : (n : ℕ) (m m' : ℕ → ℕ → ℕ) (b b' z y : ℕ → ℕ) (x : ℕ) → IsMatrix (suc n) m → 0 < m n n → IsVector (suc n) b → IsVector n z
    → ((i j : ℕ) → i < n → j < n → m' i j ≡ reduced m n i j) → ((i : ℕ) → i < n → b' i ≡ reduced_given m n b i) → Solves n m' b' z
    → x < 256 → product x (m n n) ≡ bit_xor (b n) (row_sum m n z n) → ((j : ℕ) → j < n → y j ≡ z j) → y n ≡ x → Solves (suc n) m b y
solved_step n m m' b b' z y x hm pivot hb hz same_m same_b solved hx last before here i hi =
    sum_below-same (λ j. product (m i j) (y j)) (λ j. product (m i j) (with_value n x z j)) (suc n)
    (λ j hj. ap (product (m i j))
    (elim (cases_lt j n) [
      | inl earlier ↦ before j earlier ∙ sym (with_value-other n x z j earlier)
      | inr later ↦ let at_n : j ≡ n = omega arith in ap y at_n ∙ here ∙ sym (with_value-same n x z) ∙ ap (with_value n x z) (sym at_n)
    ]))
    ∙ Solves-back n m b z hm pivot hb hz
    (λ k hk.
    sum_below-same (λ j. product (reduced m n k j) (z j)) (λ j. product (m' k j) (z j)) n (λ j hj. ap (λ (a : ℕ). product a (z j)) (sym (same_m k j hk hj)))
    ∙ solved k hk ∙ same_b k hk)
    x hx (product_comm (m n n) x (hm n n (omega arith) (omega arith)) hx ∙ last) i hi

-- one more element
pub IsVector-more : (n : ℕ) (z y : ℕ → ℕ) (x : ℕ) → IsVector n z → ((j : ℕ) → j < n → y j ≡ z j) → y n ≡ x → x < 256 → IsVector (suc n) y
IsVector-more n z y x hz before here hx j hj =
    elim (cases_lt j n) [
      | inl earlier ↦ omega (arith, before j earlier, hz j earlier)
      | inr later ↦ let at_n : j ≡ n = omega arith in let same : y j ≡ x = ap y at_n ∙ here in omega arith
    ]

-- ---- the solutions at the units make every solution

unit-same : (i : ℕ) → unit i i ≡ 1
unit-same i = ap (λ (b : Bool). cond b 1 0) (eq-eqb i i refl)

unit-other : (i k : ℕ) → k ≢ i → unit i k ≡ 0
unit-other i k apart =
    elim (eqb_tells k i) [
      | inl same ↦ absurd (apart same.1)
      | inr other ↦ ap (λ (b : Bool). cond b 1 0) other.0
    ]

sum_below-unit-past : (n k : ℕ) (b : ℕ → ℕ) → n ≤ k → sum_below (λ i. product (b i) (unit i k)) n ≡ 0
sum_below-unit-past zero k b h = refl
sum_below-unit-past (suc n) k b h =
    ap (λ (x : ℕ). bit_xor x (product (b n) (unit n k))) (sum_below-unit-past n k b (omega arith))
    ∙ ap (λ (x : ℕ). bit_xor 0 (product (b n) x)) (unit-other n k (omega arith)) ∙ ap (bit_xor 0) (product-zero (b n))

sum_below-unit : (n k : ℕ) (b : ℕ → ℕ) → IsVector n b → k < n → sum_below (λ i. product (b i) (unit i k)) n ≡ b k
sum_below-unit zero k b hb h = absurd (omega arith)
sum_below-unit (suc n) k b hb h =
    elim (cases_lt k n) [
      | inl earlier ↦
          ap (λ (x : ℕ). bit_xor x (product (b n) (unit n k))) (sum_below-unit n k b (λ j hj. hb j (omega arith)) earlier)
          ∙ ap (λ (x : ℕ). bit_xor (b k) (product (b n) x)) (unit-other n k (omega arith)) ∙ ap (bit_xor (b k)) (product-zero (b n)) ∙ xor_zero_r (b k)
      | inr later ↦
          let at_n : k ≡ n = omega arith in
          ap (λ (x : ℕ). bit_xor x (product (b n) (unit n k))) (sum_below-unit-past n k b later)
          ∙ xor_zero_l (product (b n) (unit n k)) ∙ ap (λ (i : ℕ). product (b n) (unit n i)) at_n ∙ ap (product (b n)) (unit-same n)
          ∙ times_one (b n) (hb n (omega arith)) ∙ ap b (sym at_n)
    ]

pub superposed : (n : ℕ) (m z : ℕ → ℕ → ℕ) (b : ℕ → ℕ) → IsMatrix n m → IsMatrix n z → IsVector n b → ((i : ℕ) → i < n → Solves n m (unit i) (z i))
    → Solves n m b (λ j. sum_below (λ i. product (b i) (z i j)) n)
superposed n m z b hm hz hb units k hk =
    sum_below-same (λ j. product (m k j) (sum_below (λ i. product (b i) (z i j)) n)) (λ j. sum_below (λ i. product (b i) (product (m k j) (z i j))) n) n
    (λ j hj.
    sym (sum_below-product (m k j) (λ i. product (b i) (z i j)) n)
    ∙ sum_below-same (λ i. product (m k j) (product (b i) (z i j))) (λ i. product (b i) (product (m k j) (z i j))) n
    (λ i hi. product_left_comm (m k j) (b i) (z i j) (hm k j hk hj) (hb i hi) (hz i j hi hj)))
    ∙ sum_below-swap (λ j i. product (b i) (product (m k j) (z i j))) n n
    ∙ sum_below-same (λ i. sum_below (λ j. product (b i) (product (m k j) (z i j))) n) (λ i. product (b i) (unit i k)) n
    (λ i hi. sum_below-product (b i) (λ j. product (m k j) (z i j)) n ∙ ap (product (b i)) (units i hi k hk))
    ∙ sum_below-unit n k b hb hk

pub superposed_lt : (n : ℕ) (z : ℕ → ℕ → ℕ) (b : ℕ → ℕ) → IsMatrix n z → IsVector n b → IsVector n (λ j. sum_below (λ i. product (b i) (z i j)) n)
superposed_lt n z b hz hb j hj = sum_below-lt (λ i. product (b i) (z i j)) n (λ i hi. product_lt (b i) (z i j) (hb i hi) (hz i j hi hj))

-- equal systems have the same solutions
pub Solves-same : (n : ℕ) (m m' : ℕ → ℕ → ℕ) (b b' z : ℕ → ℕ) → ((i j : ℕ) → i < n → j < n → m' i j ≡ m i j) → ((i : ℕ) → i < n → b' i ≡ b i) → Solves n m' b' z → Solves n m b z
Solves-same n m m' b b' z same_m same_b solved i hi =
    sum_below-same (λ j. product (m i j) (z j)) (λ j. product (m' i j) (z j)) n (λ j hj. ap (λ (x : ℕ). product x (z j)) (sym (same_m i j hi hj)))
    ∙ solved i hi ∙ same_b i hi
