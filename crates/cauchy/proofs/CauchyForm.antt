-- Matrices whose entry (i, j) is u(i) v(j) / d(i,j), where d(i,j) = q(i) x(j) + p(i): Cauchy's matrix has q = 1, and a row
-- of ones has q = 0 and p = 1. Where no u, v or d is 0, no two x are equal and no two (q, p) are multiples of each other,
-- such a matrix can be eliminated, since one step of it leaves a matrix of the same form.
use Rattle.std.proofs.Common.{◌≡◌, ◌≢◌, ℕ, zero, suc, ◌<◌, [], ◌∷◌, refl, sym, ap, ◌∙◌, inl, inr, arith}
use Rattle.std.specs.Int.Bits.{bit_xor}
use Rattle.std.proofs.lemmas.Nat.{xor_comm, xor_lt}
use Rattle.std.proofs.lemmas.Bool.{cases_lt}
use Rattle.std.specs.Int.Bits.{xor_self}
use Rattle.gf256.specs.Field.{product, inverse}
use Rattle.gf256.proofs.Theorems.{product_lt, product_comm, product_of_sum, sum_times, times_one, product_positive, inverse_lt, inverse_positive, inverse_times, xor_exchange}
use Rattle.cauchy.proofs.Factors.{AreElements, same_factors, value_lt, product_left_comm}
use Rattle.cauchy.proofs.Factors.Factors.{element, times}
use Rattle.cauchy.specs.Elimination.{IsEliminable, reduced}
use Rattle.cauchy.proofs.EliminationLemmas.{move}

-- ---- sums

-- equal first terms cancel
xor_cancel_first : (a b c d : ℕ) → a ≡ c → bit_xor (bit_xor a b) (bit_xor c d) ≡ bit_xor b d
xor_cancel_first a b c d same =
    xor_exchange a b c d ∙ ap (λ (x : ℕ). bit_xor (bit_xor x c) (bit_xor b d)) same ∙ ap (λ (x : ℕ). bit_xor x (bit_xor b d)) (xor_self c)

-- a sum is 0 only where its terms are equal
pub xor_positive : (a b : ℕ) → a ≢ b → 0 < bit_xor a b
xor_positive a b apart =
    elim (cases_lt 0 (bit_xor a b)) [
      | inl positive ↦ positive
      | inr none ↦
          let zero : bit_xor a b ≡ 0 = omega arith in
          absurd (apart (move a b 0 zero))
    ]

-- ---- the denominators

abbrev pub denominator : ℕ → ℕ → ℕ → ℕ
denominator q p x = bit_xor (product q x) p

-- what two rows differ by
abbrev pub cross : ℕ → ℕ → ℕ → ℕ → ℕ
cross q p r s = bit_xor (product q s) (product r p)

pub denominator_lt : (q p x : ℕ) → q < 256 → p < 256 → x < 256 → denominator q p x < 256
denominator_lt q p x hq hp hx = xor_lt 8 (product q x) p (product_lt q x hq hx) hp

-- from one column to another
other_column : (q p x y : ℕ) → denominator q p y ≡ bit_xor (denominator q p x) (product q (bit_xor x y))
other_column q p x y =
    sym (ap (bit_xor (denominator q p x)) (product_of_sum q x y) ∙ xor_cancel_first (product q x) p (product q x) (product q y) refl ∙ xor_comm p (product q y))

swapped : (a b c : ℕ) → a < 256 → b < 256 → c < 256 → product (product a b) c ≡ product (product a c) b
swapped a b c ha hb hc =
    same_factors (a ∷ b ∷ c ∷ []) (ha, (hb, (hc, tt))) (times (times (element 0) (element 1)) (element 2)) (times (times (element 0) (element 2)) (element 1)) refl

-- d(i,n) d(n,j) + d(n,n) d(i,j) is the product of what the rows and what the columns differ by
cross_identity : (q p r s x y : ℕ) → q < 256 → p < 256 → r < 256 → s < 256 → x < 256 → y < 256
    → bit_xor (product (denominator q p y) (denominator r s x)) (product (denominator r s y) (denominator q p x)) ≡ product (cross q p r s) (bit_xor x y)
cross_identity q p r s x y hq hp hr hs hx hy =
    let h = bit_xor x y in
    let h_lt : bit_xor x y < 256 = xor_lt 8 x y hx hy in
    let first = denominator q p x in
    let second = denominator r s x in
    let first_lt : denominator q p x < 256 = denominator_lt q p x hq hp hx in
    let second_lt : denominator r s x < 256 = denominator_lt r s x hr hs hx in
    ap (λ (a : ℕ). bit_xor (product a second) (product (denominator r s y) first)) (other_column q p x y)
    ∙ ap (λ (a : ℕ). bit_xor (product (bit_xor first (product q h)) second) (product a first)) (other_column r s x y)
    ∙ ap (λ (a : ℕ). bit_xor a (product (bit_xor second (product r h)) first)) (sum_times first (product q h) second)
    ∙ ap (bit_xor (bit_xor (product first second) (product (product q h) second))) (sum_times second (product r h) first)
    ∙ xor_cancel_first (product first second) (product (product q h) second) (product second first) (product (product r h) first) (product_comm first second first_lt second_lt)
    ∙ ap (λ (a : ℕ). bit_xor a (product (product r h) first)) (swapped q h second hq h_lt second_lt)
    ∙ ap (bit_xor (product (product q second) h)) (swapped r h first hr h_lt first_lt)
    ∙ sym (sum_times (product q second) (product r first) h)
    ∙ ap (λ (a : ℕ). product a h)
    (ap (λ (a : ℕ). bit_xor a (product r first)) (product_of_sum q (product r x) s)
    ∙ ap (bit_xor (bit_xor (product q (product r x)) (product q s))) (product_of_sum r (product q x) p)
    ∙ xor_cancel_first (product q (product r x)) (product q s) (product r (product q x)) (product r p) (product_left_comm q r x hq hr hx))

-- a product with two ones
with_ones : (a : ℕ) → a < 256 → (b c : ℕ) → b ≡ 1 → c ≡ 1 → a ≡ product a (product b c)
with_ones a ha b c hb hc =
    sym (ap (λ (x : ℕ). product a (product x c)) hb ∙ ap (λ (x : ℕ). product a (product 1 x)) hc ∙ ap (product a) (times_one 1 (omega arith)) ∙ times_one a ha)

-- ---- one step

-- the entries of the reduced matrix, from those of the matrix: u(i), u(n), v(j), v(n), and the inverses e and the
-- denominators d at (i,j), (i,n), (n,j) and (n,n)
reduced_entry : (ui un vj vn eij ein enj enn dij din dnj dnn g h : ℕ)
    → AreElements (ui ∷ un ∷ vj ∷ vn ∷ eij ∷ ein ∷ enj ∷ enn ∷ dij ∷ din ∷ dnj ∷ dnn ∷ g ∷ h ∷ [])
    → product eij dij ≡ 1 → product ein din ≡ 1 → product enj dnj ≡ 1 → product enn dnn ≡ 1
    → bit_xor (product din dnj) (product dnn dij) ≡ product g h
    → bit_xor (product (product (product un vn) enn) (product (product ui vj) eij)) (product (product (product ui vn) ein) (product (product un vj) enj))
    ≡ product (product (product ui (product un (product g (product ein enn)))) (product vj (product vn (product h enj)))) eij
reduced_entry ui un vj vn eij ein enj enn dij din dnj dnn g h small one_ij one_in one_nj one_nn total =
    let env = ui ∷ un ∷ vj ∷ vn ∷ eij ∷ ein ∷ enj ∷ enn ∷ dij ∷ din ∷ dnj ∷ dnn ∷ g ∷ h ∷ [] in
    let common = times (times (times (element 0) (element 1)) (times (element 2) (element 3))) (times (times (element 4) (element 5)) (times (element 6) (element 7))) in
    let k = product (product (product ui un) (product vj vn)) (product (product eij ein) (product enj enn)) in
    let left = times (times (times (element 1) (element 3)) (element 7)) (times (times (element 0) (element 2)) (element 4)) in
    let right = times (times (times (element 0) (element 3)) (element 5)) (times (times (element 1) (element 2)) (element 6)) in
    let p = product (product (product un vn) enn) (product (product ui vj) eij) in
    let r = product (product (product ui vn) ein) (product (product un vj) enj) in
    let left_is : p ≡ product k (product din dnj) =
    with_ones p (value_lt env small left) (product ein din) (product enj dnj) one_in one_nj
    ∙ same_factors env small (times left (times (times (element 5) (element 9)) (times (element 6) (element 10)))) (times common (times (element 9) (element 10))) refl in
    let right_is : r ≡ product k (product dnn dij) =
    with_ones r (value_lt env small right) (product enn dnn) (product eij dij) one_nn one_ij
    ∙ same_factors env small (times right (times (times (element 7) (element 11)) (times (element 4) (element 8)))) (times common (times (element 11) (element 8))) refl in
    ap (λ (x : ℕ). bit_xor x r) left_is ∙ ap (bit_xor (product k (product din dnj))) right_is
    ∙ sym (product_of_sum k (product din dnj) (product dnn dij)) ∙ ap (product k) total
    ∙ same_factors env small (times common (times (element 12) (element 13)))
    (times (times (times (element 0) (times (element 1) (times (element 12) (times (element 5) (element 7))))) (times (element 2) (times (element 3) (times (element 13) (element 6))))) (element 4)) refl

-- ---- the form

-- the entries of n rows and n columns are of the form, and nothing is 0 that they are divided by
pub record IsCauchy (n : ℕ) (m : ℕ → ℕ → ℕ) (u v q p x : ℕ → ℕ) : Type 0 where
  pub row_factor : (i : ℕ) → i < n → (0 < u i) × (u i < 256)
  pub column_factor : (j : ℕ) → j < n → (0 < v j) × (v j < 256)
  pub slope : (i : ℕ) → i < n → q i < 256
  pub shift : (i : ℕ) → i < n → p i < 256
  pub place : (j : ℕ) → j < n → x j < 256
  pub denominators : (i j : ℕ) → i < n → j < n → 0 < denominator (q i) (p i) (x j)
  pub rows : (i k : ℕ) → i < k → k < n → 0 < cross (q i) (p i) (q k) (p k)
  pub columns : (j k : ℕ) → j < k → k < n → 0 < bit_xor (x j) (x k)
  pub entries : (i j : ℕ) → i < n → j < n → m i j ≡ product (product (u i) (v j)) (inverse (denominator (q i) (p i) (x j)))

-- the factors of the rows and the columns after one step
abbrev pub next_row_factor : ℕ → (ℕ → ℕ) → (ℕ → ℕ) → (ℕ → ℕ) → (ℕ → ℕ) → ℕ → ℕ
next_row_factor n u q p x i =
    product (u i) (product (u n) (product (cross (q i) (p i) (q n) (p n)) (product (inverse (denominator (q i) (p i) (x n))) (inverse (denominator (q n) (p n) (x n))))))

abbrev pub next_column_factor : ℕ → (ℕ → ℕ) → (ℕ → ℕ) → (ℕ → ℕ) → (ℕ → ℕ) → ℕ → ℕ
next_column_factor n v q p x j = product (v j) (product (v n) (product (bit_xor (x j) (x n)) (inverse (denominator (q n) (p n) (x j)))))

-- the product of two elements that aren't 0
both : (a b : ℕ) → (0 < a) × (a < 256) → (0 < b) × (b < 256) → (0 < product a b) × (product a b < 256)
both a b ha hb = (product_positive a b ha.0 ha.1 hb.0 hb.1, product_lt a b ha.1 hb.1)

module _ (n : ℕ) (m : ℕ → ℕ → ℕ) (u v q p x : ℕ → ℕ) (form : IsCauchy (suc n) m u v q p x) where
  d_at : (i j : ℕ) → i < suc n → j < suc n → (0 < denominator (q i) (p i) (x j)) × (denominator (q i) (p i) (x j) < 256)
  d_at i j hi hj = (form.denominators i j hi hj, denominator_lt (q i) (p i) (x j) (form.slope i hi) (form.shift i hi) (form.place j hj))

  e_at : (i j : ℕ) → i < suc n → j < suc n → (0 < inverse (denominator (q i) (p i) (x j))) × (inverse (denominator (q i) (p i) (x j)) < 256)
  e_at i j hi hj =
      let d = d_at i j hi hj in
      (inverse_positive (denominator (q i) (p i) (x j)) d.0 d.1, inverse_lt (denominator (q i) (p i) (x j)) d.0 d.1)

  one_at : (i j : ℕ) → i < suc n → j < suc n → product (inverse (denominator (q i) (p i) (x j))) (denominator (q i) (p i) (x j)) ≡ 1
  one_at i j hi hj = let d = d_at i j hi hj in inverse_times (denominator (q i) (p i) (x j)) d.0 d.1

  cross_at : (i : ℕ) → i < n → (0 < cross (q i) (p i) (q n) (p n)) × (cross (q i) (p i) (q n) (p n) < 256)
  cross_at i hi = (
    form.rows i n hi (omega arith),
    xor_lt 8 (product (q i) (p n)) (product (q n) (p i))
        (product_lt (q i) (p n) (form.slope i (omega arith)) (form.shift n (omega arith)))
        (product_lt (q n) (p i) (form.slope n (omega arith)) (form.shift i (omega arith))),
  )

  step_at : (j : ℕ) → j < n → (0 < bit_xor (x j) (x n)) × (bit_xor (x j) (x n) < 256)
  step_at j hj = (form.columns j n hj (omega arith), xor_lt 8 (x j) (x n) (form.place j (omega arith)) (form.place n (omega arith)))

  pub pivot : 0 < m n n
  pivot =
      let positive : 0 < product (product (u n) (v n)) (inverse (denominator (q n) (p n) (x n))) =
      (both (product (u n) (v n)) (inverse (denominator (q n) (p n) (x n)))
      (both (u n) (v n) (form.row_factor n (omega arith)) (form.column_factor n (omega arith))) (e_at n n (omega arith) (omega arith))).0 in
      omega (arith, form.entries n n (omega arith) (omega arith), positive)

  next_entry : (i j : ℕ) → i < n → j < n
      → reduced m n i j ≡ product (product (next_row_factor n u q p x i) (next_column_factor n v q p x j)) (inverse (denominator (q i) (p i) (x j)))
  next_entry i j hi hj =
      let hi' : i < suc n = omega arith in
      let hj' : j < suc n = omega arith in
      let hn : n < suc n = omega arith in
      let entry_ij = form.entries i j hi' hj' in
      let entry_in = form.entries i n hi' hn in
      let entry_nj = form.entries n j hn hj' in
      let entry_nn = form.entries n n hn hn in
      let total = cross_identity (q i) (p i) (q n) (p n) (x j) (x n) (form.slope i hi') (form.shift i hi') (form.slope n hn) (form.shift n hn) (form.place j hj') (form.place n hn) in
      ap (λ (a : ℕ). bit_xor (product a (m i j)) (product (m i n) (m n j))) entry_nn
      ∙ ap (λ (a : ℕ). bit_xor (product (product (product (u n) (v n)) (inverse (denominator (q n) (p n) (x n)))) a) (product (m i n) (m n j))) entry_ij
      ∙ ap (λ (a : ℕ). bit_xor (product (product (product (u n) (v n)) (inverse (denominator (q n) (p n) (x n)))) (product (product (u i) (v j)) (inverse (denominator (q i) (p i) (x j))))) (product a (m n j))) entry_in
      ∙ ap (λ (a : ℕ). bit_xor (product (product (product (u n) (v n)) (inverse (denominator (q n) (p n) (x n)))) (product (product (u i) (v j)) (inverse (denominator (q i) (p i) (x j))))) (product (product (product (u i) (v n)) (inverse (denominator (q i) (p i) (x n)))) a)) entry_nj
      ∙ reduced_entry (u i) (u n) (v j) (v n)
      (inverse (denominator (q i) (p i) (x j))) (inverse (denominator (q i) (p i) (x n))) (inverse (denominator (q n) (p n) (x j))) (inverse (denominator (q n) (p n) (x n)))
      (denominator (q i) (p i) (x j)) (denominator (q i) (p i) (x n)) (denominator (q n) (p n) (x j)) (denominator (q n) (p n) (x n))
      (cross (q i) (p i) (q n) (p n)) (bit_xor (x j) (x n)) (
        (form.row_factor i hi').1,
        (
          (form.row_factor n hn).1,
          (
            (form.column_factor j hj').1,
            (
              (form.column_factor n hn).1,
              (
                (e_at i j hi' hj').1,
                (
                  (e_at i n hi' hn).1,
                  (
                    (e_at n j hn hj').1,
                    (
                      (e_at n n hn hn).1,
                      (
                        (d_at i j hi' hj').1,
                        (
                          (d_at i n hi' hn).1,
                          (
                            (d_at n j hn hj').1,
                            (
                              (d_at n n hn hn).1,
                              ((cross_at i hi).1, ((step_at j hj).1, tt)),
                            ),
                          ),
                        ),
                      ),
                    ),
                  ),
                ),
              ),
            ),
          ),
        ),
      )
      (one_at i j hi' hj') (one_at i n hi' hn) (one_at n j hn hj') (one_at n n hn hn) total

  pub next_form : IsCauchy n (reduced m n) (next_row_factor n u q p x) (next_column_factor n v q p x) q p x
  next_form =
      record {
        row_factor = λ i hi.
            both (u i) _ (form.row_factor i (omega arith))
            (both (u n) _ (form.row_factor n (omega arith))
            (both (cross (q i) (p i) (q n) (p n)) _ (cross_at i hi)
            (both (inverse (denominator (q i) (p i) (x n))) (inverse (denominator (q n) (p n) (x n))) (e_at i n (omega arith) (omega arith)) (e_at n n (omega arith) (omega arith)))));
        column_factor = λ j hj.
            both (v j) _ (form.column_factor j (omega arith))
            (both (v n) _ (form.column_factor n (omega arith))
            (both (bit_xor (x j) (x n)) (inverse (denominator (q n) (p n) (x j))) (step_at j hj) (e_at n j (omega arith) (omega arith))));
        slope = λ i hi. form.slope i (omega arith);
        shift = λ i hi. form.shift i (omega arith);
        place = λ j hj. form.place j (omega arith);
        denominators = λ i j hi hj. form.denominators i j (omega arith) (omega arith);
        rows = λ i k less hk. form.rows i k less (omega arith);
        columns = λ j k less hk. form.columns j k less (omega arith);
        entries = next_entry;
      }

-- the induction on the size
pub IsEliminable-cauchy : (n : ℕ) (m : ℕ → ℕ → ℕ) (u v q p x : ℕ → ℕ) → IsCauchy n m u v q p x → IsEliminable n m
IsEliminable-cauchy zero m u v q p x form = tt
IsEliminable-cauchy (suc n) m u v q p x form = (
  pivot n m u v q p x form,
  IsEliminable-cauchy n (reduced m n) (next_row_factor n u q p x) (next_column_factor n v q p x) q p x (next_form n m u v q p x form),
)
