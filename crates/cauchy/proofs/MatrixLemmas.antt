-- The extended Cauchy matrix has the form that can be eliminated, whichever of its rows and columns are chosen.
use Rattle.std.proofs.Common.{◌≡◌, ◌≢◌, ℕ, zero, suc, ◌+◌, ◌-◌, ◌<◌, ◌≤◌, ◌%◌, List, length, get_or, refl, sym, ap, ◌∙◌, lit<, arith}
use Rattle.std.specs.Int.Bits.{bit_xor, xor_zero_r}
use Rattle.std.proofs.lemmas.Nat.{xor_lt}
use Rattle.gf256.specs.Field.{sum_below, product, power, inverse, quotient, remainder, carryless_product}
use Rattle.gf256.proofs.Theorems.{product_lt, one_times, zero_times, times_one, product_inverse, inverse_times, inverse_unique, inverse_lt, inverse_positive, power_lt, power_positive, powers_apart, product_of_powers, order_of_two}
use Rattle.cauchy.specs.Matrix.{entry_of}
use Rattle.cauchy.proofs.CauchyForm.{IsCauchy, denominator, cross, xor_positive, denominator_lt, IsEliminable-cauchy}
use Rattle.cauchy.specs.System.{IsChoice, chosen, IsSolution}
use Rattle.cauchy.specs.Elimination.{IsMatrix, IsVector, IsEliminable, Solves, unit}
use Rattle.cauchy.proofs.Sums.{sum_below-same}
use Rattle.cauchy.proofs.EliminationLemmas.{some_solution, only_solution, superposed, superposed_lt}

-- what holds at each level
pub at_levels : (P : ℕ → Type 0) → P 0 → P 1 → P 2 → P 3 → P 4 → P 5 → (r : ℕ) → r < 6 → P r
at_levels P p0 p1 p2 p3 p4 p5 zero h = p0
at_levels P p0 p1 p2 p3 p4 p5 (suc zero) h = p1
at_levels P p0 p1 p2 p3 p4 p5 (suc (suc zero)) h = p2
at_levels P p0 p1 p2 p3 p4 p5 (suc (suc (suc zero))) h = p3
at_levels P p0 p1 p2 p3 p4 p5 (suc (suc (suc (suc zero)))) h = p4
at_levels P p0 p1 p2 p3 p4 p5 (suc (suc (suc (suc (suc zero))))) h = p5
at_levels P p0 p1 p2 p3 p4 p5 (suc (suc (suc (suc (suc (suc r)))))) h = absurd (omega arith)

-- a column's place: 2^(-c)
pub place_of : ℕ → ℕ
place_of c = inverse (power c)

-- a level's factor, slope and shift: A(r,c) is the factor by slope times place plus shift
pub factor_of : ℕ → ℕ
factor_of zero = 1
factor_of (suc zero) = 1
factor_of (suc (suc r)) = bit_xor 1 (power (suc r))

pub slope_of : ℕ → ℕ
slope_of zero = 0
slope_of (suc r) = 1

pub shift_of : ℕ → ℕ
shift_of zero = 1
shift_of (suc zero) = 0
shift_of (suc (suc r)) = power (suc r)

-- ---- places

pub place_lt : (c : ℕ) → place_of c < 256
unfolding place_of
place_lt c = inverse_lt (power c) (power_positive c) (power_lt c)

pub place_positive : (c : ℕ) → 0 < place_of c
unfolding place_of
place_positive c = inverse_positive (power c) (power_positive c) (power_lt c)

-- the inverse of a place
inverse_place : (c : ℕ) → inverse (place_of c) ≡ power c
unfolding place_of
inverse_place c =
    sym (inverse_unique (inverse (power c)) (power c) (place_positive c) (place_lt c) (power_lt c) (inverse_times (power c) (power_positive c) (power_lt c)))

-- two columns have two places
pub places_apart : (c d : ℕ) → c < 251 → d < 251 → c ≢ d → place_of c ≢ place_of d
places_apart c d hc hd apart same =
    apart (powers_apart c d (omega arith) (omega arith) (sym (inverse_place c) ∙ ap inverse same ∙ inverse_place d))

-- no place of a column of the matrix is a shift of one of its rows
pub place_no_power : (c k : ℕ) → c < 251 → 0 < k → k < 5 → place_of c ≢ power k
unfolding place_of
place_no_power c k hc some hk same =
    let one : power (c + k) ≡ 1 =
    sym (product_of_powers c k) ∙ ap (product (power c)) (sym same) ∙ product_inverse (power c) (power_positive c) (power_lt c) in
    let whole : (c + k) % 255 ≡ 0 = (order_of_two (c + k)).0 one in
    omega arith

pub denominator_positive : (r c : ℕ) → 2 ≤ r → r < 6 → c < 251 → 0 < bit_xor (inverse (power c)) (power (r - 1))
unfolding place_of
denominator_positive r c low high within =
    xor_positive (inverse (power c)) (power (r - 1)) (place_no_power c (r - 1) within (omega arith) (omega arith))

-- ---- the entries

one_inverse : inverse 1 ≡ 1
one_inverse = sym (inverse_unique 1 1 (omega arith) (omega arith) (omega arith) (one_times 1 (omega arith)))

ones_form : (x : ℕ) → 1 ≡ product (product 1 1) (inverse (denominator 0 1 x))
ones_form x =
    sym (ap (λ (a : ℕ). product a (inverse (denominator 0 1 x))) (times_one 1 (omega arith))
    ∙ ap (λ (a : ℕ). product 1 (inverse (bit_xor a 1))) (zero_times x) ∙ ap (product 1) one_inverse ∙ one_times 1 (omega arith))

powers_form : (c : ℕ) → power c ≡ product (product 1 1) (inverse (denominator 1 0 (place_of c)))
powers_form c =
    sym (ap (λ (a : ℕ). product a (inverse (denominator 1 0 (place_of c)))) (times_one 1 (omega arith))
    ∙ ap (λ (a : ℕ). product 1 (inverse a)) (xor_zero_r (product 1 (place_of c)) ∙ one_times (place_of c) (place_lt c))
    ∙ ap (product 1) (inverse_place c) ∙ one_times (power c) (power_lt c))

-- a quotient by a place and a shift, as an entry of the form
quotient_form : (u p x : ℕ) → u < 256 → x < 256 → quotient u (bit_xor x p) ≡ product (product u 1) (inverse (denominator 1 p x))
unfolding quotient
quotient_form u p x hu hx =
    ap (λ (a : ℕ). product a (inverse (bit_xor x p))) (sym (times_one u hu))
    ∙ ap (λ (a : ℕ). product (product u 1) (inverse (bit_xor a p))) (sym (one_times x hx))

pub entry_form : (c : ℕ) → (r : ℕ) → r < 6 → entry_of r c ≡ product (product (factor_of r) 1) (inverse (denominator (slope_of r) (shift_of r) (place_of c)))
unfolding entry_of factor_of slope_of shift_of place_of
entry_form c =
    at_levels (λ r. entry_of r c ≡ product (product (factor_of r) 1) (inverse (denominator (slope_of r) (shift_of r) (place_of c))))
    (ones_form (inverse (power c)))
    (powers_form c)
    (quotient_form (bit_xor 1 (power 1)) (power 1) (inverse (power c)) (xor_lt 8 1 (power 1) (omega arith) (power_lt 1)) (place_lt c))
    (quotient_form (bit_xor 1 (power 2)) (power 2) (inverse (power c)) (xor_lt 8 1 (power 2) (omega arith) (power_lt 2)) (place_lt c))
    (quotient_form (bit_xor 1 (power 3)) (power 3) (inverse (power c)) (xor_lt 8 1 (power 3) (omega arith) (power_lt 3)) (place_lt c))
    (quotient_form (bit_xor 1 (power 4)) (power 4) (inverse (power c)) (xor_lt 8 1 (power 4) (omega arith) (power_lt 4)) (place_lt c))

-- ---- what the form wants of the levels

pub factor_lt : (r : ℕ) → r < 6 → factor_of r < 256
unfolding factor_of
factor_lt =
    at_levels (λ r. factor_of r < 256) (omega arith) (omega arith) (xor_lt 8 1 (power 1) (omega arith) (power_lt 1)) (xor_lt 8 1 (power 2) (omega arith) (power_lt 2))
    (xor_lt 8 1 (power 3) (omega arith) (power_lt 3)) (xor_lt 8 1 (power 4) (omega arith) (power_lt 4))

pub factor_positive : (r : ℕ) → r < 6 → 0 < factor_of r
unfolding factor_of power product remainder carryless_product
factor_positive = at_levels (λ r. 0 < factor_of r) (lit< tt) (lit< tt) (lit< tt) (lit< tt) (lit< tt) (lit< tt)

pub slope_lt : (r : ℕ) → r < 6 → slope_of r < 256
unfolding slope_of
slope_lt = at_levels (λ r. slope_of r < 256) (lit< tt) (lit< tt) (lit< tt) (lit< tt) (lit< tt) (lit< tt)

pub shift_lt : (r : ℕ) → r < 6 → shift_of r < 256
unfolding shift_of
shift_lt = at_levels (λ r. shift_of r < 256) (lit< tt) (lit< tt) (power_lt 1) (power_lt 2) (power_lt 3) (power_lt 4)

-- no denominator is 0
shifted_positive : (c k : ℕ) → c < 251 → 0 < k → k < 5 → 0 < denominator 1 (power k) (place_of c)
shifted_positive c k hc some hk =
    let same : denominator 1 (power k) (place_of c) ≡ bit_xor (place_of c) (power k) = ap (λ (a : ℕ). bit_xor a (power k)) (one_times (place_of c) (place_lt c)) in
    omega (arith, xor_positive (place_of c) (power k) (place_no_power c k hc some hk))

pub form_denominator_positive : (c : ℕ) → c < 251 → (r : ℕ) → r < 6 → 0 < denominator (slope_of r) (shift_of r) (place_of c)
unfolding slope_of shift_of
form_denominator_positive c hc =
    let ones : denominator 0 1 (place_of c) ≡ 1 = ap (λ (a : ℕ). bit_xor a 1) (zero_times (place_of c)) in
    let powers : denominator 1 0 (place_of c) ≡ place_of c = xor_zero_r (product 1 (place_of c)) ∙ one_times (place_of c) (place_lt c) in
    at_levels (λ r. 0 < denominator (slope_of r) (shift_of r) (place_of c))
    (omega arith)
    (omega (arith, place_positive c))
    (shifted_positive c 1 hc (omega arith) (omega arith))
    (shifted_positive c 2 hc (omega arith) (omega arith))
    (shifted_positive c 3 hc (omega arith) (omega arith))
    (shifted_positive c 4 hc (omega arith) (omega arith))

-- no two levels are multiples of each other, as is computed
pub levels_apart : (r : ℕ) → r < 6 → (s : ℕ) → s < 6 → r ≢ s → 0 < cross (slope_of r) (shift_of r) (slope_of s) (shift_of s)
unfolding slope_of shift_of power product remainder carryless_product
levels_apart =
    at_levels (λ r. (s : ℕ) → s < 6 → r ≢ s → 0 < cross (slope_of r) (shift_of r) (slope_of s) (shift_of s))
    (at_levels (λ s. 0 ≢ s → 0 < cross (slope_of 0) (shift_of 0) (slope_of s) (shift_of s)) (λ apart. absurd (apart refl)) (λ apart. lit< tt) (λ apart. lit< tt) (λ apart. lit< tt) (λ apart. lit< tt) (λ apart. lit< tt))
    (at_levels (λ s. 1 ≢ s → 0 < cross (slope_of 1) (shift_of 1) (slope_of s) (shift_of s)) (λ apart. lit< tt) (λ apart. absurd (apart refl)) (λ apart. lit< tt) (λ apart. lit< tt) (λ apart. lit< tt) (λ apart. lit< tt))
    (at_levels (λ s. 2 ≢ s → 0 < cross (slope_of 2) (shift_of 2) (slope_of s) (shift_of s)) (λ apart. lit< tt) (λ apart. lit< tt) (λ apart. absurd (apart refl)) (λ apart. lit< tt) (λ apart. lit< tt) (λ apart. lit< tt))
    (at_levels (λ s. 3 ≢ s → 0 < cross (slope_of 3) (shift_of 3) (slope_of s) (shift_of s)) (λ apart. lit< tt) (λ apart. lit< tt) (λ apart. lit< tt) (λ apart. absurd (apart refl)) (λ apart. lit< tt) (λ apart. lit< tt))
    (at_levels (λ s. 4 ≢ s → 0 < cross (slope_of 4) (shift_of 4) (slope_of s) (shift_of s)) (λ apart. lit< tt) (λ apart. lit< tt) (λ apart. lit< tt) (λ apart. lit< tt) (λ apart. absurd (apart refl)) (λ apart. lit< tt))
    (at_levels (λ s. 5 ≢ s → 0 < cross (slope_of 5) (shift_of 5) (slope_of s) (shift_of s)) (λ apart. lit< tt) (λ apart. lit< tt) (λ apart. lit< tt) (λ apart. lit< tt) (λ apart. lit< tt) (λ apart. absurd (apart refl)))

-- ---- every choice of levels and columns

pub chosen_form : (columns levels : List ℕ) → IsChoice columns levels
    → IsCauchy (length levels) (chosen columns levels) (λ i. factor_of (get_or levels i 0)) (λ j. 1)
    (λ i. slope_of (get_or levels i 0)) (λ i. shift_of (get_or levels i 0)) (λ j. place_of (get_or columns j 0))
chosen_form columns levels choice =
    let same = choice.same_count in
    record {
      row_factor = λ i hi. (factor_positive (get_or levels i 0) (choice.each_level.below i hi), factor_lt (get_or levels i 0) (choice.each_level.below i hi));
      column_factor = λ j hj. (omega arith, omega arith);
      slope = λ i hi. slope_lt (get_or levels i 0) (choice.each_level.below i hi);
      shift = λ i hi. shift_lt (get_or levels i 0) (choice.each_level.below i hi);
      place = λ j hj. place_lt (get_or columns j 0);
      denominators = λ i j hi hj.
          form_denominator_positive (get_or columns j 0) (choice.each_column.below j (omega arith)) (get_or levels i 0) (choice.each_level.below i hi);
      rows = λ i k less hk.
          levels_apart (get_or levels i 0) (choice.each_level.below i (omega arith)) (get_or levels k 0) (choice.each_level.below k hk) (choice.each_level.distinct i k less hk);
      columns = λ j k less hk.
          xor_positive (place_of (get_or columns j 0)) (place_of (get_or columns k 0))
          (places_apart (get_or columns j 0) (get_or columns k 0) (choice.each_column.below j (omega arith)) (choice.each_column.below k (omega arith)) (choice.each_column.distinct j k less (omega arith)));
      entries = λ i j hi hj. entry_form (get_or columns j 0) (get_or levels i 0) (choice.each_level.below i hi);
    }

pub chosen_lt : (columns levels : List ℕ) → IsChoice columns levels → IsMatrix (length levels) (chosen columns levels)
chosen_lt columns levels choice i j hi hj =
    let form = chosen_form columns levels choice in
    let d = denominator_lt (slope_of (get_or levels i 0)) (shift_of (get_or levels i 0)) (place_of (get_or columns j 0)) (form.slope i hi) (form.shift i hi) (form.place j hj) in
    let value_lt = product_lt (product (factor_of (get_or levels i 0)) 1) (inverse (denominator (slope_of (get_or levels i 0)) (shift_of (get_or levels i 0)) (place_of (get_or columns j 0))))
    (product_lt (factor_of (get_or levels i 0)) 1 (form.row_factor i hi).1 (omega arith)) (inverse_lt _ (form.denominators i j hi hj) d) in
    omega (arith, form.entries i j hi hj, value_lt)

pub chosen_pivots : (columns levels : List ℕ) → IsChoice columns levels → IsEliminable (length levels) (chosen columns levels)
chosen_pivots columns levels choice =
    IsEliminable-cauchy (length levels) (chosen columns levels) _ _ _ _ _ (chosen_form columns levels choice)

-- a solution of the system, as one of the matrix, and back
pub solves_of : (columns levels : List ℕ) (given bytes : ℕ → ℕ) → length columns ≡ length levels → IsSolution columns levels given bytes → Solves (length levels) (chosen columns levels) given bytes
solves_of columns levels given bytes same solution i hi =
    ap (sum_below (λ j. product (chosen columns levels i j) (bytes j))) (sym same) ∙ solution.sums i hi

pub solution_of : (columns levels : List ℕ) (given bytes : ℕ → ℕ) → length columns ≡ length levels → IsVector (length levels) bytes → Solves (length levels) (chosen columns levels) given bytes
    → IsSolution columns levels given bytes
solution_of columns levels given bytes same are_bytes solved =
    record {
      are_bytes = λ j hj. are_bytes j (omega arith);
      sums = λ i hi. ap (sum_below (λ j. product (chosen columns levels i j) (bytes j))) same ∙ solved i hi;
    }

-- ---- exactly one solution

pub solution_exists : (columns levels : List ℕ) → IsChoice columns levels → (given : ℕ → ℕ) → ((i : ℕ) → i < length levels → given i < 256)
    → (bytes : ℕ → ℕ) × IsSolution columns levels given bytes
solution_exists columns levels choice given are_bytes =
    let some = some_solution (length levels) (chosen columns levels) given (chosen_lt columns levels choice) (chosen_pivots columns levels choice) are_bytes in
    (some.0, solution_of columns levels given some.0 choice.same_count some.1.0 some.1.1)

pub solution_only : (columns levels : List ℕ) → IsChoice columns levels → (given one other : ℕ → ℕ) → IsSolution columns levels given one → IsSolution columns levels given other
    → (j : ℕ) → j < length columns → one j ≡ other j
solution_only columns levels choice given one other first second j hj =
    only_solution (length levels) (chosen columns levels) given one other (chosen_lt columns levels choice) (chosen_pivots columns levels choice)
    (λ k hk. first.are_bytes k (omega (arith, choice.same_count))) (λ k hk. second.are_bytes k (omega (arith, choice.same_count)))
    (solves_of columns levels given one choice.same_count first) (solves_of columns levels given other choice.same_count second) j (omega (arith, choice.same_count))

-- an entry of row 2 to 5
pub entry_quotient : (c r : ℕ) → r < 6 → 2 ≤ r → entry_of r c ≡ quotient (bit_xor 1 (power (r - 1))) (bit_xor (inverse (power c)) (power (r - 1)))
unfolding entry_of
entry_quotient c =
    at_levels (λ r. 2 ≤ r → entry_of r c ≡ quotient (bit_xor 1 (power (r - 1))) (bit_xor (inverse (power c)) (power (r - 1))))
    (λ low. absurd (omega arith)) (λ low. absurd (omega arith)) (λ low. refl) (λ low. refl) (λ low. refl) (λ low. refl)

-- what the inverse makes of the levels is the solution
pub recovered_solution : (columns levels : List ℕ) → IsChoice columns levels → (z : ℕ → ℕ → ℕ) → IsMatrix (length levels) z
    → ((i : ℕ) → i < length levels → Solves (length levels) (chosen columns levels) (unit i) (z i))
    → (given bytes : ℕ → ℕ) → ((i : ℕ) → i < length columns → given i < 256)
    → ((j : ℕ) → j < length columns → bytes j ≡ sum_below (λ i. product (given i) (z i j)) (length columns)) → IsSolution columns levels given bytes
recovered_solution columns levels choice z hz units given bytes hg made =
    let same = choice.same_count in
    let given_lt : IsVector (length levels) given = λ i hi. hg i (omega arith) in
    let is : (j : ℕ) → j < length levels → bytes j ≡ sum_below (λ i. product (given i) (z i j)) (length levels) =
    λ j hj. made j (omega arith) ∙ ap (sum_below (λ i. product (given i) (z i j))) same in
    solution_of columns levels given bytes same
    (λ j hj. omega (arith, is j hj, superposed_lt (length levels) z given hz given_lt j hj))
    (λ i hi.
    sum_below-same (λ j. product (chosen columns levels i j) (bytes j)) (λ j. product (chosen columns levels i j) (sum_below (λ k. product (given k) (z k j)) (length levels))) (length levels)
    (λ j hj. ap (product (chosen columns levels i j)) (is j hj))
    ∙ superposed (length levels) (chosen columns levels) z given (chosen_lt columns levels choice) hz given_lt units i hi)

-- an entry is an element
pub entry_lt : (r c : ℕ) → r < 6 → c < 251 → entry_of r c < 256
entry_lt r c hr hc =
    let d = denominator_lt (slope_of r) (shift_of r) (place_of c) (slope_lt r hr) (shift_lt r hr) (place_lt c) in
    let value_lt = product_lt (product (factor_of r) 1) (inverse (denominator (slope_of r) (shift_of r) (place_of c)))
    (product_lt (factor_of r) 1 (factor_lt r hr) (omega arith)) (inverse_lt _ (form_denominator_positive c hc r hr) d) in
    omega (arith, entry_form c r hr, value_lt)
