-- Sums of elements over an index.
use Rattle.std.proofs.Common.{◌≡◌, ℕ, zero, suc, ◌<◌, refl, sym, ap, ◌∙◌, arith}
use Rattle.std.specs.Int.Bits.{bit_xor}
use Rattle.std.proofs.lemmas.Nat.{xor_lt}
use Rattle.gf256.specs.Field.{sum_below, product}
use Rattle.gf256.proofs.Theorems.{product_of_sum, product-zero, xor_exchange}

-- sums of equal terms
pub sum_below-same : (f g : ℕ → ℕ) (n : ℕ) → ((j : ℕ) → j < n → f j ≡ g j) → sum_below f n ≡ sum_below g n
sum_below-same f g zero same = refl
sum_below-same f g (suc n) same =
    ap (λ (x : ℕ). bit_xor x (f n)) (sum_below-same f g n (λ j h. same j (omega arith))) ∙ ap (bit_xor (sum_below g n)) (same n (omega arith))

-- a sum of sums
pub sum_below-xor : (f g : ℕ → ℕ) (n : ℕ) → sum_below (λ j. bit_xor (f j) (g j)) n ≡ bit_xor (sum_below f n) (sum_below g n)
sum_below-xor f g zero = refl
sum_below-xor f g (suc n) =
    ap (λ (x : ℕ). bit_xor x (bit_xor (f n) (g n))) (sum_below-xor f g n) ∙ xor_exchange (sum_below f n) (sum_below g n) (f n) (g n)

-- a common factor
pub sum_below-product : (a : ℕ) (f : ℕ → ℕ) (n : ℕ) → sum_below (λ j. product a (f j)) n ≡ product a (sum_below f n)
sum_below-product a f zero = sym (product-zero a)
sum_below-product a f (suc n) =
    ap (λ (x : ℕ). bit_xor x (product a (f n))) (sum_below-product a f n) ∙ sym (product_of_sum a (sum_below f n) (f n))

pub sum_below-lt : (f : ℕ → ℕ) (n : ℕ) → ((j : ℕ) → j < n → f j < 256) → sum_below f n < 256
sum_below-lt f zero small = omega arith
sum_below-lt f (suc n) small = xor_lt 8 (sum_below f n) (f n) (sum_below-lt f n (λ j h. small j (omega arith))) (small n (omega arith))

-- a sum of zeros
pub sum_below-zeros : (f : ℕ → ℕ) (n : ℕ) → ((j : ℕ) → j < n → f j ≡ 0) → sum_below f n ≡ 0
sum_below-zeros f zero none = refl
sum_below-zeros f (suc n) none =
    ap (λ (x : ℕ). bit_xor x (f n)) (sum_below-zeros f n (λ j h. none j (omega arith))) ∙ ap (bit_xor 0) (none n (omega arith))

-- the order of two sums
pub sum_below-swap : (f : ℕ → ℕ → ℕ) (m n : ℕ) → sum_below (λ i. sum_below (f i) n) m ≡ sum_below (λ j. sum_below (λ i. f i j) m) n
sum_below-swap f zero n = sym (sum_below-zeros (λ j. sum_below (λ i. f i j) 0) n (λ j h. refl))
sum_below-swap f (suc m) n =
    ap (λ (x : ℕ). bit_xor x (sum_below (f m) n)) (sum_below-swap f m n)
    ∙ sym (sum_below-xor (λ j. sum_below (λ i. f i j) m) (f m) n)
