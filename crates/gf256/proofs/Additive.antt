-- Maps that keep sums. Such a map is known from its values at 1, 2, 4 and so on, since each number is a sum of these.
use Rattle.std.proofs.Common.{◌≡◌, ℕ, zero, suc, ◌+◌, ◌-◌, ◌*◌, ◌%◌, ◌^◌, ◌<◌, ◌≤◌, ◌⊎◌, inl, inr, refl, sym, ap, ◌∙◌, add-zero, zero-add, pow-suc, zero-mul, one-mul, arith}
use Rattle.std.specs.Int.{bit_at}
use Rattle.std.specs.Int.Bits.{bit_xor, xor_assoc, xor_zero_r, xor_self, xor_block}
use Rattle.std.proofs.lemmas.Nat.{xor_comm, xor_lt}
use Rattle.std.proofs.lemmas.Nat.Bits.{bit_at_xor, bit_at-lt}
use Rattle.std.proofs.lemmas.Bool.{cases_lt}
use Rattle.std.proofs.Math.Pow.{pow_pos}
use Rattle.gf256.specs.Field.{sum_below}

-- a map keeps sums
abbrev pub IsAdditive : (ℕ → ℕ) → Type 0
IsAdditive f = (a b : ℕ) → f (bit_xor a b) ≡ bit_xor (f a) (f b)

-- a sum of two sums, by the first parts and the second parts
pub xor_exchange : (a b c d : ℕ) → bit_xor (bit_xor a b) (bit_xor c d) ≡ bit_xor (bit_xor a c) (bit_xor b d)
xor_exchange a b c d =
    xor_assoc a b (bit_xor c d)
    ∙ ap (λ (x : ℕ). bit_xor a x) (sym (xor_assoc b c d) ∙ ap (λ (x : ℕ). bit_xor x d) (xor_comm b c) ∙ xor_assoc c b d)
    ∙ sym (xor_assoc a c (bit_xor b d))

-- the sum of two maps that keep sums keeps sums
pub IsAdditive-xor : (f g : ℕ → ℕ) → IsAdditive f → IsAdditive g → IsAdditive (λ a. bit_xor (f a) (g a))
IsAdditive-xor f g hf hg a b =
    ap (λ (x : ℕ). bit_xor x (g (bit_xor a b))) (hf a b)
    ∙ ap (λ (x : ℕ). bit_xor (bit_xor (f a) (f b)) x) (hg a b)
    ∙ xor_exchange (f a) (f b) (g a) (g b)

-- one map after another
pub IsAdditive-after : (f g : ℕ → ℕ) → IsAdditive f → IsAdditive g → IsAdditive (λ a. f (g a))
IsAdditive-after f g hf hg a b = ap f (hg a b) ∙ hf (g a) (g b)

-- 0 goes to 0
pub additive_zero : (f : ℕ → ℕ) → IsAdditive f → f 0 ≡ 0
additive_zero f hf = ap f (sym (xor_self 0)) ∙ hf 0 0 ∙ xor_self (f 0)

-- a sum of maps that keep sums
pub IsAdditive-sum_below : (f : ℕ → ℕ → ℕ) → ((i : ℕ) → IsAdditive (λ a. f a i)) → (n : ℕ) → IsAdditive (λ a. sum_below (f a) n)
IsAdditive-sum_below f hf zero a b = refl
IsAdditive-sum_below f hf (suc n) a b =
    IsAdditive-xor (λ x. sum_below (f x) n) (λ x. f x n) (IsAdditive-sum_below f hf n) (hf n) a b

-- a number below 2 is 0 or 1
pub zero_or_one : (x : ℕ) → x < 2 → (x ≡ 0) ⊎ (x ≡ 1)
zero_or_one x h = elim (cases_lt x 1) [ inl below ↦ inl (omega arith) | inr above ↦ inr (omega arith) ]

-- a times a bit, as a map of a
pub IsAdditive-times_bit : (bit : ℕ) → bit < 2 → IsAdditive (λ a. bit * a)
IsAdditive-times_bit bit h a b =
    elim (zero_or_one bit h) [
      | inl none ↦ rw none (simp zero-mul)
      | inr one ↦ rw one (simp one-mul)
    ]

-- a number times the sum of two bits
times_bits : (x y m : ℕ) → x < 2 → y < 2 → (x + y) % 2 * m ≡ bit_xor (x * m) (y * m)
times_bits x y m hx hy =
    elim (zero_or_one x hx) [
      | inl no_x ↦ elim (zero_or_one y hy) [
        | inl no_y ↦ rw (no_x, no_y) (simp zero-mul)
        | inr one_y ↦ rw (no_x, one_y) (simp (zero-mul, one-mul))
      ]
      | inr one_x ↦ elim (zero_or_one y hy) [
        | inl no_y ↦ rw (one_x, no_y) (simp (zero-mul, one-mul, xor_zero_r))
        | inr one_y ↦ rw (one_x, one_y) (simp (zero-mul, one-mul, xor_self))
      ]
    ]

-- a constant times the coefficient i
pub IsAdditive-bit_at : (i m : ℕ) → IsAdditive (λ a. bit_at a i * m)
IsAdditive-bit_at i m a b =
    ap (λ (x : ℕ). x * m) (bit_at_xor a b i) ∙ times_bits (bit_at a i) (bit_at b i) m (bit_at-lt a i) (bit_at-lt b i)

-- a times a power of x
pub IsAdditive-shift : (k : ℕ) → IsAdditive (λ a. a * 2 ^ k)
IsAdditive-shift k a b =
    let blocks = xor_block k a b 0 0 (pow_pos k) (pow_pos k) in
    sym (simp add-zero at blocks)

-- a number is the sum of its highest power of 2 and the rest
pub top_bit : (w a : ℕ) → 2 ^ w ≤ a → a - 2 ^ w < 2 ^ w → a ≡ bit_xor (a - 2 ^ w) (2 ^ w)
top_bit w a above rest =
    let blocks = xor_block w 0 1 (a - 2 ^ w) 0 rest (pow_pos w) in
    let tidy : bit_xor (a - 2 ^ w) (2 ^ w) ≡ 2 ^ w + (a - 2 ^ w) = simp (zero-mul, one-mul, add-zero, zero-add, xor_zero_r) at blocks in
    omega arith

-- two maps that keep sums agree below 2 ^ w where they agree at 1, 2, 4 up to 2 ^ (w - 1)
pub agree_below : (f g : ℕ → ℕ) → IsAdditive f → IsAdditive g → (w : ℕ) → ((i : ℕ) → i < w → f (2 ^ i) ≡ g (2 ^ i)) → (a : ℕ) → a < 2 ^ w → f a ≡ g a
agree_below f g hf hg zero basis a h =
    let none : a ≡ 0 = omega arith in
    ap f none ∙ additive_zero f hf ∙ sym (additive_zero g hg) ∙ ap g (sym none)
agree_below f g hf hg (suc w) basis a h =
    elim (cases_lt a (2 ^ w)) [
      | inl below ↦ agree_below f g hf hg w (λ i hi. basis i (omega arith)) a below
      | inr above ↦
          let double : 2 ^ suc w ≡ 2 ^ w * 2 = pow-suc 2 w in
          let rest : a - 2 ^ w < 2 ^ w = omega arith in
          let parts : a ≡ bit_xor (a - 2 ^ w) (2 ^ w) = top_bit w a above rest in
          ap f parts ∙ hf (a - 2 ^ w) (2 ^ w)
          ∙ ap (λ (x : ℕ). bit_xor x (f (2 ^ w))) (agree_below f g hf hg w (λ i hi. basis i (omega arith)) (a - 2 ^ w) rest)
          ∙ ap (λ (x : ℕ). bit_xor (g (a - 2 ^ w)) x) (basis w (omega arith))
          ∙ sym (hg (a - 2 ^ w) (2 ^ w)) ∙ ap g (sym parts)
    ]

-- a map that keeps sums stays below 2 ^ k where it does so at 1, 2, 4 up to 2 ^ (w - 1)
pub stays_below : (f : ℕ → ℕ) → IsAdditive f → (k w : ℕ) → ((i : ℕ) → i < w → f (2 ^ i) < 2 ^ k) → (a : ℕ) → a < 2 ^ w → f a < 2 ^ k
stays_below f hf k zero basis a h =
    let none : a ≡ 0 = omega arith in
    let at_zero : f a ≡ 0 = ap f none ∙ additive_zero f hf in
    omega (arith, pow_pos k)
stays_below f hf k (suc w) basis a h =
    elim (cases_lt a (2 ^ w)) [
      | inl below ↦ stays_below f hf k w (λ i hi. basis i (omega arith)) a below
      | inr above ↦
          let double : 2 ^ suc w ≡ 2 ^ w * 2 = pow-suc 2 w in
          let rest : a - 2 ^ w < 2 ^ w = omega arith in
          let parts : f a ≡ bit_xor (f (a - 2 ^ w)) (f (2 ^ w)) = ap f (top_bit w a above rest) ∙ hf (a - 2 ^ w) (2 ^ w) in
          let bound : bit_xor (f (a - 2 ^ w)) (f (2 ^ w)) < 2 ^ k =
          xor_lt k _ _ (stays_below f hf k w (λ i hi. basis i (omega arith)) (a - 2 ^ w) rest) (basis w (omega arith)) in
          omega arith
    ]
