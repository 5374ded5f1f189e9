-- The field of 256 elements. A polynomial over GF(2) is a number, whose bit i is the coefficient of x^i.
-- The elements are the polynomials of degree below 8, the numbers below 256.
use Rattle.std.specs.Prelude.{Bool, ℕ, zero, suc, ◌+◌, ◌*◌, ◌^◌, ◌==◌, bit_xor, if◌then◌else◌}
use Rattle.std.specs.Int.{bit_at}

-- the sum of two polynomials: their coefficients added modulo 2
abbrev pub field_sum : ℕ → ℕ → ℕ
field_sum a b = bit_xor a b

-- the sum of f 0, f 1 and so on up to f (n - 1)
abbrev pub sum_below : (ℕ → ℕ) → ℕ → ℕ
sum_below f zero = 0
sum_below f (suc n) = field_sum (sum_below f n) (f n)

-- x^8 + x^4 + x^3 + x^2 + 1
abbrev pub modulus : ℕ
modulus = 0x11d

-- the product of a polynomial a with a polynomial b of degree below 8, without carries: the sum of a times x^i over the
-- coefficients i of b
unfoldable pub carryless_product : ℕ → ℕ → ℕ
carryless_product a b = sum_below (λ i. bit_at b i * (a * 2 ^ i)) 8

-- the long division of a by the modulus, from the coefficient of x^(7 + n) down to that of x^8: wherever there is one,
-- the modulus times a power of x is added, which clears it
abbrev pub divided : ℕ → ℕ → ℕ
divided zero a = a
divided (suc n) a = divided n (field_sum a (bit_at a (8 + n) * (modulus * 2 ^ n)))

-- what a polynomial of degree below 15 leaves when it is divided by the modulus
unfoldable pub remainder : ℕ → ℕ
remainder a = divided 7 a

-- the product of two elements
unfoldable pub product : ℕ → ℕ → ℕ
product a b = remainder (carryless_product a b)

-- 2 to the n
unfoldable pub power : ℕ → ℕ
power zero = 1
power (suc n) = product 2 (power n)

-- the first number from k on, of n numbers, that passes the test, or k + n where none does
abbrev pub first_from : (ℕ → Bool) → ℕ → ℕ → ℕ
first_from test k zero = k
first_from test k (suc n) = if test k then k else first_from test (k + 1) n

-- the element whose product with a is 1. There is one for every element but 0
unfoldable pub inverse : ℕ → ℕ
inverse a = first_from (λ b. product a b == 1) 0 256

-- the element whose product with b is a, where b isn't 0
unfoldable pub quotient : ℕ → ℕ → ℕ
quotient a b = product a (inverse b)
