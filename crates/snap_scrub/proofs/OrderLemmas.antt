-- The order of last check and number, and what is old, as one number.
use Rattle.std.proofs.Common.{◌≡◌, ℕ, ◌+◌, ◌-◌, ◌*◌, ◌^◌, ◌<◌, arith}
use Rattle.std.specs.Prelude.{◌==◌, ◌||◌, ◌&&◌, nat_lt, nat_le}
use Rattle.std.proofs.lemmas.Bool.Decides.{nat_tests}

-- the order of two stripes, by their last checks and numbers
pub before_in_order : (last_a last_b a b : ℕ) → a < 2 ^ 32 → b < 2 ^ 32 → (nat_lt last_a last_b || (last_a == last_b && nat_lt a b)) ≡ nat_lt (last_a * 2 ^ 32 + a) (last_b * 2 ^ 32 + b)
before_in_order last_a last_b a b in_a in_b = grind (arith, nat_tests)

-- a last check is old where its place comes before the first recent one
pub old_in_order : (last stripe days now : ℕ) → stripe < 2 ^ 32 → nat_le (last + 86400 * days) now ≡ nat_lt (last * 2 ^ 32 + stripe) (((now + 1) - 86400 * days) * 2 ^ 32)
old_in_order last stripe days now within = grind (arith, nat_tests)
