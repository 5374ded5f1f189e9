-- The least number that a finite set does not hold.
use Rattle.std.specs.Prelude.{◌≡◌, ℕ, zero, suc, ◌+◌, ◌<◌, true, false, if◌then◌else◌}
use Rattle.std.specs.Ordering.{nat_cmp}
use Rattle.std.specs.FinSet.{FinSet, contains, len}

-- the first number from k on, of n numbers, that the set does not hold, or k + n where it holds them all
abbrev pub free_from : FinSet nat_cmp → ℕ → ℕ → ℕ
free_from taken k zero = k
free_from taken k (suc n) = if contains taken k then free_from taken (k + 1) n else k

-- the least number that the set does not hold. A set of n numbers lacks one of the first n + 1
unfoldable pub lowest_free : FinSet nat_cmp → ℕ
lowest_free taken = free_from taken 0 (len taken)

-- the set does not hold p, and holds every number below it
pub record IsLowestFree (taken : FinSet nat_cmp) (p : ℕ) : Type 0 where
  pub free : contains taken p ≡ false
  pub below : (q : ℕ) → q < p → contains taken q ≡ true
