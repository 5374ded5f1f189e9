-- Where two paths part.
use Rattle.std.specs.Prelude.{◌≡◌, ◌≢◌, ℕ, ◌<◌, ◌≤◌, List, length, slice_index}

-- two paths have the bytes before this place in common, and no more
pub record IsParting (one other : List ℕ) (place : ℕ) : Type 0 where
  pub within_one : place ≤ length one
  pub within_other : place ≤ length other
  pub shared : (k : ℕ) → k < place → slice_index one k ≡ slice_index other k
  pub apart : place < length one → place < length other → slice_index one place ≢ slice_index other place
