-- The pairs of a list of records that are still to come, after one of them.
use Rattle.std.specs.Prelude.{◌≡◌, ◌≢◌, ℕ, ◌+◌, ◌<◌, ◌≤◌, List, [], ◌∷◌, ◌++◌, drop, map, length, Option, None, Some}
use Rattle.std.specs.List.{filter}
use Rattle.hash_index.specs.declared.pair.Pair.{Pair}
use Rattle.hash_index.specs.Duplicates.{Spot, spot_in, same_spot, pair_of, pairs_among}
use Rattle.hash_index.specs.Linking.{link_at}

-- those of the first record with the ones behind the other, then those of later records
abbrev pub pairs_left : List Spot → ℕ → ℕ → List Pair
pairs_left spots first other =
    map (pair_of (spot_in spots first)) (filter (same_spot (spot_in spots first)) (drop (other + 1) spots)) ++ pairs_among (drop (first + 1) spots)

-- the head of what was left is given, and the tail stays; nothing is given exactly where nothing was left
abbrev pub Gives : List Pair → Option Pair → List Pair → Type 0
Gives old None new = (old ≡ []) × (new ≡ [])
Gives old (Some pair) new = old ≡ pair ∷ new

-- no record between two numbers has a link
abbrev pub NoneLinked : List ℕ → ℕ → ℕ → Type 0
NoneLinked links from end = (number : ℕ) → from ≤ number → number < end → link_at links number ≡ 0

-- the first record from a number on that has a link
abbrev pub IsNextLinked : List ℕ → ℕ → Option ℕ → Type 0
IsNextLinked links from None = NoneLinked links from (length links)
IsNextLinked links from (Some number) =
    (from ≤ number) × (number < length links) × (link_at links number ≢ 0) × NoneLinked links from number
