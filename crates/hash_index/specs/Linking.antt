-- Links: for each record of a list the number of the next one that is the same.
use Rattle.std.specs.Prelude.{◌≡◌, ℕ, ◌+◌, ◌*◌, ◌^◌, ◌<◌, List, [], ◌∷◌, length, slice_index, slice_index_or, true, false, Option}
use Rattle.std.specs.List.{cons_option}
use Rattle.std.specs.List.Sorted.{IsNonDecreasingBy, IsPermutation}
use Rattle.std.specs.Option.{option_map}
use Rattle.hash_index.specs.declared.links.Key.{Key}
use Rattle.hash_index.specs.Duplicates.{Spot, spot_in, same_spot}
use Rattle.hash_index.specs.Marking.{mark_of}

-- the order of keys: by mark, then by number
abbrev pub order_in : Key → ℕ
order_in key = key.mark * 2 ^ 32 + key.number

abbrev pub no_key : Key
no_key = record { mark = 0; number = 0 }

abbrev pub key_at : List Key → ℕ → Key
key_at keys place = slice_index_or keys place no_key

-- the key of a record of this number, where it has a mark
abbrev pub key_of : ℕ → Spot → Option Key
key_of number spot = option_map (λ (mark : ℕ). let key : Key = record { mark = mark; number = number } in key) (mark_of spot.kept)

-- the keys of records that are numbered from a number on
abbrev pub keys_from : ℕ → List Spot → List Key
keys_from number [] = []
keys_from number (spot ∷ spots) = cons_option (key_of number spot) (keys_from (number + 1) spots)

-- the keys of these records, in order
pub record AreKeys (spots : List Spot) (keys : List Key) : Type 0 where
  pub same : IsPermutation (keys_from 0 spots) keys
  pub rise : IsNonDecreasingBy order_in keys
  pub few : length spots < 2 ^ 32

-- none behind a record, and before an end, is the same
abbrev pub NoneSame : List Spot → ℕ → ℕ → Type 0
NoneSame spots number end = (later : ℕ) → number < later → later < end → same_spot (spot_in spots number) (spot_in spots later) ≡ false

-- the first one behind a record that is the same
pub record IsNextSame (spots : List Spot) (number link : ℕ) : Type 0 where
  pub later : number < link
  pub within : link < length spots
  pub same : same_spot (spot_in spots number) (spot_in spots link) ≡ true
  pub none : NoneSame spots number link

-- a link leads to the next one that is the same, and is 0 where none is
pub record IsLink (spots : List Spot) (number link : ℕ) : Type 0 where
  pub none : link ≡ 0 → NoneSame spots number (length spots)
  pub some : 0 < link → IsNextSame spots number link

abbrev pub link_at : List ℕ → ℕ → ℕ
link_at links number = slice_index links number

-- each record has its link
pub record AreLinks (spots : List Spot) (links : List ℕ) : Type 0 where
  pub count : length links ≡ length spots
  pub each : (number : ℕ) → number < length spots → IsLink spots number (link_at links number)
