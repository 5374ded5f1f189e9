-- The digests of the slots of several lanes, of each of which the first so many slots were read.
use Rattle.std.specs.Prelude.{◌≡◌, ◌⊎◌, ℕ, ◌+◌, ◌*◌, ◌/◌, ◌%◌, ◌<◌, ◌≤◌, List, [], length, Option, None, slice_index, slice_index_or}
use Rattle.block_hash.specs.declared.Digest16.{Digest16}
use Rattle.file_table.specs.declared.shape.Shape.{Shape}
use Rattle.stripe_reader.specs.Hashing.{hashed, slot_in}
use Rattle.stripe_reader.specs.SlotValue.{SlotValue}
use Rattle.stripe_reader.specs.declared.batch.Batch.{Batch}
use Rattle.stripe_reader.specs.declared.slot.Found.TheVariants as found

-- the lane of a number; and the slot of a number, where the first so many of each lane are counted, lane after lane
abbrev pub lane_in : List (List SlotValue) → ℕ → List SlotValue
lane_in lanes k = slice_index_or lanes k []

abbrev pub numbered : List (List SlotValue) → ℕ → ℕ → SlotValue
numbered lanes count at = slot_in (lane_in lanes (at / count)) (at % count)

-- there is a slot of this number
pub record IsNumber (count : ℕ) (lanes : List (List SlotValue)) (at : ℕ) : Type 0 where
  pub within : at < length lanes * count
  pub lane : at / count < length lanes
  pub front : at % count < count
  pub slot : at % count < length (lane_in lanes (at / count))

-- one of the numbers from one on and before another, whose slot has a whole block
pub record IsWholeIn (count : ℕ) (lanes : List (List SlotValue)) (from end at : ℕ) : Type 0 where
  pub number : IsNumber count lanes at
  pub whole : (numbered lanes count at).cell.found ≡ found.Bytes
  pub later : from ≤ at
  pub before : at < end

-- a batch with room, each of whose slots, if there are some, has a whole block
pub record IsBatch (count : ℕ) (lanes : List (List SlotValue)) (from end : ℕ) (batch : Batch) : Type 0 where
  pub long : length batch.numbers ≡ 8
  pub room : batch.found < 8
  pub whole : (k : ℕ) → k < 8 → 0 < batch.found → IsWholeIn count lanes from end (slice_index batch.numbers k)

-- the digest that the slot of a number has once it is hashed
abbrev pub digest_at : Shape → ℕ → List (List SlotValue) → ℕ → Option Digest16
digest_at shape count lanes at = (hashed shape (numbered lanes count at)).digest

-- these are the digests of the slots from a number on
abbrev pub AreDigests : Shape → ℕ → List (List SlotValue) → ℕ → List (Option Digest16) → Type 0
AreDigests shape count lanes start digests = (k : ℕ) (other : Option Digest16) → k < length digests →
    slice_index_or digests k other ≡ digest_at shape count lanes (start + k)

-- some of the digests were made, and for the others there is none yet
abbrev pub AreSomeDigests : Shape → ℕ → List (List SlotValue) → ℕ → List (Option Digest16) → Type 0
AreSomeDigests shape count lanes start digests = (k : ℕ) (other : Option Digest16) → k < length digests →
    (slice_index_or digests k other ≡ None) ⊎ (slice_index_or digests k other ≡ digest_at shape count lanes (start + k))

-- these are the digests of slots
abbrev pub AreSlotDigests : Shape → List SlotValue → List (Option Digest16) → Type 0
AreSlotDigests shape slots digests = (i : ℕ) (other : Option Digest16) → i < length digests →
    slice_index_or digests i other ≡ (hashed shape (slot_in slots i)).digest
