-- Vectors of 32 bytes, lane by lane, and the tables that they are looked up in.
use Rattle.std.specs.Prelude.{◌≡◌, ℕ, ◌+◌, ◌*◌, ◌%◌, ◌<◌, ◌≤◌, List, [], length, slice_index, slice_index_or}
use Rattle.gf256.specs.Field.{product}

-- v has 32 lanes, and lane k holds f k
pub record HasLanes (v : List ℕ) (f : ℕ → ℕ) : Type 0 where
  pub long : length v ≡ 32
  pub each : (k : ℕ) → k < 32 → slice_index v k ≡ f k

-- the products of a coefficient with the low half and with the high half of a byte, each table twice, so that either
-- half of the lanes has its own
pub record AreLaneTables (coefficient : ℕ) (tables : List (List ℕ)) : Type 0 where
  pub low : HasLanes (slice_index_or tables 0 []) (λ k. product coefficient (k % 16))
  pub high : HasLanes (slice_index_or tables 1 []) (λ k. product coefficient (16 * (k % 16)))

-- so many values stand from start on, and all else is as it was
pub record StoresFrom (start width : ℕ) (values : ℕ → ℕ) (old new : List ℕ) : Type 0 where
  pub same_length : length new ≡ length old
  pub within : (k : ℕ) → k < width → slice_index new (start + k) ≡ values k
  pub before : (k : ℕ) → k < start → slice_index new k ≡ slice_index old k
  pub after : (k : ℕ) → start + width ≤ k → slice_index new k ≡ slice_index old k
