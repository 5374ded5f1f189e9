-- The places that were touched, as a vault's replay keeps them.
use Rattle.std.specs.Prelude.{ℕ, List, map, reverse, Bool, ◌&&◌, nat_le, nat_lt}
use Rattle.disk_memory.specs.declared.replay.Range.{Range}

abbrev pub places_of : Range → ℕ × ℕ
places_of range = (range.from, range.to)

-- the latest comes first
abbrev pub touched_by : List Range → List (ℕ × ℕ)
touched_by ranges = reverse (map places_of ranges)

-- the place is in the range
abbrev pub holds_place : Range → ℕ → Bool
holds_place range place = nat_le range.from place && nat_lt place range.to
