-- The mark of a record: a number that the hashes of its blocks determine.
use Rattle.std.specs.Prelude.{ℕ, ◌+◌, ◌*◌, ◌/◌, ◌%◌, ◌^◌, ◌==◌, List, [], ◌∷◌, if◌then◌else◌, Option, None, Some}
use Rattle.std.specs.Int.{w128, from_le_bytes}
use Rattle.block_hash.specs.declared.Digest16.{Digest16}
use Rattle.file_table.specs.Table.{Record}
use Rattle.hash_index.specs.declared.marks.TheConstants.{FACTOR}
use Rattle.hash_index.specs.Duplicates.{hashes_of}

-- a mark after one more hash
unfoldable pub mixed_with : ℕ → Digest16 → ℕ
mixed_with mark digest = (mark * FACTOR % 2 ^ 64 + from_le_bytes w128 digest.0 / 2 ^ 64) % 2 ^ 64

-- the mark after these hashes; none where one of them is missing
abbrev pub mark_from : ℕ → List (Option Digest16) → Option ℕ
mark_from mark [] = Some mark
mark_from mark (None ∷ hashes) = None
mark_from mark (Some digest ∷ hashes) = mark_from (mixed_with mark digest) hashes

abbrev pub mark_in : List (Option Digest16) → Option ℕ
mark_in hashes = mark_from 0 hashes

-- the mark of a record that has content, and all its hashes
abbrev pub mark_of : Record → Option ℕ
mark_of kept = if kept.meta.size == 0 then None else mark_in (hashes_of kept.blocks)
