-- Whether a recorded hash is that of the block that a slot keeps.
use Rattle.std.specs.Prelude.{List, ℕ, bytes_eq, Bool, true, false, Option, None, Some}
use Rattle.block_hash.specs.Hash.{hash}
use Rattle.block_hash.specs.declared.Digest16.{Digest16}
use Rattle.block_hash.specs.declared.Kind.{Kind}
use Rattle.file_table.specs.declared.shape.Shape.{Shape}
use Rattle.stripe_reader.specs.SlotValue.{SlotValue}

-- the digest of bytes, as a table of this shape records it
abbrev pub hashed : Shape → List ℕ → Digest16
hashed shape bytes = record { 0 = hash shape.kind shape.seed bytes }

-- the digest that a slot keeps of its block, by this kind: it keeps that of its table's kind, which each recorded hash is of
abbrev pub digest_by : Kind → SlotValue → Option Digest16
digest_by kind slot = slot.digest

-- the recorded digest, where there is one, is the one that came
abbrev pub matches_digest : Option Digest16 → Option Digest16 → Bool
matches_digest None came = true
matches_digest (Some recorded) None = false
matches_digest (Some recorded) (Some came) = bytes_eq recorded.0 came.0

-- the recorded hash, where there is one, is of this kind, and that of the block that came
abbrev pub agrees : Kind → Option Digest16 → SlotValue → Bool
agrees kind recorded slot = matches_digest recorded (digest_by kind slot)
