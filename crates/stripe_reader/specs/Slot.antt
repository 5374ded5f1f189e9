-- What a slot keeps of a reading.
use Rattle.std.specs.Prelude.{ℕ, List, length, replicate, count_by, Bool, true, false, Option, None, Some}
use Rattle.block_hash.specs.Hash.{hash}
use Rattle.disk_model.specs.Bytes.{resized}
use Rattle.disk_model.specs.declared.meta.Meta.{Meta}
use Rattle.file_table.specs.declared.shape.Shape.{Shape}
use Rattle.stripe_reader.specs.declared.slot.Found.{Found}
use Rattle.stripe_reader.specs.declared.slot.Found.TheVariants as found
use Rattle.stripe_reader.specs.Reading.{CellReading, NoBlock, Nowhere, Beyond, Unread, Gone, Part, Whole}
use Rattle.stripe_reader.specs.SlotValue.{SlotValue}

-- a slot without the whole block: its block is all zeros
abbrev pub slot_without : ℕ → Found → ℕ → Option Meta → SlotValue
slot_without block_size what got seen = record { cell = record { found = what; got = got; seen = seen }; digest = None; block = replicate block_size 0 }

-- a slot with the whole block, padded with zeros, and without a digest
abbrev pub slot_unhashed : ℕ → Meta → List ℕ → SlotValue
slot_unhashed block_size seen bytes = record {
  cell = record { found = found.Bytes; got = length bytes; seen = Some seen };
  digest = None;
  block = resized bytes block_size;
}

-- a slot with the whole block, and with the digest of its bytes at its real length
abbrev pub slot_with : Shape → Meta → List ℕ → SlotValue
slot_with shape seen bytes = record (slot_unhashed shape.block_size seen bytes) {
  digest = Some (record { 0 = hash shape.kind shape.seed bytes });
}

-- a slot that is given the bytes of its block: padded with zeros and without a digest; what was seen of the file stays
abbrev pub slot_given : ℕ → List ℕ → SlotValue → SlotValue
slot_given block_size bytes slot = record {
  cell = record { found = found.Bytes; got = length bytes; seen = slot.cell.seen };
  digest = None;
  block = resized bytes block_size;
}

-- what a slot keeps
abbrev pub kept : Shape → CellReading → SlotValue
kept shape NoBlock = slot_without shape.block_size found.Empty 0 None
kept shape Nowhere = slot_without shape.block_size found.Missing 0 None
kept shape Beyond = slot_without shape.block_size found.Short 0 None
kept shape (Unread seen) = slot_without shape.block_size found.Unread 0 seen
kept shape (Gone seen) = slot_without shape.block_size found.Missing 0 seen
kept shape (Part seen got) = slot_without shape.block_size found.Short got (Some seen)
kept shape (Whole seen bytes) = slot_with shape seen bytes

-- the folder failed
abbrev pub is_unread : Found → Bool
is_unread found.Empty = false
is_unread found.Bytes = false
is_unread found.Missing = false
is_unread found.Short = false
is_unread found.Unread = true

-- how many of these have a slot that could not be read
abbrev pub count_unread : {A : Type 0} → (A → SlotValue) → List A → ℕ
count_unread slot those = count_by (λ one. is_unread (slot one).cell.found) those
