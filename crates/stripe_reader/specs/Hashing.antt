-- The digests of blocks, which are given to their slots after all blocks of a column were read.
use Rattle.std.specs.Prelude.{◌≡◌, ℕ, ◌≤◌, List, length, take, Option, None, Some, slice_index_or}
use Rattle.block_hash.specs.Hash.{hash}
use Rattle.block_hash.specs.declared.Digest16.{Digest16}
use Rattle.file_table.specs.declared.shape.Shape.{Shape}
use Rattle.stripe_reader.specs.declared.slot.Found.{Found}
use Rattle.stripe_reader.specs.declared.slot.Found.TheVariants as found
use Rattle.stripe_reader.specs.SlotValue.{SlotValue}
use Rattle.stripe_reader.specs.WindowValue.{no_slot}

-- the hash of so many bytes of a block, where the whole block was found, else none
abbrev pub digest_in : Shape → Found → ℕ → List ℕ → Option Digest16
digest_in shape found.Empty got block = None
digest_in shape found.Bytes got block = Some (record { 0 = hash shape.kind shape.seed (take got block) })
digest_in shape found.Missing got block = None
digest_in shape found.Short got block = None
digest_in shape found.Unread got block = None

-- the bytes of a block that came
abbrev pub found_bytes : SlotValue → List ℕ
found_bytes slot = take slot.cell.got slot.block

-- a slot with the digest that its cell has
abbrev pub hashed : Shape → SlotValue → SlotValue
hashed shape slot = record slot { digest = digest_in shape slot.cell.found slot.cell.got slot.block }

-- a slot that a cell was read into, and that has no digest yet
pub record IsUnhashed (block_size : ℕ) (slot : SlotValue) : Type 0 where
  pub digest : slot.digest ≡ None
  pub got : slot.cell.got ≤ block_size
  pub block : length slot.block ≡ block_size

-- the slot of a number
abbrev pub slot_in : List SlotValue → ℕ → SlotValue
slot_in slots i = slice_index_or slots i no_slot
