-- What is kept of a cell.
use Rattle.std.specs.Prelude.{ℕ, List, Option}
use Rattle.block_hash.specs.declared.Digest16.{Digest16}
use Rattle.stripe_reader.specs.declared.slot.CellRead.{CellRead}

-- what was found, the digest of the whole block if it came, and the block padded with zeros
pub record SlotValue : Type 0 where
  pub cell : CellRead
  pub digest : Option Digest16
  pub block : List ℕ
