-- The row of a stripe that was read into a window.
use Rattle.std.specs.Prelude.{ℕ, List, [], map, take, slice_index_or, Option}
use Rattle.block_hash.specs.declared.Digest16.{Digest16}
use Rattle.stripe_reader.specs.declared.slot.Found.{Found}
use Rattle.stripe_reader.specs.declared.slot.Found.TheVariants as found
use Rattle.stripe_reader.specs.SlotValue.{SlotValue}
use Rattle.stripe_reader.specs.WindowValue.{WindowValue, no_slot}

-- the bytes that came, where the whole block came, else none
abbrev pub bytes_found : Found → ℕ → List ℕ → List ℕ
bytes_found found.Empty got block = []
bytes_found found.Bytes got block = take got block
bytes_found found.Missing got block = []
bytes_found found.Short got block = []
bytes_found found.Unread got block = []

-- the bytes of a cell, without the zeros behind them
abbrev pub bytes_of : SlotValue → List ℕ
bytes_of slot = bytes_found slot.cell.found slot.cell.got slot.block

-- the bytes of the cell of a lane, by the number of the stripe among those that were read
abbrev pub bytes_in : ℕ → List SlotValue → List ℕ
bytes_in i slots = bytes_of (slice_index_or slots i no_slot)

-- the row of a stripe, by its number among those that were read: the bytes of its cells, column by column
abbrev pub row_at : WindowValue → ℕ → List (List ℕ)
row_at window i = map (bytes_in i) window.lanes

-- the digest of the cell of a lane, and those of the cells of a stripe, column by column
abbrev pub digest_in : ℕ → List SlotValue → Option Digest16
digest_in i slots = (slice_index_or slots i no_slot).digest

abbrev pub digests_at : WindowValue → ℕ → List (Option Digest16)
digests_at window i = map (digest_in i) window.lanes
