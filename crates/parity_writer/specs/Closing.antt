-- Stripes that are closed by the rows that were read of them, and what they leave of a table, a snapshot and what is
-- changed from outside.
use Rattle.std.specs.Prelude.{ℕ, ◌==◌, nat_lt, List, [], ◌∷◌, Bool, false, if◌then◌else◌, Option}
use Rattle.block_hash.specs.declared.Digest16.{Digest16}
use Rattle.file_table.specs.Cells.{stripe_view, closed_at}
use Rattle.file_table.specs.Table.{TableValue}
use Rattle.file_table.specs.declared.info.Info.{Info}
use Rattle.stripe_reader.specs.WindowValue.{WindowValue}
use Rattle.parity_writer.specs.Parity.{Row}
use Rattle.parity_writer.specs.Sound.{Closed, IsRowOf}
use Rattle.parity_writer.specs.WindowRow.{digests_at, row_at}

-- a stripe that is closed: the hashes that its cells get, column by column, what is known of it then, and the row
-- that was read of it
pub record Closing : Type 0 where
  pub stripe : ℕ
  pub hashes : List (Option Digest16)
  pub info : Info
  pub row : Row

-- the stripe of a number of a window, closed by what was read of it
abbrev pub closing_of : WindowValue → ℕ → ℕ → Info → Closing
closing_of window stripe i info = record {
  stripe = stripe;
  hashes = digests_at window i;
  info = info;
  row = row_at window i;
}

-- a table with the stripe closed
abbrev pub closed_by : Closing → TableValue → TableValue
closed_by closing table = closed_at closing.stripe closing.hashes closing.info table

-- a snapshot with its row in front
abbrev pub snapshot_by : Closing → Closed → Closed
snapshot_by closing snapshot stripe = if stripe == closing.stripe then closing.row ∷ snapshot stripe else snapshot stripe

-- what is changed from outside, without the first so many levels
abbrev pub changed_behind : ℕ → (ℕ → ℕ → Bool) → ℕ → ℕ → Bool
changed_behind levels is_changed stripe level = if nat_lt level levels then false else is_changed stripe level

-- what is changed since the stripe was closed, and its first levels were written
abbrev pub changed_by : ℕ → Closing → (ℕ → ℕ → Bool) → ℕ → ℕ → Bool
changed_by levels closing is_changed stripe level =
    if stripe == closing.stripe then changed_behind levels is_changed stripe level else is_changed stripe level

-- the same for stripes that are closed one after another
abbrev pub closed_by_all : List Closing → TableValue → TableValue
closed_by_all [] table = table
closed_by_all (closing ∷ closings) table = closed_by_all closings (closed_by closing table)

abbrev pub snapshot_by_all : List Closing → Closed → Closed
snapshot_by_all [] snapshot = snapshot
snapshot_by_all (closing ∷ closings) snapshot = snapshot_by_all closings (snapshot_by closing snapshot)

abbrev pub changed_by_all : ℕ → List Closing → (ℕ → ℕ → Bool) → ℕ → ℕ → Bool
changed_by_all levels [] is_changed = is_changed
changed_by_all levels (closing ∷ closings) is_changed = changed_by_all levels closings (changed_by levels closing is_changed)

-- the stripe has the hashes of its row, once it is closed
abbrev pub IsClosing : TableValue → Closing → Type 0
IsClosing table closing = IsRowOf table.shape (stripe_view (closed_by closing table) closing.stripe) closing.row
