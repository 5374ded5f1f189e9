-- The sums of a stripe of a window, to compare its levels with.
use Rattle.std.specs.Prelude.{ℕ, ◌<◌, length, slice_index_or}
use Rattle.file_table.specs.Table.{TableValue}
use Rattle.parity_writer.specs.WindowRow.{row_at}
use Rattle.stripe_reader.specs.WindowValue.{WindowValue}
use Rattle.snap_scrub.specs.declared.room.Check.{Check}
use Rattle.parity_writer.specs.declared.summing.Sums.{Sums}
use Rattle.parity_writer.specs.Summing.{HoldSums}

-- the sums of the stripe of a number of a window stand in its place
pub record HasSums (table : TableValue) (window : WindowValue) (check : Check) (i : ℕ) : Type 0 where
  pub there : i < length check.sums.items
  pub hold : (other : Sums) →
      HoldSums table.shape.block_size (row_at window i) table.shape.levels (slice_index_or check.sums.items i other).blocks.items
