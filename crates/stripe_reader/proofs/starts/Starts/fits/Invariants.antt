use Rattle.std.proofs.Common.{◌≡◌, ℕ, ◌<◌, length}
use Rattle.file_table.specs.Table.{column_at}
use Rattle.stripe_reader.specs.Starts.{starts_at}
use Rattle.stripe_reader.proofs.starts.Starts.fits.Given as goal

abbrev pub invariant-loop-d : goal.invariant-loop-d
invariant-loop-d l = (k : ℕ) → k < l.d → length (starts_at l.self.columns k) ≡ length (column_at l.table.columns k).records
