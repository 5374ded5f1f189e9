use Rattle.std.proofs.Common.{◌≡◌, ℕ, ◌<◌, slice_get}
use Rattle.array_setup.specs.Setup.{setup_value}
use Rattle.snap_top.specs.Array.{column_names, disk_names}
use Rattle.snap_top.proofs.matching.first_other_disk.Given as goal

abbrev pub invariant-loop-column : goal.invariant-loop-column
invariant-loop-column l = (k : ℕ) → k < l.column → slice_get (column_names l.table) k ≡ slice_get (disk_names (setup_value l.setup)) k
