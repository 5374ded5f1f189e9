use Rattle.std.proofs.Common.{◌≡◌, ◌<◌, ℕ, [], get_or}
use Rattle.file_table.specs.Table.{column_at}
use Rattle.array_setup.specs.Setup.{setup_value}
use Rattle.folder_listing.specs.Kept.{kept_files, lists_of}
use Rattle.array_scan.specs.Own.{own_files}
use Rattle.array_scan.proofs.unchanged.is_unchanged.Given as goal

abbrev pub invariant-loop-d : goal.invariant-loop-d
invariant-loop-d l = (e : ℕ) → e < l.d → kept_files (setup_value l.setup) e (get_or (lists_of l.lists) e []) ≡ own_files (column_at l.table.columns e).records
