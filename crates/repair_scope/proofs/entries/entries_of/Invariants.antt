use Rattle.std.proofs.Common.{◌≡◌, map}
use Rattle.folder_listing.specs.Kept.{each_column, lists_of}
use Rattle.array_setup.specs.Setup.{setup_value}
use Rattle.repair_scope.specs.Plan.{column_entries, names_of}
use Rattle.repair_scope.proofs.entries.entries_of.Given as goal

abbrev pub invariant-loop-d : goal.invariant-loop-d
invariant-loop-d l = map (λ column. column.items) l.columns.items ≡ each_column (column_entries l.selection (names_of (setup_value l.setup)) l.table (lists_of l.lists)) l.d
