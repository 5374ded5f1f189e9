use Rattle.std.proofs.Common.{◌≡◌, length}
use Rattle.folder_listing.specs.Kept.{each_column}
use Rattle.array_scan.specs.Layout.{sorted_of, column_laid}
use Rattle.array_scan.proofs.building.push_columns.Given as goal

abbrev pub invariant-loop-column : goal.invariant-loop-column
invariant-loop-column l =
    (l.builder ≡ record l.fn.builder { columns = each_column (column_laid l.old (sorted_of l.fn.columns.items)) l.d }) × (l.d ≡ length l.yielded)
