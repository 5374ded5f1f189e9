use Rattle.std.proofs.Common.{◌≡◌}
use Rattle.file_table.specs.Table.{blocks_of, positions_of, end_of}
use Rattle.folder_listing.specs.Kept.{each_column}
use Rattle.array_scan.specs.Layout.{sorted_of, column_laid}
use Rattle.array_scan.proofs.building.stripes_of.Given as goal

abbrev pub invariant-loop-d : goal.invariant-loop-d
invariant-loop-d l = l.end ≡ end_of (positions_of (blocks_of (each_column (column_laid l.old (sorted_of l.columns)) l.d)))
