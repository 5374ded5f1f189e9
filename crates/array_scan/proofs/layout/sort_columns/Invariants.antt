use Rattle.std.proofs.Common.{◌≡◌, All}
use Rattle.array_setup.specs.Setup.{setup_value}
use Rattle.folder_listing.specs.Kept.{each_column, kept_lists, lists_of}
use Rattle.array_scan.specs.Fates.{HasMeta}
use Rattle.array_scan.specs.Layout.{sorted_of, sorted_at}
use Rattle.array_scan.proofs.layout.sort_columns.Given as goal

abbrev pub invariant-loop-d : goal.invariant-loop-d
invariant-loop-d l =
    (sorted_of l.columns.items ≡ each_column (sorted_at l.old (kept_lists (setup_value l.setup) (lists_of l.lists))) l.d)
    × All (All HasMeta) (sorted_of l.columns.items)
