use Rattle.std.proofs.Common.{◌≡◌, length}
use Rattle.std.specs.List.{flat_map, range_with_len}
use Rattle.folder_listing.specs.Kept.{each_column}
use Rattle.array_scan.specs.Layout.{sorted_of, given_of, given_at, touched_at}
use Rattle.array_scan.specs.Marks.{AreTouched}
use Rattle.array_scan.proofs.placing.place_all.Given as goal

abbrev pub invariant-loop-d : goal.invariant-loop-d
invariant-loop-d l =
    (given_of l.given.items ≡ each_column (given_at l.old (sorted_of l.columns)) l.d)
    × (length l.touched.items ≡ length l.old.infos)
    × AreTouched l.touched.items (flat_map (touched_at l.old (sorted_of l.columns)) (range_with_len 0 l.d))
