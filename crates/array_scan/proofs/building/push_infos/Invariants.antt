use Rattle.std.proofs.Common.{◌≡◌, ℕ, List, map}
use Rattle.std.specs.List.{range_with_len}
use Rattle.array_scan.specs.Layout.{laid_info}
use Rattle.array_scan.specs.Marks.{AreTouched}
use Rattle.array_scan.proofs.building.push_infos.Given as goal

abbrev pub invariant-loop-stripe : goal.invariant-loop-stripe
invariant-loop-stripe l =
    (positions : List ℕ) → AreTouched l.touched positions → l.builder ≡ record l.fn.builder { infos = map (laid_info l.old positions) (range_with_len 0 l.stripe) }
