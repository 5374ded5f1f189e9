use Rattle.std.proofs.Common.{◌≡◌, ◌-◌, map, length}
use Rattle.std.specs.List.{range_with_len}
use Rattle.array_scan.specs.Layout.{sorted_of}
use Rattle.array_scan.specs.Refusals.{first_some, in_columns, emptied_at}
use Rattle.array_scan.proofs.refusing.emptied.Given as goal

abbrev pub invariant-loop-d : goal.invariant-loop-d
invariant-loop-d l =
    first_some (map (emptied_at l.old (sorted_of l.columns)) (range_with_len l.d (length l.old.columns - l.d)))
    ≡ in_columns l.old (emptied_at l.old (sorted_of l.columns))
