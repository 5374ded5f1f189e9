use Rattle.std.proofs.Common.{◌≡◌, take}
use Rattle.array_scan.specs.Layout.{sorted_of}
use Rattle.array_scan.specs.Refusals.{capped, files_in}
use Rattle.array_scan.proofs.refusing.files_in.Given as goal

abbrev pub invariant-loop-column : goal.invariant-loop-column
invariant-loop-column l = l.files ≡ capped (files_in (sorted_of (take l.column-index l.columns)))
