use Rattle.std.proofs.Common.{◌≡◌, ℕ, length, take, get_or, false}
use Rattle.std.specs.List.{list_any}
use Rattle.array_scan.specs.Fates.{is_number}
use Rattle.array_scan.proofs.sorting.listed_marks.Given as goal

abbrev pub invariant-loop-rec : goal.invariant-loop-rec
invariant-loop-rec l = (length l.marks.items ≡ l.count) × ((i : ℕ) → get_or l.marks.items i false ≡ list_any (is_number i) (take l.rec-index l.named))
