use Rattle.std.proofs.Common.{ℕ, List, ◌++◌, take}
use Rattle.std.specs.List.{flat_map}
use Rattle.file_table.specs.Table.{Record, column_at, positions_of}
use Rattle.array_scan.specs.Marks.{AreTouched}
use Rattle.array_scan.proofs.PlacingLemmas.{unheld}
use Rattle.array_scan.proofs.placing.touch_column.Given as goal

abbrev pub invariant-loop-rec : goal.invariant-loop-rec
invariant-loop-rec l =
    let records = (column_at l.old.columns l.d).records in
    (touched : List ℕ) → AreTouched l.fn.marks touched
    → AreTouched l.marks (touched ++ unheld l.held (positions_of (flat_map (λ (kept : Record). kept.blocks) (take l.rec records))))
