use Rattle.std.proofs.Common.{◌≡◌, List, ◌++◌, length, drop, max}
use Rattle.std.specs.List.{flat_map}
use Rattle.file_table.specs.Table.{Record, column_at, positions_of, end_of}
use Rattle.array_scan.specs.Laying.{all_needed, laid_records}
use Rattle.array_scan.proofs.building.end_of_files.Given as goal

abbrev pub invariant-loop-file : goal.invariant-loop-file
invariant-loop-file l =
    let size = l.old.shape.block_size in
    let records = (column_at l.old.columns l.d).records in
    let rest = drop l.file-index l.files in
    (done : List Record) × (l.end ≡ max l.fn.end (end_of (positions_of (flat_map (λ (kept : Record). kept.blocks) done))))
    × (done ++ laid_records size records l.free rest ≡ laid_records size records l.given l.files) × (length l.free ≡ all_needed size rest)
