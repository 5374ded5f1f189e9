use Rattle.std.proofs.Common.{◌≡◌, List, ◌++◌, length, drop}
use Rattle.file_table.specs.Table.{Record, column_at}
use Rattle.array_scan.specs.Laying.{all_needed, laid_records}
use Rattle.file_table.specs.Pushing.{with_records}
use Rattle.array_scan.proofs.building.push_files.Given as goal

abbrev pub invariant-loop-file : goal.invariant-loop-file
invariant-loop-file l =
    let size = l.old.shape.block_size in
    let records = (column_at l.old.columns l.d).records in
    let rest = drop (length l.yielded) l.fn.files.items in
    (laid : List Record) × (l.builder ≡ record l.fn.builder { columns = with_records l.fn.builder.columns laid })
    × (laid ++ laid_records size records l.free rest ≡ laid_records size records l.given l.fn.files.items) × (length l.free ≡ all_needed size rest)
