use Rattle.std.proofs.Common.{◌≡◌, map, length, All}
use Rattle.std.specs.List.{range_with_len}
use Rattle.disk_model.specs.Tree.{listed}
use Rattle.file_table.specs.Table.{column_at}
use Rattle.array_scan.specs.Fates.{sorted_file, HasMeta}
use Rattle.array_scan.proofs.sorting.sort_files.Given as goal

abbrev pub invariant-loop-file : goal.invariant-loop-file
invariant-loop-file l =
    let records = (column_at l.old.columns l.d).records in
    (l.sorted.items ≡ map (sorted_file records (listed l.fn.files.items)) (range_with_len 0 l.k)) × (l.k ≡ length l.yielded)
    × All HasMeta l.sorted.items
