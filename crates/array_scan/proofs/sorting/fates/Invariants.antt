use Rattle.std.proofs.Common.{◌≡◌, map}
use Rattle.std.specs.List.{range_with_len}
use Rattle.disk_model.specs.Tree.{listed}
use Rattle.file_table.specs.Table.{column_at}
use Rattle.array_scan.specs.Fates.{fate_of}
use Rattle.array_scan.specs.Lost.{Offers}
use Rattle.array_scan.proofs.FatesLemmas.{left_before}
use Rattle.array_scan.proofs.sorting.fates.Given as goal

abbrev pub invariant-loop-k : goal.invariant-loop-k
invariant-loop-k l =
    let records = (column_at l.old.columns l.d).records in
    let files = listed l.files in
    (l.fates.items ≡ map (fate_of records files) (range_with_len 0 l.k)) × Offers l.lost (left_before records files l.k)
