use Rattle.std.proofs.Common.{◌≡◌, drop}
use Rattle.file_table.specs.Table.{column_at}
use Rattle.array_scan.specs.Refusals.{first_zeroed}
use Rattle.array_scan.proofs.refusing.first_zeroed.Given as goal

abbrev pub invariant-loop-file : goal.invariant-loop-file
invariant-loop-file l =
    let records = (column_at l.old.columns l.d).records in
    first_zeroed records (drop l.file-index l.files) ≡ first_zeroed records l.files
