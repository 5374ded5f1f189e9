use Rattle.std.proofs.Common.{◌≡◌, ◌+◌, ◌++◌, length, drop}
use Rattle.file_table.specs.Table.{records_of}
use Rattle.hash_index.specs.Numbering.{starts_from}
use Rattle.hash_index.proofs.records.Records.new.Given as goal

-- the numbers so far, and those to come, are those of all columns
abbrev pub invariant-loop-d : goal.invariant-loop-d
invariant-loop-d l =
    let columns = l.table.columns in
    record {
      starts : l.starts.items ++ starts_from l.count (drop l.d columns) ≡ starts_from 0 columns;
      count : l.count + length (records_of (drop l.d columns)) ≡ length (records_of columns);
    }
