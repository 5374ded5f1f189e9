-- How the numbers of records are kept.
use Rattle.std.specs.Prelude.{◌≡◌, ◌≤◌, List, length}
use Rattle.file_table.specs.Table.{Column}
use Rattle.file_table.specs.Valid.{most_records, most_columns}
use Rattle.hash_index.specs.declared.records.Records.TheInside.{Inside}
use Rattle.hash_index.specs.Duplicates.{spots_of}
use Rattle.hash_index.specs.Numbering.{starts_from}

abbrev pub columns_of : Inside → List Column
columns_of records = records.table.now.columns

-- each column's first number is there, and the records are counted
pub record AreNumbered (records : Inside) : Type 0 where
  pub starts : records.starts.items ≡ starts_from 0 (columns_of records)
  pub count : records.count ≡ length (spots_of (columns_of records))
  pub few : records.count ≤ most_records
  pub few_columns : length (columns_of records) ≤ most_columns
