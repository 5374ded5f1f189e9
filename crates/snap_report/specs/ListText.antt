-- What `list` prints.
use Rattle.std.specs.Prelude.{ℕ, List, ◌++◌, length, sum_by}
use Rattle.std.specs.List.{flat_map}
use Rattle.file_table.specs.Table.{Record, Column, records_of}
use Rattle.snap_report.specs.Text.{file_line, totals_text}

abbrev pub record_line : List ℕ → Record → List ℕ
record_line name kept = file_line name kept.path kept.meta

abbrev pub records_lines : List ℕ → List Record → List ℕ
records_lines name records = flat_map (record_line name) records

abbrev pub column_lines : Column → List ℕ
column_lines column = records_lines column.name column.records

abbrev pub list_lines : List Column → List ℕ
list_lines columns = flat_map column_lines columns

-- how many bytes the files of these records have together
abbrev pub bytes_in : List Record → ℕ
bytes_in records = sum_by (λ (kept : Record). kept.meta.size) records

abbrev pub total_line : List Record → List ℕ
total_line records = totals_text (length records) (bytes_in records)

-- one line for each record, in the order of columns and paths, and the last line
abbrev pub list_text : List Column → List ℕ
list_text columns = list_lines columns ++ total_line (records_of columns)
