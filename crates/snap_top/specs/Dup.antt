-- What `dup` prints: which files of a table hold the same.
use Rattle.std.specs.Prelude.{◌⊎◌, ℕ, List, ◌++◌, codes, length}
use Rattle.std.specs.Fmt.{decimal}
use Rattle.std.specs.List.{flat_map}
use Rattle.disk_model.specs.Sink.{SinkView}
use Rattle.file_table.specs.Table.{Column, TableValue, record_at}
use Rattle.hash_index.specs.Duplicates.{pairs_of}
use Rattle.hash_index.specs.declared.pair.Pair.{Pair}
use Rattle.snap_report.specs.Text.{record_text}
use Rattle.snap_report.specs.declared.answer.Answer.{Answer}
use Rattle.snap_top.specs.Exercising.{RanOut}
use Rattle.snap_top.specs.Task.{Prints}

-- the line of a pair: how many bytes each of the two files has, and both of them
abbrev pub pair_line : List Column → Pair → List ℕ
pair_line columns pair =
    codes "dup " ++ decimal (record_at columns pair.disk pair.rec).meta.size ++ codes " " ++ record_text columns pair.disk pair.rec
    ++ codes " " ++ record_text columns pair.other_disk pair.other_rec ++ codes "\n"

abbrev pub pair_lines : List Column → List Pair → List ℕ
pair_lines columns pairs = flat_map (pair_line columns) pairs

-- the last line: how many pairs there are
abbrev pub count_line : ℕ → List ℕ
count_line pairs = codes "dup: " ++ decimal pairs ++ codes " pairs\n"

-- one line for each pair, in their order, and the last line
abbrev pub dup_text : TableValue → List ℕ
dup_text table = pair_lines table.columns (pairs_of table) ++ count_line (length (pairs_of table))

-- it was printed, or memory ran out before the first line
abbrev pub ListsPairs : TableValue → SinkView → SinkView → Answer → Type 0
ListsPairs table out out_new answer = Prints (dup_text table) 0 out out_new answer ⊎ RanOut out out_new answer
