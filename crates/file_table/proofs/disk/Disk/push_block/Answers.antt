use Rattle.std.proofs.Common.{◌≡◌, ◌-◌, ◌<◌, length, arith, ap, List}
use Rattle.std.proofs.lemmas.List.{length_push, length-set}
use Rattle.file_table.specs.Table.{Record, Column, column_blocks}
use Rattle.file_table.proofs.DiskLemmas.{AreCut-read, AreCut-set_last, records_from-set_last, length-records_from, column_blocks-records_from}
use Rattle.file_table.proofs.disk.Disk.push_block.Goals as goal

pub overflow_add-index_mut : goal.overflow_add-index_mut
overflow_add-index_mut c =
    let files = c.self.inside.files.items in
    let long = length-records_from c.self.inside.blocks.items files in
    let same = ap (λ (column : Column). length column.records) c.self.view_is in
    let within : c.len-last.result - 1 < length files = omega arith in
    let ends = AreCut-read files _ (c.len-last.result - 1) c.index_mut.result.now c.index_mut.ensures.value c.self.invariant.cut within in
    omega arith

pub invariant_of-self-2 : goal.invariant_of-self-2
invariant_of-self-2 c =
    let files = c.self.inside.files.items in
    let blocks = c.self.inside.blocks.items in
    let long = length-records_from blocks files in
    let same = ap (λ (column : Column). length column.records) c.self.view_is in
    let some : 0 < length files = omega arith in
    let one_more = length_push blocks c.args.block in
    let all = column_blocks-records_from c.self.inside.name files blocks c.self.invariant.cut in
    let same_blocks = ap (λ (column : Column). length (column_blocks column)) c.self.view_is in
    let file = c.index_mut.result.now in
    let last : c.len-last.result - 1 ≡ length files - 1 = omega arith in
    let cut = AreCut-set_last files (c.len-last.result - 1) file last some c.index_mut.ensures.value (length blocks) c.self.invariant.cut in
    record {
      cut = rw (c.in_ok-push.ensures.items, one_more) cut;
      few_files = rw length-set c.self.invariant.few_files;
      few_blocks = rw c.in_ok-push.ensures.items (omega (arith, ap length all));
    }

pub returns-clause-ok : goal.returns-clause-ok
returns-clause-ok c =
    let files = c.self.inside.files.items in
    let blocks = c.self.inside.blocks.items in
    let long = length-records_from blocks files in
    let same = ap (λ (column : Column). length column.records) c.self.view_is in
    let some : 0 < length files = omega arith in
    let last : c.len-last.result - 1 ≡ length files - 1 = omega arith in
    let grows = records_from-set_last files (c.len-last.result - 1) c.index_mut.result.now last some c.index_mut.ensures.value blocks c.args.block c.self.invariant.cut in
    rw (c.in_ok-push.ensures.items, ← c.self.view_is) (ap (λ (records : List Record). let column : Column = record { name = c.self.inside.name; records = records } in column) grows)
