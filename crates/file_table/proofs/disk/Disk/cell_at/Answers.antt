use Rattle.std.proofs.Common.{◌≡◌, ◌-◌, ◌<◌, ◌≤◌, ◌+◌, ◌∙◌, List, length, get_or, subst, sym, ap, arith}
use Rattle.std.proofs.lemmas.List.{get_or_default}
use Rattle.file_table.specs.declared.disk.File.{File}
use Rattle.file_table.specs.Table.{Column, column_blocks}
use Rattle.file_table.specs.Disk.{no_file}
use Rattle.file_table.specs.Cells.{IsCellOf}
use Rattle.file_table.proofs.DiskLemmas.{column_blocks-records_from}
use Rattle.file_table.proofs.PlaceLemmas.{firsts_rise, among_blocks, is_cell_of}
use Rattle.file_table.proofs.disk.Disk.cell_at.Goals as goal

pub file_with-rec-requires-clause-rise : goal.file_with-rec-requires-clause-rise
file_with-rec-requires-clause-rise c =
    rw c.deref.ensures.value (firsts_rise 0 c.self.inside.files.items (length c.self.inside.blocks.items) c.self.invariant.cut)

pub returns : goal.returns
returns c =
    let d = c.self.inside in
    let files = d.files.items in
    let rec = c.file_with-rec.result in
    let all = column_blocks-records_from d.name files d.blocks.items c.self.invariant.cut in
    let below : c.args.place < length d.blocks.items = omega (arith, ap length all, ap (λ (column : Column). length (column_blocks column)) c.self.view_is) in
    let within : rec < length files = subst (λ (fs : List File). rec < length fs) c.deref.ensures.value c.file_with-rec.ensures.within in
    let begins : (get_or files rec no_file).first ≤ c.args.place = subst (λ (fs : List File). (get_or fs rec no_file).first ≤ c.args.place) c.deref.ensures.value c.file_with-rec.ensures.begins in
    let before : rec + 1 < length files → c.args.place < (get_or files (rec + 1) no_file).first =
    subst (λ (fs : List File). rec + 1 < length fs → c.args.place < (get_or fs (rec + 1) no_file).first) c.deref.ensures.value c.file_with-rec.ensures.last in
    let ends = among_blocks files (length d.blocks.items) rec c.args.place c.self.invariant.cut within before below in
    let read : c.index.result.now ≡ get_or files rec no_file = c.index.ensures ∙ get_or_default files rec c.index.result.now no_file within in
    let found = is_cell_of d.name files d.blocks.items rec c.args.place c.self.invariant.cut within begins ends in
    let here : IsCellOf c.args.self.now c.args.place (record { rec = rec; index = c.args.place - (get_or files rec no_file).first }) = subst (λ (column : Column). IsCellOf column c.args.place (record { rec = rec; index = c.args.place - (get_or files rec no_file).first })) c.self.view_is found in
    subst (λ (file : File). IsCellOf c.args.self.now c.args.place (record { rec = rec; index = c.args.place - file.first })) (sym read) here
