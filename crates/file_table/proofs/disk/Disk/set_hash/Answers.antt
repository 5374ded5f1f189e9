use Rattle.std.proofs.Common.{◌≡◌, ◌<◌, ◌+◌, ◌∙◌, length, get_or, subst, sym, ap, arith, Some}
use Rattle.std.proofs.lemmas.List.{length-set, get_or_default}
use Rattle.file_table.specs.declared.block.Block.{Block}
use Rattle.file_table.specs.Table.{Column, record_in, no_block, column_with_hash}
use Rattle.file_table.proofs.DiskLemmas.{length-records_from}
use Rattle.file_table.proofs.DiskHashLemmas.{index_in_file, block_in_list, column_set}
use Rattle.file_table.proofs.disk.Disk.set_hash.Goals as goal

pub index_mut-requires : goal.index_mut-requires
index_mut-requires c =
    let d = c.self.inside in
    let rec_in : c.args.i < length d.files.items = omega (arith, length-records_from d.blocks.items d.files.items, ap (λ (column : Column). length column.records) c.self.view_is, c.requires.rec) in
    let held : c.args.index < length (record_in (record { name = d.name; records = Rattle.file_table.specs.Disk.records_from d.blocks.items d.files.items }) c.args.i).blocks =
    subst (λ (column : Column). c.args.index < length (record_in column c.args.i).blocks) (sym c.self.view_is) c.requires.block in
    let inside = index_in_file d.name d.files.items d.blocks.items c.self.invariant.cut c.args.i c.args.index c.index.result.now rec_in c.index.ensures held in
    let within : c.index.result.now.first + c.args.index < length d.blocks.items = block_in_list d.name d.files.items d.blocks.items c.self.invariant.cut c.args.i c.args.index c.index.result.now rec_in c.index.ensures inside in
    omega arith

pub invariant_of-self : goal.invariant_of-self
invariant_of-self c =
    let d = c.self.inside in
    record {
      cut = rw length-set c.self.invariant.cut;
      few_files = c.self.invariant.few_files;
      few_blocks = rw length-set c.self.invariant.few_blocks;
    }

pub returns : goal.returns
returns c =
    let d = c.self.inside in
    let rec_in : c.args.i < length d.files.items = omega (arith, length-records_from d.blocks.items d.files.items, ap (λ (column : Column). length column.records) c.self.view_is, c.requires.rec) in
    let held : c.args.index < length (record_in (record { name = d.name; records = Rattle.file_table.specs.Disk.records_from d.blocks.items d.files.items }) c.args.i).blocks =
    subst (λ (column : Column). c.args.index < length (record_in column c.args.i).blocks) (sym c.self.view_is) c.requires.block in
    let inside = index_in_file d.name d.files.items d.blocks.items c.self.invariant.cut c.args.i c.args.index c.index.result.now rec_in c.index.ensures held in
    let within : c.index.result.now.first + c.args.index < length d.blocks.items = block_in_list d.name d.files.items d.blocks.items c.self.invariant.cut c.args.i c.args.index c.index.result.now rec_in c.index.ensures inside in
    let read : c.index_mut.result.now ≡ get_or d.blocks.items (c.index.result.now.first + c.args.index) no_block = c.index_mut.ensures.value ∙ get_or_default d.blocks.items (c.index.result.now.first + c.args.index) c.index_mut.result.now no_block within in
    let made = ap (λ (b : Block). let n : Block = record { position = b.position; hash = Some c.args.hash } in n) read in
    column_set d.name d.files.items d.blocks.items c.self.invariant.cut c.args.i c.args.index c.index.result.now rec_in c.index.ensures c.args.hash _ inside made
    ∙ ap (λ (column : Column). column_with_hash column c.args.i c.args.index c.args.hash) c.self.view_is
