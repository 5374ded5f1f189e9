use Rattle.std.proofs.Common.{◌+◌, ◌<◌, ◌≤◌, length, arith, ap}
use Rattle.file_table.specs.Table.{Column}
use Rattle.file_table.proofs.DiskLemmas.{AreCut-read, length-records_from}
use Rattle.file_table.proofs.disk.Disk.blocks.Goals as goal

pub slice_bounds-result-end : goal.slice_bounds-result-end
slice_bounds-result-end c =
    let files = c.self.inside.files.items in
    let file = c.index-file.result.now in
    let long = length-records_from c.self.inside.blocks.items files in
    let same = ap (λ (column : Column). length column.records) c.self.view_is in
    let within : c.args.i < length files = omega arith in
    let ends : file.first + file.count ≤ length c.self.inside.blocks.items = AreCut-read files _ c.args.i file c.index-file.ensures c.self.invariant.cut within in
    omega (arith, c.deref.ensures.len)
