use Rattle.std.proofs.Common.{◌<◌, length, subst, sym}
use Rattle.std.specs.List.{AllPairs}
use Rattle.file_table.specs.Table.{Column, TableValue}
use Rattle.file_table.specs.Valid.{ComesBefore}
use Rattle.file_table.proofs.table.Table.find.Goals as goal

pub find-requires : goal.find-requires
find-requires c =
    let within : c.args.d < length c.self.inside.disks.items = subst (λ (v : TableValue). c.args.d < length v.columns) (sym c.self.view_is) c.requires in
    subst (λ (column : Column). AllPairs ComesBefore column.records) (sym c.index.ensures) (c.self.invariant.valid.columns.each c.args.d c.index.result.now within).order
