use Rattle.std.proofs.Common.{length, arith}
use Rattle.std.proofs.lemmas.List.{length-map}
use Rattle.std.proofs.lemmas.List.Elements.{All-get_or}
use Rattle.file_table.specs.Table.{column_at, column_blocks, positions_of, no_column}
use Rattle.file_table.specs.Valid.{IsColumn}
use Rattle.file_table.specs.declared.block.Block.{Block}
use Rattle.snap_report.proofs.FreeLemmas.{free_is}
use Rattle.snap_report.proofs.status.free_of.Goals as goal

pub returns : goal.returns
returns c =
    let columns = c.args.table.now.columns in
    let stripes = length c.args.table.now.infos in
    let column = column_at columns c.args.disk in
    let is_column : IsColumn stripes column = All-get_or (IsColumn stripes) columns c.args.disk no_column c.requires c.length.ensures.valid.columns.each in
    let free = free_is (positions_of (column_blocks column)) stripes is_column.below is_column.once in
    let count = length-map (column_blocks column) (λ (block : Block). block.position) in
    omega (arith, free, count, c.saturating_sub.ensures, c.from.ensures, c.blocks_of.ensures, c.length.ensures.count)
