use Rattle.std.proofs.Common.{length}
use Rattle.file_table.specs.Table.{column_at, no_column}
use Rattle.file_table.specs.Valid.{IsColumn}
use Rattle.array_scan.proofs.PlacedLemmas.{kept_free}
use Rattle.array_scan.proofs.placing.hold_column.Goals as goal

pub hold_file-requires-clause-free : goal.hold_file-requires-clause-free
hold_file-requires-clause-free c =
    let old = c.args.old.now in
    let files = c.args.files.now in
    let column = column_at old.columns c.args.d in
    let is_column : IsColumn (length old.infos) column = c.length-stripes.ensures.valid.columns.each c.args.d no_column c.requires.column in
    kept_free column.records files c.loop-file.file-index c.file-item.result c.loop-file.list is_column.once c.requires.apart c.loop-file-test.true c.file-item.is c.loop-file.invariant.0
