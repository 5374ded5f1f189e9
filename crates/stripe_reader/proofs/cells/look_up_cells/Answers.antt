use Rattle.std.proofs.Common.{◌<◌, length, get_or, arith}
use Rattle.file_table.specs.Table.{column_at}
use Rattle.stripe_reader.proofs.LookedUpLemmas.{cell_more, of_record}
use Rattle.stripe_reader.proofs.cells.look_up_cells.Goals as goal

pub loop-i-preserved : goal.loop-i-preserved
loop-i-preserved c =
    let table = c.args.table.now in
    let stripes = c.args.stripes.now in
    let i = c.loop-i.i in
    let found = c.cell_after-found.result in
    let there : i < length c.loop-i.cells = omega (arith, c.loop-i-test.true, c.requires.room, c.loop-i.auto.cells) in
    record {
      looked = cell_more (column_at table.columns c.args.d) stripes c.loop-i.cells i found there c.cell_after-found.ensures c.loop-i.invariant.looked;
      last = of_record table c.args.d (get_or stripes i 0) found c.cell_after-found.ensures;
    }
