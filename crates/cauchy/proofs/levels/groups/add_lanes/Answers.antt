use Rattle.std.proofs.Common.{◌<◌, get_or, [], length, arith}
use Rattle.cauchy.proofs.LaneLemmas.{lane_lt}
use Rattle.cauchy.proofs.LevelsLemmas.{AddedTo-none, AddedTo-more, AddedTo-all, lanes_more, lanes_of_one}
use Rattle.cauchy.proofs.levels.groups.add_lanes.Goals as goal

pub loop-r-init : goal.loop-r-init
loop-r-init g c =
    λ row block start are loaded holds.
    AddedTo-more 0 g.row.N start row block c.args.levels.now c.sums.result c.requires (AddedTo-none g.row.N start row block c.args.levels.now holds)
    (lanes_more 0 row block start (get_or c.args.levels.now 0 []) c.args.bytes c.args.bytes c.sums.result (holds.each 0 c.requires) loaded
    (lanes_of_one (length row) c.args.bytes c.fits-bytes.0 (λ k l. lane_lt c.args.bytes k c.fits-bytes.0 c.fits-bytes.1 l)) c.sums.ensures)

pub loop-r-preserved : goal.loop-r-preserved
loop-r-preserved g c =
    λ row block start are loaded holds.
    let r = c.loop-r.r in
    let sofar = c.loop-r.invariant row block start are loaded holds in
    let within : r < g.row.N = c.loop-r-test.true in
    AddedTo-more r g.row.N start row block c.loop-r.levels c.sums-in-loop-r.result within sofar
    (lanes_more r row block start (get_or c.loop-r.levels r []) c.args.bytes c.products.result c.sums-in-loop-r.result (sofar.others r (omega arith) within) loaded
    (c.products.ensures _ (are r within)) c.sums-in-loop-r.ensures)

pub returns : goal.returns
returns g c =
    λ row block start are loaded holds.
    AddedTo-all c.loop-r.r g.row.N start row block c.loop-r.levels c.loop-r-test.false (c.loop-r.invariant row block start are loaded holds)
