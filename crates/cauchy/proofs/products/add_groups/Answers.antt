use Rattle.std.proofs.Common.{◌*◌, arith}
use Rattle.cauchy.proofs.ProductLemmas.{AddsWithin-lanes}
use Rattle.cauchy.proofs.products.add_groups.Goals as goal

pub loop-group-preserved : goal.loop-group-preserved
loop-group-preserved c =
    AddsWithin-lanes (32 * c.loop-group.group) _ c.args.coefficient c.args.block.now c.args.out.now c.loop-group.out c.store.new.out
    c.load-in-loop-group.result c.load.result c.products.result c.sums-lanes.result
    c.load-in-loop-group.ensures c.load.ensures (c.products.ensures c.args.coefficient c.lane_tables-tables.ensures)
    c.sums-lanes.ensures c.store.ensures (omega arith) c.loop-group.invariant
