use Rattle.std.proofs.Common.{arith, ◌-◌}
use Rattle.disk_host.proofs.OrderLemmas.{rise_on, step_below}
use Rattle.disk_host.proofs.order.rises.Goals as goal

pub loop-i-preserved : goal.loop-i-preserved
loop-i-preserved c =
    rise_on c.args.files.now c.loop-i.i c.loop-i.invariant
    (step_below c.args.files.now (c.loop-i.i - 1) c.loop-i.i c.index-files-i.result c.index-files-i-in-loop-i.result c.as_str.result.now c.as_str-in-loop-i.result.now
    (omega arith) (omega arith) c.as_str.ensures.value c.as_str-in-loop-i.ensures.value c.if-ge.ensures)
