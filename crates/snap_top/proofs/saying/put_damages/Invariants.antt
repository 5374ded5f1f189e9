use Rattle.std.proofs.Common.{take}
use Rattle.std.specs.List.{flat_map}
use Rattle.snap_report.specs.State.{Puts}
use Rattle.snap_top.specs.End.{damage_line}
use Rattle.snap_top.proofs.saying.put_damages.Given as goal

abbrev pub invariant-loop-i : goal.invariant-loop-i
invariant-loop-i g l = Puts g.W.Sink.view (flat_map damage_line (take l.i l.damages)) l.fn.lines l.lines
