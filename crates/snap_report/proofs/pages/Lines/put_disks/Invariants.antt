use Rattle.std.proofs.Common.{length, take}
use Rattle.std.specs.List.{flat_map}
use Rattle.snap_report.specs.StatusText.{disk_line}
use Rattle.snap_report.specs.State.{Puts}
use Rattle.snap_report.proofs.pages.Lines.put_disks.Given as goal

abbrev pub invariant-loop-disk : goal.invariant-loop-disk
invariant-loop-disk g l = Puts g.W.Sink.view (flat_map (disk_line (length l.table.infos)) (take l.disk l.table.columns)) l.fn.self l.self
