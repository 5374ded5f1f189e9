use Rattle.std.proofs.Common.{◌<◌, length, arith}
use Rattle.snap_report.specs.StatusText.{disk_line}
use Rattle.snap_report.proofs.PutsLemmas.{puts_one_more}
use Rattle.snap_report.proofs.pages.Lines.put_disks.Goals as goal

pub loop-disk-preserved : goal.loop-disk-preserved
loop-disk-preserved g c =
    let within : c.loop-disk.disk < length c.args.table.now.columns = omega (arith, c.loop-disk-test.true, c.disks-disk-end.ensures.count) in
    puts_one_more _ (disk_line (length c.args.table.now.infos)) c.args.table.now.columns c.loop-disk.disk _ _ _ _ within c.loop-disk.invariant c.put_disk.ensures
