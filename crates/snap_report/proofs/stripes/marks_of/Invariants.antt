use Rattle.std.proofs.Common.{◌≡◌, take}
use Rattle.snap_report.specs.StatusText.{synced_in, pending_in, fresh_in, bad_in}
use Rattle.snap_report.proofs.stripes.marks_of.Given as goal

abbrev pub invariant-loop-stripe : goal.invariant-loop-stripe
invariant-loop-stripe l = record {
  synced : l.marks.synced ≡ synced_in (take l.stripe l.table.infos);
  pending : l.marks.pending ≡ pending_in (take l.stripe l.table.infos);
  fresh : l.marks.fresh ≡ fresh_in (take l.stripe l.table.infos);
  bad : l.marks.bad ≡ bad_in (take l.stripe l.table.infos);
}
