use Rattle.snap_report.proofs.ToldLemmas.{told_nothing, told_one_more}
use Rattle.snap_report.proofs.report.tell_all.Goals as goal

pub loop-event-init : goal.loop-event-init
loop-event-init g c = told_nothing _ _ _ _ _ _

pub loop-event-preserved : goal.loop-event-preserved
loop-event-preserved g c = told_one_more _ _ _ _ c.args.events.now c.loop-event.event-index _ _ _ _ _ _ _ c.loop-event-test.true c.loop-event.invariant c.tell.ensures
