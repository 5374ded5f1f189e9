use Rattle.std.proofs.Common.{◌<◌, length, refl, arith}
use Rattle.repair_scope.specs.Plan.{seen}
use Rattle.snap_fix.proofs.EndingAllLemmas.{all_told_start, can_column, all_told_more, all_not, all_done}
use Rattle.snap_fix.proofs.ending.finish_all.Goals as goal

pub loop-d-init : goal.loop-d-init
loop-d-init g c = all_told_start (seen c.args.plan.now) _ _ _ _ _ _ _ _ _ c.requires (record { found = refl; left = refl })

pub end_column-requires-after_bounds : goal.end_column-requires-after_bounds
end_column-requires-after_bounds g c κs within =
    let below : c.loop-d.d < length c.args.plan.now.table.now.columns = omega (arith, c.disks-d-end.ensures.count, c.loop-d-test.true) in
    can_column (seen c.args.plan.now) _ _ _ g.F.Folder.view c.loop-d.d _ _ c.loop-d.folders c.index-folders-d.result c.index-folders-d.result
    c.requires below c.loop-d.invariant.all c.disks-d-end.ensures.valid

pub returns-in_default-clause-failed : goal.returns-in_default-clause-failed
returns-in_default-clause-failed g c =
    let below : c.loop-d.d < length c.args.plan.now.table.now.columns = omega (arith, c.disks-d-end.ensures.count, c.loop-d-test.true) in
    all_not (seen c.args.plan.now) _ _ _ g.F.Folder.view c.loop-d.d _ _ c.loop-d.folders c.index-folders-d.result c.end_column.new.folder
    c.requires below c.loop-d.invariant.all _ _ _ _ _ _ _ _ _ _ _ _ c.loop-d.invariant.told c.in_default.ensures.failed

pub loop-d-preserved : goal.loop-d-preserved
loop-d-preserved g c =
    let below : c.loop-d.d < length c.args.plan.now.table.now.columns = omega (arith, c.disks-d-end.ensures.count, c.loop-d-test.true) in
    all_told_more (seen c.args.plan.now) _ _ _ g.F.Folder.view c.loop-d.d _ _ c.loop-d.folders c.index-folders-d.result c.end_column.new.folder
    c.requires below c.loop-d.invariant.all _ _ _ _ _ _ _ _ _ _ _ _ c.loop-d.invariant.told c.in-Ok.more c.in-Ok.ensures.ended c.and-counts.result c.and-counts.ensures

pub returns-clause-finished : goal.returns-clause-finished
returns-clause-finished g c =
    all_done (seen c.args.plan.now) _ _ _ _ _ _ _ _ _ _ _ _ _ _ _
    (omega (arith, c.disks-d-end.ensures.count, c.loop-d-test.false)) c.loop-d.invariant
