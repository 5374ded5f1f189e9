use Rattle.std.proofs.Common.{◌<◌, false, length, map, refl, sym, arith}
use Rattle.std.proofs.lemmas.List.{get_or-map, length-map, map-set}
use Rattle.disk_model.specs.Folder.{quiet_folder}
use Rattle.repair_scope.specs.Plan.{seen}
use Rattle.snap_fix.proofs.RepairFilesLemmas.{files_none, column_can, files_more, files_not, files_all}
use Rattle.snap_fix.proofs.repairing.files.mend_files.Goals as goal

pub loop-d-init : goal.loop-d-init
loop-d-init g c = record {
  end = c.disks-d-end.ensures.count;
  so_far = files_none _ _ _ _ _ _ _ _ _ _ c.requires.mend.starts_fit c.requires.mend.states_fit;
}

pub mend_column-column-requires-clause-mend : goal.mend_column-column-requires-clause-mend
mend_column-column-requires-clause-mend g c κs within =
    let view = g.F.Folder.view in
    let folders = c.loop-d.folders in
    let d = c.loop-d.d in
    let so_far = c.loop-d.invariant.so_far in
    let column : d < length c.args.plan.now.table.now.columns = omega (arith, c.loop-d-test.true, c.loop-d.invariant.end) in
    let there : d < length folders = omega (arith, column, so_far.folders, c.requires.mend.folders_are, length-map folders view) in
    column_can g.W.Sink.view (λ b. (goal.Report-dyn g (b.vtable, b.value)).standing b.value) (λ b. (goal.Report-dyn g (b.vtable, b.value)).stands b.value)
    (seen c.args.plan.now) c.args.one.now.stripe c.args.one.now.slot c.args.one.now.window.now c.args.one.now.own.now.marks.items c.args.one.now.own.now.known _ d _ c.loop-d.repaired c.requires.mend so_far column _
    (sym (get_or-map view folders d c.index-folders-d.result (quiet_folder 0 false) there))

pub loop-d-preserved : goal.loop-d-preserved
loop-d-preserved g c =
    let view = g.F.Folder.view in
    let folders = c.loop-d.folders in
    let d = c.loop-d.d in
    let so_far = c.loop-d.invariant.so_far in
    let column : d < length c.args.plan.now.table.now.columns = omega (arith, c.loop-d-test.true, c.loop-d.invariant.end) in
    let there : d < length folders = omega (arith, column, so_far.folders, c.requires.mend.folders_are, length-map folders view) in
    let mapped : d < length (map view folders) = omega (arith, there, length-map folders view) in
    record {
      end = c.loop-d.invariant.end;
      so_far = files_more _ _ _ (seen c.args.plan.now) c.args.one.now.stripe c.args.one.now.slot c.args.one.now.window.now c.args.one.now.own.now.marks.items c.args.one.now.own.now.known _ d _ _ _ _
          (sym (get_or-map view folders d c.index-folders-d.result (quiet_folder 0 false) there)) mapped (map-set view folders d c.mend_column-column.new.folder)
          c.loop-d.repaired c.in-Ok.more _ column c.and.ensures refl so_far c.in-Ok.ensures.mended;
    }

pub returns-in_default-clause-failed : goal.returns-in_default-clause-failed
returns-in_default-clause-failed g c =
    let view = g.F.Folder.view in
    let folders = c.loop-d.folders in
    let d = c.loop-d.d in
    let so_far = c.loop-d.invariant.so_far in
    let column : d < length c.args.plan.now.table.now.columns = omega (arith, c.loop-d-test.true, c.loop-d.invariant.end) in
    let there : d < length folders = omega (arith, column, so_far.folders, c.requires.mend.folders_are, length-map folders view) in
    let mapped : d < length (map view folders) = omega (arith, there, length-map folders view) in
    files_not _ _ _ (seen c.args.plan.now) c.args.one.now.stripe c.args.one.now.slot c.args.one.now.window.now c.args.one.now.own.now.marks.items c.args.one.now.own.now.known _ d _ _ _ _
    (sym (get_or-map view folders d c.index-folders-d.result (quiet_folder 0 false) there)) mapped (map-set view folders d c.mend_column-column.new.folder)
    c.loop-d.repaired column so_far c.in_default.ensures.failed

pub returns-clause-mended : goal.returns-clause-mended
returns-clause-mended g c =
    files_all _ _ _ (seen c.args.plan.now) c.args.one.now.stripe c.args.one.now.slot c.args.one.now.window.now c.args.one.now.own.now.marks.items c.args.one.now.own.now.known _ c.loop-d.d _ c.loop-d.repaired
    (omega (arith, c.loop-d-test.false, c.loop-d.auto.d-end, c.loop-d.invariant.end)) c.loop-d.invariant.so_far
