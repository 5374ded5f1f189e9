use Rattle.std.proofs.Common.{◌<◌, length, refl, arith}
use Rattle.repair_scope.specs.Plan.{seen}
use Rattle.file_table.specs.Table.{records_in}
use Rattle.snap_fix.proofs.EndingColumnLemmas.{told_start, can_next, told_more, ended_not, ended_all}
use Rattle.snap_fix.proofs.AnswerLemmas.{on_err}
use Rattle.file_restorer.proofs.RecordPathsLemmas.{table_paths}
use Rattle.snap_fix.proofs.ending.end_column.Goals as goal

pub loop-i-init : goal.loop-i-init
loop-i-init g c = told_start (seen c.args.plan.now) c.args.d _ _ _ _ _ _ _ _ _ c.requires (record { found = refl; left = refl })

pub end_record-requires-clause-can : goal.end_record-requires-clause-can
end_record-requires-clause-can g c κs within =
    let below : c.loop-i.i < length (records_in c.args.plan.now.table.now c.args.d) = omega (arith, c.records-i-end.ensures, c.loop-i-test.true) in
    can_next (seen c.args.plan.now) c.args.d _ _ _ c.loop-i.i _ _ _ c.loop-i.invariant.ended below c.requires

pub returns-in_err-more-clause-failed : goal.returns-in_err-more-clause-failed
returns-in_err-more-clause-failed g c =
    let below : c.loop-i.i < length (records_in c.args.plan.now.table.now c.args.d) = omega (arith, c.records-i-end.ensures, c.loop-i-test.true) in
    on_err c.from_residual.result _
    (ended_not (seen c.args.plan.now) c.args.d _ _ _ c.loop-i.i _ _ _ c.loop-i.invariant.ended below _ _ _ _ _ _ _ _ _ _ _ _ _
    c.loop-i.invariant.told c.in_err-more.ensures.failed)

pub loop-i-preserved : goal.loop-i-preserved
loop-i-preserved g c =
    let below : c.loop-i.i < length (records_in c.args.plan.now.table.now c.args.d) = omega (arith, c.records-i-end.ensures, c.loop-i-test.true) in
    told_more (seen c.args.plan.now) c.args.d _ _ _ c.loop-i.i _ _ _ c.loop-i.invariant.ended below _ _ _ _ _ _ _ _ _ _ _
    (table_paths c.args.plan.now.table.now c.args.d c.requires.valid c.requires.column) c.in_ok-more.ensures.ended _ _ _ _ c.and-counts.ensures c.loop-i.invariant.told

pub returns-clause-ended : goal.returns-clause-ended
returns-clause-ended g c =
    ended_all (seen c.args.plan.now) c.args.d _ _ _ _ _ _ _ _ _ _ _ _ _ _ _
    (omega (arith, c.records-i-end.ensures)) c.loop-i.invariant
