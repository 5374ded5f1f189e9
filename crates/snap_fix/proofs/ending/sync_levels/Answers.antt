use Rattle.std.proofs.Common.{◌∙◌, refl, arith}
use Rattle.snap_fix.proofs.AnswerLemmas.{on_err}
use Rattle.snap_fix.proofs.EndingSyncLemmas.{synced_more, synced_not}
use Rattle.snap_fix.proofs.ending.sync_levels.Goals as goal

pub returns-in_err-sync_level-clause-failed : goal.returns-in_err-sync_level-clause-failed
returns-in_err-sync_level-clause-failed g c =
    on_err c.from_residual.result _ (synced_not c.args.written.now c.loop-level.level _ _ _ _ refl (omega (arith, c.loop-level-test.true, c.loop-level.invariant.end)) c.loop-level.invariant.synced c.in_err-sync_level.ensures.failed)

pub loop-level-preserved : goal.loop-level-preserved
loop-level-preserved g c =
    let one = c.in_ok-sync_level.ensures in
    record {
      synced = synced_more c.args.written.now c.loop-level.level _ _ _ _ refl (g.V.Vault.well_formed _) c.loop-level.invariant.synced one.synced one.settled;
      levels = one.synced.some.goes_on.levels ∙ c.loop-level.invariant.levels;
      end = c.loop-level.invariant.end;
    }
