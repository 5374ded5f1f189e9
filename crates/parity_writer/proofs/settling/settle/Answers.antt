use Rattle.std.proofs.Common.{◌<◌, refl, arith}
use Rattle.disk_model.specs.Vault.{ParitySync}
use Rattle.disk_model.specs.declared.answer.Answer.TheVariants.{Failed, Done}
use Rattle.disk_model.proofs.CallsLemmas.{these_none}
use Rattle.disk_model.proofs.VaultLemmas.{more_calls, on_any}
use Rattle.disk_model.proofs.InOrder.{each_more, each_fails}
use Rattle.parity_writer.proofs.SettleLemmas.{settling_start, settling_more}
use Rattle.parity_writer.proofs.settling.settle.Goals as goal

pub loop-level-init : goal.loop-level-init
loop-level-init g c = record { settling = settling_start _; made = these_none (g.V.Vault.view c.args.vault.now); end = c.levels-level-end.ensures }

pub returns-in_err-parity_sync-clause-calls : goal.returns-in_err-parity_sync-clause-calls
returns-in_err-parity_sync-clause-calls g c = more_calls _ _ _ _ c.loop-level.invariant.settling.calls c.in_err-parity_sync.ensures.call.goes_on

pub returns-in_err-parity_sync-clause-cause : goal.returns-in_err-parity_sync-clause-cause
returns-in_err-parity_sync-clause-cause g c =
    let within : c.loop-level.level < (g.V.Vault.view c.args.vault.now).levels = omega (arith, c.loop-level-test.true, c.loop-level.invariant.end) in
    on_any c.from_residual.result (each_fails ParitySync _ c.loop-level.level _ Failed (g.V.Vault.view c.args.vault.now) (g.V.Vault.view c.loop-level.vault) (g.V.Vault.view c.parity_sync.new.self) within refl refl c.loop-level.invariant.settling.calls.goes_on.later c.in_err-parity_sync.ensures.call.cause c.loop-level.invariant.made c.in_err-parity_sync.ensures.call.goes_on)

pub loop-level-preserved : goal.loop-level-preserved
loop-level-preserved g c = record {
  settling = settling_more _ _ _ _ c.loop-level.invariant.settling (g.V.Vault.well_formed _) c.parity_sync.ensures.call c.parity_sync.ensures.changes c.parity_sync.ensures.drafts c.in_ok-parity_sync.ensures.synced;
  made = each_more ParitySync _ c.loop-level.level Done (g.V.Vault.view c.args.vault.now) (g.V.Vault.view c.loop-level.vault) (g.V.Vault.view c.parity_sync.new.self) refl refl c.loop-level.invariant.made c.in_ok-parity_sync.ensures.call.goes_on;
  end = c.loop-level.invariant.end;
}
