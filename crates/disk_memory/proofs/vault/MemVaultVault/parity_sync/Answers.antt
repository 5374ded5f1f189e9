use Rattle.std.proofs.Common.{is_err, refl}
use Rattle.disk_model.specs.Vault as vault
use Rattle.disk_memory.proofs.VaultLemmas.{is_call, quiet_changes, drafts_stay, on_ok, synced_holds, level_within}
use Rattle.disk_memory.proofs.vault.MemVaultVault.parity_sync.Goals as goal

pub returns-clause-call : goal.returns-clause-call
returns-clause-call c = is_call c.args.self.now.schedule.faults c.quiet.new.self.schedule.faults c.args.self.now.recorded c.quiet.new.self.recorded (vault.ParitySync c.args.level) (is_err c.quiet.result) c.quiet.ensures.goes c.quiet.result refl c.quiet.ensures.counts

pub returns-clause-changes : goal.returns-clause-changes
returns-clause-changes c = quiet_changes c.args.self.now.schedule.faults c.quiet.new.self.schedule.faults c.args.self.now.recorded c.quiet.new.self.recorded (vault.ParitySync c.args.level) (is_err c.quiet.result) c.quiet.ensures.goes refl (level_within c.args.self.now.recorded c.args.level c.requires)

pub returns-clause-drafts : goal.returns-clause-drafts
returns-clause-drafts c = drafts_stay c.args.self.now.schedule.faults c.quiet.new.self.schedule.faults c.args.self.now.recorded c.quiet.new.self.recorded (vault.ParitySync c.args.level) (is_err c.quiet.result) c.quiet.ensures.goes refl

pub returns-clause-synced : goal.returns-clause-synced
returns-clause-synced c = on_ok c.quiet.result (is_err c.quiet.result) _ refl (synced_holds c.args.self.now.schedule.faults c.quiet.new.self.schedule.faults c.args.self.now.recorded c.quiet.new.self.recorded (is_err c.quiet.result) c.args.level c.quiet.ensures.goes c.requires)
