use Rattle.std.proofs.Common.{true, false, Ok, Err, refl}
use Rattle.disk_model.specs.Vault as vault
use Rattle.disk_model.specs.declared.answer.Answer.TheVariants.{Bytes}
use Rattle.disk_memory.proofs.VaultLemmas.{reading, level_within}
use Rattle.disk_memory.proofs.vault.MemVaultVault.parity_len.Goals as goal

pub returns-in-Err-clause-call : goal.returns-in-Err-clause-call
returns-in-Err-clause-call c = reading c.args.self.now.schedule.faults c.quiet.new.self.schedule.faults c.args.self.now.recorded c.quiet.new.self.recorded (vault.ParityLen c.args.level) true c.in-Err.ensures.goes refl Bytes (Err _) (level_within c.args.self.now.recorded c.args.level c.requires) refl refl c.in-Err.ensures.counts

pub returns-in-Ok-clause-call : goal.returns-in-Ok-clause-call
returns-in-Ok-clause-call c = reading c.args.self.now.schedule.faults c.quiet.new.self.schedule.faults c.args.self.now.recorded c.quiet.new.self.recorded (vault.ParityLen c.args.level) false c.in-Ok.ensures.goes refl Bytes (Ok _) (level_within c.args.self.now.recorded c.args.level c.requires) refl refl c.in-Ok.ensures.counts
