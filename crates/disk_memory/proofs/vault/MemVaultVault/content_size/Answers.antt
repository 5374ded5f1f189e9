use Rattle.std.proofs.Common.{true, false, Ok, Err, refl}
use Rattle.disk_model.specs.Vault as vault
use Rattle.disk_model.specs.Answer.{size_answer}
use Rattle.disk_memory.proofs.VaultLemmas.{reading, copy_within, copy_below}
use Rattle.disk_memory.proofs.vault.MemVaultVault.content_size.Goals as goal

pub returns-in-Err-clause-call : goal.returns-in-Err-clause-call
returns-in-Err-clause-call c = reading c.args.self.now.schedule.faults c.quiet.new.self.schedule.faults c.args.self.now.recorded c.quiet.new.self.recorded (vault.ContentSize c.args.copy) true c.in-Err.ensures.goes refl size_answer (Err _) (copy_within c.args.self.now.recorded c.args.copy (copy_below c.args.self.now.recorded.store c.args.copy c.requires)) refl refl c.in-Err.ensures.counts

pub returns-in-Ok-clause-call : goal.returns-in-Ok-clause-call
returns-in-Ok-clause-call c = reading c.args.self.now.schedule.faults c.quiet.new.self.schedule.faults c.args.self.now.recorded c.quiet.new.self.recorded (vault.ContentSize c.args.copy) false c.in-Ok.ensures.goes refl size_answer (Ok _) (copy_within c.args.self.now.recorded c.args.copy (copy_below c.args.self.now.recorded.store c.args.copy c.requires)) c.answer_of_size.ensures.kept refl c.in-Ok.ensures.counts

pub content_size-size-requires : goal.content_size-size-requires
content_size-size-requires c = copy_below c.args.self.now.recorded.store c.args.copy c.requires
