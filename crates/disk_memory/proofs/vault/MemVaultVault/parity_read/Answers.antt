use Rattle.std.proofs.Common.{true, false, length, Ok, Err, refl, ◌∙◌, ap, arith}
use Rattle.disk_model.specs.Vault as vault
use Rattle.disk_model.specs.Bytes.{read_from}
use Rattle.disk_model.specs.Files.{parity_of}
use Rattle.disk_model.specs.declared.answer.Answer.TheVariants.{Bytes}
use Rattle.disk_calm.specs.Held.{Held}
use Rattle.disk_calm.proofs.BytesLemmas.{count_is}
use Rattle.disk_memory.proofs.VaultLemmas.{reading, same_held, level_within}
use Rattle.disk_memory.proofs.vault.MemVaultVault.parity_read.Goals as goal

pub returns-in-Err-clause-call : goal.returns-in-Err-clause-call
returns-in-Err-clause-call c = reading c.args.self.now.schedule.faults c.quiet.new.self.schedule.faults c.args.self.now.recorded c.quiet.new.self.recorded (vault.ParityRead c.args.level c.args.at (length c.args.out.now)) true c.in-Err.ensures.goes refl Bytes (Err _) (level_within c.args.self.now.recorded c.args.level c.requires) refl refl c.in-Err.ensures.counts

pub parity_read-requires : goal.parity_read-requires
parity_read-requires c = let same = c.in-Ok.ensures.goes.same in omega (arith, same.levels, c.requires)

pub returns-in-Ok-clause-found : goal.returns-in-Ok-clause-found
returns-in-Ok-clause-found c = λ told. c.parity_read.ensures.found ∙ ap (λ (h : Held). read_from (parity_of h.files c.args.level) c.args.at (length c.args.out.now)) (same_held c.args.self.now.schedule.faults c.quiet.new.self.schedule.faults c.args.self.now.recorded c.quiet.new.self.recorded (vault.ParityRead c.args.level c.args.at (length c.args.out.now)) false c.in-Ok.ensures.goes refl)

pub returns-in-Ok-clause-call : goal.returns-in-Ok-clause-call
returns-in-Ok-clause-call c = reading c.args.self.now.schedule.faults c.quiet.new.self.schedule.faults c.args.self.now.recorded c.quiet.new.self.recorded (vault.ParityRead c.args.level c.args.at (length c.args.out.now)) false c.in-Ok.ensures.goes refl Bytes (Ok _) (level_within c.args.self.now.recorded c.args.level c.requires) (ap Bytes (count_is c.parity_read.result c.parity_count-count.result c.parity_read.new.out _ (returns-in-Ok-clause-found c refl) c.parity_read.ensures.bound c.parity_count-count.ensures)) refl c.in-Ok.ensures.counts
