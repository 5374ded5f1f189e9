use Rattle.std.proofs.Common.{true, false, [], length, Ok, Err, unwrap_or, refl, ◌∙◌, ap, arith}
use Rattle.disk_model.specs.Vault as vault
use Rattle.disk_model.specs.Bytes.{read_from}
use Rattle.disk_model.specs.Files.{content_of}
use Rattle.disk_model.specs.declared.answer.Answer.TheVariants.{Bytes}
use Rattle.disk_calm.specs.Held.{Held}
use Rattle.disk_calm.proofs.BytesLemmas.{count_is}
use Rattle.disk_memory.proofs.VaultLemmas.{reading, same_held, copy_within, copy_below}
use Rattle.disk_memory.proofs.vault.MemVaultVault.content_read.Goals as goal

pub returns-in-Err-clause-call : goal.returns-in-Err-clause-call
returns-in-Err-clause-call c = reading c.args.self.now.schedule.faults c.quiet.new.self.schedule.faults c.args.self.now.recorded c.quiet.new.self.recorded (vault.ContentRead c.args.copy c.args.at (length c.args.out.now)) true c.in-Err.ensures.goes refl Bytes (Err _) (copy_within c.args.self.now.recorded c.args.copy (copy_below c.args.self.now.recorded.store c.args.copy c.requires)) refl refl c.in-Err.ensures.counts

pub content_read-requires : goal.content_read-requires
content_read-requires c = let same = c.in-Ok.ensures.goes.same in omega (arith, same.copies, copy_below c.args.self.now.recorded.store c.args.copy c.requires)

pub returns-in-Ok-clause-found : goal.returns-in-Ok-clause-found
returns-in-Ok-clause-found c = λ told. c.content_read.ensures.found ∙ ap (λ (h : Held). read_from (unwrap_or (content_of h.files c.args.copy) []) c.args.at (length c.args.out.now)) (same_held c.args.self.now.schedule.faults c.quiet.new.self.schedule.faults c.args.self.now.recorded c.quiet.new.self.recorded (vault.ContentRead c.args.copy c.args.at (length c.args.out.now)) false c.in-Ok.ensures.goes refl)

pub returns-in-Ok-clause-call : goal.returns-in-Ok-clause-call
returns-in-Ok-clause-call c = reading c.args.self.now.schedule.faults c.quiet.new.self.schedule.faults c.args.self.now.recorded c.quiet.new.self.recorded (vault.ContentRead c.args.copy c.args.at (length c.args.out.now)) false c.in-Ok.ensures.goes refl Bytes (Ok _) (copy_within c.args.self.now.recorded c.args.copy (copy_below c.args.self.now.recorded.store c.args.copy c.requires)) (ap Bytes (count_is c.content_read.result c.content_count-count.result c.content_read.new.out _ (returns-in-Ok-clause-found c refl) c.content_read.ensures.bound c.content_count-count.ensures)) refl c.in-Ok.ensures.counts

pub content_count-count-requires : goal.content_count-count-requires
content_count-count-requires c = copy_below c.args.self.now.recorded.store c.args.copy c.requires
