use Rattle.std.proofs.Common.{not, is_err}
use Rattle.disk_model.specs.Vault as vault
use Rattle.disk_memory.specs.Schedule.{plan_of}
use Rattle.disk_memory.proofs.ScheduleLemmas.{obeys_unless}
use Rattle.disk_memory.proofs.VaultLemmas.{is_call, err_of, counts_from, on_ok, write_changes, write_keeps, write_reads}
use Rattle.disk_memory.proofs.vault.MemVaultVault.parity_write.Goals as goal

pub returns-clause-call : goal.returns-clause-call
returns-clause-call c = is_call c.args.self.now.schedule.faults c.answer.new.self.faults c.args.self.now.recorded c.parity_write-done.new.self (vault.ParityWrite c.args.level c.args.at c.args.bytes.now) (not c.parity_write-done.result) c.parity_write-done.ensures.goes c.answer.result (err_of c.parity_write-done.result c.answer.result c.answer.ensures.result) (counts_from c.parity_write-done.result c.args.self.now.schedule.faults c.next_call-fails.new.self.faults c.answer.new.self.faults c.next_call-fails.ensures.faults c.answer.ensures.later c.answer.ensures.done c.answer.ensures.cause)

pub returns-clause-scheduled : goal.returns-clause-scheduled
returns-clause-scheduled c =
    obeys_unless c.next_call-fails.result c.parity_write-done.result (is_err c.answer.result) (plan_of c.args.self.now.schedule) (plan_of c.next_call-fails.new.self) (plan_of c.answer.new.self) c.args.self.now.recorded.past.lost c.parity_write-done.new.self.past.lost (err_of c.parity_write-done.result c.answer.result c.answer.ensures.result) c.next_call-fails.ensures.plan c.answer.ensures.plan c.next_call-fails.ensures.due c.parity_write-done.ensures.answer.may_answer.refused c.parity_write-done.ensures.answer.may_answer.lost _ c.parity_write-done.ensures.answer.only

pub returns-clause-changes : goal.returns-clause-changes
returns-clause-changes c = write_changes c.args.self.now.schedule.faults c.answer.new.self.faults c.args.self.now.recorded c.parity_write-done.new.self (not c.parity_write-done.result) c.args.level c.args.at c.args.bytes.now c.parity_write-done.ensures.goes c.requires.level

pub returns-clause-drafts : goal.returns-clause-drafts
returns-clause-drafts c = write_keeps c.args.self.now.schedule.faults c.answer.new.self.faults c.args.self.now.recorded c.parity_write-done.new.self (not c.parity_write-done.result) c.args.level c.args.at c.args.bytes.now c.parity_write-done.ensures.goes

pub returns-clause-written : goal.returns-clause-written
returns-clause-written c = on_ok c.answer.result (not c.parity_write-done.result) _ (err_of c.parity_write-done.result c.answer.result c.answer.ensures.result) (write_reads c.args.self.now.schedule.faults c.answer.new.self.faults c.args.self.now.recorded c.parity_write-done.new.self (not c.parity_write-done.result) c.args.level c.args.at c.args.bytes.now c.parity_write-done.ensures.goes c.requires.level)
