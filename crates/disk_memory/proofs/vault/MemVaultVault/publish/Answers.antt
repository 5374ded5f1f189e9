use Rattle.std.proofs.Common.{not, is_err}
use Rattle.disk_model.specs.Vault as vault
use Rattle.disk_memory.specs.Schedule.{plan_of}
use Rattle.disk_memory.proofs.ScheduleLemmas.{obeys_exactly}
use Rattle.disk_memory.proofs.VaultLemmas.{copy_below, is_call, err_of, counts_from, on_ok, publish_changes, publish_gone, published_holds}
use Rattle.disk_memory.proofs.vault.MemVaultVault.publish.Goals as goal

pub returns-clause-call : goal.returns-clause-call
returns-clause-call c = is_call c.args.self.now.schedule.faults c.answer.new.self.faults c.args.self.now.recorded c.publish-done.new.self (vault.Publish c.args.copy) (not c.publish-done.result) c.publish-done.ensures.goes c.answer.result (err_of c.publish-done.result c.answer.result c.answer.ensures.result) (counts_from c.publish-done.result c.args.self.now.schedule.faults c.next_call-fails.new.self.faults c.answer.new.self.faults c.next_call-fails.ensures.faults c.answer.ensures.later c.answer.ensures.done c.answer.ensures.cause)

pub returns-clause-scheduled : goal.returns-clause-scheduled
returns-clause-scheduled c =
    obeys_exactly c.next_call-fails.result c.publish-done.result (is_err c.answer.result) (plan_of c.args.self.now.schedule) (plan_of c.next_call-fails.new.self) (plan_of c.answer.new.self) c.args.self.now.recorded.past.lost c.publish-done.new.self.past.lost (err_of c.publish-done.result c.answer.result c.answer.ensures.result) c.next_call-fails.ensures.plan c.answer.ensures.plan c.next_call-fails.ensures.due c.publish-done.ensures.answer.may_answer.refused c.publish-done.ensures.answer.may_answer.lost c.publish-done.ensures.answer.only

pub returns-clause-changes : goal.returns-clause-changes
returns-clause-changes c = publish_changes c.args.self.now.schedule.faults c.answer.new.self.faults c.args.self.now.recorded c.publish-done.new.self (not c.publish-done.result) c.args.copy c.publish-done.ensures.goes (copy_below c.args.self.now.recorded.store c.args.copy c.requires.copy)

pub returns-clause-gone : goal.returns-clause-gone
returns-clause-gone c = publish_gone c.args.self.now.schedule.faults c.answer.new.self.faults c.args.self.now.recorded c.publish-done.new.self (not c.publish-done.result) c.args.copy c.publish-done.ensures.goes

pub returns-clause-published : goal.returns-clause-published
returns-clause-published c = on_ok c.answer.result (not c.publish-done.result) _ (err_of c.publish-done.result c.answer.result c.answer.ensures.result) (λ went sealed. published_holds c.args.self.now.schedule.faults c.answer.new.self.faults c.args.self.now.recorded c.publish-done.new.self (not c.publish-done.result) c.args.copy c.publish-done.ensures.goes (copy_below c.args.self.now.recorded.store c.args.copy c.requires.copy) went sealed)

pub publish-done-requires : goal.publish-done-requires
publish-done-requires c = copy_below c.args.self.now.recorded.store c.args.copy c.requires.copy
