use Rattle.std.proofs.Common.{is_err, sym, subst}
use Rattle.disk_memory.specs.Calls.{vault_call}
use Rattle.disk_memory.specs.Goes.{GoesBy, CountsFaults}
use Rattle.disk_memory.specs.Schedule.{plan_of}
use Rattle.disk_memory.proofs.ScheduleLemmas.{obeys_exactly}
use Rattle.disk_memory.proofs.VaultLemmas.{err_of, counts_from}
use Rattle.disk_memory.proofs.vault.MemVault.quiet.Goals as goal

pub returns-clause-goes : goal.returns-clause-goes
returns-clause-goes c = subst (λ b. GoesBy (vault_call c.args.entry) c.args.given b c.args.self.now.recorded c.quiet-done.new.self) (sym (err_of c.quiet-done.result c.answer.result c.answer.ensures.result)) c.quiet-done.ensures.goes

pub returns-clause-counts : goal.returns-clause-counts
returns-clause-counts c = subst (λ b. CountsFaults b c.args.self.now.schedule.faults c.answer.new.self.faults) (sym (err_of c.quiet-done.result c.answer.result c.answer.ensures.result))
    (counts_from c.quiet-done.result c.args.self.now.schedule.faults c.next_call-fails.new.self.faults c.answer.new.self.faults c.next_call-fails.ensures.faults c.answer.ensures.later c.answer.ensures.done c.answer.ensures.cause)

pub returns-clause-scheduled : goal.returns-clause-scheduled
returns-clause-scheduled c =
    obeys_exactly c.next_call-fails.result c.quiet-done.result (is_err c.answer.result) (plan_of c.args.self.now.schedule) (plan_of c.next_call-fails.new.self) (plan_of c.answer.new.self) c.args.self.now.recorded.past.lost c.quiet-done.new.self.past.lost
    (err_of c.quiet-done.result c.answer.result c.answer.ensures.result) c.next_call-fails.ensures.plan c.answer.ensures.plan c.next_call-fails.ensures.due c.quiet-done.ensures.answer.may_answer.refused c.quiet-done.ensures.answer.may_answer.lost c.quiet-done.ensures.answer.only
