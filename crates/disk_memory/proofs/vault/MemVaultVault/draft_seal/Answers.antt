use Rattle.std.proofs.Common.{not, [], is_err}
use Rattle.disk_model.specs.Vault as vault
use Rattle.disk_model.specs.declared.draft.Draft.TheVariants.{Absent, Sealed}
use Rattle.disk_memory.specs.Schedule.{plan_of}
use Rattle.disk_calm.specs.Store.{held, staged_held}
use Rattle.disk_memory.proofs.ScheduleLemmas.{obeys_exactly}
use Rattle.disk_memory.proofs.VaultLemmas.{copy_below, is_call, err_of, counts_from, on_ok, on_err, seal_changes, draft_now, goes_as}
use Rattle.disk_memory.proofs.vault.MemVaultVault.draft_seal.Goals as goal

pub returns-clause-call : goal.returns-clause-call
returns-clause-call c = is_call c.args.self.now.schedule.faults c.answer.new.self.faults c.args.self.now.recorded c.draft_seal-done.new.self (vault.DraftSeal c.args.copy) (not c.draft_seal-done.result) c.draft_seal-done.ensures.goes c.answer.result (err_of c.draft_seal-done.result c.answer.result c.answer.ensures.result) (counts_from c.draft_seal-done.result c.args.self.now.schedule.faults c.next_call-fails.new.self.faults c.answer.new.self.faults c.next_call-fails.ensures.faults c.answer.ensures.later c.answer.ensures.done c.answer.ensures.cause)

pub returns-clause-scheduled : goal.returns-clause-scheduled
returns-clause-scheduled c =
    obeys_exactly c.next_call-fails.result c.draft_seal-done.result (is_err c.answer.result) (plan_of c.args.self.now.schedule) (plan_of c.next_call-fails.new.self) (plan_of c.answer.new.self) c.args.self.now.recorded.past.lost c.draft_seal-done.new.self.past.lost (err_of c.draft_seal-done.result c.answer.result c.answer.ensures.result) c.next_call-fails.ensures.plan c.answer.ensures.plan c.next_call-fails.ensures.due c.draft_seal-done.ensures.answer.may_answer.refused c.draft_seal-done.ensures.answer.may_answer.lost c.draft_seal-done.ensures.answer.only

pub returns-clause-changes : goal.returns-clause-changes
returns-clause-changes c = seal_changes c.args.self.now.schedule.faults c.answer.new.self.faults c.args.self.now.recorded c.draft_seal-done.new.self (not c.draft_seal-done.result) c.args.copy c.draft_seal-done.ensures.goes (copy_below c.args.self.now.recorded.store c.args.copy c.requires.copy)

pub returns-clause-sealed : goal.returns-clause-sealed
returns-clause-sealed c = on_ok c.answer.result (not c.draft_seal-done.result) _ (err_of c.draft_seal-done.result c.answer.result c.answer.ensures.result) (λ went. draft_now c.args.self.now.schedule.faults c.answer.new.self.faults c.args.self.now.recorded c.draft_seal-done.new.self c.args.copy Sealed (staged_held (held c.args.self.now.recorded.store) c.args.copy) (goes_as c.args.self.now.recorded c.draft_seal-done.new.self went c.draft_seal-done.ensures.goes).now)

pub returns-clause-gone : goal.returns-clause-gone
returns-clause-gone c = on_err c.answer.result (not c.draft_seal-done.result) _ (err_of c.draft_seal-done.result c.answer.result c.answer.ensures.result) (λ failed. draft_now c.args.self.now.schedule.faults c.answer.new.self.faults c.args.self.now.recorded c.draft_seal-done.new.self c.args.copy Absent [] (goes_as c.args.self.now.recorded c.draft_seal-done.new.self failed c.draft_seal-done.ensures.goes).now)

pub draft_seal-done-requires : goal.draft_seal-done-requires
draft_seal-done-requires c = copy_below c.args.self.now.recorded.store c.args.copy c.requires.copy
