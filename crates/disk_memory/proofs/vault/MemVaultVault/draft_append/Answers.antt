use Rattle.std.proofs.Common.{not, [], ◌++◌, is_err}
use Rattle.disk_model.specs.Vault as vault
use Rattle.disk_model.specs.declared.draft.Draft.TheVariants.{Absent, Open}
use Rattle.disk_memory.specs.Schedule.{plan_of}
use Rattle.disk_calm.specs.Store.{held, staged_held}
use Rattle.disk_memory.proofs.ScheduleLemmas.{obeys_unless}
use Rattle.disk_memory.proofs.VaultLemmas.{copy_below, is_call, err_of, counts_from, on_ok, on_err, append_changes, draft_now, goes_as}
use Rattle.disk_memory.proofs.vault.MemVaultVault.draft_append.Goals as goal

pub returns-clause-call : goal.returns-clause-call
returns-clause-call c = is_call c.args.self.now.schedule.faults c.answer.new.self.faults c.args.self.now.recorded c.draft_append-done.new.self (vault.DraftAppend c.args.copy c.args.bytes.now) (not c.draft_append-done.result) c.draft_append-done.ensures.goes c.answer.result (err_of c.draft_append-done.result c.answer.result c.answer.ensures.result) (counts_from c.draft_append-done.result c.args.self.now.schedule.faults c.next_call-fails.new.self.faults c.answer.new.self.faults c.next_call-fails.ensures.faults c.answer.ensures.later c.answer.ensures.done c.answer.ensures.cause)

pub returns-clause-scheduled : goal.returns-clause-scheduled
returns-clause-scheduled c =
    obeys_unless c.next_call-fails.result c.draft_append-done.result (is_err c.answer.result) (plan_of c.args.self.now.schedule) (plan_of c.next_call-fails.new.self) (plan_of c.answer.new.self) c.args.self.now.recorded.past.lost c.draft_append-done.new.self.past.lost (err_of c.draft_append-done.result c.answer.result c.answer.ensures.result) c.next_call-fails.ensures.plan c.answer.ensures.plan c.next_call-fails.ensures.due c.draft_append-done.ensures.answer.may_answer.refused c.draft_append-done.ensures.answer.may_answer.lost _ c.draft_append-done.ensures.answer.only

pub returns-clause-changes : goal.returns-clause-changes
returns-clause-changes c = append_changes c.args.self.now.schedule.faults c.answer.new.self.faults c.args.self.now.recorded c.draft_append-done.new.self (not c.draft_append-done.result) c.args.copy c.args.bytes.now c.draft_append-done.ensures.goes (copy_below c.args.self.now.recorded.store c.args.copy c.requires.copy)

pub returns-clause-appended : goal.returns-clause-appended
returns-clause-appended c = on_ok c.answer.result (not c.draft_append-done.result) _ (err_of c.draft_append-done.result c.answer.result c.answer.ensures.result) (λ went. draft_now c.args.self.now.schedule.faults c.answer.new.self.faults c.args.self.now.recorded c.draft_append-done.new.self c.args.copy Open (staged_held (held c.args.self.now.recorded.store) c.args.copy ++ c.args.bytes.now) (goes_as c.args.self.now.recorded c.draft_append-done.new.self went c.draft_append-done.ensures.goes).now)

pub returns-clause-gone : goal.returns-clause-gone
returns-clause-gone c = on_err c.answer.result (not c.draft_append-done.result) _ (err_of c.draft_append-done.result c.answer.result c.answer.ensures.result) (λ failed. draft_now c.args.self.now.schedule.faults c.answer.new.self.faults c.args.self.now.recorded c.draft_append-done.new.self c.args.copy Absent [] (goes_as c.args.self.now.recorded c.draft_append-done.new.self failed c.draft_append-done.ensures.goes).now)

pub draft_append-done-requires-clause-copy : goal.draft_append-done-requires-clause-copy
draft_append-done-requires-clause-copy c = copy_below c.args.self.now.recorded.store c.args.copy c.requires.copy
