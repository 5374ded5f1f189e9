use Rattle.std.proofs.Common.{◌≤◌, inl, inr, ⊎_elim, not, refl, ◌∙◌, ap, subst}
use Rattle.disk_model.specs.Cause.{Rose}
use Rattle.disk_model.specs.Folder.{Make}
use Rattle.disk_model.specs.declared.answer.Answer.TheVariants as answers
use Rattle.disk_memory.specs.Calls.{folder_call}
use Rattle.disk_calm.specs.Files.{tree_of, first_stamp}
use Rattle.disk_calm.specs.Kept.{tree_in}
use Rattle.disk_memory.specs.Schedule.{IsDue}
use Rattle.disk_memory.proofs.FolderLemmas.{done, failed, wrote}
use Rattle.disk_memory.proofs.PastLemmas.{grows_done, grows_failed}
use Rattle.disk_memory.proofs.folder.MemFolderFolder.make.Goals as goal

pub returns-then-not-begin-clause-scheduled : goal.returns-then-not-begin-clause-scheduled
returns-then-not-begin-clause-scheduled c = record {
  obeys = record { obeys = record { counts = c.fail.ensures.plan ∙ c.begin.ensures.counts; due = λ due. refl }; lost = λ told gone. refl };
  only = λ failing. inl (⊎_elim (λ due. inl (subst IsDue c.begin.ensures.counts due)) (λ loses. inr (ap not loses.was, ap not loses.lost)) (c.begin.ensures.cause c.if-not-begin.true));
}

pub returns-in-Ok-clause-call : goal.returns-in-Ok-clause-call
returns-in-Ok-clause-call c =
    let f = c.args.self.now in
    let call = Make c.args.path.now in
    wrote f c.begin.new.schedule.faults c.count_write.new.writes c.end.new.self (tree_in c.make.new.self) call answers.Done refl c.begin.ensures.faults c.count_write.ensures
    (grows_done folder_call done c.make_entry-entry.result call f.past c.begin.new.past c.end.new.self c.begin.ensures.noted c.begin.ensures.refused c.end.ensures c.make_entry-entry.ensures)
    (first_stamp, c.in-Ok.ensures.ok)

pub returns-in-Err-clause-call : goal.returns-in-Err-clause-call
returns-in-Err-clause-call c =
    let f = c.args.self.now in
    let call = Make c.args.path.now in
    failed f c.fail-in-Err.new.self.faults c.count_write.new.writes c.begin.new.past (tree_in c.make.new.self) call (subst (λ n. n ≤ c.fail-in-Err.new.self.faults) c.begin.ensures.faults c.fail-in-Err.ensures.later) (subst (λ n. Rose n c.fail-in-Err.new.self.faults) c.begin.ensures.faults c.fail-in-Err.ensures.cause) c.count_write.ensures
    (grows_failed folder_call done c.make_entry-entry.result call f.past c.begin.new.past c.begin.ensures.noted c.begin.ensures.refused c.make_entry-entry.ensures)
    (inl (ap tree_of c.in-Err.ensures.err))
