use Rattle.std.proofs.Common.{List, ℕ, ◌≤◌, inl, inr, ⊎_elim, not, refl, sym, ◌∙◌, ap, subst}
use Rattle.disk_model.specs.Cause.{Rose}
use Rattle.disk_model.specs.Folder.{Rename}
use Rattle.disk_model.specs.Tree.{IsApart, path_of}
use Rattle.disk_model.specs.Writing.{renamed}
use Rattle.disk_memory.specs.Calls.{folder_call}
use Rattle.disk_calm.specs.Files.{tree_of}
use Rattle.disk_calm.specs.Kept.{tree_in}
use Rattle.disk_memory.specs.Schedule.{IsDue}
use Rattle.disk_memory.proofs.FolderLemmas.{done, failed, wrote_found}
use Rattle.disk_memory.proofs.PastLemmas.{grows_done, grows_failed}
use Rattle.disk_calm.proofs.TreeLemmas.{apart_without}
use Rattle.disk_memory.proofs.folder.MemFolderFolder.rename.Goals as goal

pub rename-there-requires-clause-apart : goal.rename-there-requires-clause-apart
rename-there-requires-clause-apart c =
    let tree = tree_in c.args.self.now.files in
    apart_without tree c.as_slice.result.now c.in-Ok.to (subst (IsApart tree) (sym c.in-Ok.ensures) (c.requires refl).apart)

pub returns-then-not-begin-clause-scheduled : goal.returns-then-not-begin-clause-scheduled
returns-then-not-begin-clause-scheduled c = record {
  obeys = record { obeys = record { counts = c.fail.ensures.plan ∙ c.begin.ensures.counts; due = λ due. refl }; lost = λ told gone. refl };
  only = λ failing. inl (⊎_elim (λ due. inl (subst IsDue c.begin.ensures.counts due)) (λ loses. inr (ap not loses.was, ap not loses.lost)) (c.begin.ensures.cause c.if-not-begin.true));
}

pub returns-in_default-clause-call : goal.returns-in_default-clause-call
returns-in_default-clause-call c =
    let f = c.args.self.now in
    let call = Rename c.args.path.now c.args.lost in
    let tree = tree_in f.files in
    failed f c.fail-in_default.new.self.faults c.count_write.new.writes c.begin.new.past tree call (subst (λ n. n ≤ c.fail-in_default.new.self.faults) c.begin.ensures.faults c.fail-in_default.ensures.later) (subst (λ n. Rose n c.fail-in_default.new.self.faults) c.begin.ensures.faults c.fail-in_default.ensures.cause) c.count_write.ensures
    (grows_failed folder_call done c.rename_entry-entry.result call f.past c.begin.new.past c.begin.ensures.noted c.begin.ensures.refused c.rename_entry-entry.ensures)
    (inl refl)

pub returns-clause-call : goal.returns-clause-call
returns-clause-call c =
    let f = c.args.self.now in
    let call = Rename c.args.path.now c.args.lost in
    let old = tree_in f.files in
    let from = c.as_slice.ensures.value ∙ c.name_of.ensures in
    wrote_found c.rename-there.result c.found.result c.answer_where.result c.found.ensures c.answer_where.ensures f c.begin.new.schedule.faults c.count_write.new.writes c.end-2.new.self (tree_of c.rename-there.new.self.list.items) call c.begin.ensures.faults c.count_write.ensures
    (grows_done folder_call done c.rename_entry-entry.result call f.past c.begin.new.past c.end-2.new.self c.begin.ensures.noted c.begin.ensures.refused c.end-2.ensures c.rename_entry-entry.ensures)
    (c.rename-there.ensures.renamed ∙ ap (λ (p : List ℕ). renamed p c.in-Ok.to old) from ∙ ap (λ (p : List ℕ). renamed (path_of c.args.path.now (not c.args.lost)) p old) c.in-Ok.ensures)
