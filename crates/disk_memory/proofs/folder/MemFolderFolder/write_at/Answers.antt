use Rattle.std.proofs.Common.{List, ℕ, ◌≤◌, length, refl, ◌∙◌, ap, subst}
use Rattle.disk_model.specs.Bytes.{put}
use Rattle.disk_model.specs.Cause.{Rose}
use Rattle.disk_model.specs.Folder.{WriteAt}
use Rattle.disk_memory.specs.Calls.{folder_call}
use Rattle.disk_calm.specs.Files.{tree_of, changed, with_bytes}
use Rattle.disk_calm.specs.Kept.{tree_in}
use Rattle.disk_memory.proofs.FolderLemmas.{done, wrote_found, failed, writes}
use Rattle.disk_calm.proofs.CalmLemmas.{writes_nothing}
use Rattle.disk_memory.proofs.PastLemmas.{grows_done, grows_failed}
use Rattle.disk_memory.proofs.folder.MemFolderFolder.write_at.Goals as goal

pub returns-then-not-begin-clause-call : goal.returns-then-not-begin-clause-call
returns-then-not-begin-clause-call c =
    let f = c.args.self.now in
    let call = WriteAt c.args.path.now c.args.at c.args.bytes.now in
    let tree = tree_in f.files in
    failed f c.fail.new.self.faults c.count_write.new.writes c.begin.new.past tree call (subst (λ n. n ≤ c.fail.new.self.faults) c.begin.ensures.faults c.fail.ensures.later) (subst (λ n. Rose n c.fail.new.self.faults) c.begin.ensures.faults c.fail.ensures.cause) c.count_write.ensures
    (grows_failed folder_call done c.write_at_entry-entry.result call f.past c.begin.new.past c.begin.ensures.noted c.begin.ensures.refused c.write_at_entry-entry.ensures)
    (writes_nothing c.args.path.now c.args.at (length c.args.bytes.now) tree tree refl)

pub returns-in_default-clause-call : goal.returns-in_default-clause-call
returns-in_default-clause-call c =
    let f = c.args.self.now in
    let call = WriteAt c.args.path.now c.args.at c.args.bytes.now in
    let tree = tree_of c.write.new.self.list.items in
    failed f c.fail-in_default.new.self.faults c.count_write.new.writes c.begin.new.past tree call (subst (λ n. n ≤ c.fail-in_default.new.self.faults) c.begin.ensures.faults c.fail-in_default.ensures.later) (subst (λ n. Rose n c.fail-in_default.new.self.faults) c.begin.ensures.faults c.fail-in_default.ensures.cause) c.count_write.ensures
    (grows_failed folder_call done c.write_at_entry-entry.result call f.past c.begin.new.past c.begin.ensures.noted c.begin.ensures.refused c.write_at_entry-entry.ensures)
    (writes_nothing c.args.path.now c.args.at (length c.args.bytes.now) (tree_in f.files) tree c.in_default.ensures.err)

pub returns-clause-call : goal.returns-clause-call
returns-clause-call c =
    let f = c.args.self.now in
    let call = WriteAt c.args.path.now c.args.at c.args.bytes.now in
    let old = tree_in f.files in
    let tree = tree_of c.write.new.self.list.items in
    let path = c.as_bytes.ensures.value ∙ c.as_str.ensures.value in
    wrote_found c.in-Ok.there c.found.result c.answer_where.result c.found.ensures c.answer_where.ensures f c.begin.new.schedule.faults c.count_write.new.writes c.end.new.self tree call c.begin.ensures.faults c.count_write.ensures
    (grows_done folder_call done c.write_at_entry-entry.result call f.past c.begin.new.past c.end.new.self c.begin.ensures.noted c.begin.ensures.refused c.end.ensures c.write_at_entry-entry.ensures)
    (writes c.args.path.now c.args.at c.args.bytes.now old tree (c.in-Ok.ensures.written ∙ ap (λ (p : List ℕ). changed (with_bytes (λ (before : List ℕ). put before c.args.at c.args.bytes.now)) p old) path))
