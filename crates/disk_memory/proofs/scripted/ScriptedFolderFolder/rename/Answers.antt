use Rattle.std.proofs.Common.{◌≢◌, None, not, inl, refl}
use Rattle.disk_model.specs.Folder.{Rename}
use Rattle.disk_model.specs.Tree.{Tree, file_of, path_of}
use Rattle.disk_model.specs.Writing.{IsFolderWrite}
use Rattle.disk_model.specs.declared.answer.Answer.TheVariants.{Failed}
use Rattle.disk_memory.specs.Folder.{folder_view, fault_answer}
use Rattle.disk_memory.proofs.ScriptedLemmas.{as_untold, refused, missed, failed_where, plays_unless}
use Rattle.disk_memory.proofs.scripted.ScriptedFolderFolder.rename.Goals as goal

pub returns-then-not-takes-clause-call : goal.returns-then-not-takes-clause-call
returns-then-not-takes-clause-call c =
    let call = Rename c.args.path.now c.args.lost in
    as_untold call Failed c.args.self.now (folder_view c.turn.new.self.base) (folder_view c.refuse.new.self) c.turn.ensures.turned (c.refuse.ensures.called call c.rename_entry-refused.ensures refl)

pub returns-then-not-takes-clause-played : goal.returns-then-not-takes-clause-played
returns-then-not-takes-clause-played c =
    let call = Rename c.args.path.now c.args.lost in
    let mid = c.turn.new.self in
    plays_unless c.args.self.now mid (record { calls = c.turn.ensures.calls; view = c.turn.ensures.turned; script = c.turn.ensures.script; plan = c.turn.ensures.plan }) (IsFolderWrite call Failed) Failed c.refuse.new.self (λ (tree : Tree). file_of tree (path_of c.args.path.now (not c.args.lost)) ≢ None)
    (refused call (folder_view mid.base) (folder_view c.refuse.new.self) (c.refuse.ensures.called call c.rename_entry-refused.ensures refl) c.refuse.ensures.tree (inl refl))
    (failed_where (file_of (folder_view mid.base).tree (path_of c.args.path.now (not c.args.lost)) ≢ None) (c.holds.ensures.there c.if-not-holds.false) mid.base c.refuse.new.self c.refuse.ensures.counted)

pub returns-then-not-holds-clause-call : goal.returns-then-not-holds-clause-call
returns-then-not-holds-clause-call c =
    let call = Rename c.args.path.now c.args.lost in
    as_untold call (fault_answer c.misses.result) c.args.self.now (folder_view c.turn.new.self.base) (folder_view c.misses.new.self) c.turn.ensures.turned (c.misses.ensures.called call c.rename_entry-missed.ensures refl)

pub returns-then-not-holds-clause-played : goal.returns-then-not-holds-clause-played
returns-then-not-holds-clause-played c =
    let call = Rename c.args.path.now c.args.lost in
    let mid = c.turn.new.self in
    let answer = fault_answer c.misses.result in
    let exactly = c.misses.ensures.scheduled in
    plays_unless c.args.self.now mid (record { calls = c.turn.ensures.calls; view = c.turn.ensures.turned; script = c.turn.ensures.script; plan = c.turn.ensures.plan }) (IsFolderWrite call answer) answer c.misses.new.self (λ (tree : Tree). file_of tree (path_of c.args.path.now (not c.args.lost)) ≢ None)
    (missed c.args.path.now c.args.lost answer (folder_view mid.base) (folder_view c.misses.new.self) (c.misses.ensures.called call c.rename_entry-missed.ensures refl) c.misses.ensures.tree (c.holds.ensures.missing c.if-not-holds.true))
    (record { obeys = exactly.obeys; only = λ failing. inl (exactly.only failing) })
