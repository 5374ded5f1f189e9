use Rattle.std.proofs.Common.{◌≡◌, None, List, ℕ, inl, refl, sym, ◌∙◌, ap}
use Rattle.std.proofs.lemmas.List.{append-nil}
use Rattle.disk_model.specs.Folder.{Make}
use Rattle.disk_model.specs.Tree.{Tree, file_of}
use Rattle.disk_model.specs.Writing.{IsFolderWrite}
use Rattle.disk_model.specs.declared.answer.Answer.TheVariants.{Failed}
use Rattle.disk_memory.specs.Folder.{folder_view}
use Rattle.disk_memory.proofs.ScriptedLemmas.{as_untold, refused, failed_where, plays_unless}
use Rattle.disk_memory.proofs.scripted.ScriptedFolderFolder.make.Goals as goal

pub returns-then-not-takes-clause-call : goal.returns-then-not-takes-clause-call
returns-then-not-takes-clause-call c =
    let call = Make c.args.path.now in
    as_untold call Failed c.args.self.now (folder_view c.turn.new.self.base) (folder_view c.refuse.new.self) c.turn.ensures.turned (c.refuse.ensures.called call c.make_entry.ensures refl)

pub returns-then-not-takes-clause-played : goal.returns-then-not-takes-clause-played
returns-then-not-takes-clause-played c =
    let call = Make c.args.path.now in
    let mid = c.turn.new.self in
    plays_unless c.args.self.now mid (record { calls = c.turn.ensures.calls; view = c.turn.ensures.turned; script = c.turn.ensures.script; plan = c.turn.ensures.plan }) (IsFolderWrite call Failed) Failed c.refuse.new.self (λ (tree : Tree). file_of tree c.args.path.now ≡ None)
    (refused call (folder_view mid.base) (folder_view c.refuse.new.self) (c.refuse.ensures.called call c.make_entry.ensures refl) c.refuse.ensures.tree (inl refl))
    (failed_where (file_of (folder_view mid.base).tree c.args.path.now ≡ None) (ap (λ (name : List ℕ). file_of (folder_view mid.base).tree name) (sym (append-nil c.args.path.now)) ∙ c.takes.ensures.missing c.if-not-takes.true) mid.base c.refuse.new.self c.refuse.ensures.counted)
