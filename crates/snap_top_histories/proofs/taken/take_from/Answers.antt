use Rattle.std.proofs.Common.{◌≡◌, IsTrue, true, None, Err, sym, ap, ◌∙◌, subst, refl}
use Rattle.std.specs.FinMap as finite_map
use Rattle.disk_model.specs.Folder.{FolderView, MissingExactly}
use Rattle.disk_model.specs.Tree.{Tree, file_of, path_of}
use Rattle.disk_model.specs.declared.fault.FileFault.{FileFault}
use Rattle.disk_model.specs.declared.meta.Meta.{Meta}
use Rattle.disk_memory.specs.Folder.{folder_view}
use Rattle.snap_top.specs.Taken.{IsTakenFrom}
use Rattle.snap_top_histories.proofs.TakenTrees.{one_taken}
use Rattle.snap_top_histories.proofs.taken.take_from.Goals as goal

pub returns : goal.returns
returns c =
    let first : Tree = (folder_view c.args.folder.now).tree in
    let stays : (folder_view c.look.new.self).tree ≡ first = c.look.ensures.call.tree refl in
    let missing : IsTrue true → file_of first (path_of c.in_ok-path.path true) ≡ None
    = subst (λ (fault : FileFault). MissingExactly {T = Meta} (Err fault) (folder_view c.args.folder.now) (path_of c.in_ok-path.path true)) c.in-Err-Missing.field-0-is c.in-Err-Missing.ensures.missing in
    let gone = ap (λ (v : FolderView). v.tree) c.remove.ensures.removed in
    subst (λ (tree : Tree). IsTakenFrom first tree) (sym (gone ∙ ap (λ (tree : Tree). finite_map.remove tree c.in_ok-path.path) stays)) (one_taken first c.in_ok-path.path (missing refl))
