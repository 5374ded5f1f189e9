use Rattle.std.proofs.Common.{ap, ◌∙◌, ◌++◌, List, ◌∷◌, []}
use Rattle.disk_model.specs.Folder.{FolderView}
use Rattle.disk_memory.specs.Folder.{folder_view}
use Rattle.disk_memory.specs.declared.folder.MemFolder.{MemFolder}
use Rattle.snap_top_refusals.proofs.RefusedLemmas.{one_file}
use Rattle.snap_top_refusals.proofs.refused.disk_of.Goals as goal

pub returns : goal.returns
returns c =
    one_file folder_view _ _ _ _ _ (c.in_ok-push.ensures.items ∙ ap (λ (fs : List MemFolder). fs ++ c.put.new.self ∷ []) c.new-folders.ensures.items)
    (ap (λ (v : FolderView). v.tree) (c.in_ok-done.ensures.put c.if-not-done.false))
