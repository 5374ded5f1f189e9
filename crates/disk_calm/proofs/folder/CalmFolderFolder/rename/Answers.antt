use Rattle.std.proofs.Common.{refl, sym, subst}
use Rattle.disk_model.specs.Tree.{IsApart}
use Rattle.disk_calm.specs.Kept.{tree_in}
use Rattle.disk_calm.proofs.TreeLemmas.{apart_without}
use Rattle.disk_calm.proofs.folder.CalmFolderFolder.rename.Goals as goal

pub rename-requires-clause-apart : goal.rename-requires-clause-apart
rename-requires-clause-apart c =
    let tree = tree_in c.args.self.now.files in
    apart_without tree c.as_slice-2.result.now c.in-Ok.to (subst (IsApart tree) (sym c.in-Ok.ensures) (c.requires refl).apart)
