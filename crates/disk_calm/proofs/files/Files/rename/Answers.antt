use Rattle.std.proofs.Common.{sym, subst}
use Rattle.disk_model.specs.Tree.{Tree, IsFile}
use Rattle.disk_calm.specs.Files.{tree_of, file_in}
use Rattle.disk_calm.proofs.SetLemmas.{moved_file}
use Rattle.disk_calm.proofs.files.Files.rename.Goals as goal

pub put-requires : goal.put-requires
put-requires c =
    let file = file_in c.in-Some.file in
    subst (λ (tree : Tree). IsFile tree c.args.to file) (sym c.take.ensures.taken)
    (moved_file (tree_of c.args.self.now.list.items) c.args.from.now c.args.to file c.args.self.now.kept.tree c.in-Some.ensures.there c.requires.valid c.requires.apart)
