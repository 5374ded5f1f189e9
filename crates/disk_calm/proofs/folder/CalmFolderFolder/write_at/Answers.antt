use Rattle.std.proofs.Common.{length}
use Rattle.disk_model.specs.Folder.{WriteAt}
use Rattle.disk_calm.specs.Files.{tree_of}
use Rattle.disk_calm.specs.Kept.{tree_in}
use Rattle.disk_calm.proofs.CalmLemmas.{calm_failed, writes_nothing}
use Rattle.disk_calm.proofs.folder.CalmFolderFolder.write_at.Goals as goal

pub returns-in_default-clause-call : goal.returns-in_default-clause-call
returns-in_default-clause-call c =
    let f = c.args.self.now in
    let tree = tree_of c.write.new.self.list.items in
    calm_failed f c.fail.new.faults c.count_write.new.writes tree (WriteAt c.args.path.now c.args.at c.args.bytes.now) c.fail.ensures.later c.fail.ensures.cause c.count_write.ensures
    (writes_nothing c.args.path.now c.args.at (length c.args.bytes.now) (tree_in f.files) tree c.in_default.ensures.err)
