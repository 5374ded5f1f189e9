use Rattle.std.proofs.Common.{sym}
use Rattle.disk_calm.specs.Files.{file_in}
use Rattle.disk_calm.specs.Kept.{is_tree_in}
use Rattle.disk_memory.proofs.folder.MemFolderFolder.look.Goals as goal

pub returns-in-Some-clause-stamp : goal.returns-in-Some-clause-stamp
returns-in-Some-clause-stamp c = (is_tree_in c.args.self.now.files c.as_slice.result.now (file_in c.in-Some.file.now) (sym c.in-Some.ensures)).stamp
