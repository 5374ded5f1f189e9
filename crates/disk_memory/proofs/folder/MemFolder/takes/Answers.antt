use Rattle.disk_model.specs.Tree.{path_of}
use Rattle.disk_memory.proofs.FolderLemmas.{held_allows}
use Rattle.disk_memory.proofs.folder.MemFolder.takes.Goals as goal

pub returns-then-holds-clause-allowed : goal.returns-then-holds-clause-allowed
returns-then-holds-clause-allowed c = λ yes. held_allows c.args.self.now (path_of c.args.path.now c.args.lost) (c.holds.ensures.there c.if-holds.true)
