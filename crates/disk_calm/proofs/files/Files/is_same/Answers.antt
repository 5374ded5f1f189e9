use Rattle.disk_calm.proofs.SameLemmas.{same_trees}
use Rattle.disk_calm.proofs.files.Files.is_same.Goals as goal

pub returns : goal.returns
returns c = same_trees c.args.self.now c.args.other.now c.deref.result.now c.deref-2.result.now c.have_same.result c.deref.ensures.value c.deref-2.ensures.value c.have_same.ensures
