use Rattle.std.proofs.Common.{◌≡◌, ◌∙◌, List, ap, rules}
use Rattle.std.specs.FinMap as map
use Rattle.disk_calm.specs.Files.{tree_of}
use Rattle.disk_calm.specs.declared.files.MemFile.{MemFile}
use Rattle.disk_calm.proofs.TreeLemmas.{tree_empty}
use Rattle.disk_memory.proofs.folder.MemFolder.new.Goals as goal

pub returns-clause-view : goal.returns-clause-view
returns-clause-view c =
    let tree : tree_of c.new-3.result.list.items ≡ map.empty = ap (λ (fs : List MemFile). tree_of fs) c.new-3.ensures ∙ tree_empty in
    search (rules, tree)
