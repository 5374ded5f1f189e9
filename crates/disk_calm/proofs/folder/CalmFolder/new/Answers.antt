use Rattle.std.proofs.Common.{◌≡◌, ◌∙◌, List, ap, rules}
use Rattle.std.specs.FinMap as map
use Rattle.disk_calm.specs.Files.{tree_of}
use Rattle.disk_calm.specs.declared.files.MemFile.{MemFile}
use Rattle.disk_calm.proofs.TreeLemmas.{tree_empty}
use Rattle.disk_calm.proofs.folder.CalmFolder.new.Goals as goal

pub returns : goal.returns
returns c =
    let tree : tree_of c.new.result.list.items ≡ map.empty = ap (λ (fs : List MemFile). tree_of fs) c.new.ensures ∙ tree_empty in
    search (rules, tree)
