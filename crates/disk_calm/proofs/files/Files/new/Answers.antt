use Rattle.std.proofs.Common.{List, sym, subst}
use Rattle.disk_calm.specs.Files.{IsKept}
use Rattle.disk_calm.specs.declared.files.MemFile.{MemFile}
use Rattle.disk_calm.proofs.TreeLemmas.{kept_empty}
use Rattle.disk_calm.proofs.files.Files.new.Goals as goal

pub invariant_of-result : goal.invariant_of-result
invariant_of-result c = record { kept = subst (λ (fs : List MemFile). IsKept fs) (sym c.new.ensures.items) kept_empty }
