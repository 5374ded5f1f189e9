use Rattle.std.proofs.Common.{◌∙◌, List, subst, sym, ap}
use Rattle.disk_calm.specs.Files.{HasPath, LacksPath, IsKept, tree_of}
use Rattle.disk_calm.specs.declared.files.MemFile.{MemFile}
use Rattle.disk_calm.proofs.PlaceLemmas.{there_at, not_there}
use Rattle.disk_calm.proofs.SetLemmas.{kept_remove, tree_remove}
use Rattle.disk_calm.proofs.TreeLemmas.{remove_nothing}
use Rattle.disk_calm.proofs.files.Files.take.Goals as goal

pub invariant_of-self : goal.invariant_of-self
invariant_of-self c =
    let files = c.args.self.now.list.items in
    let at = subst (λ (fs : List MemFile). HasPath fs c.args.path.now c.in-Ok.place) c.deref.ensures.value c.in-Ok.ensures.is in
    record { kept = subst (λ (fs : List MemFile). IsKept fs) (sym c.remove.ensures.items) (kept_remove files c.in-Ok.place c.args.path.now c.args.self.now.kept at) }

pub returns-in-Ok-clause-there : goal.returns-in-Ok-clause-there
returns-in-Ok-clause-there c =
    let at = subst (λ (fs : List MemFile). HasPath fs c.args.path.now c.in-Ok.place) c.deref.ensures.value c.in-Ok.ensures.is in
    there_at c.args.self.now.list.items c.args.path.now c.args.self.now.kept.rising c.in-Ok.place c.remove.result at c.remove.ensures.value

pub returns-in-Ok-clause-taken : goal.returns-in-Ok-clause-taken
returns-in-Ok-clause-taken c =
    let files = c.args.self.now.list.items in
    let at = subst (λ (fs : List MemFile). HasPath fs c.args.path.now c.in-Ok.place) c.deref.ensures.value c.in-Ok.ensures.is in
    ap (λ (fs : List MemFile). tree_of fs) c.remove.ensures.items ∙ tree_remove files c.in-Ok.place c.args.path.now c.args.self.now.kept.rising at

pub returns-in-Err-clause-there : goal.returns-in-Err-clause-there
returns-in-Err-clause-there c =
    let lacks = subst (λ (fs : List MemFile). LacksPath fs c.args.path.now) c.deref.ensures.value c.in-Err.ensures.lacks in
    not_there c.args.self.now.list.items c.args.path.now c.args.self.now.kept.rising lacks

pub returns-in-Err-clause-taken : goal.returns-in-Err-clause-taken
returns-in-Err-clause-taken c =
    let lacks = subst (λ (fs : List MemFile). LacksPath fs c.args.path.now) c.deref.ensures.value c.in-Err.ensures.lacks in
    remove_nothing (tree_of c.args.self.now.list.items) c.args.path.now (sym (not_there c.args.self.now.list.items c.args.path.now c.args.self.now.kept.rising lacks))
