use Rattle.std.proofs.Common.{List, subst}
use Rattle.disk_calm.specs.Files.{HasPath, LacksPath}
use Rattle.disk_calm.specs.declared.files.MemFile.{MemFile}
use Rattle.disk_calm.proofs.PlaceLemmas.{there_at, not_there}
use Rattle.disk_calm.proofs.files.Files.get.Goals as goal

pub returns-in-Ok : goal.returns-in-Ok
returns-in-Ok c =
    let files = c.args.self.now.list.items in
    let at = subst (λ (fs : List MemFile). HasPath fs c.args.path.now c.in-Ok.place) c.deref.ensures.value c.in-Ok.ensures.is in
    there_at files c.args.path.now c.args.self.now.kept.rising c.in-Ok.place c.index.result.now at c.index.ensures

pub returns-in-Err : goal.returns-in-Err
returns-in-Err c =
    let lacks = subst (λ (fs : List MemFile). LacksPath fs c.args.path.now) c.deref.ensures.value c.in-Err.ensures.lacks in
    not_there c.args.self.now.list.items c.args.path.now c.args.self.now.kept.rising lacks
