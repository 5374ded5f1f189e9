use Rattle.std.proofs.Common.{List, ◌<◌, ◌^◌, length, refl, subst, ap, is_some, rules}
use Rattle.disk_model.specs.Tree.{File}
use Rattle.disk_calm.specs.Files.{HasPath, IsPlace, LacksPath}
use Rattle.disk_calm.specs.declared.files.MemFile.{MemFile}
use Rattle.disk_calm.proofs.PlaceLemmas.{there_at, not_there}
use Rattle.disk_calm.proofs.SetLemmas.{kept_changed, tree_changed, not_changed}
use Rattle.disk_calm.proofs.files.Files.rewrite.Goals as goal

pub returns-in_default-clause-there : goal.returns-in_default-clause-there
returns-in_default-clause-there c =
    let lacks = subst (λ (fs : List MemFile). LacksPath fs c.args.path.now) c.deref.ensures.value c.in_default.ensures.lacks in
    ap is_some (not_there c.args.self.now.list.items c.args.path.now c.args.self.now.kept.rising lacks)

pub returns-in_default-clause-rewritten : goal.returns-in_default-clause-rewritten
returns-in_default-clause-rewritten c =
    let lacks = subst (λ (fs : List MemFile). LacksPath fs c.args.path.now) c.deref.ensures.value c.in_default.ensures.lacks in
    not_changed c.args.self.now.list.items c.args.path.now (λ (f : File). record { stamp = c.args.stamp; bytes = c.args.bytes }) c.args.self.now.kept.rising lacks

pub invariant_of-self : goal.invariant_of-self
invariant_of-self c =
    let files = c.args.self.now.list.items in
    let f = c.index_mut-file.result.now in
    let new : MemFile = record { path = f.path; stamp = c.args.stamp; bytes = c.args.bytes } in
    let at = subst (λ (fs : List MemFile). HasPath fs c.args.path.now c.in-Ok.place) c.deref.ensures.value c.in-Ok.ensures.is in
    let spot = subst (λ (fs : List MemFile). IsPlace fs c.args.path.now c.in-Ok.place) c.deref.ensures.value c.in-Ok.ensures.there in
    let size : length c.args.bytes < 2 ^ 64 = search rules in
    record { kept = kept_changed files c.args.path.now c.in-Ok.place f new c.args.self.now.kept spot at c.index_mut-file.ensures.value refl c.requires.stamp c.requires.bytes size }

pub returns-clause-there : goal.returns-clause-there
returns-clause-there c =
    let at = subst (λ (fs : List MemFile). HasPath fs c.args.path.now c.in-Ok.place) c.deref.ensures.value c.in-Ok.ensures.is in
    ap is_some (there_at c.args.self.now.list.items c.args.path.now c.args.self.now.kept.rising c.in-Ok.place c.index_mut-file.result.now at c.index_mut-file.ensures.value)

pub returns-clause-rewritten : goal.returns-clause-rewritten
returns-clause-rewritten c =
    let files = c.args.self.now.list.items in
    let f = c.index_mut-file.result.now in
    let new : MemFile = record { path = f.path; stamp = c.args.stamp; bytes = c.args.bytes } in
    let at = subst (λ (fs : List MemFile). HasPath fs c.args.path.now c.in-Ok.place) c.deref.ensures.value c.in-Ok.ensures.is in
    let spot = subst (λ (fs : List MemFile). IsPlace fs c.args.path.now c.in-Ok.place) c.deref.ensures.value c.in-Ok.ensures.there in
    tree_changed files c.args.path.now c.in-Ok.place f new c.args.self.now.kept spot at c.index_mut-file.ensures.value refl (λ (f : File). record { stamp = c.args.stamp; bytes = c.args.bytes }) refl
