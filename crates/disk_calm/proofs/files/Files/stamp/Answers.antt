use Rattle.std.proofs.Common.{List, refl, subst, ap, sym, is_some}
use Rattle.disk_calm.specs.Files.{HasPath, IsPlace, LacksPath, with_stamp}
use Rattle.disk_calm.specs.declared.files.MemFile.{MemFile}
use Rattle.disk_calm.proofs.PlaceLemmas.{there_at, not_there}
use Rattle.disk_calm.proofs.SetLemmas.{old_file, kept_changed, tree_changed, not_changed}
use Rattle.std.proofs.Common.{Bool, true, false, if◌then◌else◌}
use Rattle.disk_model.specs.Tree.{File}
use Rattle.disk_model.specs.Stamp.{IsStamp}
use Rattle.disk_model.specs.declared.meta.Stamp.{Stamp}
use Rattle.disk_calm.proofs.files.Files.stamp.Goals as goal

either : (b : Bool) (x y : Stamp) → IsStamp x → IsStamp y → IsStamp (if b then x else y)
either true x y one two = one
either false x y one two = two

pub returns-in_default-clause-there : goal.returns-in_default-clause-there
returns-in_default-clause-there c =
    let lacks = subst (λ (fs : List MemFile). LacksPath fs c.args.path.now) c.deref.ensures.value c.in_default.ensures.lacks in
    ap is_some (not_there c.args.self.now.list.items c.args.path.now c.args.self.now.kept.rising lacks)

pub returns-in_default-clause-stamped : goal.returns-in_default-clause-stamped
returns-in_default-clause-stamped c =
    let lacks = subst (λ (fs : List MemFile). LacksPath fs c.args.path.now) c.deref.ensures.value c.in_default.ensures.lacks in
    not_changed c.args.self.now.list.items c.args.path.now (with_stamp c.args.keeps c.args.stamp) c.args.self.now.kept.rising lacks

pub invariant_of-self : goal.invariant_of-self
invariant_of-self c =
    let files = c.args.self.now.list.items in
    let f = c.index_mut-file.result.now in
    let new : MemFile = record { path = f.path; stamp = c.chosen-file.result; bytes = f.bytes } in
    let at = subst (λ (fs : List MemFile). HasPath fs c.args.path.now c.in-Ok.place) c.deref.ensures.value c.in-Ok.ensures.is in
    let spot = subst (λ (fs : List MemFile). IsPlace fs c.args.path.now c.in-Ok.place) c.deref.ensures.value c.in-Ok.ensures.there in
    let old = old_file files c.args.path.now c.in-Ok.place f c.args.self.now.kept at c.index_mut-file.ensures.value in
    record { kept = kept_changed files c.args.path.now c.in-Ok.place f new c.args.self.now.kept spot at c.index_mut-file.ensures.value refl (subst IsStamp (sym c.chosen-file.ensures) (either c.args.keeps c.args.stamp f.stamp c.requires old.stamp)) old.bytes old.size }

pub returns-clause-there : goal.returns-clause-there
returns-clause-there c =
    let at = subst (λ (fs : List MemFile). HasPath fs c.args.path.now c.in-Ok.place) c.deref.ensures.value c.in-Ok.ensures.is in
    ap is_some (there_at c.args.self.now.list.items c.args.path.now c.args.self.now.kept.rising c.in-Ok.place c.index_mut-file.result.now at c.index_mut-file.ensures.value)

pub returns-clause-stamped : goal.returns-clause-stamped
returns-clause-stamped c =
    let files = c.args.self.now.list.items in
    let f = c.index_mut-file.result.now in
    let new : MemFile = record { path = f.path; stamp = c.chosen-file.result; bytes = f.bytes } in
    let at = subst (λ (fs : List MemFile). HasPath fs c.args.path.now c.in-Ok.place) c.deref.ensures.value c.in-Ok.ensures.is in
    let spot = subst (λ (fs : List MemFile). IsPlace fs c.args.path.now c.in-Ok.place) c.deref.ensures.value c.in-Ok.ensures.there in
    tree_changed files c.args.path.now c.in-Ok.place f new c.args.self.now.kept spot at c.index_mut-file.ensures.value refl (with_stamp c.args.keeps c.args.stamp) (ap (λ (s : Stamp). let g : File = record { stamp = s; bytes = f.bytes } in g) c.chosen-file.ensures)
