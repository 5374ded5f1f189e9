use Rattle.std.proofs.Common.{List, ℕ, ◌<◌, length, Option, IsSomeAnd, refl, subst, ap, is_some}
use Rattle.disk_calm.specs.Files.{HasPath, IsPlace, LacksPath, with_bytes}
use Rattle.disk_calm.specs.declared.files.MemFile.{MemFile}
use Rattle.disk_calm.proofs.PlaceLemmas.{there_at, not_there}
use Rattle.disk_calm.proofs.SetLemmas.{on_any, old_file, kept_changed, tree_changed, not_changed, resized_fits, resized_bytes}
use Rattle.disk_model.specs.Tree.{File}
use Rattle.disk_model.specs.Bytes.{resized}
use Rattle.disk_calm.proofs.files.Files.resize.Goals as goal

pub returns-in_default-clause-there : goal.returns-in_default-clause-there
returns-in_default-clause-there c =
    let lacks = subst (λ (fs : List MemFile). LacksPath fs c.args.path.now) c.deref.ensures.value c.in_default.ensures.lacks in
    ap is_some (not_there c.args.self.now.list.items c.args.path.now c.args.self.now.kept.rising lacks)

pub returns-in_default-clause-resized : goal.returns-in_default-clause-resized
returns-in_default-clause-resized c =
    let lacks = subst (λ (fs : List MemFile). LacksPath fs c.args.path.now) c.deref.ensures.value c.in_default.ensures.lacks in
    not_changed c.args.self.now.list.items c.args.path.now (with_bytes (λ (old : List ℕ). resized old c.args.size)) c.args.self.now.kept.rising lacks

pub invariant_of-self : goal.invariant_of-self
invariant_of-self c =
    let files = c.args.self.now.list.items in
    let f = c.index_mut.result.now in
    let new : MemFile = record { path = f.path; stamp = f.stamp; bytes = c.set_len.new.self } in
    let at = subst (λ (fs : List MemFile). HasPath fs c.args.path.now c.in-Ok.place) c.deref.ensures.value c.in-Ok.ensures.is in
    let spot = subst (λ (fs : List MemFile). IsPlace fs c.args.path.now c.in-Ok.place) c.deref.ensures.value c.in-Ok.ensures.there in
    let old = old_file files c.args.path.now c.in-Ok.place f c.args.self.now.kept at c.index_mut.ensures.value in
    record { kept = kept_changed files c.args.path.now c.in-Ok.place f new c.args.self.now.kept spot at c.index_mut.ensures.value refl old.stamp (resized_bytes c.set_len.result f.bytes c.set_len.new.self c.args.size c.set_len.ensures.ok c.set_len.ensures.err old.bytes) (resized_fits c.set_len.result f.bytes c.set_len.new.self c.args.size c.set_len.ensures.ok c.set_len.ensures.err old.size c.ranges.size.fits) }

pub returns-clause-there : goal.returns-clause-there
returns-clause-there c =
    let at = subst (λ (fs : List MemFile). HasPath fs c.args.path.now c.in-Ok.place) c.deref.ensures.value c.in-Ok.ensures.is in
    ap is_some (there_at c.args.self.now.list.items c.args.path.now c.args.self.now.kept.rising c.in-Ok.place c.index_mut.result.now at c.index_mut.ensures.value)

pub returns-clause-resized : goal.returns-clause-resized
returns-clause-resized c =
    let files = c.args.self.now.list.items in
    let f = c.index_mut.result.now in
    let new : MemFile = record { path = f.path; stamp = f.stamp; bytes = c.set_len.new.self } in
    let at = subst (λ (fs : List MemFile). HasPath fs c.args.path.now c.in-Ok.place) c.deref.ensures.value c.in-Ok.ensures.is in
    let spot = subst (λ (fs : List MemFile). IsPlace fs c.args.path.now c.in-Ok.place) c.deref.ensures.value c.in-Ok.ensures.there in
    tree_changed files c.args.path.now c.in-Ok.place f new c.args.self.now.kept spot at c.index_mut.ensures.value refl (with_bytes (λ (old : List ℕ). resized old c.args.size)) (ap (λ (bs : List ℕ). let g : File = record { stamp = f.stamp; bytes = bs } in g) c.in_ok-set_len.ensures.ok)

pub returns-in_err-set_len-clause-full : goal.returns-in_err-set_len-clause-full
returns-in_err-set_len-clause-full c =
    let at = subst (λ (fs : List MemFile). HasPath fs c.args.path.now c.in-Ok.place) c.deref.ensures.value c.in-Ok.ensures.is in
    on_any c.from_residual.result
    (subst (λ (o : Option File). IsSomeAnd o (λ file. length file.bytes < c.args.size))
    (there_at c.args.self.now.list.items c.args.path.now c.args.self.now.kept.rising c.in-Ok.place c.index_mut.result.now at c.index_mut.ensures.value) c.in_err-set_len.ensures.full)
