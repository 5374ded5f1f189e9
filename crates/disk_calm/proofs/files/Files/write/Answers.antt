use Rattle.std.proofs.Common.{List, ℕ, ◌+◌, ◌<◌, length, Option, IsSomeAnd, refl, subst, ap, is_some, arith}
use Rattle.disk_calm.specs.Files.{HasPath, IsPlace, LacksPath, with_bytes}
use Rattle.disk_calm.specs.declared.files.MemFile.{MemFile}
use Rattle.disk_calm.proofs.PlaceLemmas.{there_at, not_there}
use Rattle.disk_calm.proofs.BytesLemmas.{slice_bytes}
use Rattle.disk_calm.proofs.SetLemmas.{on_any, old_file, kept_changed, tree_changed, not_changed, put_fits, put_bytes}
use Rattle.disk_model.specs.Tree.{File}
use Rattle.disk_model.specs.Bytes.{put}
use Rattle.disk_calm.proofs.files.Files.write.Goals as goal

pub returns-in_default-clause-there : goal.returns-in_default-clause-there
returns-in_default-clause-there c =
    let lacks = subst (λ (fs : List MemFile). LacksPath fs c.args.path.now) c.deref.ensures.value c.in_default.ensures.lacks in
    ap is_some (not_there c.args.self.now.list.items c.args.path.now c.args.self.now.kept.rising lacks)

pub returns-in_default-clause-written : goal.returns-in_default-clause-written
returns-in_default-clause-written c =
    let lacks = subst (λ (fs : List MemFile). LacksPath fs c.args.path.now) c.deref.ensures.value c.in_default.ensures.lacks in
    not_changed c.args.self.now.list.items c.args.path.now (with_bytes (λ (old : List ℕ). put old c.args.at c.args.bytes.now)) c.args.self.now.kept.rising lacks

pub invariant_of-self : goal.invariant_of-self
invariant_of-self c =
    let files = c.args.self.now.list.items in
    let f = c.index_mut.result.now in
    let new : MemFile = record { path = f.path; stamp = f.stamp; bytes = c.put.new.self } in
    let at = subst (λ (fs : List MemFile). HasPath fs c.args.path.now c.in-Ok.place) c.deref.ensures.value c.in-Ok.ensures.is in
    let spot = subst (λ (fs : List MemFile). IsPlace fs c.args.path.now c.in-Ok.place) c.deref.ensures.value c.in-Ok.ensures.there in
    let old = old_file files c.args.path.now c.in-Ok.place f c.args.self.now.kept at c.index_mut.ensures.value in
    record { kept = kept_changed files c.args.path.now c.in-Ok.place f new c.args.self.now.kept spot at c.index_mut.ensures.value refl old.stamp (put_bytes c.put.result f.bytes c.put.new.self c.args.at c.args.bytes.now c.put.ensures.ok c.put.ensures.err old.bytes (slice_bytes c.args.bytes.now (λ i. omega (arith, c.type_inv.bytes i)))) (put_fits c.put.result f.bytes c.put.new.self c.args.at c.args.bytes.now c.put.ensures.ok c.put.ensures.err old.size c.requires) }

pub returns-clause-there : goal.returns-clause-there
returns-clause-there c =
    let at = subst (λ (fs : List MemFile). HasPath fs c.args.path.now c.in-Ok.place) c.deref.ensures.value c.in-Ok.ensures.is in
    ap is_some (there_at c.args.self.now.list.items c.args.path.now c.args.self.now.kept.rising c.in-Ok.place c.index_mut.result.now at c.index_mut.ensures.value)

pub returns-clause-written : goal.returns-clause-written
returns-clause-written c =
    let files = c.args.self.now.list.items in
    let f = c.index_mut.result.now in
    let new : MemFile = record { path = f.path; stamp = f.stamp; bytes = c.put.new.self } in
    let at = subst (λ (fs : List MemFile). HasPath fs c.args.path.now c.in-Ok.place) c.deref.ensures.value c.in-Ok.ensures.is in
    let spot = subst (λ (fs : List MemFile). IsPlace fs c.args.path.now c.in-Ok.place) c.deref.ensures.value c.in-Ok.ensures.there in
    tree_changed files c.args.path.now c.in-Ok.place f new c.args.self.now.kept spot at c.index_mut.ensures.value refl (with_bytes (λ (old : List ℕ). put old c.args.at c.args.bytes.now)) (ap (λ (bs : List ℕ). let g : File = record { stamp = f.stamp; bytes = bs } in g) c.in_ok-put.ensures.ok)

pub returns-in_err-put-clause-full : goal.returns-in_err-put-clause-full
returns-in_err-put-clause-full c =
    let at = subst (λ (fs : List MemFile). HasPath fs c.args.path.now c.in-Ok.place) c.deref.ensures.value c.in-Ok.ensures.is in
    on_any c.from_residual.result
    (subst (λ (o : Option File). IsSomeAnd o (λ file. length file.bytes < (c.args.at + length c.args.bytes.now)))
    (there_at c.args.self.now.list.items c.args.path.now c.args.self.now.kept.rising c.in-Ok.place c.index_mut.result.now at c.index_mut.ensures.value) c.in_err-put.ensures.full)
