use Rattle.std.proofs.Common.{◌∙◌, ℕ, List, subst, sym, ap, is_ok}
use Rattle.disk_calm.specs.Files.{HasPath, IsPlace, LacksPath, IsKept, tree_of}
use Rattle.disk_calm.specs.declared.files.MemFile.{MemFile}
use Rattle.disk_calm.proofs.SetLemmas.{kept_set, tree_set, kept_insert, tree_insert}
use Rattle.disk_calm.proofs.files.Files.put.Goals as goal

pub invariant_of-self : goal.invariant_of-self
invariant_of-self c =
    let files = c.args.self.now.list.items in
    let path = c.as_bytes.ensures.value ∙ c.as_str.ensures.value in
    let new : MemFile = record { path = c.args.path; stamp = c.args.stamp; bytes = c.args.bytes } in
    let at = subst (λ (p : List ℕ). HasPath files p c.in-Ok.place) path (subst (λ (fs : List MemFile). HasPath fs c.as_bytes.result.now c.in-Ok.place) c.deref.ensures.value c.in-Ok.ensures.is) in
    let place = subst (λ (p : List ℕ). IsPlace files p c.in-Ok.place) path (subst (λ (fs : List MemFile). IsPlace fs c.as_bytes.result.now c.in-Ok.place) c.deref.ensures.value c.in-Ok.ensures.there) in
    record { kept = kept_set files c.in-Ok.place new c.args.self.now.kept place at c.requires }

pub returns-in-Ok-clause-ok : goal.returns-in-Ok-clause-ok
returns-in-Ok-clause-ok c =
    let files = c.args.self.now.list.items in
    let path = c.as_bytes.ensures.value ∙ c.as_str.ensures.value in
    let new : MemFile = record { path = c.args.path; stamp = c.args.stamp; bytes = c.args.bytes } in
    let at = subst (λ (p : List ℕ). HasPath files p c.in-Ok.place) path (subst (λ (fs : List MemFile). HasPath fs c.as_bytes.result.now c.in-Ok.place) c.deref.ensures.value c.in-Ok.ensures.is) in
    let place = subst (λ (p : List ℕ). IsPlace files p c.in-Ok.place) path (subst (λ (fs : List MemFile). IsPlace fs c.as_bytes.result.now c.in-Ok.place) c.deref.ensures.value c.in-Ok.ensures.there) in
    tree_set files c.in-Ok.place new c.args.self.now.kept.rising place at

pub invariant_of-self-in-Err : goal.invariant_of-self-in-Err
invariant_of-self-in-Err c =
    let files = c.args.self.now.list.items in
    let path = c.as_bytes.ensures.value ∙ c.as_str.ensures.value in
    let new : MemFile = record { path = c.args.path; stamp = c.args.stamp; bytes = c.args.bytes } in
    let lacks = subst (λ (p : List ℕ). LacksPath files p) path (subst (λ (fs : List MemFile). LacksPath fs c.as_bytes.result.now) c.deref.ensures.value c.in-Err.ensures.lacks) in
    let place = subst (λ (p : List ℕ). IsPlace files p c.in-Err.place) path (subst (λ (fs : List MemFile). IsPlace fs c.as_bytes.result.now c.in-Err.place) c.deref.ensures.value c.in-Err.ensures.gap) in
    record { kept = subst (λ (fs : List MemFile). IsKept fs) (sym c.insert.ensures.items) (kept_insert files c.in-Err.place new c.args.self.now.kept place lacks c.requires (is_ok c.insert.result)) }

pub returns-in_ok-insert-in-Err-clause-ok : goal.returns-in_ok-insert-in-Err-clause-ok
returns-in_ok-insert-in-Err-clause-ok c =
    let files = c.args.self.now.list.items in
    let path = c.as_bytes.ensures.value ∙ c.as_str.ensures.value in
    let new : MemFile = record { path = c.args.path; stamp = c.args.stamp; bytes = c.args.bytes } in
    let lacks = subst (λ (p : List ℕ). LacksPath files p) path (subst (λ (fs : List MemFile). LacksPath fs c.as_bytes.result.now) c.deref.ensures.value c.in-Err.ensures.lacks) in
    let place = subst (λ (p : List ℕ). IsPlace files p c.in-Err.place) path (subst (λ (fs : List MemFile). IsPlace fs c.as_bytes.result.now c.in-Err.place) c.deref.ensures.value c.in-Err.ensures.gap) in
    ap (λ (fs : List MemFile). tree_of fs) c.in_ok-insert-in-Err.ensures.items ∙ tree_insert files c.in-Err.place new c.args.self.now.kept.rising place lacks
