use Rattle.std.proofs.Common.{◌∙◌, ◌++◌, ◌∷◌, [], ℕ, List, nat_eq, refl, ap, subst, arith}
use Rattle.std.specs.List.{starts_with}
use Rattle.disk_calm.specs.Files.{IsPlace}
use Rattle.disk_calm.specs.declared.files.MemFile.{MemFile}
use Rattle.disk_calm.proofs.InsideLemmas.{none_past, none_unless_first}
use Rattle.disk_calm.proofs.files.Files.holds_none.Goals as goal

pub returns-then-place-len : goal.returns-then-place-len
returns-then-place-len c =
    let list = c.args.self.now.list in
    let path = c.args.path.now in
    let pushed = c.in_ok-push.ensures.items ∙ ap (λ (p : List ℕ). p ++ 47 ∷ []) c.in_ok-front.ensures.items in
    let place = subst (λ (p : List ℕ). IsPlace list.items p c.first_from-place.result) (c.as_slice.ensures.value ∙ pushed) (subst (λ (fs : List MemFile). IsPlace fs c.as_slice.result.now c.first_from-place.result) c.deref.ensures.value c.first_from-place.ensures) in
    let tested = c.begins_with.ensures ∙ ap (λ (p : List ℕ). starts_with nat_eq c.index.result.now.path p) (c.as_slice-then-place-len.ensures.value ∙ pushed) in
    none_unless_first list.items c.args.self.now.kept.rising path c.first_from-place.result place c.index.result.now c.begins_with.result (omega (arith, list.ok.0)) c.index.ensures tested

pub returns : goal.returns
returns c =
    let list = c.args.self.now.list in
    let pushed = c.in_ok-push.ensures.items ∙ ap (λ (p : List ℕ). p ++ 47 ∷ []) c.in_ok-front.ensures.items in
    let place = subst (λ (p : List ℕ). IsPlace list.items p c.first_from-place.result) (c.as_slice.ensures.value ∙ pushed) (subst (λ (fs : List MemFile). IsPlace fs c.as_slice.result.now c.first_from-place.result) c.deref.ensures.value c.first_from-place.ensures) in
    (λ _. none_past list.items c.args.self.now.kept.rising c.args.path.now c.first_from-place.result place (omega (arith, list.ok.0)), λ _. refl)
