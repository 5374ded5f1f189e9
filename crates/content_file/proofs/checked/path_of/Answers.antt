use Rattle.std.proofs.Common.{List, ℕ, Some, ap, sym, ◌∙◌}
use Rattle.content_file.specs.Flaw.{Bad}
use Rattle.content_file.proofs.FlawLemmas.{found_is}
use Rattle.content_file.proofs.FieldLemmas.{path_passes, path_refused}
use Rattle.content_file.proofs.checked.path_of.Goals as goal

pub returns-in-None : goal.returns-in-None
returns-in-None c =
    let same = c.in-Ok-new.ensures.ok ∙ c.in-Ok.ensures.cases.0 in
    path_passes c.args.builder.now.columns c.args.bytes.now c.in-Ok-new.path _ (found_is _ _ _ _ c.in_ok-text.ensures ∙ ap (λ (p : List ℕ). Some (p, c.in_ok-text.rest.now)) (sym same)) c.in-None.ensures

pub returns : goal.returns
returns c =
    let same = c.in-Ok-new.ensures.ok ∙ c.in-Ok.ensures.cases.0 in
    path_refused c.in-Some.fault c.args.builder.now.columns c.args.bytes.now c.in-Ok-new.path _ (found_is _ _ _ _ c.in_ok-text.ensures ∙ ap (λ (p : List ℕ). Some (p, c.in_ok-text.rest.now)) (sym same)) c.in-Some.ensures
    ∙ ap (λ w. Bad w c.args.bytes.now) (sym c.path_flaw.ensures)
