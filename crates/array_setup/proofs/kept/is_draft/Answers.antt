use Rattle.std.proofs.Common.{◌≡◌, ℕ, List, ◌++◌, Some, None, codes, ap, sym, ◌∙◌}
use Rattle.std.proofs.lemmas.Bool.Decides.{Decides-eqb}
use Rattle.std.proofs.lemmas.Slice.Eq.{strip_suffix_is}
use Rattle.array_setup.proofs.KeepsLemmas.{drafts-behind, no_draft}
use Rattle.array_setup.proofs.kept.is_draft.Goals as goal

pub returns-in-Some : goal.returns-in-Some
returns-in-Some c =
    let content = c.in-Some.content.now in
    let split : c.args.path.now ≡ content ++ codes ".tmp" =
    strip_suffix_is Decides-eqb c.args.path.now c.as_slice.result.now (Some c.in-Some.content) c.in-Some.ensures.cases ∙ ap (λ (ending : List ℕ). content ++ ending) c.as_slice.ensures in
    c.is_among.ensures ∙ sym (drafts-behind c.args.contents.now c.args.dir.now c.args.path.now content split)

pub returns-in-None : goal.returns-in-None
returns-in-None c =
    let none = strip_suffix_is Decides-eqb c.args.path.now c.as_slice.result.now None c.in-None.ensures.cases in
    sym (no_draft c.args.contents.now c.args.dir.now c.args.path.now (λ content same. none content (same ∙ ap (λ (ending : List ℕ). content ++ ending) (sym c.as_slice.ensures))))
