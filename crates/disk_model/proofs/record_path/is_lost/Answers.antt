use Rattle.std.proofs.Common.{◌≡◌, length, ◌-◌, take, ◌∙◌, ap, List, ℕ, ◌++◌, sym}
use Rattle.std.proofs.lemmas.Slice.Eq.{ends_is}
use Rattle.std.proofs.lemmas.Bool.Decides.{Decides-eqb}
use Rattle.disk_model.specs.Path.{lost_suffix}
use Rattle.disk_model.proofs.record_path.is_lost.Goals as goal

pub returns : goal.returns
returns c =
    let suffix = c.as_slice.result.now in
    let same : suffix ≡ lost_suffix = c.as_slice.ensures in
    let both = ends_is Decides-eqb c.args.part.now suffix c.ends_with.result c.ends_with.ensures.value in (
      λ is. (take (length c.args.part.now - length suffix) c.args.part.now, both.0 is ∙ ap (λ (p : List ℕ). take (length c.args.part.now - length suffix) c.args.part.now ++ p) same),
      λ ends. both.1 ends.0 (ends.1 ∙ ap (λ (p : List ℕ). ends.0 ++ p) (sym same)),
    )
