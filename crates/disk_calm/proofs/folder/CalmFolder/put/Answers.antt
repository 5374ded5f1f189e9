use Rattle.std.proofs.Common.{◌∙◌, refl, subst}
use Rattle.disk_model.specs.Tree.{IsApart}
use Rattle.disk_calm.specs.Kept.{tree_in}
use Rattle.disk_calm.proofs.folder.CalmFolder.put.Goals as goal

pub returns-clause-allowed : goal.returns-clause-allowed
returns-clause-allowed c =
    let tree = tree_in c.args.self.now.files in
    let apart = c.in_ok-is_apart.ensures.0 c.if-not-branch.false in
    let same = c.as_bytes.ensures.value ∙ c.as_str.ensures.value in
    (λ _. record { is_open = refl; valid = c.as_str.ensures.valid; apart = subst (IsApart tree) same apart }, λ _. refl)
