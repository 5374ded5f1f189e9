use Rattle.std.proofs.Common.{◌∙◌, ap, sym, List, ℕ}
use Rattle.std.specs.List.{starts_with}
use Rattle.std.specs.Prelude.{nat_eq}
use Rattle.repair_scope.proofs.LookUpLemmas.{in_order, begins_at, begins_nowhere, not_below}
use Rattle.repair_scope.proofs.finding.begins_one.Goals as goal

pub returns-then-place-files : goal.returns-then-place-files
returns-then-place-files c =
    let path = c.as_bytes.ensures.value ∙ c.as_str.ensures.value in
    begins_at c.args.files.now c.args.bytes.now c.first_not_less-place.result c.starts_with.result c.index-files-place.result (in_order c.args.files.now c.requires) c.first_not_less-place.ensures.parts c.if-place-files.true
    (c.starts_with.ensures.value ∙ ap (λ (p : List ℕ). starts_with nat_eq p c.args.bytes.now) path)

pub returns-else-place-files : goal.returns-else-place-files
returns-else-place-files c =
    not_below c.first_not_less-place.result _ c.if-place-files.false ∙ sym (begins_nowhere c.args.files.now c.args.bytes.now c.first_not_less-place.result (in_order c.args.files.now c.requires) c.first_not_less-place.ensures.parts c.if-place-files.false)
