use Rattle.std.proofs.Common.{◌≡◌, ◌++◌, ◌∷◌, [], ◌∙◌, ap, sym, cond, List, ℕ, Bool}
use Rattle.std.specs.List.{list_any, starts_with}
use Rattle.std.specs.Prelude.{nat_eq}
use Rattle.disk_model.specs.Path.{lost_suffix}
use Rattle.disk_model.specs.Tree.{listed}
use Rattle.folder_listing.specs.Kept.{ListedFile}
use Rattle.repair_scope.proofs.PlacingLemmas.{directory_bytes}
use Rattle.repair_scope.proofs.finding.holds_one.Goals as goal
use Rattle.repair_scope.proofs.finding.holds_one.Goals.{then-lost, else-lost}

pub returns : goal.returns
returns c =
    let rest_is : c.if-lost.rest.now ≡ cond c.args.lost (lost_suffix ++ 47 ∷ []) (47 ∷ []) =
    elim c.if-lost.branch [
      | then-lost w ↦ ap (λ r. r.now) w.rest-is ∙ ap (λ (t : Bool). cond t (lost_suffix ++ 47 ∷ []) (47 ∷ [])) (sym w.if-lost.true)
      | else-lost w ↦ ap (λ r. r.now) w.rest-is ∙ ap (λ (t : Bool). cond t (lost_suffix ++ 47 ∷ []) (47 ∷ [])) (sym w.if-lost.false)
    ] in
    c.begins_one.ensures
    ∙ ap (λ (bytes : List ℕ). list_any (λ (file : ListedFile). starts_with nat_eq file.0 bytes) (listed c.args.files.now))
    (c.as_slice.ensures.value ∙ c.in_ok-put.ensures ∙ ap (λ (p : List ℕ). p ++ c.if-lost.rest.now) (c.as_bytes.ensures.value ∙ c.as_str.ensures.value)
    ∙ directory_bytes c.args.path.now c.if-lost.rest.now c.args.lost rest_is)
