use Rattle.std.proofs.Common.{◌≡◌, List, [], ◌∷◌, Vec, Global, map, refl, ap, ◌∙◌}
use Rattle.stripe_reader.specs.declared.starts.Start.{Start}
use Rattle.file_restorer.specs.State.{first_state, first_states}
use Rattle.snap_fix.proofs.repairs.states_before.Goals as goal

both_maps : {A B C : Type 0} (f : A → B) (g : B → C) (xs : List A) → map (λ (x : A). g (f x)) xs ≡ map g (map f xs)
both_maps f g [] = refl
both_maps {C = C} f g (x ∷ xs) = ap (λ (ys : List C). g (f x) ∷ ys) (both_maps f g xs)

pub returns : goal.returns
returns c =
    c.in_ok-columns.ensures
    ∙ ap (λ (columns : List (Vec Start Global)). map (λ (column : Vec Start Global). map first_state column.items) columns) c.as_slice.ensures.value
    ∙ both_maps (λ (column : Vec Start Global). column.items) (λ (column : List Start). map first_state column) c.starts.inside.columns.items
    ∙ ap first_states c.starts.view_is
