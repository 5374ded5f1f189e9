use Rattle.snap_exercise.proofs.array.parts.Goals as goal

pub returns : goal.returns
returns c = c.in_ok-parts.ensures.items_if_clones_equal (λ y same. same)
