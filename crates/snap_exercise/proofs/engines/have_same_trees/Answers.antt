use Rattle.std.proofs.Common.{◌≡◌, ◌∙◌, ◌<◌, length, true, false, refl, sym, arith, IsTrue}
use Rattle.snap_exercise.proofs.EngineLemmas.{same_tree_at, same_trees}
use Rattle.snap_exercise.proofs.engines.have_same_trees.Goals as goal

untrue : IsTrue false → ⊥
untrue told = cc

pub returns-then-not-has_files_of : goal.returns-then-not-has_files_of
returns-then-not-has_files_of c = (
  λ yes. absurd (untrue yes),
  λ same.
      let folders = c.args.folders.now in
      let others = c.args.others.now in
      let within : c.loop-d.d < length folders = omega arith in
      let there : c.loop-d.d < length others = omega arith in
      let alike = same_tree_at folders others c.loop-d.d c.index-folders-d.result c.index-others-d.result within there c.index-folders-d.is c.index-others-d.is same in
      let clash : true ≡ false = sym (c.has_files_of.ensures.1 alike) ∙ c.if-not-has_files_of.true in
      cc,
)

pub returns : goal.returns
returns c = (λ _. same_trees c.args.folders.now c.args.others.now (omega arith) (λ i d below. c.loop-d.invariant i d (omega arith)), λ _. refl)
