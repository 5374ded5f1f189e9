use Rattle.std.proofs.Common.{◌≡◌, ◌<◌, ℕ, List, [], ◌∷◌, ◌++◌, take, sym, ◌∙◌, ap, length, arith}
use Rattle.std.proofs.lemmas.List.{get_or-take}
use Rattle.parity_writer.specs.LevelsValue.{LevelValue, no_level}
use Rattle.stripe_examiner.specs.Known.{is_whole, whole_level}
use Rattle.stripe_examiner.proofs.KnowLemmas.{passed_one, passed_none}
use Rattle.stripe_examiner.proofs.knowing.whole_levels.Goals as goal
use Rattle.stripe_examiner.proofs.knowing.whole_levels.Goals.{then-is_whole, else-is_whole}

pub loop-r-preserved : goal.loop-r-preserved
loop-r-preserved c =
    let levels = c.args.levels.now in
    let r = c.loop-r.r in
    let p = whole_level (take levels.count levels.levels) in
    let within : r < levels.count = omega (arith, c.requires.count) in
    let test : p r ≡ c.is_whole.result =
    ap (λ (level : LevelValue). is_whole level.state) (get_or-take levels.count levels.levels r no_level within)
    ∙ ap is_whole (sym c.state.ensures) ∙ sym c.is_whole.ensures in
    elim c.if-is_whole.branch [
      | then-is_whole w ↦
          let items = ap (λ v. v.items) w.whole-is ∙ w.push.ensures.items in
          record {
            are = items ∙ ap (λ (xs : List ℕ). xs ++ r ∷ []) c.loop-r.invariant.are ∙ sym (passed_one p r (test ∙ w.if-is_whole.true));
            few = omega (arith, ap (λ v. length v.items) w.whole-is, w.push.ensures.len, c.loop-r.invariant.few);
          }
      | else-is_whole w ↦ record {
        are = ap (λ v. v.items) w.whole-is ∙ c.loop-r.invariant.are ∙ sym (passed_none p r (test ∙ w.if-is_whole.false));
        few = omega (arith, ap (λ v. length v.items) w.whole-is, c.loop-r.invariant.few);
      }
    ]
