use borrow.Author.Count.{below_more}
use Rattle.std.proofs.Common.{◌≢◌, ℕ, ◌+◌, ◌<◌, length, get_or, set, sym, subst, ◌∙◌, arith}
use Rattle.std.proofs.lemmas.List.{get_or-set_same, get_or-set_other, get_or_default}
use Rattle.std.specs.Fork.{ChangesAt}
use Rattle.stripe_reader.proofs.parts.in_turn.Goals as goal

pub loop-k-preserved : goal.loop-k-preserved
loop-k-preserved g c =
    let k = c.loop-k.k in
    let xs = c.args.part.now in
    let ys = c.loop-k.part in
    let y = c.at_one.new.it in
    let R : ℕ → g.row.T.Denot → g.row.T.Denot → Type 0 = λ j. ChangesAt g.F.Fn c.args.f.now (c.args.start + j) in
    let there : k < length ys = omega arith in
    record {
      others = λ j d above. let apart : j ≢ k = omega (arith, above) in get_or-set_other ys k j y d apart ∙ c.loop-k.invariant.others j d (omega (arith, above));
      done = λ j d. below_more (λ i. R i (get_or xs i d) (get_or (set ys k y) i d)) k
          (λ i below. let apart : i ≢ k = omega (arith, below) in subst (R i (get_or xs i d)) (sym (get_or-set_other ys k i y d apart)) (c.loop-k.invariant.done i d below))
          (subst (R k (get_or xs k d)) (sym (get_or-set_same ys k y d there))
          (subst (λ x. R k x y) (get_or_default ys k _ d there ∙ c.loop-k.invariant.others k d (omega arith)) c.at_one.ensures))
          j;
    }
