use Rattle.std.proofs.Common.{◌≢◌, inl, inr, sym, ◌∙◌, arith, set, slice_index, subst, ℕ, ◌≡◌}
use Rattle.std.proofs.lemmas.Bool.Decides.{eqb_tells}
use Rattle.std.proofs.lemmas.List.{get_or-set_other, get_or-set_same, length-set}
use Rattle.stripe_reader.proofs.batch.filled.Goals as goal

pub loop-k-preserved : goal.loop-k-preserved
loop-k-preserved c =
    let numbers = c.loop-k.numbers in
    let k = c.loop-k.k in
    let at = c.args.at in
    let so_far = c.loop-k.invariant in
    record {
      long = length-set numbers k at ∙ so_far.long;
      before = λ j near. let apart : j ≢ k = omega (arith, near) in get_or-set_other numbers k j at 0 apart ∙ so_far.before j near;
      behind = λ j far low. elim (eqb_tells j k) [
        | inl same ↦ subst (λ (n : ℕ). slice_index (set numbers k at) n ≡ at) (sym same.1) (get_or-set_same numbers k at 0 (omega (arith, so_far.long)))
        | inr apart ↦ get_or-set_other numbers k j at 0 apart.1 ∙ so_far.behind j far (omega (arith, low, apart.1))
      ];
    }
