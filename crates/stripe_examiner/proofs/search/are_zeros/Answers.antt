use Rattle.std.proofs.Common.{◌≡◌, ℕ, get_or, ap, ap₂, ◌∙◌, inl, inr, arith}
use Rattle.std.specs.Int.Bits.{bit_or}
use Rattle.std.proofs.lemmas.Bool.{cases_lt}
use Rattle.std.proofs.lemmas.Nat.{le_or_l, le_or_r}
use Rattle.stripe_examiner.proofs.search.are_zeros.Goals as goal

pub loop-i-preserved : goal.loop-i-preserved
loop-i-preserved c =
    let all = c.loop-i.all in
    let i = c.loop-i.i in
    let byte = get_or c.args.bytes.now i 0 in
    record {
      zeros = λ none k below.
          let left = le_or_l all byte in
          let right = le_or_r all byte in
          let so_far : all ≡ 0 = omega (arith, left, none) in
          let here : byte ≡ 0 = omega (arith, right, none) in
          elim (cases_lt k i) [
            | inl earlier ↦ c.loop-i.invariant.zeros so_far k earlier
            | inr later ↦
                let same : k ≡ i = omega (arith, below, later) in
                ap (λ (n : ℕ). get_or c.args.bytes.now n 0) same ∙ here
          ];
      none = λ zeros.
          ap₂ bit_or (c.loop-i.invariant.none (λ k below. zeros k (omega (arith, below)))) (zeros i (omega arith));
    }
