use Rattle.std.proofs.Common.{◌≡◌, ◌+◌, ◌*◌, ◌%◌, ◌<◌, ◌^◌, ℕ, ap, ◌∙◌, arith, w64}
use Rattle.std.proofs.lemmas.Nat.Bits.{bit_at_ones, bit_at-trailing_ones}
use Rattle.std.specs.Int.{bit_at, trailing_ones}
use Rattle.position_alloc.proofs.tree.lowest_in.Goals as goal

pub returns-then-word-eq18446744073709551615 : goal.returns-then-word-eq18446744073709551615
returns-then-word-eq18446744073709551615 c =
    record {
      below = λ k h before. ap (λ (word : ℕ). bit_at word k) c.if-word-eq18446744073709551615.true ∙ bit_at_ones 64 k h;
      free = λ h. absurd (omega arith);
    }

pub returns-else-word-eq18446744073709551615 : goal.returns-else-word-eq18446744073709551615
returns-else-word-eq18446744073709551615 c =
    let word = c.args.word in
    let x : ℕ = 64 * c.args.index + c.trailing_ones.result in
    let same : c.trailing_ones.result ≡ trailing_ones w64 word = c.trailing_ones.ensures in
    let partial : word + 1 < 2 ^ 64 = omega arith in
    let ones = bit_at-trailing_ones w64 word partial in
    let place : x % 64 ≡ trailing_ones w64 word = omega (arith, ones.0) in
    record {
      below = λ k h before. ones.2 k (omega arith);
      free = λ h. (omega (arith, ones.0), ap (bit_at word) place ∙ ones.1);
    }
