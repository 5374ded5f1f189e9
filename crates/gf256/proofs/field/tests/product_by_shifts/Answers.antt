use Rattle.std.proofs.Common.{◌≡◌, ◌/◌, ℕ, ap, sym, ◌∙◌, arith}
use Rattle.std.specs.Int.Bits.{bit_xor, xor_zero_r}
use Rattle.gf256.specs.Field.{product}
use Rattle.gf256.proofs.ProductLemmas.{product-zero}
use Rattle.gf256.proofs.ShiftLemmas.{even_step, odd_step}
use Rattle.gf256.proofs.field.tests.product_by_shifts.Goals as goal
use Rattle.gf256.proofs.field.tests.product_by_shifts.Goals.{then-rest-eq1, else-rest-eq1}

pub loop-rest-preserved : goal.loop-rest-preserved
loop-rest-preserved c =
    let s = c.loop-rest.sum in
    let a = c.loop-rest.shifted in
    let b = c.loop-rest.rest in
    ap (λ (x : ℕ). bit_xor c.if-rest-eq1.sum (product x (b / 2))) c.doubled-shifted.ensures
    ∙ elim c.if-rest-eq1.branch [
      | then-rest-eq1 w ↦
          ap (λ (x : ℕ). bit_xor x (product (product 2 a) (b / 2))) w.sum-is
          ∙ odd_step s a b (omega arith) (omega arith) (omega arith) ∙ c.loop-rest.invariant
      | else-rest-eq1 w ↦
          ap (λ (x : ℕ). bit_xor x (product (product 2 a) (b / 2))) w.sum-is
          ∙ even_step s a b (omega arith) (omega arith) (omega arith) ∙ c.loop-rest.invariant
    ]

pub returns : goal.returns
returns c =
    let done : c.loop-rest.rest ≡ 0 = omega arith in
    sym (ap (λ (x : ℕ). bit_xor c.loop-rest.sum (product c.loop-rest.shifted x)) done
    ∙ ap (bit_xor c.loop-rest.sum) (product-zero c.loop-rest.shifted) ∙ xor_zero_r c.loop-rest.sum)
    ∙ c.loop-rest.invariant
