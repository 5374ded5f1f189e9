use Rattle.std.proofs.Common.{◌∙◌, ap, sym, inl, inr}
use Rattle.gf256.specs.Field.{product}
use Rattle.gf256.proofs.PowerLemmas.{product_of_powers}
use Rattle.gf256.proofs.ProductLemmas.{product-zero, zero_times}
use Rattle.gf256.proofs.field.mul.Goals as goal

pub returns-then-b-eq0 : goal.returns-then-b-eq0
returns-then-b-eq0 c =
    elim c.if-b-eq0.either [
      | inl no_a ↦ sym (ap (λ x. product x c.args.b) no_a ∙ zero_times c.args.b)
      | inr no_b ↦ sym (ap (product c.args.a) no_b.1 ∙ product-zero c.args.a)
    ]

pub returns-else-b-eq0 : goal.returns-else-b-eq0
returns-else-b-eq0 c =
    let sums = product_of_powers c.logarithm.result c.logarithm-else-b-eq0.result in cc
