use Rattle.std.proofs.Common.{◌≡◌, ◌∙◌, ap, arith}
use Rattle.gf256.specs.Field.{product, quotient}
use Rattle.gf256.proofs.InverseLemmas.{quotient_times}
use Rattle.gf256.proofs.field.div.Goals as goal

pub returns-clause-quotient_is : goal.returns-clause-quotient_is
unfolding quotient
returns-clause-quotient_is c = cc

pub returns-clause-product_is : goal.returns-clause-product_is
unfolding quotient
returns-clause-product_is c =
    let found : c.mul.result ≡ quotient c.args.a c.args.b = cc in
    ap (λ x. product x c.args.b) found ∙ quotient_times c.args.a c.args.b (omega arith) c.requires (omega arith)
