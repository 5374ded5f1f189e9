use Rattle.std.proofs.Common.{◌≡◌, ◌∙◌, ap, arith}
use Rattle.gf256.specs.Field.{product}
use Rattle.gf256.proofs.InverseLemmas.{inverse_power, inverse_unique}
use Rattle.gf256.proofs.field.inv.Goals as goal

pub returns-clause-product_is : goal.returns-clause-product_is
returns-clause-product_is c =
    ap (product c.args.a) c.power_at.ensures ∙ inverse_power c.args.a c.logarithm.result c.logarithm.ensures.below c.logarithm.ensures.power_is

pub returns-clause-inverse_is : goal.returns-clause-inverse_is
returns-clause-inverse_is c =
    let one : product c.args.a c.power_at.result ≡ 1 =
    ap (product c.args.a) c.power_at.ensures ∙ inverse_power c.args.a c.logarithm.result c.logarithm.ensures.below c.logarithm.ensures.power_is in
    inverse_unique c.args.a c.power_at.result c.requires (omega arith) (omega arith) one
