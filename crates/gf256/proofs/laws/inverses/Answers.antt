use Rattle.gf256.proofs.InverseLemmas.{inverse_lt, product_inverse, inverse_unique, no_zero_factor, quotient_times, quotient_unique}
use Rattle.gf256.proofs.laws.inverses.Goals as goal

pub returns : goal.returns
returns c =
    record {
      element = inverse_lt;
      inverse_is = product_inverse;
      only = inverse_unique;
      no_zero_factor = no_zero_factor;
      quotient_is = quotient_times;
      only_quotient = quotient_unique;
    }
