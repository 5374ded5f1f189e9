use Rattle.gf256.proofs.InverseLemmas.{power_positive, powers_apart}
use Rattle.gf256.proofs.PowerLemmas.{power_lt, product_of_powers}
use Rattle.gf256.proofs.TableLemmas.{order_of_two}
use Rattle.gf256.proofs.laws.powers.Goals as goal

pub returns : goal.returns
returns c =
    record { element = λ n. (power_positive n, power_lt n); apart = powers_apart; added = product_of_powers; order = order_of_two }
