-- Values of the published code, computed on the definitions.
use Rattle.std.proofs.Common.{◌≡◌, refl}
use Rattle.gf256.specs.Field.{product, power, inverse, quotient, remainder, carryless_product}

pub product_of_two_factors : product 0xf5 0x8c ≡ 0x03
unfolding product remainder carryless_product
product_of_two_factors = refl

pub eighth_power : power 8 ≡ 0x1d
unfolding power product remainder carryless_product
eighth_power = refl

-- x^25 is x + 1
pub power_25 : power 25 ≡ 0x03
unfolding power product remainder carryless_product
power_25 = refl

-- x^250 is the inverse of x^5
pub power_250 : power 250 ≡ 0x6c
unfolding power product remainder carryless_product
power_250 = refl

pub half : quotient 1 2 ≡ 0x8e
unfolding quotient inverse product remainder carryless_product
half = refl

pub quarter : quotient 1 4 ≡ 0x47
unfolding quotient inverse product remainder carryless_product
quarter = refl

pub third : quotient 1 3 ≡ 0xf4
unfolding quotient inverse product remainder carryless_product
third = refl
