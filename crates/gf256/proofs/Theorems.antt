-- What is proved of the field, for the proofs of other crates. These are the laws of the module `laws`.
pub use Rattle.gf256.proofs.ProductLemmas.{product_lt, product_comm, product_assoc, one_times, zero_times, product-zero, product_of_sum, sum_times}
pub use Rattle.gf256.proofs.InverseLemmas.{inverse_lt, inverse_positive, product_inverse, inverse_times, inverse_unique, no_zero_factor, product_positive, cancel_left, times_one, quotient_lt, quotient_times, quotient_unique, power_positive, powers_apart}
pub use Rattle.gf256.proofs.PowerLemmas.{power_lt, product_of_powers, power_of_order, power_mod}
pub use Rattle.gf256.proofs.TableLemmas.{order_of_two}
pub use Rattle.gf256.proofs.Additive.{xor_exchange}
pub use Rattle.gf256.proofs.ShiftLemmas.{twice_small, twice_large}
pub use Rattle.gf256.proofs.HalfLemmas.{product_by_parts}
