use Rattle.std.specs.Int.Bits.{xor_assoc, xor_zero_r, xor_self}
use Rattle.std.proofs.lemmas.Nat.{xor_comm, xor_lt}
use Rattle.gf256.proofs.laws.sums.Goals as goal

pub returns : goal.returns
returns c = record { closed = λ a b ha hb. xor_lt 8 a b ha hb; commutative = xor_comm; associative = xor_assoc; zero = xor_zero_r; negative = xor_self }
