-- Places outside of the block of a stripe.
use Rattle.std.proofs.Common.{◌≡◌, ◌⊎◌, inl, inr, ◌≤◌, ℕ, ◌+◌, ◌*◌, ◌<◌, arith}
use Rattle.parity_writer.specs.Keeps.{IsOutside}

-- a place outside of a stripe's block is outside of the range that is written
pub outside_range : (size stripe at n : ℕ) → at ≡ stripe * size → n ≡ size → (i : ℕ) → IsOutside size stripe i → (i < at) ⊎ (at + n ≤ i)
outside_range size stripe at n is as_many i (inl below) = inl (omega (arith, is, below))
outside_range size stripe at n is as_many i (inr above) = inr (omega (arith, is, as_many, above))
