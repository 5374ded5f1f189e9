use Rattle.std.proofs.Common.{◌≡◌, ℕ, ◌<◌, ◌≤◌, take, true, slice_index}
use Rattle.cauchy.specs.Field.{product}
use Rattle.cauchy.specs.Matrix.{entry_of}
use Rattle.cauchy.specs.System.{byte_in}
use Rattle.gf256.specs.Field.{field_sum}
use Rattle.stripe_examiner.specs.Known.{whole_level}
use Rattle.stripe_examiner.proofs.finding.take_block.Given as goal

-- the products of the block are added to the levels so far, and the others are as they were
abbrev pub invariant-loop-r : goal.invariant-loop-r
invariant-loop-r l = record {
  added : (k p : ℕ) → k < l.r → whole_level (take l.levels.count l.levels.levels) k ≡ true → p < l.size
      → byte_in l.size l.remainders p k ≡ field_sum (byte_in l.size l.fn.remainders p k) (product (entry_of k l.column) (slice_index l.block p));
  rest : (k p : ℕ) → l.r ≤ k → p < l.size → byte_in l.size l.remainders p k ≡ byte_in l.size l.fn.remainders p k;
}
