use Rattle.std.proofs.Common.{◌≡◌, ℕ, ◌<◌, ◌≤◌, take, true, get_or, slice_index}
use Rattle.gf256.specs.Field.{field_sum}
use Rattle.cauchy.specs.Matrix.{parity_byte}
use Rattle.cauchy.specs.System.{byte_in}
use Rattle.parity_writer.specs.LevelsValue.{no_level}
use Rattle.parity_writer.specs.WindowRow.{row_at}
use Rattle.stripe_examiner.specs.Known.{whole_level}
use Rattle.stripe_examiner.proofs.remainders.fill_in_turn.Given as goal

-- the blocks of the levels so far are added to their sums, and the others are sums
abbrev pub invariant-loop-r : goal.invariant-loop-r
invariant-loop-r l =
    let read = take l.levels.count l.levels.levels in
    let row = row_at l.window l.i in
    record {
      added : (k p : ℕ) → k < l.r → whole_level read k ≡ true → p < l.size
          → byte_in l.size l.remainders p k ≡ field_sum (slice_index (get_or read k no_level).block p) (parity_byte k row p);
      rest : (k p : ℕ) → l.r ≤ k → k < l.count → p < l.size → byte_in l.size l.remainders p k ≡ parity_byte k row p;
    }
