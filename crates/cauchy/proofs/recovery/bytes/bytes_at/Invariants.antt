use Rattle.std.proofs.Common.{◌≡◌, ◌<◌, ℕ, length, get_or}
use Rattle.cauchy.specs.System.{byte_in}
use Rattle.cauchy.proofs.recovery.bytes.bytes_at.Given as goal

abbrev pub invariant-loop-i : goal.invariant-loop-i
invariant-loop-i l =
    record {
      long : length l.bytes.items ≡ l.i;
      made : (k : ℕ) → k < l.i → get_or l.bytes.items k 0 ≡ byte_in l.block l.work l.p k;
    }
