use Rattle.std.proofs.Common.{◌≡◌, ℕ, ◌+◌, ◌<◌, ◌≤◌, length, get_or}
use Rattle.cauchy.proofs.lanes.load_end.Given as goal

abbrev pub invariant-loop-k : goal.invariant-loop-k
invariant-loop-k l =
    record {
      long : length l.end ≡ 32;
      made : (q : ℕ) → q < l.k → get_or l.end q 0 ≡ get_or l.bytes (l.start + q) 0;
      zeros : (q : ℕ) → l.k ≤ q → q < 32 → get_or l.end q 0 ≡ 0;
    }
