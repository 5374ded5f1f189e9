use Rattle.std.proofs.Common.{◌≡◌, ◌+◌, ◌<◌, ℕ, [], length, get_or}
use Rattle.cauchy.specs.Lanes.{HasLanes}
use Rattle.cauchy.specs.System.{byte_in}
use Rattle.cauchy.proofs.recovery.groups.lanes_at.Given as goal

abbrev pub invariant-loop-i : goal.invariant-loop-i
invariant-loop-i l =
    record {
      long : length l.lanes ≡ 6;
      made : (k : ℕ) → k < l.i → HasLanes (get_or l.lanes k []) (λ q. byte_in l.block l.work (l.p + q) k);
    }
