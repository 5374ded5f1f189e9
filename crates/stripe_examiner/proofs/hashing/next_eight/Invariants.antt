use Rattle.std.proofs.Common.{◌≡◌, ◌*◌, ◌<◌, ◌≤◌, All, length}
use Rattle.stripe_examiner.proofs.hashing.next_eight.Given as goal

abbrev pub invariant-loop-at : goal.invariant-loop-at
invariant-loop-at l = record {
  long : length l.eight ≡ 8;
  few : l.count < 8;
  within : All (λ at. (l.from ≤ at) × (at < length l.rooms * 6)) l.eight;
}
