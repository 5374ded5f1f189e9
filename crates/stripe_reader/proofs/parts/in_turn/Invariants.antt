use Rattle.std.proofs.Common.{◌≡◌, ℕ, ◌+◌, ◌<◌, ◌≤◌, get_or}
use Rattle.std.specs.Fork.{ChangesAt}
use Rattle.stripe_reader.proofs.parts.in_turn.Given as goal

abbrev pub invariant-loop-k : goal.invariant-loop-k
invariant-loop-k g l = record {
  others : (j : ℕ) (d : g.row.T.Denot) → l.k ≤ j → get_or l.part j d ≡ get_or l.initial.part j d;
  done : (j : ℕ) (d : g.row.T.Denot) → j < l.k → ChangesAt g.F.Fn l.f (l.start + j) (get_or l.initial.part j d) (get_or l.part j d);
}
