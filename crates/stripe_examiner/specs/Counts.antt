-- How many findings there are, and how many of them a fix leaves.
use Rattle.std.specs.Prelude.{◌≡◌, ℕ, ◌^◌, ◌-◌, min, List, count_by}
use Rattle.snap_report.specs.Kind.{is_finding, is_left}
use Rattle.snap_report.specs.declared.events.Event.{Event}
use Rattle.stripe_examiner.specs.declared.counts.Counts.{Counts}

-- a number that stays at the greatest u64
abbrev pub at_most : ℕ → ℕ
at_most n = min n (2 ^ 64 - 1)

pub record AreCounts (events : List Event) (counts : Counts) : Type 0 where
  pub found : counts.found ≡ at_most (count_by is_finding events)
  pub left : counts.left ≡ at_most (count_by is_left events)
