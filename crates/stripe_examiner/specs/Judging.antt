-- Which levels of a stripe are wrong, told by flags.
use Rattle.std.specs.Prelude.{◌≡◌, ℕ, ◌<◌, List, [], ◌∷◌, get_or, Bool, false, if◌then◌else◌, Option}
use Rattle.std.specs.List.{range_with_len, flat_map}
use Rattle.parity_writer.specs.LevelsValue.{LevelsValue, level_at}
use Rattle.parity_writer.specs.Parity.{Row}
use Rattle.snap_report.specs.declared.events.Event.{Event}
use Rattle.snap_report.specs.declared.events.Event.TheVariants.{Parity}
use Rattle.stripe_examiner.specs.Findings.{is_wrong}
use Rattle.repair_scope.specs.Plan.{FixPlan}

-- the flag of each level that was read tells whether it may be written and is wrong
abbrev pub TellsWrong : FixPlan → ℕ → LevelsValue → Option Row → List Bool → Type 0
TellsWrong plan stripe levels row wrong =
    (r : ℕ) → r < levels.count → get_or wrong r false ≡ is_wrong plan stripe (level_at levels r) row r

-- the events of the levels with a flag
abbrev pub flagged_event : ℕ → List Bool → ℕ → List Event
flagged_event stripe wrong r = if get_or wrong r false then Parity stripe r ∷ [] else []

abbrev pub flagged_events : ℕ → List Bool → ℕ → List Event
flagged_events stripe wrong count = flat_map (flagged_event stripe wrong) (range_with_len 0 count)
