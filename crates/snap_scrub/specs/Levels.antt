-- What is found in the levels of a stripe, by what is kept of them.
use Rattle.std.specs.Prelude.{ℕ, List, [], ◌∷◌, bytes_eq, if◌then◌else◌}
use Rattle.std.specs.List.{range_with_len, flat_map}
use Rattle.cauchy.specs.Matrix.{parity_of as level_of}
use Rattle.parity_writer.specs.LevelsValue.{LevelsValue, level_at}
use Rattle.parity_writer.specs.Parity.{Row}
use Rattle.parity_writer.specs.declared.levels.LevelRead.{LevelRead}
use Rattle.parity_writer.specs.declared.levels.LevelRead.TheVariants as here
use Rattle.snap_report.specs.declared.events.Event.{Event}
use Rattle.snap_report.specs.declared.events.Event.TheVariants.{ParityIo, Parity}

-- a level that could not be read, is short, or is not the sum of the row
abbrev pub kept_event : ℕ → ℕ → ℕ → Row → LevelRead → List ℕ → List Event
kept_event block_size stripe r row here.Unread block = ParityIo stripe r ∷ []
kept_event block_size stripe r row here.Short block = Parity stripe r ∷ []
kept_event block_size stripe r row here.Bytes block = if bytes_eq block (level_of r block_size row) then [] else Parity stripe r ∷ []

abbrev pub kept_events_at : ℕ → ℕ → Row → LevelsValue → ℕ → List Event
kept_events_at block_size stripe row levels r = kept_event block_size stripe r row (level_at levels r).state (level_at levels r).block

-- of the first so many levels, in order
abbrev pub kept_events : ℕ → ℕ → Row → LevelsValue → ℕ → List Event
kept_events block_size stripe row levels count = flat_map (kept_events_at block_size stripe row levels) (range_with_len 0 count)
