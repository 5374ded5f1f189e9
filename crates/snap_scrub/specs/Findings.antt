-- What a scrub finds in stripes: each cell that is not right, and, where all are, each level that could not be read or is wrong.
use Rattle.std.specs.Prelude.{ℕ, List, [], ◌∷◌, ◌++◌, length, get_or, bytes_eq, if◌then◌else◌, None, Some}
use Rattle.std.specs.List.{range_with_len, flat_map}
use Rattle.cauchy.specs.Matrix.{parity_of as level_of}
use Rattle.file_table.specs.Table.{TableValue}
use Rattle.parity_writer.specs.LevelReading.{LevelReading}
use Rattle.parity_writer.specs.Parity.{Row}
use Rattle.snap_report.specs.declared.events.Event.{Event}
use Rattle.snap_report.specs.declared.events.Event.TheVariants.{ParityIo, Parity}
use Rattle.stripe_findings.specs.Findings.{stripe_events}
use Rattle.stripe_findings.specs.Reading.{row_of}
use Rattle.snap_scrub.specs.Reading.{ScrubReading}

-- of a level: the vault failed in its reading; or what came is not the sum of the row, as where it is short
abbrev pub level_event : ℕ → ℕ → ℕ → Row → LevelReading → List Event
level_event block_size stripe r row None = ParityIo stripe r ∷ []
level_event block_size stripe r row (Some bytes) = if bytes_eq bytes (level_of r block_size row) then [] else Parity stripe r ∷ []

abbrev pub level_events_at : TableValue → ScrubReading → ℕ → List Event
level_events_at table reading r =
    level_event table.shape.block_size reading.cells.stripe r (row_of reading.cells) (get_or reading.levels r None)

abbrev pub level_events : TableValue → ScrubReading → List Event
level_events table reading = flat_map (level_events_at table reading) (range_with_len 0 (length reading.levels))

-- of a stripe, column by column and then level by level, and of stripes in their order
abbrev pub scrub_events : TableValue → ScrubReading → List Event
scrub_events table reading = stripe_events table reading.cells ++ level_events table reading

abbrev pub events_of : TableValue → List ScrubReading → List Event
events_of table readings = flat_map (scrub_events table) readings
