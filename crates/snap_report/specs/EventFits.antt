-- Which events a table can name.
use Rattle.std.specs.Prelude.{ℕ, ◌<◌, List, length}
use Rattle.file_table.specs.Table.{Column, column_at}
use Rattle.file_table.specs.declared.limits.TheConstants.{MOST_LEVELS}
use Rattle.snap_report.specs.declared.events.Event.{Event}
use Rattle.snap_report.specs.declared.events.Event.TheVariants.{Changed, ChangedBlock, Silent, Io, ParityIo, Parity, Unsynced, Lost, Blocked, Fixed, FixedParity, Restored, Renamed, NoStamp}

-- a disk of the table, and a record of it
pub record IsRecordOf (columns : List Column) (disk rec : ℕ) : Type 0 where
  pub column : disk < length columns
  pub within : rec < length (column_at columns disk).records

-- as far as an event has them, its disk and record are those of the table, and its level is one that a table may have
abbrev pub Fits : List Column → Event → Type 0
Fits columns (Changed disk rec found) = IsRecordOf columns disk rec
Fits columns (ChangedBlock stripe disk rec index found got) = IsRecordOf columns disk rec
Fits columns (Silent stripe disk rec index recorded found) = IsRecordOf columns disk rec
Fits columns (Io stripe disk rec index) = IsRecordOf columns disk rec
Fits columns (ParityIo stripe level) = level < MOST_LEVELS
Fits columns (Parity stripe level) = level < MOST_LEVELS
Fits columns (Unsynced stripe) = Unit {0}
Fits columns (Lost stripe disk rec index) = IsRecordOf columns disk rec
Fits columns (Blocked disk rec) = IsRecordOf columns disk rec
Fits columns (Fixed stripe disk rec index) = IsRecordOf columns disk rec
Fits columns (FixedParity stripe level) = level < MOST_LEVELS
Fits columns (Restored disk rec) = IsRecordOf columns disk rec
Fits columns (Renamed disk rec) = IsRecordOf columns disk rec
Fits columns (NoStamp disk rec) = IsRecordOf columns disk rec
