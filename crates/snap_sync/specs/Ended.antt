-- What a sync that ended says of the stripes that it read, and what was found in them.
use Rattle.std.specs.Prelude.{◌≡◌, ℕ, ◌+◌, List, length, Contains}
use Rattle.file_table.specs.Table.{TableValue}
use Rattle.snap_report.specs.declared.events.Event.{Event}
use Rattle.snap_report.specs.declared.events.Event.TheVariants.{ChangedBlock, Silent, Io}
use Rattle.snap_sync.specs.declared.syncing.SyncEnd.{SyncEnd}
use Rattle.snap_sync.specs.Closing.{closed, verified_in}
use Rattle.stripe_findings.specs.Findings.{events_of}
use Rattle.stripe_findings.specs.Reading.{StripeReading}
use Rattle.snap_sync.specs.Work.{more_findings}

-- the end of a sync that read these: its table, how many stripes are verified and how many are not, and how many findings
pub record IsEndOf (start : TableValue) (now : ℕ) (readings : List StripeReading) (end : SyncEnd) : Type 0 where
  pub table_is : end.table ≡ closed now start readings
  pub synced : end.synced ≡ verified_in start readings
  pub pending : end.synced + end.pending ≡ length readings
  pub findings : end.findings ≡ more_findings 0 (length (events_of start readings))

-- an event is a finding in a block of a stripe
abbrev pub IsFindingOf : ℕ → Event → Type 0
IsFindingOf stripe (ChangedBlock at disk rec index found got) = at ≡ stripe
IsFindingOf stripe (Silent at disk rec index recorded found) = at ≡ stripe
IsFindingOf stripe (Io at disk rec index) = at ≡ stripe
IsFindingOf stripe _ = ⊥

-- something was found in a stripe
pub record IsFoundIn (events : List Event) (stripe : ℕ) : Type 0 where
  pub event : Event
  pub among : Contains events event
  pub is_of : IsFindingOf stripe event

-- an event is not of a changed block of a column
abbrev pub NotAChangedBlock : ℕ → Event → Type 0
NotAChangedBlock d (ChangedBlock stripe disk rec index found got) = disk ≡ d → ⊥
NotAChangedBlock d _ = Unit {0}
