-- What was last synced, once a sync went to its end.
use Rattle.std.specs.Prelude.{◌≡◌, ℕ, ◌<◌, length, All, true, false}
use Rattle.content_file.specs.Save.{HasSaved}
use Rattle.content_file.specs.Spelling.{spelling}
use Rattle.stripe_findings.specs.Reading.{StripeReading, is_verified, row_of}
use Rattle.snap_sync.specs.Part.{SyncRun}
use Rattle.snap_top.specs.LastSynced.{LastSynced, synced_by}
use Rattle.snap_top.specs.InPart.{EndsInPart}
use Rattle.snap_top.specs.Entry.{Entry, Exit}
use Rattle.snap_top.specs.Standing.{Standing}
use Rattle.snap_top.specs.Did.{Did, syncs}
use Rattle.snap_top.specs.Sync.{end_table}
use Rattle.parity_writer.specs.Sound.{last_row}

-- the row last synced of a verified stripe is the one that the sync read, and no level of its table is changed there from outside
abbrev pub HasReadRow : SyncRun → LastSynced → StripeReading → Type 0
HasReadRow run last reading = is_verified run.plan.start reading ≡ true
    → (last_row last.snapshot reading.stripe ≡ row_of reading) ×
    ((level : ℕ) → level < run.plan.start.shape.levels → last.is_changed reading.stripe level ≡ false)

-- It ended as `synced` says, by the one account of what its run did: all pending stripes were read, and with status 0 all of them are
-- verified. Each copy spells its table. The rows of all that it verified are those that were last synced, and what was last synced of
-- other stripes stays.
pub record IsSyncedLast (before : Entry) (exit : Exit) (status : ℕ) (did : Did) (standing next : Standing) : Type 0 where
  pub ends : EndsInPart before exit status
  pub did_is : did ≡ syncs false ends.run
  pub saved : HasSaved standing.copies (spelling (end_table ends.run)) next.files
  pub last : next.last ≡ synced_by did (length ends.run.readings) standing.last
  pub rows : All (HasReadRow ends.run next.last) ends.run.readings
