-- Stripes that a scrub looks at, one after another.
use Rattle.std.specs.Prelude.{◌≡◌, ℕ, List, [], ◌∷◌, length, map, All}
use Rattle.std.specs.List.{range_with_len, list_any}
use Rattle.disk_model.specs.Folder.{FolderView}
use Rattle.disk_model.specs.Sink.{SinkView}
use Rattle.disk_model.specs.Vault.{VaultView}
use Rattle.file_table.specs.Table.{TableValue}
use Rattle.snap_report.specs.Report.{ReportView}
use Rattle.snap_report.specs.Told.{Told}
use Rattle.snap_report.specs.declared.events.Event.{Event}
use Rattle.snap_report.specs.declared.pages.Lines.{Lines}
use Rattle.stripe_findings.specs.Reading.{AreRead, reading_at, stripes_of}
use Rattle.stripe_reader.specs.WindowValue.{WindowValue}
use Rattle.snap_scrub.specs.declared.verdict.Verdict.{Verdict}
use Rattle.snap_scrub.specs.declared.verdict.Found.{Found}
use Rattle.snap_scrub.specs.Findings.{scrub_events, events_of}
use Rattle.snap_scrub.specs.Marks.{makes_bad, verdict_of, at_most}
use Rattle.snap_scrub.specs.Reading.{ScrubReading, HasLevels, LevelsAreRead, cells_of}

-- what is looked at: the vault, the lines, and those who are told
pub record Scene (W R : Type 0) : Type 1 where
  pub vault : VaultView
  pub lines : Lines W
  pub reports : List R

abbrev pub scene : {W R : Type 0} → VaultView → Lines W → List R → Scene W R
scene vault lines reports = record { vault = vault; lines = lines; reports = reports }

-- so many findings, and whether one of them makes its stripe bad
pub record AreFound (events : List Event) (found : Found) : Type 0 where
  pub count : found.count ≡ length events
  pub bad : found.bad ≡ list_any makes_bad events

-- Stripes were looked at: their levels were read where all their cells are right, and just their events were told.
pub record LooksAt {W R : Type 0} (view : W → SinkView) (standing : R → ReportView) (stands : R → List Event → Type 0)
    (table : TableValue) (readings : List ScrubReading) (old new : Scene W R) : Type 0 where
  pub due : All (HasLevels table) readings
  pub levels : LevelsAreRead table readings old.vault new.vault
  pub told : Told view standing stands table.columns (events_of table readings) old.lines new.lines old.reports new.reports

-- A stripe of a window was looked at, as it was read into it.
pub record LooksAtOne {W R : Type 0} (view : W → SinkView) (standing : R → ReportView) (stands : R → List Event → Type 0)
    (table : TableValue) (stripes : List ℕ) (window : WindowValue) (i : ℕ) (found : Found) (old new : Scene W R) : Type 0 where
  pub reading : ScrubReading
  pub cells_are : reading.cells ≡ reading_at stripes window i
  pub due : HasLevels table reading
  pub found_are : AreFound (scrub_events table reading) found
  pub told : Told view standing stands table.columns (scrub_events table reading) old.lines new.lines old.reports new.reports
  pub levels : LevelsAreRead table (reading ∷ []) old.vault new.vault

-- The first so many stripes of a window were looked at: these are their verdicts, and so many findings were told.
pub record LooksInto {W R : Type 0} (view : W → SinkView) (standing : R → ReportView) (stands : R → List Event → Type 0)
    (table : TableValue) (stripes : List ℕ) (window : WindowValue) (count : ℕ) (verdicts : List Verdict) (findings : ℕ)
    (old new : Scene W R) : Type 0 where
  pub readings : List ScrubReading
  pub cells_are : cells_of readings ≡ map (reading_at stripes window) (range_with_len 0 count)
  pub looks : LooksAt view standing stands table readings old new
  pub verdicts_are : verdicts ≡ map (verdict_of table) readings
  pub findings_are : findings ≡ at_most (length (events_of table readings))

-- Stripes were read of the folders and looked at.
pub record LooksOver {W R : Type 0} (view : W → SinkView) (standing : R → ReportView) (stands : R → List Event → Type 0)
    (table : TableValue) (stripes : List ℕ) (verdicts : List Verdict) (findings : ℕ) (olds news : List FolderView)
    (old new : Scene W R) : Type 0 where
  pub readings : List ScrubReading
  pub numbers : stripes_of (cells_of readings) ≡ stripes
  pub read : AreRead table (cells_of readings) olds news
  pub looks : LooksAt view standing stands table readings old new
  pub verdicts_are : verdicts ≡ map (verdict_of table) readings
  pub findings_are : findings ≡ at_most (length (events_of table readings))
