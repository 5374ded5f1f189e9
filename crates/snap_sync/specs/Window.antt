-- What the parts of a sync ask of a window, and what its judging and writing leave.
use Rattle.std.specs.Prelude.{◌≡◌, ℕ, ◌≤◌, List, length, map, All, Bool, Result, IfOk, OnOk}
use Rattle.disk_model.specs.Ran.{Ran}
use Rattle.disk_model.specs.Sink.{SinkView}
use Rattle.disk_model.specs.Vault.{VaultView, SomeCalls, ChangesBy, Reads, state_of}
use Rattle.disk_model.specs.declared.fault.Failed.{Failed}
use Rattle.file_table.specs.Table.{TableValue}
use Rattle.parity_writer.specs.Chosen.{Choice, IsChosen, rows_with, window_calls}
use Rattle.parity_writer.specs.Parity.{Rows, HoldsRows, WritesBlocks}
use Rattle.parity_writer.specs.Summing.{AreSumsOf, HaveSize}
use Rattle.parity_writer.specs.declared.summing.Sums.{Sums}
use Rattle.snap_report.specs.Report.{ReportView}
use Rattle.snap_report.specs.Told.{Told}
use Rattle.snap_report.specs.declared.events.Event.{Event}
use Rattle.snap_report.specs.declared.pages.Lines.{Lines}
use Rattle.stripe_findings.specs.Findings.{events_of}
use Rattle.stripe_findings.specs.Reading.{is_verified, readings_in}
use Rattle.stripe_reader.specs.Fetched.{IsUnhashedWindow, hashed_window}
use Rattle.stripe_reader.specs.Held.{HoldsStripes}
use Rattle.stripe_reader.specs.WindowValue.{WindowValue, Fits}
use Rattle.snap_sync.specs.declared.judging.Counts.{Counts}
use Rattle.snap_sync.specs.declared.turning.Judged.{Judged}
use Rattle.snap_sync.specs.Run.{AreCounts}
use Rattle.snap_sync.specs.Work.{AreSumsFor}

-- which stripes of a judged window are chosen
abbrev pub choice_of : Judged → Choice
choice_of judged = record { stripes = judged.stripes.now; chosen = judged.chosen.now }

-- the chosen stripes of a window of a table, of whose stripes these are the sums, can be written to a vault
pub record CanWrite (table : TableValue) (judged : Judged) (sums : List Sums) (vault : VaultView) : Type 0 where
  pub levels : vault.levels ≡ table.shape.levels
  pub fits : Fits table judged.window.now
  pub stripes : length judged.stripes.now ≡ judged.window.now.count
  pub chosen : length judged.chosen.now ≡ judged.window.now.count
  pub room : judged.window.now.count ≤ length sums
  pub summed : AreSumsOf judged.window.now table.shape.levels sums

-- The chosen stripes of a window were written: just their writes were made, up to the first that failed, and only their blocks changed.
-- If none failed, parity has their sums, and those that it had of other rows.
pub record WritesWindow {T : Type 0} (window : WindowValue) (choice : Choice) (result : Result T Failed) (old new : VaultView) : Type 0 where
  pub calls : SomeCalls old new
  pub ran : Ran (window_calls old.levels window choice window.count) result (state_of old) (state_of new)
  pub changes : ChangesBy (WritesBlocks window.block_size (IsChosen choice)) old new
  pub written : OnOk result ((rows : Rows) → Reads (HoldsRows old.levels window.block_size rows) old
      → Reads (HoldsRows old.levels window.block_size (rows_with window choice window.count rows)) new)

-- what a window is judged and written with: the vault, the lines, and those who are told
pub record Scene (W R : Type 0) : Type 1 where
  pub vault : VaultView
  pub lines : Lines W
  pub reports : List R

abbrev pub scene : {W R : Type 0} → VaultView → Lines W → List R → Scene W R
scene vault lines reports = record { vault = vault; lines = lines; reports = reports }

-- stripes of a window of a table that was fetched can be judged and written to a vault, with room for so many choices, and with room for
-- their sums
pub record CanSync (table : TableValue) (stripes : List ℕ) (window : WindowValue) (choices : ℕ) (sums : List Sums) (vault : VaultView) : Type 0 where
  pub holds : HoldsStripes table stripes window
  pub unhashed : IsUnhashedWindow window
  pub chosen : window.count ≤ choices
  pub room : window.count ≤ length sums
  pub each : All (HaveSize table.shape.block_size) sums
  pub levels : vault.levels ≡ table.shape.levels

-- A window was hashed: just what is found in its stripes was told, and those that are verified are chosen and were written.
pub record SyncsWindow {W R : Type 0} (view : W → SinkView) (standing : R → ReportView) (stands : R → List Event → Type 0)
    (table : TableValue) (stripes : List ℕ) (before after : WindowValue) (chosen : List Bool) (result : Result Counts Failed)
    (old new : Scene W R) : Type 0 where
  pub hashed : after ≡ hashed_window table.shape before
  pub chosen_are : chosen ≡ map (is_verified table) (readings_in stripes after)
  pub told : Told view standing stands table.columns (events_of table (readings_in stripes after)) old.lines new.lines old.reports new.reports
  pub counts : IfOk result (AreCounts table (readings_in stripes after))
  pub writes : WritesWindow after (record { stripes = stripes; chosen = chosen }) result old.vault new.vault

-- the same, with sums made in as many rooms as before
abbrev pub SumsAndSyncs : {W R : Type 0} → (W → SinkView) → (R → ReportView) → (R → List Event → Type 0) → TableValue → List ℕ
    → WindowValue → WindowValue → List Bool → List Sums → List Sums → Result Counts Failed → Scene W R → Scene W R → Type 0
SumsAndSyncs view standing stands table stripes before after chosen sums made result old new =
    AreSumsFor table (length sums) made × SyncsWindow view standing stands table stripes before after chosen result old new
