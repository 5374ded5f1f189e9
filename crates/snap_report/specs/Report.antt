-- What reports are told.
use Rattle.std.specs.Prelude.{◌≡◌, ℕ, ◌≤◌, ◌<◌, length, slice_index_or, List, [], ◌∷◌, ◌++◌, Bool, true, false, IsTrue, Result, IsOk, OnOk, OnErr}
use Rattle.disk_model.specs.Cause.{Rose}
use Rattle.disk_model.specs.Sink.{SinkView, AppendsPart}
use Rattle.disk_model.specs.declared.fault.Failed.{Failed}
use Rattle.snap_report.specs.declared.events.Event.{Event}

-- A report: its count of failed calls, whether a call failed, and whether none ever fails. Where `tells` is true, written is all text that
-- it has written so far.
pub record ReportView : Type 0 where
  pub faults : ℕ
  pub failed : Bool
  pub steady : Bool
  pub tells : Bool
  pub written : List ℕ

-- of a report that writes to a sink of its own
abbrev pub of_sink : Bool → SinkView → ReportView
of_sink failed sink = record { faults = sink.faults; failed = failed; steady = false; tells = sink.tells; written = sink.written }

-- One call: the event comes after those that the report stands for, and its line after what was written; or the report has failed, its
-- count has risen, and a prefix of the line was written.
pub record IsTake {T : Type 0} (line : List ℕ) (event : Event) (result : Result T Failed) (old : ReportView) (stood : List Event → Type 0) (new : ReportView) (stands : List Event → Type 0) : Type 0 where
  pub later : old.faults ≤ new.faults
  pub steady : new.steady ≡ old.steady
  pub never : IsTrue old.steady → IsOk result
  pub ok : OnOk result (new.failed ≡ false)
  pub err : OnErr result (new.failed ≡ true)
  pub unfailed : OnOk result (new.faults ≡ old.faults)
  pub cause : OnErr result (Rose old.faults new.faults)
  pub told : OnOk result ((events : List Event) → stood events → stands (events ++ event ∷ []))
  pub tells : new.tells ≡ old.tells
  pub whole : OnOk result (IsTrue old.tells → new.written ≡ old.written ++ line)
  pub part : IsTrue old.tells → AppendsPart line old.written new.written

-- Events, with this text of their lines, were given to a report, up to its first failed call. Then a prefix of the text was written. A failed
-- report is as it was.
pub record Given {R : Type 0} (standing : R → ReportView) (stands : R → List Event → Type 0) (text : List ℕ) (events : List Event) (old new : R) : Type 0 where
  pub later : (standing old).faults ≤ (standing new).faults
  pub steady : (standing new).steady ≡ (standing old).steady
  pub stays : (standing old).failed ≡ true → new ≡ old
  pub told : (standing new).failed ≡ false → (before : List Event) → stands old before → stands new (before ++ events)
  pub unfailed : (standing new).failed ≡ false → (standing new).faults ≡ (standing old).faults
  pub cause : (standing old).failed ≡ false → (standing new).failed ≡ true → Rose (standing old).faults (standing new).faults
  pub never : IsTrue (standing old).steady → (standing old).failed ≡ false → (standing new).failed ≡ false
  pub tells : (standing new).tells ≡ (standing old).tells
  pub whole : (standing new).failed ≡ false → IsTrue (standing old).tells → (standing new).written ≡ (standing old).written ++ text
  pub part : IsTrue (standing old).tells → AppendsPart text (standing old).written (standing new).written

-- the same of each report in its place
pub record AllGiven {R : Type 0} (standing : R → ReportView) (stands : R → List Event → Type 0) (text : List ℕ) (events : List Event) (olds news : List R) : Type 0 where
  pub places : length news ≡ length olds
  pub each : (i : ℕ) (none : R) → i < length olds → Given standing stands text events (slice_index_or olds i none) (slice_index_or news i none)
