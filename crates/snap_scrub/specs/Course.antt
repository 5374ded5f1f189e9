-- A scrub as a whole: what it leaves, and why it did not end.
use Rattle.std.specs.Prelude.{◌≡◌, ◌≢◌, ℕ, ◌+◌, List, [], ◌∷◌, ◌++◌, length, All, sum_by, Bool, true, false}
use Rattle.std.specs.List.{flat_map}
use Rattle.content_file.specs.Save.{MaySave, HasSaved, HasNoDraft, piecewise_calls, piece_size}
use Rattle.content_file.specs.Spelling.{spelling}
use Rattle.disk_model.specs.Cause.{RoseBy, Grows}
use Rattle.disk_model.specs.Files.{Files, Stays}
use Rattle.disk_model.specs.Folder.{FolderView}
use Rattle.disk_model.specs.Ran.{Log, RanLog, log_of}
use Rattle.disk_model.specs.Sink.{SinkView}
use Rattle.disk_model.specs.Vault.{VaultView, VaultCall, SomeCalls, ChangesBy, DraftsStay, Holds, IsUnwritten, copies_of, state_of}
use Rattle.file_table.specs.Table.{TableValue}
use Rattle.array_setup.specs.declared.ways.ScrubWay.{ScrubWay}
use Rattle.snap_report.specs.EndLines.{scrub_text}
use Rattle.snap_report.specs.EventLines.{lines_of}
use Rattle.snap_report.specs.Report.{ReportView, AllGiven}
use Rattle.snap_report.specs.State.{Puts, state_of as told_of}
use Rattle.snap_report.specs.Telling.{Settled}
use Rattle.snap_report.specs.declared.answer.RunFault.{RunFault}
use Rattle.snap_report.specs.declared.answer.RunFault.TheVariants.{Folder, Vault, Memory}
use Rattle.snap_report.specs.declared.events.Event.{Event}
use Rattle.snap_report.specs.declared.pages.Lines.{Lines}
use Rattle.stripe_findings.specs.Reading.{AreRead, stripes_of}
use Rattle.snap_scrub.specs.declared.scrubbing.ScrubEnd.{ScrubEnd}
use Rattle.snap_scrub.specs.Findings.{events_of}
use Rattle.snap_scrub.specs.Marks.{scrubbed, at_most}
use Rattle.snap_scrub.specs.Plan.{plan_of}
use Rattle.snap_scrub.specs.Reading.{ScrubReading, HasLevels, AreLevelsOf, cells_of, level_calls, unread_levels}

-- what a scrub works on: the folders, the vault, the lines, and those who are told
pub record Outside (W R : Type 0) : Type 1 where
  pub folders : List FolderView
  pub vault : VaultView
  pub lines : Lines W
  pub reports : List R

abbrev pub outside : {W R : Type 0} → List FolderView → VaultView → Lines W → List R → Outside W R
outside folders vault lines reports = record { folders = folders; vault = vault; lines = lines; reports = reports }

-- an array: a table, and folders and a vault that go with it
pub record IsArray (table : TableValue) (folders : List FolderView) (vault : VaultView) : Type 0 where
  pub folders_are : length folders ≡ length table.columns
  pub levels : vault.levels ≡ table.shape.levels

-- the calls that save a table to so many copies: none where no stripe was read
abbrev pub save_calls : ℕ → TableValue → List ScrubReading → List VaultCall
save_calls copies after [] = []
save_calls copies after (reading ∷ readings) = piecewise_calls piece_size copies (spelling after)

-- what may stand of the files at any moment: what stood where no stripe was read; else each copy may spell the table, and parity stays
abbrev pub MayStandScrubbed : TableValue → List ScrubReading → Files → Files → Type 0
MayStandScrubbed after [] = Stays
MayStandScrubbed after (reading ∷ readings) = MaySave (spelling after)

-- What was done to the vault by a scrub that read these stripes: the levels of those whose cells are all right were read, and then the
-- table was saved, up to the first call that failed. Where no stripe was read nothing is changed, and no call was made that writes.
pub record TouchesVault (table after : TableValue) (readings : List ScrubReading) (failed : Bool) (old new : VaultView) : Type 0 where
  pub calls : SomeCalls old new
  pub are : All (AreLevelsOf old table.shape.block_size) readings
  pub read : Log
  pub unread : RoseBy (sum_by unread_levels readings) old.faults read.faults
  pub made : Grows old.tells_calls old.calls read.tells read.calls (flat_map (level_calls table.shape.block_size) readings)
  pub ran : RanLog (save_calls (copies_of old) after readings) failed read (log_of (state_of new))
  pub changes : ChangesBy (MayStandScrubbed after readings) old new
  pub drafts : HasNoDraft old → HasNoDraft new
  pub rests : readings ≡ [] → DraftsStay old new
  pub unwritten : readings ≡ [] → IsUnwritten old new

-- The stripes of the plan were read, in order, and just what was found in them was told, with a last line behind it.
pub record Course {W R : Type 0} (view : W → SinkView) (standing : R → ReportView) (stands : R → List Event → Type 0)
    (table : TableValue) (way : ScrubWay) (now : ℕ) (readings : List ScrubReading) (failed : Bool) (last_line : List ℕ)
    (old new : Outside W R) : Type 0 where
  pub stripes : stripes_of (cells_of readings) ≡ plan_of table way now
  pub cells : AreRead table (cells_of readings) old.folders new.folders
  pub due : All (HasLevels table) readings
  pub vault : TouchesVault table (scrubbed now table readings) readings failed old.vault new.vault
  pub given : AllGiven standing stands (lines_of table.columns (events_of table readings)) (events_of table readings) old.reports new.reports
  pub puts : Puts view (lines_of table.columns (events_of table readings) ++ last_line) old.lines new.lines

-- A scrub that ended: the stripes of its plan are marked in the table, which every copy spells where the plan is not empty. Its last line
-- counts the stripes and the findings.
pub record Scrubs {W R : Type 0} (view : W → SinkView) (standing : R → ReportView) (stands : R → List Event → Type 0)
    (table : TableValue) (way : ScrubWay) (now : ℕ) (old new : Outside W R) (end : ScrubEnd) : Type 0 where
  pub readings : List ScrubReading
  pub course : Course view standing stands table way now readings false (scrub_text end.checked end.findings) old new
  pub settled : Settled (told_of view new.lines)
  pub table_is : end.table ≡ scrubbed now table readings
  pub checked : end.checked ≡ length readings
  pub findings : end.findings ≡ at_most (length (events_of table readings))
  pub saved : readings ≢ [] → Holds (HasSaved (copies_of old.vault) (spelling end.table)) new.vault
  pub no_draft : readings ≢ [] → HasNoDraft new.vault

-- A scrub that broke off: it read and told all, and a call that saves the table failed.
pub record Breaks {W R : Type 0} (view : W → SinkView) (standing : R → ReportView) (stands : R → List Event → Type 0)
    (table : TableValue) (way : ScrubWay) (now : ℕ) (old new : Outside W R) : Type 0 where
  pub readings : List ScrubReading
  pub course : Course view standing stands table way now readings true [] old new
  pub settled : Settled (told_of view old.lines) → Settled (told_of view new.lines)
  pub rose : RoseBy (sum_by unread_levels readings + 1) old.vault.faults new.vault.faults

-- Why a scrub did not end: memory ran out before anything was touched, or a call of the vault that saves the table failed. A folder that
-- fails is a finding.
abbrev pub ScrubsNot : {W R : Type 0} → (W → SinkView) → (R → ReportView) → (R → List Event → Type 0) → TableValue → ScrubWay → ℕ
    → Outside W R → Outside W R → Type 0 → RunFault → Type 0
ScrubsNot view standing stands table way now old new untouched (Folder disk) = ⊥
ScrubsNot view standing stands table way now old new untouched Memory = untouched
ScrubsNot view standing stands table way now old new untouched Vault = Breaks view standing stands table way now old new
