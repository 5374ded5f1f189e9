-- What a sync leaves, and why it did not end.
use Rattle.std.specs.Prelude.{◌≡◌, ◌≢◌, ℕ, ◌+◌, ◌<◌, ◌≤◌, ◌*◌, List, [], ◌++◌, length, Bool, true, false, IsTrue, IfSome}
use Rattle.array_scan.specs.Layout.{pending_stripes}
use Rattle.content_file.specs.Save.{HasSaved, HasNoDraft, piece_size}
use Rattle.content_file.specs.Spelling.{spelling}
use Rattle.disk_model.specs.Cause.{Grows}
use Rattle.disk_model.specs.Folder.{FolderView}
use Rattle.disk_model.specs.Ran.{Log, log_of}
use Rattle.disk_model.specs.Sink.{SinkView}
use Rattle.disk_model.specs.Vault.{VaultView, VaultState, VaultCall, VaultDone, ChangesBy, Holds, SomeCalls, copies_of, state_of}
use Rattle.file_table.specs.Table.{TableValue}
use Rattle.array_setup.specs.Setup.{SetupValue}
use Rattle.array_setup.specs.declared.ways.SyncWay.{SyncWay}
use Rattle.snap_report.specs.EventLines.{lines_of}
use Rattle.snap_report.specs.Report.{ReportView, AllGiven}
use Rattle.snap_report.specs.State.{Puts, state_of as told_of}
use Rattle.snap_report.specs.Telling.{Settled}
use Rattle.snap_report.specs.Text.{sync_text}
use Rattle.snap_report.specs.declared.answer.RunFault.TheVariants.{Vault}
use Rattle.snap_report.specs.declared.events.Event.{Event}
use Rattle.snap_report.specs.declared.pages.Lines.{Lines}
use Rattle.snap_sync.specs.declared.fault.SyncFault.{SyncFault}
use Rattle.snap_sync.specs.declared.fault.SyncFault.TheVariants.{Run}
use Rattle.snap_sync.specs.declared.syncing.SyncEnd.{SyncEnd}
use Rattle.snap_sync.specs.Beginning.{LaysOut, BeginsNot}
use Rattle.snap_sync.specs.Calls.{SyncPlan, RanOpened, reading_calls, stripe_calls}
use Rattle.snap_sync.specs.Closing.{closed, verified_in}
use Rattle.stripe_findings.specs.Findings.{events_of}
use Rattle.snap_sync.specs.Images.{MayStand, HasParityAfter}
use Rattle.stripe_findings.specs.Reading.{StripeReading}
use Rattle.stripe_reader.specs.WindowValue.{stripe_count}
use Rattle.snap_sync.specs.Reading.{ReadsFirst}
use Rattle.snap_sync.specs.Schedule.{save_after, window_count, windows_end}
use Rattle.snap_sync.specs.Work.{VaultBroke, more_findings}

-- what a sync works on: the folders, the vault, the lines, and those who are told
pub record Outside (W R : Type 0) : Type 1 where
  pub folders : List FolderView
  pub vault : VaultView
  pub lines : Lines W
  pub reports : List R

abbrev pub outside : {W R : Type 0} → List FolderView → VaultView → Lines W → List R → Outside W R
outside folders vault lines reports = record { folders = folders; vault = vault; lines = lines; reports = reports }

-- an array: a table, a setup, folders and a vault that go together, and a way to sync it
pub record IsArray (setup : SetupValue) (way : SyncWay) (old : TableValue) (folders : List FolderView) (vault : VaultView) : Type 0 where
  pub folders_are : length folders ≡ length old.columns
  pub disks : length setup.disks ≡ length old.columns
  pub levels : vault.levels ≡ old.shape.levels
  pub every : IfSome way.save_every (λ every. 0 < every)

-- the plan of a sync of a laid out table
abbrev pub plan_of : SetupValue → SyncWay → TableValue → ℕ → VaultView → SyncPlan
plan_of setup way start now vault = record {
  start = start;
  all = length (pending_stripes start.infos);
  every = save_after way.save_every setup.autosave (start.shape.block_size * length start.columns);
  now = now;
  copies = copies_of vault;
  piece = piece_size;
}

-- What was done to the vault by a sync that read these stripes: just its calls were made, up to the first that failed, and each image at
-- each moment is one of theirs.
pub record TouchesVault (plan : SyncPlan) (failed : Bool) (readings : List StripeReading) (old new : VaultView) : Type 0 where
  pub calls : SomeCalls old new
  pub ran : RanOpened plan (reading_calls plan readings) failed (state_of old) (log_of (state_of new))
  pub broke : IsTrue failed → VaultBroke old new
  pub changes : ChangesBy (MayStand plan readings) old new

-- What was told: just the events of these stripes, and then a last line.
pub record TellsThese {W R : Type 0} (view : W → SinkView) (standing : R → ReportView) (stands : R → List Event → Type 0)
    (start : TableValue) (readings : List StripeReading) (last_line : List ℕ) (old new : Outside W R) : Type 0 where
  pub given : AllGiven standing stands (lines_of start.columns (events_of start readings)) (events_of start readings) old.reports new.reports
  pub puts : Puts view (lines_of start.columns (events_of start readings) ++ last_line) old.lines new.lines
  pub settled : Settled (told_of view old.lines) → Settled (told_of view new.lines)

-- How far a sync came after the layout: these stripes were read, told and written as far as no call failed, and those ahead were read besides.
pub record Course {W R : Type 0} (view : W → SinkView) (standing : R → ReportView) (stands : R → List Event → Type 0)
    (plan : SyncPlan) (failed : Bool) (readings ahead : List StripeReading) (last_line : List ℕ) (old new : Outside W R) : Type 0 where
  pub reads : ReadsFirst plan.start (readings ++ ahead) old.folders new.folders
  pub vault : TouchesVault plan failed readings old.vault new.vault
  pub tells : TellsThese view standing stands plan.start readings last_line old new

-- A sync that ended: all pending stripes were read, those that are verified are synced in the table, which every copy spells, and
-- parity has their sums; so does each image. Its last line counts them.
pub record Ends {W R : Type 0} (view : W → SinkView) (standing : R → ReportView) (stands : R → List Event → Type 0)
    (plan : SyncPlan) (old new : Outside W R) (end : SyncEnd) : Type 0 where
  pub readings : List StripeReading
  pub all : length readings ≡ plan.all
  pub course : Course view standing stands plan false readings [] (sync_text end.synced end.pending) old new
  pub table_is : end.table ≡ closed plan.now plan.start readings
  pub saved : Holds (HasSaved plan.copies (spelling end.table)) new.vault
  pub parity : Holds (HasParityAfter plan readings (length readings) old.vault.files) new.vault
  pub no_draft : HasNoDraft new.vault
  pub synced : end.synced ≡ verified_in plan.start readings
  pub pending : end.synced + end.pending ≡ plan.all
  pub findings : end.findings ≡ more_findings 0 (length (events_of plan.start readings))

-- the vault was opened, and got these calls before all others, in this order, and none of them failed
pub record RanFirst (plan : SyncPlan) (calls : List VaultCall) (old : VaultState) (new : Log) : Type 0 where
  pub mid : Log
  pub first : RanOpened plan calls false old mid
  pub rest : List VaultDone
  pub more : Grows mid.tells mid.calls new.tells new.calls rest

-- how many stripes one window of a sync takes at most
abbrev pub window_room : SyncPlan → ℕ
window_room plan = stripe_count (length plan.start.columns) plan.start.shape.block_size

-- So many stripes behind so many are one window: it begins where another one ends, or with the first stripe, and takes as many as one does,
-- but none behind the next checkpoint, nor behind the last stripe. So one that begins behind the last stripe has none.
pub record IsSyncWindow (plan : SyncPlan) (before count : ℕ) : Type 0 where
  pub windows : ℕ
  pub begins : before ≡ windows_end plan.every (window_room plan) plan.all windows
  pub takes : count ≡ window_count plan.every (window_room plan) plan.all before

-- Where a sync broke off: the last stripes that it told are one window, and all calls for the stripes before them went well. So the call
-- that failed is for one of the last ones, or saves behind them. While the vault is opened no stripe is told.
pub record BreaksInWindow (plan : SyncPlan) (readings : List StripeReading) (old new : VaultState) : Type 0 where
  pub before : List StripeReading
  pub last : List StripeReading
  pub are : readings ≡ before ++ last
  pub few : length last ≤ window_room plan
  pub cut : readings ≢ [] → IsSyncWindow plan (length before) (length last)
  pub ran : readings ≢ [] → RanFirst plan (stripe_calls plan before (length before)) old (log_of new)

-- A sync that broke off once the vault was touched: a call of it failed, for the last window that was told. The stripes that were read
-- ahead are no more than one window has.
pub record Breaks {W R : Type 0} (view : W → SinkView) (standing : R → ReportView) (stands : R → List Event → Type 0)
    (plan : SyncPlan) (old new : Outside W R) : Type 0 where
  pub readings : List StripeReading
  pub ahead : List StripeReading
  pub few : length ahead ≤ window_room plan
  pub window : BreaksInWindow plan readings (state_of old.vault) (state_of new.vault)
  pub course : Course view standing stands plan true readings ahead [] old new

-- what is outside once the folders were listed: only the folders were asked
abbrev pub listed_by : {W R : Type 0} → Outside W R → List FolderView → Outside W R
listed_by old folders = record old { folders = folders }

-- A sync that ended: the folders were listed and laid out, and the pending stripes were read after that.
pub record Syncs {W R : Type 0} (view : W → SinkView) (standing : R → ReportView) (stands : R → List Event → Type 0)
    (setup : SetupValue) (way : SyncWay) (table : TableValue) (now : ℕ) (old new : Outside W R) (end : SyncEnd) : Type 0 where
  pub start : TableValue
  pub listed : List FolderView
  pub laid : LaysOut setup way table start old.folders listed
  pub ends : Ends view standing stands (plan_of setup way start now old.vault) (listed_by old listed) new end

-- a sync that broke off once the vault was touched: the folders were listed and laid out before that
pub record BreaksOff {W R : Type 0} (view : W → SinkView) (standing : R → ReportView) (stands : R → List Event → Type 0)
    (setup : SetupValue) (way : SyncWay) (table : TableValue) (now : ℕ) (old new : Outside W R) : Type 0 where
  pub start : TableValue
  pub listed : List FolderView
  pub laid : LaysOut setup way table start old.folders listed
  pub breaks : Breaks view standing stands (plan_of setup way start now old.vault) (listed_by old listed) new

-- Why a sync did not end, and what it left: only a failed call of the vault comes after the vault was touched.
abbrev pub SyncsNot : {W R : Type 0} → (W → SinkView) → (R → ReportView) → (R → List Event → Type 0) → SetupValue → SyncWay → TableValue → ℕ
    → Outside W R → Outside W R → Type 0 → SyncFault → Type 0
SyncsNot view standing stands setup way table now old new untouched (Run Vault) = BreaksOff view standing stands setup way table now old new
SyncsNot view standing stands setup way table now old new untouched fault = untouched × BeginsNot setup way table old.folders new.folders fault
