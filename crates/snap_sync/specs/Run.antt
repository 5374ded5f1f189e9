-- A sync that goes from window to window: which stripes stand in the near window, what it is ready for, and what a window changes.
use Rattle.std.specs.Prelude.{◌≡◌, ℕ, ◌+◌, ◌^◌, ◌<◌, ◌≤◌, ◌&&◌, ◌==◌, ◌++◌, not, List, length, take, drop, All, Bool, Option, Result, IfSome, OnOk, OnErr}
use Rattle.array_scan.specs.Layout.{pending_stripes}
use Rattle.content_file.specs.Save.{HasSaved, HasNoDraft, piecewise_calls, piece_size}
use Rattle.content_file.specs.Spelling.{spelling}
use Rattle.disk_model.specs.Ran.{Ran}
use Rattle.disk_model.specs.Sink.{SinkView}
use Rattle.disk_model.specs.Vault.{VaultView, SomeCalls, ChangesBy, Holds, copies_of, state_of}
use Rattle.disk_model.specs.declared.fault.Failed.{Failed}
use Rattle.file_table.specs.Table.{TableValue}
use Rattle.parity_writer.specs.Calls.{sync_calls}
use Rattle.parity_writer.specs.Keeps.{SameParities}
use Rattle.snap_report.specs.Report.{ReportView}
use Rattle.snap_report.specs.Told.{Told}
use Rattle.snap_report.specs.declared.events.Event.{Event}
use Rattle.stripe_reader.specs.Fetched.{hashed_window}
use Rattle.stripe_reader.specs.WindowValue.{Fits}
use Rattle.snap_sync.specs.declared.beginning.Work.{Work}
use Rattle.snap_sync.specs.declared.judging.Counts.{Counts}
use Rattle.snap_sync.specs.declared.stripes.Pace.{Pace}
use Rattle.snap_sync.specs.declared.stripes.Progress.{Progress}
use Rattle.snap_sync.specs.Calls.{SyncPlan}
use Rattle.snap_sync.specs.Closing.{closed, verified_in}
use Rattle.snap_sync.specs.Course.{Outside, window_room}
use Rattle.stripe_findings.specs.Findings.{events_of}
use Rattle.stripe_findings.specs.Reading.{StripeReading, readings_in}
use Rattle.snap_sync.specs.Reading.{ReadsFirst}
use Rattle.snap_sync.specs.Schedule.{window_count, windows_end, is_checkpoint}
use Rattle.snap_sync.specs.Work.{AreSumsFor, IsRoomFor, IsUnderway, VaultBroke, MaySettle, more_findings}

-- how many pending stripes there are, and how many a window takes after so many
abbrev pub all_of : Work → ℕ
all_of work = length work.pending.items

abbrev pub count_after : Option ℕ → Work → ℕ → ℕ
count_after every work done = window_count every work.room.near.room (all_of work) done

-- so many pending stripes after some, those that stand in the near window, and those that come after
abbrev pub pending_after : Work → ℕ → ℕ → List ℕ
pending_after work done count = take count (drop done work.pending.items)

abbrev pub stripes_near : Work → ℕ → List ℕ
stripes_near work done = pending_after work done work.room.near.count

abbrev pub stripes_next : Option ℕ → Work → ℕ → List ℕ
stripes_next every work done =
    let next = done + work.room.near.count in
    pending_after work next (count_after every work next)

-- what was read of the stripes in the near window
abbrev pub readings_near : Work → ℕ → List StripeReading
readings_near work done = readings_in (stripes_near work done) work.room.near

-- room for the windows of a table and its pending stripes
pub record IsWork (work : Work) : Type 0 where
  pub room : IsRoomFor work.table (all_of work) work.room
  pub pending : All (λ stripe. stripe < length work.table.infos) work.pending.items
  pub few : all_of work < 2 ^ 32

-- Work of a sync at its beginning: all pending stripes of its table. If it saves besides at its end, then after one stripe at least.
pub record IsBegun (saves : Option ℕ) (work : Work) : Type 0 where
  pub is_work : IsWork work
  pub pending : work.pending.items ≡ pending_stripes work.table.infos
  pub every : IfSome saves (λ every. 0 < every)

-- ready for the window after so many stripes: it was fetched into the near room
pub record IsReady (every : Option ℕ) (work : Work) (done : ℕ) : Type 0 where
  pub is_work : IsWork work
  pub within : done ≤ all_of work
  pub near : work.room.near.count ≡ count_after every work done

-- so many stripes are verified, and so many findings were told
pub record AreCounts (table : TableValue) (readings : List StripeReading) (counts : Counts) : Type 0 where
  pub synced : counts.synced ≡ verified_in table readings
  pub findings : counts.findings ≡ more_findings 0 (length (events_of table readings))

-- work whose near window has its digests
abbrev pub near_hashed : Work → Work
near_hashed work = record work { room = record work.room { near = hashed_window work.table.shape work.room.near } }

-- the near window was hashed, stripes of it were chosen, sums were made, and the next one was fetched into the far room
pub record Turns (old new : Work) : Type 0 where
  pub chosen : length new.room.chosen.items ≡ length old.room.chosen.items
  pub sums : AreSumsFor old.table (length old.room.sums.items) new.room.sums.items
  pub fits : Fits old.table new.room.far
  pub rest : new ≡ record (near_hashed old) {
    room = record (near_hashed old).room { chosen = new.room.chosen; sums = new.room.sums; far = new.room.far };
  }

-- a piece was written to drafts, and all else stays
pub record KeepsWork (old new : Work) : Type 0 where
  pub piece : length new.room.piece.items ≡ length old.room.piece.items
  pub rest : new ≡ record old { room = record old.room { piece = new.room.piece } }

-- a checkpoint stands behind so many of all pending stripes, and it is not the end
abbrev pub saves_behind : Option ℕ → ℕ → ℕ → Bool
saves_behind every all count = is_checkpoint every count && not (count == all)

-- A checkpoint: parity is settled, and then a table is saved to every copy.
pub record Saves {T : Type 0} (table : TableValue) (result : Result T Failed) (old new : VaultView) : Type 0 where
  pub calls : SomeCalls old new
  pub ran : Ran (sync_calls old.levels ++ piecewise_calls piece_size (copies_of old) (spelling table)) result (state_of old) (state_of new)
  pub changes : ChangesBy (MaySettle old.levels old.files (spelling table)) old new
  pub settled : OnOk result (Holds (SameParities old.levels old.files) new)
  pub saved : OnOk result (Holds (HasSaved (copies_of old) (spelling table)) new)
  pub no_draft : OnOk result (HasNoDraft new)
  pub broke : OnErr result (VaultBroke old new)

-- the plan of this work
abbrev pub plan_for : Work → Pace → VaultView → SyncPlan
plan_for work pace vault = record {
  start = work.table;
  all = all_of work;
  every = pace.every;
  now = pace.now;
  copies = copies_of vault;
  piece = piece_size;
}

-- How far a sync came: these pending stripes were read, told, closed in the table in hand, and written, in so many windows; and the window
-- after them was read into the near room.
pub record HasSynced {W R : Type 0} (view : W → SinkView) (standing : R → ReportView) (stands : R → List Event → Type 0)
    (plan : SyncPlan) (progress : Progress) (work : Work) (old new : Outside W R) : Type 0 where
  pub readings : List StripeReading
  pub count : length readings ≡ progress.done
  pub windows : ℕ
  pub cut : length readings ≡ windows_end plan.every (window_room plan) plan.all windows
  pub pending : work.pending.items ≡ pending_stripes plan.start.infos
  pub ready : IsReady plan.every work progress.done
  pub reads : ReadsFirst plan.start (readings ++ readings_near work progress.done) old.folders new.folders
  pub table : work.table ≡ closed plan.now plan.start readings
  pub told : Told view standing stands plan.start.columns (events_of plan.start readings) old.lines new.lines old.reports new.reports
  pub synced : progress.synced ≡ verified_in plan.start readings
  pub findings : progress.findings ≡ more_findings 0 (length (events_of plan.start readings))
  pub saved : ℕ
  pub vault : IsUnderway plan readings saved (length readings) old.vault new.vault
