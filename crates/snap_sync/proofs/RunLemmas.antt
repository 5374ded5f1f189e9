-- What a sync begins with, how far it is before the first window is judged, and what it leaves where a call failed.
use Rattle.std.proofs.Common.{◌≡◌, ℕ, ◌+◌, ◌<◌, ◌≤◌, List, [], ◌++◌, length, take, true, false, IfSome, Result, Ok, Err, OnErr, refl, sym, ap, ap₂, ◌∙◌, subst, arith}
use Rattle.std.proofs.lemmas.List.{append-nil}
use Rattle.array_scan.specs.Layout.{pending_stripes}
use Rattle.content_file.specs.Save.{piece_size}
use Rattle.disk_model.specs.Folder.{FolderView}
use Rattle.disk_model.specs.Sink.{SinkView}
use Rattle.disk_model.specs.Ran.{log_of}
use Rattle.disk_model.specs.Vault.{VaultView, SomeCalls, state_of}
use Rattle.file_table.specs.Table.{TableValue}
use Rattle.snap_report.specs.EventLines.{lines_of}
use Rattle.snap_report.specs.Report.{ReportView, AllGiven}
use Rattle.snap_report.specs.Told.{Told}
use Rattle.snap_report.specs.declared.events.Event.{Event}
use Rattle.snap_report.specs.declared.pages.Lines.{Lines}
use Rattle.snap_report.proofs.PutsLemmas.{puts_same}
use Rattle.snap_report.proofs.ToldLemmas.{told_nothing}
use Rattle.stripe_reader.specs.Columns.{ReadsWindow}
use Rattle.stripe_reader.specs.Starts.{recorded_starts}
use Rattle.snap_sync.specs.declared.beginning.Work.{Work}
use Rattle.snap_sync.specs.declared.stripes.Pace.{Pace}
use Rattle.snap_sync.specs.declared.stripes.Progress.{Progress}
use Rattle.snap_sync.specs.Calls.{SyncPlan, RanOpened, stripe_calls}
use Rattle.snap_sync.specs.Course.{Outside, TouchesVault, TellsThese, IsSyncWindow, BreaksInWindow, Breaks, outside}
use Rattle.stripe_findings.specs.Findings.{events_of}
use Rattle.stripe_findings.specs.Reading.{StripeReading, AreRead}
use Rattle.snap_sync.specs.Reading.{ReadsFirst}
use Rattle.snap_sync.specs.Run.{all_of, stripes_near, readings_near, IsReady, HasSynced, plan_for}
use Rattle.snap_sync.specs.Work.{IsPlanFor, IsUnderway}
use Rattle.stripe_findings.proofs.ReadLemmas.{are_read_start, window_are_read, stripes_of_window, length_of_window, length_after}
use Rattle.snap_sync.proofs.StandLemmas.{IsStopped}
use Rattle.stripe_reader.specs.WindowValue.{stripe_count}
use Rattle.snap_sync.proofs.WorkLemmas.{window_within}

-- ---- what a sync begins with

-- a plan for these folders and this vault
pub record IsSetting {W R : Type 0} (plan : SyncPlan) (old : Outside W R) : Type 0 where
  pub for : IsPlanFor plan old.vault
  pub lent : length old.folders ≡ length plan.start.columns
  pub every : IfSome plan.every (λ every. 0 < every)
  pub all_is : length (pending_stripes plan.start.infos) ≡ plan.all
  pub piece_is : plan.piece ≡ piece_size

pub setting_of : {W R : Type 0} (work : Work) (pace : Pace) (old : Outside W R) → old.vault.levels ≡ work.table.shape.levels → length old.folders ≡ length work.table.columns
    → IfSome pace.every (λ every. 0 < every) → work.pending.items ≡ pending_stripes work.table.infos → IsSetting (plan_for work pace old.vault) old
setting_of work pace old levels folders every pending = record {
  for = record { levels = levels; copies = refl };
  lent = folders;
  every = every;
  all_is = sym (ap (λ (its : List ℕ). length its) pending);
  piece_is = refl;
}

-- what holds holds of an error
pub on_err : {T E : Type 0} (result : Result T E) {P : Type 0} → P → OnErr result P
on_err (Ok x) p = tt
on_err (Err e) p = p

-- ---- the window in which a call failed

-- all calls for the stripes before it went well
pub broke_in : (plan : SyncPlan) (readings before last : List StripeReading) (old mid new : VaultView) → readings ≡ before ++ last → length last ≤ stripe_count (length plan.start.columns) plan.start.shape.block_size
    → IsSyncWindow plan (length before) (length last) → RanOpened plan (stripe_calls plan before (length before)) false (state_of old) (log_of (state_of mid)) → SomeCalls mid new
    → BreaksInWindow plan readings (state_of old) (state_of new)
broke_in plan readings before last old mid new are few cut ran calls = record {
  before = before;
  last = last;
  are = are;
  few = few;
  cut = λ some. cut;
  ran = λ some. record { mid = log_of (state_of mid); first = ran; rest = calls.done; more = calls.goes_on.calls };
}

-- no stripe was told
broke_before : (plan : SyncPlan) (old new : VaultView) → BreaksInWindow plan [] (state_of old) (state_of new)
broke_before plan old new = record { before = []; last = []; are = refl; few = omega arith; cut = λ some. absurd (some refl); ran = λ some. absurd (some refl) }

-- ---- what was told

module _ {W R : Type 0} (view : W → SinkView) (standing : R → ReportView) (stands : R → List Event → Type 0) where
  -- the same events of a table with the same records
  pub told_by : (one other : TableValue) (events more : List Event) (old new : Lines W) (olds news : List R) → lines_of one.columns events ≡ lines_of other.columns more → events ≡ more
      → Told view standing stands one.columns events old new olds news → Told view standing stands other.columns more old new olds news
  told_by one other events more old new olds news lines same told = record {
    puts = puts_same view (lines_of one.columns events) (lines_of other.columns more) old new told.puts lines;
    settled = told.settled;
    given = subst (λ (text : List ℕ). AllGiven standing stands text more olds news) lines
        (subst (λ (es : List Event). AllGiven standing stands (lines_of one.columns events) es olds news) same told.given);
  }

  -- nothing else was told
  tells_these : (start : TableValue) (readings : List StripeReading) (old new : Outside W R) → Told view standing stands start.columns (events_of start readings) old.lines new.lines old.reports new.reports
      → TellsThese view standing stands start readings [] old new
  tells_these start readings old new told = record {
    given = told.given;
    puts = puts_same view (lines_of start.columns (events_of start readings)) (lines_of start.columns (events_of start readings) ++ []) old.lines new.lines told.puts (sym (append-nil (lines_of start.columns (events_of start readings))));
    settled = told.settled;
  }

  touches : (plan : SyncPlan) (readings : List StripeReading) (old new : VaultView) → IsStopped plan readings old new → TouchesVault plan true readings old new
  touches plan readings old new stopped = record { calls = stopped.calls; ran = stopped.ran; broke = λ failed. stopped.broke; changes = stopped.changes }

  -- a sync that broke off
  pub breaks_with : (plan : SyncPlan) (readings ahead : List StripeReading) (old new : Outside W R) → ReadsFirst plan.start (readings ++ ahead) old.folders new.folders
      → length ahead ≤ stripe_count (length plan.start.columns) plan.start.shape.block_size → BreaksInWindow plan readings (state_of old.vault) (state_of new.vault) → IsStopped plan readings old.vault new.vault
      → Told view standing stands plan.start.columns (events_of plan.start readings) old.lines new.lines old.reports new.reports → Breaks view standing stands plan old new
  breaks_with plan readings ahead old new reads few window stopped told = record {
    readings = readings;
    ahead = ahead;
    few = few;
    window = window;
    course = record { reads = reads; vault = touches plan readings old.vault new.vault stopped; tells = tells_these plan.start readings old new told };
  }

  -- the opening failed
  pub breaks_opening : (plan : SyncPlan) (old new : Outside W R) → new.folders ≡ old.folders → new.lines ≡ old.lines → new.reports ≡ old.reports → IsStopped plan [] old.vault new.vault → Breaks view standing stands plan old new
  breaks_opening plan old new folders lines reports stopped =
      breaks_with plan [] [] old new
      (record { stripes = refl; read = subst (λ (news : List FolderView). AreRead plan.start [] old.folders news) (sym folders) (are_read_start plan.start old.folders) })
      (omega arith)
      (broke_before plan old.vault new.vault)
      stopped
      (subst (λ (its : Lines W). Told view standing stands plan.start.columns [] old.lines its old.reports new.reports) (sym lines)
      (subst (λ (its : List R). Told view standing stands plan.start.columns [] old.lines old.lines old.reports its) (sym reports) (told_nothing view standing stands plan.start.columns old.lines old.reports)))

  -- ---- before the first window is judged

  module _ {plan : SyncPlan} {start work : Work} {progress : Progress} (old : Outside W R) {news : List FolderView} {vault : VaultView} where
    pub synced_start : plan.start ≡ start.table → start.pending.items ≡ pending_stripes start.table.infos → length old.folders ≡ length start.table.columns
        → work ≡ record start { room = record start.room { near = work.room.near } } → IsReady plan.every work 0
        → ReadsWindow start.table start.room.starts (stripes_near work 0) start.room.near work.room.near old.folders news
        → progress ≡ record { done = 0; synced = 0; findings = 0 } → IsUnderway plan [] 0 0 old.vault vault
        → HasSynced view standing stands plan progress work old (outside news vault old.lines old.reports)
    synced_start start_is pending folders work_is ready read progress_is under =
        let same : work.pending ≡ start.pending = ap (λ (it : Work). it.pending) work_is in
        let stripes = stripes_of_window (stripes_near work 0) work.room.near in
        let pending_is : work.pending.items ≡ pending_stripes plan.start.infos =
        ap (λ it. it.items) same ∙ pending ∙ ap (λ (table : TableValue). pending_stripes table.infos) (sym start_is) in
        let within : 0 + work.room.near.count ≤ all_of work = omega (arith, ready.near, window_within plan.every work.room.near.room (all_of work) 0 ready.within) in
        let read_these : AreRead start.table (readings_near work 0) old.folders news =
        window_are_read start.table start.room.starts (stripes_near work 0) start.room.near work.room.near old.folders news
        (ap (λ (it : Work). it.room.starts) (sym work_is) ∙ ready.is_work.room.starts ∙ ap (λ (it : Work). recorded_starts it.table) work_is)
        (sym read.lanes ∙ ready.is_work.room.near.lanes ∙ ap (λ (it : Work). length it.table.columns) work_is) folders read in
        record {
          readings = [];
          count = ap (λ (it : Progress). it.done) (sym progress_is);
          windows = 0;
          cut = refl;
          pending = pending_is;
          ready = subst (λ (it : Progress). IsReady plan.every work it.done) (sym progress_is) ready;
          reads = subst (λ (it : Progress). ReadsFirst plan.start (readings_near work it.done) old.folders news) (sym progress_is) (record {
            stripes = stripes ∙ ap₂ (λ (n : ℕ) (its : List ℕ). take n its) (sym (length_of_window (stripes_near work 0) work.room.near ∙ length_after work.pending.items 0 work.room.near.count within)) pending_is;
            read = subst (λ (table : TableValue). AreRead table (readings_near work 0) old.folders news) (sym start_is) read_these;
          });
          table = ap (λ (it : Work). it.table) work_is ∙ sym start_is;
          told = told_nothing view standing stands plan.start.columns old.lines old.reports;
          synced = ap (λ (it : Progress). it.synced) progress_is;
          findings = ap (λ (it : Progress). it.findings) progress_is;
          saved = 0;
          vault = under;
        }
