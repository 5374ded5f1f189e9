-- The last checkpoint, and the last line.
use Rattle.std.proofs.Common.{◌≡◌, ℕ, ◌+◌, ◌*◌, ◌≤◌, List, [], ◌∷◌, ◌++◌, length, take, drop, true, false, Option, sym, ap, ap₂, ◌∙◌, subst, arith}
use Rattle.std.proofs.lemmas.List.{append-nil}
use Rattle.std.proofs.lemmas.List.Sums.{count_by-le-length}
use Rattle.array_scan.specs.Layout.{pending_stripes}
use Rattle.content_file.specs.Save.{HasSaved, HasNoDraft, piece_size}
use Rattle.content_file.specs.Spelling.{spelling}
use Rattle.disk_model.specs.Sink.{SinkView}
use Rattle.disk_model.specs.Vault.{VaultView, IsWellFormed, Holds, copies_of}
use Rattle.file_table.specs.Table.{TableValue}
use Rattle.snap_report.specs.EventLines.{lines_of}
use Rattle.snap_report.specs.Report.{ReportView}
use Rattle.snap_report.specs.State.{Puts, state_of as told_of}
use Rattle.snap_report.specs.Telling.{Settled}
use Rattle.snap_report.specs.Text.{sync_text}
use Rattle.snap_report.specs.declared.events.Event.{Event}
use Rattle.snap_report.specs.declared.pages.Lines.{Lines}
use Rattle.snap_report.proofs.PutsLemmas.{puts_then}
use Rattle.snap_sync.specs.declared.beginning.Work.{Work}
use Rattle.snap_sync.specs.declared.stripes.Progress.{Progress}
use Rattle.snap_sync.specs.declared.syncing.SyncEnd.{SyncEnd}
use Rattle.snap_sync.specs.Calls.{SyncPlan}
use Rattle.snap_sync.specs.Closing.{closed}
use Rattle.snap_sync.specs.Course.{Outside, outside, plan_of, IsSyncWindow, Ends, Breaks, Syncs, BreaksOff, window_room}
use Rattle.snap_sync.specs.Beginning.{LaysOut}
use Rattle.snap_sync.specs.Schedule.{save_after}
use Rattle.snap_sync.specs.declared.stripes.Pace.{Pace}
use Rattle.array_setup.specs.Setup.{SetupValue}
use Rattle.array_setup.specs.declared.ways.SyncWay.{SyncWay}
use Rattle.disk_model.specs.Folder.{FolderView}
use Rattle.stripe_findings.specs.Findings.{events_of}
use Rattle.stripe_findings.specs.Reading.{StripeReading, readings_in, is_verified}
use Rattle.snap_sync.specs.Reading.{ReadsFirst}
use Rattle.snap_sync.specs.Run.{readings_near, plan_for, HasSynced}
use Rattle.stripe_reader.specs.WindowValue.{stripe_count}
use Rattle.snap_sync.proofs.RunLemmas.{IsSetting, broke_in, breaks_with}
use Rattle.snap_sync.proofs.WorkLemmas.{window_none}
use Rattle.snap_sync.proofs.UnderwayLemmas.{IsSaved, SavesNot, underway_ended, underway_stopped_ending}

module _ {W R : Type 0} {view : W → SinkView} {standing : R → ReportView} {stands : R → List Event → Type 0} {plan : SyncPlan} {progress : Progress} {work : Work} {old mid : Outside W R}
    (so_far : HasSynced view standing stands plan progress work old mid) (setting : IsSetting plan old) (all_done : progress.done ≡ plan.all) where
  all_read : length so_far.readings ≡ plan.all
  all_read = so_far.count ∙ all_done

  pub synced_within : progress.synced ≤ plan.all
  synced_within = omega (arith, so_far.synced, count_by-le-length (is_verified plan.start) so_far.readings, all_read)

  -- nothing is left to read
  nothing_near : readings_near work progress.done ≡ []
  nothing_near =
      let none : work.room.near.count ≡ 0 = omega (arith, so_far.ready.near, all_done, setting.all_is, ap (λ (it : List ℕ). length it) so_far.pending) in
      ap (λ (n : ℕ). readings_in (take n (drop progress.done work.pending.items)) work.room.near) none

  -- no window is left
  last_window : IsSyncWindow plan (length so_far.readings) 0
  last_window = record {
    windows = so_far.windows;
    begins = so_far.cut;
    takes = window_none plan.every (window_room plan) plan.all (length so_far.readings) all_read;
  }

  module _ {piece : ℕ} {new : VaultView} (piece_is : piece_size ≡ piece) (formed : IsWellFormed new) where
    -- the last checkpoint failed
    pub breaks_ending : SavesNot piece work.table mid.vault new → Breaks view standing stands plan old (outside mid.folders new mid.lines mid.reports)
    breaks_ending saves =
        breaks_with view standing stands plan so_far.readings (readings_near work progress.done) old (outside mid.folders new mid.lines mid.reports) so_far.reads
        (subst (λ (its : List StripeReading). length its ≤ stripe_count (length plan.start.columns) plan.start.shape.block_size) (sym nothing_near) (omega arith))
        (broke_in plan so_far.readings so_far.readings [] old.vault mid.vault new (sym (append-nil so_far.readings)) (omega arith) last_window so_far.vault.ran saves.calls)
        (underway_stopped_ending plan so_far.readings so_far.saved piece (setting.piece_is ∙ piece_is) work.table so_far.table old.vault mid.vault new setting.for formed all_read so_far.vault saves) so_far.told

    -- it did not fail, and the last line was told
    pub ends_with : {lines : Lines W} (end : SyncEnd) → IsSaved piece work.table mid.vault new → HasNoDraft new → end.table ≡ work.table → end.synced ≡ progress.synced → end.findings ≡ progress.findings
        → end.synced + end.pending ≡ plan.all → Puts view (sync_text end.synced end.pending) mid.lines lines → Settled (told_of view lines) → Ends view standing stands plan old (outside mid.folders new lines mid.reports) end
    ends_with {lines} end saves no_draft table synced findings pending puts settled =
        let ended = underway_ended plan so_far.readings so_far.saved piece (setting.piece_is ∙ piece_is) work.table so_far.table old.vault mid.vault new setting.for formed all_read so_far.vault saves in
        let table_is : end.table ≡ closed plan.now plan.start so_far.readings = table ∙ so_far.table in
        record {
          readings = so_far.readings;
          all = all_read;
          course = record {
            reads = subst (λ (its : List StripeReading). ReadsFirst plan.start (so_far.readings ++ its) old.folders mid.folders) nothing_near so_far.reads;
            vault = record { calls = ended.calls; ran = ended.ran; broke = λ failed. absurd (let clash : false ≡ true = failed in cc); changes = ended.changes };
            tells = record {
              given = so_far.told.given;
              puts = puts_then view (lines_of plan.start.columns (events_of plan.start so_far.readings)) (sync_text end.synced end.pending) old.lines mid.lines lines so_far.told.puts puts;
              settled = λ before. settled;
            };
          };
          table_is = table_is;
          saved = subst (λ (its : TableValue). Holds (HasSaved plan.copies (spelling its)) new) (sym table_is) ended.saved;
          parity = ended.parity;
          no_draft = no_draft;
          synced = synced ∙ so_far.synced;
          pending = pending;
          findings = findings ∙ so_far.findings;
        }

-- ---- the whole sync

-- the plan of work on a table that was laid out
pub plan_is : (setup : SetupValue) (way : SyncWay) (work : Work) (pace : Pace) (vault : VaultView) → work.pending.items ≡ pending_stripes work.table.infos
    → pace.every ≡ save_after way.save_every setup.autosave (work.table.shape.block_size * length work.table.columns) → plan_for work pace vault ≡ plan_of setup way work.table pace.now vault
plan_is setup way work pace vault pending every =
    ap₂ (λ (all : ℕ) (every : Option ℕ). record { start = work.table; all = all; every = every; now = pace.now; copies = copies_of vault; piece = piece_size }) (ap (λ (its : List ℕ). length its) pending) every

module _ {W R : Type 0} {view : W → SinkView} {standing : R → ReportView} {stands : R → List Event → Type 0} {setup : SetupValue} {way : SyncWay} {table start : TableValue} {now : ℕ} {plan : SyncPlan} {folders listed news : List FolderView}
    {vault vault_new : VaultView} {lines lines_new : Lines W} {reports reports_new : List R} (laid : LaysOut setup way table start folders listed) (same : plan ≡ plan_of setup way start now vault) where
  pub syncs_with : {end : SyncEnd} → Ends view standing stands plan (outside listed vault lines reports) (outside news vault_new lines_new reports_new) end
      → Syncs view standing stands setup way table now (outside folders vault lines reports) (outside news vault_new lines_new reports_new) end
  syncs_with {end} ends = record {
    start = start;
    listed = listed;
    laid = laid;
    ends = subst (λ (its : SyncPlan). Ends view standing stands its (outside listed vault lines reports) (outside news vault_new lines_new reports_new) end) same ends;
  }

  pub breaks_off : Breaks view standing stands plan (outside listed vault lines reports) (outside news vault_new lines_new reports_new)
      → BreaksOff view standing stands setup way table now (outside folders vault lines reports) (outside news vault_new lines_new reports_new)
  breaks_off breaks = record {
    start = start;
    listed = listed;
    laid = laid;
    breaks = subst (λ (its : SyncPlan). Breaks view standing stands its (outside listed vault lines reports) (outside news vault_new lines_new reports_new)) same breaks;
  }

-- where no stripe was read, the table is as it was laid out
pub none_read : (readings : List StripeReading) (now : ℕ) (start table : TableValue) → length readings ≡ 0 → table ≡ closed now start readings → table ≡ start
none_read [] now start table none is = is
none_read (reading ∷ readings) now start table none is = absurd (omega (arith, none))
