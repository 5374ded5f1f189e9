-- How far a sync is once a window was judged, and once it was turned.
use Rattle.std.proofs.Common.{◌≡◌, ℕ, ◌+◌, ◌<◌, ◌≤◌, List, [], ◌∷◌, ◌++◌, length, map, take, drop, max, min, suc, Bool, refl, sym, ap, ap₂, ◌∙◌, subst, arith, length-append}
use Rattle.std.specs.List.{range_with_len}
use Rattle.std.proofs.lemmas.List.{length-map, map-append}
use Rattle.std.proofs.lemmas.List.FromFn.{length-range_with_len}
use Rattle.std.proofs.lemmas.List.Elements.{All-head, All-tail}
use Rattle.array_scan.specs.Layout.{pending_stripes}
use Rattle.disk_model.specs.Folder.{FolderView}
use Rattle.disk_model.specs.Ran.{RanAll, RanUpTo, log_of}
use Rattle.disk_model.specs.Sink.{SinkView}
use Rattle.disk_model.specs.Vault.{VaultView, IsWellFormed, SomeCalls, ChangesBy, Reads, state_of}
use Rattle.file_table.specs.Table.{TableValue}
use Rattle.parity_writer.specs.Chosen.{IsChosen, window_calls, rows_with as window_rows}
use Rattle.parity_writer.specs.Parity.{Rows, HoldsRows, WritesBlocks}
use Rattle.snap_report.specs.EventLines.{lines_of}
use Rattle.snap_report.specs.Report.{ReportView}
use Rattle.snap_report.specs.Told.{Told}
use Rattle.snap_report.specs.declared.events.Event.{Event}
use Rattle.snap_report.specs.declared.pages.Lines.{Lines}
use Rattle.snap_report.proofs.ToldLemmas.{told_then}
use Rattle.stripe_reader.specs.Columns.{ReadsWindow}
use Rattle.stripe_reader.specs.Reading.{tasks_at}
use Rattle.stripe_reader.specs.Starts.{StartsValue, recorded_starts}
use Rattle.stripe_reader.specs.WindowValue.{WindowValue, stripe_count}
use Rattle.snap_sync.specs.declared.beginning.Work.{Work}
use Rattle.snap_sync.specs.declared.judging.Counts.{Counts}
use Rattle.snap_sync.specs.declared.stripes.Progress.{Progress}
use Rattle.snap_sync.specs.Calls.{SyncPlan}
use Rattle.snap_sync.specs.Closing.{closed, verified_in}
use Rattle.snap_sync.specs.Course.{Outside, IsSyncWindow, Breaks, outside, window_room}
use Rattle.stripe_findings.specs.Findings.{events_of}
use Rattle.stripe_findings.specs.Reading.{StripeReading, AreRead, stripes_of, reading_at, readings_in, is_verified}
use Rattle.snap_sync.specs.Reading.{ReadsFirst}
use Rattle.snap_sync.specs.Run.{all_of, count_after, stripes_near, stripes_next, readings_near, AreCounts, IsReady, KeepsWork, HasSynced}
use Rattle.snap_sync.specs.Schedule.{window_count, windows_end}
use Rattle.snap_sync.specs.Work.{IsUnderway, more_findings}
use Rattle.snap_sync.proofs.ClosedLemmas.{AreApart, apart-from_distinct, is_verified-closed, events_of-closed, verified_in-closed, closed-append}
use Rattle.stripe_findings.proofs.FindingLemmas.{events_of-append}
use Rattle.snap_sync.proofs.LookingLemmas.{verified_in-append}
use Rattle.snap_sync.proofs.NamesLemmas.{lines_of-closed}
use Rattle.snap_sync.proofs.StaysLemmas.{IsNoneOf, differs-closed}
use Rattle.snap_sync.proofs.TasksLemmas.{recorded_starts-closed, tasks_at-closed}
use Rattle.snap_sync.proofs.PendingLemmas.{none_within}
use Rattle.stripe_findings.proofs.ReadLemmas.{are_read_by, window_are_read, stripes_of_window, length_of_window, length_after}
use Rattle.snap_sync.proofs.StandLemmas.{IsStopped, IsWritten}
use Rattle.snap_sync.proofs.UnderwayLemmas.{ComesNext, underway_written, underway_stopped_writing, writing_broke}
use Rattle.snap_sync.proofs.WorkLemmas.{Judges, ReadsFar, choice_near, judged_ready, few_of, room_few, some_stripes, stripes_same, window_few, window_same, window_within, window_some, swapped_of, turned_is, near_is, turn_ready}
use Rattle.snap_sync.proofs.NextLemmas.{distinct_of, reads_more}
use Rattle.snap_sync.proofs.RunLemmas.{IsSetting, broke_in, told_by, breaks_with}

-- ---- counts

-- which stripes are verified, in a table in which others are closed
map_verified : (now : ℕ) (start : TableValue) (xs ys : List StripeReading) → AreApart xs ys → map (is_verified (closed now start xs)) ys ≡ map (is_verified start) ys
map_verified now start xs [] apart = refl
map_verified now start xs (y ∷ ys) apart =
    ap₂ (λ (b : Bool) (bs : List Bool). b ∷ bs) (is_verified-closed now start xs y (All-head (λ (it : StripeReading). IsNoneOf it.stripe xs) y ys apart))
    (map_verified now start xs ys (All-tail (λ (it : StripeReading). IsNoneOf it.stripe xs) y ys apart))

findings_then : (a b c d : ℕ) → c ≡ more_findings 0 a → d ≡ more_findings 0 b → more_findings c d ≡ more_findings 0 (a + b)
findings_then a b c d c_is d_is = omega (arith, c_is, d_is)

-- ---- what a turn asks of the vault and the folders

module _ {W R : Type 0} {view : W → SinkView} {standing : R → ReportView} {stands : R → List Event → Type 0} {plan : SyncPlan} {progress : Progress} {work : Work} {old mid : Outside W R}
    (so_far : HasSynced view standing stands plan progress work old mid) (setting : IsSetting plan old) where
  pub levels_now : mid.vault.levels ≡ work.table.shape.levels
  levels_now =
      so_far.vault.calls.goes_on.levels ∙ setting.for.levels
      ∙ sym (ap (λ (table : TableValue). table.shape.levels) so_far.table ∙ ap (λ it. it.levels) ((differs-closed plan.now plan.start so_far.readings).shape))

  pub folders_now : length mid.folders ≡ length work.table.columns
  folders_now =
      so_far.reads.read.folders ∙ setting.lent ∙ sym (ap (λ (table : TableValue). length table.columns) so_far.table ∙ (differs-closed plan.now plan.start so_far.readings).columns)

-- ---- after a window was judged

-- a sync came so far, and then the window in the near room was judged
pub record WasJudged {W R : Type 0} (view : W → SinkView) (standing : R → ReportView) (stands : R → List Event → Type 0)
    (plan : SyncPlan) (progress : Progress) (work judged : Work) (old mid : Outside W R) (lines : Lines W) (reports : List R) : Type 0 where
  pub so_far : HasSynced view standing stands plan progress work old mid
  pub judges : Judges plan.now work judged progress.done
  pub ready : IsReady plan.every judged progress.done
  pub telling : Told view standing stands work.table.columns (events_of work.table (readings_near work progress.done)) mid.lines lines mid.reports reports

pub was_judged : {W R : Type 0} {view : W → SinkView} {standing : R → ReportView} {stands : R → List Event → Type 0} {plan : SyncPlan} {progress : Progress} {work judged : Work} {old mid : Outside W R} {lines : Lines W} {reports : List R}
    → HasSynced view standing stands plan progress work old mid → Judges plan.now work judged progress.done
    → Told view standing stands work.table.columns (events_of work.table (readings_near work progress.done)) mid.lines lines mid.reports reports → WasJudged view standing stands plan progress work judged old mid lines reports
was_judged {plan = plan} {progress = progress} {work = work} {judged = judged} so_far judges telling = record {
  so_far = so_far;
  judges = judges;
  ready = judged_ready plan.every plan.now work judged progress.done so_far.ready judges;
  telling = telling;
}

module _ {W R : Type 0} {view : W → SinkView} {standing : R → ReportView} {stands : R → List Event → Type 0} {plan : SyncPlan} {progress : Progress} {work judged : Work} {old mid : Outside W R} {lines : Lines W} {reports : List R}
    (window : WasJudged view standing stands plan progress work judged old mid lines reports) where
  abbrev xs : List StripeReading
  xs = window.so_far.readings

  abbrev ws : List StripeReading
  ws = readings_near work progress.done

  -- all that were judged
  abbrev pub judged_so_far : List StripeReading
  judged_so_far = xs ++ ws

  abbrev next : ℕ
  next = progress.done + work.room.near.count

  apart : AreApart xs ws
  apart = apart-from_distinct xs ws (distinct_of plan.start judged_so_far old.folders mid.folders window.so_far.reads)

  work_within : next ≤ all_of work
  work_within = omega (arith, window.so_far.ready.near, window_within plan.every work.room.near.room (all_of work) progress.done window.so_far.ready.within)

  stripes_many : length (stripes_near work progress.done) ≡ work.room.near.count
  stripes_many = length_after work.pending.items progress.done work.room.near.count work_within

  pub length_judged : length judged_so_far ≡ next
  length_judged = omega (arith, length-append xs ws, window.so_far.count, length_of_window (stripes_near work progress.done) work.room.near, stripes_many)

  work_all : IsSetting plan old → all_of work ≡ plan.all
  work_all setting = ap (λ (it : List ℕ). length it) window.so_far.pending ∙ setting.all_is

  -- it has room for as many as one of any run over the table has, but for no more than are pending
  window_size : IsSetting plan old → work.room.near.room ≡ max 1 (min (window_room plan) plan.all)
  window_size setting =
      window.so_far.ready.is_work.room.size
      ∙ ap₂ (λ (most all : ℕ). max 1 (min most all)) (stripes_same plan.now plan.start work.table xs window.so_far.table) (work_all setting)

  -- so it takes what one takes behind so many
  window_takes : IsSetting plan old → length ws ≡ window_count plan.every (window_room plan) plan.all (length xs)
  window_takes setting =
      length_of_window (stripes_near work progress.done) work.room.near ∙ stripes_many ∙ window.so_far.ready.near
      ∙ ap₂ (λ (all done : ℕ). window_count plan.every work.room.near.room all done) (work_all setting) (sym window.so_far.count)
      ∙ ap (λ (room : ℕ). window_count plan.every room plan.all (length xs)) (window_size setting)
      ∙ window_same plan.every (window_room plan) plan.all (length xs) (some_stripes (length plan.start.columns) plan.start.shape.block_size)

  -- and begins where another one ends
  is_window : IsSetting plan old → IsSyncWindow plan (length xs) (length ws)
  is_window setting = record {
    windows = window.so_far.windows;
    begins = window.so_far.cut;
    takes = window_takes setting;
  }

  -- so one more ends behind it
  ends_again : IsSetting plan old → length judged_so_far ≡ windows_end plan.every (window_room plan) plan.all (suc window.so_far.windows)
  ends_again setting =
      length-append xs ws
      ∙ ap₂ (λ (a b : ℕ). a + b) window.so_far.cut (window_takes setting ∙ ap (window_count plan.every (window_room plan) plan.all) window.so_far.cut)

  pub judged_table : judged.table ≡ closed plan.now plan.start judged_so_far
  judged_table = window.judges.table ∙ ap (λ (table : TableValue). closed plan.now table ws) window.so_far.table ∙ sym (closed-append plan.now plan.start xs ws apart)

  events_are : events_of work.table ws ≡ events_of plan.start ws
  events_are = ap (λ (table : TableValue). events_of table ws) window.so_far.table ∙ events_of-closed plan.now plan.start xs ws apart

  lines_are : lines_of work.table.columns (events_of work.table ws) ≡ lines_of plan.start.columns (events_of plan.start ws)
  lines_are =
      ap (λ (table : TableValue). lines_of table.columns (events_of work.table ws)) window.so_far.table ∙ lines_of-closed plan.now plan.start xs (events_of work.table ws)
      ∙ ap (lines_of plan.start.columns) events_are

  pub told_judged : Told view standing stands plan.start.columns (events_of plan.start judged_so_far) old.lines lines old.reports reports
  told_judged =
      subst (λ (es : List Event). Told view standing stands plan.start.columns es old.lines lines old.reports reports) (sym (events_of-append plan.start xs ws))
      (told_then view standing stands plan.start.columns (events_of plan.start xs) (events_of plan.start ws) old.lines mid.lines lines old.reports mid.reports reports window.so_far.told
      (told_by view standing stands work.table plan.start (events_of work.table ws) (events_of plan.start ws) mid.lines lines mid.reports reports lines_are events_are window.telling))

  module _ (counts : Counts) (counted : AreCounts work.table ws counts) where
    pub synced_judged : progress.synced + counts.synced ≡ verified_in plan.start judged_so_far
    synced_judged =
        ap₂ (λ (a b : ℕ). a + b) window.so_far.synced (counted.synced ∙ ap (λ (table : TableValue). verified_in table ws) window.so_far.table ∙ verified_in-closed plan.now plan.start xs ws apart)
        ∙ sym (verified_in-append plan.start xs ws)

    pub found_judged : more_findings progress.findings counts.findings ≡ more_findings 0 (length (events_of plan.start judged_so_far))
    found_judged =
        findings_then (length (events_of plan.start xs)) (length (events_of plan.start ws)) progress.findings counts.findings window.so_far.findings
        (counted.findings ∙ ap (λ (es : List Event). more_findings 0 (length es)) events_are)
        ∙ ap (more_findings 0) (sym (length-append (events_of plan.start xs) (events_of plan.start ws)) ∙ ap (λ (es : List Event). length es) (sym (events_of-append plan.start xs ws)))

  -- the window comes next
  near_kept : judged.room.near ≡ work.room.near
  near_kept = ap (λ (it : Work). it.room.near) window.judges.rest

  stripes_kept : stripes_near judged progress.done ≡ stripes_near work progress.done
  stripes_kept = ap (λ (it : Work). stripes_near it progress.done) window.judges.rest

  readings_kept : readings_near judged progress.done ≡ ws
  readings_kept = ap (λ (it : Work). readings_near it progress.done) window.judges.rest

  all_kept : length (pending_stripes plan.start.infos) ≡ plan.all → all_of judged ≡ plan.all
  all_kept all_is = ap all_of window.judges.rest ∙ ap (λ (it : List ℕ). length it) window.so_far.pending ∙ all_is

  comes_next : IsSetting plan old → progress.done < all_of work
      → ComesNext plan xs (choice_near judged progress.done).stripes judged.room.near (choice_near judged progress.done).chosen
  comes_next setting more =
      let shape = (differs-closed plan.now plan.start judged_so_far).shape in
      let fits = window.ready.is_work.room.near in
      let many : length (stripes_near judged progress.done) ≡ judged.room.near.count = ap (λ (it : List ℕ). length it) stripes_kept ∙ stripes_many ∙ ap (λ (it : WindowValue). it.count) (sym near_kept) in
      let count_is : judged.room.near.count ≡ window_count plan.every judged.room.near.room plan.all (length xs) =
      window.ready.near ∙ ap₂ (λ (all done : ℕ). window_count plan.every judged.room.near.room all done) (all_kept setting.all_is) (sym window.so_far.count) in
      record {
        fits = record {
          lanes = fits.lanes ∙ ap (λ (table : TableValue). length table.columns) judged_table ∙ (differs-closed plan.now plan.start judged_so_far).columns;
          block_size = fits.block_size ∙ ap (λ (table : TableValue). table.shape.block_size) judged_table ∙ ap (λ it. it.block_size) shape;
        };
        count = many;
        some = omega (
          arith,
          many,
          count_is,
          window_some plan.every judged.room.near.room plan.all (length xs) setting.every window.ready.is_work.room.some
              (omega (arith, more, window.so_far.count, setting.all_is, ap (λ (it : List ℕ). length it) window.so_far.pending)),
        );
        judged =
            ap (λ (it : WindowValue). take it.count judged.room.chosen.items) near_kept
            ∙ window.judges.chosen
            ∙ ap (λ (table : TableValue). map (is_verified table) ws) window.so_far.table
            ∙ map_verified plan.now plan.start xs ws apart
            ∙ ap (map (is_verified plan.start)) (sym readings_kept);
        many = next;
        first =
            ap (λ (it : List ℕ). stripes_of xs ++ it) (stripes_kept ∙ sym (stripes_of_window (stripes_near work progress.done) work.room.near))
            ∙ sym (map-append (λ (reading : StripeReading). reading.stripe) xs ws)
            ∙ window.so_far.reads.stripes
            ∙ ap (λ (n : ℕ). take n (pending_stripes plan.start.infos)) length_judged;
        none_within = λ j some small. none_within plan judged.room.near.room (length xs) j some (omega (arith, small, many, count_is));
      }

  -- the same after it was turned
  pub turned_table : {turned : Work} → ReadsFar judged turned → turned.table ≡ closed plan.now plan.start judged_so_far
  turned_table far = ap (λ (it : Work). it.table) far.rest ∙ judged_table

  pub turned_all : {turned : Work} → ReadsFar judged turned → IsSetting plan old → all_of turned ≡ plan.all
  turned_all far setting = ap all_of far.rest ∙ all_kept setting.all_is

  pub turned_done : {turned : Work} (done : ℕ) → ReadsFar judged turned → done ≡ progress.done + turned.room.near.count → done ≡ length judged_so_far
  turned_done done far done_is =
      done_is ∙ ap (λ (it : WindowValue). progress.done + it.count) (ap (λ (it : Work). it.room.near) far.rest ∙ near_kept) ∙ sym length_judged

  -- ---- after it was turned

  module _ {far : WindowValue} {folders : List FolderView} (setting : IsSetting plan old)
      (read : ReadsWindow judged.table judged.room.starts (stripes_next plan.every judged progress.done) judged.room.far far mid.folders folders) where
    abbrev pub ahead : List StripeReading
    ahead = readings_in (stripes_next plan.every judged progress.done) far

    reads_ahead : AreRead plan.start ahead mid.folders folders
    reads_ahead =
        let shape = (differs-closed plan.now plan.start judged_so_far).shape in
        let width = (differs-closed plan.now plan.start judged_so_far).columns in
        let table_width : length judged.table.columns ≡ length plan.start.columns = ap (λ (table : TableValue). length table.columns) judged_table ∙ width in
        are_read_by judged.table plan.start ahead mid.folders folders (ap (λ (table : TableValue). table.shape) judged_table ∙ shape) table_width
        (λ d stripes. ap (λ (table : TableValue). tasks_at table (recorded_starts table) d stripes) judged_table
        ∙ ap (λ (starts : StartsValue). tasks_at (closed plan.now plan.start judged_so_far) starts d stripes) (recorded_starts-closed plan.now plan.start judged_so_far)
        ∙ tasks_at-closed plan.now plan.start judged_so_far (recorded_starts plan.start) d stripes)
        (window_are_read judged.table judged.room.starts (stripes_next plan.every judged progress.done) judged.room.far far mid.folders folders
        window.ready.is_work.room.starts window.ready.is_work.room.far.lanes (window.so_far.reads.read.folders ∙ setting.lent ∙ sym table_width) read)

    abbrev many_ahead : ℕ
    many_ahead = count_after plan.every judged (progress.done + judged.room.near.count)

    ahead_within : progress.done + judged.room.near.count + many_ahead ≤ all_of judged
    ahead_within =
        let first = window_within plan.every judged.room.near.room (all_of judged) progress.done window.ready.within in
        window_within plan.every judged.room.near.room (all_of judged) (progress.done + judged.room.near.count) (omega (arith, first, window.ready.near))

    pub reads_turned : ReadsFirst plan.start (judged_so_far ++ ahead) old.folders folders
    reads_turned =
        let stripes = stripes_next plan.every judged progress.done in
        let place : progress.done + judged.room.near.count ≡ length judged_so_far = ap (λ (it : WindowValue). progress.done + it.count) near_kept ∙ sym length_judged in
        let items : judged.pending.items ≡ pending_stripes plan.start.infos = ap (λ (it : Work). it.pending.items) window.judges.rest ∙ window.so_far.pending in
        reads_more plan.start judged_so_far ahead stripes old.folders mid.folders folders window.so_far.reads reads_ahead (stripes_of_window stripes far)
        (ap (λ (n : ℕ). take n (drop (progress.done + judged.room.near.count) judged.pending.items)) (sym (length_after judged.pending.items (progress.done + judged.room.near.count) many_ahead ahead_within))
        ∙ ap₂ (λ (n : ℕ) (its : List ℕ). take (length stripes) (drop n its)) place items)

    -- they are no more than one window has
    few_ahead : length ahead ≤ stripe_count (length plan.start.columns) plan.start.shape.block_size
    few_ahead =
        let stripes = stripes_next plan.every judged progress.done in
        let long : length ahead ≡ length stripes = length-map (range_with_len 0 (length stripes)) (reading_at stripes far) ∙ length-range_with_len 0 (length stripes) in
        let many : length stripes ≡ many_ahead = length_after judged.pending.items (progress.done + judged.room.near.count) many_ahead ahead_within in
        let room : many_ahead ≤ judged.room.near.room = window_few plan.every judged.room.near.room (all_of judged) (progress.done + judged.room.near.count) in
        few_of plan.now plan.start judged.table judged_so_far (length ahead) judged.room.near.room judged_table (omega (arith, long, many, room))
        (room_few judged.table (all_of judged) judged.room window.ready.is_work.room)

    -- nor are those that were judged last
    few_judged : length ws ≤ stripe_count (length plan.start.columns) plan.start.shape.block_size
    few_judged =
        let room : work.room.near.count ≤ work.room.near.room = omega (arith, window.so_far.ready.near, window_few plan.every work.room.near.room (all_of work) progress.done) in
        few_of plan.now plan.start work.table xs (length ws) work.room.near.room window.so_far.table
        (omega (arith, length_of_window (stripes_near work progress.done) work.room.near, stripes_many, room))
        (room_few work.table (all_of work) work.room window.so_far.ready.is_work.room)

    -- a call failed
    pub breaks_turned : {vault : VaultView} → SomeCalls mid.vault vault → IsStopped plan judged_so_far old.vault vault → Breaks view standing stands plan old (outside folders vault lines reports)
    breaks_turned {vault} calls stopped =
        breaks_with view standing stands plan judged_so_far ahead old (outside folders vault lines reports) reads_turned few_ahead
        (broke_in plan judged_so_far xs ws old.vault mid.vault vault refl few_judged (is_window setting) window.so_far.vault.ran calls) stopped told_judged

    -- none failed
    pub synced_more : {turned saved swapped : Work} {more : Progress} {counts : Counts} {c : ℕ} {vault : VaultView} → AreCounts work.table ws counts → ReadsFar judged turned → turned.room.far ≡ far
        → KeepsWork turned saved → swapped ≡ swapped_of saved → more.done ≡ progress.done + turned.room.near.count → more.synced ≡ progress.synced + counts.synced
        → more.findings ≡ more_findings progress.findings counts.findings → IsUnderway plan judged_so_far c (length judged_so_far) old.vault vault
        → HasSynced view standing stands plan more swapped old (outside folders vault lines reports)
    synced_more {turned} {saved} {swapped} {more} {counts} {c} {vault} counted reads_far far_is keeps swap done synced findings under =
        let all = turned_is judged turned saved swapped reads_far keeps swap in
        let near : turned.room.near ≡ judged.room.near = ap (λ (it : Work). it.room.near) reads_far.rest in
        let done_is : more.done ≡ progress.done + judged.room.near.count = done ∙ ap (λ (it : WindowValue). progress.done + it.count) near in
        let read_far = subst (λ (it : WindowValue). ReadsWindow judged.table judged.room.starts (stripes_next plan.every judged progress.done) judged.room.far it mid.folders folders) (sym far_is) read in
        let ahead_is : readings_near swapped more.done ≡ ahead =
        ap (readings_near swapped) done_is
        ∙ near_is plan.every judged swapped progress.done judged.room.far turned.room.far mid.folders folders window.ready all read_far (read_far.room ∙ window.ready.is_work.room.as_much)
        ∙ ap (readings_in (stripes_next plan.every judged progress.done)) far_is in
        record {
          readings = judged_so_far;
          windows = suc window.so_far.windows;
          cut = ends_again setting;
          count = length_judged ∙ ap (λ (it : WindowValue). progress.done + it.count) (sym near_kept) ∙ sym done_is;
          pending = ap (λ it. it.items) all.pending ∙ ap (λ (it : Work). it.pending.items) window.judges.rest ∙ window.so_far.pending;
          ready = subst (IsReady plan.every swapped) (sym done_is) (turn_ready plan.every judged turned saved swapped progress.done mid.folders folders window.ready reads_far read_far keeps swap);
          reads = subst (λ (its : List StripeReading). ReadsFirst plan.start (judged_so_far ++ its) old.folders folders) (sym ahead_is) reads_turned;
          table = all.table ∙ judged_table;
          told = told_judged;
          synced = synced ∙ synced_judged counts counted;
          findings = findings ∙ found_judged counts counted;
          saved = c;
          vault = under;
        }

  -- ---- the vault

  module _ {turned : VaultView} (setting : IsSetting plan old) (more : progress.done < all_of work)
      (formed : IsWellFormed turned) (calls : SomeCalls mid.vault turned) (changes : ChangesBy (WritesBlocks judged.room.near.block_size (IsChosen (choice_near judged progress.done))) mid.vault turned) where
    pub written_judged : RanAll (window_calls mid.vault.levels judged.room.near (choice_near judged progress.done) judged.room.near.count) (log_of (state_of mid.vault)) (log_of (state_of turned))
        → ((rows : Rows) → Reads (HoldsRows mid.vault.levels judged.room.near.block_size rows) mid.vault
        → Reads (HoldsRows mid.vault.levels judged.room.near.block_size (window_rows judged.room.near (choice_near judged progress.done) judged.room.near.count rows)) turned)
        → IsWritten plan judged_so_far window.so_far.saved old.vault turned
    written_judged ran holds =
        subst (λ (its : List StripeReading). IsWritten plan (xs ++ its) window.so_far.saved old.vault turned) readings_kept
        (underway_written plan xs (choice_near judged progress.done).stripes judged.room.near (choice_near judged progress.done).chosen window.so_far.saved old.vault mid.vault turned setting.for (comes_next setting more) window.so_far.vault formed calls changes ran holds)

    pub stopped_judged : RanUpTo (window_calls mid.vault.levels judged.room.near (choice_near judged progress.done) judged.room.near.count) (log_of (state_of mid.vault)) (log_of (state_of turned))
        → IsStopped plan judged_so_far old.vault turned
    stopped_judged up =
        subst (λ (its : List StripeReading). IsStopped plan (xs ++ its) old.vault turned) readings_kept
        (underway_stopped_writing plan xs (choice_near judged progress.done).stripes judged.room.near (choice_near judged progress.done).chosen window.so_far.saved old.vault mid.vault turned setting.for (comes_next setting more) window.so_far.vault formed calls changes up
        (writing_broke mid.vault.levels judged.room.near (choice_near judged progress.done) judged.room.near.count mid.vault turned up))
