-- A fix as a whole, by what its stripes, the sync of its levels and the finish of its files left.
use Rattle.std.proofs.Common.{◌≡◌, inl, inr, ℕ, ◌+◌, ◌<◌, ◌≤◌, List, [], ◌++◌, length, get_or, Bool, false, refl, sym, ap, ◌∙◌, subst, arith, append_assoc}
use Rattle.std.specs.List.{count_by}
use Rattle.std.proofs.lemmas.List.{append-nil}
use Rattle.std.proofs.lemmas.List.Elements.{All-nil}
use Rattle.disk_model.specs.Cause.{RoseBy}
use Rattle.disk_model.specs.Folder.{FolderView}
use Rattle.disk_model.specs.Sink.{SinkView}
use Rattle.disk_model.specs.Vault.{VaultView, VaultCall, IsWellFormed}
use Rattle.file_table.specs.Table.{TableValue}
use Rattle.file_table.specs.Valid.{IsValid}
use Rattle.parity_writer.specs.LevelReading.{LevelReading}
use Rattle.array_setup.specs.declared.ways.Selection.{Selection}
use Rattle.snap_report.specs.Answer.{is_io_of, is_parity_io}
use Rattle.snap_report.specs.EndLines.{fix_text}
use Rattle.snap_report.specs.EventLines.{lines_of}
use Rattle.snap_report.specs.Report.{ReportView}
use Rattle.snap_report.specs.State.{Puts, state_of}
use Rattle.snap_report.specs.Telling.{Settled}
use Rattle.snap_report.specs.Told.{Told}
use Rattle.snap_report.specs.declared.answer.RunFault.TheVariants.{Folder, Vault}
use Rattle.snap_report.specs.declared.events.Event.{Event}
use Rattle.snap_report.specs.declared.pages.Lines.{Lines}
use Rattle.snap_report.proofs.PutsLemmas.{puts_then}
use Rattle.snap_report.proofs.ToldLemmas.{told_then}
use Rattle.stripe_reader.specs.Columns.{folder_at}
use Rattle.stripe_reader.specs.Starts.{StartsValue, starts_at}
use Rattle.snap_fix.specs.declared.beginning.Work.{Work}
use Rattle.stripe_examiner.specs.declared.counts.Counts.{Counts}
use Rattle.snap_fix.specs.declared.fixing.Totals.{Totals}
use Rattle.repair_scope.specs.declared.scope.Mode.{Mode}
use Rattle.file_restorer.specs.declared.state.FileState.{FileState}
use Rattle.snap_fix.specs.Beginning.{Begins}
use Rattle.snap_fix.specs.Checking.{plan_for}
use Rattle.stripe_examiner.specs.Counts.{AreCounts}
use Rattle.snap_fix.specs.Course.{IsPlan, Outside, outside}
use Rattle.file_restorer.specs.Breaking.{FailsAfter}
use Rattle.snap_fix.specs.Ending.{AreColumnFinishCalls, FinishesAll, FinishesNotAll, FinishesOne, SyncsNot, SyncsWritten, all_finish_news, finishes_at, states_at, written_syncs}
use Rattle.stripe_examiner.specs.Facts.{StripeFacts}
use Rattle.stripe_examiner.specs.Findings.{opening_events}
use Rattle.snap_fix.specs.FixBreaking.{FixBreaks}
use Rattle.snap_fix.specs.FixCourse.{FixFinds, Fixes, FixesVault, WritesFiles, Written, fix_events, mend_syncs}
use Rattle.snap_fix.specs.FixRun.{FixesStripes, LooksAhead}
use Rattle.snap_fix.specs.FolderWindows.{WriteInWindows}
use Rattle.stripe_examiner.specs.Asking.{AsksSpare}
use Rattle.snap_fix.specs.Fixing.{FixScene, facts_of, fix_scene, was_written}
use Rattle.stripe_examiner.specs.Known.{AreFacts}
use Rattle.stripe_examiner.specs.Looking.{numbers_of, unread_cells, unread_in}
use Rattle.snap_fix.specs.Mended.{Mended, all_mended_events}
use Rattle.repair_scope.specs.Plan.{FixPlan, stripes_of}
use Rattle.stripe_examiner.specs.Place.{starts_of}
use Rattle.snap_fix.specs.Repairing.{outside as files_outside}
use Rattle.snap_fix.specs.Reads.{AreAllRead, AreReadBy, FolderReads}
use Rattle.stripe_examiner.specs.Spare.{SpareView}
use Rattle.file_restorer.specs.State.{first_states}
use Rattle.snap_fix.specs.Underway.{AreFixable, AreUnderway, done_well}
use Rattle.snap_fix.specs.Windows.{FixWindow, mend_calls}
use Rattle.snap_fix.proofs.BreakingLemmas.{fails_after}
use Rattle.snap_fix.proofs.FixAllLemmas.{parity_io_rose}
use Rattle.snap_fix.proofs.FixCallLemmas.{fix_calls_of, fix_calls_of_writing}
use Rattle.snap_fix.proofs.FixCountLemmas.{count_append}
use Rattle.snap_fix.proofs.FixEventLemmas.{io_no_file, none_finishing, none_finishing_first, none_opening, parity_io_no_file}
use Rattle.snap_fix.proofs.FixFilesLemmas.{fixes_files}
use Rattle.snap_fix.proofs.FixIntoLemmas.{folder_gained, vault_gained}
use Rattle.snap_fix.proofs.FixVaultLemmas.{fixes_vault, flag_is, holds_synced, mends_synced, rose_on, syncs_are}
use Rattle.snap_fix.proofs.FinishPartsLemmas.{finish_calls_each, finish_writes}
use Rattle.file_restorer.proofs.FolderFailsLemmas.{fails_gained, in_column_any}
use Rattle.snap_fix.proofs.KeptStartsLemmas.{stripes_any}
use Rattle.snap_fix.proofs.ReadsLemmas.{quiet_in_column, reads_on, reads_wider}
use Rattle.snap_fix.proofs.WindowsLemmas.{some_room}
use Rattle.snap_fix.proofs.FixSinceLemmas.{rose_past}
use Rattle.snap_fix.proofs.FixStartedLemmas.{IsPresentAt, its_plan, started_underway, listed_since, first_present}

module _ {W R : Type 0} (view : W → SinkView) (standing : R → ReportView) (stands : R → List Event → Type 0) (mode : Mode) (selection : Selection) (names : List (List ℕ))
    (table : TableValue) (valid : IsValid table) (work : Work) (old : Outside W R) (mids : List FolderView) (begun : Begins mode selection names table work old.folders mids)
    (folders_are : length old.folders ≡ length table.columns) (fixable : AreFixable (plan_for table work) mids)
    (states : List (List FileState)) (states_are : states ≡ first_states work.starts) (opened_lines : Lines W) (opened_reports : List R) where
  abbrev plan : FixPlan
  plan = plan_for table work

  abbrev opening : List Event
  opening = opening_events plan

  abbrev starts : StartsValue
  starts = starts_of table begun.lists

  plan_is : IsPlan mode selection names table begun.lists plan
  plan_is = its_plan mode selection names table work old.folders mids begun folders_are

  underway_start : AreUnderway plan [] mids mids starts states
  underway_start = started_underway mode selection names table work old.folders mids begun folders_are states states_are

  -- a count of faults since before the listing
  rose_listed : (d n now : ℕ) → d < length table.columns → RoseBy n (folder_at mids d).faults now → RoseBy n (folder_at old.folders d).faults now
  rose_listed = listed_since mode selection names table work old.folders mids begun folders_are

  module _ (opened : Told view standing stands table.columns opening old.lines opened_lines old.reports opened_reports) (written : List Bool)
      (starts_mid : StartsValue) (states_mid : List (List FileState)) (written_mid : List Bool) (folders_mid : List FolderView) (vault_mid : VaultView) (spare_mid : SpareView)
      (lines_mid : Lines W) (reports_mid : List R) where
    abbrev scene_from : StartsValue → FixScene W R
    scene_from from = fix_scene from states written mids old.vault old.spare opened_lines opened_reports

    abbrev scene_mid : FixScene W R
    scene_mid = fix_scene starts_mid states_mid written_mid folders_mid vault_mid spare_mid lines_mid reports_mid

    module _ (totals : Totals) (fixed_then : FixesStripes view standing stands plan work.stripes.items (scene_from work.starts) scene_mid totals) (vault_new : VaultView) where
      fixed : FixesStripes view standing stands plan work.stripes.items (scene_from starts) scene_mid totals
      fixed = subst (λ (from : StartsValue). FixesStripes view standing stands plan work.stripes.items (scene_from from) scene_mid totals) begun.starts fixed_then

      abbrev stripes : List Mended
      stripes = fixed.stripes

      abbrev mended : List Event
      mended = all_mended_events plan stripes

      abbrev readings : List (List LevelReading)
      readings = fixed.fixes.readings

      abbrev windows : List FixWindow
      windows = fixed.fixes.windows

      -- none was looked at behind them
      abbrev nothing_ahead : FixWindow
      nothing_ahead = record { stripes = []; readings = [] }

      looked : LooksAhead plan (length stripes) nothing_ahead [] old.vault
      looked = record { are = All-nil (AreFacts plan); levels = tt; more = []; behind_is = refl; few = some_room plan; to_the_end = inl refl }

      all_read : (n : ℕ) → RoseBy (unread_in readings) old.vault.faults n → RoseBy (unread_in (readings ++ [])) old.vault.faults n
      all_read n rose = subst (λ (its : List (List LevelReading)). RoseBy (unread_in its) old.vault.faults n) (sym (append-nil readings)) rose

      all_asked : AsksSpare plan (facts_of stripes ++ []) old.spare spare_mid
      all_asked = subst (λ (its : List StripeFacts). AsksSpare plan its old.spare spare_mid) (sym (append-nil (facts_of stripes))) fixed.fixes.spare

      abbrev all_written : Written
      all_written = record { starts = starts_mid; states = states_mid; folders = folders_mid }

      writes : WritesFiles plan starts stripes mids all_written
      writes = record { stood = fixed.fixes.mends.stood; underway = fixed.fixes.mends.underway [] mids fixable underway_start; makes = fixed.fixes.mends.makes }

      in_windows : WriteInWindows plan starts starts_mid stripes mids folders_mid
      in_windows = record { windows = windows; readings = readings; windows_are = fixed.fixes.windows_are; each = fixed.in_windows }

      reads_all : (d : ℕ) → d < length table.columns → FolderReads (AreAllRead plan starts d (facts_of stripes ++ [])) (folder_at mids d) (folder_at folders_mid d)
      reads_all d within = reads_wider (AreReadBy plan starts starts_mid d (facts_of stripes)) (AreAllRead plan starts d (facts_of stripes ++ []))
          (λ done is. (starts_mid, subst (λ (its : List StripeFacts). AreReadBy plan starts starts_mid d its done) (sym (append-nil (facts_of stripes))) is)) (fixed.reads d within)

      -- a count of faults rose by the cells of all of them
      unread_all : (d n before : ℕ) → RoseBy (unread_cells d (facts_of stripes)) before n → RoseBy (unread_cells d (facts_of stripes ++ [])) before n
      unread_all d n before rose = subst (λ (its : List StripeFacts). RoseBy (unread_cells d its) before n) (sym (append-nil (facts_of stripes))) rose

      numbers_are : numbers_of (facts_of stripes) ≡ stripes_of plan
      numbers_are = fixed.numbers_are ∙ begun.stripes

      numbers_all : stripes_of plan ≡ numbers_of (facts_of stripes) ++ []
      numbers_all = sym (append-nil (numbers_of (facts_of stripes)) ∙ numbers_are)

      finds : FixFinds plan starts mids old.vault stripes readings
      finds = record {
        are = fixed.fixes.are;
        cells = first_present mode selection names table work old.folders mids begun folders_are valid stripes [] numbers_all fixed.fixes.are (fixed.read mids fixable underway_start);
        levels = fixed.fixes.read;
        answered = fixed.fixes.mends.answered;
      }

      told_stripes : Told view standing stands table.columns (opening ++ mended) old.lines lines_mid old.reports reports_mid
      told_stripes = told_then view standing stands table.columns opening mended old.lines opened_lines lines_mid old.reports opened_reports reports_mid opened fixed.fixes.mends.told

      -- a count of faults of a folder, after its files were finished
      rose_through : (d n now : ℕ) → d < length table.columns → RoseBy n (folder_at mids d).faults (folder_at folders_mid d).faults → (folder_at folders_mid d).faults ≤ now
          → RoseBy n (folder_at old.folders d).faults now
      rose_through d n now within rose later = rose_listed d n now within (rose_on n (folder_at mids d).faults (folder_at folders_mid d).faults now rose later)

      -- the levels that are synced are those that were written
      module _ (levels : List Bool) (levels_are : levels ≡ written_mid) (written_are : length written ≡ table.shape.levels)
          (none_written : (r : ℕ) → r < length written → get_or written r false ≡ false) where
        as_many_levels : length levels ≡ table.shape.levels
        as_many_levels = ap length levels_are ∙ fixed.fixes.mends.written.0 ∙ written_are

        flags_are : (r : ℕ) → r < table.shape.levels → get_or levels r false ≡ was_written plan stripes r
        flags_are r below =
            let within : r < length written = omega (arith, below, written_are) in
            ap (λ (all : List Bool). get_or all r false) levels_are ∙ flag_is plan stripes written written_mid fixed.fixes.mends.written r within (none_written r within)

        -- all calls for the stripes were made, and then a sync failed
        sync_failed : FailsAfter [] (done_well (written_syncs levels)) vault_mid vault_new
            → FailsAfter (mend_calls plan windows) (done_well (mend_syncs plan stripes)) old.vault vault_new
        sync_failed fails =
            subst (λ (calls : List VaultCall). FailsAfter (mend_calls plan windows) (done_well calls) old.vault vault_new)
            (syncs_are plan stripes levels as_many_levels flags_are)
            (fails_after (mend_calls plan windows) (done_well (written_syncs levels)) old.vault vault_mid vault_new fixed.fixes.ran fails)

        -- or each level that was written was synced
        all_synced : IsWellFormed vault_new → SyncsWritten levels vault_mid vault_new → FixesVault plan stripes readings old.vault vault_new
        all_synced formed synced =
            fixes_vault plan stripes readings windows fixed.fixes.windows_are old.vault vault_mid vault_new levels as_many_levels flags_are synced formed
            fixed.fixes.ran fixed.fixes.unread fixed.fixes.mends.vault fixed.fixes.mends.zeros fixed.fixes.mends.holds

      -- a sync of a level failed
      pub sync_broke : (levels : List Bool) → levels ≡ written_mid → length written ≡ table.shape.levels → ((r : ℕ) → r < length written → get_or written r false ≡ false)
          → SyncsNot (written_syncs levels) vault_mid vault_new → FixBreaks view standing stands mode selection names table old (outside folders_mid vault_new spare_mid lines_mid reports_mid) Vault
      sync_broke levels levels_are written_are none_written not_synced =
          let sum = count_append is_parity_io opening mended in
          let none = none_opening is_parity_io parity_io_no_file plan in
          let before = parity_io_rose view standing stands plan stripes totals (scene_from starts) scene_mid fixed.fixes in
          let rose = not_synced.rose in
          record {
            lists = begun.lists;
            mids = mids;
            as_many = begun.as_many;
            listed = begun.listed;
            plan = plan;
            plan_is = plan_is;
            stripes = stripes;
            behind = [];
            numbers = numbers_all;
            readings = readings;
            finds = finds;
            ahead = nothing_ahead;
            looked = looked;
            unread = all_read vault_new.faults (rose_on (unread_in readings) old.vault.faults vault_mid.faults vault_new.faults fixed.fixes.unread not_synced.calls.goes_on.later);
            cells_ahead = All-nil (IsPresentAt plan starts mids);
            unread_cells_of = λ d within. unread_all d _ _ (rose_listed d _ _ within (fixed.unread d within));
            spare = all_asked;
            vault = mends_synced plan (facts_of stripes) old.vault vault_mid vault_new fixed.fixes.mends.vault not_synced.calls not_synced.drafts not_synced.changes;
            first = opening ++ mended;
            off = inr (
              refl,
              record {
                written = all_written;
                writes = writes;
                in_windows = in_windows;
                ending = record {
                  events = refl;
                  windows = windows;
                  windows_are = fixed.fixes.windows_are;
                  ran = sync_failed levels levels_are written_are none_written not_synced.ran;
                  holds = holds_synced plan (facts_of stripes) vault_mid vault_new not_synced.calls not_synced.changes fixed.fixes.mends.holds;
                  folders = refl;
                };
              },
            );
            told = told_stripes;
            folders = writes.underway.folders ∙ begun.as_many;
            reads = reads_all;
            calls = fix_calls_of_writing plan starts stripes mids folders_mid (λ d within. stripes_any plan starts d stripes (writes.makes d within));
            broke = record {
              rose = omega (arith, sum, none, before, rose);
              call = vault_gained old.vault vault_mid vault_new fixed.fixes.mends.vault.calls not_synced.calls not_synced.call;
            };
            rose = subst (λ (its : List (List LevelReading)). RoseBy (unread_in its + 1) old.vault.faults vault_new.faults) (sym (append-nil readings))
                (rose_past (unread_in readings) old.vault.faults vault_mid.faults vault_new.faults fixed.fixes.unread rose);
          }

      module _ (levels : List Bool) (synced : SyncsWritten levels vault_mid vault_new)
          (starts_new : StartsValue) (states_new : List (List FileState)) (folders_new : List FolderView) (lines_end : Lines W) (reports_new : List R) where
        told_with : (news : List Event) → Told view standing stands table.columns news lines_mid lines_end reports_mid reports_new
            → Told view standing stands table.columns (opening ++ (mended ++ news)) old.lines lines_end old.reports reports_new
        told_with news told =
            told_then view standing stands table.columns opening (mended ++ news) old.lines opened_lines lines_end old.reports opened_reports reports_new opened
            (told_then view standing stands table.columns mended news opened_lines lines_mid lines_end opened_reports reports_mid reports_new fixed.fixes.mends.told told)

        -- a folder failed while files were finished
        pub finish_broke : IsWellFormed vault_new → levels ≡ written_mid → length written ≡ table.shape.levels → ((r : ℕ) → r < length written → get_or written r false ≡ false)
            → (disk : ℕ) (plan_then : FixPlan) → plan_then ≡ plan
            → FinishesNotAll view standing stands plan_then (files_outside starts_mid states_mid folders_mid lines_mid reports_mid)
            (files_outside starts_new states_new folders_new lines_end reports_new) disk
            → FixBreaks view standing stands mode selection names table old (outside folders_new vault_new spare_mid lines_end reports_new) (Folder disk)
        finish_broke formed levels_are written_are none_written disk plan_then same broke_then =
            let broke = subst (λ (p : FixPlan). FinishesNotAll view standing stands p (files_outside starts_mid states_mid folders_mid lines_mid reports_mid)
            (files_outside starts_new states_new folders_new lines_end reports_new) disk) same broke_then in
            let sum = count_append (is_io_of disk) opening (mended ++ broke.first) in
            let more = count_append (is_io_of disk) mended broke.first in
            let none = none_opening (is_io_of disk) (io_no_file disk) plan in
            let no_more = none_finishing_first (is_io_of disk) (io_no_file disk) plan broke.finishes broke.first broke.rest broke.events in
            let fails = broke.fails in
            let makes = in_column_any disk (length table.columns) (λ (d : ℕ). AreColumnFinishCalls plan d (starts_at starts_mid.columns d) (states_at states_mid d) (finishes_at broke.finishes d))
            (λ (d : ℕ). FinishesOne plan d starts_mid states_mid) folders_mid folders_new fails
            (λ d. finish_calls_each plan d (starts_at starts_mid.columns d) (states_at states_mid d) (finishes_at broke.finishes d)) in
            let before = fixed.io disk fails.within in
            let rose = fails.here.rose in
            record {
              lists = begun.lists;
              mids = mids;
              as_many = begun.as_many;
              listed = begun.listed;
              plan = plan;
              plan_is = plan_is;
              stripes = stripes;
              behind = [];
              numbers = numbers_all;
              readings = readings;
              finds = finds;
              ahead = nothing_ahead;
              looked = looked;
              unread = all_read vault_new.faults (rose_on (unread_in readings) old.vault.faults vault_mid.faults vault_new.faults fixed.fixes.unread synced.syncs.some.goes_on.later);
              cells_ahead = All-nil (IsPresentAt plan starts mids);
              unread_cells_of = λ d within. unread_all d _ _ (rose_through d _ _ within (fixed.unread d within) (makes d within).goes_on.later);
              spare = all_asked;
              vault = mends_synced plan (facts_of stripes) old.vault vault_mid vault_new fixed.fixes.mends.vault synced.syncs.some synced.syncs.drafts synced.syncs.changes;
              first = opening ++ (mended ++ broke.first);
              off = inr (
                refl,
                record {
                  written = all_written;
                  writes = writes;
                  in_windows = in_windows;
                  ending = record {
                    finishes = broke.finishes;
                    are = broke.are;
                    finished = broke.first;
                    last = broke.last;
                    part = broke.part;
                    finished_is = broke.first_is;
                    rest = broke.rest;
                    events = sym (append_assoc opening mended broke.first);
                    finished_are = broke.events;
                    makes = fails;
                    vault = all_synced levels levels_are written_are none_written formed synced;
                  };
                },
              );
              told = told_with broke.first broke.told;
              folders = broke.folders ∙ writes.underway.folders ∙ begun.as_many;
              calls = fix_calls_of plan starts stripes mids folders_new all_written writes makes;
              reads = λ d within. reads_on (AreAllRead plan starts d (facts_of stripes ++ [])) (reads_all d within)
                  (quiet_in_column disk (length table.columns) (λ (k : ℕ). AreColumnFinishCalls plan k (starts_at starts_mid.columns k) (states_at states_mid k) (finishes_at broke.finishes k))
                  (λ (k : ℕ). FinishesOne plan k starts_mid states_mid) folders_mid folders_new
                  (λ k. finish_writes plan k (starts_at starts_mid.columns k) (states_at states_mid k))
                  (λ k. finish_calls_each plan k (starts_at starts_mid.columns k) (states_at states_mid k) (finishes_at broke.finishes k)) fails d within);
              broke = (
                fails.within,
                record {
                  rose = omega (arith, sum, more, none, no_more, before, rose);
                  call = folder_gained (folder_at mids disk) (folder_at folders_mid disk) (folder_at folders_new disk)
                      (writes.makes disk fails.within).goes_on (makes disk fails.within).goes_on
                      (fails_gained (FinishesOne plan disk starts_mid states_mid) fails.here);
                },
              );
              rose = subst (λ (its : List StripeFacts). RoseBy (unread_cells disk its + 1) (folder_at mids disk).faults (folder_at folders_new disk).faults) (sym (append-nil (facts_of stripes)))
                  (rose_past (unread_cells disk (facts_of stripes)) (folder_at mids disk).faults (folder_at folders_mid disk).faults (folder_at folders_new disk).faults (fixed.unread disk fails.within) rose);
            }

        -- all was done
        pub fixes : IsWellFormed vault_new → levels ≡ written_mid → length written ≡ table.shape.levels → ((r : ℕ) → r < length written → get_or written r false ≡ false)
            → (opening_counts news both counts : Counts) (lines_new : Lines W) (plan_then : FixPlan) → plan_then ≡ plan
            → FinishesAll view standing stands plan_then (files_outside starts_mid states_mid folders_mid lines_mid reports_mid)
            (files_outside starts_new states_new folders_new lines_end reports_new) news
            → AreCounts opening opening_counts
            → ((events others : List Event) → AreCounts events totals.counts → AreCounts others news → AreCounts (events ++ others) both)
            → ((events others : List Event) → AreCounts events opening_counts → AreCounts others both → AreCounts (events ++ others) counts)
            → Puts view (fix_text totals.blocks totals.parities counts.left) lines_end lines_new → Settled (state_of view lines_new)
            → Fixes view standing stands mode selection names table old (outside folders_new vault_new spare_mid lines_new reports_new)
            (record { blocks = totals.blocks; parities = totals.parities; findings = counts.found; left = counts.left })
        fixes formed levels_are written_are none_written opening_counts news both counts lines_new plan_then same finished_then opening_counted and_news and_all puts settled =
            let finished = subst (λ (p : FixPlan). FinishesAll view standing stands p (files_outside starts_mid states_mid folders_mid lines_mid reports_mid)
            (files_outside starts_new states_new folders_new lines_end reports_new) news) same finished_then in
            let finish_news = all_finish_news plan finished.finishes in
            let told = told_with finish_news finished.told in
            let counted = and_all opening (mended ++ finish_news) opening_counted (and_news mended finish_news fixed.fixes.mends.totals_are.counts finished.counts_are) in
            record {
              lists = begun.lists;
              mids = mids;
              as_many = begun.as_many;
              listed = begun.listed;
              plan = plan;
              plan_is = plan_is;
              stripes = stripes;
              numbers = numbers_are;
              readings = readings;
              finds = finds;
              spare = fixed.fixes.spare;
              vault = all_synced levels levels_are written_are none_written formed synced;
              finishes = finished.finishes;
              files = fixes_files plan starts stripes mids folders_new all_written finished.finishes writes (finished.folders ∙ writes.underway.folders) finished.columns fixed.reads in_windows;
              unread = λ d within. rose_through d _ _ within (fixed.unread d within) (finished.columns d within).makes.goes_on.later;
              io = λ d within.
                  let sum = count_append (is_io_of d) opening (mended ++ finish_news) in
                  let more = count_append (is_io_of d) mended finish_news in
                  let none = none_opening (is_io_of d) (io_no_file d) plan in
                  let no_more = none_finishing (is_io_of d) (io_no_file d) plan finished.finishes in
                  let before = rose_through d (count_by (is_io_of d) mended) (folder_at folders_new d).faults within (fixed.io d within) (finished.columns d within).makes.goes_on.later in
                  omega (arith, sum, more, none, no_more, before);
              given = told.given;
              puts = puts_then view (lines_of table.columns (fix_events plan stripes finished.finishes)) (fix_text totals.blocks totals.parities counts.left) old.lines lines_end lines_new told.puts puts;
              settled = settled;
              findings = counted.found;
              left = counted.left;
              blocks = fixed.fixes.mends.totals_are.blocks;
              parities = fixed.fixes.mends.totals_are.parities;
            }
