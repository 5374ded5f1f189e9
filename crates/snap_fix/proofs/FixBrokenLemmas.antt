-- A fix that broke off in its stripes.
use Rattle.std.proofs.Common.{◌≡◌, inl, ℕ, ◌<◌, List, [], ◌∷◌, ◌++◌, length, All, Bool, refl, sym, ap, ◌∙◌, subst, arith, append_assoc}
use Rattle.std.proofs.lemmas.List.{map-append}
use Rattle.std.proofs.lemmas.List.Elements.{All-append}
use Rattle.disk_model.specs.Cause.{RoseBy}
use Rattle.disk_model.specs.Folder.{FolderView}
use Rattle.disk_model.specs.Sink.{SinkView}
use Rattle.disk_model.specs.Vault.{VaultView}
use Rattle.file_table.specs.Table.{TableValue}
use Rattle.file_table.specs.Valid.{IsValid}
use Rattle.file_table.proofs.PrefixLemmas.{All-left, All-right}
use Rattle.array_setup.specs.declared.ways.Selection.{Selection}
use Rattle.snap_report.specs.Answer.{is_io_of, is_parity_io}
use Rattle.snap_report.specs.Report.{ReportView}
use Rattle.snap_report.specs.Told.{Told}
use Rattle.snap_report.specs.declared.answer.RunFault.{RunFault}
use Rattle.snap_report.specs.declared.answer.RunFault.TheVariants.{Folder, Vault, Memory}
use Rattle.snap_report.specs.declared.events.Event.{Event}
use Rattle.snap_report.specs.declared.pages.Lines.{Lines}
use Rattle.snap_report.proofs.ToldLemmas.{told_then}
use Rattle.stripe_reader.specs.Columns.{folder_at}
use Rattle.stripe_reader.specs.Starts.{StartsValue}
use Rattle.snap_fix.specs.declared.beginning.Work.{Work}
use Rattle.repair_scope.specs.declared.scope.Mode.{Mode}
use Rattle.file_restorer.specs.declared.state.FileState.{FileState}
use Rattle.snap_fix.specs.Beginning.{Begins}
use Rattle.snap_fix.specs.Checking.{plan_for}
use Rattle.snap_fix.specs.Course.{IsPlan, Outside, outside}
use Rattle.snap_fix.specs.BrokenStripe.{broken_events}
use Rattle.stripe_examiner.specs.Facts.{StripeFacts}
use Rattle.stripe_examiner.specs.Findings.{opening_events}
use Rattle.snap_fix.specs.FixBreaking.{BreaksFiles, BreaksLast, FixBreaks}
use Rattle.snap_fix.specs.FixRun.{BreaksFolders, BreaksStripes, HasBroken}
use Rattle.snap_fix.specs.Fixing.{FixScene, MendsVault, facts_of, fix_scene, unwritten}
use Rattle.stripe_examiner.specs.Known.{AreFacts}
use Rattle.stripe_examiner.specs.Looking.{numbers_of}
use Rattle.snap_fix.specs.Mended.{Mended, all_mended_events}
use Rattle.repair_scope.specs.Plan.{FixPlan, stripes_of}
use Rattle.stripe_examiner.specs.Place.{starts_of}
use Rattle.stripe_examiner.specs.Present.{ArePresent}
use Rattle.stripe_examiner.specs.Spare.{SpareView}
use Rattle.file_restorer.specs.State.{AnyCall, FolderMakes, first_states}
use Rattle.snap_fix.specs.Underway.{AreFixable, AreUnderway, IsStripeCall}
use Rattle.snap_fix.proofs.FixAllLemmas.{begun_all, facts_beside, facts_last, tells_exact}
use Rattle.snap_fix.proofs.FixCallLemmas.{fix_calls_of_writing}
use Rattle.snap_fix.proofs.FixCountLemmas.{count_append}
use Rattle.snap_fix.proofs.FixEventLemmas.{io_no_file, none_opening, parity_io_no_file}
use Rattle.snap_fix.proofs.KeptStartsLemmas.{files_any, stripe_makes, well_then}
use Rattle.snap_fix.proofs.StartsKeptLemmas.{keeps_starts_then}
use Rattle.snap_fix.proofs.FixStartedLemmas.{IsPresentAt, its_plan, started_underway, listed_since, first_present}

-- ---- which events were told

-- the events before the stripes tell no failed reading
broke_opened : (plan : FixPlan) (fault : RunFault) (first : List Event) (olds news : List FolderView) (old new : VaultView)
    → HasBroken plan fault first olds news old new → HasBroken plan fault (opening_events plan ++ first) olds news old new
broke_opened plan (Folder disk) first olds news old new broke =
    let sum = count_append (is_io_of disk) (opening_events plan) first in
    let none = none_opening (is_io_of disk) (io_no_file disk) plan in
    let rose = broke.1.rose in
    (broke.0, record { rose = omega (arith, sum, none, rose); call = broke.1.call })
broke_opened plan Vault first olds news old new broke =
    let sum = count_append is_parity_io (opening_events plan) first in
    let none = none_opening is_parity_io parity_io_no_file plan in
    let rose = broke.rose in
    record { rose = omega (arith, sum, none, rose); call = broke.call }
broke_opened plan Memory first olds news old new broke = broke

-- ---- the run

module _ {W R : Type 0} (view : W → SinkView) (standing : R → ReportView) (stands : R → List Event → Type 0) (mode : Mode) (selection : Selection) (names : List (List ℕ))
    (table : TableValue) (valid : IsValid table) (work : Work) (old : Outside W R) (mids : List FolderView) (begun : Begins mode selection names table work old.folders mids)
    (folders_are : length old.folders ≡ length table.columns) (fixable : AreFixable (plan_for table work) mids)
    (states : List (List FileState)) (states_are : states ≡ first_states work.starts) (opened_lines : Lines W) (opened_reports : List R) where
  abbrev plan : FixPlan
  plan = plan_for table work

  abbrev opening : List Event
  opening = opening_events plan

  abbrev starts : StartsValue
  starts = starts_of table begun.lists

  plan_is : IsPlan mode selection names table begun.lists plan
  plan_is = its_plan mode selection names table work old.folders mids begun folders_are

  underway_start : AreUnderway plan [] mids mids starts states
  underway_start = started_underway mode selection names table work old.folders mids begun folders_are states states_are

  -- a count of faults since before the listing
  rose_listed : (d n now : ℕ) → d < length table.columns → RoseBy n (folder_at mids d).faults now → RoseBy n (folder_at old.folders d).faults now
  rose_listed = listed_since mode selection names table work old.folders mids begun folders_are

  -- where the vault failed, all blocks of the last stripe were written, too
  last_of : (earlier : List Mended) (last : Mended) (news : List FolderView) (by : RunFault)
      → (broke : BreaksFolders plan starts states by earlier last mids news)
      → BreaksLast by plan starts earlier last mids
      (record { starts = broke.starts; states = broke.states; folders = broke.mids }) news
  last_of earlier last news (Folder disk) broke = broke.breaks
  last_of earlier last news Vault broke =
      let cells = broke.breaks in
      record {
        makes = cells.makes;
        written = record { starts = cells.starts; states = cells.states; folders = news };
        stood = cells.stood;
        writes = record {
          stood = keeps_starts_then starts broke.starts cells.starts broke.stood cells.stood;
          underway = cells.underway earlier mids fixable (broke.underway [] mids fixable underway_start);
          makes = λ d below. well_then plan starts broke.starts broke.stood d earlier (last ∷ [])
              (broke.makes d below) (stripe_makes plan broke.starts d last (cells.makes d below));
        };
        folders = refl;
      }
  last_of earlier last news Memory broke = absurd broke.breaks

  -- all blocks of the stripes before the one that broke off were written
  files_of : (earlier : List Mended) (last : Mended) (news : List FolderView) (by : RunFault) → BreaksFolders plan starts states by earlier last mids news
      → BreaksFiles plan starts by earlier last mids news
  files_of earlier last news by broke = record {
    written = record { starts = broke.starts; states = broke.states; folders = broke.mids };
    writes = record { stood = broke.stood; underway = broke.underway [] mids fixable underway_start; makes = broke.makes };
    breaks = last_of earlier last news by broke;
  }

  module _ (opened : Told view standing stands table.columns opening old.lines opened_lines old.reports opened_reports) (written : List Bool)
      (starts_mid : StartsValue) (states_mid : List (List FileState)) (written_mid : List Bool) (folders_mid : List FolderView) (vault_mid : VaultView) (spare_mid : SpareView)
      (lines_mid : Lines W) (reports_mid : List R) where
    abbrev scene_from : StartsValue → FixScene W R
    scene_from from = fix_scene from states written mids old.vault old.spare opened_lines opened_reports

    abbrev scene_mid : FixScene W R
    scene_mid = fix_scene starts_mid states_mid written_mid folders_mid vault_mid spare_mid lines_mid reports_mid

    -- the stripes broke off
    pub stripes_broke : (fault : RunFault) → BreaksStripes view standing stands plan work.stripes.items (scene_from work.starts) scene_mid fault
        → FixBreaks view standing stands mode selection names table old (outside folders_mid vault_mid spare_mid lines_mid reports_mid) fault
    stripes_broke fault broke_then =
        let broke = subst (λ (from : StartsValue). BreaksStripes view standing stands plan work.stripes.items (scene_from from) scene_mid fault) begun.starts broke_then in
        let numbers : stripes_of plan ≡ numbers_of (facts_of broke.stripes) ++ broke.behind = sym begun.stripes ∙ broke.numbers_are in
        let looked = facts_of broke.stripes in
        let ahead = broke.ahead.stripes in
        let beside = facts_beside broke.stripes ahead in
        let numbers_all : stripes_of plan ≡ numbers_of (facts_of (broke.stripes ++ unwritten ahead)) ++ broke.looked.more
        = numbers ∙ ap (λ (its : List ℕ). numbers_of looked ++ its) broke.looked.behind_is ∙ sym (append_assoc (numbers_of looked) (numbers_of ahead) broke.looked.more)
        ∙ ap (λ (its : List ℕ). its ++ broke.looked.more) (sym (map-append (λ (it : StripeFacts). it.stripe) looked ahead) ∙ ap numbers_of (sym beside)) in
        let present = subst (ArePresent plan starts mids) beside
        (first_present mode selection names table work old.folders mids begun folders_are valid (broke.stripes ++ unwritten ahead) broke.looked.more numbers_all
        (subst (All (AreFacts plan)) (sym beside) (All-append (AreFacts plan) looked ahead broke.are broke.looked.are)) (broke.cells mids fixable underway_start)) in
        record {
          lists = begun.lists;
          mids = mids;
          as_many = begun.as_many;
          listed = begun.listed;
          plan = plan;
          plan_is = plan_is;
          stripes = broke.stripes;
          behind = broke.behind;
          numbers = numbers;
          readings = broke.readings;
          finds = record { are = broke.are; cells = All-left (IsPresentAt plan starts mids) looked ahead present; levels = broke.read; answered = broke.answered };
          unread = broke.unread;
          unread_cells_of = λ d within. rose_listed d _ _ within (broke.unread_cells_of d within);
          ahead = broke.ahead;
          looked = broke.looked;
          cells_ahead = All-right (IsPresentAt plan starts mids) looked ahead present;
          spare = broke.spare;
          vault = subst (λ (its : List StripeFacts). MendsVault plan its old.vault vault_mid) (sym (facts_last broke.stripes broke.earlier broke.last broke.stripes_are))
              (begun_all fault plan (facts_of broke.earlier) broke.last.facts old.vault vault_mid broke.ran.vault);
          first = opening ++ broke.first;
          off = inl (record {
            earlier = broke.earlier;
            last = broke.last;
            stripes_are = broke.stripes_are;
            level = broke.level;
            first_is = ap (λ (events : List Event). opening ++ events)
                (tells_exact plan fault broke.level broke.earlier broke.last broke.first broke.tells)
                ∙ sym (append_assoc opening (all_mended_events plan broke.earlier)
                (broken_events fault plan broke.last broke.level));
            makes = files_of broke.earlier broke.last folders_mid fault broke.makes;
            ran = broke.ran;
          });
          told = told_then view standing stands table.columns opening broke.first old.lines opened_lines lines_mid old.reports opened_reports reports_mid opened broke.told;
          folders = broke.folders ∙ begun.as_many;
          reads = broke.reads;
          calls = fix_calls_of_writing plan starts broke.stripes mids folders_mid
              (λ d within. subst (λ (its : List Mended). FolderMakes (AnyCall (IsStripeCall plan starts d its)) (folder_at mids d) (folder_at folders_mid d)) (sym broke.stripes_are)
              (files_any plan fault starts states broke.earlier broke.last mids folders_mid broke.makes d within));
          broke = broke_opened plan fault broke.first mids folders_mid old.vault vault_mid broke.broke;
          rose = broke.rose;
        }
