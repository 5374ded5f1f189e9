-- The file of one record at the end of a fix: it can be finished, and what was done to it, and told.
use Rattle.std.proofs.Common.{◌≡◌, ◌≢◌, ◌⊎◌, inl, inr, ℕ, List, [], Bool, true, false, Option, IsTrue, if◌then◌else◌, refl, sym, ap, ◌∙◌, subst}
use Rattle.disk_model.specs.Folder.{FolderView, FolderCall}
use Rattle.disk_model.specs.Sink.{SinkView}
use Rattle.disk_model.specs.Tree.{IsTree}
use Rattle.disk_model.specs.declared.meta.Meta.{Meta}
use Rattle.file_table.specs.Table.{record_at, records_in}
use Rattle.snap_report.specs.Report.{ReportView}
use Rattle.snap_report.specs.Told.{Told}
use Rattle.snap_report.specs.declared.events.Event.{Event}
use Rattle.snap_report.specs.declared.pages.Lines.{Lines}
use Rattle.snap_report.proofs.ToldLemmas.{told_nothing}
use Rattle.stripe_reader.specs.Starts.{StartsValue, start_in, starts_at}
use Rattle.stripe_examiner.specs.declared.counts.Counts.{Counts}
use Rattle.file_restorer.specs.declared.finishing.Finish.{Finish}
use Rattle.file_restorer.specs.declared.finishing.Finish.TheVariants.{Kept, Gone}
use Rattle.file_restorer.specs.declared.state.FileState.{FileState}
use Rattle.stripe_examiner.specs.Counts.{AreCounts}
use Rattle.snap_fix.specs.Ending.{FinishesThis, finish_news, is_finished, news_of, states_at}
use Rattle.snap_fix.specs.EndingSteps.{CanEndRecord, EndsNotRecord, EndsRecord, column_outside}
use Rattle.file_restorer.specs.Breaking.{StepFails}
use Rattle.file_restorer.specs.Finishing.{CanFinish, FinishesNot, FinishesRecord, FitsTree, IsFinishCall, finish_calls, finish_of, was_gone}
use Rattle.file_restorer.specs.Order.{FolderWrites}
use Rattle.repair_scope.specs.Plan.{FixPlan, entry_at}
use Rattle.file_restorer.specs.State.{StepMakes, record_path, state_in}
use Rattle.file_restorer.proofs.FolderCallLemmas.{step_none, step_wider}
use Rattle.file_restorer.proofs.FolderFailsLemmas.{step_fails_wider}
use Rattle.file_restorer.proofs.FinishRecordLemmas.{none_gone}
use Rattle.file_restorer.proofs.OrderLemmas.{writes_none}
use Rattle.stripe_examiner.proofs.TellingLemmas.{told_as}

module _ (plan : FixPlan) (d i : ℕ) (starts : StartsValue) (states : List (List FileState)) (folder : FolderView) where
  abbrev pub CallBy : Option Meta → FolderCall → Type 0
  CallBy listed call = IsFinishCall (state_in states d i).lost listed (start_in (starts_at starts.columns d) i) (state_in states d i)
      (record_path (records_in plan.table d) i) (record_at plan.table.columns d i).meta call

  abbrev calls_by : Option Meta → List FolderCall
  calls_by listed = finish_calls (state_in states d i).lost listed (start_in (starts_at starts.columns d) i) (state_in states d i)
      (record_path (records_in plan.table d) i) (record_at plan.table.columns d i).meta

  -- its calls are those of a record that is finished
  call_of : (listed : Option Meta) → is_finished plan d i ≡ true → listed ≡ (entry_at plan d i).listed → (call : FolderCall) → CallBy listed call
      → FinishesThis plan d i (starts_at starts.columns d) (states_at states d) call
  call_of listed finished same call is = (finished, subst (λ (l : Option Meta). CallBy l call) same is)

  -- it can be finished, where it is to be
  pub can_finish : (listed : Option Meta) → is_finished plan d i ≡ true → listed ≡ (entry_at plan d i).listed → (IsTrue folder.tells → IsTree folder.tree)
      → CanEndRecord plan d i starts states folder → CanFinish plan.table d i listed starts states folder
  can_finish listed finished same is_tree can = record {
    column = can.column;
    rec = can.rec;
    starts_fit = can.starts_fit;
    states_fit = can.states_fit;
    is_tree = is_tree;
    is_open = can.is_open;
    free = λ told. (can.can told finished).free;
    fits = λ told.
        subst (λ (l : Option Meta). FitsTree (record_path (records_in plan.table d) i) l (start_in (starts_at starts.columns d) i) (state_in states d i) folder.tree)
        (sym same) (can.can told finished).fits;
  }

  module _ {W R : Type 0} (view : W → SinkView) (standing : R → ReportView) (stands : R → List Event → Type 0) (lines : Lines W) (reports : List R) where
    -- it was finished
    pub ends_done : (listed : Option Meta) (finish : Finish) (starts_new : StartsValue) (states_new : List (List FileState)) (folder_new : FolderView)
        (lines_new : Lines W) (reports_new : List R) (counts : Counts)
        → is_finished plan d i ≡ true → listed ≡ (entry_at plan d i).listed
        → FinishesRecord plan.table d i listed finish starts states folder starts_new states_new folder_new
        → Told view standing stands plan.table.columns (finish_news d i finish) lines lines_new reports reports_new → AreCounts (finish_news d i finish) counts
        → EndsRecord view standing stands plan d i (column_outside starts states folder lines reports) (column_outside starts_new states_new folder_new lines_new reports_new) counts
    ends_done listed finish starts_new states_new folder_new lines_new reports_new counts finished same does told counted = record {
      finish = finish;
      starts_fit = does.starts_fit;
      states_fit = does.states_fit;
      other_starts = does.other_starts;
      other_states = does.other_states;
      makes =
          let This = FinishesThis plan d i (starts_at starts.columns d) (states_at states d) in
          subst (λ (b : Bool). StepMakes This (if b then calls_by (entry_at plan d i).listed else []) (was_gone finish) folder folder_new) (sym finished)
          (subst (λ (l : Option Meta). StepMakes This (calls_by l) (was_gone finish) folder folder_new) same
          (step_wider (CallBy listed) This (calls_by listed) (was_gone finish) (call_of listed finished same) does.makes));
      is = λ is.
          subst (λ (l : Option Meta).
          (finish ≡ finish_of (record_at plan.table.columns d i).meta l (start_in (starts_at starts.columns d) i) (state_in states d i) folder.keeps)
          ⊎ ((finish ≡ Gone) × (folder.tells ≡ false)
          × (finish_of (record_at plan.table.columns d i).meta l (start_in (starts_at starts.columns d) i) (state_in states d i) folder.keeps ≢ Kept))) same does.is;
      holds = λ tells is. does.holds tells;
      whole = λ tells is. does.whole tells;
      others = λ tells name apart. does.others tells name (apart finished);
      wrote = λ tells.
          subst (λ (b : Bool). FolderWrites (if b then calls_by (entry_at plan d i).listed else []) folder folder_new) (sym finished)
          (subst (λ (l : Option Meta). FolderWrites (calls_by l) folder folder_new) same (does.wrote (there does.is tells)));
      told = told_as view standing stands plan.table.columns (news_of plan d i finish) (finish_news d i finish) lines lines_new reports reports_new news told;
      counts_are = subst (λ (events : List Event). AreCounts events counts) (sym news) counted;
    }
      where
        news : news_of plan d i finish ≡ finish_news d i finish
        news = ap (λ (b : Bool). if b then finish_news d i finish else []) finished

        -- where the folder tells its files, the file was there
        there : {B : Type 0}
            → (finish ≡ finish_of (record_at plan.table.columns d i).meta listed (start_in (starts_at starts.columns d) i) (state_in states d i) folder.keeps)
            ⊎ ((finish ≡ Gone) × (folder.tells ≡ false) × B) → IsTrue folder.tells → was_gone finish ≡ false
        there (inl is) tells =
            ap was_gone is ∙ none_gone (record_at plan.table.columns d i).meta listed (start_in (starts_at starts.columns d) i) (state_in states d i) folder.keeps
        there (inr is) tells = absurd (let clash : true ≡ false = sym tells ∙ is.1 in cc)

    -- it was not to be
    pub ends_kept : (counts : Counts) → is_finished plan d i ≡ false → CanEndRecord plan d i starts states folder → AreCounts [] counts
        → EndsRecord view standing stands plan d i (column_outside starts states folder lines reports) (column_outside starts states folder lines reports) counts
    ends_kept counts kept can counted = record {
      finish = Kept;
      starts_fit = can.starts_fit;
      states_fit = can.states_fit;
      other_starts = λ k j other. refl;
      other_states = λ k j other. refl;
      makes = subst (λ (b : Bool). StepMakes (FinishesThis plan d i (starts_at starts.columns d) (states_at states d)) (if b then calls_by (entry_at plan d i).listed else []) false folder folder)
          (sym kept) (step_none (FinishesThis plan d i (starts_at starts.columns d) (states_at states d)) folder);
      is = λ is. absurd (clash is);
      holds = λ tells is. absurd (clash is);
      whole = λ tells is. absurd (clash is);
      others = λ tells name apart. refl;
      wrote = λ tells. subst (λ (b : Bool). FolderWrites (if b then calls_by (entry_at plan d i).listed else []) folder folder) (sym kept) (writes_none folder);
      told = told_as view standing stands plan.table.columns (news_of plan d i Kept) [] lines lines reports reports news (told_nothing view standing stands plan.table.columns lines reports);
      counts_are = subst (λ (events : List Event). AreCounts events counts) (sym news) counted;
    }
      where
        clash : is_finished plan d i ≡ true → ⊥
        clash is = let same : false ≡ true = sym kept ∙ is in cc

        news : news_of plan d i Kept ≡ []
        news = ap (λ (b : Bool). if b then finish_news d i Kept else []) kept

    -- one of its calls failed
    pub ends_not : (listed : Option Meta) (folder_new : FolderView) (starts_new : StartsValue) (states_new : List (List FileState)) → is_finished plan d i ≡ true
        → listed ≡ (entry_at plan d i).listed → FinishesNot plan.table d i listed starts states folder folder_new
        → EndsNotRecord view standing stands plan d i (column_outside starts states folder lines reports) (column_outside starts_new states_new folder_new lines reports)
    ends_not listed folder_new starts_new states_new finished same broke = record {
      fails =
          let This = FinishesThis plan d i (starts_at starts.columns d) (states_at states d) in
          subst (λ (b : Bool). StepFails This (if b then calls_by (entry_at plan d i).listed else []) folder folder_new) (sym finished)
          (subst (λ (l : Option Meta). StepFails This (calls_by l) folder folder_new) same
          (step_fails_wider (CallBy listed) This (calls_by listed) (call_of listed finished same) broke));
      told = told_nothing view standing stands plan.table.columns lines reports;
    }
