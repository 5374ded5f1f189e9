-- The files of all columns at the end of a fix, column by column.
use Rattle.std.proofs.Common.{◌≡◌, ◌≢◌, inl, inr, ℕ, suc, ◌+◌, ◌-◌, ◌<◌, ◌≤◌, List, [], ◌∷◌, ◌++◌, length, map, set, get_or, true, false, refl, sym, ap, ◌∙◌, subst, arith, append_assoc}
use Rattle.std.specs.List.{range_with_len, flat_map}
use Rattle.std.proofs.lemmas.Bool.{cases_lt}
use Rattle.std.proofs.lemmas.List.{get_or-map, get_or-set_other, get_or-set_same, length-append, length-map, length-set, map-set}
use Rattle.disk_model.specs.Folder.{FolderView, quiet_folder}
use Rattle.disk_model.specs.Sink.{SinkView}
use Rattle.file_table.specs.Valid.{IsValid}
use Rattle.snap_report.specs.Report.{ReportView}
use Rattle.snap_report.specs.declared.events.Event.{Event}
use Rattle.snap_report.specs.declared.pages.Lines.{Lines}
use Rattle.snap_report.proofs.ToldLemmas.{told_then}
use Rattle.stripe_reader.specs.Columns.{folder_at}
use Rattle.stripe_reader.specs.Starts.{StartsValue, StartsFit, starts_at}
use Rattle.stripe_reader.specs.declared.starts.Start.{Start}
use Rattle.stripe_examiner.specs.declared.counts.Counts.{Counts}
use Rattle.file_restorer.specs.declared.finishing.Finish.{Finish}
use Rattle.file_restorer.specs.declared.state.FileState.{FileState}
use Rattle.file_restorer.specs.Breaking.{FolderFails}
use Rattle.stripe_examiner.specs.Counts.{AreCounts}
use Rattle.snap_fix.specs.Ending.{AreColumnFinishCalls, AreDone, FailsAtRecord, CanFinishAll, CanFinishColumn, FinishesAll, FinishesFiles, FinishesNotAll, FinishesFile, IsDone, all_finish_news, column_news, column_news_at, finish_at, finishes_at, is_finished, states_at}
use Rattle.snap_fix.specs.EndingSteps.{CanEndColumn, EndsColumn, EndsNotColumn, column_outside}
use Rattle.file_restorer.specs.Mending.{StatesFit}
use Rattle.repair_scope.specs.Plan.{FixPlan}
use Rattle.file_table.specs.Table.{records_in}
use Rattle.snap_fix.specs.Repairing.{outside}
use Rattle.file_restorer.specs.State.{FolderMakesBy}
use Rattle.snap_fix.proofs.EndingTellLemmas.{columns_before, events_same, events_split, finishes_before, finishes_last}
use Rattle.snap_fix.proofs.EndingWantedLemmas.{column_wanted, columns_wanted, first_columns, wanted_columns}
use Rattle.stripe_examiner.proofs.TellingLemmas.{Joins, Tells, events_to, tells_as, tells_more, tells_nothing, told_as}

module _ (plan : FixPlan) (first : StartsValue) (firsts : List (List FileState)) (olds : List FolderView) where
  -- The files of the first columns were finished that were to be, and the other columns are as they were.
  pub record AllTo (d : ℕ) (starts : StartsValue) (states : List (List FileState)) (news : List FolderView) : Type 0 where
    pub finishes : List (List Finish)
    pub long : length finishes ≡ d
    pub starts_fit : StartsFit plan.table starts
    pub states_fit : StatesFit plan.table states
    pub later_starts : (k : ℕ) → d ≤ k → k < length plan.table.columns → starts_at starts.columns k ≡ starts_at first.columns k
    pub later_states : (k : ℕ) → d ≤ k → k < length plan.table.columns → states_at states k ≡ states_at firsts k
    pub folders : length news ≡ length olds
    pub columns : (k : ℕ) → k < d → FinishesFiles plan k (starts_at first.columns k) (states_at firsts k) (finishes_at finishes k) (folder_at olds k) (folder_at news k)
    pub later : (k : ℕ) → d ≤ k → folder_at news k ≡ folder_at olds k

  -- and just that was told
  pub record AllToldTo {W R : Type 0} (view : W → SinkView) (standing : R → ReportView) (stands : R → List Event → Type 0) (d : ℕ) (starts : StartsValue) (states : List (List FileState))
      (news : List FolderView) (lines_old lines : Lines W) (reports_old reports : List R) (counts : Counts) : Type 0 where
    pub all : AllTo d starts states news
    pub told : Tells view standing stands plan.table.columns (events_to (column_news_at plan all.finishes) d) counts lines_old lines reports_old reports

  all_start : CanFinishAll plan first firsts olds → AllTo 0 first firsts olds
  all_start can = record {
    finishes = [];
    long = refl;
    starts_fit = can.starts_fit;
    states_fit = can.states_fit;
    later_starts = λ k from below. refl;
    later_states = λ k from below. refl;
    folders = refl;
    columns = λ k below. absurd (omega (arith, below));
    later = λ k from. refl;
  }

  pub all_told_start : {W R : Type 0} (view : W → SinkView) (standing : R → ReportView) (stands : R → List Event → Type 0) (lines : Lines W) (reports : List R) (counts : Counts)
      → CanFinishAll plan first firsts olds → AreCounts [] counts → AllToldTo view standing stands 0 first firsts olds lines lines reports reports counts
  all_told_start view standing stands lines reports counts can none = record {
    all = all_start can;
    told = tells_nothing view standing stands plan.table.columns counts lines reports none;
  }

  module _ {F : Type 0} (view_of : F → FolderView) (d : ℕ) (starts : StartsValue) (states : List (List FileState)) (folders : List F) (before after : F)
      (can : CanFinishAll plan first firsts olds) (within : d < length plan.table.columns) (so_far : AllTo d starts states (map view_of folders)) where
    inside : d < length folders
    inside = let many = length-map folders view_of in omega (arith, within, can.folders_are, so_far.folders, many)

    -- the folder of the column is lent as it was
    lent : view_of (get_or folders d before) ≡ folder_at olds d
    lent = sym (get_or-map view_of folders d before (quiet_folder 0 false) inside) ∙ so_far.later d (omega arith)

    now_here : folder_at (map view_of (set folders d after)) d ≡ view_of after
    now_here = ap (λ (vs : List FolderView). folder_at vs d) (map-set view_of folders d after)
        ∙ get_or-set_same (map view_of folders) d (view_of after) (quiet_folder 0 false) (let many = length-map folders view_of in omega (arith, inside, many))

    now_other : (k : ℕ) → k ≢ d → folder_at (map view_of (set folders d after)) k ≡ folder_at (map view_of folders) k
    now_other k other = ap (λ (vs : List FolderView). folder_at vs k) (map-set view_of folders d after) ∙ get_or-set_other (map view_of folders) d k (view_of after) (quiet_folder 0 false) other

    many_now : length (map view_of (set folders d after)) ≡ length olds
    many_now = length-map (set folders d after) view_of ∙ length-set folders d after ∙ sym (length-map folders view_of) ∙ so_far.folders

    same_starts : starts_at starts.columns d ≡ starts_at first.columns d
    same_starts = so_far.later_starts d (omega arith) within

    same_states : states_at states d ≡ states_at firsts d
    same_states = so_far.later_states d (omega arith) within

    -- the files of the next column can be finished
    pub can_column : IsValid plan.table → CanEndColumn plan d starts states (view_of (get_or folders d before))
    can_column valid = record {
      valid = valid;
      column = within;
      entries_fit = can.entries_fit;
      starts_fit = so_far.starts_fit;
      states_fit = so_far.states_fit;
      can = subst (λ (v : FolderView). CanFinishColumn plan d (starts_at starts.columns d) (states_at states d) v) (sym lent)
          (subst (λ (s : List Start). CanFinishColumn plan d s (states_at states d) (folder_at olds d)) (sym same_starts)
          (subst (λ (s : List FileState). CanFinishColumn plan d (starts_at first.columns d) s (folder_at olds d)) (sym same_states) (can.each d within)));
    }

    -- calls of its folder are calls of what it was
    calls_here : FolderFails (FinishesFile plan d (starts_at starts.columns d) (states_at states d)) (view_of (get_or folders d before)) (view_of after)
        → FolderFails (FinishesFile plan d (starts_at first.columns d) (states_at firsts d)) (folder_at olds d) (folder_at (map view_of (set folders d after)) d)
    calls_here fails =
        subst (λ (v : FolderView). FolderFails (FinishesFile plan d (starts_at first.columns d) (states_at firsts d)) (folder_at olds d) v) (sym now_here)
        (subst (λ (v : FolderView). FolderFails (FinishesFile plan d (starts_at first.columns d) (states_at firsts d)) v (view_of after)) lent
        (subst (λ (s : List Start). FolderFails (FinishesFile plan d s (states_at firsts d)) (view_of (get_or folders d before)) (view_of after)) same_starts
        (subst (λ (s : List FileState). FolderFails (FinishesFile plan d (starts_at starts.columns d) s) (view_of (get_or folders d before)) (view_of after)) same_states fails)))

    part_here : (done : List Finish) (told : List Event)
        → FailsAtRecord plan d (starts_at starts.columns d) (states_at states d) done told (view_of (get_or folders d before)) (view_of after)
        → FailsAtRecord plan d (starts_at first.columns d) (states_at firsts d) done told (folder_at olds d) (folder_at (map view_of (set folders d after)) d)
    part_here done told part =
        subst (λ (v : FolderView). FailsAtRecord plan d (starts_at first.columns d) (states_at firsts d) done told (folder_at olds d) v) (sym now_here)
        (subst (λ (v : FolderView). FailsAtRecord plan d (starts_at first.columns d) (states_at firsts d) done told v (view_of after)) lent
        (subst (λ (s : List Start). FailsAtRecord plan d s (states_at firsts d) done told (view_of (get_or folders d before)) (view_of after)) same_starts
        (subst (λ (s : List FileState). FailsAtRecord plan d (starts_at starts.columns d) s done told (view_of (get_or folders d before)) (view_of after)) same_states part)))

    -- what would be done to a record of it is by what it was
    done_here : (i : ℕ) (finish : Finish) → IsDone plan d (starts_at starts.columns d) (states_at states d) (view_of (get_or folders d before)) i finish
        → IsDone plan d (starts_at first.columns d) (states_at firsts d) (folder_at olds d) i finish
    done_here i finish is =
        subst (λ (v : FolderView). IsDone plan d (starts_at first.columns d) (states_at firsts d) v i finish) lent
        (subst (λ (s : List Start). IsDone plan d s (states_at firsts d) (view_of (get_or folders d before)) i finish) same_starts
        (subst (λ (s : List FileState). IsDone plan d (starts_at starts.columns d) s (view_of (get_or folders d before)) i finish) same_states is))

    column_here : (done : List Finish) → FinishesFiles plan d (starts_at starts.columns d) (states_at states d) done (view_of (get_or folders d before)) (view_of after)
        → FinishesFiles plan d (starts_at first.columns d) (states_at firsts d) done (folder_at olds d) (folder_at (map view_of (set folders d after)) d)
    column_here done ends =
        subst (λ (v : FolderView). FinishesFiles plan d (starts_at first.columns d) (states_at firsts d) done (folder_at olds d) v) (sym now_here)
        (subst (λ (v : FolderView). FinishesFiles plan d (starts_at first.columns d) (states_at firsts d) done v (view_of after)) lent
        (subst (λ (s : List Start). FinishesFiles plan d s (states_at firsts d) done (view_of (get_or folders d before)) (view_of after)) same_starts
        (subst (λ (s : List FileState). FinishesFiles plan d (starts_at starts.columns d) s done (view_of (get_or folders d before)) (view_of after)) same_states ends)))

    -- an earlier column is as it was
    column_before : (done : List Finish) (k : ℕ) → k < d
        → FinishesFiles plan k (starts_at first.columns k) (states_at firsts k) (finishes_at (so_far.finishes ++ done ∷ []) k) (folder_at olds k) (folder_at (map view_of (set folders d after)) k)
    column_before done k below =
        subst (λ (v : FolderView). FinishesFiles plan k (starts_at first.columns k) (states_at firsts k) (finishes_at (so_far.finishes ++ done ∷ []) k) (folder_at olds k) v)
        (sym (now_other k (λ same. omega (arith, same, below))))
        (subst (λ (fs : List Finish). FinishesFiles plan k (starts_at first.columns k) (states_at firsts k) fs (folder_at olds k) (folder_at (map view_of folders) k))
        (sym (finishes_before so_far.finishes done k (omega (arith, below, so_far.long)))) (so_far.columns k below))

    module _ {W R : Type 0} (view : W → SinkView) (standing : R → ReportView) (stands : R → List Event → Type 0)
        (starts_new : StartsValue) (states_new : List (List FileState)) (lines_old lines lines_new : Lines W) (reports_old reports reports_new : List R) (so_counts : Counts)
        (before_told : Tells view standing stands plan.table.columns (events_to (column_news_at plan so_far.finishes) d) so_counts lines_old lines reports_old reports) where
      -- the files of one more column were finished
      module _ (counts : Counts)
          (one : EndsColumn view standing stands plan d (column_outside starts states (view_of (get_or folders d before)) lines reports)
          (column_outside starts_new states_new (view_of after) lines_new reports_new) counts) where
        all_more : AllTo (d + 1) starts_new states_new (map view_of (set folders d after))
        all_more = record {
          finishes = so_far.finishes ++ one.done ∷ [];
          long = (let sum = length-append so_far.finishes (one.done ∷ []) in omega (arith, sum, so_far.long));
          starts_fit = one.starts_fit;
          states_fit = one.states_fit;
          later_starts = λ k from below. one.other_starts k below (λ same. omega (arith, same, from)) ∙ so_far.later_starts k (omega (arith, from)) below;
          later_states = λ k from below. one.other_states k below (λ same. omega (arith, same, from)) ∙ so_far.later_states k (omega (arith, from)) below;
          folders = many_now;
          columns = λ k below. elim (cases_lt k d) [
            | inl near ↦ column_before one.done k near
            | inr far ↦
                let here : d ≡ k = omega (arith, below, far) in
                subst (λ (j : ℕ). FinishesFiles plan j (starts_at first.columns j) (states_at firsts j) (finishes_at (so_far.finishes ++ one.done ∷ []) j) (folder_at olds j) (folder_at (map view_of (set folders d after)) j)) here
                (subst (λ (fs : List Finish). FinishesFiles plan d (starts_at first.columns d) (states_at firsts d) fs (folder_at olds d) (folder_at (map view_of (set folders d after)) d))
                (sym (finishes_last so_far.finishes one.done d so_far.long)) (column_here one.done one.finishes))
          ];
          later = λ k from. now_other k (λ same. omega (arith, same, from)) ∙ so_far.later k (omega (arith, from));
        }

        -- and told
        pub all_told_more : (both : Counts) → Joins so_counts counts both
            → AllToldTo view standing stands (d + 1) starts_new states_new (map view_of (set folders d after)) lines_old lines_new reports_old reports_new both
        unfolding all_more
        all_told_more both joins = record {
          all = all_more;
          told = tells_more view standing stands plan.table.columns (column_news_at plan (so_far.finishes ++ one.done ∷ [])) d (column_news plan d one.done) so_counts counts both
              lines_old lines lines_new reports_old reports reports_new
              (sym (ap (column_news plan d) (finishes_last so_far.finishes one.done d so_far.long))) joins
              (tells_as view standing stands plan.table.columns (events_to (column_news_at plan (so_far.finishes ++ one.done ∷ [])) d) (events_to (column_news_at plan so_far.finishes) d)
              so_counts lines_old lines reports_old reports (columns_before plan so_far.finishes one.done d so_far.long) before_told)
              one.told one.counts_are;
        }

      -- its folder failed
      pub all_not : EndsNotColumn view standing stands plan d (column_outside starts states (view_of (get_or folders d before)) lines reports)
          (column_outside starts_new states_new (view_of after) lines_new reports_new)
          → FinishesNotAll view standing stands plan (outside first firsts olds lines_old reports_old)
          (outside starts_new states_new (map view_of (set folders d after)) lines_new reports_new) d
      all_not broke = record {
        folders = many_now;
        fails = record {
          within = within;
          before = λ k near.
              subst (λ (fs : List Finish). FolderMakesBy (AreColumnFinishCalls plan k (starts_at first.columns k) (states_at firsts k) fs) (folder_at olds k)
              (folder_at (map view_of (set folders d after)) k))
              (sym (first_columns plan first firsts olds given (d + 1) k given_long (omega (arith, near)))) (column_before broke.done k near).makes;
          here = calls_here broke.fails;
          behind = λ k past below. now_other k (λ same. omega (arith, same, past)) ∙ so_far.later k (omega (arith, past));
        };
        finishes = all_finishes;
        are = are;
        first = front;
        last = broke.first;
        part = subst (λ (fs : List Finish). FailsAtRecord plan d (starts_at first.columns d) (states_at firsts d) fs broke.first (folder_at olds d)
            (folder_at (map view_of (set folders d after)) d)) (sym finishes_here) (part_here broke.done broke.first broke.part);
        first_is = refl;
        rest = broke.rest ++ tail;
        events = events_split of d (length plan.table.columns) within
            ∙ ap (λ (es : List Event). events_to of d ++ (es ++ tail)) (ap (column_news plan d) finishes_here ∙ broke.events)
            ∙ ap (λ (es : List Event). events_to of d ++ es) (append_assoc broke.first broke.rest tail)
            ∙ sym (append_assoc (events_to of d) broke.first (broke.rest ++ tail));
        told = told_then view standing stands plan.table.columns (events_to of d) broke.first lines_old lines lines_new reports_old reports reports_new
            (told_as view standing stands plan.table.columns (events_to of d) (events_to (column_news_at plan so_far.finishes) d) lines_old lines reports_old reports
            (events_same of (column_news_at plan so_far.finishes) d (λ k below. ap (column_news plan k) (finishes_first k below))) before_told.told)
            broke.told;
      }
        where
          -- what was done to the first columns, and would be to the others
          given : List (List Finish)
          given = so_far.finishes ++ broke.done ∷ []

          given_long : length given ≡ d + 1
          given_long = let sum = length-append so_far.finishes (broke.done ∷ []) in omega (arith, sum, so_far.long)

          all_finishes : List (List Finish)
          all_finishes = given ++ wanted_columns plan first firsts olds (d + 1)

          finishes_first : (k : ℕ) → k < d → finishes_at all_finishes k ≡ finishes_at so_far.finishes k
          finishes_first k below = first_columns plan first firsts olds given (d + 1) k given_long (omega (arith, below)) ∙ finishes_before so_far.finishes broke.done k (omega (arith, below, so_far.long))

          finishes_here : finishes_at all_finishes d ≡ broke.done
          finishes_here = first_columns plan first firsts olds given (d + 1) d given_long (omega arith) ∙ finishes_last so_far.finishes broke.done d so_far.long

          IsOf : ℕ → ℕ → List Finish → Type 0
          IsOf k i done = IsDone plan k (starts_at first.columns k) (states_at firsts k) (folder_at olds k) i (finish_at done i)

          are_here : (i : ℕ) → i < length (records_in plan.table d) → is_finished plan d i ≡ true → IsOf d i (finishes_at all_finishes d)
          are_here i inside finished = subst (IsOf d i) (sym finishes_here) (done_here i (finish_at broke.done i) (broke.is i inside finished))

          are : AreDone plan first firsts olds all_finishes
          are k i below inside finished = elim (cases_lt k d) [
            | inl near ↦ subst (IsOf k i) (sym (finishes_first k near)) ((so_far.columns k near).is i inside finished)
            | inr from ↦ elim (cases_lt d k) [
              | inl past ↦ subst (IsOf k i) (sym (columns_wanted plan first firsts olds given (d + 1) k given_long (omega (arith, past)) below)) (column_wanted plan first firsts olds k i inside)
              | inr not_past ↦
                  let here : d ≡ k = omega (arith, from, not_past) in
                  subst (λ (j : ℕ). i < length (records_in plan.table j) → is_finished plan j i ≡ true → IsOf j i (finishes_at all_finishes j)) here (are_here i) inside finished
            ]
          ]

          of : ℕ → List Event
          of = column_news_at plan all_finishes

          tail : List Event
          tail = flat_map of (range_with_len (d + 1) (length plan.table.columns - suc d))

          front : List Event
          front = events_to of d ++ broke.first

  -- all were
  pub all_done : {W R : Type 0} (view : W → SinkView) (standing : R → ReportView) (stands : R → List Event → Type 0) (d : ℕ) (starts : StartsValue) (states : List (List FileState)) (news : List FolderView)
      (lines_old lines : Lines W) (reports_old reports : List R) (counts : Counts) → d ≡ length plan.table.columns
      → AllToldTo view standing stands d starts states news lines_old lines reports_old reports counts
      → FinishesAll view standing stands plan (outside first firsts olds lines_old reports_old) (outside starts states news lines reports) counts
  all_done view standing stands d starts states news lines_old lines reports_old reports counts end so_far =
      let all = so_far.all in
      let as_all = tells_as view standing stands plan.table.columns (all_finish_news plan all.finishes) (events_to (column_news_at plan all.finishes) d) counts lines_old lines reports_old reports
      (ap (events_to (column_news_at plan all.finishes)) (sym end)) so_far.told in
      record {
        finishes = all.finishes;
        folders = all.folders;
        columns = λ k below. all.columns k (omega (arith, below, end));
        told = as_all.told;
        counts_are = as_all.counts_are;
      }
