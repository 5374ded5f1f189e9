-- The files of a column at the end of a fix, record by record.
use Rattle.std.proofs.Common.{◌≡◌, ◌≢◌, inl, inr, ℕ, ◌+◌, ◌<◌, ◌≤◌, List, [], ◌∷◌, ◌++◌, length, Bool, true, false, IsTrue, if◌then◌else◌, refl, sym, ap, ap₂, ◌∙◌, subst, arith}
use Rattle.std.specs.List.{range_with_len, flat_map}
use Rattle.std.proofs.lemmas.Bool.{cases_lt}
use Rattle.std.proofs.lemmas.List.{append-nil, ext_get_or, length-append}
use Rattle.folder_listing.proofs.JoinedLemmas.{flat_range_more}
use Rattle.disk_model.specs.Folder.{FolderView, FolderCall}
use Rattle.disk_model.specs.Sink.{SinkView}
use Rattle.disk_model.specs.Tree.{Tree, file_of, path_of}
use Rattle.disk_model.specs.declared.meta.Stamp.{Stamp}
use Rattle.file_table.specs.Table.{record_at, records_in}
use Rattle.snap_report.specs.Report.{ReportView}
use Rattle.snap_report.specs.declared.events.Event.{Event}
use Rattle.snap_report.specs.declared.pages.Lines.{Lines}
use Rattle.snap_report.proofs.ToldLemmas.{told_then}
use Rattle.stripe_reader.specs.Starts.{StartsValue, StartsFit, no_start, start_in, starts_at}
use Rattle.stripe_reader.specs.declared.starts.Start.{Start}
use Rattle.stripe_examiner.specs.declared.counts.Counts.{Counts}
use Rattle.file_restorer.specs.declared.finishing.Finish.{Finish}
use Rattle.file_restorer.specs.declared.finishing.Finish.TheVariants.{Kept}
use Rattle.file_restorer.specs.declared.state.FileState.{FileState}
use Rattle.stripe_examiner.specs.Counts.{AreCounts}
use Rattle.snap_fix.specs.Ending.{AreFinishCalls, CanFinishFile, FinishesFile, FinishesThis, HoldsEnd, IsDone, StandsEnd, column_news, finish_at, is_finished, news_of, record_calls, record_news, state_at, states_at}
use Rattle.snap_fix.specs.EndingSteps.{CanEndColumn, CanEndRecord, EndsColumn, EndsNotColumn, EndsNotRecord, EndsRecord, column_outside}
use Rattle.file_restorer.specs.Finishing.{FitsTree, HoldsFinished, IsFinishCall, SameNames, StandsWhole, bytes_now, finish_calls, finish_of, was_gone}
use Rattle.file_restorer.specs.Breaking.{StepFails}
use Rattle.file_restorer.specs.Mending.{StatesFit}
use Rattle.file_restorer.specs.Order.{FolderWrites}
use Rattle.repair_scope.specs.Plan.{FixPlan, entry_at}
use Rattle.file_restorer.specs.State.{AreStepCalls, FolderMakesBy, OthersStay, WellCall, no_state, record_path, state_in}
use Rattle.snap_fix.proofs.EndingFilesLemmas.{fits_stays, free_stays, holds_on, holds_since, names_stay, whole_on, whole_since}
use Rattle.snap_fix.proofs.EndingTellLemmas.{events_after, events_split, finish_before, finish_last, records_before}
use Rattle.snap_fix.proofs.EndingWantedLemmas.{all_wanted, first_done, first_news, wanted_from}
use Rattle.snap_fix.proofs.FinishPartsLemmas.{finish_calls_as, finish_calls_more, first_calls_each, no_finish_calls}
use Rattle.file_restorer.proofs.FolderCallLemmas.{makes_by_none, makes_by_then, makes_by_wider, makes_each, step_calls_wider}
use Rattle.file_restorer.proofs.FolderFailsLemmas.{fails_then, fails_wider, step_fails_wider}
use Rattle.file_restorer.proofs.OrderLemmas.{writes_none, writes_then}
use Rattle.file_restorer.proofs.RecordPathsLemmas.{ArePaths, names_distinct}
use Rattle.stripe_examiner.proofs.TellingLemmas.{Joins, Tells, events_to, tells_as, tells_more, tells_nothing, told_as}

module _ (plan : FixPlan) (d : ℕ) (first : StartsValue) (firsts : List (List FileState)) (folder : FolderView) where
  abbrev starts_of : List Start
  starts_of = starts_at first.columns d

  abbrev states_of : List FileState
  states_of = states_at firsts d

  abbrev path_at : ℕ → List ℕ
  path_at i = record_path (records_in plan.table d) i

  -- the calls that finish so many records
  abbrev calls_to : ℕ → List FolderCall
  calls_to n = flat_map (record_calls plan d starts_of states_of) (range_with_len 0 n)

  -- The first records of the column were finished that were to be, and the others can be.
  pub record EndedTo (n : ℕ) (starts : StartsValue) (states : List (List FileState)) (now : FolderView) : Type 0 where
    pub done : List Finish
    pub long : length done ≡ n
    pub starts_fit : StartsFit plan.table starts
    pub states_fit : StatesFit plan.table states
    pub other_starts : (k : ℕ) → k < length plan.table.columns → k ≢ d → starts_at starts.columns k ≡ starts_at first.columns k
    pub other_states : (k : ℕ) → k < length plan.table.columns → k ≢ d → states_at states k ≡ states_at firsts k
    pub later_starts : (i : ℕ) → n ≤ i → start_in (starts_at starts.columns d) i ≡ start_in starts_of i
    pub later_states : (i : ℕ) → n ≤ i → state_in states d i ≡ state_at states_of i
    pub makes : FolderMakesBy (AreFinishCalls plan d starts_of states_of done n) folder now
    pub is : (i : ℕ) → i < n → is_finished plan d i ≡ true → IsDone plan d starts_of states_of folder i (finish_at done i)
    pub holds : IsTrue folder.tells → (i : ℕ) → i < n → is_finished plan d i ≡ true
        → HoldsEnd plan d starts_of states_of folder.keeps i (finish_at done i) folder.tree now.tree
    pub whole : IsTrue folder.tells → (i : ℕ) → i < n → is_finished plan d i ≡ true → (state_at states_of i).lost ≡ false
        → StandsEnd plan d starts_of folder.keeps i folder.tree now.tree
    pub others : IsTrue folder.tells → (name : List ℕ) → ((i : ℕ) (lost : Bool) → i < n → is_finished plan d i ≡ true → name ≢ path_of (path_at i) lost)
        → file_of now.tree name ≡ file_of folder.tree name
    pub wrote : IsTrue folder.tells → FolderWrites (calls_to n) folder now
    pub can : IsTrue folder.tells → (i : ℕ) → n ≤ i → i < length (records_in plan.table d) → is_finished plan d i ≡ true
        → CanFinishFile plan d starts_of states_of i now.tree

  -- and just that was told
  pub record ToldTo {W R : Type 0} (view : W → SinkView) (standing : R → ReportView) (stands : R → List Event → Type 0) (n : ℕ) (starts : StartsValue) (states : List (List FileState))
      (now : FolderView) (lines_old lines : Lines W) (reports_old reports : List R) (counts : Counts) : Type 0 where
    pub ended : EndedTo n starts states now
    pub told : Tells view standing stands plan.table.columns (events_to (record_news plan d ended.done) n) counts lines_old lines reports_old reports

  ended_start : CanEndColumn plan d first firsts folder → EndedTo 0 first firsts folder
  ended_start can = record {
    done = [];
    long = refl;
    starts_fit = can.starts_fit;
    states_fit = can.states_fit;
    other_starts = λ k below other. refl;
    other_states = λ k below other. refl;
    later_starts = λ i from. refl;
    later_states = λ i from. refl;
    makes = makes_by_none (AreFinishCalls plan d starts_of states_of [] 0) folder (no_finish_calls plan d starts_of states_of []);
    is = λ i below finished. absurd (omega (arith, below));
    holds = λ told i below finished. absurd (omega (arith, below));
    whole = λ told i below finished lost. absurd (omega (arith, below));
    others = λ told name apart. refl;
    wrote = λ told. writes_none folder;
    can = λ told i from below finished. can.can.each told i below finished;
  }

  pub told_start : {W R : Type 0} (view : W → SinkView) (standing : R → ReportView) (stands : R → List Event → Type 0) (lines : Lines W) (reports : List R) (counts : Counts)
      → CanEndColumn plan d first firsts folder → AreCounts [] counts → ToldTo view standing stands 0 first firsts folder lines lines reports reports counts
  told_start view standing stands lines reports counts can none = record {
    ended = ended_start can;
    told = tells_nothing view standing stands plan.table.columns counts lines reports none;
  }

  module _ (n : ℕ) (starts : StartsValue) (states : List (List FileState)) (mid : FolderView) (so_far : EndedTo n starts states mid) (within : n < length (records_in plan.table d)) where
    same_start : start_in (starts_at starts.columns d) n ≡ start_in starts_of n
    same_start = so_far.later_starts n (omega arith)

    same_state : state_in states d n ≡ state_at states_of n
    same_state = so_far.later_states n (omega arith)

    -- its calls are those by its first start and state
    abbrev calls_by : Start → FileState → List FolderCall
    calls_by start state =
        if is_finished plan d n then finish_calls state.lost (entry_at plan d n).listed start state (path_at n) (record_at plan.table.columns d n).meta else []

    same_calls : record_calls plan d (starts_at starts.columns d) (states_at states d) n ≡ record_calls plan d starts_of states_of n
    same_calls = ap₂ calls_by same_start same_state

    -- the next record can be finished
    pub can_next : CanEndColumn plan d first firsts folder → CanEndRecord plan d n starts states mid
    can_next can = record {
      column = can.column;
      rec = within;
      starts_fit = so_far.starts_fit;
      states_fit = so_far.states_fit;
      is_open = so_far.makes.goes_on.closed ∙ can.can.is_open (omega (arith, within));
      can = λ told finished.
          let it = so_far.can (sym so_far.makes.goes_on.tells ∙ told) n (omega arith) within finished in
          record {
            free = it.free;
            fits = subst (λ (s : Start). FitsTree (path_at n) (entry_at plan d n).listed s (state_in states d n) mid.tree) (sym same_start)
                (subst (λ (s : FileState). FitsTree (path_at n) (entry_at plan d n).listed (start_in starts_of n) s mid.tree) (sym same_state) it.fits);
          };
    }

    -- its calls are such calls
    abbrev This : FolderCall → Type 0
    This = FinishesThis plan d n (starts_at starts.columns d) (states_at states d)

    abbrev Some : FolderCall → Type 0
    Some = FinishesFile plan d starts_of states_of

    this_next : (call : FolderCall) → This call → FinishesThis plan d n starts_of states_of call
    this_next call is = (
      is.0,
      subst (λ (s : Start). IsFinishCall (state_at states_of n).lost (entry_at plan d n).listed s (state_at states_of n) (path_at n) (record_at plan.table.columns d n).meta call) same_start
          (subst (λ (s : FileState). IsFinishCall s.lost (entry_at plan d n).listed (start_in (starts_at starts.columns d) n) s (path_at n) (record_at plan.table.columns d n).meta call) same_state is.1),
    )

    call_next : (call : FolderCall) → This call → Some call
    call_next call is = let next = this_next call is in record { i = n; within = within; finished = next.0; is = next.1 }

    -- what was done to it is by its first start and state, in the folder as it was
    abbrev finish_next : List Start → List FileState → (Stamp → Bool) → Finish
    finish_next of in_state keeps = finish_of (record_at plan.table.columns d n).meta (entry_at plan d n).listed (start_in of n) (state_at in_state n) keeps

    same_next : finish_next (starts_at starts.columns d) (states_at states d) mid.keeps ≡ finish_next starts_of states_of folder.keeps
    same_next =
        ap (λ (s : Start). finish_of (record_at plan.table.columns d n).meta (entry_at plan d n).listed s (state_in states d n) mid.keeps) same_start
        ∙ ap (λ (s : FileState). finish_of (record_at plan.table.columns d n).meta (entry_at plan d n).listed (start_in starts_of n) s mid.keeps) same_state
        ∙ ap (finish_next starts_of states_of) so_far.makes.goes_on.keeps

    done_next : (finish : Finish) → IsDone plan d (starts_at starts.columns d) (states_at states d) mid n finish → IsDone plan d starts_of states_of folder n finish
    done_next finish (inl is) = inl (is ∙ same_next)
    done_next finish (inr (gone, untold, some)) =
        inr (gone, sym so_far.makes.goes_on.tells ∙ untold, λ (kept : finish_next starts_of states_of folder.keeps ≡ Kept). some (same_next ∙ kept))

    module _ (are : ArePaths (records_in plan.table d)) (told : IsTrue folder.tells) where
      -- its names were not touched before
      names_before : SameNames (path_at n) folder.tree mid.tree
      names_before lost = so_far.others told (path_of (path_at n) lost)
          (λ i l below finished. names_distinct (records_in plan.table d) are i n (omega (arith, below, within)) within (λ same. omega (arith, same, below)) lost l)

      holds_next : (finish : Finish) (later : Tree) → HoldsEnd plan d (starts_at starts.columns d) (states_at states d) mid.keeps n finish mid.tree later
          → HoldsEnd plan d starts_of states_of folder.keeps n finish folder.tree later
      holds_next finish later holds =
          holds_since finish folder.keeps (record_at plan.table.columns d n).meta (start_in starts_of n) (state_at states_of n) (path_at n) folder.tree mid.tree later names_before
          (subst (λ (keeps : Stamp → Bool). HoldsFinished finish keeps (record_at plan.table.columns d n).meta (start_in starts_of n) (state_at states_of n) (bytes_now mid.tree (path_at n)) (path_at n) mid.tree later)
          so_far.makes.goes_on.keeps
          (subst (λ (s : Start). HoldsFinished finish mid.keeps (record_at plan.table.columns d n).meta s (state_at states_of n) (bytes_now mid.tree (path_at n)) (path_at n) mid.tree later) same_start
          (subst (λ (s : FileState). HoldsFinished finish mid.keeps (record_at plan.table.columns d n).meta (start_in (starts_at starts.columns d) n) s (bytes_now mid.tree (path_at n)) (path_at n) mid.tree later) same_state holds)))

      whole_next : (later : Tree) → StandsEnd plan d (starts_at starts.columns d) mid.keeps n mid.tree later → StandsEnd plan d starts_of folder.keeps n folder.tree later
      whole_next later whole =
          whole_since folder.keeps (record_at plan.table.columns d n).meta (start_in starts_of n).place (path_at n) folder.tree mid.tree later names_before
          (subst (λ (keeps : Stamp → Bool). StandsWhole keeps (record_at plan.table.columns d n).meta (start_in starts_of n).place (bytes_now mid.tree (path_at n)) (path_at n) mid.tree later)
          so_far.makes.goes_on.keeps
          (subst (λ (s : Start). StandsWhole mid.keeps (record_at plan.table.columns d n).meta s.place (bytes_now mid.tree (path_at n)) (path_at n) mid.tree later) same_start whole))

    module _ {W R : Type 0} (view : W → SinkView) (standing : R → ReportView) (stands : R → List Event → Type 0)
        (starts_new : StartsValue) (states_new : List (List FileState)) (new : FolderView) (lines lines_new : Lines W) (reports reports_new : List R) (counts : Counts)
        (are : ArePaths (records_in plan.table d))
        (one : EndsRecord view standing stands plan d n (column_outside starts states mid lines reports) (column_outside starts_new states_new new lines_new reports_new) counts) where
      tells_mid : IsTrue folder.tells → IsTrue mid.tells
      tells_mid told = so_far.makes.goes_on.tells ∙ told

      others_stay : IsTrue folder.tells → OthersStay (path_at n) mid.tree new.tree
      others_stay told name apart = one.others (tells_mid told) name (λ finished. apart)

      names_after : IsTrue folder.tells → (i : ℕ) → i < length (records_in plan.table d) → i ≢ n → SameNames (path_at i) mid.tree new.tree
      names_after told i below other = names_stay (records_in plan.table d) are n i within below other mid.tree new.tree (others_stay told)

      abbrev all_done : List Finish
      all_done = so_far.done ++ one.finish ∷ []

      finish_is : (i : ℕ) → i < n → finish_at all_done i ≡ finish_at so_far.done i
      finish_is i below = finish_before so_far.done one.finish i (omega (arith, below, so_far.long))

      finish_here : finish_at all_done n ≡ one.finish
      finish_here = finish_last so_far.done one.finish n so_far.long

      last_one : (i : ℕ) → i < n + 1 → n ≤ i → n ≡ i
      last_one i below from = omega (arith, below, from)

      is_all : (i : ℕ) → i < n + 1 → is_finished plan d i ≡ true → IsDone plan d starts_of states_of folder i (finish_at all_done i)
      is_all i below finished = elim (cases_lt i n) [
        | inl near ↦ subst (λ (f : Finish). IsDone plan d starts_of states_of folder i f) (sym (finish_is i near)) (so_far.is i near finished)
        | inr far ↦
            let here = last_one i below far in
            subst (λ (k : ℕ). IsDone plan d starts_of states_of folder k (finish_at all_done k)) here
            (subst (λ (f : Finish). IsDone plan d starts_of states_of folder n f) (sym finish_here)
            (done_next one.finish (one.is (subst (λ (k : ℕ). is_finished plan d k ≡ true) (sym here) finished))))
      ]

      holds_all : IsTrue folder.tells → (i : ℕ) → i < n + 1 → is_finished plan d i ≡ true
          → HoldsEnd plan d starts_of states_of folder.keeps i (finish_at all_done i) folder.tree new.tree
      holds_all told i below finished = elim (cases_lt i n) [
        | inl near ↦
            subst (λ (f : Finish). HoldsEnd plan d starts_of states_of folder.keeps i f folder.tree new.tree) (sym (finish_is i near))
            (holds_on (finish_at so_far.done i) folder.keeps (record_at plan.table.columns d i).meta (start_in starts_of i) (state_at states_of i)
            (bytes_now folder.tree (path_at i)) (path_at i) folder.tree mid.tree new.tree
            (names_after told i (omega (arith, near, within)) (λ same. omega (arith, same, near))) (so_far.holds told i near finished))
        | inr far ↦
            let here = last_one i below far in
            subst (λ (k : ℕ). HoldsEnd plan d starts_of states_of folder.keeps k (finish_at all_done k) folder.tree new.tree) here
            (subst (λ (f : Finish). HoldsEnd plan d starts_of states_of folder.keeps n f folder.tree new.tree) (sym finish_here)
            (holds_next are told one.finish new.tree (one.holds (tells_mid told) (subst (λ (k : ℕ). is_finished plan d k ≡ true) (sym here) finished))))
      ]

      whole_all : IsTrue folder.tells → (i : ℕ) → i < n + 1 → is_finished plan d i ≡ true → (state_at states_of i).lost ≡ false
          → StandsEnd plan d starts_of folder.keeps i folder.tree new.tree
      whole_all told i below finished lost = elim (cases_lt i n) [
        | inl near ↦
            whole_on folder.keeps (record_at plan.table.columns d i).meta (start_in starts_of i).place (bytes_now folder.tree (path_at i)) (path_at i) folder.tree mid.tree new.tree
            (names_after told i (omega (arith, near, within)) (λ same. omega (arith, same, near))) (so_far.whole told i near finished lost)
        | inr far ↦
            let here = last_one i below far in
            subst (λ (k : ℕ). StandsEnd plan d starts_of folder.keeps k folder.tree new.tree) here
            (whole_next are told new.tree (one.whole (tells_mid told) (subst (λ (k : ℕ). is_finished plan d k ≡ true) (sym here) finished)
            (ap (λ (s : FileState). s.lost) same_state ∙ subst (λ (k : ℕ). (state_at states_of k).lost ≡ false) (sym here) lost)))
      ]

      -- one more record was finished, if it was to be
      ended_more : EndedTo (n + 1) starts_new states_new new
      ended_more = record {
        done = all_done;
        long = (let sum = length-append so_far.done (one.finish ∷ []) in omega (arith, sum, so_far.long));
        starts_fit = one.starts_fit;
        states_fit = one.states_fit;
        other_starts = λ k below other.
            ext_get_or no_start (starts_at starts_new.columns k) (starts_at starts.columns k) (one.starts_fit.records k below ∙ sym (so_far.starts_fit.records k below))
            (λ j near. one.other_starts k j (inl other)) ∙ so_far.other_starts k below other;
        other_states = λ k below other.
            ext_get_or no_state (states_at states_new k) (states_at states k) (one.states_fit.records k below ∙ sym (so_far.states_fit.records k below))
            (λ j near. one.other_states k j (inl other)) ∙ so_far.other_states k below other;
        later_starts = λ i from. one.other_starts d i (inr (λ same. omega (arith, same, from))) ∙ so_far.later_starts i (omega (arith, from));
        later_states = λ i from. one.other_states d i (inr (λ same. omega (arith, same, from))) ∙ so_far.later_states i (omega (arith, from));
        makes = makes_by_then (AreFinishCalls plan d starts_of states_of so_far.done n)
            (AreStepCalls This (record_calls plan d (starts_at starts.columns d) (states_at states d) n) (was_gone one.finish))
            (AreFinishCalls plan d starts_of states_of all_done (n + 1))
            (λ calls next are step. finish_calls_more plan d starts_of states_of so_far.done all_done n calls next finish_is are
            (subst (λ (f : Finish). AreStepCalls (FinishesThis plan d n starts_of states_of) (record_calls plan d starts_of states_of n) (was_gone f) next) (sym finish_here)
            (subst (λ (calls_here : List FolderCall). AreStepCalls (FinishesThis plan d n starts_of states_of) calls_here (was_gone one.finish) next) same_calls
            (step_calls_wider This (FinishesThis plan d n starts_of states_of) (record_calls plan d (starts_at starts.columns d) (states_at states d) n) (was_gone one.finish) this_next next step))))
            so_far.makes one.makes;
        is = is_all;
        holds = holds_all;
        whole = whole_all;
        others = λ told name apart.
            one.others (tells_mid told) name (λ finished lost. apart n lost (omega arith) finished)
            ∙ so_far.others told name (λ i lost below finished. apart i lost (omega (arith, below)) finished);
        wrote = λ told.
            subst (λ (calls : List FolderCall). FolderWrites calls folder new) (flat_range_more (record_calls plan d starts_of states_of) n)
            (writes_then (calls_to n) (record_calls plan d starts_of states_of n) (so_far.wrote told)
            (subst (λ (calls : List FolderCall). FolderWrites calls mid new) same_calls (one.wrote (tells_mid told))));
        can = λ told i from below finished.
            let it = so_far.can told i (omega (arith, from)) below finished in
            let other : i ≢ n = (λ (same : i ≡ n). omega (arith, same, from)) in
            record {
              free = free_stays (records_in plan.table d) are n i within below other mid.tree new.tree (others_stay told) it.free;
              fits = fits_stays (path_at i) (entry_at plan d i).listed (start_in starts_of i) (state_at states_of i) mid.tree new.tree (names_after told i below other) it.fits;
            };
      }

      -- and told
      pub told_more : (lines_old : Lines W) (reports_old : List R) (so_counts both : Counts) → Joins so_counts counts both
          → Tells view standing stands plan.table.columns (events_to (record_news plan d so_far.done) n) so_counts lines_old lines reports_old reports
          → ToldTo view standing stands (n + 1) starts_new states_new new lines_old lines_new reports_old reports_new both
      unfolding ended_more
      told_more lines_old reports_old so_counts both joins before = record {
        ended = ended_more;
        told = tells_more view standing stands plan.table.columns (record_news plan d all_done) n (news_of plan d n one.finish) so_counts counts both lines_old lines lines_new reports_old reports reports_new
            (sym (ap (news_of plan d n) finish_here)) joins
            (tells_as view standing stands plan.table.columns (events_to (record_news plan d all_done) n) (events_to (record_news plan d so_far.done) n) so_counts lines_old lines reports_old reports
            (records_before plan d so_far.done one.finish n so_far.long) before)
            one.told one.counts_are;
      }

    -- it failed
    pub ended_not : {W R : Type 0} (view : W → SinkView) (standing : R → ReportView) (stands : R → List Event → Type 0)
        (starts_new : StartsValue) (states_new : List (List FileState)) (new : FolderView) (lines_old lines lines_new : Lines W) (reports_old reports reports_new : List R) (so_counts : Counts)
        → Tells view standing stands plan.table.columns (events_to (record_news plan d so_far.done) n) so_counts lines_old lines reports_old reports
        → EndsNotRecord view standing stands plan d n (column_outside starts states mid lines reports) (column_outside starts_new states_new new lines_new reports_new)
        → EndsNotColumn view standing stands plan d (column_outside first firsts folder lines_old reports_old) (column_outside starts_new states_new new lines_new reports_new)
    ended_not view standing stands starts_new states_new new lines_old lines lines_new reports_old reports reports_new so_counts before broke =
        let P = FinishesFile plan d starts_of states_of in
        let done = so_far.done ++ wanted_from plan d starts_of states_of folder n in
        let news = events_to (record_news plan d done) n in
        let before_too = tells_as view standing stands plan.table.columns news (events_to (record_news plan d so_far.done) n) so_counts lines_old lines reports_old reports
        (first_news plan d starts_of states_of folder so_far.done n so_far.long) before in
        record {
          fails = fails_then P folder mid new
              (makes_each (AreFinishCalls plan d starts_of states_of so_far.done n) (WellCall P) (first_calls_each plan d starts_of states_of so_far.done n (omega (arith, within))) so_far.makes)
              (fails_wider This P call_next broke.fails.fails);
          done = done;
          is = all_wanted plan d starts_of states_of folder so_far.done n so_far.long so_far.is;
          first = news;
          part = record {
            n = n;
            within = within;
            told_is = refl;
            mid = mid;
            first = makes_by_wider (AreFinishCalls plan d starts_of states_of so_far.done n) (AreFinishCalls plan d starts_of states_of done n)
                (λ calls. finish_calls_as plan d starts_of states_of so_far.done done n calls (λ i below. first_done plan d starts_of states_of folder so_far.done n i so_far.long below)) so_far.makes;
            fails = subst (λ (calls : List FolderCall). StepFails (FinishesThis plan d n starts_of states_of) calls mid new) same_calls
                (step_fails_wider This (FinishesThis plan d n starts_of states_of) (record_calls plan d (starts_at starts.columns d) (states_at states d) n) this_next broke.fails);
          };
          rest = events_after (record_news plan d done) n (length (records_in plan.table d));
          events = events_split (record_news plan d done) n (length (records_in plan.table d)) within;
          told = told_as view standing stands plan.table.columns news (news ++ []) lines_old lines_new reports_old reports_new (sym (append-nil news))
              (told_then view standing stands plan.table.columns news [] lines_old lines lines_new reports_old reports reports_new before_too.told broke.told);
        }

  -- all were
  pub ended_all : {W R : Type 0} (view : W → SinkView) (standing : R → ReportView) (stands : R → List Event → Type 0) (n : ℕ) (starts : StartsValue) (states : List (List FileState)) (now : FolderView)
      (lines_old lines : Lines W) (reports_old reports : List R) (counts : Counts) → n ≡ length (records_in plan.table d)
      → ToldTo view standing stands n starts states now lines_old lines reports_old reports counts
      → EndsColumn view standing stands plan d (column_outside first firsts folder lines_old reports_old) (column_outside starts states now lines reports) counts
  ended_all view standing stands n starts states now lines_old lines reports_old reports counts all so_far =
      let ended = so_far.ended in
      let news = ap (events_to (record_news plan d ended.done)) (sym all) in
      let as_all = tells_as view standing stands plan.table.columns (column_news plan d ended.done) (events_to (record_news plan d ended.done) n) counts lines_old lines reports_old reports news so_far.told in
      record {
        done = ended.done;
        starts_fit = ended.starts_fit;
        states_fit = ended.states_fit;
        other_starts = ended.other_starts;
        other_states = ended.other_states;
        finishes = record {
          makes = subst (λ (m : ℕ). FolderMakesBy (AreFinishCalls plan d starts_of states_of ended.done m) folder now) all ended.makes;
          is = λ i below. ended.is i (omega (arith, below, all));
          holds = λ told i below. ended.holds told i (omega (arith, below, all));
          whole = λ told i below. ended.whole told i (omega (arith, below, all));
          others = λ told name apart. ended.others told name (λ i lost below. apart i lost (omega (arith, below, all)));
          wrote = λ told. subst (λ (m : ℕ). FolderWrites (calls_to m) folder now) all (ended.wrote told);
        };
        told = as_all.told;
        counts_are = as_all.counts_are;
      }
