-- What would be done to the records that were not come to, where a folder failed.
use Rattle.std.proofs.Common.{◌≡◌, inl, inr, ℕ, ◌-◌, ◌<◌, ◌≤◌, List, [], ◌++◌, length, map, true, refl, sym, ap, ◌∙◌, subst, arith}
use Rattle.std.specs.List.{range_with_len}
use Rattle.std.proofs.lemmas.Bool.{cases_lt}
use Rattle.std.proofs.lemmas.List.{get_or_append_left, get_or-append_right}
use Rattle.std.proofs.lemmas.List.FromFn.{get_or-map-range_with_len}
use Rattle.disk_model.specs.Folder.{FolderView}
use Rattle.file_table.specs.Table.{record_at, records_in}
use Rattle.stripe_reader.specs.Columns.{folder_at}
use Rattle.stripe_reader.specs.Starts.{StartsValue, start_in, starts_at}
use Rattle.stripe_reader.specs.declared.starts.Start.{Start}
use Rattle.file_restorer.specs.declared.finishing.Finish.{Finish}
use Rattle.file_restorer.specs.declared.finishing.Finish.TheVariants.{Kept}
use Rattle.file_restorer.specs.declared.state.FileState.{FileState}
use Rattle.snap_fix.specs.Ending.{IsDone, finish_at, finishes_at, is_finished, news_of, record_news, state_at, states_at}
use Rattle.file_restorer.specs.Finishing.{finish_of}
use Rattle.repair_scope.specs.Plan.{FixPlan, entry_at}
use Rattle.snap_fix.proofs.EndingTellLemmas.{events_same}
use Rattle.stripe_examiner.proofs.TellingLemmas.{events_to}

-- ---- of a column

module _ (plan : FixPlan) (d : ℕ) (starts : List Start) (states : List FileState) (folder : FolderView) where
  abbrev pub wanted : ℕ → Finish
  wanted i = finish_of (record_at plan.table.columns d i).meta (entry_at plan d i).listed (start_in starts i) (state_at states i) folder.keeps

  -- the records from one on
  abbrev pub wanted_from : ℕ → List Finish
  wanted_from n = map wanted (range_with_len n (length (records_in plan.table d) - n))

  wanted_at : (n i : ℕ) → n ≤ i → i < length (records_in plan.table d) → finish_at (wanted_from n) (i - n) ≡ wanted i
  wanted_at n i from below = get_or-map-range_with_len wanted n (length (records_in plan.table d) - n) (i - n) i Kept (omega (arith, from, below)) (omega (arith, from))

  -- the first were finished, and the others would be
  pub first_done : (done : List Finish) (n i : ℕ) → length done ≡ n → i < n → finish_at (done ++ wanted_from n) i ≡ finish_at done i
  first_done done n i long below = get_or_append_left done (wanted_from n) Kept i (omega (arith, long, below))

  pub others_wanted : (done : List Finish) (n i : ℕ) → length done ≡ n → n ≤ i → i < length (records_in plan.table d) → finish_at (done ++ wanted_from n) i ≡ wanted i
  others_wanted done n i long from below = get_or-append_right done (wanted_from n) n i Kept long from ∙ wanted_at n i from below

  pub all_wanted : (done : List Finish) (n : ℕ) → length done ≡ n → ((i : ℕ) → i < n → is_finished plan d i ≡ true → IsDone plan d starts states folder i (finish_at done i))
      → (i : ℕ) → i < length (records_in plan.table d) → is_finished plan d i ≡ true → IsDone plan d starts states folder i (finish_at (done ++ wanted_from n) i)
  all_wanted done n long are i below finished = elim (cases_lt i n) [
    | inl near ↦ subst (λ (f : Finish). IsDone plan d starts states folder i f) (sym (first_done done n i long near)) (are i near finished)
    | inr from ↦ inl (others_wanted done n i long from below)
  ]

  -- what is told of the first is the same
  pub first_news : (done : List Finish) (n : ℕ) → length done ≡ n
      → events_to (record_news plan d (done ++ wanted_from n)) n ≡ events_to (record_news plan d done) n
  first_news done n long = events_same (record_news plan d (done ++ wanted_from n)) (record_news plan d done) n (λ i below. ap (news_of plan d i) (first_done done n i long below))

-- ---- of the columns

module _ (plan : FixPlan) (starts : StartsValue) (states : List (List FileState)) (folders : List FolderView) where
  abbrev pub wanted_column : ℕ → List Finish
  wanted_column d = wanted_from plan d (starts_at starts.columns d) (states_at states d) (folder_at folders d) 0

  -- the columns from one on
  abbrev pub wanted_columns : ℕ → List (List Finish)
  wanted_columns n = map wanted_column (range_with_len n (length plan.table.columns - n))

  pub first_columns : (finishes : List (List Finish)) (n d : ℕ) → length finishes ≡ n → d < n → finishes_at (finishes ++ wanted_columns n) d ≡ finishes_at finishes d
  first_columns finishes n d long below = get_or_append_left finishes (wanted_columns n) [] d (omega (arith, long, below))

  pub columns_wanted : (finishes : List (List Finish)) (n d : ℕ) → length finishes ≡ n → n ≤ d → d < length plan.table.columns
      → finishes_at (finishes ++ wanted_columns n) d ≡ wanted_column d
  columns_wanted finishes n d long from below =
      get_or-append_right finishes (wanted_columns n) n d [] long from
      ∙ get_or-map-range_with_len wanted_column n (length plan.table.columns - n) (d - n) d [] (omega (arith, from, below)) (omega (arith, from))

  -- of each record of such a column
  pub column_wanted : (d i : ℕ) → i < length (records_in plan.table d)
      → IsDone plan d (starts_at starts.columns d) (states_at states d) (folder_at folders d) i (finish_at (wanted_column d) i)
  column_wanted d i below = inl (others_wanted plan d (starts_at starts.columns d) (states_at states d) (folder_at folders d) [] 0 i refl (omega arith) below)
