-- A fix finds what a check finds, and tells besides what it did.
use Rattle.std.proofs.Common.{◌≡◌, ◌≢◌, ℕ, suc, ◌<◌, ◌&&◌, ◌++◌, List, [], ◌∷◌, length, get_or, Bool, true, false, Option, None, Some, IsTrue, refl, sym, ap₂, ◌∙◌, subst, inl, inr, arith}
use Rattle.std.specs.Prelude.{bytes_eq, filter, not, if◌then◌else◌}
use Rattle.std.specs.List.{flat_map, range_with_len}
use Rattle.std.proofs.lemmas.Bool.{false≢true}
use Rattle.std.proofs.lemmas.List.{append-nil}
use Rattle.std.proofs.lemmas.List.Elements.{All-contains, All-contains_itself, filter-append}
use Rattle.std.proofs.lemmas.List.FromFn.{get_or-range_with_len, length-range_with_len}
use Rattle.block_hash.specs.declared.Digest16.{Digest16}
use Rattle.disk_model.specs.Folder.{FolderView}
use Rattle.disk_model.specs.declared.meta.Meta.{Meta}
use Rattle.disk_model.specs.declared.meta.Stamp.{Stamp}
use Rattle.file_table.specs.Cells.{CellView, cell_seen}
use Rattle.file_table.specs.Table.{column_at, record_at, records_in}
use Rattle.file_table.specs.declared.block.Cell.{Cell}
use Rattle.parity_writer.specs.LevelsValue.{no_level}
use Rattle.snap_report.specs.Kind.{is_finding}
use Rattle.snap_report.specs.declared.events.Event.{Event}
use Rattle.snap_report.specs.declared.events.Event.TheVariants as event
use Rattle.stripe_reader.specs.Columns.{folder_at}
use Rattle.stripe_reader.specs.SlotValue.{SlotValue}
use Rattle.stripe_reader.specs.Starts.{StartsValue, start_in, starts_at}
use Rattle.stripe_reader.specs.WindowValue.{no_slot}
use Rattle.stripe_reader.specs.declared.starts.Start.{Start}
use Rattle.repair_scope.specs.declared.entry.Entry.{Entry}
use Rattle.file_restorer.specs.declared.finishing.Finish.{Finish}
use Rattle.file_restorer.specs.declared.finishing.Finish.TheVariants.{Kept, Restored, Unstamped, Renamed, Gone}
use Rattle.file_restorer.specs.declared.state.FileState.{FileState}
use Rattle.snap_fix.specs.Course.{check_events}
use Rattle.snap_fix.specs.Ending.{IsDone, all_finish_news, column_news_at, finish_at, finish_news, finishes_at, is_finished, record_news, stamp_news, state_at, states_at}
use Rattle.stripe_examiner.specs.Facts.{StripeFacts}
use Rattle.stripe_examiner.specs.Findings.{all_cell_events, all_level_events, all_level_io_events, all_lost_events, blocked_event, cell_events, changed_event, column_events, events_of, file_events, is_lost, is_unread, is_unread_level, is_wrong, level_events, level_io_events, lost_event, lost_events, opening_events, read_event, read_events, record_events, silent_event, stripe_events, unsynced_events}
use Rattle.file_restorer.specs.Finishing.{lost_finish, stamped_finish, whole_finish, is_changed, is_stamped}
use Rattle.snap_fix.specs.FixCourse.{Written, fix_events}
use Rattle.snap_fix.specs.Fixing.{facts_of}
use Rattle.snap_fix.specs.Found.{AreAllWritten, IsNoneGone}
use Rattle.snap_fix.specs.Mended.{AnswersFit, Mended, all_cell_news, all_level_news, all_mended_events, answer_of, cell_news, fixed_event, is_repaired, is_wrong_level, level_news, mended_event, mended_events}
use Rattle.repair_scope.specs.Plan.{FixPlan, cell_at, entry_at, has_selected_cell, is_audit, is_synced, selects_cell, selects_level}
use Rattle.snap_fix.specs.Restored.{HasFixed}
use Rattle.repair_scope.specs.Selected.{is_as_recorded}
use Rattle.file_restorer.specs.State.{stands}

-- ---- the findings among some events

-- just these events of a list are findings
abbrev Finds : List Event → List Event → Type 0
Finds events found = filter is_finding events ≡ found

-- all of a list are, or none
abbrev AllFound : List Event → Type 0
AllFound events = Finds events events

abbrev NoneFound : List Event → Type 0
NoneFound events = Finds events []

finds_both : (xs ys us vs : List Event) → Finds xs us → Finds ys vs → Finds (xs ++ ys) (us ++ vs)
finds_both xs ys us vs one two = filter-append is_finding xs ys ∙ ap₂ (λ (a b : List Event). a ++ b) one two

all_both : (xs ys : List Event) → AllFound xs → AllFound ys → AllFound (xs ++ ys)
all_both xs ys one two = finds_both xs ys xs ys one two

none_both : (xs ys : List Event) → NoneFound xs → NoneFound ys → NoneFound (xs ++ ys)
none_both xs ys one two = finds_both xs ys [] [] one two

all_where : (b : Bool) (xs : List Event) → AllFound xs → AllFound (if b then xs else [])
all_where true xs one = one
all_where false xs one = refl

none_where : (b : Bool) (xs : List Event) → (b ≡ true → NoneFound xs) → NoneFound (if b then xs else [])
none_where true xs one = one refl
none_where false xs one = refl

all_each : {X : Type 0} (f : X → List Event) (xs : List X) → ((x : X) → AllFound (f x)) → AllFound (flat_map f xs)
all_each f [] each = refl
all_each f (x ∷ xs) each = all_both (f x) (flat_map f xs) (each x) (all_each f xs each)

none_each : {X : Type 0} (f : X → List Event) (xs : List X) → ((k : ℕ) (d : X) → k < length xs → NoneFound (f (get_or xs k d))) → NoneFound (flat_map f xs)
none_each f [] each = refl
none_each f (x ∷ xs) each = none_both (f x) (flat_map f xs) (each 0 x (omega arith)) (none_each f xs (λ k d within. each (suc k) d (omega (arith, within))))

none_below : (f : ℕ → List Event) (n : ℕ) → ((k : ℕ) → k < n → NoneFound (f k)) → NoneFound (flat_map f (range_with_len 0 n))
none_below f n each =
    none_each f (range_with_len 0 n) (λ k other within.
    let below : k < n = omega (arith, within, length-range_with_len 0 n) in
    let at : get_or (range_with_len 0 n) k other ≡ k = get_or-range_with_len 0 n k other below ∙ omega arith in
    subst (λ (j : ℕ). NoneFound (f j)) (sym at) (each k below))

-- ---- all that a check tells

found_of_file : (audit : Bool) (d i : ℕ) (meta : Meta) (entry : Entry) → AllFound (file_events audit d i meta entry)
found_of_file audit d i meta entry =
    all_where entry.selected (changed_event d i meta entry ++ blocked_event audit d i entry)
    (all_both (changed_event d i meta entry) (blocked_event audit d i entry) (changed (is_as_recorded meta entry.listed))
    (all_where (entry.blocked && not audit) (event.Blocked d i ∷ []) refl))
  where
    changed : (same : Bool) → AllFound (if same then [] else event.Changed d i entry.listed ∷ [])
    changed true = refl
    changed false = refl

found_of_files : (plan : FixPlan) → AllFound (opening_events plan)
found_of_files plan =
    all_each (column_events plan) (range_with_len 0 (length plan.table.columns)) (λ d.
    all_each (record_events plan d) (range_with_len 0 (length (records_in plan.table d))) (λ i.
    found_of_file (is_audit plan.scope.mode) d i (record_at plan.table.columns d i).meta (entry_at plan d i)))

found_silent : (stripe d : ℕ) (cell : Cell) (recorded came : Option Digest16) → AllFound (silent_event stripe d cell recorded came)
found_silent stripe d cell (Some recorded) (Some came) = by (bytes_eq recorded.0 came.0)
  where
    by : (same : Bool) → AllFound (if same then [] else event.Silent stripe d cell.rec cell.index recorded came ∷ [])
    by true = refl
    by false = refl
found_silent stripe d cell (Some recorded) None = refl
found_silent stripe d cell None came = refl

found_read : (stripe d : ℕ) (cell : Cell) (seen : CellView) (entry : Entry) (slot : SlotValue) → AllFound (read_event stripe d cell seen entry slot)
found_read stripe d cell seen entry slot = by (is_unread slot.cell.found)
  where
    silent : List Event
    silent = silent_event stripe d cell seen.hash slot.digest

    by : (unread : Bool) → AllFound (if unread then event.Io stripe d cell.rec cell.index ∷ [] else if is_as_recorded seen.meta entry.listed then silent else [])
    by true = refl
    by false = all_where (is_as_recorded seen.meta entry.listed) silent (found_silent stripe d cell seen.hash slot.digest)

found_reads : (plan : FixPlan) (stripe : ℕ) (slot : SlotValue) (d : ℕ) (found : Option Cell) → AllFound (read_events plan stripe slot d found)
found_reads plan stripe slot d None = refl
found_reads plan stripe slot d (Some cell) = found_read stripe d cell (cell_seen (column_at plan.table.columns d) cell) (entry_at plan d cell.rec) slot

found_lost : (stripe d : ℕ) (found : Option Cell) → AllFound (lost_event stripe d found)
found_lost stripe d None = refl
found_lost stripe d (Some cell) = refl

module _ (plan : FixPlan) (facts : StripeFacts) where
  abbrev cells_of : List Event
  cells_of = all_cell_events plan facts.stripe facts.slots

  abbrev io_of : List Event
  io_of = all_level_io_events plan facts.stripe facts.levels

  abbrev wrong_of : List Event
  wrong_of = all_level_events plan facts.stripe facts.levels facts.row

  abbrev lost_of : List Event
  lost_of = all_lost_events plan facts.stripe (is_lost plan facts)

  found_cells : AllFound cells_of
  found_cells =
      all_each (λ d. cell_events plan facts.stripe (get_or facts.slots d no_slot) d) (range_with_len 0 (length plan.table.columns)) (λ d.
      all_where (selects_cell plan facts.stripe d) (read_events plan facts.stripe (get_or facts.slots d no_slot) d (cell_at plan facts.stripe d))
      (found_reads plan facts.stripe (get_or facts.slots d no_slot) d (cell_at plan facts.stripe d)))

  found_unread : AllFound io_of
  found_unread =
      all_each (λ r. level_io_events plan facts.stripe (get_or facts.levels r no_level) r) (range_with_len 0 (length facts.levels)) (λ r.
      all_where (selects_level plan facts.stripe r && is_unread_level (get_or facts.levels r no_level).state) (event.ParityIo facts.stripe r ∷ []) refl)

  found_wrong : AllFound wrong_of
  found_wrong =
      all_each (λ r. level_events plan facts.stripe (get_or facts.levels r no_level) facts.row r) (range_with_len 0 (length facts.levels)) (λ r.
      all_where (is_wrong plan facts.stripe (get_or facts.levels r no_level) facts.row r) (event.Parity facts.stripe r ∷ []) refl)

  found_unknown : AllFound lost_of
  found_unknown =
      all_each (λ d. lost_events plan facts.stripe (is_lost plan facts d) d) (range_with_len 0 (length plan.table.columns)) (λ d.
      all_where (not (is_audit plan.scope.mode) && is_lost plan facts d) (lost_event facts.stripe d (cell_at plan facts.stripe d))
      (found_lost facts.stripe d (cell_at plan facts.stripe d)))

  found_of_stripe : AllFound (stripe_events plan facts)
  found_of_stripe =
      all_both (unsynced_events plan facts.stripe) (cells_of ++ (io_of ++ (wrong_of ++ lost_of)))
      (all_where (not (is_audit plan.scope.mode) && not (is_synced plan facts.stripe) && has_selected_cell plan facts.stripe) (event.Unsynced facts.stripe ∷ []) refl)
      (all_both cells_of (io_of ++ (wrong_of ++ lost_of)) found_cells
      (all_both io_of (wrong_of ++ lost_of) found_unread (all_both wrong_of lost_of found_wrong found_unknown)))

-- ---- what a fix tells besides

none_fixed : (stripe d : ℕ) (found : Option Cell) → NoneFound (fixed_event stripe d found)
none_fixed stripe d None = refl
none_fixed stripe d (Some cell) = refl

none_of_cell : (stripe d : ℕ) (found : Option Cell) (written : Bool) → written ≡ true → NoneFound (mended_event stripe d found written)
none_of_cell stripe d found true is = none_fixed stripe d found
none_of_cell stripe d found false is = absurd (false≢true is)

none_stamped : (d i : ℕ) (stamped : Bool) → NoneFound (stamp_news d i stamped)
none_stamped d i true = refl
none_stamped d i false = refl

none_finished : (d i : ℕ) (finish : Finish) → finish ≢ Gone → NoneFound (finish_news d i finish)
none_finished d i Kept there = refl
none_finished d i (Restored stamped) there = none_stamped d i stamped
none_finished d i Unstamped there = refl
none_finished d i Renamed there = refl
none_finished d i Gone there = absurd (there refl)

none_finishing : (plan : FixPlan) (finishes : List (List Finish)) → IsNoneGone plan finishes → NoneFound (all_finish_news plan finishes)
none_finishing plan finishes there =
    none_below (column_news_at plan finishes) (length plan.table.columns) (λ d below.
    none_below (record_news plan d (finishes_at finishes d)) (length (records_in plan.table d)) (λ i inside.
    none_where (is_finished plan d i) (finish_news d i (finish_at (finishes_at finishes d) i)) (λ finished.
    none_finished d i (finish_at (finishes_at finishes d) i) (there d i below inside finished))))

none_of_stripe : (plan : FixPlan) (mended : Mended) → ((d : ℕ) → d < length plan.table.columns → is_repaired plan mended.facts d ≡ true → answer_of mended d ≡ true)
    → NoneFound (all_cell_news plan mended ++ all_level_news plan mended.facts)
none_of_stripe plan mended each =
    let facts : StripeFacts = mended.facts in
    none_both (all_cell_news plan mended) (all_level_news plan facts)
    (none_below (cell_news plan mended) (length plan.table.columns) (λ d below.
    none_where (is_repaired plan facts d) (mended_event facts.stripe d (cell_at plan facts.stripe d) (answer_of mended d)) (λ repaired.
    none_of_cell facts.stripe d (cell_at plan facts.stripe d) (answer_of mended d) (each d below repaired))))
    (none_below (level_news plan facts) (length facts.levels) (λ r below.
    none_where (is_wrong_level plan facts r) (event.FixedParity facts.stripe r ∷ []) (λ wrong. refl)))

finds_stripe : (plan : FixPlan) (mended : Mended) → ((d : ℕ) → d < length plan.table.columns → is_repaired plan mended.facts d ≡ true → answer_of mended d ≡ true)
    → Finds (mended_events plan mended) (stripe_events plan mended.facts)
finds_stripe plan mended each =
    let news : List Event = all_cell_news plan mended ++ all_level_news plan mended.facts in
    finds_both (stripe_events plan mended.facts) news (stripe_events plan mended.facts) [] (found_of_stripe plan mended.facts) (none_of_stripe plan mended each)
    ∙ append-nil (stripe_events plan mended.facts)

abbrev IsWritten : FixPlan → Mended → Type 0
IsWritten plan mended = (d : ℕ) → d < length plan.table.columns → is_repaired plan mended.facts d ≡ true → answer_of mended d ≡ true

finds_stripes : (plan : FixPlan) (stripes : List Mended) → ((k : ℕ) (none : Mended) → k < length stripes → IsWritten plan (get_or stripes k none))
    → Finds (all_mended_events plan stripes) (events_of plan (facts_of stripes))
finds_stripes plan [] each = refl
finds_stripes plan (mended ∷ others) each =
    finds_both (mended_events plan mended) (all_mended_events plan others) (stripe_events plan mended.facts) (events_of plan (facts_of others))
    (finds_stripe plan mended (each 0 mended (omega arith)))
    (finds_stripes plan others (λ k none within. each (suc k) none (omega (arith, within))))

pub fix_finds : (plan : FixPlan) (stripes : List Mended) (finishes : List (List Finish)) → AreAllWritten plan stripes → IsNoneGone plan finishes
    → filter is_finding (fix_events plan stripes finishes) ≡ check_events plan (facts_of stripes)
fix_finds plan stripes finishes written there =
    let found : List Event = events_of plan (facts_of stripes) in
    finds_both (opening_events plan) (all_mended_events plan stripes ++ all_finish_news plan finishes) (opening_events plan) found
    (found_of_files plan)
    (finds_both (all_mended_events plan stripes) (all_finish_news plan finishes) found []
    (finds_stripes plan stripes (λ k none within d. written (get_or stripes k none) d (All-contains_itself stripes k none within)))
    (none_finishing plan finishes there)
    ∙ append-nil found)

-- ---- of a fix over folders that tell their files

abbrev AllTell : FixPlan → List FolderView → Type 0
AllTell plan folders = (d : ℕ) → d < length plan.table.columns → IsTrue (folder_at folders d).tells

not_stamped_gone : (changed is_kept : Bool) → stamped_finish changed is_kept ≢ Gone
not_stamped_gone true is_kept is = let clash : Restored is_kept ≡ Gone = is in cc
not_stamped_gone false true is = let clash : Restored true ≡ Gone = is in cc
not_stamped_gone false false is = let clash : Unstamped ≡ Gone = is in cc

not_whole_gone : (stamped changed is_kept : Bool) → (if stamped then stamped_finish changed is_kept else Kept) ≢ Gone
not_whole_gone true changed is_kept is = not_stamped_gone changed is_kept is
not_whole_gone false changed is_kept is = let clash : Kept ≡ Gone = is in cc

not_lost_gone : (stood : Bool) → (if stood then Renamed else Kept) ≢ Gone
not_lost_gone true is = let clash : Renamed ≡ Gone = is in cc
not_lost_gone false is = let clash : Kept ≡ Gone = is in cc

not_gone : (meta : Meta) (listed : Option Meta) (start : Start) (state : FileState) (keeps : Stamp → Bool) (lost : Bool)
    → (if lost then lost_finish start state else whole_finish meta listed start state keeps) ≢ Gone
not_gone meta listed start state keeps true = not_lost_gone (stands start.place state.touched)
not_gone meta listed start state keeps false = not_whole_gone (is_stamped meta listed start state) (is_changed meta start state) (keeps meta.stamp)

module _ (plan : FixPlan) (starts : StartsValue) (stripes : List Mended) (finishes : List (List Finish)) (firsts news : List FolderView)
    (has : HasFixed plan starts stripes finishes firsts news) (tell : AllTell plan firsts) where
  all_written : AreAllWritten plan stripes
  all_written mended d one below repaired = All-contains (AnswersFit plan firsts) stripes mended has.answered one d below (tell d below) repaired

  none_gone : IsNoneGone plan finishes
  none_gone d i below within finished = by ((has.files.finished d below).is i within finished)
    where
      by : (let written : Written = has.files.written in
          IsDone plan d (starts_at written.starts.columns d) (states_at written.states d) (folder_at written.folders d) i (finish_at (finishes_at finishes d) i))
          → finish_at (finishes_at finishes d) i ≢ Gone
      by (inl is) = λ gone.
          let written : Written = has.files.written in
          let start : Start = start_in (starts_at written.starts.columns d) i in
          let state : FileState = state_at (states_at written.states d) i in
          not_gone (record_at plan.table.columns d i).meta (entry_at plan d i).listed start state (folder_at written.folders d).keeps state.lost (sym is ∙ gone)
      by (inr gone) = absurd (false≢true (sym gone.1 ∙ (has.files.writes.makes d below).goes_on.tells ∙ tell d below))

  pub fixed_finds : filter is_finding (fix_events plan stripes finishes) ≡ check_events plan (facts_of stripes)
  fixed_finds = fix_finds plan stripes finishes all_written none_gone
