-- Only cells whose block is not known are told to be lost, where their folder tells its files.
use Rattle.std.proofs.Common.{◌≡◌, ℕ, suc, ◌<◌, ◌&&◌, List, [], ◌∷◌, ◌++◌, length, get_or, Bool, true, false, Option, None, Some, IsTrue, refl, sym, ap, ◌∙◌, subst, arith}
use Rattle.std.specs.Prelude.{bytes_eq, is_some, not, if◌then◌else◌}
use Rattle.std.specs.List.{All, Contains, flat_map, range_with_len}
use Rattle.std.proofs.lemmas.Bool.{and_parts, false≢true}
use Rattle.std.proofs.lemmas.List.{get_or-map, length-map}
use Rattle.std.proofs.lemmas.List.Elements.{All-append, All-cons, All-contains, All-contains_itself, All-nil}
use Rattle.std.proofs.lemmas.List.FromFn.{get_or-range_with_len, length-range_with_len}
use Rattle.block_hash.specs.declared.Digest16.{Digest16}
use Rattle.disk_model.specs.Folder.{FolderView}
use Rattle.disk_model.specs.declared.meta.Meta.{Meta}
use Rattle.file_table.specs.Cells.{CellView, cell_seen}
use Rattle.file_table.specs.Table.{column_at, record_at, records_in}
use Rattle.file_table.specs.declared.block.Cell.{Cell}
use Rattle.parity_writer.specs.LevelsValue.{LevelValue, no_level}
use Rattle.parity_writer.specs.Parity.{Row}
use Rattle.snap_report.specs.declared.events.Event.{Event}
use Rattle.snap_report.specs.declared.events.Event.TheVariants as event
use Rattle.stripe_reader.specs.Columns.{folder_at}
use Rattle.stripe_reader.specs.SlotValue.{SlotValue}
use Rattle.stripe_reader.specs.Starts.{StartsValue}
use Rattle.stripe_reader.specs.WindowValue.{no_slot}
use Rattle.repair_scope.specs.declared.entry.Entry.{Entry}
use Rattle.file_restorer.specs.declared.finishing.Finish.{Finish}
use Rattle.file_restorer.specs.declared.finishing.Finish.TheVariants.{Kept, Restored, Unstamped, Renamed, Gone}
use Rattle.snap_fix.specs.Ending.{all_finish_news, column_news_at, finish_news, record_news, finish_at, finishes_at, is_finished, stamp_news}
use Rattle.stripe_examiner.specs.Facts.{StripeFacts, damaged_at}
use Rattle.stripe_examiner.specs.Findings.{all_cell_events, all_level_events, all_level_io_events, all_lost_events, blocked_event, cell_events, changed_event, column_events, file_events, is_lost, is_unread, is_wrong, is_unread_level, level_events, level_io_events, lost_event, lost_events, opening_events, read_event, read_events, record_events, silent_event, stripe_events, unsynced_events}
use Rattle.snap_fix.specs.FixCourse.{fix_events}
use Rattle.snap_fix.specs.Fixing.{facts_of}
use Rattle.snap_fix.specs.Mended.{Mended, all_cell_news, all_level_news, all_mended_events, AnswersFit, answer_of, cell_news, fixed_event, is_repaired, is_wrong_level, level_news, mended_event, mended_events}
use Rattle.stripe_examiner.specs.Showing.{is_unknown, known_block}
use Rattle.repair_scope.specs.Plan.{FixPlan, cell_at, entry_at, is_audit, is_synced, has_selected_cell, selects_cell, selects_level}
use Rattle.snap_fix.specs.Restored.{HasFixed, IsUnknownCell}
use Rattle.repair_scope.specs.Selected.{is_as_recorded}

-- ---- what is so of each lost cell that is told

abbrev OnlyLost : (ℕ → ℕ → ℕ → ℕ → Type 0) → Event → Type 0
OnlyLost Q (event.Changed disk rec found) = Unit {0}
OnlyLost Q (event.ChangedBlock stripe disk rec index found got) = Unit {0}
OnlyLost Q (event.Silent stripe disk rec index recorded found) = Unit {0}
OnlyLost Q (event.Io stripe disk rec index) = Unit {0}
OnlyLost Q (event.ParityIo stripe level) = Unit {0}
OnlyLost Q (event.Parity stripe level) = Unit {0}
OnlyLost Q (event.Unsynced stripe) = Unit {0}
OnlyLost Q (event.Lost stripe disk rec index) = Q stripe disk rec index
OnlyLost Q (event.Blocked disk rec) = Unit {0}
OnlyLost Q (event.Fixed stripe disk rec index) = Unit {0}
OnlyLost Q (event.FixedParity stripe level) = Unit {0}
OnlyLost Q (event.Restored disk rec) = Unit {0}
OnlyLost Q (event.Renamed disk rec) = Unit {0}
OnlyLost Q (event.NoStamp disk rec) = Unit {0}

module _ (Q : ℕ → ℕ → ℕ → ℕ → Type 0) where
  abbrev Only : Event → Type 0
  Only = OnlyLost Q

  all_one : (it : Event) → Only it → All Only (it ∷ [])
  all_one it is = All-cons Only it [] is (All-nil Only)

  all_both : (xs ys : List Event) → All Only xs → All Only ys → All Only (xs ++ ys)
  all_both xs ys one two = All-append Only xs ys one two

  all_if : (b : Bool) (xs ys : List Event) → All Only xs → All Only ys → All Only (if b then xs else ys)
  all_if true xs ys one two = one
  all_if false xs ys one two = two

  all_where : (b : Bool) (xs : List Event) → (b ≡ true → All Only xs) → All Only (if b then xs else [])
  all_where true xs one = one refl
  all_where false xs one = All-nil Only

  all_each : {X : Type 0} (f : X → List Event) (xs : List X) → ((k : ℕ) (d : X) → k < length xs → All Only (f (get_or xs k d))) → All Only (flat_map f xs)
  all_each f [] each = All-nil Only
  all_each f (x ∷ xs) each =
      all_both (f x) (flat_map f xs) (each 0 x (omega arith)) (all_each f xs (λ k d within. each (suc k) d (omega (arith, within))))

  all_below : (f : ℕ → List Event) (n : ℕ) → ((k : ℕ) → k < n → All Only (f k)) → All Only (flat_map f (range_with_len 0 n))
  all_below f n each =
      all_each f (range_with_len 0 n) (λ k other within.
      let below : k < n = omega (arith, within, length-range_with_len 0 n) in
      let at : get_or (range_with_len 0 n) k other ≡ k = get_or-range_with_len 0 n k other below ∙ omega arith in
      subst (λ (j : ℕ). All Only (f j)) (sym at) (each k below))

  -- ---- of files as a whole
  all_of_file : (audit : Bool) (d i : ℕ) (meta : Meta) (entry : Entry) → All Only (file_events audit d i meta entry)
  all_of_file audit d i meta entry =
      all_if entry.selected (changed_event d i meta entry ++ blocked_event audit d i entry) []
      (all_both (changed_event d i meta entry) (blocked_event audit d i entry)
      (all_if (is_as_recorded meta entry.listed) [] (event.Changed d i entry.listed ∷ []) (All-nil Only) (all_one (event.Changed d i entry.listed) tt))
      (all_if (entry.blocked && not audit) (event.Blocked d i ∷ []) [] (all_one (event.Blocked d i) tt) (All-nil Only)))
      (All-nil Only)

  all_opening : (plan : FixPlan) → All Only (opening_events plan)
  all_opening plan =
      all_below (column_events plan) (length plan.table.columns) (λ d below.
      all_below (record_events plan d) (length (records_in plan.table d)) (λ i inside.
      all_of_file (is_audit plan.scope.mode) d i (record_at plan.table.columns d i).meta (entry_at plan d i)))

  all_finished : (d i : ℕ) (finish : Finish) → All Only (finish_news d i finish)
  all_finished d i Kept = All-nil Only
  all_finished d i (Restored stamped) =
      all_both (event.Restored d i ∷ []) (stamp_news d i stamped) (all_one (event.Restored d i) tt)
      (all_if stamped [] (event.NoStamp d i ∷ []) (All-nil Only) (all_one (event.NoStamp d i) tt))
  all_finished d i Unstamped = all_one (event.NoStamp d i) tt
  all_finished d i Renamed = all_one (event.Renamed d i) tt
  all_finished d i Gone = all_one (event.Blocked d i) tt

  all_finishing : (plan : FixPlan) (finishes : List (List Finish)) → All Only (all_finish_news plan finishes)
  all_finishing plan finishes =
      all_below (column_news_at plan finishes) (length plan.table.columns) (λ d below.
      all_below (record_news plan d (finishes_at finishes d)) (length (records_in plan.table d)) (λ i inside.
      all_if (is_finished plan d i) (finish_news d i (finish_at (finishes_at finishes d) i)) [] (all_finished d i (finish_at (finishes_at finishes d) i)) (All-nil Only)))

  -- ---- of the cells and levels of a stripe
  all_silent : (stripe d : ℕ) (cell : Cell) (recorded came : Option Digest16) → All Only (silent_event stripe d cell recorded came)
  all_silent stripe d cell (Some recorded) (Some came) =
      all_if (bytes_eq recorded.0 came.0) [] (event.Silent stripe d cell.rec cell.index recorded came ∷ []) (All-nil Only) (all_one (event.Silent stripe d cell.rec cell.index recorded came) tt)
  all_silent stripe d cell (Some recorded) None = All-nil Only
  all_silent stripe d cell None came = All-nil Only

  all_read : (stripe d : ℕ) (cell : Cell) (seen : CellView) (entry : Entry) (slot : SlotValue) → All Only (read_event stripe d cell seen entry slot)
  all_read stripe d cell seen entry slot =
      let silent : List Event = silent_event stripe d cell seen.hash slot.digest in
      let same : Bool = is_as_recorded seen.meta entry.listed in
      all_if (is_unread slot.cell.found) (event.Io stripe d cell.rec cell.index ∷ []) (if same then silent else []) (all_one (event.Io stripe d cell.rec cell.index) tt)
      (all_if same silent [] (all_silent stripe d cell seen.hash slot.digest) (All-nil Only))

  all_reads : (plan : FixPlan) (stripe : ℕ) (slot : SlotValue) (d : ℕ) (found : Option Cell) → All Only (read_events plan stripe slot d found)
  all_reads plan stripe slot d None = All-nil Only
  all_reads plan stripe slot d (Some cell) = all_read stripe d cell (cell_seen (column_at plan.table.columns d) cell) (entry_at plan d cell.rec) slot

  all_cells : (plan : FixPlan) (stripe : ℕ) (slots : List SlotValue) → All Only (all_cell_events plan stripe slots)
  all_cells plan stripe slots =
      all_below (λ d. cell_events plan stripe (get_or slots d no_slot) d) (length plan.table.columns) (λ d below.
      all_if (selects_cell plan stripe d) (read_events plan stripe (get_or slots d no_slot) d (cell_at plan stripe d)) []
      (all_reads plan stripe (get_or slots d no_slot) d (cell_at plan stripe d)) (All-nil Only))

  all_io : (plan : FixPlan) (stripe : ℕ) (levels : List LevelValue) → All Only (all_level_io_events plan stripe levels)
  all_io plan stripe levels =
      all_below (λ r. level_io_events plan stripe (get_or levels r no_level) r) (length levels) (λ r below.
      all_if (selects_level plan stripe r && is_unread_level (get_or levels r no_level).state) (event.ParityIo stripe r ∷ []) [] (all_one (event.ParityIo stripe r) tt) (All-nil Only))

  all_wrong : (plan : FixPlan) (stripe : ℕ) (levels : List LevelValue) (row : Option Row) → All Only (all_level_events plan stripe levels row)
  all_wrong plan stripe levels row =
      all_below (λ r. level_events plan stripe (get_or levels r no_level) row r) (length levels) (λ r below.
      all_if (is_wrong plan stripe (get_or levels r no_level) row r) (event.Parity stripe r ∷ []) [] (all_one (event.Parity stripe r) tt) (All-nil Only))

  all_pending : (plan : FixPlan) (stripe : ℕ) → All Only (unsynced_events plan stripe)
  all_pending plan stripe =
      all_if (not (is_audit plan.scope.mode) && not (is_synced plan stripe) && has_selected_cell plan stripe) (event.Unsynced stripe ∷ []) []
      (all_one (event.Unsynced stripe) tt) (All-nil Only)

  all_level_fixes : (plan : FixPlan) (facts : StripeFacts) → All Only (all_level_news plan facts)
  all_level_fixes plan facts =
      all_below (level_news plan facts) (length facts.levels) (λ r below.
      all_if (is_wrong_level plan facts r) (event.FixedParity facts.stripe r ∷ []) [] (all_one (event.FixedParity facts.stripe r) tt) (All-nil Only))

  all_lost_of : (stripe d : ℕ) (found : Option Cell) → ((cell : Cell) → found ≡ Some cell → Q stripe d cell.rec cell.index) → All Only (lost_event stripe d found)
  all_lost_of stripe d None is = All-nil Only
  all_lost_of stripe d (Some cell) is = all_one (event.Lost stripe d cell.rec cell.index) (is cell refl)

  all_fixed : (stripe d : ℕ) (found : Option Cell) → All Only (fixed_event stripe d found)
  all_fixed stripe d None = All-nil Only
  all_fixed stripe d (Some cell) = all_one (event.Fixed stripe d cell.rec cell.index) tt

  all_mended : (stripe d : ℕ) (found : Option Cell) (written : Bool) → (written ≡ false → (cell : Cell) → found ≡ Some cell → Q stripe d cell.rec cell.index)
      → All Only (mended_event stripe d found written)
  all_mended stripe d found true is = all_fixed stripe d found
  all_mended stripe d found false is = all_lost_of stripe d found (is refl)

  -- of all stripes
  module _ (plan : FixPlan) (stripes : List Mended) (finishes : List (List Finish))
      (lost : (mended : Mended) (d : ℕ) (cell : Cell) → Contains stripes mended → d < length plan.table.columns → cell_at plan mended.facts.stripe d ≡ Some cell
      → is_lost plan mended.facts d ≡ true → Q mended.facts.stripe d cell.rec cell.index)
      (gone : (mended : Mended) (d : ℕ) (cell : Cell) → Contains stripes mended → d < length plan.table.columns → cell_at plan mended.facts.stripe d ≡ Some cell
      → is_repaired plan mended.facts d ≡ true → answer_of mended d ≡ false → Q mended.facts.stripe d cell.rec cell.index) where
    all_lost : (mended : Mended) → Contains stripes mended → All Only (all_lost_events plan mended.facts.stripe (is_lost plan mended.facts))
    all_lost mended one =
        let stripe : ℕ = mended.facts.stripe in
        all_below (λ d. lost_events plan stripe (is_lost plan mended.facts d) d) (length plan.table.columns) (λ d below.
        all_where (not (is_audit plan.scope.mode) && is_lost plan mended.facts d) (lost_event stripe d (cell_at plan stripe d))
        (λ is. all_lost_of stripe d (cell_at plan stripe d)
        (λ cell cell_is. lost mended d cell one below cell_is
        (and_parts (not (is_audit plan.scope.mode)) (is_lost plan mended.facts d) is).1)))

    all_news : (mended : Mended) → Contains stripes mended → All Only (all_cell_news plan mended)
    all_news mended one =
        let stripe : ℕ = mended.facts.stripe in
        all_below (cell_news plan mended) (length plan.table.columns) (λ d below.
        all_where (is_repaired plan mended.facts d) (mended_event stripe d (cell_at plan stripe d) (answer_of mended d))
        (λ repaired. all_mended stripe d (cell_at plan stripe d) (answer_of mended d)
        (λ none cell cell_is. gone mended d cell one below cell_is repaired none)))

    all_of_stripe : (mended : Mended) → Contains stripes mended → All Only (mended_events plan mended)
    all_of_stripe mended one =
        let facts : StripeFacts = mended.facts in
        let stripe : ℕ = mended.facts.stripe in
        let lost_of : List Event = all_lost_events plan stripe (is_lost plan facts) in
        let wrong_of : List Event = all_level_events plan stripe facts.levels facts.row in
        let io_of : List Event = all_level_io_events plan stripe facts.levels in
        let cells_of : List Event = all_cell_events plan stripe facts.slots in
        all_both (stripe_events plan facts) (all_cell_news plan mended ++ all_level_news plan facts)
        (all_both (unsynced_events plan stripe) (cells_of ++ (io_of ++ (wrong_of ++ lost_of))) (all_pending plan stripe)
        (all_both cells_of (io_of ++ (wrong_of ++ lost_of)) (all_cells plan stripe facts.slots)
        (all_both io_of (wrong_of ++ lost_of) (all_io plan stripe facts.levels)
        (all_both wrong_of lost_of (all_wrong plan stripe facts.levels facts.row) (all_lost mended one)))))
        (all_both (all_cell_news plan mended) (all_level_news plan facts) (all_news mended one) (all_level_fixes plan facts))

    pub all_of_fix : All Only (fix_events plan stripes finishes)
    all_of_fix =
        all_both (opening_events plan) (all_mended_events plan stripes ++ all_finish_news plan finishes) (all_opening plan)
        (all_both (all_mended_events plan stripes) (all_finish_news plan finishes)
        (all_each (mended_events plan) stripes (λ k other within. all_of_stripe (get_or stripes k other) (All-contains_itself stripes k other within)))
        (all_finishing plan finishes))

-- ---- the cells that are told to be lost

not_set : (b : Bool) → not b ≡ true → b ≡ false
not_set true is = absurd cc
not_set false is = refl

pub contains_facts : (stripes : List Mended) (mended : Mended) → Contains stripes mended → Contains (facts_of stripes) mended.facts
contains_facts stripes mended one =
    let facts : Mended → StripeFacts = λ (it : Mended). it.facts in
    (one.0, omega (arith, length-map stripes facts, one.1), get_or-map facts stripes one.0 mended mended.facts one.1 ∙ ap facts one.2)

module _ (plan : FixPlan) (starts : StartsValue) (stripes : List Mended) (finishes : List (List Finish)) (firsts news : List FolderView)
    (has : HasFixed plan starts stripes finishes firsts news) where
  abbrev IsUnknown : ℕ → ℕ → ℕ → ℕ → Type 0
  IsUnknown stripe d rec index = IsTrue (folder_at firsts d).tells → IsUnknownCell plan (facts_of stripes) stripe d (let cell : Cell = record { rec = rec; index = index } in cell)

  lost_is_unknown : (mended : Mended) (d : ℕ) (cell : Cell) → Contains stripes mended → d < length plan.table.columns → cell_at plan mended.facts.stripe d ≡ Some cell
      → is_lost plan mended.facts d ≡ true → IsUnknown mended.facts.stripe d cell.rec cell.index
  lost_is_unknown mended d cell one below cell_is is tells =
      let outer = and_parts (selects_cell plan mended.facts.stripe d) (is_unknown plan mended.facts d) is in
      let inner = and_parts (damaged_at plan mended.facts d) (not (is_some (known_block plan mended.facts d))) outer.1 in
      record {
        facts = mended.facts;
        number = refl;
        is = record { one = contains_facts stripes mended one; column = below; cell_is = cell_is; selected = outer.0; damaged = inner.0 };
        unknown = not_set (is_some (known_block plan mended.facts d)) inner.1;
      }

  none_is_gone : (mended : Mended) (d : ℕ) (cell : Cell) → Contains stripes mended → d < length plan.table.columns → cell_at plan mended.facts.stripe d ≡ Some cell
      → is_repaired plan mended.facts d ≡ true → answer_of mended d ≡ false → IsUnknown mended.facts.stripe d cell.rec cell.index
  none_is_gone mended d cell one below cell_is repaired none tells =
      absurd (false≢true (sym none ∙ All-contains (AnswersFit plan firsts) stripes mended has.answered one d below tells repaired))

  pub told_is_unknown : (stripe d : ℕ) (cell : Cell) → Contains (fix_events plan stripes finishes) (event.Lost stripe d cell.rec cell.index)
      → IsTrue (folder_at firsts d).tells → IsUnknownCell plan (facts_of stripes) stripe d cell
  told_is_unknown stripe d cell told =
      All-contains (OnlyLost IsUnknown) (fix_events plan stripes finishes) (event.Lost stripe d cell.rec cell.index)
      (all_of_fix IsUnknown plan stripes finishes lost_is_unknown none_is_gone) told
