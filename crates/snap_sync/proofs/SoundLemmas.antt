-- The copies are sound at each moment of a sync.
use Rattle.std.proofs.Common.{◌≡◌, inl, inr, ⊎_elim, ℕ, ◌+◌, ◌*◌, ◌^◌, ◌<◌, ◌≤◌, List, [], ◌++◌, length, map, take, get_or, Bool, true, false, if◌then◌else◌, Option, None, Some, is_some, refl, sym, ap, ap₂, ◌∙◌, subst, arith}
use Rattle.std.specs.List.{All}
use Rattle.std.proofs.lemmas.Bool.{cases_Bool, cases_lt}
use Rattle.std.proofs.lemmas.List.{length-map, length-take-le, get_or-take, get_or_past}
use Rattle.array_scan.specs.Layout.{is_pending, pending_stripes}
use Rattle.content_file.specs.Save.{MaySave}
use Rattle.content_file.specs.Spelling.{HoldsTable, spelling}
use Rattle.disk_model.specs.Files.{Files, parity_of, content_of}
use Rattle.disk_model.specs.Folder.{FolderView}
use Rattle.file_table.specs.Cells.{CellView, StripeView, cell_view, stripe_view}
use Rattle.file_table.specs.Table.{Column, TableValue, info_at}
use Rattle.file_table.specs.Valid.{IsValid}
use Rattle.file_table.specs.declared.info.Mark.{Mark}
use Rattle.file_table.specs.declared.info.Mark.TheVariants.{Pending, Synced}
use Rattle.file_table.specs.declared.shape.Shape.{Shape}
use Rattle.stripe_reader.specs.Reading.{block_length}
use Rattle.parity_writer.specs.Parity.{Row, Rows, HasLevel, HoldsRows, no_rows}
use Rattle.parity_writer.proofs.CellsLemmas.{cells_of, closed_cell_at, one_more, row_has_cells, rows_by}
use Rattle.parity_writer.specs.Sound.{IsSynced, IsRowOf, Sound, real_length, Closed, last_row, newest, HasCells, HasCell, closed_cells, closed_cell, PastCell, past_cell}
use Rattle.array_scan.specs.Keeping.{KeepsStripes, SameBlock, IsMarkedSynced}
use Rattle.snap_sync.specs.Calls.{SyncPlan, no_reading}
use Rattle.snap_sync.specs.Images.{IsAtWork, KeepsSynced, MayStand, Opening, AtWork, StandsBy, rows_after, table_after}
use Rattle.stripe_findings.specs.Reading.{StripeReading, is_verified, row_of}
use Rattle.snap_sync.specs.Reading.{ReadsFirst}
use Rattle.snap_sync.specs.Soundness.{AreSound, AreSoundAfter, IsLoadedFrom, StandsOn, changed_without, in_front, snapshot_with}
use Rattle.snap_sync.proofs.CellLemmas.{FindsCells, IsStripeRead, stripes_read}
use Rattle.snap_sync.proofs.ListFacts.{All-first}
use Rattle.snap_sync.proofs.StillPending.{AreOfPending, are_of_pending, first_stripes}
use Rattle.snap_sync.proofs.RowLemmas.{row_closes}
use Rattle.snap_sync.proofs.ValidLemmas.{IsOnlyCell, valid_closed}
use Rattle.snap_sync.proofs.SeenLemmas.{GivesItsHashes, LeavesTheOthers, infos_closed, one_or_none, row_apart, row_read, shape_closed, view_apart, view_closed, view_read}
use Rattle.parity_writer.specs.Closing.{changed_behind}

-- what content_file says of what a copy holds
abbrev pub OneTable : Type 0
OneTable = (a b : TableValue) (held : Option (List ℕ)) → IsValid a → IsValid b → HoldsTable a held → HoldsTable b held → a ≡ b

-- ---- the laid out table is as sound as the one that was laid out anew

marked : (table : TableValue) (stripe : ℕ) → IsSynced table stripe → IsMarkedSynced table stripe
marked table stripe synced = record { within = synced.within; mark = synced.mark }

unmarked : (table : TableValue) (stripe : ℕ) → IsMarkedSynced table stripe → IsSynced table stripe
unmarked table stripe synced = record { within = synced.within; mark = synced.mark }

same_closed : (shape : Shape) (one other : Option CellView) → SameBlock one other → closed_cell shape one ≡ closed_cell shape other
same_closed shape None None same = refl
same_closed shape None (Some other) same = absurd same
same_closed shape (Some one) None same = absurd same
same_closed shape (Some one) (Some other) same =
    let long : real_length shape one ≡ real_length shape other =
    ap (λ (n : ℕ). block_length shape.block_size n one.index) same.0 ∙ ap (λ (n : ℕ). block_length shape.block_size other.meta.size n) same.1 in
    ap₂ past_cell long same.2

module _ (start loaded : TableValue) (keeps : KeepsStripes start loaded) (files : Files) (snapshot : Closed) (is_changed : ℕ → ℕ → Bool) where
  cells_long : (table : TableValue) (stripe : ℕ) → length (stripe_view table stripe).cells ≡ length table.columns
  cells_long table stripe = length-map table.columns (λ (column : Column). cell_view column stripe)

  -- a synced stripe is closed with the same cells
  same_cell : (stripe : ℕ) → IsSynced start stripe → (d : ℕ) → get_or (closed_cells start stripe) d None ≡ get_or (closed_cells loaded stripe) d None
  same_cell stripe synced d =
      let before : List (Option CellView) = (stripe_view loaded stripe).cells in
      let laid : List (Option CellView) = (stripe_view start stripe).cells in
      let same : closed_cell loaded.shape (get_or laid d None) ≡ closed_cell loaded.shape (get_or before d None) = ⊎_elim
      (λ below. same_closed loaded.shape (get_or laid d None) (get_or before d None) (keeps.blocks stripe d (marked start stripe synced) below))
      (λ past. ap (closed_cell loaded.shape) (get_or_past laid d None (omega (arith, past, cells_long start stripe))
      ∙ sym (get_or_past before d None (omega (arith, past, cells_long loaded stripe, keeps.columns)))))
      (cases_lt d (length start.columns)) in
      closed_cell_at start.shape laid d ∙ ap (λ (shape : Shape). closed_cell shape (get_or laid d None)) keeps.shape ∙ same ∙ sym (closed_cell_at loaded.shape before d)

  pub laid_sound : Sound loaded files snapshot is_changed → Sound start files snapshot is_changed
  laid_sound sound = record {
    was_closed = λ stripe synced. sound.was_closed stripe (unmarked loaded stripe (keeps.synced stripe (marked start stripe synced)));
    rows = rows_by start snapshot (λ stripe synced d.
        let has = cells_of loaded files snapshot is_changed sound stripe (unmarked loaded stripe (keeps.synced stripe (marked start stripe synced))) d in
        subst (λ (shape : Shape). HasCell shape (get_or (closed_cells start stripe) d None) (get_or (last_row snapshot stripe) d [])) (sym keeps.shape)
        (subst (λ (cell : Option PastCell). HasCell loaded.shape cell (get_or (last_row snapshot stripe) d [])) (sym (same_cell stripe synced d)) has));
    sums = λ stripe level synced below unchanged.
        subst (λ (shape : Shape). HasLevel shape.block_size level stripe (last_row snapshot stripe) (parity_of files level)) (sym keeps.shape)
        (sound.sums stripe level (unmarked loaded stripe (keeps.synced stripe (marked start stripe synced))) (subst (λ (shape : Shape). level < shape.levels) keeps.shape below) unchanged);
  }

  pub nothing_sound : ((stripe : ℕ) → IsSynced loaded stripe → ⊥) → Sound start files snapshot is_changed
  nothing_sound none = record {
    was_closed = λ stripe synced. absurd (none stripe (unmarked loaded stripe (keeps.synced stripe (marked start stripe synced))));
    rows = λ stripe cells synced is. absurd (none stripe (unmarked loaded stripe (keeps.synced stripe (marked start stripe synced))));
    sums = λ stripe level synced below unchanged. absurd (none stripe (unmarked loaded stripe (keeps.synced stripe (marked start stripe synced))));
  }

-- where all copies are sound, so is the laid out table of one that was loaded
pub start_sound : (copies : ℕ) (start loaded : TableValue) (files : Files) (snapshot : Closed) (is_changed : ℕ → ℕ → Bool) → KeepsStripes start loaded → IsValid loaded → IsLoadedFrom copies loaded files
    → AreSound copies files snapshot is_changed → Sound start files snapshot is_changed
start_sound copies start loaded files snapshot is_changed keeps valid is_loaded are = ⊎_elim
    (λ spelled. laid_sound start loaded keeps files snapshot is_changed (are spelled.0 loaded spelled.1 valid spelled.2))
    (λ none. nothing_sound start loaded keeps files snapshot is_changed none)
    is_loaded

-- files with the same parity are as sound
same_parities : (table : TableValue) (old new : Files) (snapshot : Closed) (is_changed : ℕ → ℕ → Bool) → new.parities ≡ old.parities → Sound table old snapshot is_changed → Sound table new snapshot is_changed
same_parities table old new snapshot is_changed same sound = record {
  was_closed = sound.was_closed;
  rows = sound.rows;
  sums = λ stripe level synced below unchanged.
      subst (λ (parities : List (List ℕ)). HasLevel table.shape.block_size level stripe (last_row snapshot stripe) (get_or parities level [])) (sym same) (sound.sums stripe level synced below unchanged);
}

-- ---- a table after so many stripes were read

module _ (finds : FindsCells) (leaves : LeavesTheOthers) (gives : GivesItsHashes) (plan : SyncPlan) (readings ahead : List StripeReading) (olds news : List FolderView)
    (all : length olds ≡ length plan.start.columns) (first : ReadsFirst plan.start (readings ++ ahead) olds news) where
  abbrev start : TableValue
  start = plan.start

  each_read : (count : ℕ) → All (IsStripeRead start olds news) (take count readings)
  each_read count = All-first (IsStripeRead start olds news) (readings ++ ahead) readings ahead count refl (stripes_read start (readings ++ ahead) olds news first.read all)

  pub of_pending : (count : ℕ) → count ≤ length readings → AreOfPending start (take count readings)
  of_pending count within = are_of_pending start (take count readings) count (first_stripes (readings ++ ahead) readings ahead count (pending_stripes start.infos) refl within first.stripes)

  -- each table of the sync is valid
  pub saved_valid : IsOnlyCell → IsValid start → plan.now < 2 ^ 64 → (count : ℕ) → count ≤ length readings → IsValid (table_after plan readings count)
  saved_valid only valid in_time count within =
      valid_closed finds only leaves gives start plan.now in_time olds news (take count readings) start valid refl
      (of_pending count within).distinct (of_pending count within).below (λ k d below. refl) (each_read count)

  -- what makes a stripe sound
  record IsStripeSound (table : TableValue) (files : Files) (snapshot : Closed) (is_changed : ℕ → ℕ → Bool) (stripe : ℕ) : Type 0 where
    closed : 0 < length (snapshot stripe)
    row : HasCells table.shape (closed_cells table stripe) (last_row snapshot stripe)
    sums : (level : ℕ) → level < table.shape.levels → is_changed stripe level ≡ false → HasLevel table.shape.block_size level stripe (last_row snapshot stripe) (parity_of files level)

  not_pending : (mark : Mark) → is_pending mark ≡ true → mark ≡ Synced → ⊥
  not_pending Pending is synced = cc
  not_pending Synced is synced = cc

  module _ (old new : Files) (snapshot : Closed) (is_changed : ℕ → ℕ → Bool) (sound : Sound start old snapshot is_changed) (n k : ℕ) (order : n ≤ k) (within : k ≤ length readings)
      (holds : HoldsRows start.shape.levels start.shape.block_size (rows_after plan readings k) new) (keeps : KeepsSynced start old new) where
    abbrev table : TableValue
    table = table_after plan readings n

    abbrev rows : Rows
    rows = rows_after plan readings k

    shape_is : table.shape ≡ start.shape
    shape_is = shape_closed start plan.now (take n readings) start

    first_of : AreOfPending start (take n readings)
    first_of = of_pending n (omega (arith, order, within))

    -- a row of a stripe that was closed
    closed_sound : (i : ℕ) → i < length (take n readings) → is_verified start (get_or (take n readings) i no_reading) ≡ true
        → IsStripeSound table new (snapshot_with rows snapshot) (changed_without start.shape.levels rows is_changed) (get_or (take n readings) i no_reading).stripe
    closed_sound i inside verified =
        let reading : StripeReading = get_or (take n readings) i no_reading in
        let long_n : length (take n readings) ≡ n = length-take-le n readings (omega (arith, order, within)) in
        let long_k : length (take k readings) ≡ k = length-take-le k readings within in
        let same : get_or (take k readings) i no_reading ≡ reading = get_or-take k readings i no_reading (omega (arith, inside, long_n, order)) ∙ sym (get_or-take n readings i no_reading (omega (arith, inside, long_n))) in
        let row_is : rows reading.stripe ≡ Some (row_of reading) =
        subst (λ (r : StripeReading). rows r.stripe ≡ Some (row_of r)) same
        (row_read start (take k readings) no_rows i no_reading (of_pending k within).distinct (omega (arith, inside, long_n, long_k, order))
        (subst (λ (r : StripeReading). is_verified start r ≡ true) (sym same) verified)) in
        let snapshot_is : last_row (snapshot_with rows snapshot) reading.stripe ≡ row_of reading = ap (λ (row : Option Row). newest (in_front row (snapshot reading.stripe))) row_is in
        let seen : stripe_view table reading.stripe ≡ view_closed plan.now reading (stripe_view start reading.stripe) =
        view_read leaves start plan.now gives (take n readings) start i no_reading first_of.distinct inside (first_of.below i no_reading inside)
        ∙ ap (λ (b : Bool). if b then view_closed plan.now reading (stripe_view start reading.stripe) else stripe_view start reading.stripe) verified in
        let closes : IsRowOf start.shape (view_closed plan.now reading (stripe_view start reading.stripe)) (row_of reading) =
        row_closes finds start olds news reading (each_read n i no_reading inside) verified plan.now in
        record {
          closed = subst (λ (row : Option Row). 0 < length (in_front row (snapshot reading.stripe))) (sym row_is) (one_more (row_of reading) (snapshot reading.stripe));
          row = subst (λ (shape : Shape). HasCells shape (map (closed_cell shape) (stripe_view table reading.stripe).cells) (last_row (snapshot_with rows snapshot) reading.stripe)) (sym shape_is)
              (subst (λ (it : StripeView). HasCells start.shape (map (closed_cell start.shape) it.cells) (last_row (snapshot_with rows snapshot) reading.stripe)) (sym seen)
              (subst (λ (row : Row). HasCells start.shape (map (closed_cell start.shape) (view_closed plan.now reading (stripe_view start reading.stripe)).cells) row) (sym snapshot_is)
              (row_has_cells start.shape (view_closed plan.now reading (stripe_view start reading.stripe)) (row_of reading) closes)));
          sums = λ level below unchanged.
              subst (λ (shape : Shape). HasLevel shape.block_size level reading.stripe (last_row (snapshot_with rows snapshot) reading.stripe) (parity_of new level)) (sym shape_is)
              (subst (λ (row : Row). HasLevel start.shape.block_size level reading.stripe row (parity_of new level)) (sym snapshot_is)
              (holds.level level reading.stripe (row_of reading) (subst (λ (shape : Shape). level < shape.levels) shape_is below) row_is));
        }

    -- and of one that is as it was laid out
    module _ (stripe : ℕ) (seen : stripe_view table stripe ≡ stripe_view start stripe) (synced : IsSynced table stripe) where
      was_synced : IsSynced start stripe
      was_synced = record {
        within = omega (arith, synced.within, infos_closed start plan.now (take n readings) start);
        mark = ap (λ (it : StripeView). it.info.mark) (sym seen) ∙ synced.mark;
      }

      no_row : rows stripe ≡ None
      no_row = row_apart start (take k readings) no_rows stripe (λ i d inside same.
          not_pending (info_at start.infos stripe).mark (subst (λ (s : ℕ). is_pending (info_at start.infos s).mark ≡ true) same ((of_pending k within).pending i d inside)) was_synced.mark)

      kept_sound : IsStripeSound table new (snapshot_with rows snapshot) (changed_without start.shape.levels rows is_changed) stripe
      kept_sound =
          let snapshot_is : last_row (snapshot_with rows snapshot) stripe ≡ last_row snapshot stripe = ap (λ (row : Option Row). newest (in_front row (snapshot stripe))) no_row in
          record {
            closed = subst (λ (row : Option Row). 0 < length (in_front row (snapshot stripe))) (sym no_row) (sound.was_closed stripe was_synced);
            row = subst (λ (shape : Shape). HasCells shape (map (closed_cell shape) (stripe_view table stripe).cells) (last_row (snapshot_with rows snapshot) stripe)) (sym shape_is)
                (subst (λ (it : StripeView). HasCells start.shape (map (closed_cell start.shape) it.cells) (last_row (snapshot_with rows snapshot) stripe)) (sym seen)
                (subst (λ (row : Row). HasCells start.shape (closed_cells start stripe) row) (sym snapshot_is) (cells_of start old snapshot is_changed sound stripe was_synced)));
            sums = λ level below unchanged.
                let out : is_changed stripe level ≡ false = sym (ap (λ (row : Option Row). if is_some row then changed_behind start.shape.levels is_changed stripe level else is_changed stripe level) no_row) ∙ unchanged in
                let was : HasLevel start.shape.block_size level stripe (last_row snapshot stripe) (parity_of old level) =
                sound.sums stripe level was_synced (subst (λ (shape : Shape). level < shape.levels) shape_is below) out in
                let is : HasLevel start.shape.block_size level stripe (last_row snapshot stripe) (parity_of new level) = λ i inside.
                keeps.bytes level (stripe * start.shape.block_size + i) _
                (record { stripe = stripe; synced = was_synced; behind = omega arith; before = omega (arith, inside) }) (was i inside) in
                subst (λ (shape : Shape). HasLevel shape.block_size level stripe (last_row (snapshot_with rows snapshot) stripe) (parity_of new level)) (sym shape_is)
                (subst (λ (row : Row). HasLevel start.shape.block_size level stripe row (parity_of new level)) (sym snapshot_is) is);
          }

    stripe_sound : (stripe : ℕ) → IsSynced table stripe → IsStripeSound table new (snapshot_with rows snapshot) (changed_without start.shape.levels rows is_changed) stripe
    stripe_sound stripe synced = elim (one_or_none (take n readings) stripe) [
      | inr none ↦ kept_sound stripe (view_apart leaves start plan.now (take n readings) start stripe none) synced
      | inl one ↦
          let reading : StripeReading = get_or (take n readings) one.i no_reading in
          elim (cases_Bool (is_verified start reading)) [
            | inl verified ↦ subst (IsStripeSound table new (snapshot_with rows snapshot) (changed_without start.shape.levels rows is_changed)) one.is (closed_sound one.i one.within verified)
            | inr not_verified ↦
                let seen : stripe_view table reading.stripe ≡ stripe_view start reading.stripe =
                view_read leaves start plan.now gives (take n readings) start one.i no_reading first_of.distinct one.within (first_of.below one.i no_reading one.within)
                ∙ ap (λ (b : Bool). if b then view_closed plan.now reading (stripe_view start reading.stripe) else stripe_view start reading.stripe) not_verified in
                kept_sound stripe (subst (λ (s : ℕ). stripe_view table s ≡ stripe_view start s) one.is seen) synced
          ]
    ]

    pub sound_after : Sound table new (snapshot_with rows snapshot) (changed_without start.shape.levels rows is_changed)
    sound_after = record {
      was_closed = λ stripe synced. (stripe_sound stripe synced).closed;
      rows = rows_by table (snapshot_with rows snapshot) (λ stripe synced. (stripe_sound stripe synced).row);
      sums = λ stripe level synced. (stripe_sound stripe synced).sums level;
    }

  -- ---- each moment

  module _ (one_table : OneTable) (loaded : TableValue) (old new : Files) (snapshot : Closed) (is_changed : ℕ → ℕ → Bool)
      (only : IsOnlyCell) (stands : StandsOn plan loaded old) (are : AreSound plan.copies old snapshot is_changed) where
    started : Sound start old snapshot is_changed
    started = start_sound plan.copies start loaded old snapshot is_changed stands.keeps stands.valid stands.is_loaded are

    -- a copy that spells a table of the sync, where that is sound
    spelled_sound : (count : ℕ) → count ≤ length readings → (table : TableValue) → IsValid table → (copy : ℕ) → HoldsTable table (content_of new copy) → HoldsTable (table_after plan readings count) (content_of new copy)
        → (X : TableValue → Type 0) → X (table_after plan readings count) → X table
    spelled_sound count within table valid copy is also X x =
        subst X (sym (one_table table (table_after plan readings count) (content_of new copy) valid (saved_valid only stands.laid stands.in_time count within) is also)) x

    opening_sound : MaySave (spelling start) old new → AreSoundAfter plan readings new snapshot is_changed
    opening_sound saves = record {
      count = 0;
      within = omega arith;
      sound = λ copy table within valid is. ⊎_elim
          (λ same. same_parities table old new snapshot is_changed saves.parities (are copy table within valid (sym same ∙ is)))
          (λ saved. spelled_sound 0 (omega arith) table valid copy is saved (λ t. Sound t new snapshot is_changed) (same_parities start old new snapshot is_changed saves.parities started))
          (saves.contents copy);
    }

    working_sound : (c k : ℕ) → IsAtWork plan readings c k old new → AreSoundAfter plan readings new snapshot is_changed
    working_sound c k work = record {
      count = k;
      within = work.within;
      sound = λ copy table within valid is. ⊎_elim
          (λ one. spelled_sound c (omega (arith, work.order, work.within)) table valid copy is one (λ t. Sound t new (snapshot_with (rows_after plan readings k) snapshot) (changed_without start.shape.levels (rows_after plan readings k) is_changed))
          (sound_after old new snapshot is_changed started c k work.order work.within work.rows work.kept))
          (λ other. spelled_sound k work.within table valid copy is other (λ t. Sound t new (snapshot_with (rows_after plan readings k) snapshot) (changed_without start.shape.levels (rows_after plan readings k) is_changed))
          (sound_after old new snapshot is_changed started k k (omega arith) work.within work.rows work.kept))
          (work.copies copy within);
    }

    pub moment_sound : MayStand plan readings old new → AreSoundAfter plan readings new snapshot is_changed
    moment_sound (Opening saves) = opening_sound saves
    moment_sound (AtWork c k work) = working_sound c k work

    -- by the number of its rows
    pub moment_by : (count : ℕ) → StandsBy plan readings count old new
        → (count ≤ length readings) × AreSound plan.copies new (snapshot_with (rows_after plan readings count) snapshot) (changed_without start.shape.levels (rows_after plan readings count) is_changed)
    unfolding opening_sound working_sound
    moment_by count (inl (none, saves)) =
        subst (λ (n : ℕ). (n ≤ length readings) × AreSound plan.copies new (snapshot_with (rows_after plan readings n) snapshot) (changed_without start.shape.levels (rows_after plan readings n) is_changed)) (sym none)
        (omega arith, (opening_sound saves).sound)
    moment_by count (inr (c, work)) = (work.within, (working_sound c count work).sound)
