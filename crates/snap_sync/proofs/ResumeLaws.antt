-- A sync that was stopped is resumed: from what stands at any moment of it.
use Rattle.std.proofs.Common.{◌≡◌, ◌≢◌, inl, inr, ⊎_elim, ◌↔◌, ℕ, ◌*◌, ◌≤◌, List, [], ◌++◌, length, map, take, drop, get_or, Bool, true, false, not, Option, None, Some, refl, sym, ap, ap₂, ◌∙◌, subst, arith}
use Rattle.std.specs.List.{All, AllPairs, Contains, filter, range_with_len}
use Rattle.std.proofs.lemmas.Bool.{both_ways, cases_Bool, not-true}
use Rattle.std.proofs.lemmas.List.FromFn.{length-map-range_with_len}
use Rattle.std.proofs.lemmas.List.{get_or_default, length-map, map-append, take-append-drop, take-take}
use Rattle.std.proofs.lemmas.List.Elements.{filter-append}
use Rattle.std.proofs.lemmas.List.Kept.{AllPairs-filter}
use Rattle.folder_listing.specs.Kept.{ListedFile, kept_files, kept_lists}
use Rattle.array_scan.specs.Layout.{is_pending, layout, pending_stripes}
use Rattle.array_scan.specs.Own.{HoldsJust}
use Rattle.disk_model.specs.Files.{Files, content_of}
use Rattle.disk_model.specs.Folder.{FolderView}
use Rattle.disk_model.specs.Tree.{Tree, listing_of}
use Rattle.file_table.specs.Table.{TableValue, info_at}
use Rattle.file_table.specs.Valid.{IsValid}
use Rattle.file_table.specs.declared.shape.Shape.{Shape}
use Rattle.parity_writer.specs.Keeps.{HasByte}
use Rattle.parity_writer.specs.Parity.{Row, Rows, HoldsRows, no_rows}
use Rattle.parity_writer.specs.Sound.{Sound, Closed}
use Rattle.array_setup.specs.Setup.{SetupValue}
use Rattle.snap_sync.specs.Calls.{SyncPlan, level_bytes}
use Rattle.snap_sync.specs.Closing.{closed, rows_of}
use Rattle.snap_sync.specs.Images.{HasParity, KeepsSynced, MayStand, Opening, AtWork, rows_after, table_after}
use Rattle.snap_sync.specs.Part.{IsFullSync, IsPartSync, IsVerifiedBy, SyncsTold, layout_by, reading_by, readings_by, trees_of, verified_stripes, without_checks}
use Rattle.stripe_findings.specs.Reading.{StripeReading, is_verified, row_of, stripes_of}
use Rattle.snap_sync.specs.Resumed.{EndsAs, IsFoundAt}
use Rattle.snap_sync.specs.Soundness.{AreSound, StandsOn}
use Rattle.snap_sync.proofs.CellLemmas.{FindsCells}
use Rattle.snap_sync.proofs.LeftLemmas.{is_left, pending_left, same_files, verified_left}
use Rattle.snap_sync.proofs.ListFacts.{All-through, contains_left, kept_pass}
use Rattle.snap_sync.proofs.PartLemmas.{given_again, laid_by_trees, rows_filter, stripes_are, mids_are, trees_long}
use Rattle.snap_sync.proofs.StillPending.{pending_distinct}
use Rattle.snap_sync.proofs.ResumeLemmas.{left_reading, left_shape, left_verified, same_table}
use Rattle.snap_sync.proofs.ResumeParity.{contains_kept, row_among, same_parity}
use Rattle.snap_sync.proofs.SeenLemmas.{GivesItsHashes, LeavesTheOthers, infos_closed}
use Rattle.snap_sync.proofs.SoundLemmas.{OneTable, saved_valid, start_sound}
use Rattle.snap_sync.proofs.ValidLemmas.{IsOnlyCell}
use Rattle.content_file.specs.Spelling.{HoldsTable}

-- what array_scan says of layouts
abbrev pub IsOfKeptFiles : Type 0
IsOfKeptFiles = (table : TableValue) (kept : List (List ListedFile)) → length kept ≡ length table.columns → HoldsJust (layout table kept) kept

abbrev pub IsLaidAsItIs : Type 0
IsLaidAsItIs = (table : TableValue) (kept : List (List ListedFile)) → IsValid table → HoldsJust table kept → layout table kept ≡ table

-- what is among those that pass, passes, and is among all
passes_among : (p : ℕ → Bool) (ns : List ℕ) (n : ℕ) → Contains (filter p ns) n → p n ≡ true
passes_among p ns n has = subst (λ (m : ℕ). p m ≡ true) has.2 (kept_pass p (λ (m : ℕ). p m ≡ true) ns (λ k d within passes. passes) has.0 n has.1)

among_all : (p : ℕ → Bool) (ns : List ℕ) (n : ℕ) → Contains (filter p ns) n → Contains ns n
among_all p ns n has = subst (Contains ns) has.2 (kept_pass p (Contains ns) ns (λ k d within passes. (k, within, get_or_default ns k (get_or ns k d) d within)) has.0 n has.1)

-- ---- one full sync ends as the other

module _ (finds : FindsCells) (leaves : LeavesTheOthers) (gives : GivesItsHashes) (start : TableValue) (trees : List Tree) (before : ℕ) (readings : List StripeReading) (count : ℕ)
    (stripes : stripes_of readings ≡ take count (pending_stripes start.infos)) (again : filter (is_verified start) readings ≡ readings_by start trees (verified_stripes start readings))
    (all : All (IsVerifiedBy start trees) (pending_stripes start.infos)) where
  abbrev left : TableValue
  left = closed before start readings

  pub ends_as : (old mid one other : Files) (snapshot : Closed) (is_changed : ℕ → ℕ → Bool) (written : Rows) → HoldsRows start.shape.levels start.shape.block_size written mid
      → ((stripe : ℕ) → Contains (pending_stripes start.infos) stripe → is_left leaves gives start before readings count stripes stripe ≡ false → written stripe ≡ Some (row_of (reading_by start trees stripe)))
      → KeepsSynced start old mid → Sound start old snapshot is_changed
      → (now then_now : ℕ) (table other_table : TableValue) → IsPartSync start trees (pending_stripes start.infos) now old table one
      → IsPartSync left trees (pending_stripes left.infos) then_now mid other_table other → EndsAs start is_changed table other_table one other
  ends_as old mid one other snapshot is_changed written holds is_written keeps sound now then_now table other_table whole rest =
      let rest_rows : Rows = rows_of left (readings_by left trees (pending_stripes left.infos)) in
      let shape_is : left.shape ≡ start.shape = left_shape finds start trees leaves gives before readings count stripes again all in
      let bytes_is : level_bytes left ≡ level_bytes start = ap₂ (λ (n : ℕ) (shape : Shape). n * shape.block_size) (infos_closed start before readings start) shape_is in
      let rest_parity : HasParity start.shape.levels start.shape.block_size (level_bytes start) rest_rows mid other =
      subst (λ (bytes : ℕ). HasParity start.shape.levels start.shape.block_size bytes rest_rows mid other) bytes_is
      (subst (λ (shape : Shape). HasParity shape.levels shape.block_size (level_bytes left) rest_rows mid other) shape_is rest.parity) in
      record {
        table_is = ap without_checks rest.of_table.is ∙ same_table finds start trees leaves gives before readings count stripes again all now then_now ∙ sym (ap without_checks whole.of_table.is);
        parity = same_parity finds leaves gives start trees before readings count stripes again all old mid one other snapshot is_changed written holds is_written keeps sound whole.parity rest_parity;
      }

-- ---- the sync that was stopped

module _ (finds : FindsCells) (leaves : LeavesTheOthers) (gives : GivesItsHashes) (of_kept : IsOfKeptFiles) (laid_as : IsLaidAsItIs)
    (setup : SetupValue) (old : TableValue) (plan : SyncPlan) (readings ahead : List StripeReading) (olds mids news : List FolderView)
    (syncs : SyncsTold setup old plan.start (readings ++ ahead) olds mids news) where
  abbrev start : TableValue
  start = plan.start

  abbrev trees : List Tree
  trees = trees_of olds

  abbrev kept : List (List ListedFile)
  kept = kept_lists setup (map listing_of trees)

  laid_start : start ≡ layout_by setup old trees
  laid_start = laid_by_trees setup old start (readings ++ ahead) olds mids news syncs

  kept_long : length kept ≡ length old.columns
  kept_long =
      length-map-range_with_len (λ (d : ℕ). kept_files setup d (get_or (map listing_of trees) d [])) 0 (length (map listing_of trees))
      ∙ length-map trees listing_of ∙ trees_long setup old start (readings ++ ahead) olds mids news syncs ∙ syncs.of_lists.folders

  -- a table of the sync is of the kept files
  pub holds_after : (count : ℕ) → HoldsJust (table_after plan readings count) kept
  holds_after count = same_files start plan.now (take count readings) start kept (subst (λ (table : TableValue). HoldsJust table kept) (sym laid_start) (of_kept old kept kept_long))

  pub laid_after : (count : ℕ) → IsValid (table_after plan readings count) → layout_by setup (table_after plan readings count) trees ≡ table_after plan readings count
  laid_after count valid = laid_as (table_after plan readings count) kept valid (holds_after count)

  module _ (count : ℕ) (within : count ≤ length readings) where
    stripes_after : stripes_of (take count readings) ≡ take count (pending_stripes start.infos)
    stripes_after = stripes_are setup old start (readings ++ ahead) olds mids news syncs finds readings ahead refl count within

    again_after : filter (is_verified start) (take count readings) ≡ readings_by start trees (verified_stripes start (take count readings))
    again_after = given_again setup old start (readings ++ ahead) olds mids news syncs finds readings ahead refl count within

    abbrev is_open : ℕ → Bool
    is_open = is_left leaves gives start plan.now (take count readings) count stripes_after

    verified_are : verified_stripes start (take count readings) ≡ filter (λ (stripe : ℕ). not (is_open stripe)) (pending_stripes start.infos)
    verified_are = verified_left leaves gives start plan.now (take count readings) count stripes_after

    open_are : pending_stripes (table_after plan readings count).infos ≡ filter is_open (pending_stripes start.infos)
    open_are = pending_left leaves gives start plan.now (take count readings) count stripes_after

    -- what is pending was pending, and is not verified
    pub pending_after : (stripe : ℕ) → Contains (pending_stripes (table_after plan readings count).infos) stripe
        ↔ (Contains (pending_stripes start.infos) stripe × (Contains (verified_stripes start (take count readings)) stripe → ⊥))
    pending_after stripe = (
      λ has.
          let among : Contains (filter is_open (pending_stripes start.infos)) stripe = subst (λ (ns : List ℕ). Contains ns stripe) open_are has in
          let opened : is_open stripe ≡ true = passes_among is_open (pending_stripes start.infos) stripe among in (
            among_all is_open (pending_stripes start.infos) stripe among,
            λ verified.
                both_ways (is_open stripe) (not-true (is_open stripe) (passes_among (λ (s : ℕ). not (is_open s)) (pending_stripes start.infos) stripe (subst (λ (ns : List ℕ). Contains ns stripe) verified_are verified))) opened,
          ),
      λ was. elim (cases_Bool (is_open stripe)) [
        | inl opened ↦ subst (λ (ns : List ℕ). Contains ns stripe) (sym open_are) (contains_kept is_open (pending_stripes start.infos) stripe was.0 opened)
        | inr done ↦ absurd (was.1 (done_verified stripe was.0 done))
      ],
    )
      where
        done_verified : (s : ℕ) → Contains (pending_stripes start.infos) s → is_open s ≡ false → Contains (verified_stripes start (take count readings)) s
        done_verified s has done = subst (λ (ns : List ℕ). Contains ns s) (sym verified_are)
            (contains_kept (λ (n : ℕ). not (is_open n)) (pending_stripes start.infos) s has (ap (λ (b : Bool). not b) done))

    -- the stripes that are verified are pending ones, each once
    distinct_after : AllPairs (λ (a b : ℕ). a ≢ b) (verified_stripes start (take count readings))
    distinct_after = subst (AllPairs (λ (a b : ℕ). a ≢ b)) (sym verified_are)
        (AllPairs-filter (λ (a b : ℕ). a ≢ b) (λ (stripe : ℕ). not (is_open stripe)) (pending_stripes start.infos) (pending_distinct start.infos))

    -- where the trees verify all pending stripes, each that is verified has its row
    row_after : All (IsVerifiedBy start trees) (pending_stripes start.infos) → (stripe : ℕ) → Contains (verified_stripes start (take count readings)) stripe
        → rows_after plan readings count stripe ≡ Some (row_of (reading_by start trees stripe))
    row_after all stripe has =
        let each : All (IsVerifiedBy start trees) (verified_stripes start (take count readings)) = subst (All (IsVerifiedBy start trees)) (sym verified_are)
        (kept_pass (λ (s : ℕ). not (is_open s)) (IsVerifiedBy start trees) (pending_stripes start.infos) (λ k d below passes. all k d below)) in
        ap (λ (rows : Rows). rows stripe) (rows_filter start (take count readings) no_rows ∙ ap (rows_of start) again_after)
        ∙ row_among start start trees (verified_stripes start (take count readings)) stripe distinct_after
        (All-through (reading_by start trees) (λ (reading : StripeReading). is_verified start reading ≡ true) (verified_stripes start (take count readings)) each) has

  -- what is verified of fewer is verified of more
  more_verified : (n k : ℕ) → n ≤ k → (stripe : ℕ) → Contains (verified_stripes start (take n readings)) stripe → Contains (verified_stripes start (take k readings)) stripe
  more_verified n k order stripe has =
      let V : StripeReading → Bool = is_verified start in
      let more : List StripeReading = drop n (take k readings) in
      let parts : take n readings ++ more ≡ take k readings = ap (λ (rs : List StripeReading). rs ++ more) (sym (take-take n k readings order)) ∙ take-append-drop n (take k readings) in
      let split : verified_stripes start (take n readings ++ more) ≡ verified_stripes start (take n readings) ++ verified_stripes start more =
      ap stripes_of (filter-append V (take n readings) more) ∙ map-append (λ (reading : StripeReading). reading.stripe) (filter V (take n readings)) (filter V more) in
      subst (λ (rs : List StripeReading). Contains (verified_stripes start rs) stripe) parts
      (subst (λ (ns : List ℕ). Contains ns stripe) (sym split) (contains_left (verified_stripes start (take n readings)) (verified_stripes start more) stripe has))

  -- ---- what stands, and the two full syncs

  module _ (all : All (IsVerifiedBy start trees) (pending_stripes start.infos)) (files mid one other : Files) (snapshot : Closed) (is_changed : ℕ → ℕ → Bool) (sound : Sound start files snapshot is_changed)
      (now again : ℕ) (table other_table : TableValue) (full : IsFullSync setup old trees now files table one) where
    whole : IsPartSync start trees (pending_stripes start.infos) now files table one
    whole = subst (λ (t : TableValue). IsPartSync t trees (pending_stripes t.infos) now files table one) (sym laid_start) full

    -- a table that was saved
    saved_ends : (n k : ℕ) → n ≤ k → k ≤ length readings → HoldsRows start.shape.levels start.shape.block_size (rows_after plan readings k) mid → KeepsSynced start files mid
        → IsValid (table_after plan readings n) → IsFullSync setup (table_after plan readings n) trees again mid other_table other → EndsAs start is_changed table other_table one other
    saved_ends n k order within holds keeps valid rest_full =
        let n_in : n ≤ length readings = omega (arith, order, within) in
        let rest : IsPartSync (table_after plan readings n) trees (pending_stripes (table_after plan readings n).infos) again mid other_table other =
        subst (λ (t : TableValue). IsPartSync t trees (pending_stripes t.infos) again mid other_table other) (laid_after n valid) rest_full in
        ends_as finds leaves gives start trees plan.now (take n readings) n (stripes_after n n_in) (again_after n n_in) all files mid one other snapshot is_changed (rows_after plan readings k) holds
        (λ stripe has done. row_after k within all stripe (more_verified n k order stripe
        (subst (λ (ns : List ℕ). Contains ns stripe) (sym (verified_are n n_in)) (contains_kept (λ (s : ℕ). not (is_open n n_in s)) (pending_stripes start.infos) stripe has (ap (λ (b : Bool). not b) done)))))
        keeps sound now again table other_table whole rest

    no_rows_hold : HoldsRows start.shape.levels start.shape.block_size no_rows mid
    no_rows_hold = record { level = λ level stripe row below is. absurd (no_row row is) }
      where
        no_row : (row : Row) → (let none : Option Row = None in none) ≡ Some row → ⊥
        no_row row is = cc

    kept_parity : mid.parities ≡ files.parities → KeepsSynced start files mid
    kept_parity same = record { bytes = λ level i x inside has. subst (λ (parities : List (List ℕ)). HasByte (get_or parities level []) i x) (sym same) has }

    -- the table that was loaded, as it is laid out
    loaded_ends : KeepsSynced start files mid → IsFullSync setup old trees again mid other_table other → EndsAs start is_changed table other_table one other
    loaded_ends keeps rest_full =
        let rest : IsPartSync start trees (pending_stripes start.infos) again mid other_table other =
        subst (λ (t : TableValue). IsPartSync t trees (pending_stripes t.infos) again mid other_table other) (sym laid_start) rest_full in
        ends_as finds leaves gives start trees plan.now [] 0 refl refl all files mid one other snapshot is_changed no_rows no_rows_hold
        (λ stripe has done. absurd (both_ways (is_pending (info_at start.infos stripe).mark) done (passes_among (λ (s : ℕ). is_pending (info_at start.infos s).mark) (range_with_len 0 (length start.infos)) stripe has)))
        keeps sound now again table other_table whole rest

  -- from each moment
  pub resumed : IsOnlyCell → OneTable → (files mid : Files) (snapshot : Closed) (is_changed : ℕ → ℕ → Bool) (now again : ℕ) (found table other_table : TableValue) (one other : Files)
      → StandsOn plan old files → AreSound plan.copies files snapshot is_changed → IsFoundAt plan readings old files mid found → All (IsVerifiedBy start trees) (pending_stripes start.infos)
      → IsFullSync setup old trees now files table one → IsFullSync setup found trees again mid other_table other → EndsAs start is_changed table other_table one other
  resumed only one_table files mid snapshot is_changed now again found table other_table one other stands are at all full rest = by_moment at.moment
    where
      sound : Sound start files snapshot is_changed
      sound = start_sound plan.copies start old files snapshot is_changed stands.keeps stands.valid stands.is_loaded are

      tables : (n : ℕ) → n ≤ length readings → IsValid (table_after plan readings n)
      tables n within = saved_valid finds leaves gives plan readings ahead mids news (mids_are setup old start (readings ++ ahead) olds mids news syncs) syncs.of_lists.reads only stands.laid stands.in_time n within

      is_table : (n : ℕ) → n ≤ length readings → HoldsTable (table_after plan readings n) (content_of mid at.copy) → found ≡ table_after plan readings n
      is_table n within is = one_table found (table_after plan readings n) (content_of mid at.copy) at.valid (tables n within) at.spells is

      saved : (n k : ℕ) → n ≤ k → k ≤ length readings → HoldsRows start.shape.levels start.shape.block_size (rows_after plan readings k) mid → KeepsSynced start files mid
          → HoldsTable (table_after plan readings n) (content_of mid at.copy) → EndsAs start is_changed table other_table one other
      saved n k order within holds keeps is =
          saved_ends all files mid one other snapshot is_changed sound now again table other_table full n k order within holds keeps (tables n (omega (arith, order, within)))
          (subst (λ (t : TableValue). IsFullSync setup t trees again mid other_table other) (is_table n (omega (arith, order, within)) is) rest)

      by_moment : MayStand plan readings files mid → EndsAs start is_changed table other_table one other
      by_moment (Opening saves) = ⊎_elim
          (λ same. loaded_ends all files mid one other snapshot is_changed sound now again table other_table full
          (kept_parity all files mid one other snapshot is_changed sound now again table other_table full saves.parities)
          (subst (λ (t : TableValue). IsFullSync setup t trees again mid other_table other) (at.as_loaded (sym same ∙ at.spells)) rest))
          (λ laid. saved 0 0 (omega arith) (omega arith) (no_rows_hold all files mid one other snapshot is_changed sound now again table other_table full)
          (kept_parity all files mid one other snapshot is_changed sound now again table other_table full saves.parities) laid)
          (saves.contents at.copy)
      by_moment (AtWork c k work) = ⊎_elim
          (λ first. saved c k work.order work.within work.rows work.kept first)
          (λ second. saved k k (omega arith) work.within work.rows work.kept second)
          (work.copies at.copy at.within)

  -- from each moment, by the table that was loaded: as if none had been found
  pub again_from : (files mid : Files) (snapshot : Closed) (is_changed : ℕ → ℕ → Bool) (now again : ℕ) (table other_table : TableValue) (one other : Files)
      → StandsOn plan old files → AreSound plan.copies files snapshot is_changed → MayStand plan readings files mid → All (IsVerifiedBy start trees) (pending_stripes start.infos)
      → IsFullSync setup old trees now files table one → IsFullSync setup old trees again mid other_table other → EndsAs start is_changed table other_table one other
  again_from files mid snapshot is_changed now again table other_table one other stands are moment all full rest = by_moment moment
    where
      sound : Sound start files snapshot is_changed
      sound = start_sound plan.copies start old files snapshot is_changed stands.keeps stands.valid stands.is_loaded are

      by_moment : MayStand plan readings files mid → EndsAs start is_changed table other_table one other
      by_moment (Opening saves) = loaded_ends all files mid one other snapshot is_changed sound now again table other_table full
          (kept_parity all files mid one other snapshot is_changed sound now again table other_table full saves.parities) rest
      by_moment (AtWork c k work) = loaded_ends all files mid one other snapshot is_changed sound now again table other_table full work.kept rest

  -- ---- what is found verifies as much

  verified_after : (count : ℕ) → count ≤ length readings → All (IsVerifiedBy start trees) (pending_stripes start.infos)
      → All (IsVerifiedBy (table_after plan readings count) trees) (pending_stripes (table_after plan readings count).infos)
  verified_after count within all =
      let left : TableValue = table_after plan readings count in
      let first : List StripeReading = take count readings in
      subst (All (IsVerifiedBy left trees)) (sym (open_are count within))
      (kept_pass (is_open count within) (IsVerifiedBy left trees) (pending_stripes start.infos) (λ k d below passes.
      let stripe : ℕ = get_or (pending_stripes start.infos) k d in
      subst (λ (r : StripeReading). is_verified left r ≡ true)
      (sym (left_reading finds start trees leaves gives plan.now first count (stripes_after count within) (again_after count within) all stripe passes))
      (left_verified finds start trees leaves gives plan.now first count (stripes_after count within) (again_after count within) all stripe passes (all k d below))))

  verified_laid : (count : ℕ) → count ≤ length readings → IsValid (table_after plan readings count) → All (IsVerifiedBy start trees) (pending_stripes start.infos)
      → All (IsVerifiedBy (layout_by setup (table_after plan readings count) trees) trees) (pending_stripes (layout_by setup (table_after plan readings count) trees).infos)
  verified_laid count within valid all =
      subst (λ (t : TableValue). All (IsVerifiedBy t trees) (pending_stripes t.infos)) (sym (laid_after count valid)) (verified_after count within all)

  -- the trees verify all that is pending in the layout of a table
  abbrev VerifiesLayout : TableValue → Type 0
  VerifiesLayout table = All (IsVerifiedBy (layout_by setup table trees) trees) (pending_stripes (layout_by setup table trees).infos)

  pub verified_found : IsOnlyCell → OneTable → (files mid : Files) (found : TableValue)
      → StandsOn plan old files → IsFoundAt plan readings old files mid found → All (IsVerifiedBy start trees) (pending_stripes start.infos)
      → All (IsVerifiedBy (layout_by setup found trees) trees) (pending_stripes (layout_by setup found trees).infos)
  verified_found only one_table files mid found stands at all = by_moment at.moment
    where
      tables : (n : ℕ) → n ≤ length readings → IsValid (table_after plan readings n)
      tables n within = saved_valid finds leaves gives plan readings ahead mids news (mids_are setup old start (readings ++ ahead) olds mids news syncs) syncs.of_lists.reads only stands.laid stands.in_time n within

      saved : (n : ℕ) → n ≤ length readings → HoldsTable (table_after plan readings n) (content_of mid at.copy) → VerifiesLayout found
      saved n within is =
          subst VerifiesLayout (sym (one_table found (table_after plan readings n) (content_of mid at.copy) at.valid (tables n within) at.spells is)) (verified_laid n within (tables n within) all)

      by_moment : MayStand plan readings files mid → VerifiesLayout found
      by_moment (Opening saves) = ⊎_elim
          (λ same. subst VerifiesLayout (sym (at.as_loaded (sym same ∙ at.spells))) (subst (λ (t : TableValue). All (IsVerifiedBy t trees) (pending_stripes t.infos)) laid_start all))
          (λ laid. saved 0 (omega arith) laid)
          (saves.contents at.copy)
      by_moment (AtWork c k work) = ⊎_elim
          (λ first. saved c (omega (arith, work.order, work.within)) first)
          (λ second. saved k work.within second)
          (work.copies at.copy at.within)
