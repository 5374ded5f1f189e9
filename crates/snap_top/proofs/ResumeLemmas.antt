-- Syncs that are stopped one after another: the full sync of what the last of them left ends as that of what there was before the first.
use Rattle.std.proofs.Common.{◌≡◌, ◌⊎◌, inl, inr, ⊎_elim, ℕ, ◌*◌, ◌+◌, ◌^◌, ◌<◌, ◌≤◌, List, [], ◌∷◌, ◌++◌, length, Bool, false, None, Some, refl, sym, ap, ◌∙◌, subst, arith}
use Rattle.std.specs.List.{All, slice_index}
use Rattle.std.proofs.lemmas.Bool.{cases_lt}
use Rattle.std.proofs.lemmas.List.{length-map}
use Rattle.array_scan.specs.Layout.{pending_stripes}
use Rattle.content_file.specs.Spelling.{IsContent, spelling}
use Rattle.content_file.proofs.SaveLemmas.{saves_nothing}
use Rattle.disk_model.specs.Files.{Files, content_of, parity_of}
use Rattle.disk_model.specs.Folder.{FolderView}
use Rattle.disk_model.specs.Tree.{Tree}
use Rattle.file_table.specs.Table.{TableValue}
use Rattle.file_table.specs.Valid.{IsValid}
use Rattle.file_table.specs.declared.shape.Shape.{Shape}
use Rattle.parity_writer.specs.Parity.{Rows}
use Rattle.array_setup.specs.Setup.{SetupValue}
use Rattle.snap_sync.specs.Calls.{SyncPlan}
use Rattle.snap_sync.specs.Images.{MayStand, Opening, AtWork, rows_after, table_after}
use Rattle.snap_sync.specs.Part.{AllTell, IsFullSync, IsToldRun, IsVerifiedBy, SyncRun, TreesVerifyAll, layout_by, run_trees, without_check}
use Rattle.stripe_findings.specs.Reading.{StripeReading}
use Rattle.snap_sync.specs.Reading.{ReadsFirst}
use Rattle.snap_sync.specs.Resumed.{EndsAs, IsFoundAt}
use Rattle.snap_sync.specs.Soundness.{AreSound, AreSoundAfter, StandsOn, changed_without, snapshot_with}
use Rattle.snap_top.specs.Array.{empty_table}
use Rattle.snap_top.specs.Sync.{BeginsFrom, HasNoCopy, IsFirstContent}
use Rattle.snap_top.specs.Resumed.{AreStopped, IsOfArray, Stop, SyncsFrom}
use Rattle.snap_top.proofs.MomentLemmas.{LayoutIsOfTrees}
use Rattle.snap_top.proofs.SyncedLemmas.{MomentsAreSound, OneTable}
use Rattle.parity_writer.specs.Sound.{Closed}
use Rattle.snap_top.proofs.UnchangedLemmas.{unchanged_without}

-- ---- what the crates below say

abbrev pub SavesValid : Type 0
SavesValid = (plan : SyncPlan) (readings ahead : List StripeReading) (olds news : List FolderView) (count : ℕ) → length olds ≡ length plan.start.columns
    → ReadsFirst plan.start (readings ++ ahead) olds news → IsValid plan.start → plan.now < 2 ^ 64 → count ≤ length readings → IsValid (table_after plan readings count)

abbrev pub ThereIsAFullSync : Type 0
ThereIsAFullSync = (setup : SetupValue) (old_table : TableValue) (trees : List Tree) (now : ℕ) (files : Files) →
    (let start = layout_by setup old_table trees in
    0 < start.shape.block_size → All (IsVerifiedBy start trees) (pending_stripes start.infos) → (table : TableValue) × (new : Files) × IsFullSync setup old_table trees now files table new)

abbrev pub FullKeepsShape : Type 0
FullKeepsShape = (setup : SetupValue) (old_table : TableValue) (trees : List Tree) (now : ℕ) (table : TableValue) (files new : Files) → IsFullSync setup old_table trees now files table new →
    (let start = layout_by setup old_table trees in (table.shape ≡ start.shape) × (length table.infos ≡ length start.infos))

abbrev pub FoundIsResumed : Type 0
FoundIsResumed = (run : SyncRun) (files left : Files) (snapshot : Closed) (is_changed : ℕ → ℕ → Bool) (now again : ℕ) (found table other_table : TableValue) (one other : Files)
    → IsToldRun run → StandsOn run.plan run.loaded files → AreSound run.plan.copies files snapshot is_changed → IsFoundAt run.plan run.readings run.loaded files left found → TreesVerifyAll run
    → IsFullSync run.setup run.loaded (run_trees run) now files table one → IsFullSync run.setup found (run_trees run) again left other_table other
    → EndsAs run.plan.start is_changed table other_table one other

abbrev pub LoadedIsResumed : Type 0
LoadedIsResumed = (run : SyncRun) (files left : Files) (snapshot : Closed) (is_changed : ℕ → ℕ → Bool) (now again : ℕ) (table other_table : TableValue) (one other : Files)
    → IsToldRun run → StandsOn run.plan run.loaded files → AreSound run.plan.copies files snapshot is_changed → MayStand run.plan run.readings files left → TreesVerifyAll run
    → IsFullSync run.setup run.loaded (run_trees run) now files table one → IsFullSync run.setup run.loaded (run_trees run) again left other_table other
    → EndsAs run.plan.start is_changed table other_table one other

abbrev pub FoundIsVerified : Type 0
FoundIsVerified = (run : SyncRun) (files left : Files) (found : TableValue) → IsToldRun run → StandsOn run.plan run.loaded files → IsFoundAt run.plan run.readings run.loaded files left found → TreesVerifyAll run
    → (let start = layout_by run.setup found (run_trees run) in All (IsVerifiedBy start (run_trees run)) (pending_stripes start.infos))

-- ---- one end after another

module _ (start next : TableValue) (shape : next.shape ≡ start.shape) (long : length next.infos ≡ length start.infos) (is_changed less_changed : ℕ → ℕ → Bool)
    (less : (stripe level : ℕ) → is_changed stripe level ≡ false → less_changed stripe level ≡ false) (table mid_table end_table : TableValue) (one mid other : Files) where
  pub ends_then : EndsAs start is_changed table mid_table one mid → EndsAs next less_changed mid_table end_table mid other → EndsAs start is_changed table end_table one other
  ends_then first second = record {
    table_is = second.table_is ∙ first.table_is;
    parity = record {
      lengths = λ level below. first.parity.lengths level below ∙ second.parity.lengths level (subst (λ (s : Shape). level < s.levels) (sym shape) below);
      bytes = λ level stripe i below within inside unchanged.
          first.parity.bytes level stripe i below within inside unchanged
          ∙ subst (λ (n : ℕ). slice_index (parity_of mid level) (stripe * n + i) ≡ slice_index (parity_of other level) (stripe * n + i)) (ap (λ (s : Shape). s.block_size) shape)
          (second.parity.bytes level stripe i (subst (λ (s : Shape). level < s.levels) (sym shape) below) (omega (arith, within, long))
          (subst (λ (s : Shape). i < s.block_size) (sym shape) inside) (less stripe level unchanged));
    };
  }

-- an end, by another table of the same shape with as many stripes
module _ (start next : TableValue) (shape : start.shape ≡ next.shape) (long : length start.infos ≡ length next.infos) (is_changed : ℕ → ℕ → Bool) (table end_table : TableValue) (one other : Files) where
  pub by_shape : EndsAs start is_changed table end_table one other → EndsAs next is_changed table end_table one other
  by_shape ends = record {
    table_is = ends.table_is;
    parity = record {
      lengths = λ level below. ends.parity.lengths level (subst (λ (s : Shape). level < s.levels) (sym shape) below);
      bytes = λ level stripe i below within inside unchanged.
          subst (λ (n : ℕ). slice_index (parity_of one level) (stripe * n + i) ≡ slice_index (parity_of other level) (stripe * n + i)) (ap (λ (s : Shape). s.block_size) shape)
          (ends.parity.bytes level stripe i (subst (λ (s : Shape). level < s.levels) (sym shape) below) (omega (arith, within, long))
          (subst (λ (s : Shape). i < s.block_size) (sym shape) inside) unchanged);
    };
  }

-- ---- which table a sync begins with

module _ (one_table : OneTable) where
  is_content : (table : TableValue) → IsValid table → IsContent (spelling table)
  is_content table valid = record { table = table; valid = valid; spelled = refl }

  first_same : (copies : ℕ) (files : Files) (a b : TableValue) → IsFirstContent copies files a → IsFirstContent copies files b → a ≡ b
  first_same copies files a b one other = ⊎_elim
      (λ before. absurd (other.first one.copy before (spelling a) one.spells (is_content a one.valid)))
      (λ least. ⊎_elim
      (λ before. absurd (one.first other.copy before (spelling b) other.spells (is_content b other.valid)))
      (λ most. let same : other.copy ≡ one.copy = omega (arith, least, most) in
      one_table a b (content_of files one.copy) one.valid other.valid one.spells (subst (λ (k : ℕ). content_of files k ≡ Some (spelling b)) same other.spells))
      (cases_lt other.copy one.copy))
      (cases_lt one.copy other.copy)

  no_copy_first : (copies : ℕ) (files : Files) (table : TableValue) → HasNoCopy copies files → IsFirstContent copies files table → ⊥
  no_copy_first copies files table none first = let clash : None ≡ Some (spelling table) = sym (none first.copy first.within) ∙ first.spells in cc

  -- the files determine it
  pub begins_same : (setup : SetupValue) (seed : List ℕ) (copies : ℕ) (files : Files) (a b : TableValue) → BeginsFrom setup seed copies files a → BeginsFrom setup seed copies files b → a ≡ b
  begins_same setup seed copies files a b (inl one) (inl other) = first_same copies files a b one other
  begins_same setup seed copies files a b (inl one) (inr other) = absurd (no_copy_first copies files a other.0 one)
  begins_same setup seed copies files a b (inr one) (inl other) = absurd (no_copy_first copies files b one.0 other)
  begins_same setup seed copies files a b (inr one) (inr other) = one.1 ∙ sym other.1

-- ---- from one stop to the next sync

module _ (one_table : OneTable) (saves : SavesValid) (seed : List ℕ) (copies : ℕ) (files mid : Files) (run : SyncRun) (syncs : SyncsFrom seed copies files run)
    (moment : MayStand run.plan run.readings files mid) where
  tables : (n : ℕ) → n ≤ length run.readings → IsValid (table_after run.plan run.readings n)
  tables n within =
      let over = syncs.over in
      saves run.plan run.readings run.ahead run.listed run.ended n (over.listed.as_many ∙ over.listed.folders ∙ sym over.stands.keeps.columns) over.listed.reads over.stands.laid over.stands.in_time within

  -- a copy is as it was, or a content file
  abbrev HoldsContent : ℕ → Type 0
  HoldsContent copy = (table : TableValue) × IsValid table × (content_of mid copy ≡ Some (spelling table))

  copy_at : (copy : ℕ) → copy < copies → (content_of mid copy ≡ content_of files copy) ⊎ HoldsContent copy
  copy_at copy below = by moment
    where
      saved : (n : ℕ) → n ≤ length run.readings → content_of mid copy ≡ Some (spelling (table_after run.plan run.readings n)) → (content_of mid copy ≡ content_of files copy) ⊎ HoldsContent copy
      saved n within is = inr (table_after run.plan run.readings n, tables n within, is)

      by : MayStand run.plan run.readings files mid → (content_of mid copy ≡ content_of files copy) ⊎ HoldsContent copy
      by (Opening saving) = ⊎_elim (λ same. inl same) (λ start. inr (run.plan.start, syncs.over.stands.laid, start)) (saving.contents copy)
      by (AtWork c k work) = ⊎_elim
          (λ is. saved c (omega (arith, work.order, work.within)) is)
          (λ is. saved k work.within is)
          (work.copies copy (subst (λ (n : ℕ). copy < n) (sym syncs.over.copies_are) below))

  -- what was a content file is one
  stays_content : (copy : ℕ) (table : TableValue) → copy < copies → IsValid table → content_of files copy ≡ Some (spelling table) → HoldsContent copy
  stays_content copy table below valid is = ⊎_elim (λ same. (table, valid, same ∙ is)) (λ now. now) (copy_at copy below)

  module _ (next : SyncRun) (later : SyncsFrom seed copies mid next) (setup_is : next.setup ≡ run.setup) where
    -- from a copy: where that is as it was, the table is the one that was loaded
    as_loaded : (first : IsFirstContent copies mid next.loaded) → content_of files first.copy ≡ Some (spelling next.loaded) → next.loaded ≡ run.loaded
    as_loaded first was = by syncs.begins
      where
        by : BeginsFrom run.setup seed copies files run.loaded → next.loaded ≡ run.loaded
        by (inl found) = ⊎_elim
            (λ before. let stays = stays_content found.copy run.loaded found.within found.valid found.spells in
            absurd (first.first found.copy before (spelling stays.0) stays.2 (is_content one_table stays.0 stays.1)))
            (λ least. ⊎_elim
            (λ before. absurd (found.first first.copy before (spelling next.loaded) was (is_content one_table next.loaded first.valid)))
            (λ most. let same : first.copy ≡ found.copy = omega (arith, least, most) in
            one_table next.loaded run.loaded (content_of files found.copy) first.valid found.valid (subst (λ (k : ℕ). content_of files k ≡ Some (spelling next.loaded)) same was) found.spells)
            (cases_lt first.copy found.copy))
            (cases_lt found.copy first.copy)
        by (inr none) = absurd (let clash : None ≡ Some (spelling next.loaded) = sym (none.0 first.copy first.within) ∙ was in cc)

    -- there is no copy: none was saved
    none_saved : HasNoCopy copies mid → next.loaded ≡ empty_table next.setup seed → next.loaded ≡ run.loaded
    none_saved no_copy empty = by syncs.begins
      where
        by : BeginsFrom run.setup seed copies files run.loaded → next.loaded ≡ run.loaded
        by (inl found) =
            let stays = stays_content found.copy run.loaded found.within found.valid found.spells in
            absurd (let clash : None ≡ Some (spelling stays.0) = sym (no_copy found.copy found.within) ∙ stays.2 in cc)
        by (inr none) = empty ∙ ap (λ (s : SetupValue). empty_table s seed) setup_is ∙ sym none.1

    pub next_found : (next.loaded ≡ run.loaded) ⊎ IsFoundAt run.plan run.readings run.loaded files mid next.loaded
    next_found = ⊎_elim
        (λ first. inr (record {
          moment = moment;
          valid = first.valid;
          copy = first.copy;
          within = subst (λ (n : ℕ). first.copy < n) (sym syncs.over.copies_are) first.within;
          spells = first.spells;
          as_loaded = as_loaded first;
        }))
        (λ none. inl (none_saved none.0 none.1))
        later.begins

-- ---- one stop

module _ (one_table : OneTable) (laid : LayoutIsOfTrees) (saves : SavesValid) (moments : MomentsAreSound) (there_is : ThereIsAFullSync) (shape : FullKeepsShape) (found_resumed : FoundIsResumed) (loaded_resumed : LoadedIsResumed)
    (found_verified : FoundIsVerified) (seed : List ℕ) (copies : ℕ) where
  -- the trees of a sync whose layout has a full sync verify all
  verify_all : (run : SyncRun) → IsToldRun run → (now : ℕ) (files : Files) (table : TableValue) (one : Files) → IsFullSync run.setup run.loaded (run_trees run) now files table one → TreesVerifyAll run
  verify_all run told now files table one full =
      subst (λ (start : TableValue). All (IsVerifiedBy start (run_trees run)) (pending_stripes start.infos)) (sym (laid run told)) full.of_table.verified

  module _ (run next : SyncRun) (files mid : Files) (syncs : SyncsFrom seed copies files run) (moment : MayStand run.plan run.readings files mid) (later : SyncsFrom seed copies mid next)
      (visible : AllTell run.folders) (next_visible : AllTell next.folders) (setup_is : next.setup ≡ run.setup) (trees_are : run_trees next ≡ run_trees run) (snapshot : Closed) (is_changed : ℕ → ℕ → Bool) (are : AreSound copies files snapshot is_changed)
      (now : ℕ) (table : TableValue) (one : Files) (full : IsFullSync run.setup run.loaded (run_trees run) now files table one) where
    abbrev told : IsToldRun run
    told = record { told = visible; of_lists = syncs.over.listed }

    abbrev are_here : AreSound run.plan.copies files snapshot is_changed
    are_here = subst (λ (n : ℕ). AreSound n files snapshot is_changed) (sym syncs.over.copies_are) are

    abbrev found : (next.loaded ≡ run.loaded) ⊎ IsFoundAt run.plan run.readings run.loaded files mid next.loaded
    found = next_found one_table saves seed copies files mid run syncs moment next later setup_is

    all : TreesVerifyAll run
    all = verify_all run told now files table one full

    -- the layout of the next one
    next_start : next.plan.start ≡ layout_by run.setup next.loaded (run_trees run)
    next_start = laid next (record { told = next_visible; of_lists = later.over.listed })
        ∙ ap (λ (s : SetupValue). layout_by s next.loaded (run_trees next)) setup_is ∙ ap (layout_by run.setup next.loaded) trees_are

    next_verified : All (IsVerifiedBy (layout_by run.setup next.loaded (run_trees run)) (run_trees run)) (pending_stripes (layout_by run.setup next.loaded (run_trees run)).infos)
    next_verified = ⊎_elim
        (λ same. subst (λ (t : TableValue). All (IsVerifiedBy (layout_by run.setup t (run_trees run)) (run_trees run)) (pending_stripes (layout_by run.setup t (run_trees run)).infos)) (sym same) full.of_table.verified)
        (λ at. found_verified run files mid next.loaded told syncs.over.stands at all)
        found

    some_bytes : 0 < (layout_by run.setup next.loaded (run_trees run)).shape.block_size
    some_bytes =
        let least = later.over.stands.laid.shape.block_size.least in
        subst (λ (start : TableValue). 0 < start.shape.block_size) next_start (omega (arith, least))

    -- its full sync ends as that of the first
    next_ends : (again : ℕ) (other_table : TableValue) (other : Files) → IsFullSync run.setup next.loaded (run_trees run) again mid other_table other → EndsAs run.plan.start is_changed table other_table one other
    next_ends again other_table other rest = ⊎_elim
        (λ same. loaded_resumed run files mid snapshot is_changed now again table other_table one other told syncs.over.stands are_here moment all full
        (subst (λ (t : TableValue). IsFullSync run.setup t (run_trees run) again mid other_table other) same rest))
        (λ at. found_resumed run files mid snapshot is_changed now again next.loaded table other_table one other told syncs.over.stands are_here at all full rest)
        found

    -- and so does all that ends as its own
    pub step : (end_table : TableValue) (end : Files)
        → ((now_sound : Closed) (now_changed : ℕ → ℕ → Bool) (mid_table : TableValue) (mid_full : Files) → AreSound copies mid now_sound now_changed
        → IsFullSync run.setup next.loaded (run_trees run) 0 mid mid_table mid_full → EndsAs (layout_by run.setup next.loaded (run_trees run)) now_changed mid_table end_table mid_full end)
        → EndsAs run.plan.start is_changed table end_table one end
    step end_table end rest =
        let over = syncs.over in
        let long : length run.listed ≡ length run.plan.start.columns = over.listed.as_many ∙ over.listed.folders ∙ sym over.stands.keeps.columns in
        let after : AreSoundAfter run.plan run.readings mid snapshot is_changed
        = moments run.plan run.loaded run.readings run.ahead run.listed run.ended files mid snapshot is_changed long over.listed.reads over.stands are_here moment in
        let rows : Rows = rows_after run.plan run.readings after.count in
        let still_sound : Closed = snapshot_with rows snapshot in
        let still_changed : ℕ → ℕ → Bool = changed_without run.plan.start.shape.levels rows is_changed in
        let there = there_is run.setup next.loaded (run_trees run) 0 mid some_bytes next_verified in
        let first = next_ends 0 there.0 there.1 there.2 in
        let here = shape run.setup run.loaded (run_trees run) now table files one full in
        let beyond = shape run.setup next.loaded (run_trees run) 0 there.0 mid there.1 there.2 in
        let start : TableValue = layout_by run.setup run.loaded (run_trees run) in
        let next_layout : TableValue = layout_by run.setup next.loaded (run_trees run) in
        let shapes : next_layout.shape ≡ start.shape = sym beyond.0 ∙ ap (λ (t : TableValue). t.shape) first.table_is ∙ here.0 in
        let longs : length next_layout.infos ≡ length start.infos
        = sym beyond.1 ∙ sym (length-map there.0.infos without_check) ∙ ap (λ (t : TableValue). length t.infos) first.table_is ∙ length-map table.infos without_check ∙ here.1 in
        subst (λ (t : TableValue). EndsAs t is_changed table end_table one end) (sym (laid run told))
        (ends_then start next_layout shapes longs is_changed still_changed (λ stripe level. unchanged_without run.plan.start.shape.levels rows is_changed stripe level) table there.0 end_table one there.1 end
        (subst (λ (t : TableValue). EndsAs t is_changed table there.0 one there.1) (laid run told) first)
        (rest still_sound still_changed there.0 there.1 (subst (λ (n : ℕ). AreSound n mid still_sound still_changed) over.copies_are after.sound) there.2))

  -- ---- all stops

  module _ (setup : SetupValue) (trees : List Tree) where
    -- the sync that comes next: of the first stop, or the last one
    next_run : (stops : List Stop) (files left : Files) (last : SyncRun) → AreStopped setup trees seed copies stops files left → SyncsFrom seed copies left last → IsOfArray setup trees last
        → (next : SyncRun) × SyncsFrom seed copies files next × IsOfArray setup trees next
    next_run [] files left last stopped syncs of_array = (last, subst (λ (fs : Files). SyncsFrom seed copies fs last) stopped syncs, of_array)
    next_run (stop ∷ stops) files left last stopped syncs of_array = (stop.run, stopped.0.syncs, stopped.0.of_array)

    -- a full sync by the setup and over the trees of a run
    of_run : (run : SyncRun) → IsOfArray setup trees run → (table : TableValue) (now : ℕ) (old : Files) (full_table : TableValue) (new : Files) → IsFullSync setup table trees now old full_table new
        → IsFullSync run.setup table (run_trees run) now old full_table new
    of_run run of_array table now old full_table new full =
        subst (λ (s : SetupValue). IsFullSync s table (run_trees run) now old full_table new) (sym of_array.setup_is)
        (subst (λ (ts : List Tree). IsFullSync setup table ts now old full_table new) (sym of_array.trees_are) full)

    resumed_by : (stops : List Stop) (files left : Files) (whole last : SyncRun) (snapshot : Closed) (is_changed : ℕ → ℕ → Bool) (now again : ℕ) (table other_table : TableValue) (one other : Files)
        → SyncsFrom seed copies files whole → IsOfArray setup trees whole → AreSound copies files snapshot is_changed → AreStopped setup trees seed copies stops files left
        → SyncsFrom seed copies left last → IsOfArray setup trees last → IsFullSync setup whole.loaded trees now files table one → IsFullSync setup last.loaded trees again left other_table other
        → EndsAs whole.plan.start is_changed table other_table one other
    resumed_by [] files left whole last snapshot is_changed now again table other_table one other syncs of_array are stopped later last_of_array full rest =
        let told : IsToldRun whole = record { told = of_array.told; of_lists = syncs.over.listed } in
        let full_here = of_run whole of_array whole.loaded now files table one full in
        let begins : BeginsFrom whole.setup seed copies files last.loaded
        = subst (λ (s : SetupValue). BeginsFrom s seed copies files last.loaded) (last_of_array.setup_is ∙ sym of_array.setup_is)
        (subst (λ (fs : Files). BeginsFrom last.setup seed copies fs last.loaded) stopped later.begins) in
        let same : last.loaded ≡ whole.loaded = begins_same one_table whole.setup seed copies files last.loaded whole.loaded begins syncs.begins in
        let rest_here = of_run whole of_array whole.loaded again files other_table other
        (subst (λ (t : TableValue). IsFullSync setup t trees again files other_table other) same (subst (λ (fs : Files). IsFullSync setup last.loaded trees again fs other_table other) stopped rest)) in
        loaded_resumed whole files files snapshot is_changed now again table other_table one other told syncs.over.stands
        (subst (λ (n : ℕ). AreSound n files snapshot is_changed) (sym syncs.over.copies_are) are) (Opening (saves_nothing (spelling whole.plan.start) files))
        (verify_all whole told now files table one full_here) full_here rest_here
    resumed_by (stop ∷ stops) files left whole last snapshot is_changed now again table other_table one other syncs of_array are stopped later last_of_array full rest =
        let run : SyncRun = stop.run in
        let here = stopped.0 in
        let told : IsToldRun run = record { told = here.of_array.told; of_lists = here.syncs.over.listed } in
        let whole_told : IsToldRun whole = record { told = of_array.told; of_lists = syncs.over.listed } in
        let setups : whole.setup ≡ run.setup = of_array.setup_is ∙ sym here.of_array.setup_is in
        let trees_same : run_trees whole ≡ run_trees run = of_array.trees_are ∙ sym here.of_array.trees_are in
        let same : whole.loaded ≡ run.loaded = begins_same one_table run.setup seed copies files whole.loaded run.loaded
        (subst (λ (s : SetupValue). BeginsFrom s seed copies files whole.loaded) setups syncs.begins) here.syncs.begins in
        let starts : whole.plan.start ≡ run.plan.start = laid whole whole_told ∙ ap (λ (s : SetupValue). layout_by s whole.loaded (run_trees whole)) setups
        ∙ ap (λ (t : TableValue). layout_by run.setup t (run_trees whole)) same ∙ ap (layout_by run.setup run.loaded) trees_same ∙ sym (laid run told) in
        let full_here : IsFullSync run.setup run.loaded (run_trees run) now files table one
        = subst (λ (t : TableValue). IsFullSync run.setup t (run_trees run) now files table one) same (of_run run here.of_array whole.loaded now files table one full) in
        let next = next_run stops stop.left left last stopped.1 later last_of_array in
        let to_setup : next.0.setup ≡ run.setup = next.2.setup_is ∙ sym here.of_array.setup_is in
        let to_trees : run_trees next.0 ≡ run_trees run = next.2.trees_are ∙ sym here.of_array.trees_are in
        subst (λ (t : TableValue). EndsAs t is_changed table other_table one other) (sym starts)
        (step run next.0 files stop.left here.syncs here.moment next.1 here.of_array.told next.2.told to_setup to_trees snapshot is_changed are now table one full_here other_table other
        (λ now_sound now_changed mid_table mid_full sound mid_is.
        let mid_of : IsFullSync setup next.0.loaded trees 0 stop.left mid_table mid_full
        = subst (λ (s : SetupValue). IsFullSync s next.0.loaded trees 0 stop.left mid_table mid_full) here.of_array.setup_is
        (subst (λ (ts : List Tree). IsFullSync run.setup next.0.loaded ts 0 stop.left mid_table mid_full) here.of_array.trees_are mid_is) in
        subst (λ (t : TableValue). EndsAs t now_changed mid_table other_table mid_full other)
        (laid next.0 (record { told = next.2.told; of_lists = next.1.over.listed }) ∙ ap (λ (s : SetupValue). layout_by s next.0.loaded (run_trees next.0)) to_setup
        ∙ ap (layout_by run.setup next.0.loaded) to_trees)
        (resumed_by stops stop.left left next.0 last now_sound now_changed 0 again mid_table other_table mid_full other next.1 next.2 sound stopped.1 later last_of_array mid_of rest)))

pub resumed_after : OneTable → LayoutIsOfTrees → SavesValid → MomentsAreSound → ThereIsAFullSync → FullKeepsShape → FoundIsResumed → LoadedIsResumed → FoundIsVerified
    → (setup : SetupValue) (trees : List Tree) (seed : List ℕ) (copies : ℕ) (stops : List Stop) (files left : Files) (whole last : SyncRun) (snapshot : Closed) (is_changed : ℕ → ℕ → Bool) (now again : ℕ)
    (table other_table : TableValue) (one other : Files) → SyncsFrom seed copies files whole → IsOfArray setup trees whole → AreSound copies files snapshot is_changed
    → AreStopped setup trees seed copies stops files left → SyncsFrom seed copies left last → IsOfArray setup trees last → IsFullSync setup whole.loaded trees now files table one
    → IsFullSync setup last.loaded trees again left other_table other → EndsAs whole.plan.start is_changed table other_table one other
resumed_after one_table laid saves moments there_is shape found_resumed loaded_resumed found_verified setup trees seed copies stops files left whole last snapshot is_changed now again table other_table one other
    syncs of_array are stopped later last_of_array full rest =
    resumed_by one_table laid saves moments there_is shape found_resumed loaded_resumed found_verified seed copies setup trees stops files left whole last snapshot is_changed now again table other_table one other
    syncs of_array are stopped later last_of_array full rest
