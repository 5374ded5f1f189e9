-- A fix that printed that it fixed one block: that block was in reach, and enough of its stripe's levels were undamaged.
use Rattle.std.proofs.Common.{◌≡◌, inl, inr, ℕ, ◌+◌, ◌*◌, ◌<◌, ◌≤◌, ◌==◌, ◌&&◌, List, [], ◌∷◌, ◌++◌, length, get_or, not, Bool, true, false, if◌then◌else◌, Option, None, Some, is_some, Ok, IsTrue, refl, sym, ap, ◌∙◌, subst, arith, append-nil}
use Rattle.std.specs.Prelude.{count_by, sum_by}
use Rattle.std.specs.List.{Contains, filter, range_with_len}
use Rattle.std.proofs.lemmas.Bool.{and_parts}
use Rattle.std.proofs.lemmas.List.{get_or_default}
use Rattle.std.proofs.lemmas.List.FromFn.{get_or-range_with_len, length-range_with_len}
use Rattle.std.proofs.lemmas.List.Sums.{count_by-le-length, length-filter}
use Rattle.cauchy.specs.Matrix.{byte_of}
use Rattle.disk_model.specs.Bytes.{read_from}
use Rattle.disk_model.specs.Files.{Files, parity_of}
use Rattle.disk_model.specs.Folder.{FolderView}
use Rattle.disk_model.specs.Opener.{OpenerView}
use Rattle.disk_model.specs.Sink.{SinkView}
use Rattle.disk_model.specs.Vault.{VaultView, copies_of}
use Rattle.file_table.specs.Table.{TableValue}
use Rattle.file_table.specs.declared.block.Cell.{Cell}
use Rattle.parity_writer.specs.LevelReading.{kept_level}
use Rattle.parity_writer.specs.LevelsValue.{LevelValue, no_level}
use Rattle.parity_writer.specs.Sound.{Sound, Closed, last_row}
use Rattle.parity_writer.specs.declared.levels.LevelRead.TheVariants as here
use Rattle.snap_fix.specs.Ending.{Finishes}
use Rattle.snap_fix.specs.Fixing.{facts_of}
use Rattle.snap_fix.specs.Genuine.{IsIntactLevel, IsRestorableStripe, TellsIntactLevels}
use Rattle.snap_fix.specs.Mended.{Mended, answer_of, has_lost, is_blocked_cell, is_repaired, is_written, written_in, wrong_in}
use Rattle.snap_fix.specs.Restored.{CanBeHad, HoldsCell}
use Rattle.snap_report.specs.EndLines.{fix_text}
use Rattle.snap_report.specs.EventLines.{lines_of}
use Rattle.snap_report.specs.Kind.{is_left}
use Rattle.snap_sync.specs.Part.{trees_of}
use Rattle.stripe_examiner.specs.Counts.{at_most}
use Rattle.stripe_examiner.specs.Facts.{StripeFacts, damaged_at, gift_of, is_missing, missing_in}
use Rattle.stripe_examiner.specs.Known.{AreFacts, IsTried, whole_level, whole_levels}
use Rattle.stripe_examiner.specs.Looking.{facts_at, no_facts, unread_in}
use Rattle.repair_scope.specs.Plan.{FixPlan, cell_at, entry_at, has_selected, is_in_scope, is_searched, is_synced, selects_cell}
use Rattle.stripe_examiner.specs.Showing.{known_block, known_by}
use Rattle.stripe_examiner.proofs.ShownLemmas.{known_block_is}
use Rattle.snap_top.specs.Fix.{FixRun}
use Rattle.snap_top.specs.Headline.{FixesToItsEnd, IsSoundStanding}
use Rattle.snap_top.specs.LastSynced.{AreSoundBy, LastSynced, synced_by}
use Rattle.snap_top.specs.Effect.{effect}
use Rattle.snap_top.specs.Began.{IsFixOf}
use Rattle.snap_top.specs.Stands.{TellsAll}
use Rattle.snap_top.specs.Asked.{asked_by}
use Rattle.snap_top.specs.RestoredLast.{IsInReach, IsRestored}
use Rattle.snap_top.specs.Restoring.{EndsFixed, Restores, events_in}
use Rattle.snap_top.specs.RunOf.{RunOf}
use Rattle.snap_top.specs.Entry.{Entry, Exit}
use Rattle.snap_top.specs.Standing.{BeginsOver, Edits, GoesOver, IsHistory, IsOrigin, Runs, Stage, Standing, after_of, before_of, nothing_synced}
use Rattle.snap_top.specs.Undamaged.{HasEnough, IsRecoverable, IsUndamaged, is_read, undamaged_levels, was_read}
use Rattle.snap_top.specs.Views.{folder_at}
use Rattle.snap_top.proofs.HeldLemmas.{levels_given, none_risen}
use Rattle.snap_top.proofs.KeptLemmas.{kept_in, made_in}
use Rattle.snap_top.proofs.OfFixLemmas.{loaded_sound}
use Rattle.snap_top.proofs.ScrubGiven.{one_counted}
use Rattle.snap_top_histories.specs.Lived.{AskForFix, standing_of}
use Rattle.snap_top_histories.specs.Once.{IsLeftOfOne}
use Rattle.snap_top_histories.proofs.OnceLemmas.{MeetsNone}
use Rattle.snap_top_histories.proofs.ResumedLemmas.{HoldsAlways, none_rose, not_risen}
use Rattle.snap_top_restores.specs.Reached.{IsReachedCell, TellsOneFixed}
use Rattle.snap_top_instances.specs.Told.{RunsTold}
use Rattle.snap_top_restores.proofs.FixedLineLemmas.{some_written}
use Rattle.snap_top_instances.proofs.SaidLemmas.{not_set}
use Rattle.snap_top_restores.proofs.CountLemmas.{cell_selected, first_of, passing, second_of, some_counted, some_summed, whole_is_read}
use Rattle.snap_top.proofs.HistoryLemmas.{last_bytes}
use Rattle.snap_top.proofs.UnchangedLemmas.{unchanged_without}

-- ---- what a count has counted

in_range : (n d : ℕ) → Contains (range_with_len 0 n) d → d < n
in_range n d has =
    let within : has.0 < n = omega (arith, has.1, length-range_with_len 0 n) in
    let same : d ≡ 0 + has.0 = sym has.2 ∙ get_or-range_with_len 0 n has.0 d within in
    omega (arith, within, same)

some_in : {X : Type 0} (xs : List X) (x : X) → Contains xs x → 0 < length xs
some_in xs x has = omega (arith, has.1)

-- ---- tests that hold

all_four : (a b c d : Bool) → (a && b && c && d) ≡ true → (a ≡ true) × (b ≡ true) × (c ≡ true) × (d ≡ true)
all_four true true true true is = (refl, refl, refl, refl)
all_four true true true false is = absurd (let clash : false ≡ true = is in cc)
all_four true true false d is = absurd (let clash : false ≡ true = is in cc)
all_four true false c d is = absurd (let clash : false ≡ true = is in cc)
all_four false b c d is = absurd (let clash : false ≡ true = is in cc)

-- a level of which something was read was read
read_some : (level : LevelValue) (size : ℕ) (bytes : List ℕ) → level ≡ kept_level size (Some bytes) → is_read level.state ≡ true
read_some level size bytes is = ap (λ (it : LevelValue). is_read it.state) is ∙ by (length bytes == size)
  where
    by : (b : Bool) → is_read (if b then here.Bytes else here.Short) ≡ true
    by true = refl
    by false = refl

-- ---- a cell that a fix wrote

record WrittenCell (run : FixRun) : Type 0 where
  mended : Mended
  one : Contains run.stripes mended
  d : ℕ
  column : d < length run.plan.table.columns
  is : is_written run.plan mended d ≡ true

module _ (before : Entry) (exit : Exit) (status : ℕ) (tells : TellsAll before) (ends : EndsFixed before exit status) (one_folder : length before.opener.folders ≡ 1) (calm : exit.after.vault.faults ≡ 0)
    (is_changed : ℕ → ℕ → Bool) (unchanged : (stripe level : ℕ) → is_changed stripe level ≡ false) (some : 0 < sum_by (written_in ends.run.plan) ends.run.stripes) where
  abbrev run : FixRun
  run = ends.run

  abbrev plan : FixPlan
  plan = run.plan

  written : WrittenCell run
  written =
      let stripe = some_summed (written_in plan) run.stripes some in
      let column = some_counted (is_written plan stripe.0) (range_with_len 0 (length plan.table.columns)) stripe.2 in
      record { mended = stripe.0; one = stripe.1; d = column.0; column = in_range (length plan.table.columns) column.0 column.1; is = column.2 }

  one_column : length plan.table.columns ≡ 1
  one_column =
      let over = ends.is_fix.over in
      ap (λ (table : TableValue). length table.columns) over.plan_is.table_is ∙ sym over.columns ∙ ap (λ (folders : List FolderView). length folders) ends.is_fix.folders_are ∙ one_folder

  none_unread : unread_in run.readings ≡ 0
  none_unread = none_risen (unread_in run.readings) before.opener.vault.faults exit.after.vault.faults (λ rose. not_risen before.opener.vault.faults exit.after.vault.faults calm rose) ends.unread_levels

  module _ (mended : Mended) (one : Contains run.stripes mended) (d : ℕ) (column : d < length plan.table.columns) (is : is_written plan mended d ≡ true) where
    abbrev facts : StripeFacts
    facts = mended.facts

    is_one : Contains (facts_of run.stripes) facts
    is_one = made_in (λ (it : Mended). it.facts) run.stripes mended one

    are : AreFacts plan facts
    are = subst (AreFacts plan) is_one.2 (ends.is_fix.over.finds.are is_one.0 facts is_one.1)

    tests : (selects_cell plan facts.stripe d ≡ true) × (damaged_at plan facts d ≡ true) × (is_some (known_block plan facts d) ≡ true) × (not (is_blocked_cell plan d (cell_at plan facts.stripe d)) ≡ true)
    tests = all_four (selects_cell plan facts.stripe d) (damaged_at plan facts d) (is_some (known_block plan facts d)) (not (is_blocked_cell plan d (cell_at plan facts.stripe d)))
        (first_of (is_repaired plan facts d) (answer_of mended d) is)

    found : (cell : Cell) × (cell_at plan facts.stripe d ≡ Some cell)
    found = cell_selected plan d (cell_at plan facts.stripe d) (second_of (is_in_scope plan facts.stripe) (has_selected plan d (cell_at plan facts.stripe d)) tests.0)

    no_gift : gift_of facts d ≡ None
    no_gift = subst (λ (it : StripeFacts). (k : ℕ) → gift_of it k ≡ None) is_one.2 (ends.is_fix.over.no_gifts is_one.0 facts is_one.1) d

    pub searched : is_searched plan facts.stripe ≡ true
    searched = by (is_searched plan facts.stripe) refl
      where
        by : (b : Bool) → is_searched plan facts.stripe ≡ b → is_searched plan facts.stripe ≡ true
        by true it = it
        by false it =
            let untried : IsTried plan facts false = subst (IsTried plan facts) it are.tried in
            let unknown : known_block plan facts d ≡ None
            = known_block_is plan facts are d ∙ ap (λ (gift : Option (List ℕ)). known_by true gift facts.row d) no_gift ∙ ap (λ (row : Option (List (List ℕ))). known_by true None row d) untried.2 in
            absurd (let clash : false ≡ true = ap (λ (block : Option (List ℕ)). is_some block) (sym unknown) ∙ tests.2 in cc)

    synced : is_synced plan facts.stripe ≡ true
    synced = (and_parts _ _ searched).0

    pub reached : (cell : Cell) × IsInReach run facts d cell
    reached = (
      found.0,
      record {
        is = record { one = is_one; column = column; cell_is = found.1; selected = tests.0; damaged = tests.1 };
        free = not_set (entry_at plan d found.0.rec).blocked (subst (λ (at : Option Cell). not (is_blocked_cell plan d at) ≡ true) found.1 tests.3);
      },
    )

    some_level : 0 < length facts.levels
    some_level =
        let tried : IsTried plan facts true = subst (IsTried plan facts) searched are.tried in
        let least : 1 ≤ plan.table.shape.levels = subst (λ (table : TableValue). 1 ≤ table.shape.levels) (sym ends.is_fix.over.plan_is.table_is) ends.is_fix.over.valid.shape.levels.least in
        omega (arith, tried.0, least)

    first_read : was_read facts.levels 0 ≡ true
    first_read =
        let all : List StripeFacts = facts_of run.stripes in
        let size : ℕ = plan.table.shape.block_size in
        let v : VaultView = before.opener.vault in
        let k : ℕ = is_one.0 in
        let here_is : facts_at all k ≡ facts = sym (get_or_default all k facts no_facts is_one.1) ∙ is_one.2 in
        let within : 0 < length (facts_at all k).levels = subst (λ (it : StripeFacts). 0 < length it.levels) (sym here_is) some_level in
        let given : get_or (facts_at all k).levels 0 no_level ≡ kept_level size (Some (read_from (parity_of v.files 0) ((facts_at all k).stripe * size) size))
        = levels_given v size tells.tells_vault all run.readings ends.is_fix.over.finds.levels none_unread k 0 is_one.1 within in
        ap (λ (it : StripeFacts). was_read it.levels 0) (sym here_is)
        ∙ read_some (get_or (facts_at all k).levels 0 no_level) size (read_from (parity_of v.files 0) ((facts_at all k).stripe * size) size) given

    pub undamaged : IsUndamaged run is_changed facts 0
    undamaged = record { one = is_one; synced = synced; within = some_level; read = first_read; unchanged = unchanged facts.stripe 0 }

    few : length (missing_in plan facts) ≤ 1
    few =
        let columns : List ℕ = range_with_len 0 (length plan.table.columns) in
        omega (arith, length-filter (is_missing plan facts) columns, count_by-le-length (is_missing plan facts) columns, length-range_with_len 0 (length plan.table.columns), one_column)

    abbrev levels : List ℕ
    levels = range_with_len 0 (length facts.levels)

    first_level : Contains levels 0
    first_level = (0, omega (arith, some_level, length-range_with_len 0 (length facts.levels)), get_or-range_with_len 0 (length facts.levels) 0 0 some_level)

    pub enough : HasEnough run is_changed facts
    enough =
        let read : Contains (filter (was_read facts.levels) levels) 0 = kept_in (was_read facts.levels) levels 0 first_level first_read in
        let kept : Contains (undamaged_levels is_changed facts) 0
        = kept_in (λ (r : ℕ). not (is_changed facts.stripe r)) (filter (was_read facts.levels) levels) 0 read (ap not (unchanged facts.stripe 0)) in
        omega (arith, few, some_in (undamaged_levels is_changed facts) 0 kept)

    -- so is each level that was read whole
    pub whole_undamaged : (k other : ℕ) → k < length (whole_levels facts.levels) → IsUndamaged run is_changed facts (get_or (whole_levels facts.levels) k other)
    whole_undamaged k other within =
        let r : ℕ = get_or (whole_levels facts.levels) k other in
        let its = passing (whole_level facts.levels) (length facts.levels) k other within in
        record { one = is_one; synced = synced; within = its.0; read = whole_is_read (get_or facts.levels r no_level).state its.1; unchanged = unchanged facts.stripe r }

    -- one that is whole is enough, if all of them are intact
    pub restorable : whole_level facts.levels 0 ≡ true → IsRestorableStripe plan facts (λ (r : ℕ). true)
    restorable whole =
        let has : Contains (whole_levels facts.levels) 0 = kept_in (whole_level facts.levels) levels 0 first_level whole in
        omega (arith, few, one_counted (λ (r : ℕ). true) (whole_levels facts.levels) has.0 0 has.1 refl)

-- ---- what it printed

-- all of it was printed, where its status is 0
all_printed : (before : Entry) (exit : Exit) (status : ℕ) (ends : EndsFixed before exit status) → IsTrue before.out.tells → before.out.written ≡ [] → status ≡ 0
    → exit.after.out.written ≡ lines_of ends.run.loaded.columns (events_in ends.run ends.finishes)
    ++ fix_text (at_most (sum_by (written_in ends.run.plan) ends.run.stripes)) (at_most (sum_by (wrong_in ends.run.plan) ends.run.stripes)) (at_most (count_by is_left (events_in ends.run ends.finishes)))
all_printed before exit status ends tells none zero_is =
    sym (append-nil exit.after.out.written) ∙ ends.printed.whole (ends.status_is.clean.0 zero_is).0 tells
    ∙ ap (λ (front : List ℕ). front ++ (lines_of ends.run.loaded.columns (events_in ends.run ends.finishes)
    ++ fix_text (at_most (sum_by (written_in ends.run.plan) ends.run.stripes)) (at_most (sum_by (wrong_in ends.run.plan) ends.run.stripes)) (at_most (count_by is_left (events_in ends.run ends.finishes))))) none

some_fixed : (before : Entry) (exit : Exit) (status : ℕ) (ends : EndsFixed before exit status) → IsTrue before.out.tells → before.out.written ≡ [] → status ≡ 0 → TellsOneFixed exit.after.out.written
    → 0 < sum_by (written_in ends.run.plan) ends.run.stripes
some_fixed before exit status ends tells none zero_is one =
    some_written (sum_by (written_in ends.run.plan) ends.run.stripes) (sum_by (wrong_in ends.run.plan) ends.run.stripes) (count_by is_left (events_in ends.run ends.finishes))
    (lines_of ends.run.loaded.columns (events_in ends.run ends.finishes)) one.0 (ends.status_is.clean.0 zero_is).1 (sym (all_printed before exit status ends tells none zero_is) ∙ one.1)

-- ---- a fix of what is left

module _ {O F V W : Type 0} (opener_view : O → OpenerView) (folder_view : F → FolderView) (vault_view : V → VaultView) (sink_view : W → SinkView) where
  abbrev begun : RunOf O F V W → Entry
  begun run = before_of opener_view folder_view vault_view sink_view run

  abbrev ended : RunOf O F V W → Exit
  ended run = after_of opener_view folder_view vault_view sink_view run

  -- what the law says
  abbrev pub LevelsAreIntact : Type 0
  LevelsAreIntact = (run : RunOf O F V W) (fix : FixRun) (snapshot : Closed) (is_changed : ℕ → ℕ → Bool) (facts : StripeFacts) (r : ℕ) → IsFixOf (begun run) (ended run) fix
      → IsTrue (begun run).opener.vault.tells → Sound fix.loaded (begun run).opener.vault.files snapshot is_changed → IsUndamaged fix is_changed facts r
      → (whole_level facts.levels r ≡ true) × IsIntactLevel fix.plan facts (last_row snapshot facts.stripe) r

  abbrev pub CellsAreRestored : Type 0
  CellsAreRestored = (run : RunOf O F V W) (fix : FixRun) (finishes : Finishes) (snapshot : Closed) (is_changed : ℕ → ℕ → Bool) (facts : StripeFacts) (d : ℕ) (cell : Cell)
      → IsFixOf (begun run) (ended run) fix → IsTrue (begun run).opener.vault.tells → Sound fix.loaded (begun run).opener.vault.files snapshot is_changed → Restores fix finishes snapshot
      → IsRecoverable fix snapshot is_changed facts d cell
      → HoldsCell fix.plan.table d cell (has_lost fix.plan fix.stripes d cell.rec) (byte_of (last_row snapshot facts.stripe) d) (folder_at fix.ended d).tree

  unchanged_then : (once : RunOf O F V W) (first next : Standing) → IsOrigin first → GoesOver opener_view folder_view vault_view sink_view once first next
      → (stripe level : ℕ) → next.last.is_changed stripe level ≡ false
  unchanged_then once first next origin goes stripe level =
      ap (λ (last : LastSynced). last.is_changed stripe level) (goes.last ∙ ap (λ (last : LastSynced). synced_by goes.step.always.did goes.count last) origin.nothing)
      ∙ unchanged_without (effect goes.step.always.did).levels_closed ((effect goes.step.always.did).rows_closed goes.count) nothing_synced.is_changed stripe level refl

  -- by all that stands
  reached_by : (first standing next : Standing) (stages : List (Stage O F V W)) (run : RunOf O F V W) (status : ℕ) → LevelsAreIntact → CellsAreRestored → IsOrigin first
      → IsHistory opener_view folder_view vault_view sink_view first stages standing → IsSoundStanding standing → (goes : GoesOver opener_view folder_view vault_view sink_view run standing next)
      → IsRestored (begun run) (ended run) run.status goes.step.always.did standing.last next.trees → run.status ≡ status → status ≡ 0
      → IsTrue (begun run).out.tells → (begun run).out.written ≡ [] → TellsOneFixed (ended run).after.out.written → length (begun run).opener.folders ≡ 1 → (ended run).after.vault.faults ≡ 0
      → ((stripe level : ℕ) → standing.last.is_changed stripe level ≡ false) → IsReachedCell opener_view folder_view vault_view sink_view status
  reached_by first standing next stages run status intact restored_law origin history sound goes restored status_is zero_is out_tells out_begins one_fixed one_folder calm unchanged =
      let ends : EndsFixed (begun run) (ended run) run.status = restored.ends in
      let over = goes.over in
      let last : LastSynced = standing.last in
      let files : Files = (begun run).opener.vault.files in
      let some = some_fixed (begun run) (ended run) run.status ends out_tells out_begins (status_is ∙ zero_is) one_fixed in
      let its : WrittenCell ends.run = written (begun run) (ended run) run.status over.tells ends one_folder calm last.is_changed unchanged some in
      let facts : StripeFacts = its.mended.facts in
      let at = reached (begun run) (ended run) run.status over.tells ends one_folder calm last.is_changed unchanged some its.mended its.one its.d its.column its.is in
      let its_searched : is_searched ends.run.plan facts.stripe ≡ true = searched (begun run) (ended run) run.status over.tells ends one_folder calm last.is_changed unchanged some its.mended its.one its.d its.column its.is in
      let level : IsUndamaged ends.run last.is_changed facts 0 = undamaged (begun run) (ended run) run.status over.tells ends one_folder calm last.is_changed unchanged some its.mended its.one its.d its.column its.is in
      let enough_here : HasEnough ends.run last.is_changed facts = enough (begun run) (ended run) run.status over.tells ends one_folder calm last.is_changed unchanged some its.mended its.one its.d its.column its.is in
      let is_fix : IsFixOf (begun run) (ended run) ends.run = ends.is_fix in
      let table_sound : Sound ends.run.loaded files last.snapshot last.is_changed
      = loaded_sound (copies_of (begun run).opener.vault) ends.run.loaded files last.snapshot last.is_changed is_fix.over.valid is_fix.over.is_loaded
      (subst (λ (k : ℕ). AreSoundBy k files last) (sym over.copies) (subst (λ (fs : Files). AreSoundBy standing.copies fs last) (sym over.files) sound.sound)) in
      let restores : Restores ends.run ends.finishes last.snapshot = ends.restores last.snapshot last.is_changed table_sound restored.genuine in
      let can : IsRecoverable ends.run last.snapshot last.is_changed facts its.d at.0
      = record { is = at.1.is; synced = level.synced; free = at.1.free; bytes = last_bytes last.snapshot facts.stripe sound.bytes; enough = enough_here } in
      let first_intact = intact run ends.run last.snapshot last.is_changed facts 0 is_fix over.tells.tells_vault table_sound level in
      let tells_intact : TellsIntactLevels ends.run.plan facts (last_row last.snapshot facts.stripe) (λ (r : ℕ). true) = λ k other within. (
        λ it.
            (intact run ends.run last.snapshot last.is_changed facts (get_or (whole_levels facts.levels) k other) is_fix over.tells.tells_vault table_sound
            (whole_undamaged (begun run) (ended run) run.status over.tells ends one_folder calm last.is_changed unchanged some its.mended its.one its.d its.column its.is k other within)).1,
        λ it. refl,
      ) in
      let enough_intact : IsRestorableStripe ends.run.plan facts (λ (r : ℕ). true)
      = restorable (begun run) (ended run) run.status over.tells ends one_folder calm last.is_changed unchanged some its.mended its.one its.d its.column its.is first_intact.0 in
      let restorable_here : CanBeHad ends.run.plan facts (λ (r : ℕ). true) its.d = record { sought = level.synced; had = inr enough_intact } in
      record {
        first = first;
        standing = standing;
        next = next;
        stages = stages;
        run = run;
        origin = origin;
        history = history;
        goes = goes;
        restored = restored;
        facts = facts;
        d = its.d;
        cell = at.0;
        r = 0;
        reach = at.1;
        searched = its_searched;
        enough = enough_here;
        has = restored.restores.counted facts its.d at.0 at.1 level.synced enough_here;
        is_intact = λ (r : ℕ). true;
        tells_intact = tells_intact;
        restorable = restorable_here;
        not_lost = λ told. (restored.restores.named facts its.d at.0 (λ (r : ℕ). true) at.1.is its_searched tells_intact).0 told restorable_here;
        tells = over.tells.tells_vault;
        sound = table_sound;
        restores = restores;
        undamaged = level;
        recoverable = can;
        intact = first_intact;
        holds = restored_law run ends.run ends.finishes last.snapshot last.is_changed facts its.d at.0 is_fix over.tells.tells_vault table_sound restores can;
        status_is = status_is;
      }

  abbrev IsTold : List ℕ → List (List ℕ) → List ℕ → List FolderView → VaultView → ℕ → List F → V → List ℕ → Type 0
  IsTold config texts seed folders vault status left_folders left printed =
      RunsTold opener_view folder_view vault_view sink_view config texts seed folders vault status left_folders left printed

  pub reached_cell : (config : List ℕ) (texts : List (List ℕ)) (seed : List ℕ) (folders : List FolderView) (vault : VaultView) (before status : ℕ) (left_folders : List F) (left : V) (printed : List ℕ)
      → HoldsAlways opener_view folder_view vault_view sink_view → MeetsNone opener_view folder_view vault_view sink_view → LevelsAreIntact → CellsAreRestored
      → IsLeftOfOne opener_view folder_view vault_view sink_view config folders vault before → length folders ≡ 1 → AskForFix texts
      → IsTold config texts seed folders vault status left_folders left printed → status ≡ 0 → (vault_view left).faults ≡ 0 → TellsOneFixed printed
      → IsReachedCell opener_view folder_view vault_view sink_view status
  reached_cell config texts seed folders vault before status left_folders left printed holds meets intact restored_law once one_folder asks runs zero_is calm one_fixed =
      let run : RunOf O F V W = runs.over.run in
      let standing : Standing = standing_of config folders vault once.next.last in
      let stages : List (Stage O F V W) = record { change = Runs once.run; next = once.next } ∷ record { change = Edits; next = standing } ∷ [] in
      let history : IsHistory opener_view folder_view vault_view sink_view once.first stages standing = (once.goes, (once.stands, refl)) in
      let headline = holds once.first standing stages once.origin history in
      let step = runs.over.step in
      let genuine : (effect step.always.did).meets_no_chance once.next.last.snapshot
      = meets once.run run once.first once.next (trees_of folders) step.always.did once.origin once.goes once.taken
      (subst (λ (s : Standing). BeginsOver s (begun run)) once.stands (runs.over.begins once.next.last)) step.always.is_did in
      let at_end = headline.arrives run (runs.over.begins once.next.last) step (ap (λ (v : Option V). is_some v) runs.over.vault_is) genuine in
      let fixes : FixesToItsEnd opener_view folder_view vault_view sink_view run = record {
        asked = asks.asked;
        selection = asks.selection;
        words = subst (λ (ts : List (List ℕ)). asked_by ts ≡ Ok asks.asked) (sym runs.over.texts_are) asks.words;
        command_is = asks.command_is;
        well = inl (omega (arith, zero_is, runs.over.status_is));
      } in
      reached_by once.first standing at_end.0 stages run status intact restored_law once.origin history headline.sound at_end.3 (headline.restores run at_end.0 at_end.3 fixes at_end.2) runs.over.status_is zero_is
      runs.out_tells runs.out_begins (one_fixed.0, runs.printed_is ∙ one_fixed.1) (ap (λ (fs : List FolderView). length fs) runs.held ∙ one_folder)
      (none_rose opener_view folder_view vault_view sink_view config texts seed folders vault status left_folders left runs.over calm) (unchanged_then once.run once.first once.next once.origin once.goes)
