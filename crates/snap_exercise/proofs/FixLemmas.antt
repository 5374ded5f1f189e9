-- What the fix of an exercise finds and writes follows from its number.
use Rattle.std.proofs.Common.{◌≡◌, ⊎_elim, ℕ, suc, ◌+◌, ◌*◌, ◌<◌, List, [], ◌∷◌, ◌++◌, length, get_or, Bool, true, false, if◌then◌else◌, IsTrue, Option, None, Some, refl, sym, ap, ◌∙◌, subst, arith}
use Rattle.std.specs.FinMap as finite
use Rattle.std.specs.Prelude.{All, count_by, is_some, sum_by}
use Rattle.std.specs.List.{flat_map, range_with_len}
use Rattle.std.proofs.lemmas.List.{ext_get_or, get_or-map, length-map}
use Rattle.folder_listing.specs.Kept.{ListedFile}
use Rattle.disk_model.specs.Bytes.{read_from}
use Rattle.disk_model.specs.Cause.{Rose}
use Rattle.disk_model.specs.Files.{Files, parity_of}
use Rattle.disk_model.specs.Folder.{FolderView}
use Rattle.disk_model.specs.Tree.{Tree, listing_of}
use Rattle.disk_model.specs.declared.meta.Meta.{Meta}
use Rattle.disk_model.specs.declared.meta.Stamp.{Stamp}
use Rattle.file_restorer.specs.Finishing.{finish_of, is_changed, is_stamped, stamped_finish, stands, was_gone}
use Rattle.file_restorer.specs.declared.finishing.Finish.{Finish}
use Rattle.file_restorer.specs.declared.finishing.Finish.TheVariants as finishes
use Rattle.file_restorer.specs.declared.state.FileState.{FileState}
use Rattle.file_table.specs.Table.{TableValue, record_at, records_in}
use Rattle.file_table.specs.Valid.{IsValid}
use Rattle.file_table.specs.declared.shape.Shape.{Shape}
use Rattle.parity_writer.specs.LevelReading.{kept_level}
use Rattle.parity_writer.specs.LevelsValue.{LevelValue}
use Rattle.stripe_reader.specs.declared.starts.Start.{Start}
use Rattle.array_setup.specs.declared.ways.Selection.{Selection}
use Rattle.snap_exercise.specs.Exercise.{Summary}
use Rattle.snap_exercise.specs.Exercised.{Array, IsCourse, IsExercise, IsFixed, NoneFailed, TellSameFix, after_damage, begun, damaged_lists, damaged_trees, everything, fix_plan, plan_from, readings_of, start_of, table_of_sync, vault_of}
use Rattle.snap_exercise.specs.Generated.{moment, setup}
use Rattle.snap_exercise.proofs.AfterSyncLemmas.{SavesValid, eight_after, length-worn, none_at, parity_after, same_parity, table_is, tells_after, trees_after, valid_after, worn_faultless, worn_tells, worn_trees}
use Rattle.snap_exercise.proofs.AlikeLemmas.{IsSeen, all_events, all_written, all_wrong, in_range}
use Rattle.snap_exercise.proofs.EngineLemmas.{synced_columns}
use Rattle.snap_exercise.proofs.HeldLemmas.{CameAsHeld, fix_held, list_is, none_risen, tells_then}
use Rattle.snap_exercise.proofs.LawLemmas.{IsLaidByTrees, IsReadByTrees, not_rose}
use Rattle.snap_exercise.proofs.SeenLemmas.{IsDetermined}
use Rattle.snap_fix.specs.Course.{IsPlan}
use Rattle.snap_fix.specs.Ending.{all_finish_news, column_news_at, finish_at, finish_news, finishes_at, is_finished, record_news, stamp_news, state_at, states_at}
use Rattle.snap_fix.specs.FixCourse.{fix_events}
use Rattle.snap_fix.specs.Fixing.{facts_of}
use Rattle.snap_fix.specs.Mended.{Mended, all_mended_events, wrong_in, written_in}
use Rattle.snap_fix.specs.declared.checks.FixEnd.{FixEnd}
use Rattle.snap_fix.proofs.FixCountLemmas.{count_append}
use Rattle.snap_report.specs.Kind.{is_left}
use Rattle.snap_report.specs.declared.events.Event.{Event}
use Rattle.snap_sync.specs.Calls.{level_bytes}
use Rattle.snap_sync.specs.Images.{HasParityAfter, rows_after}
use Rattle.snap_sync.specs.Part.{AllTell, NoneRose, tree_at, trees_of}
use Rattle.snap_sync.specs.declared.syncing.SyncEnd.{SyncEnd}
use Rattle.snap_sync.proofs.SeenLemmas.{shape_closed}
use Rattle.stripe_examiner.specs.Counts.{at_most}
use Rattle.stripe_examiner.specs.Facts.{StripeFacts, gift_of}
use Rattle.stripe_examiner.specs.Findings.{opening_events}
use Rattle.stripe_examiner.specs.Known.{AreFacts, IsTried}
use Rattle.stripe_examiner.specs.Looking.{facts_at, no_facts, numbers_of, unread_in}
use Rattle.repair_scope.specs.Plan.{FixPlan, entry_at, is_searched, names_of, stripes_of}
use Rattle.repair_scope.specs.declared.entry.Entry.{Entry}
use Rattle.repair_scope.specs.declared.scope.Mode.{Mode}
use Rattle.repair_scope.specs.declared.scope.Mode.TheVariants as modes
use Rattle.stripe_reader.specs.Columns.{folder_at}
use Rattle.stripe_reader.specs.Starts.{start_in, starts_at}

-- ---- what finishing tells is nothing that is left

pub none_left : {X : Type 0} (f : X → List Event) (xs : List X) (e : X) → ((k : ℕ) → k < length xs → count_by is_left (f (get_or xs k e)) ≡ 0) → count_by is_left (flat_map f xs) ≡ 0
none_left f [] e each = refl
none_left f (x ∷ xs) e each =
    let here : count_by is_left (f x) ≡ 0 = each 0 (omega arith) in
    let rest : count_by is_left (flat_map f xs) ≡ 0 = none_left f xs e (λ k within. each (suc k) (omega (arith, within))) in
    omega (arith, count_append is_left (f x) (flat_map f xs), here, rest)

stamp_left : (d i : ℕ) (stamped : Bool) → count_by is_left (stamp_news d i stamped) ≡ 0
stamp_left d i true = refl
stamp_left d i false = refl

restored_left : (d i : ℕ) (stamped : Bool) → count_by is_left (finish_news d i (finishes.Restored stamped)) ≡ 0
restored_left d i true = refl
restored_left d i false = refl

finish_left : (d i : ℕ) (finish : Finish) → was_gone finish ≡ false → count_by is_left (finish_news d i finish) ≡ 0
finish_left d i finishes.Kept there = refl
finish_left d i (finishes.Restored stamped) there = restored_left d i stamped
finish_left d i finishes.Unstamped there = refl
finish_left d i finishes.Renamed there = refl
finish_left d i finishes.Gone there = absurd (let clash : true ≡ false = there in cc)

news_left : (b : Bool) (d i : ℕ) (finish : Finish) → (b ≡ true → was_gone finish ≡ false) → count_by is_left (if b then finish_news d i finish else []) ≡ 0
news_left true d i finish there = finish_left d i finish (there refl)
news_left false d i finish there = refl

stamped_there : (changed is_kept : Bool) → was_gone (stamped_finish changed is_kept) ≡ false
stamped_there true is_kept = refl
stamped_there false true = refl
stamped_there false false = refl

whole_there : (stamped changed is_kept : Bool) → was_gone (if stamped then stamped_finish changed is_kept else finishes.Kept) ≡ false
whole_there true changed is_kept = stamped_there changed is_kept
whole_there false changed is_kept = refl

lost_there : (stood : Bool) → was_gone (if stood then finishes.Renamed else finishes.Kept) ≡ false
lost_there true = refl
lost_there false = refl

finish_there : (lost stood stamped changed is_kept : Bool) → was_gone (if lost then (if stood then finishes.Renamed else finishes.Kept) else (if stamped then stamped_finish changed is_kept else finishes.Kept)) ≡ false
finish_there true stood stamped changed is_kept = lost_there stood
finish_there false stood stamped changed is_kept = whole_there stamped changed is_kept

asked_there : (meta : Meta) (listed : Option Meta) (start : Start) (state : FileState) (keeps : Stamp → Bool) → was_gone (finish_of meta listed start state keeps) ≡ false
asked_there meta listed start state keeps = finish_there state.lost (stands start.place state.touched) (is_stamped meta listed start state) (is_changed meta start state) (keeps meta.stamp)

-- ---- gifts

pub no_gift : (gift : Option (List ℕ)) → (is_some gift ≡ true → false ≡ true) → gift ≡ None
no_gift None given = refl
no_gift (Some bytes) given = absurd (let clash : false ≡ true = given refl in cc)

-- ---- a plan is what follows of its table and its lists

module _ (mode : Mode) (selection : Selection) (names : List (List ℕ)) (table : TableValue) (lists : List (List ListedFile)) (plan other : FixPlan)
    (is : IsPlan mode selection names table lists plan) (is_then : IsPlan mode selection names table lists other) where
  abbrev plan_by : Mode → Bool → List Bool → TableValue → List (List Entry) → FixPlan
  plan_by m bad levels t entries = record { scope = record { mode = m; only_bad = bad; levels = levels }; table = t; entries = entries }

  pub one_plan : plan ≡ other
  one_plan =
      ap (λ (m : Mode). plan_by m plan.scope.only_bad plan.scope.levels plan.table plan.entries) (is.scope.mode_is ∙ sym is_then.scope.mode_is)
      ∙ ap (λ (bad : Bool). plan_by other.scope.mode bad plan.scope.levels plan.table plan.entries) (is.scope.only_bad ∙ sym is_then.scope.only_bad)
      ∙ ap (λ (levels : List Bool). plan_by other.scope.mode other.scope.only_bad levels plan.table plan.entries) (is.scope.levels ∙ sym is_then.scope.levels)
      ∙ ap (λ (t : TableValue). plan_by other.scope.mode other.scope.only_bad other.scope.levels t plan.entries) (is.table_is ∙ sym is_then.table_is)
      ∙ ap (λ (entries : List (List Entry)). plan_by other.scope.mode other.scope.only_bad other.scope.levels other.table entries) (is.entries ∙ sym is_then.entries)

-- What is known of a fix that ended, by what these files and these levels hold.
pub record IsFixOf (plan : FixPlan) (lists : List (List ListedFile)) (trees : List Tree) (files : Files) (stripes : List Mended) (end : FixEnd) : Type 0 where
  pub numbers : numbers_of (facts_of stripes) ≡ stripes_of plan
  pub seen : IsSeen plan lists trees files stripes
  pub blocks : end.blocks ≡ at_most (sum_by (written_in plan) stripes)
  pub parities : end.parities ≡ at_most (sum_by (wrong_in plan) stripes)
  pub left : end.left ≡ at_most (count_by is_left (opening_events plan) + count_by is_left (all_mended_events plan stripes))

-- ---- a fix in which no call failed

module _ (table : TableValue) (old new : Array) (end : FixEnd) (done : IsFixed table old new end) (tell : AllTell old.folders) (before : (d : ℕ) → (folder_at old.folders d).faults ≡ 0)
    (well_before : old.vault.faults ≡ 0) (well : NoneFailed new) (columns : length old.folders ≡ length table.columns) where
  none_rose : NoneRose old.folders new.folders
  none_rose d within rose = not_rose (subst (λ (k : ℕ). Rose 0 k) (none_at new.folders well.folders d) (subst (λ (k : ℕ). Rose k (folder_at new.folders d).faults) (before d) rose))

  all_read : unread_in done.readings ≡ 0
  all_read = none_risen (unread_in done.readings) old.vault.faults new.vault.faults
      (λ rose. not_rose (subst (λ (k : ℕ). Rose 0 k) well.vault (subst (λ (k : ℕ). Rose k new.vault.faults) well_before rose))) done.vault.unread

  came : CameAsHeld done.plan.table done.lists (trees_of old.folders) (vault_of old).files (facts_of done.stripes)
  came = subst (λ (t : TableValue). CameAsHeld t done.lists (trees_of old.folders) (vault_of old).files (facts_of done.stripes)) (sym done.plan_is.table_is)
      (fix_held done.plan table done.plan_is.table_is done.lists (facts_of done.stripes) old.folders done.mids new.folders done.listed done.as_many columns tell none_rose done.finds.cells done.unread
      (vault_of old) done.readings done.finds.levels refl all_read)

  pub many_columns : length done.plan.table.columns ≡ length old.folders
  many_columns = ap (λ (t : TableValue). length t.columns) done.plan_is.table_is ∙ sym columns

  pub tells_listed : (d : ℕ) → d < length done.plan.table.columns → IsTrue (folder_at done.mids d).tells
  tells_listed d below = tells_then old.folders done.mids done.lists done.listed tell d (omega (arith, below, many_columns))

  pub is_seen : IsSeen done.plan done.lists (trees_of old.folders) (vault_of old).files done.stripes
  is_seen = record {
    are = done.finds.are;
    none = λ k e within d. no_gift (gift_of (get_or (facts_of done.stripes) k e) d) (done.spare.gave refl k e within d);
    came = came;
    answered = λ k e within d below wanted. done.finds.answered k e within d below (tells_listed d below) wanted;
  }

  -- no file was gone
  finished_there : (d i : ℕ) → d < length done.plan.table.columns → i < length (records_in done.plan.table d) → is_finished done.plan d i ≡ true → was_gone (finish_at (finishes_at done.finishes d) i) ≡ false
  finished_there d i below inside due = ⊎_elim
      (λ is. ap was_gone is ∙ asked_there (record_at done.plan.table.columns d i).meta (entry_at done.plan d i).listed (start_in (starts_at done.files.written.starts.columns d) i) (state_at (states_at done.files.written.states d) i)
      (folder_at done.files.written.folders d).keeps)
      (λ gone. absurd (let clash : true ≡ false = sym tells_now ∙ gone.1 in cc))
      ((done.files.finished d below).is i inside due)
    where
      tells_now : (folder_at done.files.written.folders d).tells ≡ true
      tells_now = (done.files.writes.underway.each d below).calls.goes_on.tells ∙ tells_listed d below

  column_left : (d : ℕ) → d < length done.plan.table.columns → count_by is_left (column_news_at done.plan done.finishes d) ≡ 0
  column_left d below = none_left (record_news done.plan d (finishes_at done.finishes d)) (range_with_len 0 (length (records_in done.plan.table d))) 0 (λ k within.
      let it = in_range (length (records_in done.plan.table d)) k within in
      subst (λ (i : ℕ). count_by is_left (record_news done.plan d (finishes_at done.finishes d) i) ≡ 0) (sym it.0)
      (news_left (is_finished done.plan d k) d k (finish_at (finishes_at done.finishes d) k) (finished_there d k below it.1)))

  files_left : count_by is_left (all_finish_news done.plan done.finishes) ≡ 0
  files_left = none_left (column_news_at done.plan done.finishes) (range_with_len 0 (length done.plan.table.columns)) 0 (λ k within.
      let it = in_range (length done.plan.table.columns) k within in
      subst (λ (d : ℕ). count_by is_left (column_news_at done.plan done.finishes d) ≡ 0) (sym it.0) (column_left k it.1))

  pub left_is : count_by is_left (fix_events done.plan done.stripes done.finishes) ≡ count_by is_left (opening_events done.plan) + count_by is_left (all_mended_events done.plan done.stripes)
  left_is = omega (
    arith,
    count_append is_left (opening_events done.plan) (all_mended_events done.plan done.stripes ++ all_finish_news done.plan done.finishes),
    count_append is_left (all_mended_events done.plan done.stripes) (all_finish_news done.plan done.finishes),
    files_left,
  )

  pub fix_is : IsFixOf done.plan done.lists (trees_of old.folders) (vault_of old).files done.stripes end
  fix_is = record {
    numbers = done.numbers;
    seen = is_seen;
    blocks = done.blocks;
    parities = done.parities;
    left = done.left ∙ ap at_most left_is;
  }

-- ---- the fix of a number

pub fix_plan_is : (n : ℕ) → IsPlan modes.Fix everything (names_of setup) (table_of_sync n) (damaged_lists n) (fix_plan n)
fix_plan_is n = record { scope = record { mode_is = refl; only_bad = refl; levels = refl }; table_is = refl; entries = refl }

module _ (laid : IsLaidByTrees) (read : IsReadByTrees) (n : ℕ) (synced : SyncEnd) (fixed checked : FixEnd) (last : Array) (is : IsCourse n synced fixed checked last) where
  abbrev pub new : Array
  new = is.after_sync

  abbrev pub worn : Array
  worn = after_damage n new

  pub many : length new.folders ≡ 8
  many = eight_after laid read n new synced is.sync is.sync_unfailed

  pub tell : AllTell worn.folders
  tell d within = worn_tells n new.folders many (tells_after laid read n new synced is.sync is.sync_unfailed) d within

  pub table_same : synced.table ≡ table_of_sync n
  table_same = table_is laid read n new synced is.sync is.sync_unfailed

  pub trees_worn : trees_of worn.folders ≡ damaged_trees n
  trees_worn = worn_trees n new.folders (trees_after laid read n new synced is.sync is.sync_unfailed)

  pub many_worn : length worn.folders ≡ 8
  many_worn = length-worn n new.folders ∙ many

  pub many_trees : length (damaged_trees n) ≡ 8
  many_trees = sym (ap length trees_worn) ∙ length-map worn.folders (λ (folder : FolderView). folder.tree) ∙ many_worn

  pub lists_same : is.fix.lists ≡ damaged_lists n
  lists_same = ext_get_or [] is.fix.lists (damaged_lists n) (is.fix.listed.as_many ∙ many_worn ∙ sym (length-map (damaged_trees n) listing_of ∙ many_trees))
      (λ d within.
      let below : d < length worn.folders = omega (arith, within, is.fix.listed.as_many) in
      list_is worn.folders is.fix.mids is.fix.lists is.fix.listed tell d below ∙ ap (λ (ts : List Tree). listing_of (tree_at ts d)) trees_worn
      ∙ sym (get_or-map listing_of (damaged_trees n) d finite.empty [] (omega (arith, below, many_worn, many_trees))))

  pub plan_same : is.fix.plan ≡ fix_plan n
  plan_same = one_plan modes.Fix everything (names_of setup) (table_of_sync n) (damaged_lists n) is.fix.plan (fix_plan n)
      (subst (λ (t : TableValue). IsPlan modes.Fix everything (names_of setup) t (damaged_lists n) is.fix.plan) table_same
      (subst (λ (ls : List (List ListedFile)). IsPlan modes.Fix everything (names_of setup) synced.table ls is.fix.plan) lists_same is.fix.plan_is)) (fix_plan_is n)

  pub fix_of_number : IsFixOf (fix_plan n) (damaged_lists n) (damaged_trees n) (vault_of new).files is.fix.stripes fixed
  fix_of_number =
      subst (λ (plan : FixPlan). IsFixOf plan (damaged_lists n) (damaged_trees n) (vault_of new).files is.fix.stripes fixed) plan_same
      (subst (λ (ls : List (List ListedFile)). IsFixOf is.fix.plan ls (damaged_trees n) (vault_of new).files is.fix.stripes fixed) lists_same
      (subst (λ (ts : List Tree). IsFixOf is.fix.plan is.fix.lists ts (vault_of new).files is.fix.stripes fixed) trees_worn
      (fix_is synced.table worn is.after_fix fixed is.fix tell (worn_faultless n new.folders many is.sync_unfailed.folders) is.sync_unfailed.vault is.fix_unfailed
      (many_worn ∙ sym (synced_columns (begun n) new synced is.sync)))))

  pub valid_of_number : SavesValid → IsValid (table_of_sync n)
  valid_of_number saves = subst IsValid table_same (valid_after laid read n new synced is.sync is.sync_unfailed saves)

  pub parity_of_number : HasParityAfter (plan_from (start_of n) (vault_of (begun n))) (readings_of n) (length (readings_of n)) (vault_of (begun n)).files (vault_of new).files
  parity_of_number = parity_after laid read n new synced is.sync is.sync_unfailed

pub levels_of_number : (n : ℕ) → (table_of_sync n).shape.levels ≡ 3
levels_of_number n = ap (λ (shape : Shape). shape.levels) (shape_closed (start_of n) moment (readings_of n) (start_of n))

-- ---- two of them

-- the same came of other files with the same levels
pub came_with : (plan : FixPlan) (lists : List (List ListedFile)) (trees : List Tree) (files others : Files) (stripes : List StripeFacts) → plan.table.shape.levels ≡ 3
    → ((r : ℕ) → r < 3 → parity_of files r ≡ parity_of others r) → All (AreFacts plan) stripes → CameAsHeld plan.table lists trees files stripes → CameAsHeld plan.table lists trees others stripes
came_with plan lists trees files others stripes three same are came = record {
  slots = came.slots;
  levels = λ k r within below. came.levels k r within below
      ∙ ap (λ (bytes : List ℕ). kept_level plan.table.shape.block_size (Some (read_from bytes ((facts_at stripes k).stripe * plan.table.shape.block_size) plan.table.shape.block_size)))
      (same r (few k r below (is_searched plan (facts_at stripes k).stripe) (are k no_facts within).tried));
}
  where
    few : (k r : ℕ) → r < length (facts_at stripes k).levels → (b : Bool) → IsTried plan (facts_at stripes k) b → r < 3
    few k r below true tried = omega (arith, below, tried.0, three)
    few k r below false tried = absurd (let none = ap (λ (levels : List LevelValue). length levels) tried.1 in omega (arith, below, none))

seen_with : (plan : FixPlan) (lists : List (List ListedFile)) (trees : List Tree) (files others : Files) (stripes : List Mended) → plan.table.shape.levels ≡ 3
    → ((r : ℕ) → r < 3 → parity_of files r ≡ parity_of others r) → IsSeen plan lists trees files stripes → IsSeen plan lists trees others stripes
seen_with plan lists trees files others stripes three same seen = record {
  are = seen.are;
  none = seen.none;
  came = came_with plan lists trees files others (facts_of stripes) three same seen.are seen.came;
  answered = seen.answered;
}

module _ (laid : IsLaidByTrees) (read : IsReadByTrees) (saves : SavesValid) (determined : IsDetermined) (n : ℕ) (one other : Summary) (first : IsExercise n one) (second : IsExercise n other) where
  abbrev pub files : Files
  files = (vault_of first.course.after_sync).files

  pub parities_same : (r : ℕ) → r < 3 → parity_of (vault_of second.course.after_sync).files r ≡ parity_of files r
  parities_same r below = same_parity 3 1024 (level_bytes (start_of n)) (rows_after (plan_from (start_of n) (vault_of (begun n))) (readings_of n) (length (readings_of n))) (vault_of (begun n)).files (vault_of second.course.after_sync).files files (omega arith)
      (parity_of_number laid read n second.synced second.fixed second.checked second.last second.course)
      (parity_of_number laid read n first.synced first.fixed first.checked first.last first.course) r below

  pub fix_one : IsFixOf (fix_plan n) (damaged_lists n) (damaged_trees n) files first.course.fix.stripes first.fixed
  fix_one = fix_of_number laid read n first.synced first.fixed first.checked first.last first.course

  pub fix_other : IsFixOf (fix_plan n) (damaged_lists n) (damaged_trees n) (vault_of second.course.after_sync).files second.course.fix.stripes second.fixed
  fix_other = fix_of_number laid read n second.synced second.fixed second.checked second.last second.course

  pub seen_other : IsSeen (fix_plan n) (damaged_lists n) (damaged_trees n) files second.course.fix.stripes
  seen_other = seen_with (fix_plan n) (damaged_lists n) (damaged_trees n) (vault_of second.course.after_sync).files files second.course.fix.stripes (levels_of_number n) parities_same fix_other.seen

  pub valid : IsValid (table_of_sync n)
  valid = valid_of_number laid read n first.synced first.fixed first.checked first.last first.course saves

  pub numbers : numbers_of (facts_of first.course.fix.stripes) ≡ numbers_of (facts_of second.course.fix.stripes)
  numbers = fix_one.numbers ∙ sym fix_other.numbers

  pub one_fix : TellSameFix one other
  one_fix = record {
    blocks = ap (λ (s : Summary). s.blocks) first.summary ∙ fix_one.blocks
        ∙ ap at_most (all_written determined (fix_plan n) valid (damaged_lists n) (damaged_trees n) files first.course.fix.stripes second.course.fix.stripes numbers fix_one.seen seen_other)
        ∙ sym fix_other.blocks ∙ sym (ap (λ (s : Summary). s.blocks) second.summary);
    parities = ap (λ (s : Summary). s.parities) first.summary ∙ fix_one.parities
        ∙ ap at_most (all_wrong determined (fix_plan n) valid (damaged_lists n) (damaged_trees n) files first.course.fix.stripes second.course.fix.stripes numbers fix_one.seen seen_other)
        ∙ sym fix_other.parities ∙ sym (ap (λ (s : Summary). s.parities) second.summary);
    left = ap (λ (s : Summary). s.left) first.summary ∙ fix_one.left
        ∙ ap (λ (events : List Event). at_most (count_by is_left (opening_events (fix_plan n)) + count_by is_left events))
        (all_events determined (fix_plan n) valid (damaged_lists n) (damaged_trees n) files first.course.fix.stripes second.course.fix.stripes numbers fix_one.seen seen_other)
        ∙ sym fix_other.left ∙ sym (ap (λ (s : Summary). s.left) second.summary);
  }
