-- An exercise whose fix leaves no finding and writes no level has one summary.
use Rattle.std.proofs.Common.{◌≡◌, ⊎_elim, ℕ, zero, suc, ◌+◌, ◌<◌, ◌&&◌, List, [], length, get_or, Bool, true, false, IsTrue, refl, sym, ap, ap₂, ◌∙◌, subst, arith}
use Rattle.std.specs.FinMap as finite
use Rattle.std.specs.List.{range_with_len}
use Rattle.std.specs.Prelude.{count_by, not, sum_by}
use Rattle.std.proofs.lemmas.Bool.{cases_lt}
use Rattle.std.proofs.lemmas.List.{ext_get_or, get_or-map, get_or_past, length-map}
use Rattle.std.proofs.lemmas.List.FromFn.{get_or-map-range_with_len, length-range_with_len}
use Rattle.std.proofs.lemmas.List.Sums.{get_or-le-sum_by}
use Rattle.folder_listing.specs.Kept.{ListedFile}
use Rattle.disk_model.specs.Files.{parity_of}
use Rattle.disk_model.specs.Folder.{FolderView}
use Rattle.disk_model.specs.Tree.{Tree}
use Rattle.file_table.specs.Table.{TableValue, no_record, records_in}
use Rattle.file_table.specs.Valid.{IsValid}
use Rattle.parity_writer.specs.Keeps.{HasByte}
use Rattle.parity_writer.specs.LevelsValue.{LevelValue, no_level}
use Rattle.snap_exercise.specs.Exercise.{Summary}
use Rattle.snap_exercise.specs.Exercised.{Array, IsCourse, IsExercise, IsFixed, after_damage, damaged_lists, damaged_trees, everything, fix_plan, table_of_sync, vault_of}
use Rattle.snap_exercise.specs.Generated.{setup}
use Rattle.snap_exercise.proofs.AfterFixLemmas.{IsLeft, all_free, and_none, is_left_of, none_lost, same_left}
use Rattle.snap_exercise.proofs.AfterSyncLemmas.{SavesValid, keeps_after, none_at, worn_faultless, worn_keeps}
use Rattle.snap_exercise.proofs.AlikeLemmas.{all_writes, in_range}
use Rattle.snap_exercise.proofs.CheckLemmas.{IsCheckOf, check_is, same_findings, trees_left}
use Rattle.snap_exercise.proofs.EngineLemmas.{synced_columns}
use Rattle.snap_exercise.proofs.FixLemmas.{came_with, fix_one, left_is, levels_of_number, many, many_columns, many_worn, numbers, one_fix, one_plan, parities_same, plan_same, seen_other, table_same, tell, tells_listed, trees_worn, is_seen, valid}
use Rattle.snap_exercise.proofs.HeldLemmas.{lists_same as listed_same, one_counted, tree_of_folder, tree_then}
use Rattle.snap_exercise.proofs.LawLemmas.{IsLaidByTrees, IsReadByTrees, keeps_all, one_sync, sync_of}
use Rattle.snap_exercise.proofs.SeenLemmas.{IsDetermined}
use Rattle.snap_fix.specs.Course.{IsPlan}
use Rattle.snap_fix.specs.Ending.{is_finished}
use Rattle.snap_fix.specs.FixCourse.{fix_events}
use Rattle.snap_fix.specs.Fixing.{facts_of}
use Rattle.snap_fix.specs.Mended.{Mended, all_mended_events, has_lost, is_wrong_level, wrong_in}
use Rattle.snap_fix.specs.Underway.{IsMendedLevel}
use Rattle.snap_fix.specs.declared.checks.FixEnd.{FixEnd}
use Rattle.snap_report.specs.Kind.{is_left}
use Rattle.snap_sync.specs.Part.{AllTell, tree_at, trees_of}
use Rattle.snap_sync.specs.declared.syncing.SyncEnd.{SyncEnd}
use Rattle.stripe_examiner.specs.Counts.{at_most}
use Rattle.stripe_examiner.specs.Facts.{StripeFacts}
use Rattle.stripe_examiner.specs.Findings.{is_wrong_by, opening_events, may_write_level}
use Rattle.repair_scope.specs.Plan.{FixPlan, column_entries, entry_at, entry_of, is_audit, names_of, no_entry}
use Rattle.repair_scope.specs.declared.entry.Entry.{Entry}
use Rattle.repair_scope.specs.declared.scope.Mode.TheVariants as modes
use Rattle.stripe_reader.specs.Columns.{folder_at}

at_most_none : (k : ℕ) → at_most k ≡ 0 → k ≡ 0
at_most_none zero none = refl
at_most_none (suc k) none = absurd (omega (arith, none))

-- all records are selected
pub selected_of : (n d i : ℕ) → d < length (fix_plan n).table.columns → i < length (records_in (fix_plan n).table d) → (entry_at (fix_plan n) d i).selected ≡ true
selected_of n d i below inside =
    let table : TableValue = table_of_sync n in
    let names : List (List ℕ) = names_of setup in
    let lists : List (List ListedFile) = damaged_lists n in
    ap (λ (column : List Entry). (get_or column i no_entry).selected) (get_or-map-range_with_len (column_entries everything names table lists) 0 (length table.columns) d d [] below (omega arith))
    ∙ ap (λ (entry : Entry). entry.selected) (get_or-map (entry_of everything (get_or names d []) (get_or lists d [])) (records_in table d) i no_record no_entry inside)

-- ---- what the fix leaves of the files

module _ (laid : IsLaidByTrees) (read : IsReadByTrees) (n : ℕ) (synced : SyncEnd) (fixed checked : FixEnd) (last : Array) (is : IsCourse n synced fixed checked last) (none : fixed.left ≡ 0) where
  abbrev worn : Array
  worn = after_damage n is.after_sync

  abbrev plan : FixPlan
  plan = is.fix.plan

  abbrev stripes : List Mended
  stripes = is.fix.stripes

  its_tell : AllTell worn.folders
  its_tell = tell laid read n synced fixed checked last is

  eight : length worn.folders ≡ 8
  eight = many_worn laid read n synced fixed checked last is

  before : (d : ℕ) → (folder_at worn.folders d).faults ≡ 0
  before = worn_faultless n is.after_sync.folders (many laid read n synced fixed checked last is) is.sync_unfailed.folders

  columns : length worn.folders ≡ length synced.table.columns
  columns = eight ∙ sym (synced_columns _ is.after_sync synced is.sync)

  plan_is : plan ≡ fix_plan n
  plan_is = plan_same laid read n synced fixed checked last is

  audits : is_audit plan.scope.mode ≡ false
  audits = ap (λ (p : FixPlan). is_audit p.scope.mode) plan_is

  total : count_by is_left (opening_events plan) + count_by is_left (all_mended_events plan stripes) ≡ 0
  total = sym (left_is synced.table worn is.after_fix fixed is.fix its_tell before is.sync_unfailed.vault is.fix_unfailed columns)
      ∙ at_most_none (count_by is_left (fix_events plan stripes is.fix.finishes)) (sym is.fix.left ∙ none)

  finished : (d i : ℕ) → d < length plan.table.columns → i < length (records_in plan.table d) → is_finished plan d i ≡ true
  finished d i below inside =
      let selected : (entry_at plan d i).selected ≡ true
      = subst (λ (p : FixPlan). (c k : ℕ) → c < length p.table.columns → k < length (records_in p.table c) → (entry_at p c k).selected ≡ true) (sym plan_is) (selected_of n) d i below inside in
      ap₂ (λ (a b : Bool). a && not b) selected (all_free plan audits (omega (arith, total)) d i below inside selected)

  pub kept : (d i : ℕ) → d < length plan.table.columns → has_lost plan stripes d i ≡ false
  kept = none_lost plan stripes audits (omega (arith, total)) (is_seen synced.table worn is.after_fix fixed is.fix its_tell before is.sync_unfailed.vault is.fix_unfailed columns).answered

  in_worn : (d : ℕ) → d < length plan.table.columns → d < length worn.folders
  in_worn d below = omega (arith, below, many_columns synced.table worn is.after_fix fixed is.fix its_tell before is.sync_unfailed.vault is.fix_unfailed columns)

  pub tells : (d : ℕ) → d < length plan.table.columns → IsTrue (folder_at is.fix.mids d).tells
  tells = tells_listed synced.table worn is.after_fix fixed is.fix its_tell before is.sync_unfailed.vault is.fix_unfailed columns

  keeps : (d : ℕ) → d < length plan.table.columns → (folder_at is.fix.mids d).keeps ≡ keeps_all
  keeps d below = (is.fix.listed.each d (in_worn d below)).call.called.goes_on.keeps
      ∙ worn_keeps n is.after_sync.folders (many laid read n synced fixed checked last is) (keeps_after laid read n is.after_sync synced is.sync is.sync_unfailed) d (in_worn d below)

  left_at : (d : ℕ) → d < length plan.table.columns → IsLeft plan stripes d (folder_at is.fix.mids d).tree (folder_at is.after_fix.folders d).tree
  left_at d below = is_left_of plan _ stripes is.fix.finishes is.fix.mids is.after_fix.folders is.fix.files tells keeps finished kept d below

  pub first_is : (d : ℕ) → d < length plan.table.columns → (folder_at is.fix.mids d).tree ≡ tree_at (damaged_trees n) d
  first_is d below = tree_then worn.folders is.fix.mids is.fix.lists is.fix.listed its_tell d (in_worn d below)
      ∙ ap (λ (ts : List Tree). tree_at ts d) (trees_worn laid read n synced fixed checked last is)

  pub left_of_number : (d : ℕ) → d < length (fix_plan n).table.columns → IsLeft (fix_plan n) stripes d (tree_at (damaged_trees n) d) (folder_at is.after_fix.folders d).tree
  left_of_number = subst (λ (p : FixPlan). (d : ℕ) → d < length p.table.columns → IsLeft p stripes d (tree_at (damaged_trees n) d) (folder_at is.after_fix.folders d).tree) plan_is
      (λ d below. subst (λ (t : Tree). IsLeft plan stripes d t (folder_at is.after_fix.folders d).tree) (first_is d below) (left_at d below))

  pub many_fixed : length is.after_fix.folders ≡ 8
  many_fixed = is.fix.files.folders ∙ is.fix.as_many ∙ eight

  pub columns_of_number : length (fix_plan n).table.columns ≡ 8
  columns_of_number = ap (λ (t : TableValue). length t.columns) (sym (table_same laid read n synced fixed checked last is)) ∙ synced_columns _ is.after_sync synced is.sync

  pub tell_fixed : AllTell is.after_fix.folders
  tell_fixed d within =
      let below : d < length plan.table.columns = omega (arith, within, many_fixed, columns_of_number, ap (λ (p : FixPlan). length p.table.columns) plan_is) in
      (is.fix.files.calls d below).goes_on.tells ∙ tells d below

-- ---- what it leaves of the levels, where it writes none

sum_none : {X : Type 0} (f : X → ℕ) (xs : List X) (k : ℕ) (e : X) → k < length xs → sum_by f xs ≡ 0 → f (get_or xs k e) ≡ 0
sum_none f xs k e within none = omega (arith, get_or-le-sum_by f xs k e within, none)

count_none : (p : ℕ → Bool) (m r : ℕ) → r < m → count_by p (range_with_len 0 m) ≡ 0 → p r ≡ false
count_none p m r below none = by_value (p r) refl
  where
    by_value : (b : Bool) → p r ≡ b → b ≡ false
    by_value false it = refl
    by_value true it =
        let within : r < length (range_with_len 0 m) = omega (arith, below, length-range_with_len 0 m) in
        absurd (let one = one_counted p (range_with_len 0 m) r 0 within (ap p (in_range m r within).0 ∙ it) in omega (arith, one, none))

not_wrong : (plan : FixPlan) (facts : StripeFacts) → count_by (is_wrong_level plan facts) (range_with_len 0 (length facts.levels)) ≡ 0 → (r : ℕ) → is_wrong_level plan facts r ≡ false
not_wrong plan facts none r = ⊎_elim
    (λ below. count_none (is_wrong_level plan facts) (length facts.levels) r below none)
    (λ past. ap (λ (level : LevelValue). may_write_level plan facts.stripe r && is_wrong_by plan.table.shape.block_size r level.state level.block facts.row) (get_or_past facts.levels r no_level past)
    ∙ and_none (may_write_level plan facts.stripe r))
    (cases_lt r (length facts.levels))

abbrev facts_in : Mended → StripeFacts
facts_in mended = mended.facts

none_mended : (plan : FixPlan) (stripes : List Mended) → sum_by (wrong_in plan) stripes ≡ 0 → (level stripe : ℕ) → IsMendedLevel plan (facts_of stripes) level stripe → ⊥
none_mended plan stripes none level stripe one =
    let k : ℕ = one.1.0 in
    let within : k < length stripes = omega (arith, one.1.1, length-map stripes facts_in) in
    let mended : Mended = get_or stripes k (record { facts = one.0; answers = [] }) in
    let facts_are : mended.facts ≡ one.0 = sym (get_or-map facts_in stripes k (record { facts = one.0; answers = [] }) one.0 within) ∙ one.1.2 in
    let right : is_wrong_level plan mended.facts level ≡ false = not_wrong plan mended.facts (sum_none (wrong_in plan) stripes k (record { facts = one.0; answers = [] }) within none) level in
    let clash : true ≡ false = sym one.3 ∙ ap (λ (facts : StripeFacts). is_wrong_level plan facts level) (sym facts_are) ∙ right in
    cc

same_length : (a b : ℕ) → ((k : ℕ) → k < a → k < b) → ((k : ℕ) → k < b → k < a) → a ≡ b
same_length zero zero one other = refl
same_length zero (suc b) one other = absurd (let past = other 0 (omega arith) in omega (arith, past))
same_length (suc a) zero one other = absurd (let past = one 0 (omega arith) in omega (arith, past))
same_length (suc a) (suc b) one other = let here = one a (omega arith) in let there = other b (omega arith) in omega (arith, here, there)

pub levels_left : (table : TableValue) (old new : Array) (end : FixEnd) (done : IsFixed table old new end) → end.parities ≡ 0 → (r : ℕ) → parity_of (vault_of new).files r ≡ parity_of (vault_of old).files r
levels_left table old new end done none r =
    ext_get_or 0 (parity_of (vault_of new).files r) (parity_of (vault_of old).files r) (same_length _ _ (λ k below. (grown k below).within) (λ k below. (stays k below).within))
    (λ k below. sym (grown k below).is)
  where
    never : (level stripe : ℕ) → IsMendedLevel done.plan (facts_of done.stripes) level stripe → ⊥
    never = none_mended done.plan done.stripes (at_most_none (sum_by (wrong_in done.plan) done.stripes) (sym done.parities ∙ none))

    stays : (k : ℕ) → k < length (parity_of (vault_of old).files r) → HasByte (parity_of (vault_of new).files r) k (get_or (parity_of (vault_of old).files r) k 0)
    stays k below = (done.vault.mends.changes.reads refl).bytes r k (get_or (parity_of (vault_of old).files r) k 0) (λ stripe one. absurd (never r stripe one)) (record { within = below; is = refl })

    grown : (k : ℕ) → k < length (parity_of (vault_of new).files r) → HasByte (parity_of (vault_of old).files r) k (get_or (parity_of (vault_of new).files r) k 0)
    grown k below = ⊎_elim
        (λ it. it)
        (λ behind. absurd (never r behind.0 behind.1))
        ((done.vault.mends.changes.reads refl).grown r k (get_or (parity_of (vault_of new).files r) k 0) (λ stripe one. absurd (never r stripe one)) (record { within = below; is = refl }))

-- ---- two of them

same_answer : (a b : Bool) → (IsTrue a → IsTrue b) → (IsTrue b → IsTrue a) → a ≡ b
same_answer true true one other = refl
same_answer false false one other = refl
same_answer true false one other = sym (one refl)
same_answer false true one other = other refl

module _ (laid : IsLaidByTrees) (read : IsReadByTrees) (saves : SavesValid) (determined : IsDetermined) (n : ℕ) (one other : Summary) (first : IsExercise n one) (second : IsExercise n other)
    (none : one.left ≡ 0) (unwritten : one.parities ≡ 0) where
  abbrev its : IsCourse n first.synced first.fixed first.checked first.last
  its = first.course

  abbrev others : IsCourse n second.synced second.fixed second.checked second.last
  others = second.course

  none_first : first.fixed.left ≡ 0
  none_first = sym (ap (λ (s : Summary). s.left) first.summary) ∙ none

  none_second : second.fixed.left ≡ 0
  none_second = sym (ap (λ (s : Summary). s.left) second.summary) ∙ sym (one_fix laid read saves determined n one other first second).left ∙ none

  unwritten_first : first.fixed.parities ≡ 0
  unwritten_first = sym (ap (λ (s : Summary). s.parities) first.summary) ∙ unwritten

  unwritten_second : second.fixed.parities ≡ 0
  unwritten_second = sym (ap (λ (s : Summary). s.parities) second.summary) ∙ sym (one_fix laid read saves determined n one other first second).parities ∙ unwritten

  eight_columns : length (fix_plan n).table.columns ≡ 8
  eight_columns = columns_of_number laid read n first.synced first.fixed first.checked first.last its none_first

  many_first : length its.after_fix.folders ≡ 8
  many_first = many_fixed laid read n first.synced first.fixed first.checked first.last its none_first

  many_second : length others.after_fix.folders ≡ 8
  many_second = many_fixed laid read n second.synced second.fixed second.checked second.last others none_second

  tree_same : (d : ℕ) → d < length (fix_plan n).table.columns → (folder_at its.after_fix.folders d).tree ≡ (folder_at others.after_fix.folders d).tree
  tree_same d below = same_left (fix_plan n) its.fix.stripes others.fix.stripes d (tree_at (damaged_trees n) d) (folder_at its.after_fix.folders d).tree (folder_at others.after_fix.folders d).tree
      (λ i. all_writes determined (fix_plan n) (valid laid read saves determined n one other first second) (damaged_lists n) (damaged_trees n) (vault_of its.after_sync).files its.fix.stripes others.fix.stripes
      (numbers laid read saves determined n one other first second) (fix_one laid read saves determined n one other first second).seen (seen_other laid read saves determined n one other first second) d i below)
      (left_of_number laid read n first.synced first.fixed first.checked first.last its none_first d below)
      (left_of_number laid read n second.synced second.fixed second.checked second.last others none_second d below)

  abbrev its_tree : FolderView → Tree
  its_tree folder = folder.tree

  trees_same : trees_of its.after_fix.folders ≡ trees_of others.after_fix.folders
  trees_same = ext_get_or finite.empty (trees_of its.after_fix.folders) (trees_of others.after_fix.folders)
      (length-map its.after_fix.folders its_tree ∙ many_first ∙ sym (length-map others.after_fix.folders its_tree ∙ many_second))
      (λ d within.
      let below : d < length (fix_plan n).table.columns = omega (arith, within, length-map its.after_fix.folders its_tree, many_first, eight_columns) in
      tree_of_folder its.after_fix.folders d ∙ tree_same d below ∙ sym (tree_of_folder others.after_fix.folders d))

  tell_first : AllTell its.after_fix.folders
  tell_first = tell_fixed laid read n first.synced first.fixed first.checked first.last its none_first

  tell_second : AllTell others.after_fix.folders
  tell_second = tell_fixed laid read n second.synced second.fixed second.checked second.last others none_second

  tables_same : second.synced.table ≡ first.synced.table
  tables_same = table_same laid read n second.synced second.fixed second.checked second.last others ∙ sym (table_same laid read n first.synced first.fixed first.checked first.last its)

  check_first : IsCheckOf its.check.plan its.check.lists (trees_of its.after_fix.folders) (vault_of its.after_fix).files its.check.stripes first.checked
  check_first = check_is first.synced.table its.after_fix first.last first.checked its.check tell_first (none_at its.after_fix.folders its.fix_unfailed.folders) its.fix_unfailed.vault its.check_unfailed
      (many_first ∙ sym (synced_columns _ its.after_sync first.synced its.sync))

  check_second : IsCheckOf others.check.plan others.check.lists (trees_of others.after_fix.folders) (vault_of others.after_fix).files others.check.stripes second.checked
  check_second = check_is second.synced.table others.after_fix second.last second.checked others.check tell_second (none_at others.after_fix.folders others.fix_unfailed.folders) others.fix_unfailed.vault others.check_unfailed
      (many_second ∙ sym (synced_columns _ others.after_sync second.synced others.sync))

  lists_are : others.check.lists ≡ its.check.lists
  lists_are = listed_same others.after_fix.folders others.check.mids its.after_fix.folders its.check.mids others.check.lists its.check.lists others.check.listed its.check.listed tell_second tell_first (sym trees_same)

  plans_are : others.check.plan ≡ its.check.plan
  plans_are = one_plan modes.Check everything (names_of setup) first.synced.table its.check.lists others.check.plan its.check.plan
      (subst (λ (t : TableValue). IsPlan modes.Check everything (names_of setup) t its.check.lists others.check.plan) tables_same
      (subst (λ (ls : List (List ListedFile)). IsPlan modes.Check everything (names_of setup) second.synced.table ls others.check.plan) lists_are others.check.plan_is)) its.check.plan_is

  -- the levels after the two fixes are the same
  levels_are : (r : ℕ) → r < 3 → parity_of (vault_of others.after_fix).files r ≡ parity_of (vault_of its.after_fix).files r
  levels_are r below =
      levels_left second.synced.table (after_damage n others.after_sync) others.after_fix second.fixed others.fix unwritten_second r
      ∙ parities_same laid read saves determined n one other first second r below
      ∙ sym (levels_left first.synced.table (after_damage n its.after_sync) its.after_fix first.fixed its.fix unwritten_first r)

  valid_plan : IsValid its.check.plan.table
  valid_plan = subst IsValid (sym (table_same laid read n first.synced first.fixed first.checked first.last its) ∙ sym its.check.plan_is.table_is) (valid laid read saves determined n one other first second)

  three : its.check.plan.table.shape.levels ≡ 3
  three = ap (λ (t : TableValue). t.shape.levels) (its.check.plan_is.table_is ∙ table_same laid read n first.synced first.fixed first.checked first.last its) ∙ levels_of_number n

  -- the check of the other, by what the first one checks
  check_then : IsCheckOf its.check.plan its.check.lists (trees_of its.after_fix.folders) (vault_of others.after_fix).files others.check.stripes second.checked
  check_then =
      subst (λ (p : FixPlan). IsCheckOf p its.check.lists (trees_of its.after_fix.folders) (vault_of others.after_fix).files others.check.stripes second.checked) plans_are
      (subst (λ (ls : List (List ListedFile)). IsCheckOf others.check.plan ls (trees_of its.after_fix.folders) (vault_of others.after_fix).files others.check.stripes second.checked) lists_are
      (subst (λ (ts : List Tree). IsCheckOf others.check.plan others.check.lists ts (vault_of others.after_fix).files others.check.stripes second.checked) (sym trees_same) check_second))

  check_with : IsCheckOf its.check.plan its.check.lists (trees_of its.after_fix.folders) (vault_of its.after_fix).files others.check.stripes second.checked
  check_with = record {
    numbers = check_then.numbers;
    are = check_then.are;
    none = check_then.none;
    came = came_with its.check.plan its.check.lists (trees_of its.after_fix.folders) (vault_of others.after_fix).files (vault_of its.after_fix).files others.check.stripes three levels_are check_then.are check_then.came;
    findings = check_then.findings;
  }

  found_same : first.checked.findings ≡ second.checked.findings
  found_same = same_findings determined its.check.plan valid_plan its.check.lists (trees_of its.after_fix.folders) (vault_of its.after_fix).files its.check.stripes others.check.stripes first.checked second.checked check_first check_with

  last_first : trees_of first.last.folders ≡ trees_of its.after_fix.folders
  last_first = trees_left first.synced.table its.after_fix first.last first.checked its.check tell_first (none_at its.after_fix.folders its.fix_unfailed.folders) its.fix_unfailed.vault its.check_unfailed
      (many_first ∙ sym (synced_columns _ its.after_sync first.synced its.sync))

  last_second : trees_of second.last.folders ≡ trees_of others.after_fix.folders
  last_second = trees_left second.synced.table others.after_fix second.last second.checked others.check tell_second (none_at others.after_fix.folders others.fix_unfailed.folders) others.fix_unfailed.vault others.check_unfailed
      (many_second ∙ sym (synced_columns _ others.after_sync second.synced others.sync))

  last_same : trees_of first.last.folders ≡ trees_of second.last.folders
  last_same = last_first ∙ trees_same ∙ sym last_second

  answers_same : one.same ≡ other.same
  answers_same = same_answer one.same other.same
      (λ yes. second.same.1 (sym last_same ∙ first.same.0 yes))
      (λ yes. first.same.1 (last_same ∙ second.same.0 yes))

  pub one_summary : one ≡ other
  one_summary =
      let syncs = one_sync n one other (sync_of laid read n one first) (sync_of laid read n other second) in
      let fixes = one_fix laid read saves determined n one other first second in
      let found : one.check_findings ≡ other.check_findings = ap (λ (s : Summary). s.check_findings) first.summary ∙ found_same ∙ sym (ap (λ (s : Summary). s.check_findings) second.summary) in
      λ i. record {
        stripes = syncs.stripes i;
        synced = syncs.synced i;
        pending = syncs.pending i;
        sync_findings = syncs.findings i;
        blocks = fixes.blocks i;
        parities = fixes.parities i;
        left = fixes.left i;
        check_findings = found i;
        same = answers_same i;
      }
