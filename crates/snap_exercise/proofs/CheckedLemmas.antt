-- The check of an exercise that meets no hash by chance finds nothing.
use Rattle.std.proofs.Common.{◌≡◌, ℕ, suc, ◌+◌, ◌*◌, ◌<◌, ◌&&◌, List, [], ◌∷◌, ◌++◌, length, map, get_or, not, Bool, true, false, if◌then◌else◌, Option, Some, is_some, refl, sym, ap, ap₂, ◌∙◌, subst, arith}
use Rattle.std.specs.Prelude.{count_by}
use Rattle.std.specs.FinMap as finite
use Rattle.std.specs.List.{range_with_len}
use Rattle.std.specs.Option.{option_map}
use Rattle.std.proofs.lemmas.List.{ext_get_or, get_or-map, length-map}
use Rattle.std.proofs.lemmas.List.FromFn.{get_or-map-range_with_len, get_or-range_with_len, length-map-range_with_len, length-range_with_len}
use Rattle.folder_listing.specs.Kept.{ListedFile}
use Rattle.disk_model.specs.Bytes.{read_from}
use Rattle.disk_model.specs.Files.{Files, parity_of}
use Rattle.disk_model.specs.Folder.{FolderView}
use Rattle.disk_model.specs.Tree.{File, Tree, listing_of, meta_of}
use Rattle.disk_model.specs.declared.meta.Meta.{Meta}
use Rattle.file_table.specs.Closing.{DiffersInHashesAndInfos}
use Rattle.file_table.specs.Table.{TableValue, is_synced_mark, no_record, record_at, record_in, records_in, column_at}
use Rattle.parity_writer.specs.LevelReading.{kept_level}
use Rattle.parity_writer.specs.LevelsValue.{LevelValue, no_level}
use Rattle.parity_writer.specs.Parity.{HasLevel, Row}
use Rattle.parity_writer.specs.WindowRow.{bytes_of}
use Rattle.snap_exercise.specs.Exercised.{Array, IsCourse, after_damage, begun, everything, readings_of, start_of, table_of_sync, vault_of}
use Rattle.snap_exercise.specs.Generated.{before, files_of, moment, path_of, setup, tree_of, trees}
use Rattle.snap_exercise.specs.Mends.{snapshot}
use Rattle.snap_exercise.proofs.AfterSyncLemmas.{SavesValid, length-trees, none_at}
use Rattle.snap_exercise.proofs.CellByteLemmas.{LeavesBytes}
use Rattle.snap_exercise.proofs.CheckLemmas.{IsCheckOf, check_is}
use Rattle.snap_exercise.proofs.CleanLemmas.{IsClean, none_found, range_empty}
use Rattle.snap_exercise.proofs.ClosingLemmas.{FindsExactly, FindsNoChange, slot_read}
use Rattle.snap_exercise.proofs.EngineLemmas.{synced_columns}
use Rattle.snap_exercise.proofs.FixLemmas.{one_plan, table_same}
use Rattle.snap_exercise.proofs.FreeLemmas.{ArePlain, IsOfKept, none_blocks, path_plain, tree_plain_at}
use Rattle.snap_exercise.proofs.HeldLemmas.{held_slot, list_is}
use Rattle.snap_exercise.proofs.IntactLemmas.{WholeLevelsHold, its_whole}
use Rattle.snap_exercise.proofs.LawLemmas.{IsLaidByTrees, IsReadByTrees}
use Rattle.snap_exercise.proofs.MendsLemmas.{GivesFacts, KnownByCounting, WrongWasChanged, columns_of_start, left_none, parities_none, seen_before, sound_of, synced_of, verified_of}
use Rattle.snap_exercise.proofs.NamedLemmas.{IsOfFile, few_files, file_at, made_file, record_made, tree_is}
use Rattle.snap_exercise.proofs.RestoredTreesLemmas.{trees_restored}
use Rattle.snap_exercise.proofs.SeenLemmas.{KeptAlike, bytes_same}
use Rattle.snap_exercise.proofs.UndamagedLemmas.{found_tree, held_same, undamaged}
use Rattle.snap_exercise.proofs.WholeLemmas.{levels_left, many_fixed, tell_fixed}
use Rattle.snap_fix.specs.Course.{IsPlan, check_events}
use Rattle.snap_fix.specs.Fixing.{facts_of}
use Rattle.snap_fix.specs.Genuine.{AreGenuine}
use Rattle.snap_fix.specs.Restored.{RestoresGenuine}
use Rattle.snap_fix.specs.declared.checks.FixEnd.{FixEnd}
use Rattle.snap_report.specs.Kind.{is_finding}
use Rattle.snap_report.specs.declared.events.Event.{Event}
use Rattle.snap_report.specs.declared.events.Event.TheVariants as event
use Rattle.snap_sync.specs.Part.{AllTell, reading_by, slot_by, tree_at, trees_of}
use Rattle.snap_sync.specs.declared.syncing.SyncEnd.{SyncEnd}
use Rattle.snap_sync.proofs.CellLemmas.{FindsCells}
use Rattle.snap_sync.proofs.ListFacts.{filter_none}
use Rattle.snap_sync.proofs.SeenLemmas.{GivesItsHashes, LeavesTheOthers}
use Rattle.snap_sync.proofs.StaysLemmas.{differs-closed}
use Rattle.snap_sync.proofs.ToldLemmas.{same_meta_itself}
use Rattle.stripe_examiner.specs.Counts.{at_most}
use Rattle.stripe_examiner.specs.Facts.{StripeFacts, bytes_before, gift_of, gift_or, is_damaged, is_missing, missing_in, row_before, slot_of, wanted_at}
use Rattle.stripe_examiner.specs.Findings.{column_events, events_of, is_unread, opening_events, record_events, stripe_events}
use Rattle.stripe_examiner.specs.Known.{AreFacts, IsKnown, IsTried}
use Rattle.stripe_examiner.specs.Looking.{facts_at, no_facts}
use Rattle.repair_scope.specs.Blocked.{found_in}
use Rattle.repair_scope.specs.Plan.{FixPlan, column_entries, entries_of, entry_at, entry_of, is_audit, is_synced, names_of, no_entry, seen_at}
use Rattle.repair_scope.specs.Selected.{is_as_recorded, means_level}
use Rattle.repair_scope.specs.declared.entry.Entry.{Entry}
use Rattle.repair_scope.specs.declared.scope.Mode.TheVariants as modes
use Rattle.stripe_reader.specs.SlotValue.{SlotValue}
use Rattle.stripe_reader.specs.WindowValue.{no_slot}

-- ---- its plan

abbrev pub lists_of : ℕ → List (List ListedFile)
lists_of n = map listing_of (trees n)

abbrev pub check_plan : ℕ → FixPlan
check_plan n = record {
  scope = record { mode = modes.Check; only_bad = false; levels = map (means_level everything) (range_with_len 0 6) };
  table = table_of_sync n;
  entries = entries_of everything (names_of setup) (table_of_sync n) (lists_of n);
}

check_plan_is : (n : ℕ) → IsPlan modes.Check everything (names_of setup) (table_of_sync n) (lists_of n) (check_plan n)
check_plan_is n = record { scope = record { mode_is = refl; only_bad = refl; levels = refl }; table_is = refl; entries = refl }

-- ---- before any block is read

either : (b : Bool) (events : List Event) → (if b then events else events) ≡ events
either true events = refl
either false events = refl

-- of a file as it was recorded, that isn't blocked
quiet_by : (d i : ℕ) (meta : Meta) (entry : Entry) → is_as_recorded meta entry.listed ≡ true → entry.blocked ≡ false
    → (if entry.selected then (if is_as_recorded meta entry.listed then [] else event.Changed d i entry.listed ∷ []) ++ (if entry.blocked && not false then event.Blocked d i ∷ [] else []) else []) ≡ []
quiet_by d i meta entry same free =
    ap₂ (λ (a b : Bool). if entry.selected then (if a then [] else event.Changed d i entry.listed ∷ []) ++ (if b && not false then event.Blocked d i ∷ [] else []) else []) same free ∙ either entry.selected []

module _ (just : IsOfKept) (n : ℕ) where
  abbrev table : TableValue
  table = table_of_sync n

  differs : DiffersInHashesAndInfos (start_of n) table
  differs = differs-closed moment (start_of n) (readings_of n)

  list_of : (d : ℕ) → d < 8 → get_or (lists_of n) d [] ≡ listing_of (tree_at (trees n) d)
  list_of d few = get_or-map listing_of (trees n) d finite.empty [] (omega (arith, few, length-trees n))

  quiet_record : (d i : ℕ) → d < 8 → d < length table.columns → i < length (records_in table d) → record_events (check_plan n) d i ≡ []
  quiet_record d i few below inside =
      let in_start : d < length (start_of n).columns = omega (arith, below, differs.columns) in
      let inside_then : i < length (records_in (start_of n) d) = omega (arith, inside, (differs.files d).count) in
      let made : IsOfFile n d (get_or (records_in (start_of n) d) i no_record) = record_made just n d few in_start i inside_then in
      let file : File = made_file (before n d) d false made.k in
      let path_is : (record_in (column_at table.columns d) i).path ≡ path_of made.k = (differs.files d).path i ∙ made.path in
      let meta_is : (record_at table.columns d i).meta ≡ meta_of file = (differs.files d).meta i ∙ made.meta in
      let listing_is : get_or (lists_of n) d [] ≡ listing_of (tree_of n d) = list_of d few ∙ ap listing_of (tree_is just n d few in_start) in
      let entry_is : entry_at (check_plan n) d i ≡ entry_of everything (get_or (names_of setup) d []) (get_or (lists_of n) d []) (record_in (column_at table.columns d) i)
      = ap (λ (column : List Entry). get_or column i no_entry) (get_or-map-range_with_len (column_entries everything (names_of setup) table (lists_of n)) 0 (length table.columns) d d [] below (omega arith))
      ∙ get_or-map (entry_of everything (get_or (names_of setup) d []) (get_or (lists_of n) d [])) (records_in table d) i no_record no_entry inside in
      let listed : (entry_at (check_plan n) d i).listed ≡ Some (meta_of file)
      = ap (λ (entry : Entry). entry.listed) entry_is
      ∙ ap₂ (λ (files : List ListedFile) (path : List ℕ). found_in files path) listing_is path_is
      ∙ found_tree (tree_of n d) (path_of made.k) ∙ ap (option_map meta_of) (file_at (before n d) d false (files_of n) made.k made.below (few_files n)) in
      let plain : ArePlain (get_or (lists_of n) d []) = subst ArePlain (sym (list_of d few)) (tree_plain_at n d few) in
      let free : (entry_at (check_plan n) d i).blocked ≡ false
      = ap (λ (entry : Entry). entry.blocked) entry_is ∙ none_blocks (get_or (lists_of n) d []) (record_in (column_at table.columns d) i).path plain (path_plain just n d i few below inside) in
      quiet_by d i (record_at table.columns d i).meta (entry_at (check_plan n) d i)
      (ap₂ (λ (meta : Meta) (found : Option Meta). is_as_recorded meta found) meta_is listed ∙ same_meta_itself (meta_of file)) free

  quiet_opening : length table.columns ≡ 8 → opening_events (check_plan n) ≡ []
  quiet_opening eight = range_empty (column_events (check_plan n)) (length table.columns) (λ d below.
      range_empty (record_events (check_plan n) d) (length (records_in table d)) (λ i inside. quiet_record d i (omega (arith, below, eight)) below inside))

all_clean : (plan : FixPlan) (stripes : List StripeFacts) → ((k : ℕ) → k < length stripes → stripe_events plan (facts_at stripes k) ≡ []) → events_of plan stripes ≡ []
all_clean plan [] each = refl
all_clean plan (facts ∷ stripes) each = ap₂ (λ (front back : List Event). front ++ back) (each 0 (omega arith)) (all_clean plan stripes (λ k within. each (suc k) (omega (arith, within))))

-- ---- the check

module _ (laid : IsLaidByTrees) (read : IsReadByTrees) (leaves : LeavesTheOthers) (gives : GivesItsHashes) (exactly : FindsExactly) (no_change : FindsNoChange) (finds : FindsCells)
    (n : ℕ) (synced : SyncEnd) (fixed checked : FixEnd) (last : Array) (is : IsCourse n synced fixed checked last)
    (saves : SavesValid) (gives_facts : GivesFacts) (was_changed : WrongWasChanged) (by_counting : KnownByCounting) (holds : WholeLevelsHold) (just : IsOfKept)
    (genuine : AreGenuine is.fix.plan (snapshot n) (facts_of is.fix.stripes)) (restores : RestoresGenuine) (leaves_bytes : LeavesBytes) where
  abbrev start : TableValue
  start = start_of n

  abbrev its_table : TableValue
  its_table = table_of_sync n

  abbrev plan : FixPlan
  plan = check_plan n

  abbrev news : List FolderView
  news = is.after_fix.folders

  abbrev files : Files
  files = (vault_of is.after_sync).files

  abbrev after : Files
  after = (vault_of is.after_fix).files

  abbrev stripes : List StripeFacts
  stripes = is.check.stripes

  none : fixed.left ≡ 0
  none = left_none laid read leaves gives exactly no_change finds n synced fixed checked last is saves gives_facts was_changed by_counting holds just genuine

  unwritten : fixed.parities ≡ 0
  unwritten = parities_none laid read leaves gives exactly no_change finds n synced fixed checked last is saves gives_facts was_changed by_counting holds just genuine

  trees_same : trees_of news ≡ trees n
  trees_same = trees_restored laid read leaves gives exactly no_change finds n synced fixed checked last is saves gives_facts was_changed by_counting holds just genuine restores leaves_bytes

  tell_news : AllTell news
  tell_news = tell_fixed laid read n synced fixed checked last is none

  many : length news ≡ 8
  many = many_fixed laid read n synced fixed checked last is none

  differs_so : DiffersInHashesAndInfos start its_table
  differs_so = differs-closed moment start (readings_of n)

  eight : length its_table.columns ≡ 8
  eight = differs_so.columns ∙ columns_of_start n

  check : IsCheckOf is.check.plan is.check.lists (trees_of news) after stripes checked
  check = check_is synced.table is.after_fix last checked is.check tell_news (none_at news is.fix_unfailed.folders) is.fix_unfailed.vault is.check_unfailed (many ∙ sym (synced_columns (begun n) is.after_sync synced is.sync))

  lists_are : is.check.lists ≡ lists_of n
  lists_are = ext_get_or [] is.check.lists (lists_of n) (is.check.listed.as_many ∙ many ∙ sym (length-map (trees n) listing_of ∙ length-trees n)) (λ d within.
      let below : d < length news = omega (arith, within, is.check.listed.as_many) in
      list_is news is.check.mids is.check.lists is.check.listed tell_news d below ∙ ap (λ (ts : List Tree). listing_of (tree_at ts d)) trees_same ∙ sym (list_of just n d (omega (arith, below, many))))

  plan_is : is.check.plan ≡ plan
  plan_is = one_plan modes.Check everything (names_of setup) its_table (lists_of n) is.check.plan plan
      (subst (λ (t : TableValue). IsPlan modes.Check everything (names_of setup) t (lists_of n) is.check.plan) (table_same laid read n synced fixed checked last is)
      (subst (λ (ls : List (List ListedFile)). IsPlan modes.Check everything (names_of setup) synced.table ls is.check.plan) lists_are is.check.plan_is)) (check_plan_is n)

  checks : IsCheckOf plan (lists_of n) (trees n) after stripes checked
  checks =
      subst (λ (p : FixPlan). IsCheckOf p (lists_of n) (trees n) after stripes checked) plan_is
      (subst (λ (ls : List (List ListedFile)). IsCheckOf is.check.plan ls (trees n) after stripes checked) lists_are
      (subst (λ (ts : List Tree). IsCheckOf is.check.plan is.check.lists ts after stripes checked) trees_same check))

  module _ (k : ℕ) (within : k < length stripes) where
    abbrev facts : StripeFacts
    facts = facts_at stripes k

    its : AreFacts plan facts
    its = checks.are k no_facts within

    below : facts.stripe < length start.infos
    below = omega (arith, its.within, differs_so.stripes)

    is_synced_there : is_synced plan facts.stripe ≡ true
    is_synced_there = ap is_synced_mark (synced_of laid read leaves gives exactly no_change finds n synced fixed checked last is facts.stripe its.within).mark

    tried : IsTried plan facts true
    tried = subst (IsTried plan facts) (ap (λ (b : Bool). b && not (is_audit plan.scope.mode)) is_synced_there) its.tried

    levels : (r : ℕ) → r < length facts.levels → get_or facts.levels r no_level ≡ kept_level its_table.shape.block_size (Some (read_from (parity_of files r) (facts.stripe * its_table.shape.block_size) its_table.shape.block_size))
    levels r inside = checks.came.levels k r within inside
        ∙ ap (λ (bytes : List ℕ). kept_level its_table.shape.block_size (Some (read_from bytes (facts.stripe * its_table.shape.block_size) its_table.shape.block_size)))
        (levels_left synced.table (after_damage n is.after_sync) is.after_fix fixed is.fix unwritten r)

    sums : (r : ℕ) → r < length facts.levels → HasLevel its_table.shape.block_size r facts.stripe (snapshot n facts.stripe) (parity_of files r)
    sums r inside = (sound_of laid read leaves gives exactly no_change finds n synced fixed checked last is).sums facts.stripe r
        (synced_of laid read leaves gives exactly no_change finds n synced fixed checked last is facts.stripe its.within) (omega (arith, inside, tried.0)) refl

    module _ (d : ℕ) (lt : d < length its_table.columns) where
      under : d < length start.columns
      under = omega (arith, lt, differs_so.columns)

      listed : get_or (lists_of n) d [] ≡ listing_of (tree_at (trees n) d)
      listed = list_of just n d (omega (arith, lt, eight))

      alike : KeptAlike (slot_of facts d) (held_slot its_table (lists_of n) (trees n) d facts.stripe)
      alike = checks.came.slots k d within lt

      held_is : held_slot its_table (lists_of n) (trees n) d facts.stripe ≡ slot_by start (trees n) facts.stripe d
      held_is = held_same finds start its_table differs_so (trees n) (trees n) (lists_of n) d facts.stripe under listed refl
          (verified_of laid read leaves gives exactly no_change finds n synced fixed checked last is facts.stripe below)
          (seen_before laid read leaves gives exactly no_change finds n synced fixed checked last is facts.stripe d below under)

      right : is_damaged plan.table.shape.kind (seen_at plan facts.stripe d) (slot_of facts d) ≡ false
      right = undamaged finds start its_table differs_so (trees n) (trees n) (lists_of n) d facts.stripe under listed refl
          (verified_of laid read leaves gives exactly no_change finds n synced fixed checked last is facts.stripe below)
          (seen_before laid read leaves gives exactly no_change finds n synced fixed checked last is facts.stripe d below under) (slot_of facts d) alike

      came : is_unread (slot_of facts d).cell.found ≡ false
      came = ap is_unread alike.found ∙ ap (λ (slot : SlotValue). is_unread slot.cell.found) held_is ∙ slot_read start (trees n) facts.stripe d

      not_missing : is_missing plan facts d ≡ false
      not_missing = ap (λ (b : Bool). b && not (is_some (gift_of facts d))) right

      block_is : bytes_before plan facts d ≡ get_or (snapshot n facts.stripe) d []
      block_is =
          let slots : List SlotValue = (reading_by start (trees n) facts.stripe).slots in
          let there : d < length slots = omega (arith, under, length-map-range_with_len (slot_by start (trees n) facts.stripe) 0 (length start.columns)) in
          ap (λ (b : Bool). if b then [] else gift_or (gift_of facts d) (bytes_of (slot_of facts d))) not_missing
          ∙ ap (λ (gift : Option (List ℕ)). gift_or gift (bytes_of (slot_of facts d))) (checks.none k no_facts within d)
          ∙ bytes_same (slot_of facts d) (held_slot its_table (lists_of n) (trees n) d facts.stripe) alike
          ∙ ap bytes_of held_is
          ∙ sym (get_or-map bytes_of slots d no_slot [] there ∙ ap bytes_of (get_or-map-range_with_len (slot_by start (trees n) facts.stripe) 0 (length start.columns) d d no_slot under (omega arith)))

    row_is : row_before plan facts ≡ snapshot n facts.stripe
    row_is =
        let slots : List SlotValue = (reading_by start (trees n) facts.stripe).slots in
        let long : length (row_before plan facts) ≡ length its_table.columns = length-map-range_with_len (bytes_before plan facts) 0 (length its_table.columns) in
        ext_get_or [] (row_before plan facts) (snapshot n facts.stripe)
        (long ∙ differs_so.columns ∙ sym (length-map slots bytes_of ∙ length-map-range_with_len (slot_by start (trees n) facts.stripe) 0 (length start.columns)))
        (λ d inner.
        let lt : d < length its_table.columns = omega (arith, inner, long) in
        get_or-map-range_with_len (bytes_before plan facts) 0 (length its_table.columns) d d [] lt (omega arith) ∙ block_is d lt)

    known : facts.row ≡ Some (snapshot n facts.stripe)
    known =
        let none_missing : missing_in plan facts ≡ [] = filter_none (is_missing plan facts) (range_with_len 0 (length its_table.columns)) (λ j e inner.
        let lt : j < length its_table.columns = omega (arith, inner, length-range_with_len 0 (length its_table.columns)) in
        let at : get_or (range_with_len 0 (length its_table.columns)) j e ≡ 0 + j = get_or-range_with_len 0 (length its_table.columns) j e lt in
        let it : get_or (range_with_len 0 (length its_table.columns)) j e ≡ j = omega (arith, at) in
        ap (is_missing plan facts) it ∙ not_missing j lt) in
        subst (λ (ms : List ℕ). IsKnown its_table.shape (map (wanted_at plan facts) ms) (row_before plan facts) facts.levels facts.row) none_missing tried.1
        ∙ ap (λ (row : Row). Some row) row_is

    is_clean : IsClean plan facts (snapshot n facts.stripe)
    is_clean = record {
      synced = is_synced_there;
      right = right;
      came = came;
      whole = λ r inside. ap (λ (level : LevelValue). level.state) (levels r inside) ∙ (its_whole holds plan files (snapshot n facts.stripe) facts levels sums r inside).0;
      sums = λ r inside. ap (λ (level : LevelValue). level.block) (levels r inside) ∙ (its_whole holds plan files (snapshot n facts.stripe) facts levels sums r inside).1;
      known = known;
    }

  pub findings_none : checked.findings ≡ 0
  findings_none =
      let quiet : check_events plan stripes ≡ [] = ap₂ (λ (front back : List Event). front ++ back) (quiet_opening just n eight)
      (all_clean plan stripes (λ k within. none_found plan (facts_at stripes k) (snapshot n (facts_at stripes k).stripe) (is_clean k within))) in
      checks.findings ∙ ap (λ (events : List Event). at_most (count_by is_finding events)) quiet
