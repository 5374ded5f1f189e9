-- An exercise whose fix meets no block that has a recorded hash by chance mends all, so it has one summary.
use Rattle.std.proofs.Common.{◌≡◌, ◌↔◌, ℕ, zero, suc, ◌+◌, ◌*◌, ◌<◌, ◌≤◌, ◌&&◌, List, [], ◌∷◌, ◌++◌, length, map, get_or, set, not, Bool, true, false, Some, refl, sym, ap, ◌∙◌, subst, arith}
use Rattle.std.specs.Prelude.{count_by, is_some}
use Rattle.std.specs.FinMap as finite
use Rattle.std.specs.List.{Contains}
use Rattle.std.proofs.lemmas.List.{append-nil, get_or-map, length-map, take_all}
use Rattle.std.proofs.lemmas.List.Elements.{All-contains_itself, All-from_get_or}
use Rattle.folder_listing.specs.Kept.{kept_lists}
use Rattle.cauchy.specs.Recovery.{AreBytes as AreRowBytes}
use Rattle.disk_model.specs.Bytes.{read_from}
use Rattle.disk_model.specs.Files.{Files, parity_of}
use Rattle.disk_model.specs.Folder.{FolderView}
use Rattle.disk_model.specs.Tree.{Tree, listing_of}
use Rattle.file_table.specs.Cells.{cell_view, stripe_view}
use Rattle.file_table.specs.Closing.{DiffersInHashesAndInfos}
use Rattle.file_table.specs.Table.{TableValue, column_at, info_at, is_synced_mark, no_info}
use Rattle.parity_writer.specs.LevelReading.{kept_level}
use Rattle.parity_writer.specs.LevelsValue.{no_level}
use Rattle.parity_writer.specs.Parity.{HasLevel, HoldsRows, Row}
use Rattle.parity_writer.specs.Sound.{IsSynced as IsSyncedStripe, Sound, Closed, last_row, IsRowOf}
use Rattle.snap_exercise.specs.Exercise.{Summary}
use Rattle.snap_exercise.specs.Exercised.{Array, IsCourse, IsExercise, damaged_lists, damaged_trees, fix_plan, readings_of, start_of, table_of_sync, vault_of}
use Rattle.snap_exercise.specs.Generated.{first_table, moment, setup, trees, turned_tree}
use Rattle.snap_exercise.specs.Mends.{MeetsNoChance, MendsAll, snapshot}
use Rattle.snap_exercise.proofs.AfterSyncLemmas.{SavesValid}
use Rattle.snap_exercise.proofs.ClosingLemmas.{FindsExactly, FindsNoChange, all_verified}
use Rattle.snap_exercise.proofs.FixLemmas.{IsFixOf, fix_of_number, levels_of_number, many_trees, parity_of_number, plan_same, valid_of_number}
use Rattle.snap_exercise.proofs.FreeLemmas.{IsOfKept, all_free}
use Rattle.snap_exercise.proofs.IntactLemmas.{WholeLevelsHold, restorable, tells_intact}
use Rattle.snap_exercise.proofs.LawLemmas.{IsLaidByTrees, IsReadByTrees, eight, readings_are, start_is}
use Rattle.snap_exercise.proofs.LeftLemmas.{IsMended, all_left, none_wrong, opening_left}
use Rattle.snap_exercise.proofs.SeenLemmas.{IsDetermined}
use Rattle.snap_exercise.proofs.SnapshotLemmas.{all_bare, row_bytes, row_there, seen_is, sound_by, synced_at, verified_at}
use Rattle.snap_exercise.proofs.UndamagedLemmas.{undamaged}
use Rattle.snap_exercise.proofs.WholeLemmas.{one_summary}
use Rattle.snap_fix.specs.Fixing.{facts_of}
use Rattle.snap_fix.specs.Genuine.{AreGenuine, AreGenuineOf, AreLevelsIn, HasGenuineFacts, IsLevelOf, IsRestorableStripe, TellsIntactLevels}
use Rattle.snap_fix.specs.Mended.{Mended, all_mended_events, is_wrong_level}
use Rattle.snap_report.specs.Kind.{is_left}
use Rattle.snap_sync.specs.Closing.{rows_of}
use Rattle.snap_sync.specs.Part.{AllVerified, reading_by, slot_by, tree_at}
use Rattle.snap_sync.specs.declared.syncing.SyncEnd.{SyncEnd}
use Rattle.snap_sync.proofs.CellLemmas.{FindsCells}
use Rattle.snap_sync.proofs.PartLemmas.{length-layout}
use Rattle.snap_sync.proofs.SeenLemmas.{GivesItsHashes, LeavesTheOthers, view_with}
use Rattle.snap_sync.proofs.StaysLemmas.{differs-closed}
use Rattle.snap_fix.specs.declared.checks.FixEnd.{FixEnd}
use Rattle.stripe_examiner.specs.Counts.{at_most}
use Rattle.stripe_examiner.specs.Facts.{StripeFacts, gift_of, is_missing, slot_of}
use Rattle.stripe_examiner.specs.Findings.{opening_events}
use Rattle.stripe_examiner.specs.Known.{AreFacts, IsTried}
use Rattle.stripe_examiner.specs.Looking.{facts_at, no_facts}
use Rattle.repair_scope.specs.Plan.{FixPlan, is_audit, is_searched, is_synced, seen_in}
use Rattle.stripe_examiner.specs.Place.{starts_of}
use Rattle.stripe_examiner.specs.Present.{ArePresent}
use Rattle.stripe_findings.specs.Reading.{AreRead, StripeReading, is_verified}
use Rattle.stripe_reader.specs.Starts.{StartsValue}

-- of each stripe the row that its sync reads, and none before it
abbrev only_rows : ℕ → Closed
only_rows n stripe = snapshot n stripe ∷ []

-- what snap_fix says of a stripe in which no hash is met by chance
abbrev pub GivesFacts : Type 0
GivesFacts = (plan : FixPlan) (starts : StartsValue) (firsts : List FolderView) (read : Files) (rows : Closed) (is_changed : ℕ → ℕ → Bool) (stripes : List StripeFacts) (facts : StripeFacts)
    → AreGenuineOf plan starts firsts read rows is_changed stripes → Contains stripes facts → is_searched plan facts.stripe ≡ true → HasGenuineFacts plan starts firsts (last_row rows facts.stripe) facts

abbrev pub WrongWasChanged : Type 0
WrongWasChanged = (plan : FixPlan) (starts : StartsValue) (firsts : List FolderView) (read : Files) (rows : Closed) (is_changed : ℕ → ℕ → Bool) (stripes : List StripeFacts) (facts : StripeFacts) (r : ℕ)
    → AreGenuineOf plan starts firsts read rows is_changed stripes → Contains stripes facts → is_wrong_level plan facts r ≡ true → is_changed facts.stripe r ≡ true

abbrev pub KnownByCounting : Type 0
KnownByCounting = (plan : FixPlan) (starts : StartsValue) (firsts : List FolderView) (row : Row) (facts : StripeFacts) (is_intact : ℕ → Bool)
    → HasGenuineFacts plan starts firsts row facts → AreRowBytes row → TellsIntactLevels plan facts row is_intact → (is_some facts.row ≡ true) ↔ IsRestorableStripe plan facts is_intact

-- the damage leaves the trees from the fourth on
tree_stays : (those : List Tree) (a b c : Tree) (d : ℕ) → 3 ≤ d → tree_at (set (set (set those 0 a) 1 b) 2 c) d ≡ tree_at those d
tree_stays [] a b c d far = refl
tree_stays (x ∷ []) a b c zero far = absurd (omega (arith, far))
tree_stays (x ∷ []) a b c (suc d) far = refl
tree_stays (x ∷ y ∷ []) a b c zero far = absurd (omega (arith, far))
tree_stays (x ∷ y ∷ []) a b c (suc zero) far = absurd (omega (arith, far))
tree_stays (x ∷ y ∷ []) a b c (suc (suc d)) far = refl
tree_stays (x ∷ y ∷ z ∷ those) a b c zero far = absurd (omega (arith, far))
tree_stays (x ∷ y ∷ z ∷ those) a b c (suc zero) far = absurd (omega (arith, far))
tree_stays (x ∷ y ∷ z ∷ those) a b c (suc (suc zero)) far = absurd (omega (arith, far))
tree_stays (x ∷ y ∷ z ∷ those) a b c (suc (suc (suc d))) far = refl

not_true : (b : Bool) → (b ≡ true → false ≡ true) → b ≡ false
not_true true wrong = absurd (let clash : false ≡ true = wrong refl in cc)
not_true false wrong = refl

bare : (n stripe : ℕ) → info_at (start_of n).infos stripe ≡ no_info
bare n = all_bare first_table (kept_lists setup (map listing_of (trees n))) refl

pub columns_of_start : (n : ℕ) → length (start_of n).columns ≡ 8
columns_of_start n = length-layout first_table (kept_lists setup (map listing_of (trees n)))

-- ---- after the sync

module _ (laid : IsLaidByTrees) (read : IsReadByTrees) (leaves : LeavesTheOthers) (gives : GivesItsHashes) (exactly : FindsExactly) (no_change : FindsNoChange) (finds : FindsCells)
    (n : ℕ) (synced : SyncEnd) (fixed checked : FixEnd) (last : Array) (is : IsCourse n synced fixed checked last) where
  abbrev start : TableValue
  start = start_of n

  abbrev table : TableValue
  table = table_of_sync n

  abbrev new : Array
  new = is.after_sync

  abbrev files : Files
  files = (vault_of new).files

  verified : AllVerified start (readings_of n)
  verified = all_verified laid read exactly no_change n new synced is.sync is.sync_unfailed

  are_read : AreRead start (readings_of n) is.sync.listed new.folders
  are_read =
      subst (λ (rs : List StripeReading). AreRead start rs is.sync.listed new.folders) (append-nil is.sync.readings ∙ readings_are laid read n new synced is.sync is.sync_unfailed)
      (subst (λ (t : TableValue). AreRead t (is.sync.readings ++ []) is.sync.listed new.folders) (start_is laid read n new synced is.sync is.sync_unfailed) is.sync.reads.read)

  folders : length is.sync.listed ≡ length start.columns
  folders = is.sync.laid.as_many ∙ eight laid read n new synced is.sync is.sync_unfailed ∙ sym (columns_of_start n)

  holds_rows : HoldsRows start.shape.levels start.shape.block_size (rows_of start (readings_of n)) files
  holds_rows = subst (λ (rs : List StripeReading). HoldsRows start.shape.levels start.shape.block_size (rows_of start rs) files) (take_all (length (readings_of n)) (readings_of n) (omega arith))
      (parity_of_number laid read n synced fixed checked last is).rows_held

  sound : Sound table files (only_rows n) (λ stripe level. false)
  sound = sound_by start (trees n) (bare n) leaves gives verified moment finds is.sync.listed new.folders are_read folders files holds_rows

  pub sound_of : Sound table files (only_rows n) (λ stripe level. false)
  sound_of = sound

  row_of_stripe : (s : ℕ) → IsSyncedStripe table s → IsRowOf table.shape (stripe_view table s) (snapshot n s)
  row_of_stripe = row_there start (trees n) (bare n) leaves gives verified moment finds is.sync.listed new.folders are_read folders

  pub verified_of : (s : ℕ) → s < length start.infos → is_verified start (reading_by start (trees n) s) ≡ true
  verified_of = verified_at start (trees n) (bare n) leaves gives verified moment

  pub seen_before : (s d : ℕ) → s < length start.infos → d < length start.columns → seen_in table s d ≡ view_with (slot_by start (trees n) s d).digest (cell_view (column_at start.columns d) s)
  seen_before = seen_is start (trees n) (bare n) leaves gives verified moment

  pub synced_of : (s : ℕ) → s < length table.infos → IsSyncedStripe table s
  synced_of = synced_at start (trees n) (bare n) leaves gives verified moment

  differs : DiffersInHashesAndInfos start table
  differs = differs-closed moment start (readings_of n)

  eight_columns : length table.columns ≡ 8
  eight_columns = differs.columns ∙ columns_of_start n

  -- ---- its fix

  abbrev plan : FixPlan
  plan = fix_plan n

  abbrev stripes : List Mended
  stripes = is.fix.stripes

  abbrev found : List StripeFacts
  found = facts_of stripes

  fix_is : IsFixOf plan (damaged_lists n) (damaged_trees n) files stripes fixed
  fix_is = fix_of_number laid read n synced fixed checked last is

  plan_is : is.fix.plan ≡ plan
  plan_is = plan_same laid read n synced fixed checked last is

  abbrev starts : StartsValue
  starts = starts_of synced.table is.fix.lists

  levels_of : AreLevelsIn plan.table.shape.block_size files found
  levels_of = All-from_get_or (λ (facts : StripeFacts). (r : ℕ) → r < length facts.levels → IsLevelOf plan.table.shape.block_size facts.stripe r files (get_or facts.levels r no_level)) found no_facts
      (λ k within r below. record {
        reading = Some (read_from (parity_of files r) ((facts_at found k).stripe * plan.table.shape.block_size) plan.table.shape.block_size);
        is_kept = fix_is.seen.came.levels k r within below;
        is_of = refl;
      })

  module _ (saves : SavesValid) (gives_facts : GivesFacts) (was_changed : WrongWasChanged) (by_counting : KnownByCounting) (holds : WholeLevelsHold) (just : IsOfKept)
      (genuine : AreGenuine is.fix.plan (snapshot n) found) where
    are_genuine : AreGenuineOf plan starts is.fix.mids files (only_rows n) (λ stripe level. false) found
    are_genuine = record {
      valid = valid_of_number laid read n synced fixed checked last is saves;
      are = fix_is.seen.are;
      present = subst (λ (p : FixPlan). ArePresent p starts is.fix.mids found) plan_is is.fix.finds.cells;
      levels = levels_of;
      sound = sound;
      genuine = subst (λ (p : FixPlan). AreGenuine p (snapshot n) found) plan_is genuine;
    }

    module _ (k : ℕ) (within : k < length found) where
      abbrev facts : StripeFacts
      facts = facts_at found k

      its : AreFacts plan facts
      its = fix_is.seen.are k no_facts within

      one : Contains found facts
      one = All-contains_itself found k no_facts within

      below : facts.stripe < length start.infos
      below = omega (arith, its.within, differs.stripes)

      synced_stripe : IsSyncedStripe table facts.stripe
      synced_stripe = synced_at start (trees n) (bare n) leaves gives verified moment facts.stripe its.within

      is_synced_there : is_synced plan facts.stripe ≡ true
      is_synced_there = ap is_synced_mark synced_stripe.mark

      searched : is_searched plan facts.stripe ≡ true
      searched = ap (λ (b : Bool). b && not (is_audit plan.scope.mode)) is_synced_there

      tried : IsTried plan facts true
      tried = subst (IsTried plan facts) searched its.tried

      three : length facts.levels ≡ 3
      three = tried.0 ∙ levels_of_number n

      levels : (r : ℕ) → r < length facts.levels → get_or facts.levels r no_level ≡ kept_level table.shape.block_size (Some (read_from (parity_of files r) (facts.stripe * table.shape.block_size) table.shape.block_size))
      levels r inside = fix_is.seen.came.levels k r within inside

      sums : (r : ℕ) → r < length facts.levels → HasLevel table.shape.block_size r facts.stripe (snapshot n facts.stripe) (parity_of files r)
      sums r inside = sound.sums facts.stripe r synced_stripe (omega (arith, inside, tried.0)) refl

      not_missing : (d : ℕ) → 3 ≤ d → d < length table.columns → is_missing plan facts d ≡ false
      not_missing d far lt =
          let under : d < length start.columns = omega (arith, lt, differs.columns) in
          let stays : tree_at (damaged_trees n) d ≡ tree_at (trees n) d = tree_stays (trees n) finite.empty finite.empty (turned_tree n) d far in
          let listed : get_or (damaged_lists n) d [] ≡ listing_of (tree_at (trees n) d)
          = get_or-map listing_of (damaged_trees n) d finite.empty [] (omega (arith, lt, eight_columns, many_trees laid read n synced fixed checked last is)) ∙ ap listing_of stays in
          ap (λ (b : Bool). b && not (is_some (gift_of facts d)))
          (undamaged finds start table differs (trees n) (damaged_trees n) (damaged_lists n) d facts.stripe under listed stays
          (verified_at start (trees n) (bare n) leaves gives verified moment facts.stripe below)
          (seen_is start (trees n) (bare n) leaves gives verified moment facts.stripe d below under)
          (slot_of facts d) (fix_is.seen.came.slots k d within lt))

      pub is_genuine : HasGenuineFacts plan starts is.fix.mids (snapshot n facts.stripe) facts
      is_genuine = gives_facts plan starts is.fix.mids files (only_rows n) (λ stripe level. false) found facts are_genuine one searched

      pub its_row : IsRowOf table.shape (stripe_view table facts.stripe) (snapshot n facts.stripe)
      its_row = row_of_stripe facts.stripe synced_stripe

      pub its_bytes : AreRowBytes (snapshot n facts.stripe)
      its_bytes = row_bytes start (trees n) (bare n) leaves gives verified moment finds is.sync.listed new.folders are_read folders facts.stripe below

      pub its_intact : TellsIntactLevels plan facts (snapshot n facts.stripe) (λ r. true)
      its_intact = tells_intact holds plan files (snapshot n facts.stripe) facts levels sums

      pub its_restorable : IsRestorableStripe plan facts (λ r. true)
      its_restorable = restorable holds plan files (snapshot n facts.stripe) facts levels sums three not_missing

      known : is_some facts.row ≡ true
      known = (by_counting plan starts is.fix.mids (snapshot n facts.stripe) facts (λ r. true) is_genuine its_bytes its_intact).1 its_restorable

      is_mended : IsMended plan facts
      is_mended = record {
        synced = is_synced_there;
        known = known;
        right = λ r. not_true (is_wrong_level plan facts r) (λ wrong. was_changed plan starts is.fix.mids files (only_rows n) (λ stripe level. false) found facts r are_genuine one wrong);
      }

    abbrev facts_in : Mended → StripeFacts
    facts_in mended = mended.facts

    abbrev no_mended : Mended
    no_mended = record { facts = no_facts; answers = [] }

    each_mended : (k : ℕ) → k < length stripes → IsMended plan (get_or stripes k no_mended).facts
    each_mended k within = subst (IsMended plan) (get_or-map facts_in stripes k no_mended no_facts within) (is_mended k (omega (arith, within, length-map stripes facts_in)))

    nothing_left : count_by is_left (all_mended_events plan stripes) ≡ 0
    nothing_left = all_left plan stripes no_mended each_mended (λ k within. fix_is.seen.answered k no_mended within)

    pub left_none : fixed.left ≡ 0
    left_none =
        let opening = opening_left plan (λ d i lt inside. all_free just n d i (omega (arith, lt, eight_columns)) lt inside) in
        let total : count_by is_left (opening_events plan) + count_by is_left (all_mended_events plan stripes) ≡ 0 = omega (arith, opening, nothing_left) in
        fix_is.left ∙ ap at_most total

    pub parities_none : fixed.parities ≡ 0
    parities_none = fix_is.parities ∙ ap at_most (none_wrong plan stripes no_mended each_mended)

-- ---- the exercise

module _ (laid : IsLaidByTrees) (read : IsReadByTrees) (leaves : LeavesTheOthers) (gives : GivesItsHashes) (exactly : FindsExactly) (no_change : FindsNoChange) (finds : FindsCells)
    (saves : SavesValid) (gives_facts : GivesFacts) (was_changed : WrongWasChanged) (by_counting : KnownByCounting) (holds : WholeLevelsHold) (just : IsOfKept) where
  pub mends_all : (n : ℕ) (s : Summary) (is : IsExercise n s) → MeetsNoChance n s is → MendsAll s
  mends_all n s is genuine = record {
    left = ap (λ (t : Summary). t.left) is.summary
        ∙ left_none laid read leaves gives exactly no_change finds n is.synced is.fixed is.checked is.last is.course saves gives_facts was_changed by_counting holds just genuine;
    parities = ap (λ (t : Summary). t.parities) is.summary
        ∙ parities_none laid read leaves gives exactly no_change finds n is.synced is.fixed is.checked is.last is.course saves gives_facts was_changed by_counting holds just genuine;
  }

  pub one_mended : IsDetermined → (n : ℕ) (one other : Summary) (is : IsExercise n one) → MeetsNoChance n one is → IsExercise n other → one ≡ other
  one_mended determined n one other first genuine second =
      let mended : MendsAll one = mends_all n one first genuine in
      one_summary laid read saves determined n one other first second mended.left mended.parities
