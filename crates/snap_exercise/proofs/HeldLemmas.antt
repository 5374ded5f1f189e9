-- What a check and a fix read of an array that tells all, where no count of faults rose: it is what the array holds.
use Rattle.std.proofs.Common.{◌≡◌, ℕ, zero, suc, ◌+◌, ◌*◌, ◌<◌, ◌≤◌, List, [], ◌∷◌, length, get_or, count_by, cond, Bool, true, false, IsTrue, None, Some, refl, sym, ap, ◌∙◌, subst, arith}
use Rattle.std.specs.Prelude.{sum_by}
use Rattle.std.proofs.lemmas.List.{ext_get_or, get_or-map, length-map}
use Rattle.std.proofs.lemmas.List.Sums.{sum_by-cons}
use Rattle.folder_listing.specs.Kept.{ListedFile}
use Rattle.folder_listing.specs.Listings.{ListsAll}
use Rattle.disk_model.specs.Bytes.{read_from}
use Rattle.disk_model.specs.Cause.{Rose, RoseBy}
use Rattle.disk_model.specs.Files.{Files, parity_of}
use Rattle.disk_model.specs.Folder.{FolderView}
use Rattle.disk_model.specs.Tree.{Tree, listing_of}
use Rattle.disk_model.specs.Vault.{VaultView}
use Rattle.file_table.specs.Table.{TableValue}
use Rattle.file_table.specs.declared.shape.Shape.{Shape}
use Rattle.parity_writer.specs.LevelReading.{LevelReading, IsReadingOf as IsLevelReading, has_failed, kept_level}
use Rattle.parity_writer.specs.LevelsValue.{no_level}
use Rattle.snap_sync.specs.Part.{AllTell, NoneRose, tree_at, trees_of}
use Rattle.stripe_examiner.specs.Facts.{StripeFacts, slot_of}
use Rattle.stripe_examiner.specs.Findings.{is_unread as is_not_found}
use Rattle.stripe_examiner.specs.Looking.{AreAllLevelsOf, AreRead, facts_at, no_facts, numbers_of, unread_cells, unread_in}
use Rattle.repair_scope.specs.Plan.{FixPlan}
use Rattle.stripe_examiner.specs.Place.{starts_of}
use Rattle.stripe_examiner.specs.Present.{ArePresent}
use Rattle.stripe_reader.specs.Column.{IsReadingOf, no_task}
use Rattle.stripe_reader.specs.Columns.{folder_at}
use Rattle.stripe_reader.specs.Reading.{CellReading, NoBlock, Nowhere, Beyond, Unread, Gone, Part, Whole, Task, given_by, is_unread, task_at, tasks_at}
use Rattle.stripe_reader.specs.Slot.{kept}
use Rattle.stripe_reader.specs.SlotValue.{SlotValue}
use Rattle.stripe_reader.specs.WindowValue.{no_slot}
use Rattle.snap_exercise.proofs.SeenLemmas.{KeptAlike, kept_same}
use Rattle.snap_fix.proofs.FixCountLemmas.{count_cons}

pub tree_of_folder : (folders : List FolderView) (d : ℕ) → tree_at (trees_of folders) d ≡ (folder_at folders d).tree
tree_of_folder [] d = refl
tree_of_folder (folder ∷ folders) zero = refl
tree_of_folder (folder ∷ folders) (suc d) = tree_of_folder folders d

pub one_counted : {X : Type 0} (p : X → Bool) (xs : List X) (k : ℕ) (d : X) → k < length xs → p (get_or xs k d) ≡ true → 1 ≤ count_by p xs
one_counted p [] k d within is = absurd (omega (arith, within))
one_counted p (x ∷ xs) zero d within is =
    let one : count_by p (x ∷ []) ≡ 1 = ap (λ (b : Bool). 0 + cond b 1 0) is in
    omega (arith, count_cons p x xs, one)
one_counted p (x ∷ xs) (suc k) d within is = let more = one_counted p xs k d (omega (arith, within)) is in omega (arith, count_cons p x xs, more)

not_true : (b : Bool) → (b ≡ true → ⊥) → b ≡ false
not_true true never = absurd (never refl)
not_true false never = refl

-- ---- what is held

-- the slot of what trees hold of a cell, whose files stand where they were listed
abbrev pub held_slot : TableValue → List (List ListedFile) → List Tree → ℕ → ℕ → SlotValue
held_slot table lists trees d stripe = kept table.shape (given_by (tree_at trees d) (task_at table (starts_of table lists) d stripe))

-- just that came of the cells and of the levels of stripes
pub record CameAsHeld (table : TableValue) (lists : List (List ListedFile)) (trees : List Tree) (files : Files) (stripes : List StripeFacts) : Type 0 where
  pub slots : (k d : ℕ) → k < length stripes → d < length table.columns
      → KeptAlike (slot_of (facts_at stripes k) d) (held_slot table lists trees d (facts_at stripes k).stripe)
  pub levels : (k r : ℕ) → k < length stripes → r < length (facts_at stripes k).levels
      → get_or (facts_at stripes k).levels r no_level
      ≡ kept_level table.shape.block_size (Some (read_from (parity_of files r) ((facts_at stripes k).stripe * table.shape.block_size) table.shape.block_size))

-- ---- counts that did not rise

pub rose_since : (n first mid last : ℕ) → 1 ≤ n → first ≤ mid → RoseBy n mid last → Rose first last
rose_since n first mid last some later rose = omega (arith, some, later, rose)

pub none_risen : (n first last : ℕ) → ¬ (Rose first last) → RoseBy n first last → n ≡ 0
none_risen zero first last none rose = refl
none_risen (suc n) first last none rose = absurd (none (rose_since (suc n) first first last (omega arith) (omega arith) rose))

-- ---- the listings

module _ (olds mids : List FolderView) (lists : List (List ListedFile)) (listed : ListsAll olds mids lists) (tell : AllTell olds) where
  pub list_is : (d : ℕ) → d < length olds → get_or lists d [] ≡ listing_of (tree_at (trees_of olds) d)
  list_is d below = (listed.each d below).found (tell d below) ∙ ap listing_of (sym (tree_of_folder olds d))

  pub tells_then : (d : ℕ) → d < length olds → IsTrue (folder_at mids d).tells
  tells_then d below = (listed.each d below).call.called.goes_on.tells ∙ tell d below

  pub tree_then : (d : ℕ) → d < length olds → (folder_at mids d).tree ≡ tree_at (trees_of olds) d
  tree_then d below = (listed.each d below).call.tree (tell d below) ∙ sym (tree_of_folder olds d)

pub lists_same : (olds mids others mids_then : List FolderView) (lists lists_then : List (List ListedFile)) → ListsAll olds mids lists → ListsAll others mids_then lists_then → AllTell olds → AllTell others
    → trees_of olds ≡ trees_of others → lists ≡ lists_then
lists_same olds mids others mids_then lists lists_then listed listed_then tell tell_then trees =
    let many : length olds ≡ length others
    = sym (length-map olds (λ (folder : FolderView). folder.tree)) ∙ ap length trees ∙ length-map others (λ (folder : FolderView). folder.tree) in
    ext_get_or [] lists lists_then (listed.as_many ∙ many ∙ sym listed_then.as_many)
    (λ d within.
    let below : d < length olds = omega (arith, within, listed.as_many) in
    list_is olds mids lists listed tell d below
    ∙ ap (λ (ts : List Tree). listing_of (tree_at ts d)) trees
    ∙ sym (list_is others mids_then lists_then listed_then tell_then d (omega (arith, below, many))))

-- ---- the levels

-- one that did not fail gave what the file holds
level_given : (v : VaultView) (size stripe r : ℕ) (reading : LevelReading) → IsTrue v.tells → has_failed reading ≡ false → IsLevelReading v size stripe r reading
    → kept_level size reading ≡ kept_level size (Some (read_from (parity_of v.files r) (stripe * size) size))
level_given v size stripe r None tells came is = absurd (let clash : true ≡ false = came in cc)
level_given v size stripe r (Some bytes) tells came is = ap (λ (bs : List ℕ). kept_level size (Some bs)) (is.1 tells)

-- none of some that are there failed, where the count of those that did is none
none_failed : (of : List LevelReading) → count_by has_failed of ≡ 0 → (r : ℕ) → r < length of → has_failed (get_or of r None) ≡ false
none_failed of none r below = not_true (has_failed (get_or of r None)) (λ failed. let one = one_counted has_failed of r None below failed in absurd (omega (arith, one, none)))

pub levels_given : (v : VaultView) (size : ℕ) → IsTrue v.tells → (stripes : List StripeFacts) (readings : List (List LevelReading)) → AreAllLevelsOf size v stripes readings → unread_in readings ≡ 0
    → (k r : ℕ) → k < length stripes → r < length (facts_at stripes k).levels
    → get_or (facts_at stripes k).levels r no_level ≡ kept_level size (Some (read_from (parity_of v.files r) ((facts_at stripes k).stripe * size) size))
levels_given v size tells [] readings are none k r within below = absurd (omega (arith, within))
levels_given v size tells (facts ∷ stripes) [] are none k r within below = absurd are
levels_given v size tells (facts ∷ stripes) (of ∷ readings) are none zero r within below =
    let here = are.0 in
    let total : sum_by (count_by has_failed) (of ∷ readings) ≡ 0 = none in
    let few : count_by has_failed of ≡ 0 = omega (arith, total, sum_by-cons (count_by has_failed) of readings) in
    here.are_kept r below
    ∙ level_given v size facts.stripe r (get_or of r None) tells (none_failed of few r (omega (arith, below, here.as_many))) (here.are_of r below)
levels_given v size tells (facts ∷ stripes) (of ∷ readings) are none (suc k) r within below =
    let total : sum_by (count_by has_failed) (of ∷ readings) ≡ 0 = none in
    let rest : sum_by (count_by has_failed) readings ≡ 0 = omega (arith, total, sum_by-cons (count_by has_failed) of readings) in
    levels_given v size tells stripes readings are.1 rest k r (omega (arith, within)) below

-- ---- the cells of a check

abbrev number : StripeFacts → ℕ
number facts = facts.stripe

module _ (plan : FixPlan) (table : TableValue) (table_is : plan.table ≡ table) (lists : List (List ListedFile)) (stripes : List StripeFacts) (olds mids news : List FolderView)
    (listed : ListsAll olds mids lists) (as_many : length mids ≡ length olds) (columns : length olds ≡ length table.columns) (tell : AllTell olds) (none : NoneRose olds news) where
  module _ (read : AreRead plan (starts_of table lists) stripes mids news) where
    checked_slot : (k d : ℕ) → k < length stripes → d < length table.columns → KeptAlike (slot_of (facts_at stripes k) d) (held_slot table lists (trees_of olds) d (facts_at stripes k).stripe)
    checked_slot k d within lt =
        let below : d < length olds = omega (arith, lt, columns) in
        let its = read.each d (omega (arith, below, as_many)) in
        let stripe : ℕ = (facts_at stripes k).stripe in
        let task_of : ℕ → Task = task_at plan.table (starts_of table lists) d in
        let reading : CellReading = get_or its.readings k NoBlock in
        let few : k < length (numbers_of stripes) = omega (arith, within, length-map stripes number) in
        let near : k < length its.readings = omega (arith, few, its.as_many, length-map (numbers_of stripes) task_of) in
        let slot_is : slot_of (facts_at stripes k) d ≡ kept plan.table.shape reading =
        sym (get_or-map (λ (facts : StripeFacts). slot_of facts d) stripes k no_facts no_slot within)
        ∙ ap (λ (slots : List SlotValue). get_or slots k no_slot) its.are_kept
        ∙ get_or-map (kept plan.table.shape) its.readings k NoBlock no_slot near in
        let task_is : get_or (tasks_at plan.table (starts_of table lists) d (numbers_of stripes)) k no_task ≡ task_of stripe =
        get_or-map task_of (numbers_of stripes) k 0 no_task few ∙ ap task_of (get_or-map number stripes k no_facts 0 within) in
        let is_of : IsReadingOf (folder_at mids d) (task_of stripe) reading = subst (λ (task : Task). IsReadingOf (folder_at mids d) task reading) task_is
        (its.are_of k (omega (arith, few, length-map (numbers_of stripes) task_of))) in
        let later = (listed.each d below).call.called.goes_on.later in
        let came : is_unread reading ≡ false = not_true (is_unread reading) (λ unread. none d below (rose_since (count_by is_unread its.readings) (folder_at olds d).faults (folder_at mids d).faults (folder_at news d).faults (one_counted is_unread its.readings k NoBlock near unread) later its.unread)) in
        kept_same (slot_of (facts_at stripes k) d) (held_slot table lists (trees_of olds) d stripe)
        (slot_is ∙ ap (kept plan.table.shape) (is_of.given (tells_then olds mids lists listed tell d below) came)
        ∙ ap (λ (tree : Tree). kept plan.table.shape (given_by tree (task_of stripe))) (tree_then olds mids lists listed tell d below)
        ∙ ap (λ (t : TableValue). kept t.shape (given_by (tree_at (trees_of olds) d) (task_at t (starts_of table lists) d stripe))) table_is)

    pub check_held : (v : VaultView) (readings : List (List LevelReading)) → AreAllLevelsOf plan.table.shape.block_size v stripes readings → IsTrue v.tells → unread_in readings ≡ 0
        → CameAsHeld table lists (trees_of olds) v.files stripes
    check_held v readings are tells failed = record {
      slots = checked_slot;
      levels = levels_given v table.shape.block_size tells stripes readings (subst (λ (t : TableValue). AreAllLevelsOf t.shape.block_size v stripes readings) table_is are) failed;
    }

  -- ---- the cells of a fix

  found_unread : (shape : Shape) (reading : CellReading) → is_not_found (kept shape reading).cell.found ≡ is_unread reading
  found_unread shape NoBlock = refl
  found_unread shape Nowhere = refl
  found_unread shape Beyond = refl
  found_unread shape (Unread seen) = refl
  found_unread shape (Gone seen) = refl
  found_unread shape (Part seen got) = refl
  found_unread shape (Whole seen bytes) = refl

  module _ (present : ArePresent plan (starts_of table lists) mids stripes)
      (unread : (d : ℕ) → d < length plan.table.columns → RoseBy (unread_cells d stripes) (folder_at olds d).faults (folder_at news d).faults) where
    fixed_slot : (k d : ℕ) → k < length stripes → d < length table.columns → KeptAlike (slot_of (facts_at stripes k) d) (held_slot table lists (trees_of olds) d (facts_at stripes k).stripe)
    fixed_slot k d within lt =
        let below : d < length olds = omega (arith, lt, columns) in
        let of : d < length plan.table.columns = subst (λ (t : TableValue). d < length t.columns) (sym table_is) lt in
        let facts : StripeFacts = facts_at stripes k in
        let slot : SlotValue = slot_of facts d in
        let its = present k no_facts within d of in
        let reading : CellReading = its.reading in
        let task : Task = task_at plan.table (starts_of table lists) d facts.stripe in
        let is_it : (λ (it : StripeFacts). is_not_found (slot_of it d).cell.found) facts ≡ is_unread reading
        = ap is_not_found its.found ∙ found_unread plan.table.shape reading in
        let came : is_unread reading ≡ false = not_true (is_unread reading) (λ failed. none d below
        (rose_since (unread_cells d stripes) (folder_at olds d).faults (folder_at olds d).faults (folder_at news d).faults (one_counted (λ (it : StripeFacts). is_not_found (slot_of it d).cell.found) stripes k no_facts within (is_it ∙ failed)) (omega arith) (unread d of))) in
        let given : reading ≡ given_by (tree_at (trees_of olds) d) task = its.is_of.given (tells_then olds mids lists listed tell d below) came
        ∙ ap (λ (tree : Tree). given_by tree task) (tree_then olds mids lists listed tell d below) in
        let held : kept plan.table.shape reading ≡ held_slot table lists (trees_of olds) d facts.stripe = ap (kept plan.table.shape) given
        ∙ ap (λ (t : TableValue). kept t.shape (given_by (tree_at (trees_of olds) d) (task_at t (starts_of table lists) d facts.stripe))) table_is in
        record {
          found = its.found ∙ ap (λ (it : SlotValue). it.cell.found) held;
          got = its.got ∙ ap (λ (it : SlotValue). it.cell.got) held;
          digest = its.digest ∙ ap (λ (it : SlotValue). it.digest) held;
          block = its.block ∙ ap (λ (it : SlotValue). it.block) held;
        }

    pub fix_held : (v : VaultView) (readings : List (List LevelReading)) → AreAllLevelsOf plan.table.shape.block_size v stripes readings → IsTrue v.tells → unread_in readings ≡ 0
        → CameAsHeld table lists (trees_of olds) v.files stripes
    fix_held v readings are tells failed = record {
      slots = fixed_slot;
      levels = levels_given v table.shape.block_size tells stripes readings (subst (λ (t : TableValue). AreAllLevelsOf t.shape.block_size v stripes readings) table_is are) failed;
    }
