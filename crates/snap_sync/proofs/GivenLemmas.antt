-- What was read of folders that tell their trees: a verified stripe is what the trees give, and all are where no count rose.
use Rattle.std.proofs.Common.{◌≡◌, ℕ, zero, suc, ◌+◌, ◌<◌, List, [], ◌∷◌, length, map, get_or, Bool, true, false, Option, IsTrue, refl, sym, ap, ◌∙◌, subst, arith}
use Rattle.std.specs.List.{All, list_all, range_with_len}
use Rattle.std.proofs.lemmas.Bool.{and_from, and_parts}
use Rattle.std.proofs.lemmas.List.FromFn.{length-range_with_len, get_or-range_with_len, fill_by_all}
use Rattle.disk_model.specs.Folder.{FolderView}
use Rattle.disk_model.specs.Tree.{Tree}
use Rattle.file_table.specs.Cells.{CellView, cell_view}
use Rattle.file_table.specs.Table.{TableValue, column_at}
use Rattle.stripe_reader.specs.Columns.{folder_at}
use Rattle.stripe_reader.specs.Reading.{Task, IsReadingBy, given_by, task_at, is_unread}
use Rattle.stripe_reader.specs.Slot.{kept}
use Rattle.stripe_reader.specs.SlotValue.{SlotValue}
use Rattle.stripe_reader.specs.Starts.{recorded_starts}
use Rattle.stripe_reader.specs.WindowValue.{no_slot}
use Rattle.snap_sync.specs.Part.{tree_at, slot_by, reading_by}
use Rattle.stripe_findings.specs.Reading.{StripeReading, slot_of, is_right, is_right_in, is_verified}
use Rattle.snap_sync.proofs.CellLemmas.{FindsCells, task_seen, read_where_right, IsCellRead, IsStripeRead}

-- what holds of each of a list, and what holds of one of them
pub each_passes : {X : Type 0} (p : X → Bool) (xs : List X) (k : ℕ) (d : X) → list_all p xs ≡ true → k < length xs → p (get_or xs k d) ≡ true
each_passes p [] k d all within = absurd (omega arith)
each_passes p (x ∷ xs) zero d all within = (and_parts (p x) (list_all p xs) all).0
each_passes p (x ∷ xs) (suc k) d all within = each_passes p xs k d (and_parts (p x) (list_all p xs) all).1 (omega arith)

pub all_pass : {X : Type 0} (p : X → Bool) (xs : List X) → All (λ x. p x ≡ true) xs → list_all p xs ≡ true
all_pass p [] each = refl
all_pass p (x ∷ xs) each = and_from (p x) (list_all p xs) (each 0 x (omega arith)) (all_pass p xs (λ k d within. each (suc k) d (omega arith)))

module _ (table : TableValue) (reading : StripeReading) where
  -- each cell of a stripe that is verified is right
  pub right_in : is_verified table reading ≡ true → (d : ℕ) → d < length table.columns → is_right_in table reading d ≡ true
  right_in verified d below =
      let long : length (range_with_len 0 (length table.columns)) ≡ length table.columns = length-range_with_len 0 (length table.columns) in
      let at : get_or (range_with_len 0 (length table.columns)) d 0 ≡ d = get_or-range_with_len 0 (length table.columns) d 0 below ∙ zero_more d in
      subst (λ (k : ℕ). is_right_in table reading k ≡ true) at (each_passes (is_right_in table reading) (range_with_len 0 (length table.columns)) d 0 verified (omega (arith, below, long)))
    where
      zero_more : (n : ℕ) → 0 + n ≡ n
      zero_more n = omega arith

  pub verified_from : ((d : ℕ) → d < length table.columns → is_right_in table reading d ≡ true) → is_verified table reading ≡ true
  verified_from right = all_pass (is_right_in table reading) (range_with_len 0 (length table.columns)) (λ k d within.
      let long : length (range_with_len 0 (length table.columns)) ≡ length table.columns = length-range_with_len 0 (length table.columns) in
      let below : k < length table.columns = omega (arith, within, long) in
      let at : get_or (range_with_len 0 (length table.columns)) k d ≡ 0 + k = get_or-range_with_len 0 (length table.columns) k d below in
      subst (λ (j : ℕ). is_right_in table reading j ≡ true) (sym at) (subst (λ (j : ℕ). is_right_in table reading j ≡ true) (more_zero k) (right k below)))
    where
      more_zero : (n : ℕ) → n ≡ 0 + n
      more_zero n = omega arith

-- the folders of so many columns tell these trees
pub record AreTrees (count : ℕ) (folders : List FolderView) (trees : List Tree) : Type 0 where
  pub told : (d : ℕ) → d < count → IsTrue (folder_at folders d).tells
  pub are : (d : ℕ) → d < count → (folder_at folders d).tree ≡ tree_at trees d

module _ (finds : FindsCells) (table : TableValue) (folders news : List FolderView) (trees : List Tree) (are : AreTrees (length table.columns) folders trees) (reading : StripeReading) (read : IsStripeRead table folders news reading) where
  -- a cell that did not fail is what the tree gives
  given_cell : (d : ℕ) (below : d < length table.columns) → is_unread (read.cells d below).reading ≡ false → slot_of d reading ≡ slot_by table trees reading.stripe d
  given_cell d below came =
      let cell : IsCellRead table (folder_at folders d) (folder_at news d) d reading.stripe (slot_of d reading) = read.cells d below in
      let task : Task = task_at table (recorded_starts table) d reading.stripe in
      cell.is_kept ∙ ap (kept table.shape) (cell.is_of.given (are.told d below) came) ∙ ap (λ (tree : Tree). kept table.shape (given_by tree task)) (are.are d below)

  -- and so is a stripe of which none failed
  pub given_stripe : ((d : ℕ) (below : d < length table.columns) → is_unread (read.cells d below).reading ≡ false) → reading ≡ reading_by table trees reading.stripe
  given_stripe came =
      let slots_are : reading.slots ≡ map (slot_by table trees reading.stripe) (range_with_len 0 (length table.columns)) =
      fill_by_all (slot_by table trees reading.stripe) reading.slots (length table.columns) no_slot read.wide (λ d below. given_cell d below (came d below)) in
      ap (λ (slots : List SlotValue). let r : StripeReading = record { stripe = reading.stripe; slots = slots } in r) slots_are

  -- none failed of a stripe that is verified
  pub came_where_verified : is_verified table reading ≡ true → (d : ℕ) (below : d < length table.columns) → is_unread (read.cells d below).reading ≡ false
  came_where_verified verified d below =
      let cell : IsCellRead table (folder_at folders d) (folder_at news d) d reading.stripe (slot_of d reading) = read.cells d below in
      let seen : Option CellView = cell_view (column_at table.columns d) reading.stripe in
      read_where_right table.shape seen cell.reading
      (subst (λ (task : Task). IsReadingBy task cell.reading) (task_seen finds table d reading.stripe) cell.is_of.by)
      (subst (λ (slot : SlotValue). is_right seen slot ≡ true) cell.is_kept (right_in table reading verified d below))

  pub verified_is_given : is_verified table reading ≡ true → reading ≡ reading_by table trees reading.stripe
  verified_is_given verified = given_stripe (came_where_verified verified)
