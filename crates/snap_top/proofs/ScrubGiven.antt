-- What a scrub read of folders that tell their trees, where no count of faults rose: it is what the trees hold.
use Rattle.std.proofs.Common.{◌≡◌, ℕ, zero, suc, ◌+◌, ◌<◌, ◌≤◌, List, [], ◌∷◌, length, map, get_or, count_by, Bool, true, false, cond, refl, sym, ap, ◌∙◌, subst, arith}
use Rattle.std.proofs.lemmas.List.{ext_get_or, get_or-map, length-map}
use Rattle.std.specs.List.{range_with_len}
use Rattle.std.proofs.lemmas.List.FromFn.{fill_by_all}
use Rattle.std.specs.FinMap as finite_map
use Rattle.disk_model.specs.Cause.{Rose, RoseBy}
use Rattle.disk_model.specs.Folder.{FolderView, quiet_folder}
use Rattle.disk_model.specs.Tree.{Tree}
use Rattle.file_table.specs.Table.{TableValue}
use Rattle.snap_fix.proofs.FixCountLemmas.{count_cons}
use Rattle.snap_sync.specs.Part.{AllTell, NoneRose, reading_by, readings_by, slot_by, tree_at, trees_of}
use Rattle.stripe_findings.specs.Reading.{AreRead, StripeReading, slot_of, stripes_of}
use Rattle.stripe_reader.specs.Column.{IsReadingOf, no_task}
use Rattle.stripe_reader.specs.Columns.{folder_at}
use Rattle.stripe_reader.specs.Reading.{CellReading, NoBlock, Task, given_by, is_unread, task_at, tasks_at}
use Rattle.stripe_reader.specs.Slot.{kept}
use Rattle.stripe_reader.specs.SlotValue.{SlotValue}
use Rattle.stripe_reader.specs.Starts.{recorded_starts}
use Rattle.stripe_reader.specs.WindowValue.{no_slot}

-- one of a list counts
pub one_counted : {X : Type 0} (p : X → Bool) (xs : List X) (k : ℕ) (d : X) → k < length xs → p (get_or xs k d) ≡ true → 1 ≤ count_by p xs
one_counted p [] k d within is = absurd (omega (arith, within))
one_counted p (x ∷ xs) zero d within is =
    let one : count_by p (x ∷ []) ≡ 1 = ap (λ (b : Bool). 0 + cond b 1 0) is in
    omega (arith, count_cons p x xs, one)
one_counted p (x ∷ xs) (suc k) d within is = let more = one_counted p xs k d (omega (arith, within)) is in omega (arith, count_cons p x xs, more)

pub not_true : (b : Bool) → (b ≡ true → ⊥) → b ≡ false
not_true true never = absurd (never refl)
not_true false never = refl

module _ (table : TableValue) (readings : List StripeReading) (olds news : List FolderView) (read : AreRead table readings olds news) (many : length olds ≡ length table.columns) (tell : AllTell olds) (none : NoneRose olds news) where
  abbrev trees : List Tree
  trees = trees_of olds

  abbrev number : StripeReading → ℕ
  number reading = reading.stripe

  tree_is : (d : ℕ) → d < length olds → (folder_at olds d).tree ≡ tree_at trees d
  tree_is d below = sym (get_or-map (λ (folder : FolderView). folder.tree) olds d (quiet_folder 0 false) finite_map.empty below)

  -- a cell is what the tree gives
  slot_given : (k d : ℕ) (other : StripeReading) → k < length readings → d < length table.columns
      → slot_of d (get_or readings k other) ≡ slot_by table trees (get_or readings k other).stripe d
  slot_given k d other within lt =
      let below : d < length olds = omega (arith, lt, many) in
      let its = read.each d below in
      let it : StripeReading = get_or readings k other in
      let task_of : ℕ → Task = task_at table (recorded_starts table) d in
      let reading : CellReading = get_or its.readings k NoBlock in
      let as_many = its.as_many in
      let few : k < length (stripes_of readings) = omega (arith, within, length-map readings number) in
      let near : k < length its.readings = omega (arith, few, as_many, length-map (stripes_of readings) task_of) in
      let slot_is : slot_of d it ≡ kept table.shape reading =
      sym (get_or-map (slot_of d) readings k other no_slot within)
      ∙ ap (λ (slots : List SlotValue). get_or slots k no_slot) its.are_kept
      ∙ get_or-map (kept table.shape) its.readings k NoBlock no_slot near in
      let task_is : get_or (tasks_at table (recorded_starts table) d (stripes_of readings)) k no_task ≡ task_of it.stripe =
      get_or-map task_of (stripes_of readings) k 0 no_task few ∙ ap task_of (get_or-map number readings k other 0 within) in
      let is_of : IsReadingOf (folder_at olds d) (task_of it.stripe) reading = subst (λ (task : Task). IsReadingOf (folder_at olds d) task reading) task_is
      (its.are_of k (omega (arith, few, length-map (stripes_of readings) task_of))) in
      let rose = its.unread in
      let came : is_unread reading ≡ false = not_true (is_unread reading) (λ unread. none d below (rose_once _ _ _ (one_counted is_unread its.readings k NoBlock near unread) rose)) in
      slot_is ∙ ap (kept table.shape) (is_of.given (tell d below) came) ∙ ap (λ (tree : Tree). kept table.shape (given_by tree (task_of it.stripe))) (tree_is d below)
    where
      rose_once : (n a b : ℕ) → 1 ≤ n → RoseBy n a b → Rose a b
      rose_once n a b some rose = omega (arith, some, rose)

  -- and so is a stripe, and so are all
  stripe_given : (k : ℕ) (other : StripeReading) → k < length readings → get_or readings k other ≡ reading_by table trees (get_or readings k other).stripe
  stripe_given k other within =
      let it : StripeReading = get_or readings k other in
      let slots_are : it.slots ≡ map (slot_by table trees it.stripe) (range_with_len 0 (length table.columns)) =
      fill_by_all (slot_by table trees it.stripe) it.slots (length table.columns) no_slot (read.wide k other within) (λ d below. slot_given k d other within below) in
      ap (λ (slots : List SlotValue). let r : StripeReading = record { stripe = it.stripe; slots = slots } in r) slots_are

  pub stripes_given : readings ≡ readings_by table trees (stripes_of readings)
  stripes_given =
      let no_stripe : StripeReading = record { stripe = 0; slots = [] } in
      let long = length-map readings number in
      ext_get_or no_stripe readings (readings_by table trees (stripes_of readings)) (sym (length-map (stripes_of readings) (reading_by table trees) ∙ long))
      (λ k within.
      stripe_given k no_stripe within
      ∙ ap (reading_by table trees) (sym (get_or-map number readings k no_stripe 0 within))
      ∙ sym (get_or-map (reading_by table trees) (stripes_of readings) k 0 no_stripe (omega (arith, within, long))))
