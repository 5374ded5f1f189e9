-- What a window holds, cell by cell.
use Rattle.std.proofs.Common.{◌≡◌, ℕ, ◌+◌, ◌^◌, ◌<◌, List, [], ◌∷◌, length, map, get_or, IsTrue, Bool, false, true, cond, zero, suc, refl, sym, ap, ◌∙◌, arith}
use Rattle.std.specs.List.{count_by}
use Rattle.std.proofs.lemmas.List.{ext_get_or, get_or-map, length-map}
use Rattle.std.proofs.lemmas.List.Sums.{sum_by-cons}
use Rattle.disk_model.specs.Folder.{FolderView}
use Rattle.file_table.specs.Table.{TableValue}
use Rattle.file_table.specs.declared.shape.Shape.{Shape}
use Rattle.stripe_reader.specs.Column.{ReadsColumn, IsReadingOf, no_task}
use Rattle.stripe_reader.specs.Columns.{ReadsWindow, folder_at}
use Rattle.stripe_reader.specs.Reading.{CellReading, NoBlock, Task, task_at, given_by, is_unread}
use Rattle.stripe_reader.specs.Slot.{kept}
use Rattle.stripe_reader.specs.SlotValue.{SlotValue}
use Rattle.stripe_reader.specs.Starts.{StartsValue}
use Rattle.stripe_reader.specs.WindowValue.{WindowValue, slot_at}
use Rattle.stripe_reader.proofs.ColumnLemmas.{slot_is}

module _ (table : TableValue) (starts : StartsValue) (stripes : List ℕ) (before after : WindowValue) (olds news : List FolderView) (read : ReadsWindow table starts stripes before after olds news)
    (i d : ℕ) (column : d < length olds) (stripe : i < length stripes) where
  -- the slot of a cell keeps its reading
  pub slot_of : slot_at after i d ≡ kept table.shape (get_or (read.each d column).readings i NoBlock)
  slot_of = slot_is table.shape (task_at table starts d) stripes i _ (folder_at olds d) (folder_at news d) (read.each d column) stripe

  -- the reading of a cell is one of the cell
  pub reading_of_cell : IsReadingOf (folder_at olds d) (task_at table starts d (get_or stripes i 0)) (get_or (read.each d column).readings i NoBlock)
  reading_of_cell = rw (get_or-map (task_at table starts d) stripes i 0 no_task stripe) at ((read.each d column).are_of i (omega (arith, stripe, length-map stripes (task_at table starts d))))

-- none was counted
one_counted : (one : Bool) (others all : ℕ) → all ≡ cond one 1 0 + others → all ≡ 0 → (one ≡ false) × (others ≡ 0)
one_counted true others all all_is none = absurd (omega arith)
one_counted false others all all_is none = (refl, omega arith)

none_unread : (readings : List CellReading) → count_by is_unread readings ≡ 0 → (i : ℕ) → is_unread (get_or readings i NoBlock) ≡ false
none_unread [] none i = refl
none_unread (reading ∷ readings) none zero = (one_counted (is_unread reading) (count_by is_unread readings) (count_by is_unread (reading ∷ readings)) (sum_by-cons (λ (it : CellReading). cond (is_unread it) 1 0) reading readings) none).0
none_unread (reading ∷ readings) none (suc i) =
    none_unread readings (one_counted (is_unread reading) (count_by is_unread readings) (count_by is_unread (reading ∷ readings)) (sum_by-cons (λ (it : CellReading). cond (is_unread it) 1 0) reading readings) none).1 i

-- where the folder tells its tree and did not fail, the slots keep what the tree gives
pub all_given : (shape : Shape) (tasks : List Task) (slots : List SlotValue) (before after : FolderView) → ReadsColumn shape tasks slots before after
    → IsTrue before.tells → after.faults ≡ before.faults → before.faults + 1 < 2 ^ 64 → slots ≡ map (kept shape) (map (given_by before.tree) tasks)
all_given shape tasks slots before after read told same few =
    let none : count_by is_unread read.readings ≡ 0 = omega (arith, read.unread) in
    read.are_kept ∙ ap (map (kept shape)) (ext_get_or NoBlock read.readings (map (given_by before.tree) tasks) (omega (arith, read.as_many, length-map tasks (given_by before.tree)))
    (λ i lt. let one = read.are_of i (omega (arith, lt, read.as_many)) in
    one.given told (none_unread read.readings none i) ∙ sym (get_or-map (given_by before.tree) tasks i no_task NoBlock (omega (arith, lt, read.as_many)))))
