-- What was read of stripes stood in the folders at first.
use Rattle.std.specs.Prelude.{◌≡◌, ℕ, ◌<◌, List, length, All}
use Rattle.disk_model.specs.Folder.{FolderView}
use Rattle.file_table.specs.declared.shape.Shape.{Shape}
use Rattle.stripe_reader.specs.Column.{IsReadingOf}
use Rattle.stripe_reader.specs.Columns.{folder_at}
use Rattle.stripe_reader.specs.Reading.{CellReading, Task, task_at}
use Rattle.stripe_reader.specs.Slot.{kept}
use Rattle.stripe_reader.specs.SlotValue.{SlotValue}
use Rattle.stripe_reader.specs.Starts.{StartsValue}
use Rattle.stripe_examiner.specs.Facts.{StripeFacts, slot_of}
use Rattle.repair_scope.specs.Plan.{FixPlan}

-- What a slot keeps of a cell is what stood in its place at first, or its reading failed; what was seen of the file's size and stamp
-- may be later.
pub record IsPresent (shape : Shape) (first : FolderView) (task : Task) (slot : SlotValue) : Type 0 where
  pub reading : CellReading
  pub is_of : IsReadingOf first task reading
  pub found : slot.cell.found ≡ (kept shape reading).cell.found
  pub got : slot.cell.got ≡ (kept shape reading).cell.got
  pub digest : slot.digest ≡ (kept shape reading).digest
  pub block : slot.block ≡ (kept shape reading).block

-- The cells of stripes are those that stood there at first.
abbrev pub ArePresent : FixPlan → StartsValue → List FolderView → List StripeFacts → Type 0
ArePresent plan starts firsts stripes =
    All (λ (facts : StripeFacts). (d : ℕ) → d < length plan.table.columns
    → IsPresent plan.table.shape (folder_at firsts d) (task_at plan.table starts d facts.stripe) (slot_of facts d)) stripes
