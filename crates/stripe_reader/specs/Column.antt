-- How the cells of a column are read of its folder.
use Rattle.std.specs.Prelude.{◌≡◌, ℕ, ◌<◌, List, length, map, get_or, count_by, true, false, IsTrue}
use Rattle.disk_model.specs.Cause.{RoseBy, Rose}
use Rattle.disk_model.specs.Folder.{FolderView, FolderDone, FolderGoesOn, TreeStays}
use Rattle.file_table.specs.declared.shape.Shape.{Shape}
use Rattle.stripe_reader.specs.FolderCalls.{AreCellCalls, AreColumnCalls}
use Rattle.stripe_reader.specs.Reading.{CellReading, NoBlock, Task, Known, IsReadingBy, IsSeenBy, given_by, is_unread}
use Rattle.stripe_reader.specs.Slot.{kept}
use Rattle.stripe_reader.specs.SlotValue.{SlotValue}

-- such calls were made of a folder, which only read it
pub record ReadsBy (P : List FolderDone → Type 0) (old new : FolderView) : Type 0 where
  pub done : List FolderDone
  pub are : P done
  pub goes_on : FolderGoesOn old new done
  pub tree : TreeStays old new

-- A reading is one of those that the task allows. Where the folder tells its tree, it is what the tree gives, or the
-- folder failed and a file that was seen before is the tree's.
pub record IsReadingOf (folder : FolderView) (task : Task) (reading : CellReading) : Type 0 where
  pub by : IsReadingBy task reading
  pub given : IsTrue folder.tells → is_unread reading ≡ false → reading ≡ given_by folder.tree task
  pub saw : IsTrue folder.tells → IsSeenBy folder.tree task reading

-- one cell of a column was read of its folder
pub record ReadsCell (task : Task) (reading : CellReading) (old new : FolderView) : Type 0 where
  pub folder : ReadsBy (AreCellCalls task reading) old new
  pub is_of : IsReadingOf old task reading
  pub unread : is_unread reading ≡ true → Rose old.faults new.faults

-- one cell was read into its slot
pub record ReadsSlot (shape : Shape) (task : Task) (slot : SlotValue) (old new : FolderView) : Type 0 where
  pub reading : CellReading
  pub read : ReadsCell task reading old new
  pub is_kept : slot ≡ kept shape reading

-- what stands for a task that is not there
abbrev pub no_task : Task
no_task = Known NoBlock

-- The cells of a column were read of its folder, one after another, each into its slot. The folder failed in no fewer
-- of its calls than there are cells that were not read.
pub record ReadsColumn (shape : Shape) (tasks : List Task) (slots : List SlotValue) (old new : FolderView) : Type 0 where
  pub readings : List CellReading
  pub are_kept : slots ≡ map (kept shape) readings
  pub as_many : length readings ≡ length tasks
  pub are_of : (i : ℕ) → i < length tasks → IsReadingOf old (get_or tasks i no_task) (get_or readings i NoBlock)
  pub unread : RoseBy (count_by is_unread readings) old.faults new.faults
  pub folder : ReadsBy (AreColumnCalls tasks readings) old new
