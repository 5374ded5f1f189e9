-- Folders in memory.
use Rattle.std.specs.Prelude.{[], Bool, true, false, not, IsTrue, Result, Err}
use Rattle.std.specs.FinMap as map
use Rattle.disk_model.specs.Answer.{is_failure, done_answer}
use Rattle.disk_model.specs.Cause.{exactly}
use Rattle.disk_model.specs.Folder.{FolderView, IsFolder}
use Rattle.disk_model.specs.declared.answer.Answer.{Answer}
use Rattle.disk_model.specs.declared.fault.FileFault.{FileFault}
use Rattle.disk_memory.specs.Calls.{folder_calls}
use Rattle.disk_calm.specs.Kept.{tree_in, is_tree_in}
use Rattle.disk_memory.specs.Schedule.{Plan, plan_of, ObeysExactly, ObeysUnless}
use Rattle.disk_memory.specs.declared.folder.MemFolder.{MemFolder}

-- an open folder that tells its tree, and its calls until memory refuses an entry
abbrev pub folder_view : MemFolder → FolderView
folder_view f = record {
  faults = f.schedule.faults;
  writes = exactly f.writes;
  keeps = λ stamp. f.keeps_stamps;
  closed = false;
  tells = true;
  tree = tree_in f.files;
  tells_calls = not f.past.lost;
  calls = folder_calls f.past.made.items;
}

abbrev pub folder_plan : MemFolder → Plan
folder_plan f = plan_of f.schedule

-- what is kept of a call on one file that gave this fault
abbrev pub fault_answer : FileFault → Answer
fault_answer fault = let given : Result (Unit {0}) FileFault = Err fault in done_answer given

-- one call of it was counted, and failed exactly where it was to, or memory refused its entry in the record
abbrev pub FolderObeysExactly : Answer → MemFolder → MemFolder → Type 0
FolderObeysExactly answer old new = ObeysExactly (is_failure answer) (folder_plan old) (folder_plan new) (not old.past.lost) (not new.past.lost)

-- and it failed nowhere else, unless P
abbrev pub FolderObeysUnless : Type 0 → Answer → MemFolder → MemFolder → Type 0
FolderObeysUnless P answer old new = ObeysUnless P (is_failure answer) (folder_plan old) (folder_plan new) (not old.past.lost) (not new.past.lost)

-- an empty tree, no call yet
abbrev pub fresh_folder : Bool → FolderView
fresh_folder keeps_stamps = record {
  faults = 0;
  writes = exactly 0;
  keeps = λ stamp. keeps_stamps;
  closed = false;
  tells = true;
  tree = map.empty;
  tells_calls = true;
  calls = [];
}

pub folder_well_formed : (f : MemFolder) → IsFolder (folder_view f)
folder_well_formed f = record { tree = λ told. is_tree_in f.files; told = λ closed. absurd (not_closed closed); closed = λ closed. absurd (not_closed closed) }
  where
    not_closed : IsTrue false → ⊥
    not_closed told = cc
