-- Folders in memory whose files change between their calls, as a script says.
use Rattle.std.specs.Prelude.{◌≡◌, ℕ, ◌+◌, ◌-◌, ◌^◌, min, List, [], ◌∷◌, Option, None, Some, Bool, false, IsTrue, nat_le, if◌then◌else◌}
use Rattle.std.specs.Global.{Vec}
use Rattle.std.specs.FinMap as map
use Rattle.disk_model.specs.Folder.{FolderView, IsFolder}
use Rattle.disk_model.specs.Tree.{Tree}
use Rattle.disk_model.specs.declared.meta.Stamp.{Stamp}
use Rattle.disk_calm.specs.Files.{changed}
use Rattle.disk_memory.specs.Folder.{folder_view}
use Rattle.disk_memory.specs.declared.folder.MemFolder.{MemFolder}
use Rattle.disk_memory.specs.declared.scripted.Event.{Event}
use Rattle.disk_memory.specs.declared.scripted.ScriptedFolder.{ScriptedFolder}

-- a file is taken away, or has another stamp and other bytes, where it is there
abbrev befallen : Option (Vec ℕ) → Stamp → List ℕ → Tree → Tree
befallen None stamp path tree = map.remove tree path
befallen (Some bytes) stamp path tree = changed (λ _. record { stamp = stamp; bytes = bytes.items }) path tree

-- the tree after an event
abbrev pub after_event : Event → Tree → Tree
after_event event tree = befallen event.bytes event.stamp event.path tree

-- the tree before the call of this number: the events at the head of the script that are not later happened, in order
abbrev pub tree_at : ℕ → List Event → Tree → Tree
tree_at call [] tree = tree
tree_at call (event ∷ script) tree = if nat_le event.call call then tree_at call script (after_event event tree) else tree

-- what is left of the script then
abbrev pub left_at : ℕ → List Event → List Event
left_at call [] = []
left_at call (event ∷ script) = if nat_le event.call call then left_at call script else (event ∷ script)

-- the first event comes before the call of this number
abbrev pub is_due : ℕ → List Event → Bool
is_due call [] = false
is_due call (event ∷ script) = nat_le event.call call

abbrev pub with_tree : FolderView → Tree → FolderView
with_tree v tree = record v { tree = tree }

-- the folder below, as the script leaves it before the call of this number
abbrev pub turned_at : ℕ → ScriptedFolder → FolderView
turned_at call f = with_tree (folder_view f.base) (tree_at call f.script.items (folder_view f.base).tree)

-- the number of the next call
abbrev pub next_call : ScriptedFolder → ℕ
next_call f = min (f.calls + 1) (2 ^ 64 - 1)

-- as the script leaves it before its next call
abbrev pub turned : ScriptedFolder → FolderView
turned f = turned_at (next_call f) f

-- without its tree
abbrev pub untold : FolderView → FolderView
untold v = record v { tells = false; tree = map.empty }

-- it tells its calls, and not its tree, which does not stay between them
abbrev pub scripted_view : ScriptedFolder → FolderView
scripted_view f = untold (folder_view f.base)

-- a call was counted, the script went on to it, and this step was made of what that left; the folder below counted it too, and failed so
pub record Plays (step : FolderView → FolderView → Type 0) (obeys : MemFolder → MemFolder → Type 0) (old new : ScriptedFolder) : Type 0 where
  pub counts : new.calls ≡ next_call old
  pub script : new.script.items ≡ left_at new.calls old.script.items
  pub made : step (turned old) (folder_view new.base)
  pub scheduled : obeys old.base new.base

pub scripted_well_formed : (f : ScriptedFolder) → IsFolder (scripted_view f)
scripted_well_formed f = record { tree = λ told. absurd (untrue told); told = λ closed. absurd (untrue closed); closed = λ closed. absurd (untrue closed) }
  where
    untrue : IsTrue false → ⊥
    untrue told = cc
