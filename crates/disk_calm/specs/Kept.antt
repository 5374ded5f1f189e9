-- The files that a folder in memory holds.
use Rattle.std.specs.Prelude.{◌<◌, List}
use Rattle.std.specs.Vec.{vec_len, vec_capacity}
use Rattle.disk_model.specs.Tree.{Tree, IsTree}
use Rattle.disk_calm.specs.Files.{tree_of}
use Rattle.disk_calm.specs.declared.files.Files.{Files}
use Rattle.disk_calm.specs.declared.files.MemFile.{MemFile}

-- the files in their order
abbrev pub files_in : Files → List MemFile
files_in held = held.list.items

-- the tree that they are
abbrev pub tree_in : Files → Tree
tree_in held = tree_of (files_in held)

pub is_tree_in : (held : Files) → IsTree (tree_in held)
is_tree_in held = held.kept.tree

-- there is room for one file more
abbrev pub HasRoom : Files → Type 0
HasRoom held = vec_len held.list < vec_capacity held.list
