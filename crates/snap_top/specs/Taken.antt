-- What stands of files where some were taken away.
use Rattle.std.specs.Prelude.{◌≡◌, ◌⊎◌, ℕ, List, true, false, None}
use Rattle.disk_model.specs.Tree.{Tree, file_of, path_of}
use Rattle.snap_sync.specs.Part.{tree_at}

-- under PATH stands the file that stood there, or there is none now, and none under PATH`.unrecoverable`
abbrev pub StandsOrIsGone : Tree → Tree → List ℕ → Type 0
StandsOrIsGone old new path = (file_of new (path_of path false) ≡ file_of old (path_of path false))
    ⊎ ((file_of new (path_of path false) ≡ None) × (file_of new (path_of path true) ≡ None))

-- So it is of each path, and no file came under another name: files were only taken away.
pub record IsTakenFrom (old new : Tree) : Type 0 where
  pub plain : (path : List ℕ) → StandsOrIsGone old new path
  pub lost : (path : List ℕ) → (file_of new (path_of path true) ≡ file_of old (path_of path true)) ⊎ (file_of new (path_of path true) ≡ None)

-- so it is of each folder
abbrev pub OnlyTakenAway : List Tree → List Tree → Type 0
OnlyTakenAway olds news = (d : ℕ) → IsTakenFrom (tree_at olds d) (tree_at news d)
