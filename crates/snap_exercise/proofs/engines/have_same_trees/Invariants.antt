use Rattle.std.proofs.Common.{◌≡◌, ℕ, ◌<◌, get_or}
use Rattle.disk_calm.specs.Calm.{calm_folder_view}
use Rattle.disk_calm.specs.declared.folder.CalmFolder.{CalmFolder}
use Rattle.snap_exercise.proofs.engines.have_same_trees.Given as goal

-- the trees so far are the same
abbrev pub invariant-loop-d : goal.invariant-loop-d
invariant-loop-d l = (i : ℕ) (d : CalmFolder) → i < l.d → (calm_folder_view (get_or l.folders i d)).tree ≡ (calm_folder_view (get_or l.others i d)).tree
