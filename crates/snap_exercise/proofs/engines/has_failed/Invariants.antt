use Rattle.std.proofs.Common.{◌≡◌, ℕ, ◌<◌, get_or}
use Rattle.disk_calm.specs.Calm.{calm_folder_view}
use Rattle.disk_calm.specs.declared.folder.CalmFolder.{CalmFolder}
use Rattle.snap_exercise.proofs.engines.has_failed.Given as goal

-- no call of the folders so far has failed
abbrev pub invariant-loop-folder : goal.invariant-loop-folder
invariant-loop-folder l = (i : ℕ) (d : CalmFolder) → i < l.folder-index → (calm_folder_view (get_or l.folders i d)).faults ≡ 0
