use Rattle.std.proofs.Common.{◌≡◌}
use Rattle.disk_calm.specs.Calm.{calm_folder_view}
use Rattle.snap_exercise.specs.Generated.{behind, sizes_in, standing, tree_from}
use Rattle.snap_exercise.proofs.files.make_folder.Given as goal

-- the folder has the files so far, and the generator is behind them
abbrev pub invariant-loop-file : goal.invariant-loop-file
invariant-loop-file l = (calm_folder_view l.folder ≡ standing (tree_from l.fn.rng l.fn.column l.fn.turns l.file)) × (l.rng ≡ behind (sizes_in l.fn.column l.file) l.fn.rng)
