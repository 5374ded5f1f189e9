use Rattle.std.proofs.Common.{◌≡◌, map}
use Rattle.std.specs.List.{range_with_len}
use Rattle.disk_calm.specs.Calm.{calm_folder_view}
use Rattle.snap_exercise.specs.Generated.{before, standing, tree_of}
use Rattle.snap_exercise.proofs.files.make_folders.Given as goal

-- the folders so far are made, and the generator is behind them
abbrev pub invariant-loop-column : goal.invariant-loop-column
invariant-loop-column l = (map calm_folder_view l.folders.items ≡ map standing (map (tree_of l.fn.n) (range_with_len 0 l.column))) × (l.rng ≡ before l.fn.n l.column)
