use Rattle.std.proofs.Common.{ℕ, ◌<◌}
use Rattle.disk_calm.specs.Files.{tree_of, EndsDirectory}
use Rattle.disk_calm.proofs.files.Files.has_no_directory.Given as goal

-- no file ends before a slash so far
abbrev pub invariant-loop-end : goal.invariant-loop-end
invariant-loop-end l = (k : ℕ) → k < l.end → ¬ (EndsDirectory (tree_of l.self.list.items) l.path k)
