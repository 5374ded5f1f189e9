use Rattle.std.proofs.Common.{◌≡◌, ◌++◌, take}
use Rattle.snap_config.proofs.config.push_files.Given as goal

abbrev pub invariant-loop-file : goal.invariant-loop-file
invariant-loop-file l = l.files.items ≡ l.fn.files.items ++ take l.file-index l.named
