use Rattle.std.proofs.Common.{◌≡◌, drop}
use Rattle.snap_config.specs.Config.{files_of}
use Rattle.snap_config.proofs.config.files_of.Given as goal

abbrev pub invariant-loop-line : goal.invariant-loop-line
invariant-loop-line l = files_of l.parities l.level ≡ files_of (drop l.line-index l.parities) l.level
