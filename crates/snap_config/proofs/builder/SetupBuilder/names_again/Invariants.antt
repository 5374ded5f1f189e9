use Rattle.std.proofs.Common.{◌≡◌, length}
use Rattle.snap_config.specs.Builder.{names_again}
use Rattle.snap_config.specs.Reading.{builder_value}
use Rattle.snap_config.proofs.builder.SetupBuilder.names_again.Given as goal

abbrev pub invariant-loop-file : goal.invariant-loop-file
invariant-loop-file l = names_again l.files (builder_value l.self) ≡ names_again l.rest (builder_value l.self)

abbrev pub decreases-loop-file : goal.decreases-loop-file
decreases-loop-file l = length l.rest
