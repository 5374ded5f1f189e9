use Rattle.std.proofs.Common.{length}
use Rattle.snap_config.proofs.ConfigLemmas.{IsRead}
use Rattle.snap_config.specs.Reading.{builder_value}
use Rattle.snap_config.proofs.config.read_lines.Given as goal

abbrev pub invariant-loop-line : goal.invariant-loop-line
invariant-loop-line l = IsRead l.bytes l.number (builder_value l.builder) l.rest

abbrev pub decreases-loop-line : goal.decreases-loop-line
decreases-loop-line l = length l.rest
