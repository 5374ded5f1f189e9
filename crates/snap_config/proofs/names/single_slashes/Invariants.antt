use Rattle.std.proofs.Common.{length, string_bytes}
use Rattle.snap_config.proofs.NamesLemmas.{IsMade}
use Rattle.snap_config.proofs.names.single_slashes.Given as goal

abbrev pub invariant-loop-part : goal.invariant-loop-part
invariant-loop-part l = IsMade l.text (string_bytes l.made) l.rest l.follows

abbrev pub decreases-loop-part : goal.decreases-loop-part
decreases-loop-part l = length l.rest
