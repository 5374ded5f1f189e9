use Rattle.std.proofs.Common.{◌≡◌, drop}
use Rattle.array_setup.specs.Setup.{setup_value}
use Rattle.snap_top.specs.Known.{first_unknown as first_unknown_of}
use Rattle.snap_top.proofs.known.first_unknown.Given as goal

abbrev pub invariant-loop-i : goal.invariant-loop-i
invariant-loop-i l = first_unknown_of (setup_value l.setup) l.names ≡ first_unknown_of (setup_value l.setup) (drop l.i l.names)
