use Rattle.std.proofs.Common.{◌≡◌, take}
use Rattle.snap_report.specs.StatusText.{bad_in}
use Rattle.snap_top.proofs.commands.bad_stripes.Given as goal

abbrev pub invariant-loop-stripe : goal.invariant-loop-stripe
invariant-loop-stripe l = l.bad ≡ bad_in (take l.stripe l.table.infos)
