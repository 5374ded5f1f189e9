use Rattle.std.proofs.Common.{◌≡◌, take}
use Rattle.snap_scrub.specs.Marks.{with_marks}
use Rattle.snap_scrub.proofs.marking.mark_all.Given as goal

abbrev pub invariant-loop-i : goal.invariant-loop-i
invariant-loop-i l = l.table ≡ with_marks l.now l.fn.table (take l.i l.stripes) (take l.i l.verdicts)
