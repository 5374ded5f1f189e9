use Rattle.std.proofs.Common.{ℕ, subst}
use Rattle.snap_report.specs.State.{Puts}
use Rattle.snap_exercise.specs.Exercise.{array_line}
use Rattle.snap_exercise.proofs.TellingLemmas.{puts_five}
use Rattle.snap_exercise.proofs.telling.tell.Goals as goal

pub returns-clause-puts : goal.returns-clause-puts
returns-clause-puts g c =
    puts_five g.W.Sink.view _ _ _ _ _ _ _ _ _ _ _ _
    (subst (λ (stripes : ℕ). Puts g.W.Sink.view (array_line c.args.n stripes) c.args.lines.now c.tell_array.new.lines) c.length.ensures.count c.tell_array.ensures)
    c.end_sync.ensures.puts c.end_fix.ensures.puts c.end_check.ensures.puts c.tell_trees.ensures c.hand_on.ensures.puts
