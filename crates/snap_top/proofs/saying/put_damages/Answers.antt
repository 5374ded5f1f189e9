use Rattle.std.proofs.Common.{arith, subst, ℕ}
use Rattle.content_file.specs.Damages.{no_damage}
use Rattle.content_file.specs.declared.fault.Damage.{Damage}
use Rattle.snap_report.specs.State.{Puts}
use Rattle.snap_report.proofs.PutsLemmas.{puts_one_more}
use Rattle.snap_top.specs.End.{damage_line}
use Rattle.snap_top.proofs.saying.put_damages.Goals as goal

pub loop-i-preserved : goal.loop-i-preserved
loop-i-preserved g c =
    puts_one_more g.W.Sink.view damage_line c.args.damages.now c.loop-i.i no_damage c.args.lines.now c.loop-i.lines c.put_damage.new.lines (omega (arith, c.loop-i-test.true)) c.loop-i.invariant
    (subst (λ (d : ℕ × Damage). Puts g.W.Sink.view (damage_line d) c.loop-i.lines c.put_damage.new.lines) c.at-copy.ensures c.put_damage.ensures)
