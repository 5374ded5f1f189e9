use Rattle.std.proofs.Common.{refl, ◌∙◌}
use Rattle.disk_model.proofs.UntouchedLemmas.{same_levels, untouched_here, untouched_then}
use Rattle.parity_writer.proofs.ahead.plan_levels.Goals as goal

pub loop-level-init : goal.loop-level-init
loop-level-init g c = record { end = c.levels-level-end.ensures; levels = refl; untouched = untouched_here (g.V.Vault.view c.args.vault.now) }

pub loop-level-preserved : goal.loop-level-preserved
loop-level-preserved g c =
    let so_far = c.loop-level.invariant in
    let old = g.V.Vault.view c.args.vault.now in
    let mid = g.V.Vault.view c.loop-level.vault in
    let new = g.V.Vault.view c.plan_ahead.new.self in
    record {
      end = so_far.end;
      levels = same_levels mid new c.plan_ahead.ensures ∙ so_far.levels;
      untouched = untouched_then old mid new so_far.untouched c.plan_ahead.ensures;
    }
