use Rattle.std.proofs.Common.{arith}
use Rattle.std.proofs.lemmas.Bool.{ltb-false}
use Rattle.disk_calm.specs.Calm.{calm_value}
use Rattle.snap_exercise.proofs.EngineLemmas.{none_failed}
use Rattle.snap_exercise.proofs.engines.has_failed.Goals as goal

pub returns : goal.returns
returns c = λ no.
    let few = ltb-false 0 c.faults-2.result no in
    none_failed c.args.folders.now (calm_value c.args.vault.now) (λ i d below. c.loop-folder.invariant i d (omega arith)) (omega (arith, few, c.faults-2.ensures))
