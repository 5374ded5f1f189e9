use Rattle.snap_exercise.proofs.GeneratedLemmas.{damaged_by}
use Rattle.snap_exercise.proofs.damage.damage.Goals as goal

pub returns : goal.returns
returns c = damaged_by c.args.n c.args.folders.now _ _ _ c.new.ensures c.new-2.ensures c.in_ok-folders.ensures
