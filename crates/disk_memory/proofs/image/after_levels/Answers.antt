use Rattle.std.proofs.Common.{◌∙◌}
use Rattle.disk_memory.proofs.ChoiceLemmas.{after_levels_more}
use Rattle.disk_memory.proofs.image.after_levels.Goals as goal

pub loop-level-preserved : goal.loop-level-preserved
loop-level-preserved c =
    c.after-rest.ensures ∙ after_levels_more c.args.levels.now c.loop-level.level-index c.level-item.result c.args.choice.now c.loop-level.rest.now c.loop-level-test.true c.level-item.is c.loop-level.invariant
