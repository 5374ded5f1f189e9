use Rattle.std.proofs.Common.{◌∙◌}
use Rattle.disk_memory.proofs.ChoiceLemmas.{levels_image_more, after_levels_more}
use Rattle.disk_memory.proofs.image.levels_image.Goals as goal

pub loop-level-preserved : goal.loop-level-preserved
loop-level-preserved c = (
  rw c.in_ok-push.ensures.items (levels_image_more c.args.levels.now c.loop-level.level-index c.level-item.result c.args.choice.now c.loop-level.rest.now c.loop-level-test.true c.level-item.is c.loop-level.invariant.1 c.loop-level.images.items c.in_ok-image.field-0 c.loop-level.invariant.0 c.in_ok-image.ensures),
  c.after-rest.ensures ∙ after_levels_more c.args.levels.now c.loop-level.level-index c.level-item.result c.args.choice.now c.loop-level.rest.now c.loop-level-test.true c.level-item.is c.loop-level.invariant.1,
)
