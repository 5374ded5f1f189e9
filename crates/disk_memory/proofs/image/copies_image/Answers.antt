use Rattle.std.proofs.Common.{◌∙◌}
use Rattle.disk_memory.proofs.ChoiceLemmas.{copies_image_more, after_copies_more}
use Rattle.disk_memory.proofs.image.copies_image.Goals as goal

pub loop-copy-preserved : goal.loop-copy-preserved
loop-copy-preserved c = (
  rw c.in_ok-push.ensures.items (copies_image_more c.args.copies.now c.loop-copy.copy-index c.copy-item.result c.args.choice.now c.loop-copy.rest.now c.loop-copy-test.true c.copy-item.is c.loop-copy.invariant.1 c.loop-copy.images.items c.in_ok-image.field-0 c.loop-copy.invariant.0 c.in_ok-image.ensures),
  c.after-rest.ensures ∙ after_copies_more c.args.copies.now c.loop-copy.copy-index c.copy-item.result c.args.choice.now c.loop-copy.rest.now c.loop-copy-test.true c.copy-item.is c.loop-copy.invariant.1,
)
