use Rattle.disk_memory.proofs.ImageLemmas.{each_image_is_picked}
use Rattle.disk_memory.proofs.laws.each_image_is_picked.Goals as goal

pub returns : goal.returns
returns c = each_image_is_picked
