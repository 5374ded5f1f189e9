use Rattle.std.proofs.Common.{ap, ◌∙◌}
use Rattle.position_alloc.specs.Words.{taken_of}
use Rattle.position_alloc.proofs.WordLemmas.{taken_of-none}
use Rattle.position_alloc.proofs.free_list.FreeList.new.Goals as goal

pub returns : goal.returns
returns c = ap taken_of c.new.ensures.items ∙ taken_of-none
