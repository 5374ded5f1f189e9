use Rattle.std.proofs.Common.{◌∙◌}
use Rattle.hash_index.proofs.KeepingLemmas.{found_is}
use Rattle.hash_index.proofs.block_index.BlockIndex.first.Goals as goal

pub returns-in-Some-clause-added : goal.returns-in-Some-clause-added
returns-in-Some-clause-added c added kept =
    found_is added c.args.hash c.args.length c.in-Some.field-0.now (c.in-Some.ensures.value ∙ kept c.args.hash c.args.length)
