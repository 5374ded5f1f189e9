use Rattle.std.proofs.Common.{arith}
use Rattle.snap_config.proofs.SetupLemmas.{some_size}
use Rattle.snap_config.proofs.config.finish.Goals as goal

pub capacity-requires : goal.capacity-requires
capacity-requires c = let some = some_size c.args.builder.block_size c.requires in omega (arith, some, c.unwrap_or-block_size.ensures)
