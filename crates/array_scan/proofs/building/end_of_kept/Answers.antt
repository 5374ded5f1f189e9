use Rattle.std.proofs.Common.{◌∙◌}
use Rattle.file_table.specs.Table.{no_block}
use Rattle.array_scan.proofs.EndLemmas.{one_block}
use Rattle.array_scan.proofs.building.end_of_kept.Goals as goal

pub loop-block-preserved : goal.loop-block-preserved
loop-block-preserved c = c.max-end.ensures ∙ one_block c.args.end c.loop-block.end c.args.blocks.now c.loop-block.block-index no_block c.loop-block-test.true c.loop-block.invariant
