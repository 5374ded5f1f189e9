use Rattle.std.proofs.Common.{◌≡◌, take}
use Rattle.file_table.specs.Pushing.{with_blocks}
use Rattle.array_scan.proofs.building.push_kept.Given as goal

abbrev pub invariant-loop-block : goal.invariant-loop-block
invariant-loop-block l = l.builder ≡ record l.fn.builder { columns = with_blocks l.fn.builder.columns (take l.block-index l.blocks) }
