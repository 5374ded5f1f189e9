use Rattle.std.proofs.Common.{◌≡◌, take}
use Rattle.array_scan.specs.Layout.{sorted_of}
use Rattle.array_scan.specs.Refusals.{capped, blocks_in}
use Rattle.array_scan.proofs.refusing.blocks_in.Given as goal

abbrev pub invariant-loop-column : goal.invariant-loop-column
invariant-loop-column l = l.blocks ≡ capped (blocks_in l.block_size (sorted_of (take l.column-index l.columns)))
