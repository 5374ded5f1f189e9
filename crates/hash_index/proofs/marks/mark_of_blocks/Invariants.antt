use Rattle.std.proofs.Common.{◌≡◌, drop}
use Rattle.hash_index.specs.Duplicates.{hashes_of}
use Rattle.hash_index.specs.Marking.{mark_from, mark_in}
use Rattle.hash_index.proofs.marks.mark_of_blocks.Given as goal

abbrev pub invariant-loop-block : goal.invariant-loop-block
invariant-loop-block l = mark_from l.mark (hashes_of (drop l.block-index l.blocks)) ≡ mark_in (hashes_of l.blocks)
