use Rattle.std.proofs.Common.{◌≡◌, take}
use Rattle.array_scan.specs.Refusals.{capped, size_of}
use Rattle.array_scan.proofs.refusing.size_of.Given as goal

abbrev pub invariant-loop-file : goal.invariant-loop-file
invariant-loop-file l = l.blocks ≡ capped (size_of l.block_size (take l.file-index l.files))
