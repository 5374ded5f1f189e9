use Rattle.std.proofs.Common.{◌≡◌, take}
use Rattle.array_scan.specs.Laying.{all_needed}
use Rattle.array_scan.specs.Refusals.{capped}
use Rattle.array_scan.proofs.placing.all_needed.Given as goal

abbrev pub invariant-loop-file : goal.invariant-loop-file
invariant-loop-file l = l.count ≡ capped (all_needed l.block_size (take l.file-index l.files))
