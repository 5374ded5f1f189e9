use Rattle.std.proofs.Common.{◌≡◌, drop}
use Rattle.hash_index.specs.Duplicates.{hashes_of, same_hashes}
use Rattle.hash_index.proofs.marks.have_same_hashes.Given as goal

abbrev pub invariant-loop-at : goal.invariant-loop-at
invariant-loop-at l = same_hashes (hashes_of (drop l.at l.first)) (hashes_of (drop l.at l.other)) ≡ same_hashes (hashes_of l.first) (hashes_of l.other)
