use Rattle.std.proofs.Common.{◌≡◌, ◌++◌, drop}
use Rattle.hash_index.specs.Duplicates.{spots_of}
use Rattle.hash_index.specs.Linking.{keys_from}
use Rattle.hash_index.proofs.links.keys_of.Given as goal

-- the keys so far, and those to come, are those of all records
abbrev pub invariant-loop-number : goal.invariant-loop-number
invariant-loop-number l = let spots = spots_of l.records in l.keys.items ++ keys_from l.number (drop l.number spots) ≡ keys_from 0 spots
