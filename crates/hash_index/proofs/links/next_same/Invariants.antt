use Rattle.hash_index.specs.Duplicates.{spots_of}
use Rattle.hash_index.proofs.LinkLemmas.{NoneMet}
use Rattle.hash_index.proofs.links.next_same.Given as goal

abbrev pub invariant-loop-at : goal.invariant-loop-at
invariant-loop-at l = NoneMet (spots_of l.records) l.keys l.place l.at
