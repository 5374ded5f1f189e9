use Rattle.hash_index.specs.Listing.{NoneLinked}
use Rattle.hash_index.proofs.pairs.next_linked.Given as goal

abbrev pub invariant-loop-number : goal.invariant-loop-number
invariant-loop-number l = NoneLinked l.links l.from l.number
