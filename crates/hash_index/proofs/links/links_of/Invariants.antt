use Rattle.hash_index.specs.Duplicates.{spots_of}
use Rattle.hash_index.specs.Linking.{AreKeys}
use Rattle.hash_index.proofs.LinkLemmas.{AreLinked}
use Rattle.hash_index.proofs.links.links_of.Given as goal

abbrev pub invariant-loop-place : goal.invariant-loop-place
invariant-loop-place l =
    record {
      keys : AreKeys (spots_of l.records) l.keys.items;
      linked : AreLinked (spots_of l.records) l.keys.items l.links.items l.place;
    }
