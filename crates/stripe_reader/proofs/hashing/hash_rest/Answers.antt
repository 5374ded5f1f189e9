use Rattle.std.proofs.Common.{◌+◌, ◌<◌, ◌∙◌, ap, arith, length}
use Rattle.stripe_reader.specs.Hashing.{hashed}
use Rattle.stripe_reader.proofs.LaneLemmas.{made_before, made_set, number_is, some_set, unhashed_at}
use Rattle.stripe_reader.proofs.hashing.hash_rest.Goals as goal
use Rattle.stripe_reader.proofs.hashing.hash_rest.Goals.{then-is_none, else-is_none}

pub digest-requires-clause-block : goal.digest-requires-clause-block
digest-requires-clause-block c =
    let at = c.args.start + c.loop-k.k in
    let number = number_is c.args.shape c.args.count c.args.lanes.now c.requires.lanes at (omega arith) in
    ap (λ it. length it.block) c.slot_of.ensures ∙ (unhashed_at c.args.shape c.args.count c.args.lanes.now c.requires.lanes at number).block

pub loop-k-preserved : goal.loop-k-preserved
loop-k-preserved c =
    let shape = c.args.shape in
    let count = c.args.count in
    let lanes = c.args.lanes.now in
    let start = c.args.start in
    let digests = c.loop-k.digests in
    let k = c.loop-k.k in
    let within : k < length digests = omega (arith, c.loop-k-test.true, c.loop-k.auto.digests) in
    elim c.if-is_none.branch [
      | then-is_none w ↦
          let is = w.digest.ensures ∙ ap (λ it. (hashed shape it).digest) w.slot_of.ensures in
          rw w.digests-is
          (record {
            some = some_set shape count lanes start digests k w.digest.result within is c.loop-k.invariant.some;
            made = made_set shape count lanes start digests k w.digest.result within is c.loop-k.invariant.made;
          })
      | else-is_none w ↦
          rw w.digests-is
          (record {
            some = c.loop-k.invariant.some;
            made = made_before shape count lanes start digests k within c.loop-k.invariant.some w.if-is_none.ensures c.loop-k.invariant.made;
          })
    ]
