use Rattle.std.proofs.Common.{arith, length, ap}
use Rattle.hash_index.specs.Duplicates.{spots_of}
use Rattle.hash_index.proofs.LinkLemmas.{keys_long, key_within, linked_next, linked_to_end}
use Rattle.hash_index.proofs.links.links_of.Goals as goal

pub index_mut-requires : goal.index_mut-requires
index_mut-requires c =
    let keys = c.loop-place.invariant.keys in
    let long = keys_long (spots_of c.args.records.now) _ keys in
    let within = key_within (spots_of c.args.records.now) _ c.loop-place.place c.index.result.now keys
    (omega (arith, long, c.loop-place-test.true, c.len-place-end.ensures, c.in_ok-keys.keys.ok.0, ap length c.in_ok-keys.ensures)) c.index.ensures in
    omega (arith, within, c.loop-place.invariant.linked.count, c.loop-place.links.ok.0)

pub loop-place-preserved : goal.loop-place-preserved
loop-place-preserved c =
    let keys = c.loop-place.invariant.keys in
    let long = keys_long (spots_of c.args.records.now) _ keys in
    record {
      keys = keys;
      linked = linked_next (spots_of c.args.records.now) _ c.deref.result.now c.loop-place.links.items c.loop-place.place c.next_same.result c.index.result.now keys
          (omega (arith, long, c.loop-place-test.true, c.len-place-end.ensures, c.in_ok-keys.keys.ok.0, ap length c.in_ok-keys.ensures))
          c.index.ensures c.deref.ensures.value c.loop-place.invariant.linked c.next_same.ensures;
    }

pub returns : goal.returns
returns c =
    let keys = c.loop-place.invariant.keys in
    let long = keys_long (spots_of c.args.records.now) _ keys in
    linked_to_end (spots_of c.args.records.now) _ c.loop-place.links.items c.loop-place.place keys
    (omega (arith, long, c.loop-place-test.false, c.len-place-end.ensures, c.in_ok-keys.keys.ok.0, ap length c.in_ok-keys.ensures)) c.loop-place.invariant.linked
