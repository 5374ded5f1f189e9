use Rattle.std.proofs.Common.{rules, ◌*◌, ◌∙◌, ap, arith, sym}
use Rattle.std.proofs.lemmas.List.{length-set}
use Rattle.stripe_reader.specs.KeptWindow.{window_of}
use Rattle.stripe_reader.proofs.PutLemmas.{slot_size, put_kept}
use Rattle.stripe_reader.proofs.window.Window.put.Goals as goal

pub put-requires-clause-size : goal.put-requires-clause-size
put-requires-clause-size c =
    let long = slot_size (window_of c.self.inside) c.args.d c.args.i c.lane.inside.slots.items c.index_mut-lane.result.now c.self.invariant.window (search rules) (search rules) (c.lane.view_is ∙ c.index_mut-lane.ensures.value) c.index_mut-slot.result.now c.index_mut-slot.ensures.value in
    let fits = c.self.ranges.1 in
    omega (arith, long, fits)

pub invariant_of-self : goal.invariant_of-self
invariant_of-self c = record {
  window = put_kept (window_of c.self.inside) c.args.d c.args.i c.lane.inside.slots.items c.index_mut-lane.result.now c.self.invariant.window (search rules) (search rules) (c.lane.view_is ∙ c.index_mut-lane.ensures.value) c.index_mut-slot.result.now c.put.new.self c.args.bytes.now c.index_mut-slot.ensures.value c.put.ensures;
  digests = c.self.invariant.digests ∙ ap (λ n. n * c.self.inside.room) (sym (length-set c.self.inside.lanes.items c.args.d _));
}
