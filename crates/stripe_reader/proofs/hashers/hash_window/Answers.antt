use Rattle.std.proofs.Common.{All, ap, length, subst, sym, ◌*◌, ◌≡◌, ◌∙◌}
use Rattle.std.proofs.lemmas.List.{with_items_is}
use Rattle.stripe_reader.specs.WindowValue.{IsLane}
use Rattle.stripe_reader.proofs.FrontLemmas.{front_lanes}
use Rattle.stripe_reader.proofs.hashers.hash_window.Goals as goal

pub invariant_of-window : goal.invariant_of-window
invariant_of-window g c =
    let lanes = c.hash_lanes.new.lanes in
    let buffer = c.hash_lanes.new.buffer in
    let count = c.window.inside.count in
    let room = c.window.inside.room in
    let block_size = c.window.inside.block_size in
    let long : length lanes ≡ c.window.inside.lanes.len = c.hash_lanes.auto.lanes ∙ c.as_mut_slice-lanes.ensures.len in
    let as_long : length buffer ≡ c.window.inside.digests.len = c.hash_lanes.auto.buffer ∙ c.as_mut_slice-buffer.ensures.len in
    let as_many : length lanes ≡ length c.window.inside.lanes.items = c.hash_lanes.auto.lanes ∙ ap length c.as_mut_slice-lanes.ensures.value in
    rw (with_items_is c.window.inside.lanes lanes long, with_items_is c.window.inside.digests buffer as_long)
    (record {
      window = record {
        within = c.window.invariant.window.within;
        lanes = front_lanes c.args.shape count block_size room c.as_mut_slice-lanes.result.now lanes c.hash_lanes.ensures
            (subst (All (IsLane block_size room)) (sym c.as_mut_slice-lanes.ensures.value) c.window.invariant.window.lanes);
        cells = record { as_many = c.window.invariant.window.cells.as_many ∙ sym as_many; each = c.window.invariant.window.cells.each };
      };
      digests = c.hash_lanes.auto.buffer ∙ ap length c.as_mut_slice-buffer.ensures.value ∙ c.window.invariant.digests ∙ ap (λ n. n * room) (sym as_many);
    })
