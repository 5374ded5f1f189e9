use Rattle.std.proofs.Common.{◌≡◌, ◌+◌, ◌<◌, [], length, get_or, ap, ◌∙◌, arith}
use Rattle.std.proofs.lemmas.List.{with_items_is}
use Rattle.stripe_reader.proofs.GroupLemmas.{one_lane_more}
use Rattle.stripe_reader.proofs.LookedUpLemmas.{looked_as}
use Rattle.stripe_reader.proofs.readers.fetch_lanes.Goals as goal

pub cells_of-requires : goal.cells_of-requires
cells_of-requires g c = omega (arith, c.requires.cells.as_many, c.requires.lanes.within)

pub read_cells-requires-clause-room : goal.read_cells-requires-clause-room
read_cells-requires-clause-room g c =
    let d = c.args.first + c.loop-k.k in
    let column : d < length c.args.table.now.columns = omega (arith, c.requires.lanes.within) in
    omega (arith, ap length c.cells_of.ensures, c.requires.cells.enough d column)

pub read_cells-requires-clause-cells : goal.read_cells-requires-clause-cells
read_cells-requires-clause-cells g c κs within =
    let d = c.args.first + c.loop-k.k in
    let column : d < length c.args.table.now.columns = omega (arith, c.requires.lanes.within) in
    looked_as c.args.table.now d c.args.stripes.now c.cells_of.result.now (get_or c.args.cells.now d []) c.cells_of.ensures (c.requires.cells.each d column)

pub loop-k-preserved : goal.loop-k-preserved
loop-k-preserved g c =
    let slots = c.read_cells.new.slots in
    let long : length slots ≡ c.lane.inside.slots.len = c.read_cells.auto.slots ∙ c.as_mut_slice.ensures.len in
    let as_long : length slots ≡ length (get_or c.loop-k.lanes c.loop-k.k c.index-lanes-k.result) = omega (arith, c.read_cells.auto.slots, ap length c.as_mut_slice.ensures.value, ap length c.lane.view_is) in
    rw (with_items_is c.lane.inside.slots slots long)
    (one_lane_more g.F.Folder.view c.args.table.now c.args.starts.now c.args.first c.loop-k.k c.args.stripes.now c.args.room c.loop-k.lanes slots c.index-lanes-k.result c.args.folders.now c.loop-k.folders c.index-folders-k.result c.read_cells.new.folder
    (omega arith) as_long c.loop-k.invariant c.read_cells.ensures.blocks c.read_cells.ensures.unhashed c.read_cells.ensures.read)
