use Rattle.std.proofs.Common.{◌≡◌, ◌≢◌, ◌*◌, None, refl, ap, ap₂, ◌∙◌, arith}
use Rattle.file_table.specs.Table.{column_at, record_in}
use Rattle.stripe_reader.specs.Hashing.{hashed}
use Rattle.stripe_reader.specs.Reading.{Nowhere, Beyond, block_length}
use Rattle.stripe_reader.specs.Starts.{starts_at}
use Rattle.stripe_reader.specs.declared.slot.Found.TheVariants as found
use Rattle.stripe_reader.specs.declared.starts.Place.TheVariants as place
use Rattle.stripe_reader.proofs.CellLemmas.{slot_known}
use Rattle.stripe_reader.proofs.HashingLemmas.{without_unhashed}
use Rattle.stripe_reader.proofs.TaskLemmas.{block_nowhere, block_beyond}
use Rattle.stripe_reader.proofs.reading.read_block.Goals as goal
use Rattle.stripe_reader.proofs.reading.read_block.Goals.{in-Plain, in-Lost}

pub returns-in-Nowhere-clause-read : goal.returns-in-Nowhere-clause-read
returns-in-Nowhere-clause-read g c =
    let table = c.args.table.now in
    slot_known table.shape _ Nowhere (hashed table.shape c.keep_none.new.self) _ (g.F.Folder.view c.args.folder.now)
    (block_nowhere table.shape.block_size (column_at table.columns c.args.d) (starts_at c.args.starts.now.columns c.args.d) c.args.cell c.at-start.result c.at-start.ensures c.in-Nowhere.is)
    refl c.requires.block (ap (hashed table.shape) c.keep_none.ensures)

pub returns-then-at-from-clause-read : goal.returns-then-at-from-clause-read
returns-then-at-from-clause-read g c =
    let table = c.args.table.now in
    let kept = record_in (column_at table.columns c.args.d) c.args.cell.rec in
    let shape_is : c.shape-shape.result.block_size ≡ table.shape.block_size = ap (λ shape. shape.block_size) c.shape-shape.ensures.shape in
    let size_is : c.block_length-size.result ≡ block_length table.shape.block_size kept.meta.size c.args.cell.index =
    c.block_length-size.ensures ∙ ap₂ (λ n meta. block_length n meta.size c.args.cell.index) shape_is c.meta.ensures in
    let at_is : c.from.result * c.from-2.result ≡ c.args.cell.index * table.shape.block_size = ap₂ (λ index n. index * n) c.from.ensures (c.from-2.ensures ∙ shape_is) in
    let somewhere : c.at-start.result.place ≢ place.Nowhere = elim c.match-start.branch [
      | in-Plain w ↦ λ no. let plain = w.in-Plain.is in cc
      | in-Lost w ↦ λ no. let lost = w.in-Lost.is in cc
    ] in
    slot_known table.shape _ Beyond (hashed table.shape c.keep_none-then-at-from.new.self) _ (g.F.Folder.view c.args.folder.now)
    (block_beyond table.shape.block_size (column_at table.columns c.args.d) (starts_at c.args.starts.now.columns c.args.d) c.args.cell c.at-start.result c.at-start.ensures
    (c.from.result * c.from-2.result) c.from-3.result somewhere at_is (c.from-3.ensures ∙ size_is) c.if-at-from.true)
    refl c.requires.block (ap (hashed table.shape) c.keep_none-then-at-from.ensures)

pub returns-in-Nowhere-clause-unhashed : goal.returns-in-Nowhere-clause-unhashed
returns-in-Nowhere-clause-unhashed g c =
    without_unhashed c.args.table.now.shape.block_size _ found.Missing 0 None c.keep_none.new.self c.keep_none.ensures (omega arith) c.requires.block

pub returns-then-at-from-clause-unhashed : goal.returns-then-at-from-clause-unhashed
returns-then-at-from-clause-unhashed g c =
    without_unhashed c.args.table.now.shape.block_size _ found.Short 0 None c.keep_none-then-at-from.new.self c.keep_none-then-at-from.ensures (omega arith) c.requires.block
