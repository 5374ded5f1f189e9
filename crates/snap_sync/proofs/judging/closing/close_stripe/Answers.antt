use Rattle.std.proofs.Common.{◌≡◌, ◌<◌, ◌≤◌, length, sym, ap, ◌∙◌, subst, arith}
use Rattle.std.proofs.lemmas.List.{length-map}
use Rattle.file_table.specs.Table.{TableValue, column_at}
use Rattle.file_table.specs.Valid.{IsHashedAt}
use Rattle.stripe_findings.specs.Reading.{reading_at, slot_in}
use Rattle.snap_sync.specs.Closing.{with_hashes}
use Rattle.snap_sync.proofs.HashLemmas.{hashed_none, hashed_more, hashed_all, columns_of-hashed_to, cell_ahead, cell_record, cell_block, digest_here, hashed_stripe, positions_once, closed_as}
use Rattle.snap_sync.proofs.judging.closing.close_stripe.Goals as goal

pub loop-d-init : goal.loop-d-init
loop-d-init c = hashed_none c.args.table.now (reading_at c.args.stripes.now c.args.window.now c.args.i)

pub hash_cell-requires-clause-column : goal.hash_cell-requires-clause-column
hash_cell-requires-clause-column c =
    let long = columns_of-hashed_to c.args.table.now c.loop-d.table (reading_at c.args.stripes.now c.args.window.now c.args.i) c.loop-d.d c.loop-d.invariant in
    omega (arith, long, c.disks-d-end.ensures.count)

pub hash_cell-requires-clause-rec : goal.hash_cell-requires-clause-rec
hash_cell-requires-clause-rec c =
    let d = c.loop-d.d in
    let reading = reading_at c.args.stripes.now c.args.window.now c.args.i in
    let within : d < length c.args.table.now.columns = omega (arith, c.disks-d-end.ensures.count) in
    let looked = c.table_cell.ensures ∙ c.requires.holds.cells d within c.args.i c.requires.stripe in
    cell_record (column_at c.loop-d.table.columns d) reading.stripe c.table_cell.result
    (cell_ahead c.args.table.now c.loop-d.table reading d c.table_cell.result c.loop-d.invariant looked)

pub hash_cell-requires-clause-block : goal.hash_cell-requires-clause-block
hash_cell-requires-clause-block c =
    let d = c.loop-d.d in
    let reading = reading_at c.args.stripes.now c.args.window.now c.args.i in
    let within : d < length c.args.table.now.columns = omega (arith, c.disks-d-end.ensures.count) in
    let looked = c.table_cell.ensures ∙ c.requires.holds.cells d within c.args.i c.requires.stripe in
    cell_block (column_at c.loop-d.table.columns d) reading.stripe c.table_cell.result
    (cell_ahead c.args.table.now c.loop-d.table reading d c.table_cell.result c.loop-d.invariant looked)

pub loop-d-preserved : goal.loop-d-preserved
loop-d-preserved c =
    let d = c.loop-d.d in
    let table = c.args.table.now in
    let window = c.args.window.now in
    let reading = reading_at c.args.stripes.now window c.args.i in
    let within : d < length table.columns = omega (arith, c.disks-d-end.ensures.count) in
    let given : d < length reading.slots = omega (arith, length-map window.lanes (slot_in c.args.i), c.requires.holds.fits.lanes, within) in
    let looked = c.table_cell.ensures ∙ c.requires.holds.cells d within c.args.i c.requires.stripe in
    hashed_more table c.loop-d.table c.hash_cell.new.table reading d c.digest.result within given
    (digest_here c.args.stripes.now window c.args.i d c.digest.result c.digest.ensures) c.loop-d.invariant
    (c.hash_cell.ensures reading.stripe (cell_ahead table c.loop-d.table reading d c.table_cell.result c.loop-d.invariant looked))

pub set_info-requires-clause-stripe : goal.set_info-requires-clause-stripe
set_info-requires-clause-stripe c =
    omega (arith, c.requires.holds.within c.args.i 0 c.requires.stripe, ap (λ (t : TableValue). length t.infos) c.loop-d.invariant)

pub set_info-requires-clause-hashes : goal.set_info-requires-clause-hashes
set_info-requires-clause-hashes c = λ synced.
    let table = c.args.table.now in
    let reading = reading_at c.args.stripes.now c.args.window.now c.args.i in
    let all : length table.columns ≤ c.loop-d.d = omega (arith, c.disks-d-end.ensures.count) in
    let is : c.loop-d.table ≡ with_hashes reading table = c.loop-d.invariant ∙ hashed_all table reading c.loop-d.d all in
    subst (λ (t : TableValue). IsHashedAt t.columns reading.stripe) (sym is)
    (hashed_stripe table reading (positions_once (length table.infos) table.columns c.disks-d-end.ensures.valid.columns.each) c.requires.digests)

pub returns : goal.returns
returns c =
    let table = c.args.table.now in
    let reading = reading_at c.args.stripes.now c.args.window.now c.args.i in
    let all : length table.columns ≤ c.loop-d.d = omega (arith, c.disks-d-end.ensures.count) in
    let is : c.loop-d.table ≡ with_hashes reading table = c.loop-d.invariant ∙ hashed_all table reading c.loop-d.d all in
    closed_as c.args.now reading table c.loop-d.table c.set_info.new.self is c.set_info.ensures
