use Rattle.std.proofs.Common.{None, refl, ap, arith}
use Rattle.file_table.specs.Table.{column_at}
use Rattle.stripe_reader.specs.Hashing.{hashed}
use Rattle.stripe_reader.specs.Reading.{NoBlock, cell_task}
use Rattle.stripe_reader.specs.Starts.{starts_at}
use Rattle.stripe_reader.specs.declared.slot.Found.TheVariants as found
use Rattle.stripe_reader.proofs.CellLemmas.{slot_known}
use Rattle.stripe_reader.proofs.HashingLemmas.{without_unhashed}
use Rattle.stripe_reader.proofs.reading.read_slot.Goals as goal

pub returns-in-None-clause-read : goal.returns-in-None-clause-read
returns-in-None-clause-read g c =
    let table = c.args.table.now in
    slot_known table.shape _ NoBlock (hashed table.shape c.keep_none.new.self) _ (g.F.Folder.view c.args.folder.now)
    (ap (cell_task table.shape.block_size (column_at table.columns c.args.d) (starts_at c.args.starts.now.columns c.args.d)) c.in-None.is)
    refl c.requires.block (ap (hashed table.shape) c.keep_none.ensures)

pub returns-in-None-clause-unhashed : goal.returns-in-None-clause-unhashed
returns-in-None-clause-unhashed g c =
    without_unhashed c.args.table.now.shape.block_size _ found.Empty 0 None c.keep_none.new.self c.keep_none.ensures (omega arith) c.requires.block
