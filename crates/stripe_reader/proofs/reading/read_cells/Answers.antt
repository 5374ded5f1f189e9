use Rattle.std.proofs.Common.{◌≡◌, None, Option, length, get_or, subst, arith}
use Rattle.std.proofs.lemmas.List.Elements.{All-set}
use Rattle.file_table.specs.Table.{column_at}
use Rattle.file_table.specs.declared.block.Cell.{Cell}
use Rattle.stripe_reader.specs.Column.{ReadsSlot}
use Rattle.stripe_reader.specs.Hashing.{hashed}
use Rattle.stripe_reader.specs.Reading.{cell_task, task_at}
use Rattle.stripe_reader.specs.SlotValue.{SlotValue}
use Rattle.stripe_reader.specs.Starts.{starts_at}
use Rattle.stripe_reader.proofs.ColumnLemmas.{no_cells, one_slot_more, unhashed_more}
use Rattle.stripe_reader.proofs.LookedUpLemmas.{of_record}
use Rattle.stripe_reader.proofs.reading.read_cells.Goals as goal

pub read_slot-requires-clause-rec : goal.read_slot-requires-clause-rec
read_slot-requires-clause-rec g c κs within =
    let i = c.loop-i.i in
    of_record c.args.table.now c.args.d (get_or c.args.stripes.now i 0) (get_or c.args.cells.now i None) (c.requires.cells i (omega arith))

pub loop-i-init : goal.loop-i-init
loop-i-init g c = record { blocks = c.requires.blocks; unhashed = λ i d lt. absurd (omega arith); read = no_cells _ _ }

pub loop-i-preserved : goal.loop-i-preserved
loop-i-preserved g c =
    let so_far = c.loop-i.invariant in
    let slot = c.read_slot.new.slot in
    let read = c.read_slot.ensures in
    let table = c.args.table.now in
    let shape = table.shape in
    let i = c.loop-i.i in
    let before = g.F.Folder.view c.loop-i.folder in
    let after = g.F.Folder.view c.read_slot.new.folder in
    let task = cell_task shape.block_size (column_at table.columns c.args.d) (starts_at c.args.starts.now.columns c.args.d) in
    let its : ReadsSlot shape (task_at table c.args.starts.now c.args.d (get_or c.args.stripes.now i 0)) (hashed shape slot) before after =
    subst (λ (found : Option Cell). ReadsSlot shape (task found) (hashed shape slot) before after) (c.requires.cells i (omega arith)) read.read in
    record {
      blocks = All-set (λ (it : SlotValue). length it.block ≡ shape.block_size) c.loop-i.slots i slot read.unhashed.block so_far.blocks;
      unhashed = unhashed_more shape.block_size i c.loop-i.slots slot (omega (arith, c.requires.enough, c.loop-i.auto.slots)) so_far.unhashed read.unhashed;
      read = one_slot_more shape (task_at table c.args.starts.now c.args.d) i c.args.stripes.now c.loop-i.slots slot (g.F.Folder.view c.args.folder.now) before after
          (omega arith) (omega (arith, c.requires.enough, c.loop-i.auto.slots)) so_far.read its;
    }
