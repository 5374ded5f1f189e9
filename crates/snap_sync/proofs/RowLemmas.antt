-- The row of a verified stripe stands at it, once it is closed.
use Rattle.std.proofs.Common.{◌≡◌, ℕ, ◌-◌, ◌<◌, ◌≤◌, List, [], ◌++◌, length, take, get_or, replicate, true, Option, None, Some, is_some, refl, sym, ap, ap₂, ◌∙◌, subst, arith}
use Rattle.std.proofs.lemmas.Bool.{and_parts}
use Rattle.std.proofs.lemmas.List.{append-nil, get_or-map, get_or_past, length-map, take_all, take-append-le}
use Rattle.block_hash.specs.Hash.{hash}
use Rattle.block_hash.specs.declared.Digest16.{Digest16}
use Rattle.disk_model.specs.Bytes.{resized}
use Rattle.disk_model.specs.Folder.{FolderView}
use Rattle.disk_model.specs.declared.meta.Meta.{Meta}
use Rattle.file_table.specs.Cells.{CellView, seen_with, cell_view, stripe_view}
use Rattle.file_table.specs.Table.{Column, TableValue, column_at, no_column}
use Rattle.file_table.specs.declared.shape.Shape.{Shape}
use Rattle.parity_writer.specs.Sound.{IsBlockAt, IsBlockOf, IsRowOf, real_length}
use Rattle.parity_writer.specs.WindowRow.{bytes_of}
use Rattle.stripe_reader.specs.Reading.{CellReading, Task, IsReadingBy, block_length}
use Rattle.stripe_reader.specs.Slot.{kept, slot_with}
use Rattle.stripe_reader.specs.SlotValue.{SlotValue}
use Rattle.stripe_reader.specs.WindowValue.{no_slot}
use Rattle.stripe_reader.specs.Columns.{folder_at}
use Rattle.stripe_findings.specs.Reading.{StripeReading, slot_of, is_seen, is_recorded, is_right, is_verified, agrees, digests_of, row_of}
use Rattle.snap_sync.proofs.CellLemmas.{FindsCells, IsCellRead, IsStripeRead, IsWhole, seen_task, task_seen, whole_of, whole_length}
use Rattle.snap_sync.proofs.GivenLemmas.{right_in}
use Rattle.snap_sync.proofs.SeenLemmas.{view_with, views_with, views_at, view_closed, view_in, length-views_with}

resized_same : (bytes : List ℕ) (n : ℕ) → length bytes ≡ n → resized bytes n ≡ bytes
resized_same bytes n is =
    let none : n - length bytes ≡ 0 = omega (arith, is) in
    ap₂ (λ (front back : List ℕ). front ++ back) (take_all n bytes (omega (arith, is))) (ap (λ (k : ℕ). replicate k 0) none)
    ∙ append-nil bytes

-- the bytes of a slot are those that were read
whole_bytes : (bytes : List ℕ) (size : ℕ) → length bytes ≤ size → take (length bytes) (resized bytes size) ≡ bytes
whole_bytes bytes size few =
    ap (λ (xs : List ℕ). take (length bytes) (xs ++ replicate (size - length bytes) 0)) (take_all size bytes few)
    ∙ take-append-le (length bytes) bytes (replicate (size - length bytes) 0) (omega arith)
    ∙ take_all (length bytes) bytes (omega arith)

-- a block that came whole has the hash that its cell is given
whole_closes : (shape : Shape) (cell : CellView) (seen : Meta) (bytes : List ℕ) → length bytes ≡ block_length shape.block_size cell.meta.size cell.index
    → IsBlockAt shape (view_with (slot_with shape seen bytes).digest (Some cell)) (bytes_of (slot_with shape seen bytes))
whole_closes shape cell seen bytes long =
    let digest : Digest16 = record { 0 = hash shape.kind shape.seed bytes } in
    let few : length bytes ≤ shape.block_size = omega (arith, long) in
    let same : resized bytes (real_length shape cell) ≡ bytes = resized_same bytes (real_length shape cell) long in
    let block : IsBlockOf shape (seen_with digest cell) bytes = record {
      hash = ap (λ (xs : List ℕ). let d : Digest16 = record { 0 = hash shape.kind shape.seed xs } in Some d) (sym same);
      zeros = λ i past. get_or_past bytes i 0 (omega (arith, past, long));
    } in
    subst (IsBlockOf shape (seen_with digest cell)) (sym (whole_bytes bytes shape.block_size few)) block

-- what was read of a cell that is right stands there, once it is closed
cell_closes : (shape : Shape) (cell : Option CellView) (reading : CellReading) → IsReadingBy (seen_task shape.block_size cell) reading → is_right cell (kept shape reading) ≡ true
    → IsBlockAt shape (view_with (kept shape reading).digest cell) (bytes_of (kept shape reading))
cell_closes shape None reading by right = subst (λ (r : CellReading). IsBlockAt shape (view_with (kept shape r).digest None) (bytes_of (kept shape r))) (sym by) (λ i. refl)
cell_closes shape (Some cell) reading by right =
    let recorded = and_parts (is_recorded cell.meta (kept shape reading)) (agrees cell.hash (kept shape reading).digest) right in
    let came = and_parts (is_some (kept shape reading).digest) (is_seen cell.meta (kept shape reading).cell.seen) recorded.0 in
    let whole : IsWhole reading = whole_of shape reading came.0 in
    let long : length whole.bytes ≡ block_length shape.block_size cell.meta.size cell.index =
    whole_length shape.block_size cell whole.seen whole.bytes (subst (IsReadingBy (seen_task shape.block_size (Some cell))) whole.is by) in
    subst (λ (r : CellReading). IsBlockAt shape (view_with (kept shape r).digest (Some cell)) (bytes_of (kept shape r))) (sym whole.is)
    (whole_closes shape cell whole.seen whole.bytes long)

module _ (finds : FindsCells) (table : TableValue) (olds news : List FolderView) (reading : StripeReading) (read : IsStripeRead table olds news reading) (verified : is_verified table reading ≡ true) where
  abbrev seen : List (Option CellView)
  seen = views_at reading.stripe table.columns

  seen_long : length seen ≡ length table.columns
  seen_long = length-map table.columns (λ (column : Column). cell_view column reading.stripe)

  block_closes : (d : ℕ) (below : d < length table.columns) → IsBlockAt table.shape (get_or (views_with (digests_of reading) seen) d None) (get_or (row_of reading) d [])
  block_closes d below =
      let cell : IsCellRead table (folder_at olds d) (folder_at news d) d reading.stripe (slot_of d reading) = read.cells d below in
      let there : d < length reading.slots = omega (arith, below, read.wide) in
      let it : Option CellView = cell_view (column_at table.columns d) reading.stripe in
      let closes : IsBlockAt table.shape (view_with (kept table.shape cell.reading).digest it) (bytes_of (kept table.shape cell.reading)) =
      cell_closes table.shape it cell.reading
      (subst (λ (task : Task). IsReadingBy task cell.reading) (task_seen finds table d reading.stripe) cell.is_of.by)
      (subst (λ (slot : SlotValue). is_right it slot ≡ true) cell.is_kept (right_in table reading verified d below)) in
      let of_slot : IsBlockAt table.shape (view_with (slot_of d reading).digest it) (bytes_of (slot_of d reading)) =
      subst (λ (slot : SlotValue). IsBlockAt table.shape (view_with slot.digest it) (bytes_of slot)) (sym cell.is_kept) closes in
      let view_is : get_or (views_with (digests_of reading) seen) d None ≡ view_with (slot_of d reading).digest it =
      view_in (digests_of reading) seen d
      ∙ ap₂ (λ (digest : Option Digest16) (one : Option CellView). view_with digest one)
      (get_or-map (λ (slot : SlotValue). slot.digest) reading.slots d no_slot None there)
      (get_or-map (λ (column : Column). cell_view column reading.stripe) table.columns d no_column None below) in
      let block_is : get_or (row_of reading) d [] ≡ bytes_of (slot_of d reading) = get_or-map bytes_of reading.slots d no_slot [] there in
      subst (λ (one : Option CellView). IsBlockAt table.shape one (get_or (row_of reading) d [])) (sym view_is)
      (subst (IsBlockAt table.shape (view_with (slot_of d reading).digest it)) (sym block_is) of_slot)

  pub row_closes : (now : ℕ) → IsRowOf table.shape (view_closed now reading (stripe_view table reading.stripe)) (row_of reading)
  row_closes now = record {
    as_many = length-map reading.slots bytes_of ∙ read.wide ∙ sym seen_long ∙ sym (length-views_with (digests_of reading) seen);
    blocks = λ d below. block_closes d (omega (arith, below, length-views_with (digests_of reading) seen, seen_long));
  }
