-- What is asked for a cell, by what is seen of it, and what is known of a cell that was read.
use Rattle.std.proofs.Common.{◌≡◌, ℕ, zero, suc, ◌+◌, ◌*◌, ◌<◌, nat_le, List, [], ◌∷◌, length, map, get_or, Bool, true, false, if◌then◌else◌, Option, None, Some, is_some, refl, sym, ap, ◌∙◌, subst, arith}
use Rattle.std.specs.List.{All, count_by}
use Rattle.std.specs.Option.{option_map}
use Rattle.std.proofs.lemmas.Bool.{and_parts}
use Rattle.std.proofs.lemmas.List.{get_or-map, get_or_default, length-map}
use Rattle.disk_model.specs.Cause.{Rose, RoseBy}
use Rattle.disk_model.specs.Folder.{FolderView}
use Rattle.disk_model.specs.declared.meta.Meta.{Meta}
use Rattle.file_table.specs.Cells.{CellView, cell_in, cell_seen, cell_view}
use Rattle.file_table.specs.Table.{Record, Column, TableValue, IsAt, column_at, record_in, no_record}
use Rattle.file_table.specs.declared.block.Cell.{Cell}
use Rattle.file_table.specs.declared.shape.Shape.{Shape}
use Rattle.stripe_reader.specs.Column.{ReadsColumn, IsReadingOf, no_task}
use Rattle.stripe_reader.specs.Columns.{folder_at}
use Rattle.stripe_reader.specs.Reading.{CellReading, NoBlock, Beyond, Whole, Task, Known, Fetch, block_length, file_task, cell_task, task_at, tasks_at, IsReadingBy, is_unread}
use Rattle.stripe_reader.specs.Slot.{kept}
use Rattle.stripe_reader.specs.SlotValue.{SlotValue}
use Rattle.stripe_reader.specs.Starts.{starts_at, start_in, no_start, recorded_start, recorded_starts}
use Rattle.stripe_reader.specs.WindowValue.{no_slot}
use Rattle.stripe_reader.specs.declared.starts.Start.{Start}
use Rattle.stripe_reader.specs.declared.starts.Place.TheVariants.{Plain}
use Rattle.snap_sync.specs.Calls.{no_reading}
use Rattle.stripe_findings.specs.Reading.{StripeReading, AreRead, slot_of, stripes_of, is_seen, is_recorded, is_right, agrees}
use Rattle.snap_sync.proofs.ListFacts.{count_some}

-- what file_table says of a cell
abbrev pub FindsCells : Type 0
FindsCells = (column : Column) (position : ℕ) (cell : Cell) → cell_in column position ≡ Some cell → IsAt column position cell.rec cell.index

-- what is asked for a cell that is seen, of a file that stands as it was recorded
abbrev pub seen_task : ℕ → Option CellView → Task
seen_task block_size None = Known NoBlock
seen_task block_size (Some seen) = file_task Plain seen.meta.size seen.path (seen.index * block_size) (block_length block_size seen.meta.size seen.index)

starts_of : (columns : List Column) (d : ℕ) → starts_at (map (λ (column : Column). map recorded_start column.records) columns) d ≡ map recorded_start (column_at columns d).records
starts_of [] d = refl
starts_of (column ∷ columns) zero = refl
starts_of (column ∷ columns) (suc d) = starts_of columns d

-- a task is known from what is seen of its cell
pub task_seen : FindsCells → (table : TableValue) (d stripe : ℕ) → task_at table (recorded_starts table) d stripe ≡ seen_task table.shape.block_size (cell_view (column_at table.columns d) stripe)
task_seen finds table d stripe = by_case (cell_in (column_at table.columns d) stripe) refl
  where
    by_case : (found : Option Cell) → cell_in (column_at table.columns d) stripe ≡ found
        → cell_task table.shape.block_size (column_at table.columns d) (starts_at (recorded_starts table).columns d) found
        ≡ seen_task table.shape.block_size (option_map (cell_seen (column_at table.columns d)) found)
    by_case None is = refl
    by_case (Some cell) is =
        let column : Column = column_at table.columns d in
        let size : ℕ = table.shape.block_size in
        let kept_file : Record = record_in column cell.rec in
        let start_is : start_in (starts_at (recorded_starts table).columns d) cell.rec ≡ recorded_start kept_file =
        ap (λ (starts : List Start). start_in starts cell.rec) (starts_of table.columns d)
        ∙ get_or-map recorded_start column.records cell.rec no_record no_start (finds column stripe cell is).within in
        ap (λ (start : Start). file_task start.place start.size kept_file.path (cell.index * size) (block_length size kept_file.meta.size cell.index)) start_is

-- a reading of which a digest is kept is of a block that came whole
pub record IsWhole (reading : CellReading) : Type 0 where
  pub seen : Meta
  pub bytes : List ℕ
  pub is : reading ≡ Whole seen bytes

pub whole_of : (shape : Shape) (reading : CellReading) → is_some (kept shape reading).digest ≡ true → IsWhole reading
whole_of shape (Whole seen bytes) is = record { seen = seen; bytes = bytes; is = refl }
whole_of shape other is = cc

-- and it has the length of its block
pub whole_length : (size : ℕ) (cell : CellView) (seen : Meta) (bytes : List ℕ) → IsReadingBy (seen_task size (Some cell)) (Whole seen bytes) → length bytes ≡ block_length size cell.meta.size cell.index
whole_length size cell seen bytes by = by_case (nat_le (cell.index * size + block_length size cell.meta.size cell.index) cell.meta.size) by
  where
    by_case : (b : Bool) → IsReadingBy (if b then Fetch cell.path false (cell.index * size) (block_length size cell.meta.size cell.index) else Known Beyond) (Whole seen bytes)
        → length bytes ≡ block_length size cell.meta.size cell.index
    by_case true is = is.size
    by_case false is = cc

-- a cell that is right was read
pub read_where_right : (shape : Shape) (cell : Option CellView) (reading : CellReading) → IsReadingBy (seen_task shape.block_size cell) reading → is_right cell (kept shape reading) ≡ true → is_unread reading ≡ false
read_where_right shape None reading by right = ap is_unread by
read_where_right shape (Some cell) reading by right =
    let recorded = and_parts (is_recorded cell.meta (kept shape reading)) (agrees cell.hash (kept shape reading).digest) right in
    let came = and_parts (is_some (kept shape reading).digest) (is_seen cell.meta (kept shape reading).cell.seen) recorded.0 in
    ap is_unread (whole_of shape reading came.0).is

-- a cell was read of a folder, this is what its slot keeps, and where that failed the folder's count rose
pub record IsCellRead (table : TableValue) (old new : FolderView) (d stripe : ℕ) (slot : SlotValue) : Type 0 where
  pub reading : CellReading
  pub is_of : IsReadingOf old (task_at table (recorded_starts table) d stripe) reading
  pub unread : is_unread reading ≡ true → Rose old.faults new.faults
  pub is_kept : slot ≡ kept table.shape reading

-- a stripe was read of folders, column by column
pub record IsStripeRead (table : TableValue) (olds news : List FolderView) (reading : StripeReading) : Type 0 where
  pub wide : length reading.slots ≡ length table.columns
  pub cells : (d : ℕ) → d < length table.columns → IsCellRead table (folder_at olds d) (folder_at news d) d reading.stripe (slot_of d reading)

rose_by_one : (n before now : ℕ) → 0 < n → RoseBy n before now → Rose before now
rose_by_one n before now some rose = omega (arith, some, rose)

module _ (table : TableValue) (readings : List StripeReading) (olds news : List FolderView) (read : AreRead table readings olds news) where
  cell_read : (d i : ℕ) → d < length olds → i < length readings → IsCellRead table (folder_at olds d) (folder_at news d) d (get_or readings i no_reading).stripe (slot_of d (get_or readings i no_reading))
  cell_read d i d_in i_in =
      let column : ReadsColumn table.shape (tasks_at table (recorded_starts table) d (stripes_of readings)) (map (slot_of d) readings) (folder_at olds d) (folder_at news d) = read.each d d_in in
      let stripes : length (stripes_of readings) ≡ length readings = length-map readings (λ (r : StripeReading). r.stripe) in
      let many : length (tasks_at table (recorded_starts table) d (stripes_of readings)) ≡ length (stripes_of readings) = length-map (stripes_of readings) (task_at table (recorded_starts table) d) in
      let i_task : i < length (tasks_at table (recorded_starts table) d (stripes_of readings)) = omega (arith, i_in, stripes, many) in
      let i_cell : i < length column.readings = omega (arith, column.as_many, i_task) in
      let task_is : get_or (tasks_at table (recorded_starts table) d (stripes_of readings)) i no_task ≡ task_at table (recorded_starts table) d (get_or readings i no_reading).stripe =
      get_or-map (task_at table (recorded_starts table) d) (stripes_of readings) i 0 no_task (omega (arith, i_in, stripes))
      ∙ ap (task_at table (recorded_starts table) d) (get_or-map (λ (r : StripeReading). r.stripe) readings i no_reading 0 i_in) in
      record {
        reading = get_or column.readings i NoBlock;
        is_of = subst (λ (task : Task). IsReadingOf (folder_at olds d) task (get_or column.readings i NoBlock)) task_is (column.are_of i i_task);
        unread = λ is. rose_by_one (count_by is_unread column.readings) (folder_at olds d).faults (folder_at news d).faults (count_some is_unread column.readings i NoBlock i_cell is) column.unread;
        is_kept = sym (get_or-map (slot_of d) readings i no_reading no_slot i_in)
            ∙ ap (λ (slots : List SlotValue). get_or slots i no_slot) column.are_kept
            ∙ get_or-map (kept table.shape) column.readings i NoBlock no_slot i_cell;
      }

  pub stripes_read : length olds ≡ length table.columns → All (IsStripeRead table olds news) readings
  stripes_read all i none i_in =
      let same : get_or readings i none ≡ get_or readings i no_reading = get_or_default readings i none no_reading i_in in
      subst (IsStripeRead table olds news) (sym same) (record {
        wide = read.wide i no_reading i_in;
        cells = λ d below. cell_read d i (omega (arith, below, all)) i_in;
      })
