-- The rows that a sync read are of bytes.
use Rattle.std.proofs.Common.{◌≡◌, ℕ, zero, suc, ◌-◌, ◌*◌, ◌+◌, ◌<◌, List, [], ◌∷◌, ◌++◌, length, map, take, drop, replicate, get_or, Bool, true, false, Option, None, Some, All, if◌then◌else◌, nat_le, refl, sym, ap, ◌∙◌, subst, arith}
use Rattle.std.proofs.lemmas.List.{get_or-map, get_or_default, length-map}
use Rattle.cauchy.specs.Recovery.{AreBytes as AreRowBytes}
use Rattle.disk_model.specs.Bytes.{AreBytes, resized}
use Rattle.disk_model.specs.Folder.{FolderView}
use Rattle.disk_model.specs.declared.meta.Meta.{Meta}
use Rattle.file_table.specs.Cells.{cell_in}
use Rattle.file_table.specs.Table.{Column, Record, TableValue, column_at, record_in}
use Rattle.file_table.specs.declared.block.Cell.{Cell}
use Rattle.file_table.specs.declared.shape.Shape.{Shape}
use Rattle.parity_writer.specs.WindowRow.{bytes_of}
use Rattle.stripe_reader.specs.Column.{IsReadingOf, ReadsColumn, no_task}
use Rattle.stripe_reader.specs.Columns.{folder_at}
use Rattle.stripe_reader.specs.Reading.{CellReading, Beyond, Fetch, Gone, IsFetched, IsReadingBy, Known, NoBlock, Nowhere, Part, Task, Unread, Whole, block_length, cell_task, file_task, task_at, tasks_at}
use Rattle.stripe_reader.specs.Slot.{kept}
use Rattle.stripe_reader.specs.SlotValue.{SlotValue}
use Rattle.stripe_reader.specs.Starts.{recorded_starts, start_in, starts_at}
use Rattle.stripe_reader.specs.WindowValue.{no_slot}
use Rattle.stripe_reader.specs.declared.starts.Place.{Place}
use Rattle.stripe_reader.specs.declared.starts.Place.TheVariants as place
use Rattle.stripe_reader.specs.declared.starts.Start.{Start}
use Rattle.snap_sync.specs.Calls.{no_reading}
use Rattle.snap_sync.specs.Part.{IsListedRun, SyncRun}
use Rattle.stripe_findings.specs.Reading.{AreRead, StripeReading, row_of, slot_of, stripes_of}

-- ---- lists of bytes, by what is read of them: 0 behind their ends

abbrev ReadsBytes : List ℕ → Type 0
ReadsBytes bytes = (i : ℕ) → get_or bytes i 0 < 256

from_all : (bytes : List ℕ) → AreBytes bytes → ReadsBytes bytes
from_all [] all i = omega arith
from_all (x ∷ xs) all zero = all 0 0 (omega arith)
from_all (x ∷ xs) all (suc i) = from_all xs (λ k d within. all (suc k) d (omega (arith, within))) i

take_bytes : (n : ℕ) (bytes : List ℕ) → ReadsBytes bytes → ReadsBytes (take n bytes)
take_bytes zero bytes all i = omega arith
take_bytes (suc n) [] all i = omega arith
take_bytes (suc n) (x ∷ xs) all zero = all 0
take_bytes (suc n) (x ∷ xs) all (suc i) = take_bytes n xs (λ k. all (suc k)) i

drop_bytes : (n : ℕ) (bytes : List ℕ) → ReadsBytes bytes → ReadsBytes (drop n bytes)
drop_bytes zero bytes all i = all i
drop_bytes (suc n) [] all i = omega arith
drop_bytes (suc n) (x ∷ xs) all i = drop_bytes n xs (λ k. all (suc k)) i

append_bytes : (first rest : List ℕ) → ReadsBytes first → ReadsBytes rest → ReadsBytes (first ++ rest)
append_bytes [] rest one two i = two i
append_bytes (x ∷ xs) rest one two zero = one 0
append_bytes (x ∷ xs) rest one two (suc i) = append_bytes xs rest (λ k. one (suc k)) two i

zeros_bytes : (n : ℕ) → ReadsBytes (replicate n 0)
zeros_bytes zero i = omega arith
zeros_bytes (suc n) zero = omega arith
zeros_bytes (suc n) (suc i) = zeros_bytes n i

-- ---- what a cell gives

-- what is known of a cell beforehand is no whole block
abbrev IsAsked : Task → Type 0
IsAsked (Known (Whole seen bytes)) = ⊥
IsAsked _ = Unit {0}

file_asked : (where_it : Place) (size : ℕ) (path : List ℕ) (at n : ℕ) → IsAsked (file_task where_it size path at n)
file_asked place.Nowhere size path at n = tt
file_asked place.Plain size path at n = by (nat_le (at + n) size)
  where
    by : (b : Bool) → IsAsked (if b then Fetch path false at n else Known Beyond)
    by true = tt
    by false = tt
file_asked place.Lost size path at n = by (nat_le (at + n) size)
  where
    by : (b : Bool) → IsAsked (if b then Fetch path true at n else Known Beyond)
    by true = tt
    by false = tt

cell_asked : (size : ℕ) (column : Column) (starts : List Start) (found : Option Cell) → IsAsked (cell_task size column starts found)
cell_asked size column starts None = tt
cell_asked size column starts (Some cell) =
    let file : Record = record_in column cell.rec in
    let start : Start = start_in starts cell.rec in
    file_asked start.place start.size file.path (cell.index * size) (block_length size file.meta.size cell.index)

task_bytes : (task : Task) → IsAsked task → (cell : CellReading) → IsReadingBy task cell → (seen : Meta) (bytes : List ℕ) → cell ≡ Whole seen bytes → ReadsBytes bytes
task_bytes (Known (Whole known had)) asked cell by seen bytes is = absurd asked
task_bytes (Known NoBlock) asked cell by seen bytes is = let clash : NoBlock ≡ Whole seen bytes = sym by ∙ is in cc
task_bytes (Known Nowhere) asked cell by seen bytes is = let clash : Nowhere ≡ Whole seen bytes = sym by ∙ is in cc
task_bytes (Known Beyond) asked cell by seen bytes is = let clash : Beyond ≡ Whole seen bytes = sym by ∙ is in cc
task_bytes (Known (Unread known)) asked cell by seen bytes is = let clash : Unread known ≡ Whole seen bytes = sym by ∙ is in cc
task_bytes (Known (Gone known)) asked cell by seen bytes is = let clash : Gone known ≡ Whole seen bytes = sym by ∙ is in cc
task_bytes (Known (Part known got)) asked cell by seen bytes is = let clash : Part known got ≡ Whole seen bytes = sym by ∙ is in cc
task_bytes (Fetch path lost at n) asked cell by seen bytes is = let fetched : IsFetched n (Whole seen bytes) = subst (IsFetched n) is by in from_all bytes fetched.are_bytes

-- what its slot keeps of it
kept_bytes : (shape : Shape) (cell : CellReading) → ((seen : Meta) (bytes : List ℕ) → cell ≡ Whole seen bytes → ReadsBytes bytes) → ReadsBytes (bytes_of (kept shape cell))
kept_bytes shape NoBlock all i = omega arith
kept_bytes shape Nowhere all i = omega arith
kept_bytes shape Beyond all i = omega arith
kept_bytes shape (Unread seen) all i = omega arith
kept_bytes shape (Gone seen) all i = omega arith
kept_bytes shape (Part seen got) all i = omega arith
kept_bytes shape (Whole seen bytes) all i =
    take_bytes (length bytes) (resized bytes shape.block_size)
    (append_bytes (take shape.block_size bytes) (replicate (shape.block_size - length bytes) 0) (take_bytes shape.block_size bytes (all seen bytes refl)) (zeros_bytes (shape.block_size - length bytes))) i

-- ---- what was read of stripes

row_bytes : (slots : List SlotValue) → ((c : ℕ) → c < length slots → ReadsBytes (bytes_of (get_or slots c no_slot))) → AreRowBytes (map bytes_of slots)
row_bytes [] each c p = omega arith
row_bytes (slot ∷ slots) each zero p = each 0 (omega arith) p
row_bytes (slot ∷ slots) each (suc c) p = row_bytes slots (λ k within. each (suc k) (omega (arith, within))) c p

module _ (table : TableValue) (readings : List StripeReading) (olds news : List FolderView) (read : AreRead table readings olds news) (all : length olds ≡ length table.columns) where
  slot_bytes : (d i : ℕ) → d < length olds → i < length readings → ReadsBytes (bytes_of (slot_of d (get_or readings i no_reading)))
  slot_bytes d i d_in i_in =
      let column : ReadsColumn table.shape (tasks_at table (recorded_starts table) d (stripes_of readings)) (map (slot_of d) readings) (folder_at olds d) (folder_at news d) = read.each d d_in in
      let stripes : length (stripes_of readings) ≡ length readings = length-map readings (λ (r : StripeReading). r.stripe) in
      let many : length (tasks_at table (recorded_starts table) d (stripes_of readings)) ≡ length (stripes_of readings) = length-map (stripes_of readings) (task_at table (recorded_starts table) d) in
      let i_task : i < length (tasks_at table (recorded_starts table) d (stripes_of readings)) = omega (arith, i_in, stripes, many) in
      let i_cell : i < length column.readings = omega (arith, column.as_many, i_task) in
      let stripe : ℕ = get_or (stripes_of readings) i 0 in
      let task : Task = get_or (tasks_at table (recorded_starts table) d (stripes_of readings)) i no_task in
      let task_is : task ≡ task_at table (recorded_starts table) d stripe = get_or-map (task_at table (recorded_starts table) d) (stripes_of readings) i 0 no_task (omega (arith, i_in, stripes)) in
      let asked : IsAsked task = subst IsAsked (sym task_is) (cell_asked table.shape.block_size (column_at table.columns d) (starts_at (recorded_starts table).columns d) (cell_in (column_at table.columns d) stripe)) in
      let cell : CellReading = get_or column.readings i NoBlock in
      let is_of : IsReadingOf (folder_at olds d) task cell = column.are_of i i_task in
      let slot_is : slot_of d (get_or readings i no_reading) ≡ kept table.shape cell
      = sym (get_or-map (slot_of d) readings i no_reading no_slot i_in)
      ∙ ap (λ (slots : List SlotValue). get_or slots i no_slot) column.are_kept
      ∙ get_or-map (kept table.shape) column.readings i NoBlock no_slot i_cell in
      subst (λ (slot : SlotValue). ReadsBytes (bytes_of slot)) (sym slot_is)
      (kept_bytes table.shape cell (task_bytes task asked cell is_of.by))

  rows_of_bytes : All (λ (reading : StripeReading). AreRowBytes (row_of reading)) readings
  rows_of_bytes i none i_in =
      let same : get_or readings i none ≡ get_or readings i no_reading = get_or_default readings i none no_reading i_in in
      subst (λ (reading : StripeReading). AreRowBytes (row_of reading)) (sym same)
      (row_bytes (get_or readings i no_reading).slots (λ c within. slot_bytes c i (omega (arith, within, all, read.wide i no_reading i_in)) i_in))

-- ---- a sync

first_of : (P : StripeReading → Type 0) (readings ahead : List StripeReading) → All P (readings ++ ahead) → All P readings
first_of P [] ahead all k d within = absurd (omega (arith, within))
first_of P (x ∷ xs) ahead all zero d within = all 0 d (omega arith)
first_of P (x ∷ xs) ahead all (suc k) d within = first_of P xs ahead (λ j e below. all (suc j) e (omega (arith, below))) k d (omega (arith, within))

-- what it read are bytes
pub sync_bytes : (run : SyncRun) → IsListedRun run → length run.plan.start.columns ≡ length run.loaded.columns → All (λ (reading : StripeReading). AreRowBytes (row_of reading)) run.readings
sync_bytes run listed columns =
    first_of (λ (reading : StripeReading). AreRowBytes (row_of reading)) run.readings run.ahead
    (rows_of_bytes run.plan.start (run.readings ++ run.ahead) run.listed run.ended listed.reads.read (omega (arith, listed.as_many, listed.folders, columns)))
