-- The readings that a window keeps.
use Rattle.std.proofs.Common.{◌≡◌, ℕ, zero, suc, ◌+◌, ◌*◌, ◌<◌, List, [], ◌∷◌, length, get_or, Bool, true, false, nat_le, if◌then◌else◌, Option, None, Some, inl, inr, refl, sym, ap, ◌∙◌, subst, arith}
use Rattle.std.specs.Option.{option_map}
use Rattle.std.proofs.lemmas.Bool.{cases_lt}
use Rattle.std.proofs.lemmas.List.{get_or-map, get_or_past, length-map}
use Rattle.std.proofs.lemmas.List.Elements.{All-nil}
use Rattle.disk_model.specs.Bytes.{AreBytes}
use Rattle.disk_model.specs.Folder.{FolderView}
use Rattle.file_table.specs.Cells.{CellView, cell_in, cell_seen, cell_view}
use Rattle.file_table.specs.Table.{TableValue, column_at, record_in}
use Rattle.file_table.specs.declared.block.Cell.{Cell}
use Rattle.stripe_reader.specs.Column.{no_task}
use Rattle.stripe_reader.specs.Columns.{ReadsWindow, folder_at}
use Rattle.stripe_reader.specs.Reading.{CellReading, NoBlock, Nowhere, Beyond, Unread, Gone, Part, Whole, Known, Fetch, IsFetched, IsReadingBy, block_length, file_task, cell_task, task_at}
use Rattle.stripe_reader.specs.Readings.{bytes_read, IsReadingAt, HasColumn, HasReadings, readings_at, ReadsStripe}
use Rattle.stripe_reader.specs.Starts.{StartsValue, starts_at, start_in}
use Rattle.stripe_reader.specs.WindowValue.{WindowValue, lane_at}
use Rattle.stripe_reader.specs.declared.starts.Place.{Place}
use Rattle.stripe_reader.specs.declared.starts.Place.TheVariants as place
use Rattle.stripe_reader.proofs.ColumnLemmas.{slot_is}

-- one of a kind for each number makes a list of them
one_more : {A : Type 0} (P : ℕ → A → Type 0) (none : A) (n : ℕ) (one : A) (ones : List A) → P 0 one → ((k : ℕ) → k < n → P (suc k) (get_or ones k none)) → (k : ℕ) → k < suc n → P k (get_or (one ∷ ones) k none)
one_more P none n one ones first rest zero below = first
one_more P none n one ones first rest (suc k) below = rest k (omega (arith, below))

choose : {A : Type 0} (P : ℕ → A → Type 0) (none : A) (n : ℕ) → ((k : ℕ) → k < n → (one : A) × P k one) → (ones : List A) × (length ones ≡ n) × ((k : ℕ) → k < n → P k (get_or ones k none))
choose P none zero each = ([], refl, λ k below. absurd (omega (arith, below)))
choose {A} P none (suc n) each =
    let first : (one : A) × P 0 one = each 0 (omega arith) in
    let rest = choose (λ (k : ℕ) (one : A). P (suc k) one) none n (λ k below. each (suc k) (omega (arith, below))) in
    (first.0 ∷ rest.0, ap (λ (m : ℕ). suc m) rest.1, one_more P none n first.0 rest.0 first.1 rest.2)

-- a window keeps a reading of each cell
pub window_readings : (table : TableValue) (starts : StartsValue) (stripes : List ℕ) (before after : WindowValue) (olds news : List FolderView) → ReadsWindow table starts stripes before after olds news
    → (columns : List (List CellReading)) × HasReadings table starts stripes after columns olds news
window_readings table starts stripes before after olds news read =
    let all = choose (λ (d : ℕ) (readings : List CellReading). HasColumn table starts stripes after d readings (folder_at olds d) (folder_at news d)) [] (length olds)
    (λ d below. ((read.each d below).readings, record { read = read.each d below; are = refl })) in
    (all.0, record { as_many = all.1; each = all.2 })

module _ (table : TableValue) (starts : StartsValue) (stripes : List ℕ) (window : WindowValue) (columns : List (List CellReading)) (olds news : List FolderView) (has : HasReadings table starts stripes window columns olds news)
    (i : ℕ) (within : i < length stripes) where
  -- the reading of a column at a stripe
  at_column : (d : ℕ) → d < length (readings_at columns i) → get_or (readings_at columns i) d NoBlock ≡ get_or (get_or columns d []) i NoBlock
  at_column d below = get_or-map (λ (column : List CellReading). get_or column i NoBlock) columns d [] NoBlock (omega (arith, below, length-map columns (λ (column : List CellReading). get_or column i NoBlock)))

  column_within : (d : ℕ) → d < length (readings_at columns i) → d < length olds
  column_within d below = omega (arith, below, has.as_many, length-map columns (λ (column : List CellReading). get_or column i NoBlock))

  -- each stripe of a window was read
  pub stripe_readings : ReadsStripe table starts (get_or stripes i 0) window i (readings_at columns i) olds
  stripe_readings = record {
    as_many = length-map columns (λ (column : List CellReading). get_or column i NoBlock) ∙ has.as_many;
    are_of = λ d below.
        let column = has.each d (column_within d below) in
        let same : get_or (readings_at columns i) d NoBlock ≡ get_or column.read.readings i NoBlock = at_column d below ∙ ap (λ (readings : List CellReading). get_or readings i NoBlock) column.are in
        rw same (rw (get_or-map (task_at table starts d) stripes i 0 no_task within) at (column.read.are_of i (omega (arith, within, length-map stripes (task_at table starts d)))));
    are_kept = λ d below.
        let column = has.each d (column_within d below) in
        let same : get_or (readings_at columns i) d NoBlock ≡ get_or column.read.readings i NoBlock = at_column d below ∙ ap (λ (readings : List CellReading). get_or readings i NoBlock) column.are in
        rw same (slot_is table.shape (task_at table starts d) stripes i (lane_at window d) (folder_at olds d) (folder_at news d) column.read within);
  }

-- what the reading of a cell says of it
module _ (block_size : ℕ) (cell : CellView) where
  fetched_at : (n : ℕ) (reading : CellReading) → n ≡ block_length block_size cell.meta.size cell.index → IsFetched n reading → IsReadingAt block_size (Some cell) reading
  fetched_at n NoBlock is by = by
  fetched_at n Nowhere is by = tt
  fetched_at n Beyond is by = tt
  fetched_at n (Unread seen) is by = tt
  fetched_at n (Gone seen) is by = tt
  fetched_at n (Part seen got) is by = tt
  fetched_at n (Whole seen bytes) is by = record { size = by.size ∙ is; are_bytes = by.are_bytes }

  fetched_or_beyond : (enough : Bool) (path : List ℕ) (lost : Bool) (at n : ℕ) (reading : CellReading) → n ≡ block_length block_size cell.meta.size cell.index
      → IsReadingBy (if enough then Fetch path lost at n else Known Beyond) reading → IsReadingAt block_size (Some cell) reading
  fetched_or_beyond true path lost at n reading is by = fetched_at n reading is by
  fetched_or_beyond false path lost at n reading is by = subst (IsReadingAt block_size (Some cell)) (sym by) tt

  file_at : (where_ : Place) (size : ℕ) (path : List ℕ) (at n : ℕ) (reading : CellReading) → n ≡ block_length block_size cell.meta.size cell.index
      → IsReadingBy (file_task where_ size path at n) reading → IsReadingAt block_size (Some cell) reading
  file_at place.Nowhere size path at n reading is by = subst (IsReadingAt block_size (Some cell)) (sym by) tt
  file_at place.Plain size path at n reading is by = fetched_or_beyond (nat_le (at + n) size) path false at n reading is by
  file_at place.Lost size path at n reading is by = fetched_or_beyond (nat_le (at + n) size) path true at n reading is by

pub reading_at : (table : TableValue) (starts : StartsValue) (d stripe : ℕ) (reading : CellReading) → IsReadingBy (task_at table starts d stripe) reading
    → IsReadingAt table.shape.block_size (cell_view (column_at table.columns d) stripe) reading
reading_at table starts d stripe reading by = by_case (cell_in (column_at table.columns d) stripe) by
  where
    by_case : (found : Option Cell) → IsReadingBy (cell_task table.shape.block_size (column_at table.columns d) (starts_at starts.columns d) found) reading
        → IsReadingAt table.shape.block_size (option_map (cell_seen (column_at table.columns d)) found) reading
    by_case None so = so
    by_case (Some cell) so =
        let column = column_at table.columns d in
        let kept = record_in column cell.rec in
        let start = start_in (starts_at starts.columns d) cell.rec in
        file_at table.shape.block_size (cell_seen column cell) start.place start.size kept.path (cell.index * table.shape.block_size) (block_length table.shape.block_size kept.meta.size cell.index) reading refl so

-- what was read of a cell is bytes
bytes_at : (block_size : ℕ) (cell : Option CellView) (reading : CellReading) → IsReadingAt block_size cell reading → AreBytes (bytes_read reading)
bytes_at block_size None reading is = subst (λ (it : CellReading). AreBytes (bytes_read it)) (sym is) (All-nil (λ byte. byte < 256))
bytes_at block_size (Some cell) NoBlock is = absurd is
bytes_at block_size (Some cell) Nowhere is = All-nil (λ byte. byte < 256)
bytes_at block_size (Some cell) Beyond is = All-nil (λ byte. byte < 256)
bytes_at block_size (Some cell) (Unread seen) is = All-nil (λ byte. byte < 256)
bytes_at block_size (Some cell) (Gone seen) is = All-nil (λ byte. byte < 256)
bytes_at block_size (Some cell) (Part seen got) is = All-nil (λ byte. byte < 256)
bytes_at block_size (Some cell) (Whole seen bytes) is = is.are_bytes

-- what was read of a stripe is bytes
pub stripe_bytes : (table : TableValue) (starts : StartsValue) (stripe : ℕ) (window : WindowValue) (i : ℕ) (readings : List CellReading) (folders : List FolderView)
    → ReadsStripe table starts stripe window i readings folders → (d : ℕ) → AreBytes (bytes_read (get_or readings d NoBlock))
stripe_bytes table starts stripe window i readings folders read d = elim (cases_lt d (length readings)) [
  | inl within ↦ bytes_at table.shape.block_size (cell_view (column_at table.columns d) stripe) _ (reading_at table starts d stripe _ (read.are_of d within).by)
  | inr past ↦ subst (λ (it : CellReading). AreBytes (bytes_read it)) (sym (get_or_past readings d NoBlock past)) (All-nil (λ byte. byte < 256))
]
