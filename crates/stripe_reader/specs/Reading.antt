-- What is asked for a cell of a column, and what is read of it.
use Rattle.std.specs.Prelude.{◌≡◌, ℕ, ◌+◌, ◌-◌, ◌*◌, ◌<◌, nat_le, ◌==◌, min, List, length, map, Bool, true, false, Option, None, Some, if◌then◌else◌}
use Rattle.std.specs.Option.{option_map}
use Rattle.disk_model.specs.Bytes.{AreBytes, read_from}
use Rattle.disk_model.specs.Tree.{Tree, File, file_of, meta_of, path_of}
use Rattle.disk_model.specs.declared.meta.Meta.{Meta}
use Rattle.file_table.specs.Cells.{cell_in}
use Rattle.file_table.specs.Table.{Column, TableValue, column_at, record_in}
use Rattle.file_table.specs.declared.block.Cell.{Cell}
use Rattle.stripe_reader.specs.Starts.{StartsValue, starts_at, start_in}
use Rattle.stripe_reader.specs.declared.starts.Start.{Start}
use Rattle.stripe_reader.specs.declared.starts.Place.{Place}
use Rattle.stripe_reader.specs.declared.starts.Place.TheVariants as place

-- What was read of one cell. The first of these that holds: the column has no block at the stripe; its file was
-- nowhere at the start; the block ends past the size that the file had at the start; the folder failed, when the file
-- is looked for or after it was seen; no file is there, when it is looked for or after it was seen; a file was seen
-- and fewer bytes came, so many; or a file was seen and all bytes of the block came.
pub data CellReading : Type 0 where
  NoBlock : CellReading
  Nowhere : CellReading
  Beyond : CellReading
  Unread : (seen : Option Meta) → CellReading
  Gone : (seen : Option Meta) → CellReading
  Part : (seen : Meta) (got : ℕ) → CellReading
  Whole : (seen : Meta) (bytes : List ℕ) → CellReading

-- What is to be done for a cell: nothing, since its reading is known; or n bytes from a place on are asked of a file,
-- under PATH or under PATH`.unrecoverable`.
pub data Task : Type 0 where
  Known : (reading : CellReading) → Task
  Fetch : (path : List ℕ) (lost : Bool) (at n : ℕ) → Task

-- how many bytes the block of a number has, in a file of a size
abbrev pub block_length : ℕ → ℕ → ℕ → ℕ
block_length block_size size index = min block_size (size - index * block_size)

-- n bytes of the file that stood in a place, if it was long enough
abbrev pub file_task : Place → ℕ → List ℕ → ℕ → ℕ → Task
file_task place.Nowhere size path at n = Known Nowhere
file_task place.Plain size path at n = if nat_le (at + n) size then Fetch path false at n else Known Beyond
file_task place.Lost size path at n = if nat_le (at + n) size then Fetch path true at n else Known Beyond

-- the block of a cell, by the starts of its column
abbrev pub block_task : ℕ → Column → List Start → Cell → Task
block_task block_size column starts cell =
    let kept = record_in column cell.rec in
    let start = start_in starts cell.rec in
    file_task start.place start.size kept.path (cell.index * block_size) (block_length block_size kept.meta.size cell.index)

abbrev pub cell_task : ℕ → Column → List Start → Option Cell → Task
cell_task block_size column starts None = Known NoBlock
cell_task block_size column starts (Some cell) = block_task block_size column starts cell

-- for the cell of a column at a stripe, and for its cells at some stripes
abbrev pub task_at : TableValue → StartsValue → ℕ → ℕ → Task
task_at table starts d stripe =
    let column = column_at table.columns d in
    cell_task table.shape.block_size column (starts_at starts.columns d) (cell_in column stripe)

abbrev pub tasks_at : TableValue → StartsValue → ℕ → List ℕ → List Task
tasks_at table starts d stripes = map (task_at table starts d) stripes

-- of a file that was seen these bytes came, where n were asked for
abbrev pub came : Meta → ℕ → List ℕ → CellReading
came seen n bytes = if length bytes == n then Whole seen bytes else Part seen (length bytes)

-- a block of n bytes that came whole
pub record IsWholeBlock (n : ℕ) (bytes : List ℕ) : Type 0 where
  pub size : length bytes ≡ n
  pub are_bytes : AreBytes bytes

-- a reading for which a folder was asked for n bytes
abbrev pub IsFetched : ℕ → CellReading → Type 0
IsFetched n NoBlock = ⊥
IsFetched n Nowhere = ⊥
IsFetched n Beyond = ⊥
IsFetched n (Unread seen) = Unit {0}
IsFetched n (Gone seen) = Unit {0}
IsFetched n (Part seen got) = got < n
IsFetched n (Whole seen bytes) = IsWholeBlock n bytes

-- a reading by what was to be done
abbrev pub IsReadingBy : Task → CellReading → Type 0
IsReadingBy (Known known) reading = reading ≡ known
IsReadingBy (Fetch path lost at n) reading = IsFetched n reading

-- what a file gives, and what a tree gives
abbrev pub given_of : Option File → ℕ → ℕ → CellReading
given_of None at n = Gone None
given_of (Some file) at n = came (meta_of file) n (read_from file.bytes at n)

abbrev pub given_by : Tree → Task → CellReading
given_by tree (Known known) = known
given_by tree (Fetch path lost at n) = given_of (file_of tree (path_of path lost)) at n

-- a file that was seen before the folder failed is the one that stands there
abbrev pub IsSeenIn : Option File → CellReading → Type 0
IsSeenIn file (Unread (Some seen)) = option_map meta_of file ≡ Some seen
IsSeenIn file _ = Unit {0}

abbrev pub IsSeenBy : Tree → Task → CellReading → Type 0
IsSeenBy tree (Known known) reading = Unit {0}
IsSeenBy tree (Fetch path lost at n) reading = IsSeenIn (file_of tree (path_of path lost)) reading

-- the folder failed
abbrev pub is_unread : CellReading → Bool
is_unread NoBlock = false
is_unread Nowhere = false
is_unread Beyond = false
is_unread (Unread seen) = true
is_unread (Gone seen) = false
is_unread (Part seen got) = false
is_unread (Whole seen bytes) = false
