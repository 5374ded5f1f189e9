-- What a check or a fix finds: the events, in their order.
use Rattle.std.specs.Prelude.{ℕ, ◌&&◌, not, List, [], ◌∷◌, ◌++◌, length, get_or, slice_index_or, is_some, bytes_eq, Bool, true, false, if◌then◌else◌, Option, None, Some}
use Rattle.std.specs.List.{range_with_len, flat_map}
use Rattle.block_hash.specs.declared.Digest16.{Digest16}
use Rattle.cauchy.specs.Matrix.{parity_of as level_of}
use Rattle.disk_model.specs.declared.meta.Meta.{Meta}
use Rattle.file_table.specs.Cells.{CellView, cell_seen}
use Rattle.file_table.specs.Table.{column_at, record_at, records_in}
use Rattle.file_table.specs.declared.block.Cell.{Cell}
use Rattle.parity_writer.specs.LevelsValue.{LevelValue, no_level}
use Rattle.parity_writer.specs.declared.levels.LevelRead.{LevelRead}
use Rattle.parity_writer.specs.declared.levels.LevelRead.TheVariants as here
use Rattle.parity_writer.specs.Parity.{Row}
use Rattle.snap_report.specs.declared.events.Event.{Event}
use Rattle.snap_report.specs.declared.events.Event.TheVariants.{Changed, Blocked, Unsynced, Silent, Io, ParityIo, Parity, Lost}
pub use Rattle.stripe_reader.specs.Slot.{is_unread}
use Rattle.stripe_reader.specs.SlotValue.{SlotValue}
use Rattle.repair_scope.specs.declared.entry.Entry.{Entry}
use Rattle.stripe_reader.specs.WindowValue.{no_slot}
use Rattle.stripe_examiner.specs.declared.marking.SlotMark.{SlotMark}
use Rattle.stripe_examiner.specs.Facts.{StripeFacts}
use Rattle.stripe_examiner.specs.Showing.{is_unknown, is_unknown_mark}
use Rattle.repair_scope.specs.Plan.{FixPlan, entry_at, cell_at, is_audit, is_synced, selects_cell, selects_level, has_selected_cell}
use Rattle.repair_scope.specs.Selected.{is_as_recorded}

-- ---- of the files, before any block is read

-- of a selected record: it is not listed as it was recorded, and then, if parity is looked at, it is blocked
abbrev pub changed_event : ℕ → ℕ → Meta → Entry → List Event
changed_event d i meta entry = if is_as_recorded meta entry.listed then [] else Changed d i entry.listed ∷ []

abbrev pub blocked_event : Bool → ℕ → ℕ → Entry → List Event
blocked_event audit d i entry = if entry.blocked && not audit then Blocked d i ∷ [] else []

abbrev pub file_events : Bool → ℕ → ℕ → Meta → Entry → List Event
file_events audit d i meta entry =
    if entry.selected then changed_event d i meta entry ++ blocked_event audit d i entry else []

abbrev pub record_events : FixPlan → ℕ → ℕ → List Event
record_events plan d i =
    file_events (is_audit plan.scope.mode) d i (record_at plan.table.columns d i).meta (entry_at plan d i)

abbrev pub column_events : FixPlan → ℕ → List Event
column_events plan d = flat_map (record_events plan d) (range_with_len 0 (length (records_in plan.table d)))

abbrev pub opening_events : FixPlan → List Event
opening_events plan = flat_map (column_events plan) (range_with_len 0 (length plan.table.columns))

-- ---- of a stripe

-- it is pending, and has a selected cell
abbrev pub unsynced_events : FixPlan → ℕ → List Event
unsynced_events plan stripe =
    if not (is_audit plan.scope.mode) && not (is_synced plan stripe) && has_selected_cell plan stripe then Unsynced stripe ∷ [] else []

-- another hash than the recorded one: nothing where there are not both
abbrev pub silent_event : ℕ → ℕ → Cell → Option Digest16 → Option Digest16 → List Event
silent_event stripe d cell (Some recorded) (Some came) =
    if bytes_eq recorded.0 came.0 then [] else Silent stripe d cell.rec cell.index recorded came ∷ []
silent_event stripe d cell (Some recorded) None = []
silent_event stripe d cell None came = []

-- of a cell: its reading failed; or, of a file that is listed as it was recorded, its hash differs
abbrev pub read_event : ℕ → ℕ → Cell → CellView → Entry → SlotValue → List Event
read_event stripe d cell seen entry slot =
    if is_unread slot.cell.found then Io stripe d cell.rec cell.index ∷ []
    else if is_as_recorded seen.meta entry.listed then silent_event stripe d cell seen.hash slot.digest
    else []

abbrev pub read_events : FixPlan → ℕ → SlotValue → ℕ → Option Cell → List Event
read_events plan stripe slot d None = []
read_events plan stripe slot d (Some cell) =
    read_event stripe d cell (cell_seen (column_at plan.table.columns d) cell) (entry_at plan d cell.rec) slot

-- of the cell of a column, if it is selected, by what was read of it
abbrev pub cell_events : FixPlan → ℕ → SlotValue → ℕ → List Event
cell_events plan stripe slot d =
    if selects_cell plan stripe d then read_events plan stripe slot d (cell_at plan stripe d) else []

-- of a selected level: the vault failed in the reading of it
abbrev pub is_unread_level : LevelRead → Bool
is_unread_level here.Bytes = false
is_unread_level here.Short = false
is_unread_level here.Unread = true

abbrev pub level_io_events : FixPlan → ℕ → LevelValue → ℕ → List Event
level_io_events plan stripe level r =
    if selects_level plan stripe r && is_unread_level level.state then ParityIo stripe r ∷ [] else []

-- a level may be found wrong at a stripe, and be written: it is selected there, and the stripe is synced, so that its row is the one that
-- the level was last made of. What is searched is said by `is_searched`
abbrev pub may_write_level : FixPlan → ℕ → ℕ → Bool
may_write_level plan stripe r = is_synced plan stripe && selects_level plan stripe r

-- of a level that was read, where the row is known: it is short, or is not the sum of the row; and it may be written
abbrev pub differs : ℕ → ℕ → List ℕ → Option Row → Bool
differs block_size r block None = false
differs block_size r block (Some row) = not (bytes_eq block (level_of r block_size row))

abbrev pub is_wrong_by : ℕ → ℕ → LevelRead → List ℕ → Option Row → Bool
is_wrong_by block_size r here.Unread block row = false
is_wrong_by block_size r here.Short block row = is_some row
is_wrong_by block_size r here.Bytes block row = differs block_size r block row

abbrev pub is_wrong : FixPlan → ℕ → LevelValue → Option Row → ℕ → Bool
is_wrong plan stripe level row r =
    may_write_level plan stripe r && is_wrong_by plan.table.shape.block_size r level.state level.block row

abbrev pub level_events : FixPlan → ℕ → LevelValue → Option Row → ℕ → List Event
level_events plan stripe level row r = if is_wrong plan stripe level row r then Parity stripe r ∷ [] else []

-- a selected cell is lost: it is damaged, and its block is not known
abbrev pub lost_event : ℕ → ℕ → Option Cell → List Event
lost_event stripe d None = []
lost_event stripe d (Some cell) = Lost stripe d cell.rec cell.index ∷ []

abbrev pub is_lost : FixPlan → StripeFacts → ℕ → Bool
is_lost plan facts d = selects_cell plan facts.stripe d && is_unknown plan facts d

-- the same by its marks, and by whether the row is known
abbrev pub is_lost_by : FixPlan → ℕ → SlotMark → Bool → ℕ → Bool
is_lost_by plan stripe mark known d = selects_cell plan stripe d && is_unknown_mark (is_synced plan stripe) mark known

abbrev pub lost_events : FixPlan → ℕ → Bool → ℕ → List Event
lost_events plan stripe lost d =
    if not (is_audit plan.scope.mode) && lost then lost_event stripe d (cell_at plan stripe d) else []

-- of all cells and levels of a stripe, each kind by itself
abbrev pub all_cell_events : FixPlan → ℕ → List SlotValue → List Event
all_cell_events plan stripe slots =
    flat_map (λ d. cell_events plan stripe (slice_index_or slots d no_slot) d) (range_with_len 0 (length plan.table.columns))

abbrev pub all_level_io_events : FixPlan → ℕ → List LevelValue → List Event
all_level_io_events plan stripe levels =
    flat_map (λ r. level_io_events plan stripe (get_or levels r no_level) r) (range_with_len 0 (length levels))

abbrev pub all_level_events : FixPlan → ℕ → List LevelValue → Option Row → List Event
all_level_events plan stripe levels row =
    flat_map (λ r. level_events plan stripe (get_or levels r no_level) row r) (range_with_len 0 (length levels))

abbrev pub all_lost_events : FixPlan → ℕ → (ℕ → Bool) → List Event
all_lost_events plan stripe lost = flat_map (λ d. lost_events plan stripe (lost d) d) (range_with_len 0 (length plan.table.columns))

-- of a stripe in their order, and of stripes in theirs
abbrev pub stripe_events : FixPlan → StripeFacts → List Event
stripe_events plan facts =
    unsynced_events plan facts.stripe ++ (all_cell_events plan facts.stripe facts.slots
    ++ (all_level_io_events plan facts.stripe facts.levels
    ++ (all_level_events plan facts.stripe facts.levels facts.row
    ++ all_lost_events plan facts.stripe (is_lost plan facts))))

abbrev pub events_of : FixPlan → List StripeFacts → List Event
events_of plan stripes = flat_map (stripe_events plan) stripes
