-- A stripe whose damaged blocks and wrong levels a fix writes anew: what is written, what is told of it, and what it leaves.
use Rattle.std.specs.Prelude.{◌≡◌, ℕ, ◌*◌, ◌<◌, ◌==◌, ◌&&◌, ◌||◌, not, List, [], ◌∷◌, ◌++◌, length, map, get_or, is_some, count_by, Bool, true, false, if◌then◌else◌, Option, None, Some, IsTrue}
use Rattle.std.specs.List.{range_with_len, flat_map, list_any}
use Rattle.disk_model.specs.Folder.{FolderView}
use Rattle.file_table.specs.declared.block.Cell.{Cell}
use Rattle.parity_writer.specs.LevelsValue.{no_level}
use Rattle.snap_report.specs.declared.events.Event.{Event}
use Rattle.snap_report.specs.declared.events.Event.TheVariants.{Fixed, FixedParity}
use Rattle.stripe_reader.specs.Columns.{folder_at}
use Rattle.stripe_examiner.specs.Facts.{StripeFacts, damaged_at}
use Rattle.stripe_examiner.specs.Findings.{is_lost, is_wrong, lost_event, stripe_events}
use Rattle.repair_scope.specs.Plan.{FixPlan, cell_at, entry_at, selects_cell}
use Rattle.stripe_examiner.specs.Showing.{block_or_none, known_block}
use Rattle.file_restorer.specs.State.{Write}

-- the facts of a stripe, and of each column whether its block was there to be written
pub record Mended : Type 0 where
  pub facts : StripeFacts
  pub answers : List Bool

abbrev pub answer_of : Mended → ℕ → Bool
answer_of mended d = get_or mended.answers d false

-- the file of a cell can't be written
abbrev pub is_blocked_cell : FixPlan → ℕ → Option Cell → Bool
is_blocked_cell plan d None = false
is_blocked_cell plan d (Some cell) = (entry_at plan d cell.rec).blocked

-- a cell is to be written: it is selected and damaged, its block is known, and its file isn't blocked
abbrev pub is_repaired : FixPlan → StripeFacts → ℕ → Bool
is_repaired plan facts d =
    selects_cell plan facts.stripe d && damaged_at plan facts d && is_some (known_block plan facts d)
    && not (is_blocked_cell plan d (cell_at plan facts.stripe d))

abbrev pub is_written : FixPlan → Mended → ℕ → Bool
is_written plan mended d = is_repaired plan mended.facts d && answer_of mended d

-- a cell was to be written, and its file was gone
abbrev pub is_gone : FixPlan → Mended → ℕ → Bool
is_gone plan mended d = is_repaired plan mended.facts d && not (answer_of mended d)

-- where its folder tells its files, each cell that is to be written is
abbrev pub AnswersFit : FixPlan → List FolderView → Mended → Type 0
AnswersFit plan folders mended = (d : ℕ) → d < length plan.table.columns → IsTrue (folder_at folders d).tells
    → is_repaired plan mended.facts d ≡ true → answer_of mended d ≡ true

-- ---- what is told

abbrev pub fixed_event : ℕ → ℕ → Option Cell → List Event
fixed_event stripe d None = []
fixed_event stripe d (Some cell) = Fixed stripe d cell.rec cell.index ∷ []

-- of a cell that was to be written: it was, or its file was gone, so that it is lost
abbrev pub mended_event : ℕ → ℕ → Option Cell → Bool → List Event
mended_event stripe d cell written = if written then fixed_event stripe d cell else lost_event stripe d cell

abbrev pub cell_news : FixPlan → Mended → ℕ → List Event
cell_news plan mended d =
    if is_repaired plan mended.facts d
    then mended_event mended.facts.stripe d (cell_at plan mended.facts.stripe d) (answer_of mended d) else []

abbrev pub is_wrong_level : FixPlan → StripeFacts → ℕ → Bool
is_wrong_level plan facts r = is_wrong plan facts.stripe (get_or facts.levels r no_level) facts.row r

abbrev pub level_news : FixPlan → StripeFacts → ℕ → List Event
level_news plan facts r = if is_wrong_level plan facts r then FixedParity facts.stripe r ∷ [] else []

abbrev pub all_cell_news : FixPlan → Mended → List Event
all_cell_news plan mended = flat_map (cell_news plan mended) (range_with_len 0 (length plan.table.columns))

abbrev pub all_level_news : FixPlan → StripeFacts → List Event
all_level_news plan facts = flat_map (level_news plan facts) (range_with_len 0 (length facts.levels))

abbrev pub mended_events : FixPlan → Mended → List Event
mended_events plan mended =
    stripe_events plan mended.facts ++ (all_cell_news plan mended ++ all_level_news plan mended.facts)

abbrev pub all_mended_events : FixPlan → List Mended → List Event
all_mended_events plan stripes = flat_map (mended_events plan) stripes

-- ---- what is counted

abbrev pub written_in : FixPlan → Mended → ℕ
written_in plan mended = count_by (is_written plan mended) (range_with_len 0 (length plan.table.columns))

abbrev pub wrong_in : FixPlan → Mended → ℕ
wrong_in plan mended = count_by (is_wrong_level plan mended.facts) (range_with_len 0 (length mended.facts.levels))

-- ---- what is left of the files of a column

-- a block of a record is lost in a stripe
abbrev pub is_of : ℕ → Option Cell → Bool
is_of i None = false
is_of i (Some cell) = cell.rec == i

abbrev pub loses : FixPlan → ℕ → ℕ → Mended → Bool
loses plan d i mended =
    let facts = mended.facts in
    is_of i (cell_at plan facts.stripe d) && (is_lost plan facts d || is_gone plan mended d)

abbrev pub has_lost : FixPlan → List Mended → ℕ → ℕ → Bool
has_lost plan stripes d i = list_any (loses plan d i) stripes

-- what is written to the file of a record, in one stripe and in all
abbrev pub write_of : FixPlan → ℕ → StripeFacts → Option Cell → List Write
write_of plan d facts None = []
write_of plan d facts (Some cell) =
    record { at = cell.index * plan.table.shape.block_size; bytes = block_or_none (known_block plan facts d) } ∷ []

abbrev pub writes_in : FixPlan → ℕ → ℕ → Mended → List Write
writes_in plan d i mended =
    let cell = cell_at plan mended.facts.stripe d in
    if is_of i cell && is_written plan mended d then write_of plan d mended.facts cell else []

abbrev pub writes_of : FixPlan → List Mended → ℕ → ℕ → List Write
writes_of plan stripes d i = flat_map (writes_in plan d i) stripes

abbrev pub column_writes : FixPlan → List Mended → ℕ → ℕ → List (List Write)
column_writes plan stripes d records = map (writes_of plan stripes d) (range_with_len 0 records)
