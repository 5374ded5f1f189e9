-- What a check or a fix works on: a table, what is known of the files of its records when the run begins, and what is selected.
use Rattle.std.specs.Prelude.{◌≡◌, ℕ, ◌<◌, ◌&&◌, ◌||◌, not, List, [], length, map, filter, get_or, slice_index_or, Bool, true, false, if◌then◌else◌, Option, None, Some}
use Rattle.std.specs.List.{range_with_len, list_any}
use Rattle.folder_listing.specs.Kept.{ListedFile, each_column}
use Rattle.file_table.specs.Cells.{CellView, cell_in, cell_view}
use Rattle.file_table.specs.Table.{Record, TableValue, column_at, info_at, records_in, is_synced_mark}
use Rattle.file_table.specs.declared.block.Cell.{Cell}
use Rattle.array_setup.specs.Setup.{SetupValue}
use Rattle.array_setup.specs.declared.ways.Selection.{Selection}
use Rattle.array_setup.specs.declared.setup.Disk.{Disk}
use Rattle.repair_scope.specs.declared.entry.Entry.{Entry}
use Rattle.repair_scope.specs.declared.plan.Plan.{Plan}
use Rattle.repair_scope.specs.declared.scope.Mode.{Mode}
use Rattle.repair_scope.specs.declared.scope.Mode.TheVariants.{Check, Audit, Fix}
use Rattle.repair_scope.specs.declared.scope.Scope.{Scope}
use Rattle.repair_scope.specs.Blocked.{found_in, is_blocked}
use Rattle.repair_scope.specs.Selected.{selects, means_level}

-- the scope of the run, its table, and of each column what is known of the files of its records
pub record FixPlan : Type 0 where
  pub scope : Scope
  pub table : TableValue
  pub entries : List (List Entry)

abbrev pub plan_of : Scope → TableValue → List (List Entry) → FixPlan
plan_of scope table entries = record { scope = scope; table = table; entries = entries }

-- what is seen of a plan that is handed on
abbrev pub seen : Plan → FixPlan
seen plan = plan_of plan.scope plan.table.now plan.entries.now

-- ---- how it follows from what was asked for and from what the folders list

-- what is known of the file of a record, by the name of its disk and the listed files of its folder
abbrev pub entry_of : Selection → List ℕ → List ListedFile → Record → Entry
entry_of selection name files kept =
    let found = found_in files kept.path in
    record {
      listed = found;
      selected = selects selection name kept found;
      blocked = is_blocked files kept.path;
    }

-- the names of the disks of a setup
abbrev pub names_of : SetupValue → List (List ℕ)
names_of setup = map (λ (disk : Disk). disk.name) setup.disks

-- of the records of a column
abbrev pub column_entries : Selection → List (List ℕ) → TableValue → List (List ListedFile) → ℕ → List Entry
column_entries selection names table lists d =
    map (entry_of selection (get_or names d []) (get_or lists d [])) (records_in table d)

-- of all columns
abbrev pub entries_of : Selection → List (List ℕ) → TableValue → List (List ListedFile) → List (List Entry)
entries_of selection names table lists = each_column (column_entries selection names table lists) (length table.columns)

-- what the scope of a run says: its mode, whether only what is known to be bad is meant, and which of six levels are
pub record IsScope (mode : Mode) (selection : Selection) (scope : Scope) : Type 0 where
  pub mode_is : scope.mode ≡ mode
  pub only_bad : scope.only_bad ≡ selection.errors
  pub levels : scope.levels ≡ map (means_level selection) (range_with_len 0 6)

-- ---- what is selected

-- what stands for an entry that is not there, and the entry of a record
abbrev pub no_entry : Entry
no_entry = record { listed = None; selected = false; blocked = false }

abbrev pub entry_in : List (List Entry) → ℕ → ℕ → Entry
entry_in entries d i = slice_index_or (get_or entries d []) i no_entry

abbrev pub entry_at : FixPlan → ℕ → ℕ → Entry
entry_at plan d i = entry_in plan.entries d i

-- there is an entry for each record of each column
pub record EntriesFit (table : TableValue) (entries : List (List Entry)) : Type 0 where
  pub columns : length entries ≡ length table.columns
  pub records : (d : ℕ) → d < length table.columns → length (get_or entries d []) ≡ length (records_in table d)

-- a stripe is in scope: where only what is known to be bad is meant, it is bad
abbrev pub is_in_scope : FixPlan → ℕ → Bool
is_in_scope plan stripe = not plan.scope.only_bad || (info_at plan.table.infos stripe).bad

-- a record is selected where it has a block at a stripe
abbrev pub selects_record : FixPlan → ℕ → ℕ → ℕ → Bool
selects_record plan stripe d i = is_in_scope plan stripe && (entry_at plan d i).selected

-- the cell of a column at a stripe is selected, and so is a level there
abbrev pub has_selected : FixPlan → ℕ → Option Cell → Bool
has_selected plan d None = false
has_selected plan d (Some cell) = (entry_at plan d cell.rec).selected

abbrev pub cell_at : FixPlan → ℕ → ℕ → Option Cell
cell_at plan stripe d = cell_in (column_at plan.table.columns d) stripe

abbrev pub selects_cell : FixPlan → ℕ → ℕ → Bool
selects_cell plan stripe d = is_in_scope plan stripe && has_selected plan d (cell_at plan stripe d)

-- that cell, if it is
abbrev pub selected_cell : FixPlan → ℕ → ℕ → Option Cell
selected_cell plan stripe d = if selects_cell plan stripe d then cell_at plan stripe d else None

abbrev pub selects_level : FixPlan → ℕ → ℕ → Bool
selects_level plan stripe level = is_in_scope plan stripe && slice_index_or plan.scope.levels level false

-- a stripe has a selected cell, or a selected level
abbrev pub has_selected_cell : FixPlan → ℕ → Bool
has_selected_cell plan stripe = list_any (selects_cell plan stripe) (range_with_len 0 (length plan.table.columns))

abbrev pub has_selected_level : FixPlan → ℕ → Bool
has_selected_level plan stripe = list_any (selects_level plan stripe) (range_with_len 0 plan.table.shape.levels)

-- the stripes that are looked at, ascending: those with a selected cell or level
abbrev pub is_looked_at : FixPlan → ℕ → Bool
is_looked_at plan stripe = has_selected_cell plan stripe || has_selected_level plan stripe

abbrev pub stripes_of : FixPlan → List ℕ
stripes_of plan = filter (is_looked_at plan) (range_with_len 0 (length plan.table.infos))

-- ---- what is tried

-- the files alone are looked at, and no parity
abbrev pub is_audit : Mode → Bool
is_audit Audit = true
is_audit Check = false
is_audit Fix = false

-- a stripe is synced
abbrev pub is_synced : FixPlan → ℕ → Bool
is_synced plan stripe = is_synced_mark (info_at plan.table.infos stripe).mark

-- a recovery of its damaged blocks is tried
abbrev pub is_searched : FixPlan → ℕ → Bool
is_searched plan stripe = is_synced plan stripe && not (is_audit plan.scope.mode)

-- what is seen of the cell of a column at a stripe, by a table and by a plan
abbrev pub seen_in : TableValue → ℕ → ℕ → Option CellView
seen_in table stripe d = cell_view (column_at table.columns d) stripe

abbrev pub seen_at : FixPlan → ℕ → ℕ → Option CellView
seen_at plan stripe d = seen_in plan.table stripe d
