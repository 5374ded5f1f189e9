-- What is found of a record, and of the selected cell of a column.
use Rattle.std.proofs.Common.{◌≡◌, ℕ, Bool, true, false, List, [], ◌++◌, ◌&&◌, Option, Some, refl, sym, ap, ap₂, ◌∙◌}
use Rattle.std.specs.Prelude.{not, if◌then◌else◌}
use Rattle.block_hash.specs.declared.Digest16.{Digest16}
use Rattle.disk_model.specs.declared.meta.Meta.{Meta}
use Rattle.file_table.specs.Cells.{cell_seen}
use Rattle.file_table.specs.Table.{column_at}
use Rattle.file_table.specs.declared.block.Cell.{Cell}
use Rattle.snap_report.specs.declared.events.Event.{Event}
use Rattle.stripe_reader.specs.SlotValue.{SlotValue}
use Rattle.stripe_reader.specs.declared.slot.CellRead.{CellRead}
use Rattle.repair_scope.specs.declared.entry.Entry.{Entry}
use Rattle.stripe_examiner.specs.Findings.{changed_event, blocked_event, file_events, read_event, read_events, cell_events}
use Rattle.repair_scope.specs.Plan.{FixPlan, cell_at, entry_at, has_selected, is_in_scope, selects_cell, selects_record}

-- ---- of a record

is_true : (b : Bool) → not b ≡ false → b ≡ true
is_true true is = refl
is_true false is = absurd cc

-- that it has changed and is blocked, if it is selected
pub selected_events : (audit : Bool) (d i : ℕ) (meta : Meta) (entry here : Entry) (changed blocked : List Event) → here ≡ entry → not here.selected ≡ false
    → changed ≡ changed_event d i meta here → blocked ≡ blocked_event audit d i here
    → file_events audit d i meta entry ≡ changed ++ blocked
selected_events audit d i meta entry here changed blocked same selected changed_is blocked_is =
    sym (ap (file_events audit d i meta) same)
    ∙ ap (λ (b : Bool). if b then changed_event d i meta here ++ blocked_event audit d i here else []) (is_true here.selected selected)
    ∙ ap₂ (λ (one other : List Event). one ++ other) (sym changed_is) (sym blocked_is)

-- ---- of a cell

-- it is selected where its record is
selects_same : (plan : FixPlan) (stripe d : ℕ) (cell : Cell) → cell_at plan stripe d ≡ Some cell → selects_cell plan stripe d ≡ selects_record plan stripe d cell.rec
selects_same plan stripe d cell is = ap (λ (it : Option Cell). is_in_scope plan stripe && has_selected plan d it) is

-- nothing is found in the reading of a cell that is not selected
pub found_in_none : (plan : FixPlan) (stripe d : ℕ) (cell : Cell) (slot : SlotValue) → cell_at plan stripe d ≡ Some cell
    → selects_record plan stripe d cell.rec ≡ false → [] ≡ cell_events plan stripe slot d
found_in_none plan stripe d cell slot is unselected = sym (ap (λ (b : Bool). if b then read_events plan stripe slot d (cell_at plan stripe d) else []) (selects_same plan stripe d cell is ∙ unselected))

-- what is found in that of a selected one
pub found_in_cell : (plan : FixPlan) (stripe d : ℕ) (cell : Cell) (entry : Entry) (slot : SlotValue) (read : CellRead) (digest : Option Digest16) (found : List Event)
    → cell_at plan stripe d ≡ Some cell → selects_record plan stripe d cell.rec ≡ true → entry ≡ entry_at plan d cell.rec → read ≡ slot.cell → digest ≡ slot.digest
    → found ≡ read_event stripe d cell (cell_seen (column_at plan.table.columns d) cell) entry (record { cell = read; digest = digest; block = [] })
    → found ≡ cell_events plan stripe slot d
found_in_cell plan stripe d cell entry slot read digest found is selected entry_is read_is digest_is found_is =
    found_is
    ∙ ap₂ (λ (r : CellRead) (g : Option Digest16). read_event stripe d cell (cell_seen (column_at plan.table.columns d) cell) entry (record { cell = r; digest = g; block = [] })) read_is digest_is
    ∙ ap (λ (e : Entry). read_event stripe d cell (cell_seen (column_at plan.table.columns d) cell) e slot) entry_is
    ∙ sym (ap (read_events plan stripe slot d) is)
    ∙ sym (ap (λ (b : Bool). if b then read_events plan stripe slot d (cell_at plan stripe d) else []) (selects_same plan stripe d cell is ∙ selected))
