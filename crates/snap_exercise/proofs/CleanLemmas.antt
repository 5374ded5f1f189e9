-- A check of a stripe of which each block and each level is as it was synced finds nothing.
use Rattle.std.proofs.Common.{◌≡◌, ℕ, ◌<◌, ◌&&◌, List, [], ◌∷◌, ◌++◌, length, get_or, not, Bool, true, false, if◌then◌else◌, Option, None, Some, is_some, refl, sym, ap, ap₂, ◌∙◌}
use Rattle.std.specs.Prelude.{bytes_eq}
use Rattle.std.specs.List.{flat_map, range_with_len}
use Rattle.std.specs.Option.{option_map}
use Rattle.std.proofs.lemmas.Bool.{and_parts}
use Rattle.std.proofs.lemmas.Slice.Eq.{bytes_eq-Decides}
use Rattle.block_hash.specs.declared.Digest16.{Digest16}
use Rattle.cauchy.specs.Matrix.{parity_of as level_of}
use Rattle.file_table.specs.Cells.{CellView, cell_seen}
use Rattle.file_table.specs.Table.{column_at}
use Rattle.file_table.specs.declared.block.Cell.{Cell}
use Rattle.parity_writer.specs.LevelsValue.{LevelValue, no_level}
use Rattle.parity_writer.specs.Parity.{Row}
use Rattle.parity_writer.specs.declared.levels.LevelRead.{LevelRead}
use Rattle.parity_writer.specs.declared.levels.LevelRead.TheVariants as here
use Rattle.snap_exercise.proofs.AlikeLemmas.{in_range}
use Rattle.snap_exercise.proofs.ClosingLemmas.{flat_empty}
use Rattle.snap_report.specs.declared.events.Event.{Event}
use Rattle.snap_report.specs.declared.events.Event.TheVariants as event
use Rattle.stripe_reader.specs.Agreeing.{matches_digest}
use Rattle.stripe_examiner.specs.Facts.{StripeFacts, damaged_at, is_damaged, slot_of}
use Rattle.stripe_examiner.specs.Showing.{known_block}
use Rattle.stripe_examiner.specs.Findings.{all_cell_events, all_level_events, all_level_io_events, all_lost_events, cell_events, differs, is_unread, is_unread_level, is_wrong, is_wrong_by, level_events, level_io_events, is_lost, lost_event, lost_events, read_events, silent_event, stripe_events, unsynced_events, may_write_level}
use Rattle.repair_scope.specs.Plan.{FixPlan, cell_at, entry_at, has_selected_cell, is_audit, is_synced, seen_at, selects_cell, selects_level}
use Rattle.repair_scope.specs.Selected.{is_as_recorded}
use Rattle.repair_scope.specs.declared.entry.Entry.{Entry}
use Rattle.stripe_reader.specs.SlotValue.{SlotValue}

if_nil : (b : Bool) (events : List Event) → events ≡ [] → (if b then events else []) ≡ []
if_nil true events none = none
if_nil false events none = refl

never : (b : Bool) (events : List Event) → b ≡ false → (if b then events else []) ≡ []
never b events is = ap (λ (it : Bool). if it then events else []) is

pub range_empty : (f : ℕ → List Event) (n : ℕ) → ((k : ℕ) → k < n → f k ≡ []) → flat_map f (range_with_len 0 n) ≡ []
range_empty f n each = flat_empty f (range_with_len 0 n) (λ k within.
    let it = in_range n k within in
    ap f it.0 ∙ each k it.1)

both_empty : (front back : List Event) → front ≡ [] → back ≡ [] → front ++ back ≡ []
both_empty front back one other = ap₂ (λ (a b : List Event). a ++ b) one other

and_false : (a : Bool) → (a && false) ≡ false
and_false true = refl
and_false false = refl

not_so : (b : Bool) → not b ≡ false → b ≡ true
not_so true is = refl
not_so false is = absurd (let clash : true ≡ false = is in cc)

-- ---- a cell

silent_by : (stripe d : ℕ) (cell : Cell) (recorded came : Option Digest16) → matches_digest recorded came ≡ true → silent_event stripe d cell recorded came ≡ []
silent_by stripe d cell None came is = refl
silent_by stripe d cell (Some mine) None is = refl
silent_by stripe d cell (Some mine) (Some its) is = ap (λ (b : Bool). if b then [] else event.Silent stripe d cell.rec cell.index mine its ∷ []) is

cell_clean : (plan : FixPlan) (stripe d : ℕ) (cell : Option Cell) (slot : SlotValue) → cell_at plan stripe d ≡ cell → is_damaged plan.table.shape.kind (seen_at plan stripe d) slot ≡ false → is_unread slot.cell.found ≡ false → read_events plan stripe slot d cell ≡ []
cell_clean plan stripe d None slot is right came = refl
cell_clean plan stripe d (Some cell) slot is right came =
    let seen : CellView = cell_seen (column_at plan.table.columns d) cell in
    let entry : Entry = entry_at plan d cell.rec in
    let seen_is : seen_at plan stripe d ≡ Some seen = ap (option_map (cell_seen (column_at plan.table.columns d))) is in
    let passes : (is_some slot.digest && matches_digest seen.hash slot.digest) ≡ true
    = not_so (is_some slot.digest && matches_digest seen.hash slot.digest) (ap (λ (v : Option CellView). is_damaged plan.table.shape.kind v slot) (sym seen_is) ∙ right) in
    ap (λ (b : Bool). if b then event.Io stripe d cell.rec cell.index ∷ [] else if is_as_recorded seen.meta entry.listed then silent_event stripe d cell seen.hash slot.digest else []) came
    ∙ if_nil (is_as_recorded seen.meta entry.listed) (silent_event stripe d cell seen.hash slot.digest)
    (silent_by stripe d cell seen.hash slot.digest (and_parts (is_some slot.digest) (matches_digest seen.hash slot.digest) passes).1)

-- ---- a level

level_right : (size r : ℕ) (level : LevelValue) (row : Option Row) (its : Row) → level.state ≡ here.Bytes → level.block ≡ level_of r size its → row ≡ Some its → is_wrong_by size r level.state level.block row ≡ false
level_right size r level row its state block known =
    ap (λ (s : LevelRead). is_wrong_by size r s level.block row) state
    ∙ ap (differs size r level.block) known
    ∙ ap not (ap (λ (bytes : List ℕ). bytes_eq bytes (level_of r size its)) block ∙ (bytes_eq-Decides (level_of r size its) (level_of r size its)).1 refl)

-- ---- a stripe

unsynced_none : (audit synced has : Bool) (stripe : ℕ) → synced ≡ true → (if not audit && not synced && has then event.Unsynced stripe ∷ [] else []) ≡ []
unsynced_none true true has stripe is = refl
unsynced_none false true has stripe is = refl
unsynced_none audit false has stripe is = absurd (let clash : false ≡ true = is in cc)

lost_none : (audit selected damaged known : Bool) (events : List Event) → damaged ≡ false → (if not audit && (selected && (damaged && not known)) then events else []) ≡ []
lost_none true selected damaged known events is = refl
lost_none false false damaged known events is = refl
lost_none false true false known events is = refl
lost_none false true true known events is = absurd (let clash : true ≡ false = is in cc)

-- What is known of a stripe that is clean.
pub record IsClean (plan : FixPlan) (facts : StripeFacts) (row : Row) : Type 0 where
  pub synced : is_synced plan facts.stripe ≡ true
  pub right : (d : ℕ) → d < length plan.table.columns → is_damaged plan.table.shape.kind (seen_at plan facts.stripe d) (slot_of facts d) ≡ false
  pub came : (d : ℕ) → d < length plan.table.columns → is_unread (slot_of facts d).cell.found ≡ false
  pub whole : (r : ℕ) → r < length facts.levels → (get_or facts.levels r no_level).state ≡ here.Bytes
  pub sums : (r : ℕ) → r < length facts.levels → (get_or facts.levels r no_level).block ≡ level_of r plan.table.shape.block_size row
  pub known : facts.row ≡ Some row

pub none_found : (plan : FixPlan) (facts : StripeFacts) (row : Row) → IsClean plan facts row → stripe_events plan facts ≡ []
none_found plan facts row is =
    let lost = all_lost_events plan facts.stripe (is_lost plan facts) in
    let levels = all_level_events plan facts.stripe facts.levels facts.row in
    let ios = all_level_io_events plan facts.stripe facts.levels in
    let cells = all_cell_events plan facts.stripe facts.slots in
    both_empty (unsynced_events plan facts.stripe) (cells ++ (ios ++ (levels ++ lost)))
    (unsynced_none (is_audit plan.scope.mode) (is_synced plan facts.stripe) (has_selected_cell plan facts.stripe) facts.stripe is.synced)
    (both_empty cells (ios ++ (levels ++ lost))
    (range_empty (λ d. cell_events plan facts.stripe (slot_of facts d) d) (length plan.table.columns) (λ d below.
    if_nil (selects_cell plan facts.stripe d) (read_events plan facts.stripe (slot_of facts d) d (cell_at plan facts.stripe d))
    (cell_clean plan facts.stripe d (cell_at plan facts.stripe d) (slot_of facts d) refl (is.right d below) (is.came d below))))
    (both_empty ios (levels ++ lost)
    (range_empty (λ r. level_io_events plan facts.stripe (get_or facts.levels r no_level) r) (length facts.levels) (λ r below.
    never (selects_level plan facts.stripe r && is_unread_level (get_or facts.levels r no_level).state) (event.ParityIo facts.stripe r ∷ [])
    (ap (λ (state : LevelRead). selects_level plan facts.stripe r && is_unread_level state) (is.whole r below) ∙ and_false (selects_level plan facts.stripe r))))
    (both_empty levels lost
    (range_empty (λ r. level_events plan facts.stripe (get_or facts.levels r no_level) facts.row r) (length facts.levels) (λ r below.
    never (is_wrong plan facts.stripe (get_or facts.levels r no_level) facts.row r) (event.Parity facts.stripe r ∷ [])
    (ap (λ (b : Bool). may_write_level plan facts.stripe r && b) (level_right plan.table.shape.block_size r (get_or facts.levels r no_level) facts.row row (is.whole r below) (is.sums r below) is.known)
    ∙ and_false (may_write_level plan facts.stripe r))))
    (range_empty (λ d. lost_events plan facts.stripe (is_lost plan facts d) d) (length plan.table.columns) (λ d below.
    lost_none (is_audit plan.scope.mode) (selects_cell plan facts.stripe d) (damaged_at plan facts d) (is_some (known_block plan facts d)) (lost_event facts.stripe d (cell_at plan facts.stripe d))
    (is.right d below))))))
