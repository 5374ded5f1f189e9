-- Stripes of which the same came, whatever was seen of the sizes and stamps of their files: the same is known and told of them.
use Rattle.std.proofs.Common.{◌≡◌, ℕ, suc, ◌<◌, ◌&&◌, List, [], ◌∷◌, ◌++◌, length, map, Bool, true, false, if◌then◌else◌, Option, None, Some, refl, sym, ap, ap₂, ◌∙◌, subst, arith}
use Rattle.std.proofs.Math.Path.{fun_ext}
use Rattle.std.specs.Prelude.{filter, is_some, not}
use Rattle.std.specs.List.{flat_map, range_with_len}
use Rattle.folder_listing.specs.Kept.{each_column}
use Rattle.block_hash.specs.declared.Digest16.{Digest16}
use Rattle.file_table.specs.Cells.{CellView, cell_seen}
use Rattle.file_table.specs.Table.{column_at}
use Rattle.file_table.specs.Valid.{IsValid}
use Rattle.file_table.specs.declared.block.Cell.{Cell}
use Rattle.parity_writer.specs.Parity.{Row}
use Rattle.parity_writer.specs.WindowRow.{bytes_found, bytes_of}
use Rattle.snap_report.specs.declared.events.Event.{Event}
use Rattle.snap_report.specs.declared.events.Event.TheVariants as event
use Rattle.stripe_examiner.specs.Alike.{AreReadAlike, SeeAlike}
use Rattle.stripe_reader.specs.Agreeing.{matches_digest}
use Rattle.block_hash.specs.declared.Kind.{Kind}
use Rattle.stripe_examiner.specs.Facts.{StripeFacts, gift_of, gift_or, is_damaged, is_missing, row_before, slot_of, wanted_at, wanted_in}
use Rattle.stripe_examiner.specs.Findings.{all_cell_events, all_level_events, all_level_io_events, all_lost_events, cell_events, events_of, is_lost, is_unread, read_event, read_events, silent_event, stripe_events, unsynced_events}
use Rattle.stripe_examiner.specs.Known.{AreFacts, IsKnown, IsTried}
use Rattle.stripe_examiner.specs.Looking.{facts_at}
use Rattle.repair_scope.specs.Plan.{FixPlan, cell_at, entry_at, is_searched, seen_at, selects_cell}
use Rattle.stripe_examiner.specs.Showing.{known_block}
use Rattle.repair_scope.specs.Selected.{is_as_recorded}
use Rattle.repair_scope.specs.declared.entry.Entry.{Entry}
use Rattle.stripe_examiner.specs.declared.search.Wanted.{Wanted}
use Rattle.stripe_reader.specs.SlotValue.{SlotValue}
use Rattle.stripe_reader.specs.declared.slot.Found.{Found}
use Rattle.snap_top.specs.Alike.{KeptAlike}

-- ---- one cell

pub kept_same : (one other : SlotValue) → one ≡ other → KeptAlike one other
kept_same one other same = record {
  found = ap (λ (slot : SlotValue). slot.cell.found) same;
  got = ap (λ (slot : SlotValue). slot.cell.got) same;
  digest = ap (λ (slot : SlotValue). slot.digest) same;
  block = ap (λ (slot : SlotValue). slot.block) same;
}

-- two of which the same is kept as of a third
pub kept_both : (one other third : SlotValue) → KeptAlike one third → KeptAlike other third → KeptAlike one other
kept_both one other third a b = record {
  found = a.found ∙ sym b.found;
  got = a.got ∙ sym b.got;
  digest = a.digest ∙ sym b.digest;
  block = a.block ∙ sym b.block;
}

pub damaged_same : (kind : Kind) (seen : Option CellView) (one other : SlotValue) → KeptAlike one other → is_damaged kind seen one ≡ is_damaged kind seen other
damaged_same kind None one other alike = refl
damaged_same kind (Some cell) one other alike = ap (λ (came : Option Digest16). not (is_some came && matches_digest cell.hash came)) alike.digest

bytes_same : (one other : SlotValue) → KeptAlike one other → bytes_of one ≡ bytes_of other
bytes_same one other alike =
    ap (λ (found : Found). bytes_found found one.cell.got one.block) alike.found
    ∙ ap (λ (got : ℕ). bytes_found other.cell.found got one.block) alike.got
    ∙ ap (λ (block : List ℕ). bytes_found other.cell.found other.cell.got block) alike.block

read_event_same : (stripe d : ℕ) (cell : Cell) (seen : CellView) (entry : Entry) (one other : SlotValue) → KeptAlike one other → read_event stripe d cell seen entry one ≡ read_event stripe d cell seen entry other
read_event_same stripe d cell seen entry one other alike =
    ap₂ (λ (found : Found) (came : Option Digest16).
    if is_unread found then event.Io stripe d cell.rec cell.index ∷ []
    else if is_as_recorded seen.meta entry.listed then silent_event stripe d cell seen.hash came
    else []) alike.found alike.digest

read_events_same : (plan : FixPlan) (stripe d : ℕ) (cell : Option Cell) (one other : SlotValue) → KeptAlike one other → read_events plan stripe one d cell ≡ read_events plan stripe other d cell
read_events_same plan stripe d None one other alike = refl
read_events_same plan stripe d (Some cell) one other alike =
    read_event_same stripe d cell (cell_seen (column_at plan.table.columns d) cell) (entry_at plan d cell.rec) one other alike

cell_events_same : (plan : FixPlan) (stripe d : ℕ) (one other : SlotValue) → KeptAlike one other → cell_events plan stripe one d ≡ cell_events plan stripe other d
cell_events_same plan stripe d one other alike =
    ap (λ (events : List Event). if selects_cell plan stripe d then events else []) (read_events_same plan stripe d (cell_at plan stripe d) one other alike)

-- ---- one stripe

abbrev pub IsDetermined : Type 0
IsDetermined = (plan other : FixPlan) (facts others : StripeFacts) → SeeAlike plan other → IsValid plan.table → AreFacts plan facts → AreFacts other others → AreReadAlike facts others → facts ≡ others

abbrev pub NoGifts : StripeFacts → Type 0
NoGifts facts = (d : ℕ) → gift_of facts d ≡ None

module _ (determined : IsDetermined) (plan : FixPlan) (valid : IsValid plan.table) (one other : StripeFacts) (are : AreFacts plan one) (are_then : AreFacts plan other)
    (stripe : one.stripe ≡ other.stripe) (alike : (d : ℕ) → KeptAlike (slot_of one d) (slot_of other d)) (gifts : one.gifts ≡ other.gifts) (none : NoGifts other) (levels : one.levels ≡ other.levels) where
  abbrev columns : ℕ
  columns = length plan.table.columns

  -- the other one, with what was seen in the first
  abbrev mid : StripeFacts
  mid = record other { slots = one.slots }

  pub missing : (d : ℕ) → is_missing plan mid d ≡ is_missing plan other d
  missing d = ap (λ (damaged : Bool). damaged && not (is_some (gift_of other d))) (damaged_same plan.table.shape.kind (seen_at plan other.stripe d) (slot_of one d) (slot_of other d) (alike d))

  missing_same : ◌≡◌ {A = ℕ → Bool} (λ d. is_missing plan mid d) (λ d. is_missing plan other d)
  missing_same = fun_ext missing

  wanted_same : wanted_in plan mid ≡ wanted_in plan other
  wanted_same = ap (λ (of : ℕ → Bool). map (wanted_at plan other) (filter of (range_with_len 0 columns))) missing_same

  row_same : row_before plan mid ≡ row_before plan other
  row_same = ap (λ (of : ℕ → List ℕ). each_column of columns) (fun_ext (λ (d : ℕ).
      ap₂ (λ (lost : Bool) (bytes : List ℕ). if lost then [] else gift_or (gift_of other d) bytes) (missing d) (bytes_same (slot_of one d) (slot_of other d) (alike d))))

  tried : (searched : Bool) → IsTried plan other searched → IsTried plan mid searched
  tried false it = it
  tried true it = (
    it.0,
    subst (λ (wanteds : List Wanted). IsKnown plan.table.shape wanteds (row_before plan mid) other.levels other.row) (sym wanted_same)
        (subst (λ (row : Row). IsKnown plan.table.shape (wanted_in plan other) row other.levels other.row) (sym row_same) it.1),
  )

  mid_are : AreFacts plan mid
  mid_are = record {
    within = are_then.within;
    slots = are.slots;
    gifts = are_then.gifts;
    given = λ d below. record {
      is = (are_then.given d below).is;
      asked = λ some. absurd (let clash : false ≡ true = sym (ap (λ (gift : Option (List ℕ)). is_some gift) (none d)) ∙ some in cc);
    };
    tried = tried (is_searched plan other.stripe) are_then.tried;
  }

  pub is_mid : one ≡ mid
  is_mid = determined plan plan one mid (record { table = refl; audits = refl }) valid are mid_are (record { stripe = stripe; slots = refl; gifts = gifts; levels = levels })

  pub rows_same : one.row ≡ other.row
  rows_same = ap (λ (facts : StripeFacts). facts.row) is_mid

  cells_same : all_cell_events plan other.stripe one.slots ≡ all_cell_events plan other.stripe other.slots
  cells_same = ap (λ (of : ℕ → List Event). flat_map of (range_with_len 0 columns)) (fun_ext (λ (d : ℕ). cell_events_same plan other.stripe d (slot_of one d) (slot_of other d) (alike d)))

  pub lost : (d : ℕ) → is_lost plan mid d ≡ is_lost plan other d
  lost d =
      ap (λ (damaged : Bool). selects_cell plan other.stripe d && (damaged && not (is_some (known_block plan other d))))
      (damaged_same plan.table.shape.kind (seen_at plan other.stripe d) (slot_of one d) (slot_of other d) (alike d))

  lost_same : ◌≡◌ {A = ℕ → Bool} (λ d. is_lost plan mid d) (λ d. is_lost plan other d)
  lost_same = fun_ext lost

  pub told_same : stripe_events plan one ≡ stripe_events plan other
  told_same =
      ap (stripe_events plan) is_mid
      ∙ ap₂ (λ (cells : List Event) (lost : ℕ → Bool).
      unsynced_events plan other.stripe ++ (cells
      ++ (all_level_io_events plan other.stripe other.levels
      ++ (all_level_events plan other.stripe other.levels other.row
      ++ all_lost_events plan other.stripe lost)))) cells_same lost_same

-- ---- stripes

abbrev pub rows_of : List StripeFacts → List (Option Row)
rows_of stripes = map (λ (facts : StripeFacts). facts.row) stripes

pub all_told_same : (plan : FixPlan) (ones others : List StripeFacts) → length ones ≡ length others → ((k : ℕ) → k < length ones → stripe_events plan (facts_at ones k) ≡ stripe_events plan (facts_at others k))
    → events_of plan ones ≡ events_of plan others
all_told_same plan [] [] long each = refl
all_told_same plan [] (y ∷ ys) long each = absurd (omega (arith, long))
all_told_same plan (x ∷ xs) [] long each = absurd (omega (arith, long))
all_told_same plan (x ∷ xs) (y ∷ ys) long each =
    ap₂ (λ (first rest : List Event). first ++ rest) (each 0 (omega arith)) (all_told_same plan xs ys (omega (arith, long)) (λ k within. each (suc k) (omega (arith, within))))

pub all_rows_same : (ones others : List StripeFacts) → length ones ≡ length others → ((k : ℕ) → k < length ones → (facts_at ones k).row ≡ (facts_at others k).row) → rows_of ones ≡ rows_of others
all_rows_same [] [] long each = refl
all_rows_same [] (y ∷ ys) long each = absurd (omega (arith, long))
all_rows_same (x ∷ xs) [] long each = absurd (omega (arith, long))
all_rows_same (x ∷ xs) (y ∷ ys) long each =
    ap₂ (λ (first : Option Row) (rest : List (Option Row)). first ∷ rest) (each 0 (omega arith)) (all_rows_same xs ys (omega (arith, long)) (λ k within. each (suc k) (omega (arith, within))))
