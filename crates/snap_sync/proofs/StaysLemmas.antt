-- Stripes that are closed: hashes and infos alone change, and another stripe is seen as before.
use Rattle.std.proofs.Common.{◌≡◌, ◌≢◌, ℕ, suc, List, [], ◌∷◌, length, get_or, Bool, true, false, ◌&&◌, Option, None, Some, refl, sym, ap, ◌∙◌, subst, arith}
use Rattle.std.specs.Prelude.{All, IsSome, is_some, if◌then◌else◌}
use Rattle.std.specs.Option.{option_map}
use Rattle.std.specs.List.{AllPass, range_with_len}
use Rattle.std.proofs.lemmas.List.FromFn.{length-range_with_len, get_or-range_with_len}
use Rattle.std.proofs.lemmas.List.Sums.{AllPass-from_list_all}
use Rattle.file_table.specs.declared.block.Cell.{Cell}
use Rattle.file_table.specs.Cells.{cell_in, cell_seen, stripe_view}
use Rattle.file_table.specs.Closing.{DiffersInHashesAndInfos}
use Rattle.file_table.specs.Table.{Column, TableValue, column_at}
use Rattle.file_table.proofs.ClosingLemmas.{differs-none, differs_then, differs-closed_at}
use Rattle.file_table.proofs.ViewLemmas.{stripe_view-closed}
use Rattle.file_table.specs.declared.shape.Shape.{Shape}
use Rattle.stripe_reader.specs.Held.{HoldsCells}
use Rattle.stripe_reader.specs.SlotValue.{SlotValue}
use Rattle.stripe_reader.specs.WindowValue.{WindowValue, Fits}
use Rattle.snap_sync.specs.Closing.{HasDigests, synced_now, with_closed, closed_by, closed}
use Rattle.stripe_findings.specs.Reading.{StripeReading, slot_of, digests_of, is_seen, agrees, is_right, is_right_in, is_recorded, is_verified}

-- ---- what changes

-- one stripe, closed where it is verified
abbrev step : Bool → ℕ → StripeReading → TableValue → TableValue
step verified now reading table = if verified then with_closed now reading table else table

differs-step : (verified : Bool) (now : ℕ) (reading : StripeReading) (table : TableValue) → DiffersInHashesAndInfos table (step verified now reading table)
differs-step true now reading table = differs-closed_at table reading.stripe (digests_of reading) (synced_now now)
differs-step false now reading table = differs-none table

differs-by : (start : TableValue) (now : ℕ) (readings : List StripeReading) (table : TableValue) → DiffersInHashesAndInfos table (closed_by start now readings table)
differs-by start now [] table = differs-none table
differs-by start now (reading ∷ readings) table =
    let next : TableValue = step (is_verified start reading) now reading table in
    differs_then table next (closed_by start now readings next) (differs-step (is_verified start reading) now reading table) (differs-by start now readings next)

-- the table after some stripes were read differs in hashes and infos alone
pub differs-closed : (now : ℕ) (start : TableValue) (readings : List StripeReading) → DiffersInHashesAndInfos start (closed now start readings)
differs-closed now start readings = differs-by start now readings start

-- a window that fits a table fits one that differs in hashes and infos alone
pub fits-differs : (old new : TableValue) (window : WindowValue) → DiffersInHashesAndInfos old new → Fits old window → Fits new window
fits-differs old new window differs fits = record {
  lanes = fits.lanes ∙ sym differs.columns;
  block_size = fits.block_size ∙ sym (ap (λ (shape : Shape). shape.block_size) differs.shape);
}

-- and one that keeps the cells of the one keeps those of the other
pub cells-differ : (old new : TableValue) (stripes : List ℕ) (window : WindowValue) → DiffersInHashesAndInfos old new → HoldsCells old stripes window → HoldsCells new stripes window
cells-differ old new stripes window differs cells = λ d within i below.
    cells d (omega (arith, differs.columns, within)) i below ∙ sym ((differs.files d).cell (get_or stripes i 0))

-- ---- what is seen of another stripe

-- a stripe is none of those of readings
abbrev pub IsNoneOf : ℕ → List StripeReading → Type 0
IsNoneOf stripe readings = All (λ (reading : StripeReading). reading.stripe ≢ stripe) readings

seen-step : (verified : Bool) (now : ℕ) (reading : StripeReading) (table : TableValue) (stripe : ℕ) → reading.stripe ≢ stripe
    → stripe_view (step verified now reading table) stripe ≡ stripe_view table stripe
seen-step true now reading table stripe other = stripe_view-closed table reading.stripe stripe (digests_of reading) (synced_now now) (λ same. other (sym same))
seen-step false now reading table stripe other = refl

seen-by : (start : TableValue) (now : ℕ) (readings : List StripeReading) (table : TableValue) (stripe : ℕ) → IsNoneOf stripe readings
    → stripe_view (closed_by start now readings table) stripe ≡ stripe_view table stripe
seen-by start now [] table stripe apart = refl
seen-by start now (reading ∷ readings) table stripe apart =
    let next : TableValue = step (is_verified start reading) now reading table in
    seen-by start now readings next stripe (λ k d within. apart (suc k) d (omega arith))
    ∙ seen-step (is_verified start reading) now reading table stripe (apart 0 reading (omega arith))

pub seen-closed : (now : ℕ) (start : TableValue) (readings : List StripeReading) (stripe : ℕ) → IsNoneOf stripe readings
    → stripe_view (closed now start readings) stripe ≡ stripe_view start stripe
seen-closed now start readings stripe apart = seen-by start now readings start stripe apart

-- ---- digests of a verified stripe

both_true_left : (a b : Bool) → (a && b) ≡ true → a ≡ true
both_true_left true b is = refl
both_true_left false b is = is

digest_where_right : (column : Column) (found : Option Cell) (slot : SlotValue) → is_right (option_map (cell_seen column) found) slot ≡ true → IsSome found → IsSome slot.digest
digest_where_right column None slot right some = let no : false ≡ true = some in absurd cc
digest_where_right column (Some cell) slot right some =
    let meta = (cell_seen column cell).meta in
    both_true_left (is_some slot.digest) (is_seen meta slot.cell.seen)
    (both_true_left (is_recorded meta slot) (agrees (cell_seen column cell).hash slot.digest) right)

-- each block of a verified stripe came whole
pub digests_of_verified : (table : TableValue) (reading : StripeReading) → is_verified table reading ≡ true → HasDigests table reading
digests_of_verified table reading verified = λ d within some.
    let count : ℕ = length table.columns in
    let all : AllPass (is_right_in table reading) (range_with_len 0 count) = AllPass-from_list_all (is_right_in table reading) (range_with_len 0 count) verified in
    let at : is_right_in table reading (get_or (range_with_len 0 count) d 0) ≡ true = all d 0 (omega (arith, length-range_with_len 0 count, within)) in
    let number : get_or (range_with_len 0 count) d 0 ≡ d = get_or-range_with_len 0 count d 0 within ∙ omega arith in
    let right : is_right_in table reading d ≡ true = sym (ap (is_right_in table reading) number) ∙ at in
    digest_where_right (column_at table.columns d) (cell_in (column_at table.columns d) reading.stripe) (slot_of d reading) right some

-- they stay where hashes and infos alone change
pub digests_stay : (old new : TableValue) (reading : StripeReading) → DiffersInHashesAndInfos old new → HasDigests old reading → HasDigests new reading
digests_stay old new reading differs given = λ d within some.
    given d (omega (arith, differs.columns, within)) (subst (λ (found : Option Cell). IsSome found) ((differs.files d).cell reading.stripe) some)
