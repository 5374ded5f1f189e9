-- What is seen of the stripes of a table in which stripes are closed, and which rows parity then has.
use Rattle.std.proofs.Common.{◌≡◌, ◌≢◌, ◌⊎◌, inl, inr, ℕ, zero, suc, ◌<◌, List, [], ◌∷◌, length, map, get_or, Bool, true, false, if◌then◌else◌, Option, None, Some, refl, sym, ap, ap₂, ◌∙◌, arith}
use Rattle.std.specs.List.{All, AllPairs}
use Rattle.std.specs.Option.{option_map}
use Rattle.std.proofs.lemmas.Bool.{cases_eq, eq-eqb, ne_eqb}
use Rattle.std.proofs.lemmas.List.Elements.{All-cons}
use Rattle.std.proofs.lemmas.List.{length-set, get_or-set_same}
use Rattle.block_hash.specs.declared.Digest16.{Digest16}
use Rattle.file_table.specs.Cells.{CellView, StripeView, seen_with, cell_view, stripe_view, column_closed, columns_closed, closed_at}
use Rattle.file_table.specs.Table.{Column, TableValue, no_info}
use Rattle.file_table.specs.declared.info.Info.{Info}
use Rattle.parity_writer.specs.Parity.{Rows, with_row}
use Rattle.snap_sync.specs.Calls.{no_reading}
use Rattle.snap_sync.specs.Closing.{synced_now, with_closed, closed_by, rows_with}
use Rattle.stripe_findings.specs.Reading.{StripeReading, is_verified, digests_of, row_of}

-- what file_table says of closing a stripe
abbrev pub LeavesTheOthers : Type 0
LeavesTheOthers = (table : TableValue) (stripe other : ℕ) (info : Info) (hashes : List (Option Digest16)) → other ≢ stripe → stripe_view (closed_at stripe hashes info table) other ≡ stripe_view table other

abbrev pub GivesItsHashes : Type 0
GivesItsHashes = (column : Column) (stripe : ℕ) (hash : Digest16) → cell_view (column_closed stripe (Some hash) column) stripe ≡ option_map (seen_with hash) (cell_view column stripe)

-- what a cell is seen as once it is given a hash, or none
abbrev pub view_with : Option Digest16 → Option CellView → Option CellView
view_with None seen = seen
view_with (Some hash) seen = option_map (seen_with hash) seen

abbrev pub views_with : List (Option Digest16) → List (Option CellView) → List (Option CellView)
views_with hashes [] = []
views_with [] (seen ∷ views) = seen ∷ views
views_with (hash ∷ hashes) (seen ∷ views) = view_with hash seen ∷ views_with hashes views

-- what is seen at a stripe of columns
abbrev pub views_at : ℕ → List Column → List (Option CellView)
views_at stripe columns = map (λ (column : Column). cell_view column stripe) columns

pub length-views_with : (hashes : List (Option Digest16)) (views : List (Option CellView)) → length (views_with hashes views) ≡ length views
length-views_with hashes [] = refl
length-views_with [] (seen ∷ views) = refl
length-views_with (hash ∷ hashes) (seen ∷ views) = ap (λ (n : ℕ). suc n) (length-views_with hashes views)

-- each view with the hash that it is given
pub view_in : (hashes : List (Option Digest16)) (views : List (Option CellView)) (d : ℕ) → get_or (views_with hashes views) d None ≡ view_with (get_or hashes d None) (get_or views d None)
view_in [] [] d = refl
view_in (None ∷ hashes) [] zero = refl
view_in (Some hash ∷ hashes) [] zero = refl
view_in (hash ∷ hashes) [] (suc d) = view_in hashes [] d
view_in [] (seen ∷ views) d = refl
view_in (hash ∷ hashes) (seen ∷ views) zero = refl
view_in (hash ∷ hashes) (seen ∷ views) (suc d) = view_in hashes views d

-- what is seen of a stripe that is closed by a reading
abbrev pub view_closed : ℕ → StripeReading → StripeView → StripeView
view_closed now reading seen = record { info = synced_now now; cells = views_with (digests_of reading) seen.cells }

-- a table after one more stripe was read
abbrev pub table_with : TableValue → ℕ → StripeReading → TableValue → TableValue
table_with start now reading table = if is_verified start reading then with_closed now reading table else table

-- ---- what stays

module _ (start : TableValue) (now : ℕ) where
  shape_with : (reading : StripeReading) (table : TableValue) (b : Bool) → (if b then with_closed now reading table else table).shape ≡ table.shape
  shape_with reading table true = refl
  shape_with reading table false = refl

  pub infos_with : (reading : StripeReading) (table : TableValue) (b : Bool) → length (if b then with_closed now reading table else table).infos ≡ length table.infos
  infos_with reading table true = length-set table.infos reading.stripe (synced_now now)
  infos_with reading table false = refl

  pub shape_closed : (readings : List StripeReading) (table : TableValue) → (closed_by start now readings table).shape ≡ table.shape
  shape_closed [] table = refl
  shape_closed (reading ∷ readings) table = shape_closed readings (table_with start now reading table) ∙ shape_with reading table (is_verified start reading)

  pub infos_closed : (readings : List StripeReading) (table : TableValue) → length (closed_by start now readings table).infos ≡ length table.infos
  infos_closed [] table = refl
  infos_closed (reading ∷ readings) table = infos_closed readings (table_with start now reading table) ∙ infos_with reading table (is_verified start reading)

-- ---- what is seen

module _ (leaves : LeavesTheOthers) (start : TableValue) (now : ℕ) where
  pub apart_with : (reading : StripeReading) (table : TableValue) (stripe : ℕ) → stripe ≢ reading.stripe → (b : Bool) → stripe_view (if b then with_closed now reading table else table) stripe ≡ stripe_view table stripe
  apart_with reading table stripe apart true = leaves table reading.stripe stripe (synced_now now) (digests_of reading) apart
  apart_with reading table stripe apart false = refl

  -- a stripe that was not read is seen as before
  pub view_apart : (readings : List StripeReading) (table : TableValue) (stripe : ℕ) → All (λ (reading : StripeReading). reading.stripe ≢ stripe) readings
      → stripe_view (closed_by start now readings table) stripe ≡ stripe_view table stripe
  view_apart [] table stripe apart = refl
  view_apart (reading ∷ readings) table stripe apart =
      view_apart readings (table_with start now reading table) stripe (λ k d within. apart (suc k) d (omega arith))
      ∙ apart_with reading table stripe (λ same. apart 0 reading (omega arith) (sym same)) (is_verified start reading)

  module _ (gives : GivesItsHashes) where
    column_seen : (column : Column) (stripe : ℕ) (hash : Option Digest16) → cell_view (column_closed stripe hash column) stripe ≡ view_with hash (cell_view column stripe)
    column_seen column stripe None = refl
    column_seen column stripe (Some hash) = gives column stripe hash

    pub closed_views : (stripe : ℕ) (hashes : List (Option Digest16)) (columns : List Column) → views_at stripe (columns_closed stripe hashes columns) ≡ views_with hashes (views_at stripe columns)
    closed_views stripe hashes [] = refl
    closed_views stripe [] (column ∷ columns) = refl
    closed_views stripe (hash ∷ hashes) (column ∷ columns) = ap₂ (λ (one : Option CellView) (more : List (Option CellView)). one ∷ more) (column_seen column stripe hash) (closed_views stripe hashes columns)

    here_with : (reading : StripeReading) (table : TableValue) → reading.stripe < length table.infos → (b : Bool)
        → stripe_view (if b then with_closed now reading table else table) reading.stripe ≡ (if b then view_closed now reading (stripe_view table reading.stripe) else stripe_view table reading.stripe)
    here_with reading table within true = ap₂ (λ (info : Info) (cells : List (Option CellView)). let seen : StripeView = record { info = info; cells = cells } in seen)
        (get_or-set_same table.infos reading.stripe (synced_now now) no_info within) (closed_views reading.stripe (digests_of reading) table.columns)
    here_with reading table within false = refl

    -- one that was read once is seen with its hashes if it is verified, and else as before
    pub view_read : (readings : List StripeReading) (table : TableValue) (i : ℕ) (d : StripeReading) → AllPairs (λ (a b : StripeReading). a.stripe ≢ b.stripe) readings → i < length readings → (get_or readings i d).stripe < length table.infos
        → stripe_view (closed_by start now readings table) (get_or readings i d).stripe
        ≡ (if is_verified start (get_or readings i d) then view_closed now (get_or readings i d) (stripe_view table (get_or readings i d).stripe) else stripe_view table (get_or readings i d).stripe)
    view_read [] table i d distinct inside within = absurd (omega arith)
    view_read (reading ∷ readings) table zero d distinct inside within =
        view_apart readings (table_with start now reading table) reading.stripe (λ k e below same. distinct 0 (suc k) e (omega arith) (omega arith) (sym same))
        ∙ here_with reading table within (is_verified start reading)
    view_read (reading ∷ readings) table (suc i) d distinct inside within =
        let it : StripeReading = get_or readings i d in
        let long : length (table_with start now reading table).infos ≡ length table.infos = infos_with start now reading table (is_verified start reading) in
        view_read readings (table_with start now reading table) i d (λ a b e less below. distinct (suc a) (suc b) e (omega arith) (omega arith)) (omega arith) (omega (arith, within, long))
        ∙ ap (λ (seen : StripeView). if is_verified start it then view_closed now it seen else seen)
        (apart_with reading table it.stripe (λ same. distinct 0 (suc i) d (omega arith) (omega arith) (sym same)) (is_verified start reading))

-- ---- rows

module _ (start : TableValue) where
  row_apart_with : (reading : StripeReading) (rows : Rows) (stripe : ℕ) → stripe ≢ reading.stripe → (b : Bool) → (if b then with_row reading.stripe (row_of reading) rows else rows) stripe ≡ rows stripe
  row_apart_with reading rows stripe apart true = ap (λ (b : Bool). if b then Some (row_of reading) else rows stripe) (ne_eqb stripe reading.stripe apart)
  row_apart_with reading rows stripe apart false = refl

  -- a stripe that was not read has the row that it had
  pub row_apart : (readings : List StripeReading) (rows : Rows) (stripe : ℕ) → All (λ (reading : StripeReading). reading.stripe ≢ stripe) readings → rows_with start readings rows stripe ≡ rows stripe
  row_apart [] rows stripe apart = refl
  row_apart (reading ∷ readings) rows stripe apart =
      row_apart readings (if is_verified start reading then with_row reading.stripe (row_of reading) rows else rows) stripe (λ k d within. apart (suc k) d (omega arith))
      ∙ row_apart_with reading rows stripe (λ same. apart 0 reading (omega arith) (sym same)) (is_verified start reading)

  -- one that was read once and is verified has its row
  pub row_read : (readings : List StripeReading) (rows : Rows) (i : ℕ) (d : StripeReading) → AllPairs (λ (a b : StripeReading). a.stripe ≢ b.stripe) readings → i < length readings
      → is_verified start (get_or readings i d) ≡ true → rows_with start readings rows (get_or readings i d).stripe ≡ Some (row_of (get_or readings i d))
  row_read [] rows i d distinct inside verified = absurd (omega arith)
  row_read (reading ∷ readings) rows zero d distinct inside verified =
      row_apart readings (if is_verified start reading then with_row reading.stripe (row_of reading) rows else rows) reading.stripe (λ k e below same. distinct 0 (suc k) e (omega arith) (omega arith) (sym same))
      ∙ ap (λ (b : Bool). (if b then with_row reading.stripe (row_of reading) rows else rows) reading.stripe) verified
      ∙ ap (λ (b : Bool). if b then Some (row_of reading) else rows reading.stripe) (eq-eqb reading.stripe reading.stripe refl)
  row_read (reading ∷ readings) rows (suc i) d distinct inside verified =
      row_read readings (if is_verified start reading then with_row reading.stripe (row_of reading) rows else rows) i d (λ a b e less below. distinct (suc a) (suc b) e (omega arith) (omega arith)) (omega arith) verified

-- a stripe is that of one of the readings, or of none
pub record IsOneOf (readings : List StripeReading) (stripe : ℕ) : Type 0 where
  pub i : ℕ
  pub within : i < length readings
  pub is : (get_or readings i no_reading).stripe ≡ stripe

pub one_or_none : (readings : List StripeReading) (stripe : ℕ) → (IsOneOf readings stripe) ⊎ (All (λ (reading : StripeReading). reading.stripe ≢ stripe) readings)
one_or_none [] stripe = inr (λ k d within. absurd (omega (arith, within)))
one_or_none (reading ∷ readings) stripe = elim (cases_eq reading.stripe stripe) [
  | inl same ↦ inl (record { i = 0; within = omega arith; is = same })
  | inr other ↦ elim (one_or_none readings stripe) [
    | inl later ↦ inl (record { i = suc later.i; within = omega (arith, later.within); is = later.is })
    | inr none ↦ inr (All-cons (λ (r : StripeReading). r.stripe ≢ stripe) reading readings other none)
  ]
]
