-- The row of a stripe that was read, and what it closes.
use Rattle.std.proofs.Common.{◌≡◌, ℕ, ◌<◌, ◌≤◌, List, [], ◌++◌, length, map, take, get_or, replicate, ◌-◌, Option, None, Some, refl, sym, ◌∙◌, ap, ap₂, subst, arith}
use Rattle.std.specs.List.{All}
use Rattle.std.proofs.lemmas.List.{ext_get_or, get_or-map, length-map, take-append-le, take_all, get_or_past}
use Rattle.block_hash.specs.declared.Digest16.{Digest16}
use Rattle.disk_model.specs.Bytes.{resized}
use Rattle.disk_model.specs.Folder.{FolderView}
use Rattle.file_table.specs.Cells.{CellView, cell_view, columns_closed}
use Rattle.file_table.specs.Table.{Column, TableValue, column_at, no_column}
use Rattle.file_table.specs.declared.info.Info.{Info}
use Rattle.file_table.specs.declared.shape.Shape.{Shape}
use Rattle.stripe_reader.specs.Reading.{CellReading, NoBlock, Nowhere, Beyond, Unread, Gone, Part, Whole, IsReadingBy, task_at}
use Rattle.stripe_reader.specs.Readings.{bytes_read, digest_read, IsThere, IsReadingAt, ReadsStripe}
use Rattle.stripe_reader.specs.Slot.{kept}
use Rattle.stripe_reader.specs.SlotValue.{SlotValue}
use Rattle.stripe_reader.specs.Starts.{StartsValue}
use Rattle.stripe_reader.specs.WindowValue.{WindowValue, Fits}
use Rattle.parity_writer.specs.Closing.{closing_of, IsClosing}
use Rattle.parity_writer.specs.Parity.{Row}
use Rattle.parity_writer.specs.Sound.{IsBlockAt, real_length}
use Rattle.parity_writer.specs.WindowRow.{bytes_of, bytes_in, row_at, digest_in, digests_at}
use Rattle.parity_writer.proofs.ClosingLemmas.{GivesItsHashes, view_with, views_at, view_in, length-views_with, closed_views}
use Rattle.parity_writer.proofs.LevelsLemmas.{resized_same}

-- what stripe_reader says of a reading
abbrev pub IsOfItsCell : Type 0
IsOfItsCell = (table : TableValue) (starts : StartsValue) (d stripe : ℕ) (reading : CellReading) → IsReadingBy (task_at table starts d stripe) reading
    → IsReadingAt table.shape.block_size (cell_view (column_at table.columns d) stripe) reading

-- the bytes of a slot are those that were read
pub whole_bytes : (bytes : List ℕ) (size : ℕ) → length bytes ≤ size → take (length bytes) (resized bytes size) ≡ bytes
whole_bytes bytes size few =
    ap (λ (xs : List ℕ). take (length bytes) (xs ++ replicate (size - length bytes) 0)) (take_all size bytes few)
    ∙ take-append-le (length bytes) bytes (replicate (size - length bytes) 0) (omega arith)
    ∙ take_all (length bytes) bytes (omega arith)

bytes_kept : (shape : Shape) (seen : Option CellView) (reading : CellReading) → IsReadingAt shape.block_size seen reading → bytes_of (kept shape reading) ≡ bytes_read reading
bytes_kept shape None reading at = ap (λ (it : CellReading). bytes_of (kept shape it)) at ∙ sym (ap bytes_read at)
bytes_kept shape (Some cell) NoBlock at = refl
bytes_kept shape (Some cell) Nowhere at = refl
bytes_kept shape (Some cell) Beyond at = refl
bytes_kept shape (Some cell) (Unread seen) at = refl
bytes_kept shape (Some cell) (Gone seen) at = refl
bytes_kept shape (Some cell) (Part seen got) at = refl
bytes_kept shape (Some cell) (Whole seen bytes) at = whole_bytes bytes shape.block_size (omega (arith, at.size))

digest_kept : (shape : Shape) (reading : CellReading) → (kept shape reading).digest ≡ digest_read shape reading
digest_kept shape NoBlock = refl
digest_kept shape Nowhere = refl
digest_kept shape Beyond = refl
digest_kept shape (Unread seen) = refl
digest_kept shape (Gone seen) = refl
digest_kept shape (Part seen got) = refl
digest_kept shape (Whole seen bytes) = refl

-- a block that was read has the hash that it gives its cell
block_closes : (shape : Shape) (seen : Option CellView) (reading : CellReading) → IsReadingAt shape.block_size seen reading → IsThere reading
    → IsBlockAt shape (view_with (digest_read shape reading) seen) (bytes_read reading)
block_closes shape None reading at is_there =
    subst (λ (it : CellReading). IsBlockAt shape (view_with (digest_read shape it) None) (bytes_read it)) (sym at) (λ i. refl)
block_closes shape (Some cell) NoBlock at is_there = absurd at
block_closes shape (Some cell) Nowhere at is_there = absurd is_there
block_closes shape (Some cell) Beyond at is_there = absurd is_there
block_closes shape (Some cell) (Unread seen) at is_there = absurd is_there
block_closes shape (Some cell) (Gone seen) at is_there = absurd is_there
block_closes shape (Some cell) (Part seen got) at is_there = absurd is_there
block_closes shape (Some cell) (Whole seen bytes) at is_there = record {
  hash = ap (λ (xs : List ℕ). digest_read shape (Whole seen xs)) (sym (resized_same bytes (real_length shape cell) at.size));
  zeros = λ i past. get_or_past bytes i 0 (omega (arith, past, at.size));
}

module _ (is_of : IsOfItsCell) (table : TableValue) (starts : StartsValue) (stripe : ℕ) (window : WindowValue) (i : ℕ) (readings : List CellReading) (folders : List FolderView)
    (read : ReadsStripe table starts stripe window i readings folders) (fits : Fits table window) (all : length folders ≡ length table.columns) where
  lanes : length window.lanes ≡ length readings
  lanes = omega (arith, fits.lanes, all, read.as_many)

  reading_is : (d : ℕ) → d < length readings → IsReadingAt table.shape.block_size (cell_view (column_at table.columns d) stripe) (get_or readings d NoBlock)
  reading_is d below = is_of table starts d stripe (get_or readings d NoBlock) (read.are_of d below).by

  pub row_read : row_at window i ≡ map bytes_read readings
  row_read = ext_get_or [] (row_at window i) (map bytes_read readings) (length-map window.lanes (bytes_in i) ∙ lanes ∙ sym (length-map readings bytes_read))
      (λ d below. let within : d < length readings = omega (arith, below, length-map window.lanes (bytes_in i), lanes) in
      get_or-map (bytes_in i) window.lanes d [] [] (omega (arith, within, lanes))
      ∙ ap bytes_of (read.are_kept d within)
      ∙ bytes_kept table.shape (cell_view (column_at table.columns d) stripe) (get_or readings d NoBlock) (reading_is d within)
      ∙ sym (get_or-map bytes_read readings d NoBlock [] within))

  pub digests_read : digests_at window i ≡ map (digest_read table.shape) readings
  digests_read = ext_get_or None (digests_at window i) (map (digest_read table.shape) readings) (length-map window.lanes (digest_in i) ∙ lanes ∙ sym (length-map readings (digest_read table.shape)))
      (λ d below. let within : d < length readings = omega (arith, below, length-map window.lanes (digest_in i), lanes) in
      get_or-map (digest_in i) window.lanes d [] None (omega (arith, within, lanes))
      ∙ ap (λ (slot : SlotValue). slot.digest) (read.are_kept d within)
      ∙ digest_kept table.shape (get_or readings d NoBlock)
      ∙ sym (get_or-map (digest_read table.shape) readings d NoBlock None within))

  -- where all was read, the stripe is closed by its row and its digests
  pub read_closes : (gives : GivesItsHashes) (info : Info) → All IsThere readings → IsClosing table (closing_of window stripe i info)
  read_closes gives info there =
      let digests = digests_at window i in
      let views = views_at stripe table.columns in
      let seen = closed_views gives stripe digests table.columns in
      let count : length views ≡ length table.columns = length-map table.columns (λ (column : Column). cell_view column stripe) in
      record {
        as_many = omega (arith, length-map window.lanes (bytes_in i), fits.lanes, ap length seen, length-views_with digests views, count);
        blocks = λ d below.
            let within : d < length readings = omega (arith, below, ap length seen, length-views_with digests views, count, all, read.as_many) in
            let view_is : get_or views d None ≡ cell_view (column_at table.columns d) stripe = get_or-map (λ (column : Column). cell_view column stripe) table.columns d no_column None (omega (arith, within, all, read.as_many)) in
            let reading = get_or readings d NoBlock in
            let digest_is : get_or digests d None ≡ digest_read table.shape reading = ap (λ (xs : List (Option Digest16)). get_or xs d None) digests_read ∙ get_or-map (digest_read table.shape) readings d NoBlock None within in
            let block_is : get_or (row_at window i) d [] ≡ bytes_read reading = ap (λ (xs : Row). get_or xs d []) row_read ∙ get_or-map bytes_read readings d NoBlock [] within in
            let cell_is : get_or (views_at stripe (columns_closed stripe digests table.columns)) d None ≡ view_with (digest_read table.shape reading) (cell_view (column_at table.columns d) stripe) =
            ap (λ (xs : List (Option CellView)). get_or xs d None) seen ∙ view_in digests views d ∙ ap₂ (λ (digest : Option Digest16) (it : Option CellView). view_with digest it) digest_is view_is in
            subst (λ (it : Option CellView). IsBlockAt table.shape it (get_or (row_at window i) d [])) (sym cell_is)
            (subst (λ (block : List ℕ). IsBlockAt table.shape (view_with (digest_read table.shape reading) (cell_view (column_at table.columns d) stripe)) block) (sym block_is)
            (block_closes table.shape (cell_view (column_at table.columns d) stripe) reading (reading_is d within) (there d NoBlock within)));
      }
