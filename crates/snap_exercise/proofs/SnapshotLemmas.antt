-- A sync of a table without synced stripes that verifies all its stripes: each has the row that was read, and parity has its sums.
use Rattle.std.proofs.Common.{◌≡◌, ◌≢◌, ⊎_elim, ℕ, zero, suc, ◌+◌, ◌*◌, ◌<◌, ◌≤◌, nat_le, List, [], ◌∷◌, length, get_or, Bool, true, false, if◌then◌else◌, Option, None, Some, refl, sym, ap, ap₂, ◌∙◌, subst, arith}
use Rattle.std.specs.List.{AllPairs, range_with_len}
use Rattle.std.proofs.lemmas.Bool.{cases_lt}
use Rattle.std.proofs.lemmas.List.{get_or-map, get_or_past, length-map}
use Rattle.std.proofs.lemmas.List.FromFn.{get_or-map-range_with_len, length-map-range_with_len, length-range_with_len}
use Rattle.folder_listing.specs.Kept.{ListedFile}
use Rattle.array_scan.specs.Layout.{all_sorted, all_touched, columns_laid, is_as_before, is_pending, laid_info, layout, pending_stripes}
use Rattle.cauchy.specs.Recovery.{AreBytes as AreRowBytes}
use Rattle.disk_model.specs.Bytes.{AreBytes}
use Rattle.disk_model.specs.Files.{Files, parity_of}
use Rattle.disk_model.specs.Folder.{FolderView}
use Rattle.disk_model.specs.Tree.{Tree}
use Rattle.disk_model.specs.declared.meta.Meta.{Meta}
use Rattle.block_hash.specs.declared.Digest16.{Digest16}
use Rattle.file_table.specs.Cells.{CellView, StripeView, cell_view, stripe_view}
use Rattle.file_table.specs.Table.{Column, TableValue, blocks_of, column_at, end_of, info_at, no_column, no_info, positions_of}
use Rattle.file_table.specs.declared.info.Info.{Info}
use Rattle.file_table.specs.declared.shape.Shape.{Shape}
use Rattle.parity_writer.specs.Parity.{HasLevel, HoldsRows, Row, no_rows}
use Rattle.parity_writer.proofs.CellsLemmas.{one_more, row_has_cells, rows_by}
use Rattle.parity_writer.specs.Sound.{IsRowOf, IsSynced, Sound}
use Rattle.parity_writer.specs.WindowRow.{bytes_of}
use Rattle.snap_exercise.proofs.AlikeLemmas.{in_range}
use Rattle.snap_sync.specs.Calls.{no_reading}
use Rattle.snap_sync.specs.Closing.{closed, rows_of}
use Rattle.snap_sync.specs.Part.{AllVerified, reading_by, readings_by, slot_by}
use Rattle.snap_sync.proofs.CellLemmas.{FindsCells, IsStripeRead, seen_task, stripes_read, task_seen}
use Rattle.snap_sync.proofs.LeftLemmas.{columns_closed_by}
use Rattle.snap_sync.proofs.ListFacts.{filter_all}
use Rattle.snap_sync.proofs.RowLemmas.{row_closes}
use Rattle.snap_sync.proofs.SeenLemmas.{GivesItsHashes, LeavesTheOthers, infos_closed, row_read, shape_closed, view_closed, view_in, view_read, view_with, views_at}
use Rattle.stripe_examiner.proofs.CellFactsLemmas.{given_found}
use Rattle.repair_scope.specs.Plan.{seen_in}
use Rattle.stripe_findings.specs.Reading.{AreRead, StripeReading, digests_of, is_verified, row_of, slot_of}
use Rattle.stripe_reader.specs.Reading.{Beyond, CellReading, Fetch, Gone, IsReadingBy, Known, NoBlock, Nowhere, Part, Task, Unread, Whole, block_length}
use Rattle.stripe_reader.specs.Slot.{kept}
use Rattle.stripe_reader.specs.SlotValue.{SlotValue}
use Rattle.stripe_reader.specs.WindowValue.{no_slot}

-- ---- a layout over a table without stripes: all its stripes are pending

info_by : (infos : List Info) → infos ≡ [] → (b : Bool) (stripe : ℕ) → (if b then info_at infos stripe else no_info) ≡ no_info
info_by infos none true stripe = ap (λ (is : List Info). info_at is stripe) none
info_by infos none false stripe = refl

pub all_bare : (old : TableValue) (kept_files : List (List ListedFile)) → old.infos ≡ [] → (stripe : ℕ) → info_at (layout old kept_files).infos stripe ≡ no_info
all_bare old kept_files none stripe =
    let files = all_sorted old kept_files in
    let count : ℕ = end_of (positions_of (blocks_of (columns_laid old files))) in
    let long : length (layout old kept_files).infos ≡ count = length-map-range_with_len (laid_info old (all_touched old files)) 0 count in
    ⊎_elim
    (λ below. get_or-map-range_with_len (laid_info old (all_touched old files)) 0 count stripe stripe no_info (omega (arith, below, long)) (omega arith)
    ∙ info_by old.infos none (is_as_before old (all_touched old files) stripe) stripe)
    (λ past. get_or_past (layout old kept_files).infos stripe no_info past)
    (cases_lt stripe (length (layout old kept_files).infos))

pending_all : (infos : List Info) → ((stripe : ℕ) → info_at infos stripe ≡ no_info) → pending_stripes infos ≡ range_with_len 0 (length infos)
pending_all infos bare = filter_all (λ (stripe : ℕ). is_pending (info_at infos stripe).mark) (range_with_len 0 (length infos))
    (λ k d within. ap (λ (info : Info). is_pending info.mark) (bare (get_or (range_with_len 0 (length infos)) k d)))

-- ---- what was read of a cell are bytes

from_all : (bytes : List ℕ) → AreBytes bytes → (p : ℕ) → get_or bytes p 0 < 256
from_all [] all p = omega arith
from_all (x ∷ xs) all zero = all 0 0 (omega arith)
from_all (x ∷ xs) all (suc p) = from_all xs (λ k d within. all (suc k) d (omega (arith, within))) p

-- a block that came whole
record IsBlock (size : ℕ) (bytes : List ℕ) : Type 0 where
  fits : length bytes ≤ size
  are : AreBytes bytes

whole_block : (size : ℕ) (cell : Option CellView) (seen : Meta) (bytes : List ℕ) → IsReadingBy (seen_task size cell) (Whole seen bytes) → IsBlock size bytes
whole_block size None seen bytes by = let clash : Whole seen bytes ≡ NoBlock = by in absurd cc
whole_block size (Some cell) seen bytes by = by_case (nat_le (cell.index * size + block_length size cell.meta.size cell.index) cell.meta.size) by
  where
    by_case : (b : Bool) → IsReadingBy (if b then Fetch cell.path false (cell.index * size) (block_length size cell.meta.size cell.index) else Known Beyond) (Whole seen bytes) → IsBlock size bytes
    by_case true is = record { fits = omega (arith, is.size); are = is.are_bytes }
    by_case false is = let clash : Whole seen bytes ≡ Beyond = is in absurd cc

block_bytes : (shape : Shape) (cell : Option CellView) (reading : CellReading) → IsReadingBy (seen_task shape.block_size cell) reading → (p : ℕ) → get_or (bytes_of (kept shape reading)) p 0 < 256
block_bytes shape cell NoBlock by p = omega arith
block_bytes shape cell Nowhere by p = omega arith
block_bytes shape cell Beyond by p = omega arith
block_bytes shape cell (Unread seen) by p = omega arith
block_bytes shape cell (Gone seen) by p = omega arith
block_bytes shape cell (Part seen got) by p = omega arith
block_bytes shape cell (Whole seen bytes) by p =
    let block = whole_block shape.block_size cell seen bytes by in
    let same : bytes_of (kept shape (Whole seen bytes)) ≡ bytes = given_found shape.block_size bytes no_slot block.fits in
    subst (λ (bs : List ℕ). get_or bs p 0 < 256) (sym same) (from_all bytes block.are p)

-- ---- readings of all stripes, in their order

module _ (start : TableValue) (trees : List Tree) (bare : (stripe : ℕ) → info_at start.infos stripe ≡ no_info) where
  abbrev pub all_read : List StripeReading
  all_read = readings_by start trees (pending_stripes start.infos)

  abbrev pub row_at : ℕ → Row
  row_at s = row_of (reading_by start trees s)

  as_many : length (pending_stripes start.infos) ≡ length start.infos
  as_many = ap length (pending_all start.infos bare) ∙ length-range_with_len 0 (length start.infos)

  pub many_read : length all_read ≡ length start.infos
  many_read = length-map (pending_stripes start.infos) (reading_by start trees) ∙ as_many

  reading_at : (s : ℕ) → s < length start.infos → (e : StripeReading) → get_or all_read s e ≡ reading_by start trees s
  reading_at s below e =
      get_or-map (reading_by start trees) (pending_stripes start.infos) s 0 e (omega (arith, below, as_many))
      ∙ ap (reading_by start trees) (ap (λ (ns : List ℕ). get_or ns s 0) (pending_all start.infos bare)
      ∙ (in_range (length start.infos) s (omega (arith, below, length-range_with_len 0 (length start.infos)))).0)

  stripe_at : (s : ℕ) → s < length start.infos → (e : StripeReading) → (get_or all_read s e).stripe ≡ s
  stripe_at s below e = ap (λ (r : StripeReading). r.stripe) (reading_at s below e)

  distinct : AllPairs (λ (a b : StripeReading). a.stripe ≢ b.stripe) all_read
  distinct i j d less below same =
      let first = stripe_at i (omega (arith, less, below, many_read)) d in
      let second = stripe_at j (omega (arith, below, many_read)) d in
      omega (arith, less, first, second, same)

  slot_is : (s d : ℕ) → d < length start.columns → slot_of d (reading_by start trees s) ≡ slot_by start trees s d
  slot_is s d below = get_or-map-range_with_len (slot_by start trees s) 0 (length start.columns) d d no_slot below (omega arith)

  module _ (leaves : LeavesTheOthers) (gives : GivesItsHashes) (verified : AllVerified start all_read) (now : ℕ) where
    abbrev table : TableValue
    table = closed now start all_read

    pub verified_at : (s : ℕ) → s < length start.infos → is_verified start (reading_by start trees s) ≡ true
    verified_at s below = subst (λ (r : StripeReading). is_verified start r ≡ true) (reading_at s below no_reading) (verified s no_reading (omega (arith, below, many_read)))

    view_is : (s : ℕ) → s < length start.infos → stripe_view table s ≡ view_closed now (reading_by start trees s) (stripe_view start s)
    view_is s below =
        let within : (get_or all_read s no_reading).stripe < length start.infos = omega (arith, below, stripe_at s below no_reading) in
        let inside : s < length all_read = omega (arith, below, many_read) in
        subst (λ (r : StripeReading). stripe_view table r.stripe ≡ (if is_verified start r then view_closed now r (stripe_view start r.stripe) else stripe_view start r.stripe))
        (reading_at s below no_reading) (view_read leaves start now gives all_read start s no_reading distinct inside within)
        ∙ ap (λ (b : Bool). if b then view_closed now (reading_by start trees s) (stripe_view start s) else stripe_view start s) (verified_at s below)

    row_is : (s : ℕ) → s < length start.infos → rows_of start all_read s ≡ Some (row_at s)
    row_is s below =
        let inside : s < length all_read = omega (arith, below, many_read) in
        subst (λ (r : StripeReading). rows_of start all_read r.stripe ≡ Some (row_of r)) (reading_at s below no_reading)
        (row_read start all_read no_rows s no_reading distinct inside (verified s no_reading inside))

    pub long_table : length table.infos ≡ length start.infos
    long_table = infos_closed start now all_read start

    pub synced_at : (s : ℕ) → s < length table.infos → IsSynced table s
    synced_at s within = record { within = within; mark = ap (λ (view : StripeView). view.info.mark) (view_is s (omega (arith, within, long_table))) }

    -- its cells have the hashes of what was read
    pub seen_is : (s d : ℕ) → s < length start.infos → d < length start.columns → seen_in table s d ≡ view_with (slot_by start trees s d).digest (cell_view (column_at start.columns d) s)
    seen_is s d within below =
        let reading : StripeReading = reading_by start trees s in
        let there : d < length reading.slots = omega (arith, below, length-map-range_with_len (slot_by start trees s) 0 (length start.columns)) in
        let below_then : d < length table.columns = omega (arith, below, columns_closed_by start now all_read start) in
        sym (get_or-map (λ (column : Column). cell_view column s) table.columns d no_column None below_then)
        ∙ ap (λ (view : StripeView). get_or view.cells d None) (view_is s within)
        ∙ view_in (digests_of reading) (views_at s start.columns) d
        ∙ ap₂ (λ (digest : Option Digest16) (seen : Option CellView). view_with digest seen)
        (get_or-map (λ (slot : SlotValue). slot.digest) reading.slots d no_slot None there ∙ ap (λ (slot : SlotValue). slot.digest) (slot_is s d below))
        (get_or-map (λ (column : Column). cell_view column s) start.columns d no_column None below)

    module _ (finds : FindsCells) (olds news : List FolderView) (read : AreRead start all_read olds news) (folders : length olds ≡ length start.columns) where
      stripe_read : (s : ℕ) → s < length start.infos → IsStripeRead start olds news (reading_by start trees s)
      stripe_read s below = subst (IsStripeRead start olds news) (reading_at s below no_reading) (stripes_read start all_read olds news read folders s no_reading (omega (arith, below, many_read)))

      row_was : (s : ℕ) → s < length start.infos → IsRowOf start.shape (view_closed now (reading_by start trees s) (stripe_view start s)) (row_at s)
      row_was s below = row_closes finds start olds news (reading_by start trees s) (stripe_read s below) (verified_at s below) now

      -- the rows are of bytes
      pub row_bytes : (s : ℕ) → s < length start.infos → AreRowBytes (row_at s)
      row_bytes s below c p =
          let reading : StripeReading = reading_by start trees s in
          ⊎_elim
          (λ inside.
          let its : IsStripeRead start olds news reading = stripe_read s below in
          let few : c < length start.columns = omega (arith, inside, its.wide) in
          let cell = its.cells c few in
          let block : get_or (row_at s) c [] ≡ bytes_of (kept start.shape cell.reading) = get_or-map bytes_of reading.slots c no_slot [] inside ∙ ap bytes_of cell.is_kept in
          subst (λ (bs : List ℕ). get_or bs p 0 < 256) (sym block)
          (block_bytes start.shape (cell_view (column_at start.columns c) s) cell.reading (subst (λ (task : Task). IsReadingBy task cell.reading) (task_seen finds start c s) cell.is_of.by) p))
          (λ past. subst (λ (bs : List ℕ). get_or bs p 0 < 256) (sym (get_or_past (row_at s) c [] (omega (arith, past, length-map reading.slots bytes_of)))) (omega arith))
          (cases_lt c (length reading.slots))

      same_shape : table.shape ≡ start.shape
      same_shape = shape_closed start now all_read start

      -- a synced stripe has the recorded hashes of its row
      pub row_there : (s : ℕ) → IsSynced table s → IsRowOf table.shape (stripe_view table s) (row_at s)
      row_there s synced =
          let below : s < length start.infos = omega (arith, synced.within, long_table) in
          subst (λ (shape : Shape). IsRowOf shape (stripe_view table s) (row_at s)) (sym same_shape) (subst (λ (view : StripeView). IsRowOf start.shape view (row_at s)) (sym (view_is s below)) (row_was s below))

      -- so the table is sound, with nothing changed from outside
      pub sound_by : (files : Files) → HoldsRows start.shape.levels start.shape.block_size (rows_of start all_read) files → Sound table files (λ s. row_at s ∷ []) (λ stripe level. false)
      sound_by files holds = record {
        was_closed = λ s synced. one_more (row_at s) [];
        rows = rows_by table (λ s. row_at s ∷ []) (λ s synced. row_has_cells table.shape (stripe_view table s) (row_at s) (row_there s synced));
        sums = λ s level synced within unchanged.
            let below : s < length start.infos = omega (arith, synced.within, long_table) in
            let inside : level < start.shape.levels = omega (arith, within, ap (λ (shape : Shape). shape.levels) same_shape) in
            subst (λ (shape : Shape). HasLevel shape.block_size level s (row_at s) (parity_of files level)) (sym same_shape) (holds.level level s (row_at s) inside (row_is s below));
      }
