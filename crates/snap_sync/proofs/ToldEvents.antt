-- What a sync finds in a column whose folder tells its tree.
use Rattle.std.proofs.Common.{◌≡◌, ℕ, zero, suc, ◌+◌, ◌<◌, List, [], ◌∷◌, ◌++◌, length, get_or, true, false, Option, None, Some, IsTrue, refl, sym, ap, ◌∙◌, subst, arith}
use Rattle.std.specs.List.{All, flat_map, range_with_len}
use Rattle.std.specs.Option.{option_map}
use Rattle.std.proofs.lemmas.List.{get_or-map, get_or-append-add, length-append, length-map}
use Rattle.std.proofs.lemmas.List.Elements.{All-filter, All-nil}
use Rattle.std.proofs.lemmas.List.FromFn.{get_or-map-range_with_len, length-map-range_with_len}
use Rattle.folder_listing.specs.Kept.{ListedFile, is_kept, kept_files, kept_lists}
use Rattle.array_scan.specs.Layout.{layout}
use Rattle.folder_listing.specs.Listings.{Lists}
use Rattle.array_scan.specs.Own.{HoldsJust, own_files}
use Rattle.disk_model.specs.Folder.{FolderView}
use Rattle.disk_model.specs.Tree.{Tree, File, file_of, meta_of, listing_of, IsListing}
use Rattle.disk_model.specs.declared.meta.Meta.{Meta}
use Rattle.file_table.specs.Cells.{CellView, cell_in, cell_seen}
use Rattle.file_table.specs.Table.{Record, Column, TableValue, IsAt, block_count, column_at, record_in, no_column, no_record}
use Rattle.file_table.specs.Valid.{IsValid, IsWhole}
use Rattle.file_table.specs.declared.block.Cell.{Cell}
use Rattle.array_setup.specs.Setup.{SetupValue}
use Rattle.stripe_reader.specs.Columns.{folder_at}
use Rattle.stripe_reader.specs.Reading.{Task, given_by, task_at}
use Rattle.stripe_reader.specs.Slot.{kept}
use Rattle.stripe_reader.specs.SlotValue.{SlotValue}
use Rattle.stripe_reader.specs.Starts.{recorded_starts}
use Rattle.snap_sync.specs.Ended.{NotAChangedBlock}
use Rattle.stripe_findings.specs.Findings.{cell_events, events_at, stripe_events, events_of}
use Rattle.snap_sync.specs.Part.{SyncsListed}
use Rattle.stripe_findings.specs.Reading.{StripeReading, slot_of, is_unread, is_recorded}
use Rattle.snap_sync.proofs.CellLemmas.{FindsCells, IsCellRead, IsStripeRead, seen_task, stripes_read, task_seen}
use Rattle.snap_sync.proofs.ListFacts.{All-left}
use Rattle.snap_sync.proofs.PartLemmas.{length-layout}
use Rattle.snap_sync.proofs.ToldLemmas.{All-joined, IsTold, block_ends, block_not, given_recorded, told_of_listing, unread_kept}

-- what holds of all that each gives, holds of what one of them gives
All-at : {X A : Type 0} (P : A → Type 0) (f : X → List A) (xs : List X) (i j : ℕ) (d : X) (e : A) → All P (flat_map f xs) → i < length xs → j < length (f (get_or xs i d)) → P (get_or (f (get_or xs i d)) j e)
All-at P f [] i j d e all i_in j_in = absurd (omega (arith, i_in))
All-at P f (x ∷ xs) zero j d e all i_in j_in = All-left P (f x) (flat_map f xs) all j e j_in
All-at P f (x ∷ xs) (suc i) j d e all i_in j_in = All-at P f xs i j d e (λ k c within.
    let long : length (f x ++ flat_map f xs) ≡ length (f x) + length (flat_map f xs) = length-append (f x) (flat_map f xs) in
    subst P (get_or-append-add (f x) (flat_map f xs) k c) (all (length (f x) + k) c (omega (arith, within, long)))) (omega (arith, i_in)) j_in

-- a file that is told as it is listed
record IsHeld (tree : Tree) (path : List ℕ) (meta : Meta) : Type 0 where
  file : File
  held : file_of tree path ≡ Some file
  meta_is : meta_of file ≡ meta

held_by : (tree : Tree) (path : List ℕ) (meta : Meta) (found : Option File) → file_of tree path ≡ found → option_map meta_of found ≡ Some meta → IsHeld tree path meta
held_by tree path meta None is told = cc
held_by tree path meta (Some file) is told = record { file = file; held = is; meta_is = meta_same }
  where
    meta_same : meta_of file ≡ meta
    meta_same = cc

module _ (finds : FindsCells) (of_kept : (table : TableValue) (kept_of : List (List ListedFile)) → length kept_of ≡ length table.columns → HoldsJust (layout table kept_of) kept_of)
    (setup : SetupValue) (old start : TableValue) (read_all : List StripeReading) (olds mids news : List FolderView) (syncs : SyncsListed setup old start read_all olds mids news)
    (valid : IsValid start) (d : ℕ) (d_in : d < length olds) (told : IsTrue (folder_at olds d).tells) where
  abbrev lists : List (List ListedFile)
  lists = syncs.lists

  abbrev tree : Tree
  tree = (folder_at olds d).tree

  abbrev column : Column
  column = column_at start.columns d

  columns_long : length start.columns ≡ length olds
  columns_long = ap (λ (table : TableValue). length table.columns) syncs.start_is ∙ length-layout old (kept_lists setup lists) ∙ sym syncs.folders

  column_in : d < length start.columns
  column_in = omega (arith, d_in, columns_long)

  holds : HoldsJust start (kept_lists setup lists)
  holds = subst (λ (table : TableValue). HoldsJust table (kept_lists setup lists)) (sym syncs.start_is)
      (of_kept old (kept_lists setup lists) (length-map-range_with_len (λ (k : ℕ). kept_files setup k (get_or lists k [])) 0 (length lists) ∙ syncs.listed.as_many ∙ syncs.folders))

  listed : Lists (folder_at olds d) (folder_at mids d) (get_or lists d [])
  listed = syncs.listed.each d d_in

  -- the files of the column are of the tree
  own_are : own_files column.records ≡ kept_files setup d (listing_of tree)
  own_are = sym (holds.each d column_in)
      ∙ get_or-map-range_with_len (λ (k : ℕ). kept_files setup k (get_or lists k [])) 0 (length lists) d d [] (omega (arith, d_in, syncs.listed.as_many)) (zero_more d)
      ∙ ap (kept_files setup d) (listed.found told)
    where
      zero_more : (n : ℕ) → 0 + n ≡ n
      zero_more n = omega arith

  own_told : All (IsTold tree) (own_files column.records)
  own_told = subst (All (IsTold tree)) (sym own_are)
      (All-filter (is_kept setup d) (IsTold tree) (listing_of tree) (told_of_listing tree (subst IsListing (listed.found told) listed.listing)))

  record_held : (i : ℕ) → i < length column.records → IsHeld tree (record_in column i).path (record_in column i).meta
  record_held i within =
      let own : Record → ListedFile = λ (file : Record). (file.path, file.meta) in
      let long : length (own_files column.records) ≡ length column.records = length-map column.records own in
      let here : IsTold tree (own (record_in column i)) = subst (IsTold tree) (get_or-map own column.records i no_record (own no_record) within) (own_told i (own no_record) (omega (arith, within, long))) in
      held_by tree (record_in column i).path (record_in column i).meta (file_of tree (record_in column i).path) refl here

  record_whole : (i : ℕ) → i < length column.records → length (record_in column i).blocks ≡ block_count start.shape.block_size (record_in column i).meta.size
  record_whole i within = All-at (IsWhole start.shape.block_size) (λ (c : Column). c.records) start.columns d i no_column no_record valid.whole column_in within

  some_bytes : 0 < start.shape.block_size
  some_bytes = let least = valid.shape.block_size.least in omega (arith, least)

  module _ (reading : StripeReading) (read : IsStripeRead start mids news reading) where
    -- a block of it is as it was recorded, where the folder did not fail
    recorded_at : (cell : Cell) → cell_in column reading.stripe ≡ Some cell → is_unread (slot_of d reading).cell.found ≡ false → is_recorded (cell_seen column cell).meta (slot_of d reading) ≡ true
    recorded_at cell is came_all =
        let at : IsAt column reading.stripe cell.rec cell.index = finds column reading.stripe cell is in
        let one : IsCellRead start (folder_at mids d) (folder_at news d) d reading.stripe (slot_of d reading) = read.cells d column_in in
        let seen : CellView = cell_seen column cell in
        let task_is : task_at start (recorded_starts start) d reading.stripe ≡ seen_task start.shape.block_size (Some seen) =
        task_seen finds start d reading.stripe ∙ ap (λ (found : Option Cell). seen_task start.shape.block_size (option_map (cell_seen column) found)) is in
        let held : IsHeld tree (record_in column cell.rec).path (record_in column cell.rec).meta = record_held cell.rec at.within in
        let within : cell.index < block_count start.shape.block_size (record_in column cell.rec).meta.size = omega (arith, at.index_within, record_whole cell.rec at.within) in
        let given : one.reading ≡ given_by (folder_at mids d).tree (task_at start (recorded_starts start) d reading.stripe) =
        one.is_of.given (subst IsTrue (sym listed.call.called.goes_on.tells) told)
        (sym (unread_kept start.shape one.reading) ∙ subst (λ (slot : SlotValue). is_unread slot.cell.found ≡ false) one.is_kept came_all) in
        let recorded : is_recorded seen.meta (kept start.shape (given_by tree (seen_task start.shape.block_size (Some seen)))) ≡ true =
        given_recorded start.shape tree seen held.file held.held held.meta_is (block_ends start.shape.block_size (record_in column cell.rec).meta.size cell.index some_bytes within) in
        let slot_is : slot_of d reading ≡ kept start.shape (given_by tree (seen_task start.shape.block_size (Some seen))) =
        one.is_kept ∙ ap (kept start.shape) given
        ∙ ap (λ (t : Tree). kept start.shape (given_by t (task_at start (recorded_starts start) d reading.stripe))) (listed.call.tree told)
        ∙ ap (λ (task : Task). kept start.shape (given_by tree task)) task_is in
        subst (λ (slot : SlotValue). is_recorded seen.meta slot ≡ true) (sym slot_is) recorded

    cell_not : (j : ℕ) → All (NotAChangedBlock d) (events_at start reading j)
    cell_not j = by_cell (cell_in (column_at start.columns j) reading.stripe) refl
      where
        here : (i : ℕ) → d ≡ i → (cell : Cell) → cell_in (column_at start.columns i) reading.stripe ≡ Some cell → is_unread (slot_of i reading).cell.found ≡ false
            → is_recorded (cell_seen (column_at start.columns i) cell).meta (slot_of i reading) ≡ true
        here i same = subst (λ (k : ℕ). (cell : Cell) → cell_in (column_at start.columns k) reading.stripe ≡ Some cell → is_unread (slot_of k reading).cell.found ≡ false
            → is_recorded (cell_seen (column_at start.columns k) cell).meta (slot_of k reading) ≡ true) same recorded_at

        by_cell : (found : Option Cell) → cell_in (column_at start.columns j) reading.stripe ≡ found → All (NotAChangedBlock d) (cell_events reading.stripe j (column_at start.columns j) found (slot_of j reading))
        by_cell None is = All-nil (NotAChangedBlock d)
        by_cell (Some cell) is = block_not d reading.stripe j cell (cell_seen (column_at start.columns j) cell) (slot_of j reading) (λ same came_all. here j (sym same) cell is came_all)

    stripe_not : All (NotAChangedBlock d) (stripe_events start reading)
    stripe_not = All-joined (NotAChangedBlock d) (events_at start reading) (range_with_len 0 (length start.columns)) (λ k e within. cell_not (get_or (range_with_len 0 (length start.columns)) k e))

  pub told_not : (readings ahead : List StripeReading) → read_all ≡ readings ++ ahead → All (NotAChangedBlock d) (events_of start readings)
  told_not readings ahead is =
      let mids_long : length mids ≡ length start.columns = omega (arith, syncs.as_many, columns_long) in
      let every : All (IsStripeRead start mids news) read_all = stripes_read start read_all mids news syncs.reads.read mids_long in
      let each : All (IsStripeRead start mids news) readings = All-left (IsStripeRead start mids news) readings ahead (subst (All (IsStripeRead start mids news)) is every) in
      All-joined (NotAChangedBlock d) (stripe_events start) readings (λ k e within. stripe_not (get_or readings k e) (each k e within))
