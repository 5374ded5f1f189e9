-- Where files were only taken away, a block that comes whole is the one that was read before.
use Rattle.std.proofs.Common.{◌≡◌, ⊎_elim, ℕ, ◌+◌, ◌*◌, ◌<◌, ◌≤◌, ◌==◌, nat_le, List, [], length, map, get_or, Bool, true, false, if◌then◌else◌, Option, None, Some, is_some, IsTrue, refl, sym, ap, ◌∙◌, subst, arith}
use Rattle.std.specs.List.{range_with_len}
use Rattle.std.specs.Option.{option_map}
use Rattle.std.proofs.lemmas.Bool.{and_parts}
use Rattle.std.proofs.lemmas.Bool.Decides.{Decides-eqb}
use Rattle.std.proofs.lemmas.List.{get_or-map}
use Rattle.std.proofs.lemmas.List.FromFn.{get_or-map-range_with_len, length-map-range_with_len}
use Rattle.disk_model.specs.Bytes.{read_from}
use Rattle.disk_model.specs.Folder.{FolderView}
use Rattle.disk_model.specs.Tree.{File, Tree, file_of, meta_of, path_of}
use Rattle.disk_model.specs.declared.meta.Meta.{Meta}
use Rattle.file_restorer.specs.State.{place_by, place_in}
use Rattle.file_table.specs.Cells.{CellView, cell_in, cell_seen, cell_view}
use Rattle.file_table.specs.Closing.{DiffersInHashesAndInfos}
use Rattle.file_table.specs.Table.{Column, Record, TableValue, column_at, record_in}
use Rattle.file_table.specs.declared.block.Cell.{Cell}
use Rattle.parity_writer.specs.Parity.{Row}
use Rattle.parity_writer.specs.WindowRow.{bytes_of}
use Rattle.snap_sync.specs.Part.{reading_by, slot_by, tree_at}
use Rattle.snap_sync.proofs.CellLemmas.{FindsCells, IsWhole, seen_task, task_seen, whole_of}
use Rattle.snap_sync.proofs.GivenLemmas.{right_in}
use Rattle.snap_sync.proofs.TasksLemmas.{task_at-same}
use Rattle.stripe_examiner.proofs.CellFactsLemmas.{given_found}
use Rattle.stripe_findings.specs.Reading.{agrees, is_recorded, is_right, is_seen, slot_of}
use Rattle.stripe_reader.specs.Column.{IsReadingOf}
use Rattle.stripe_reader.specs.Reading.{Beyond, CellReading, Fetch, Gone, Known, NoBlock, Nowhere, Part, Task, Whole, block_length, came, cell_task, file_task, given_by, given_of, is_unread, task_at}
use Rattle.stripe_reader.specs.Slot.{kept}
use Rattle.stripe_reader.specs.SlotValue.{SlotValue}
use Rattle.stripe_reader.specs.Starts.{StartsValue, recorded_starts, start_in, starts_at}
use Rattle.stripe_reader.specs.WindowValue.{no_slot}
use Rattle.stripe_reader.specs.declared.starts.Place.{Place}
use Rattle.stripe_reader.specs.declared.starts.Place.TheVariants as place
use Rattle.stripe_reader.specs.declared.starts.Start.{Start}
use Rattle.snap_top.specs.Taken.{StandsOrIsGone}
use Rattle.snap_top.proofs.SyncedRows.{IsGivenRow}

-- ---- a block that came whole

-- it is of a file that stands there, and has the length that was asked for
pub record CameOf (found : Option File) (at n : ℕ) (bytes : List ℕ) : Type 0 where
  pub file : File
  pub there : found ≡ Some file
  pub bytes_are : bytes ≡ read_from file.bytes at n
  pub long : length bytes ≡ n

came_whole : (file : File) (at n : ℕ) (seen : Meta) (bytes : List ℕ) → came (meta_of file) n (read_from file.bytes at n) ≡ Whole seen bytes → CameOf (Some file) at n bytes
came_whole file at n seen bytes is = by (length (read_from file.bytes at n) == n) refl is
  where
    by : (b : Bool) → (length (read_from file.bytes at n) == n) ≡ b
        → (if b then Whole (meta_of file) (read_from file.bytes at n) else Part (meta_of file) (length (read_from file.bytes at n))) ≡ Whole seen bytes → CameOf (Some file) at n bytes
    by true long same =
        let whole : Whole (meta_of file) (read_from file.bytes at n) ≡ Whole seen bytes = same in
        let bytes_are : bytes ≡ read_from file.bytes at n = cc in
        record {
          file = file;
          there = refl;
          bytes_are = bytes_are;
          long = ap (λ (bs : List ℕ). length bs) bytes_are ∙ (Decides-eqb (length (read_from file.bytes at n)) n).0 long;
        }
    by false long same = let clash : Part (meta_of file) (length (read_from file.bytes at n)) ≡ Whole seen bytes = same in absurd cc

given_whole : (found : Option File) (at n : ℕ) (seen : Meta) (bytes : List ℕ) → given_of found at n ≡ Whole seen bytes → CameOf found at n bytes
given_whole None at n seen bytes is = let clash : Gone None ≡ Whole seen bytes = is in absurd cc
given_whole (Some file) at n seen bytes is = came_whole file at n seen bytes is

-- ---- the same file

plain_came : (size : ℕ) (path : List ℕ) (at n : ℕ) (tree : Tree) (seen : Meta) (bytes : List ℕ) → given_by tree (file_task place.Plain size path at n) ≡ Whole seen bytes
    → CameOf (file_of tree (path_of path false)) at n bytes
plain_came size path at n tree seen bytes is = by (nat_le (at + n) size) is
  where
    by : (b : Bool) → given_by tree (if b then Fetch path false at n else Known Beyond) ≡ Whole seen bytes → CameOf (file_of tree (path_of path false)) at n bytes
    by true it = given_whole (file_of tree (path_of path false)) at n seen bytes it
    by false it = let clash : Beyond ≡ Whole seen bytes = it in absurd cc

same_bytes : (stood : Place) (size size_then : ℕ) (path : List ℕ) (at n : ℕ) (old new : Tree) (seen seen_then : Meta) (bytes bytes_then : List ℕ) → stood ≡ place_in new path
    → StandsOrIsGone old new path → given_by new (file_task stood size path at n) ≡ Whole seen bytes → given_by old (file_task place.Plain size_then path at n) ≡ Whole seen_then bytes_then
    → bytes ≡ bytes_then
same_bytes place.Nowhere size size_then path at n old new seen seen_then bytes bytes_then stands taken now before = let clash : Nowhere ≡ Whole seen bytes = now in absurd cc
same_bytes place.Plain size size_then path at n old new seen seen_then bytes bytes_then stands taken now before =
    let here = plain_came size path at n new seen bytes now in
    let was = plain_came size_then path at n old seen_then bytes_then before in
    ⊎_elim
    (λ same.
    let files : Some here.file ≡ Some was.file = sym here.there ∙ same ∙ was.there in
    let one : here.file ≡ was.file = cc in
    here.bytes_are ∙ ap (λ (file : File). read_from file.bytes at n) one ∙ sym was.bytes_are)
    (λ gone. let clash : None ≡ Some here.file = sym gone.0 ∙ here.there in absurd cc)
    taken
same_bytes place.Lost size size_then path at n old new seen seen_then bytes bytes_then stands taken now before =
    let was = plain_came size_then path at n old seen_then bytes_then before in
    ⊎_elim
    (λ same. let clash : place.Lost ≡ place.Plain = stands ∙ ap (λ (found : Option File). place_by found (file_of new (path_of path true))) (same ∙ was.there) in absurd cc)
    (λ gone.
    let clash : place.Lost ≡ place.Nowhere
    = stands ∙ ap (λ (found : Option File). place_by found (file_of new (path_of path true))) gone.0 ∙ ap (λ (found : Option File). place_by None found) gone.1 in
    absurd cc)
    taken

-- ---- the block of a cell

-- the starts of a column are where the files of its records stand
abbrev pub StandThere : Column → List Start → Tree → Type 0
StandThere column starts tree = (i : ℕ) → i < length column.records → (start_in starts i).place ≡ place_in tree (record_in column i).path

module _ (finds : FindsCells) (start table : TableValue) (differs : DiffersInHashesAndInfos start table) (trees : List Tree) (starts : StartsValue) (first : FolderView) (d stripe : ℕ) (row : Row)
    (below : d < length start.columns) (told : IsTrue first.tells) (given : IsGivenRow start trees stripe row) (places : StandThere (column_at start.columns d) (starts_at starts.columns d) first.tree)
    (taken : (path : List ℕ) → StandsOrIsGone (tree_at trees d) first.tree path) where
  abbrev column : Column
  column = column_at start.columns d

  abbrev size : ℕ
  size = start.shape.block_size

  abbrev slot : SlotValue
  slot = slot_by start trees stripe d

  slot_is : slot_of d (reading_by start trees stripe) ≡ slot
  slot_is = get_or-map-range_with_len (slot_by start trees stripe) 0 (length start.columns) d d no_slot below (omega arith)

  row_is : get_or row d [] ≡ bytes_of slot
  row_is =
      let long : length (map (slot_by start trees stripe) (range_with_len 0 (length start.columns))) ≡ length start.columns = length-map-range_with_len (slot_by start trees stripe) 0 (length start.columns) in
      ap (λ (r : Row). get_or r d []) given.row_is
      ∙ get_or-map bytes_of (map (slot_by start trees stripe) (range_with_len 0 (length start.columns))) d no_slot [] (omega (arith, below, long))
      ∙ ap bytes_of slot_is

  -- what is asked of the folder for the cell
  abbrev task_of : Option Cell → Task
  task_of found = cell_task size column (starts_at starts.columns d) found

  module _ (reading : CellReading) (seen : Meta) (bytes : List ℕ) (is_of : IsReadingOf first (task_at table starts d stripe) reading) (whole : reading ≡ Whole seen bytes) where
    by_cell : (found : Option Cell) → cell_in column stripe ≡ found → IsReadingOf first (task_of found) reading → (get_or row d [] ≡ bytes) × (length bytes ≤ size)
    by_cell None is it = let clash : NoBlock ≡ Whole seen bytes = sym it.by ∙ whole in absurd cc
    by_cell (Some cell) is it =
        let file : Record = record_in column cell.rec in
        let stood : Start = start_in (starts_at starts.columns d) cell.rec in
        let n : ℕ = block_length size file.meta.size cell.index in
        let now : given_by first.tree (task_of (Some cell)) ≡ Whole seen bytes = sym (it.given told (ap is_unread whole)) ∙ whole in
        let here : CellView = cell_seen column cell in
        let view : cell_view column stripe ≡ Some here = ap (option_map (cell_seen column)) is in
        let right : is_right (Some here) slot ≡ true
        = ap (λ (v : Option CellView). is_right v slot) (sym view) ∙ ap (λ (s : SlotValue). is_right (cell_view column stripe) s) (sym slot_is) ∙ right_in start (reading_by start trees stripe) given.verified d below in
        let recorded = and_parts (is_recorded here.meta slot) (agrees here.hash slot.digest) right in
        let came = and_parts (is_some slot.digest) (is_seen here.meta slot.cell.seen) recorded.0 in
        let reading_then : CellReading = given_by (tree_at trees d) (seen_task size (Some here)) in
        let slot_then : slot ≡ kept start.shape reading_then
        = ap (λ (task : Task). kept start.shape (given_by (tree_at trees d) task)) (task_seen finds start d stripe ∙ ap (seen_task size) view) in
        let earlier : IsWhole reading_then = whole_of start.shape reading_then (ap (λ (s : SlotValue). is_some s.digest) (sym slot_then) ∙ came.0) in
        let same : bytes ≡ earlier.bytes
        = same_bytes stood.place stood.size file.meta.size file.path (cell.index * size) n (tree_at trees d) first.tree seen earlier.seen bytes earlier.bytes
        (places cell.rec (finds column stripe cell is).within) (taken file.path) now earlier.is in
        let of = plain_came file.meta.size file.path (cell.index * size) n (tree_at trees d) earlier.seen earlier.bytes earlier.is in
        let fits : length earlier.bytes ≤ size = omega (arith, of.long) in (
          row_is ∙ ap bytes_of (slot_then ∙ ap (kept start.shape) earlier.is) ∙ given_found size earlier.bytes no_slot fits ∙ sym same,
          subst (λ (bs : List ℕ). length bs ≤ size) (sym same) fits,
        )

    -- it is the block of the row
    pub is_in_row : (get_or row d [] ≡ bytes) × (length bytes ≤ size)
    is_in_row = by_cell (cell_in column stripe) refl
        (subst (λ (task : Task). IsReadingOf first task reading) (task_at-same start table differs starts d stripe) is_of)
