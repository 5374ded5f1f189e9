-- A cell of a column whose tree is the one that the sync read is not damaged.
use Rattle.std.proofs.Common.{◌≡◌, ◌≢◌, ℕ, ◌+◌, ◌*◌, ◌<◌, ◌==◌, ◌&&◌, nat_le, List, [], ◌∷◌, length, map, get_or, take, drop, cond, not, Bool, true, false, if◌then◌else◌, Option, None, Some, is_some, refl, sym, ap, ap₂, ◌∙◌, subst, arith}
use Rattle.std.specs.Prelude.{bytes_eq}
use Rattle.std.specs.Cmp.Lexicographic.{nat_list_cmp_total}
use Rattle.std.specs.FinMap as finite
use Rattle.std.specs.FinMap.{find, get-entries}
use Rattle.std.specs.Option.{option_map}
use Rattle.std.specs.Ordering.{is_eq}
use Rattle.std.specs.declared.cmp.Ordering.{Ordering}
use Rattle.std.specs.declared.cmp.Ordering.TheVariants.{Less, Equal, Greater}
use Rattle.std.proofs.lemmas.Cmp.{tied_itself}
use Rattle.std.proofs.lemmas.Bool.{and_parts}
use Rattle.std.proofs.lemmas.Bool.Decides.{Decides-eqb}
use Rattle.std.proofs.lemmas.List.{get_or-drop, get_or-map, get_or-take, length-drop, length-take}
use Rattle.std.proofs.lemmas.List.FromFn.{get_or-map-range_with_len, length-map-range_with_len}
use Rattle.std.proofs.lemmas.Slice.Eq.{bytes_eq-Decides}
use Rattle.array_scan.proofs.LostLemmas.{same_is}
use Rattle.folder_listing.specs.Kept.{ListedFile}
use Rattle.block_hash.specs.Hash.{hash}
use Rattle.block_hash.specs.declared.Digest16.{Digest16}
use Rattle.cauchy.specs.Matrix.{byte_of}
use Rattle.disk_model.specs.Bytes.{read_from}
use Rattle.disk_model.specs.Tree.{File, Tree, file_of, listing_of, meta_of, path_of}
use Rattle.disk_model.specs.declared.meta.Meta.{Meta}
use Rattle.disk_model.proofs.TreeLemmas.{own_name}
use Rattle.file_table.specs.Cells.{CellView, cell_in, cell_seen, cell_view}
use Rattle.file_table.specs.Closing.{DiffersInHashesAndInfos}
use Rattle.file_table.specs.Table.{Column, Record, TableValue, column_at, no_record, records_in}
use Rattle.file_table.specs.declared.block.Cell.{Cell}
use Rattle.file_table.specs.declared.shape.Shape.{Shape}
use Rattle.parity_writer.specs.Keeps.{HasByte}
use Rattle.parity_writer.specs.WindowRow.{bytes_of}
use Rattle.snap_exercise.proofs.HeldLemmas.{held_slot}
use Rattle.snap_exercise.proofs.SeenLemmas.{KeptAlike}
use Rattle.snap_sync.specs.Part.{reading_by, slot_by, tree_at}
use Rattle.snap_sync.proofs.CellLemmas.{FindsCells, IsWhole, seen_task, task_seen, whole_of}
use Rattle.snap_sync.proofs.GivenLemmas.{right_in}
use Rattle.snap_sync.proofs.SeenLemmas.{view_with}
use Rattle.snap_sync.proofs.TasksLemmas.{task_at-same}
use Rattle.block_hash.specs.declared.Kind.{Kind}
use Rattle.stripe_examiner.specs.Facts.{is_damaged}
use Rattle.stripe_reader.specs.Agreeing.{matches_digest}
use Rattle.stripe_examiner.proofs.CellFactsLemmas.{given_found}
use Rattle.repair_scope.proofs.LookUpLemmas.{tied_paths}
use Rattle.repair_scope.specs.Listed.{path_cmp}
use Rattle.repair_scope.specs.Blocked.{found_in}
use Rattle.stripe_examiner.specs.Place.{start_by, start_of, column_starts, starts_of}
use Rattle.repair_scope.specs.Plan.{seen_in}
use Rattle.stripe_findings.specs.Reading.{agrees, is_recorded, is_right, is_seen, is_verified, row_of, slot_of}
use Rattle.stripe_reader.specs.Reading.{Beyond, CellReading, Fetch, Gone, Known, NoBlock, Part, Task, Whole, block_length, came, cell_task, file_task, given_by, given_of, task_at}
use Rattle.stripe_reader.specs.Slot.{kept}
use Rattle.stripe_reader.specs.SlotValue.{SlotValue}
use Rattle.stripe_reader.specs.Starts.{StartsValue, no_start, recorded_starts, start_in, starts_at}
use Rattle.stripe_reader.specs.WindowValue.{no_slot}
use Rattle.stripe_reader.specs.declared.starts.Place.TheVariants as place
use Rattle.stripe_reader.specs.declared.starts.Start.{Start}

-- ---- what is found in the listing of a tree is what the tree holds

same_test : (path key : List ℕ) → bytes_eq key path ≡ is_eq (path_cmp path key)
same_test path key = by (path_cmp path key) refl
  where
    not_same : path_cmp path key ≢ Equal → (b : Bool) → bytes_eq key path ≡ b → bytes_eq key path ≡ false
    not_same apart true is =
        let same : key ≡ path = (bytes_eq-Decides key path).0 is in
        absurd (apart (subst (λ (p : List ℕ). path_cmp path p ≡ Equal) (sym same) (tied_itself nat_list_cmp_total path)))
    not_same apart false is = is

    by : (o : Ordering) → path_cmp path key ≡ o → bytes_eq key path ≡ is_eq o
    by Less at = not_same (λ tied. let clash : Less ≡ Equal = sym at ∙ tied in cc) (bytes_eq key path) refl
    by Equal at = (bytes_eq-Decides key path).1 (sym (tied_paths path key at))
    by Greater at = not_same (λ tied. let clash : Greater ≡ Equal = sym at ∙ tied in cc) (bytes_eq key path) refl

found_entries : (entries : List (List ℕ × File)) (path : List ℕ) → found_in (map (λ (e : List ℕ × File). (e.0, meta_of e.1)) entries) path ≡ option_map meta_of (find path_cmp path entries)
found_entries [] path = refl
found_entries (e ∷ entries) path =
    ap (λ (b : Bool). cond b (Some (meta_of e.1)) (found_in (map (λ (x : List ℕ × File). (x.0, meta_of x.1)) entries) path)) (same_test path e.0)
    ∙ by (is_eq (path_cmp path e.0)) (found_entries entries path)
  where
    by : (b : Bool) → found_in (map (λ (x : List ℕ × File). (x.0, meta_of x.1)) entries) path ≡ option_map meta_of (find path_cmp path entries)
        → cond b (Some (meta_of e.1)) (found_in (map (λ (x : List ℕ × File). (x.0, meta_of x.1)) entries) path) ≡ option_map meta_of (cond b (Some e.1) (find path_cmp path entries))
    by true more = refl
    by false more = more

pub found_tree : (tree : Tree) (path : List ℕ) → found_in (listing_of tree) path ≡ option_map meta_of (file_of tree path)
found_tree tree path = found_entries (finite.entries tree) path ∙ ap (option_map meta_of) (sym (get-entries tree path))

-- ---- a block that came whole

-- it is of a file that stands there as it was seen, and has the length that was asked for
pub record CameOf (found : Option File) (at n : ℕ) (seen : Meta) (bytes : List ℕ) : Type 0 where
  pub file : File
  pub there : found ≡ Some file
  pub seen_is : meta_of file ≡ seen
  pub bytes_are : bytes ≡ read_from file.bytes at n
  pub long : length bytes ≡ n

came_whole : (file : File) (at n : ℕ) (seen : Meta) (bytes : List ℕ) → came (meta_of file) n (read_from file.bytes at n) ≡ Whole seen bytes → CameOf (Some file) at n seen bytes
came_whole file at n seen bytes is = by (length (read_from file.bytes at n) == n) refl is
  where
    by : (b : Bool) → (length (read_from file.bytes at n) == n) ≡ b
        → (if b then Whole (meta_of file) (read_from file.bytes at n) else Part (meta_of file) (length (read_from file.bytes at n))) ≡ Whole seen bytes → CameOf (Some file) at n seen bytes
    by true long same =
        let whole : Whole (meta_of file) (read_from file.bytes at n) ≡ Whole seen bytes = same in
        let bytes_are : bytes ≡ read_from file.bytes at n = cc in
        let seen_is : meta_of file ≡ seen = cc in
        record {
          file = file;
          there = refl;
          seen_is = seen_is;
          bytes_are = bytes_are;
          long = ap (λ (bs : List ℕ). length bs) bytes_are ∙ (Decides-eqb (length (read_from file.bytes at n)) n).0 long;
        }
    by false long same = let clash : Part (meta_of file) (length (read_from file.bytes at n)) ≡ Whole seen bytes = same in absurd cc

pub given_came : (found : Option File) (at n : ℕ) (seen : Meta) (bytes : List ℕ) → given_of found at n ≡ Whole seen bytes → CameOf found at n seen bytes
given_came None at n seen bytes is = let clash : Gone None ≡ Whole seen bytes = is in absurd cc
given_came (Some file) at n seen bytes is = came_whole file at n seen bytes is

plain_came : (size : ℕ) (path : List ℕ) (at n : ℕ) (tree : Tree) (seen : Meta) (bytes : List ℕ) → given_by tree (file_task place.Plain size path at n) ≡ Whole seen bytes
    → CameOf (file_of tree (path_of path false)) at n seen bytes
plain_came size path at n tree seen bytes is = by (nat_le (at + n) size) is
  where
    by : (b : Bool) → given_by tree (if b then Fetch path false at n else Known Beyond) ≡ Whole seen bytes → CameOf (file_of tree (path_of path false)) at n seen bytes
    by true it = given_came (file_of tree (path_of path false)) at n seen bytes it
    by false it = let clash : Beyond ≡ Whole seen bytes = it in absurd cc

-- its bytes are the file's there
pub read_byte : (file : List ℕ) (at n p : ℕ) (bytes : List ℕ) → bytes ≡ read_from file at n → length bytes ≡ n → p < n → HasByte file (at + p) (get_or bytes p 0)
read_byte file at n p bytes is long below =
    let cut : length (take n (drop at file)) ≡ n = sym (ap (λ (bs : List ℕ). length bs) is) ∙ long in
    record {
      within = omega (arith, below, cut, length-take n (drop at file), length-drop at file);
      is = sym (ap (λ (bs : List ℕ). get_or bs p 0) is ∙ get_or-take n (drop at file) p 0 below ∙ get_or-drop at file p 0);
    }

-- ---- a cell

none_damaged : (kind : Kind) (digest : Option Digest16) (slot : SlotValue) → is_damaged kind (view_with digest None) slot ≡ false
none_damaged kind None slot = refl
none_damaged kind (Some given) slot = refl

module _ (finds : FindsCells) (start table : TableValue) (differs : DiffersInHashesAndInfos start table) (trees others : List Tree) (lists : List (List ListedFile)) (d stripe : ℕ) (below : d < length start.columns)
    (listed : get_or lists d [] ≡ listing_of (tree_at trees d)) (same : tree_at others d ≡ tree_at trees d) (verified : is_verified start (reading_by start trees stripe) ≡ true)
    (seen_is : seen_in table stripe d ≡ view_with (slot_by start trees stripe d).digest (cell_view (column_at start.columns d) stripe)) where
  abbrev column : Column
  column = column_at start.columns d

  abbrev size : ℕ
  size = start.shape.block_size

  abbrev read : SlotValue
  read = slot_by start trees stripe d

  abbrev tree : Tree
  tree = tree_at trees d

  abbrev starts : StartsValue
  starts = starts_of table lists

  slot_is : slot_of d (reading_by start trees stripe) ≡ read
  slot_is = get_or-map-range_with_len (slot_by start trees stripe) 0 (length start.columns) d d no_slot below (omega arith)

  right : is_right (cell_view column stripe) read ≡ true
  right = ap (λ (slot : SlotValue). is_right (cell_view column stripe) slot) (sym slot_is) ∙ right_in start (reading_by start trees stripe) verified d below

  module _ (cell : Cell) (is : cell_in column stripe ≡ Some cell) where
    abbrev here : CellView
    here = cell_seen column cell

    abbrev reading : CellReading
    reading = given_by tree (seen_task size (Some here))

    view : cell_view column stripe ≡ Some here
    view = ap (option_map (cell_seen column)) is

    recorded : is_recorded here.meta read ≡ true
    recorded = (and_parts (is_recorded here.meta read) (agrees here.hash read.digest) (ap (λ (v : Option CellView). is_right v read) (sym view) ∙ right)).0

    read_is : read ≡ kept start.shape reading
    read_is = ap (λ (task : Task). kept start.shape (given_by tree task)) (task_seen finds start d stripe ∙ ap (seen_task size) view)

    whole : IsWhole reading
    whole = whole_of start.shape reading (ap (λ (slot : SlotValue). is_some slot.digest) (sym read_is) ∙ (and_parts (is_some read.digest) (is_seen here.meta read.cell.seen) recorded).0)

    kept_is : read ≡ kept start.shape (Whole whole.seen whole.bytes)
    kept_is = read_is ∙ ap (kept start.shape) whole.is

    size_is : whole.seen.size ≡ here.meta.size
    size_is = ap (λ (meta : Meta). meta.size) (same_is whole.seen here.meta (ap (λ (slot : SlotValue). is_seen here.meta slot.cell.seen) (sym kept_is) ∙ (and_parts (is_some read.digest) (is_seen here.meta read.cell.seen) recorded).1))

    its_file : CameOf (file_of tree (path_of here.path false)) (here.index * size) (block_length size here.meta.size here.index) whole.seen whole.bytes
    its_file = plain_came here.meta.size here.path (here.index * size) (block_length size here.meta.size here.index) tree whole.seen whole.bytes whole.is

    found_is : found_in (listing_of tree) here.path ≡ Some whole.seen
    found_is = found_tree tree here.path ∙ ap (λ (path : List ℕ). option_map meta_of (file_of tree path)) (sym (own_name here.path))
        ∙ ap (option_map meta_of) its_file.there ∙ ap (λ (meta : Meta). Some meta) its_file.seen_is

    -- its block of the row is that of the file
    pub row_byte : (file : File) → file_of tree (path_of here.path false) ≡ Some file → (p : ℕ) → p < block_length size here.meta.size cell.index
        → byte_of (row_of (reading_by start trees stripe)) d p ≡ get_or file.bytes (cell.index * size + p) 0
    row_byte file stands p inner =
        let slots : List SlotValue = (reading_by start trees stripe).slots in
        let there : d < length slots = omega (arith, below, length-map-range_with_len (slot_by start trees stripe) 0 (length start.columns)) in
        let both : Some its_file.file ≡ Some file = sym its_file.there ∙ stands in
        let one : its_file.file ≡ file = cc in
        let bytes_are : whole.bytes ≡ read_from file.bytes (here.index * size) (block_length size here.meta.size here.index)
        = its_file.bytes_are ∙ ap (λ (it : File). read_from it.bytes (here.index * size) (block_length size here.meta.size here.index)) one in
        let block : get_or (row_of (reading_by start trees stripe)) d [] ≡ whole.bytes
        = get_or-map bytes_of slots d no_slot [] there ∙ ap bytes_of (slot_is ∙ kept_is) ∙ given_found size whole.bytes no_slot (omega (arith, its_file.long)) in
        ap (λ (bs : List ℕ). get_or bs p 0) block ∙ sym (read_byte file.bytes (here.index * size) (block_length size here.meta.size here.index) p whole.bytes bytes_are its_file.long inner).is

    -- its file stands where it was recorded
    start_is : start_in (starts_at starts.columns d) cell.rec ≡ record { place = place.Plain; size = here.meta.size }
    start_is =
        let below_then : d < length table.columns = omega (arith, below, differs.columns) in
        let inside : cell.rec < length (records_in table d) = omega (arith, (finds column stripe cell is).within, (differs.files d).count) in
        ap (λ (its : List Start). start_in its cell.rec) (get_or-map-range_with_len (column_starts table lists) 0 (length table.columns) d d [] below_then (omega arith))
        ∙ get_or-map (λ (file : Record). start_of (get_or lists d []) file.path) (records_in table d) cell.rec no_record no_start inside
        ∙ ap (start_of (get_or lists d [])) ((differs.files d).path cell.rec)
        ∙ ap (λ (files : List ListedFile). start_of files here.path) listed
        ∙ ap (λ (found : Option Meta). start_by found (found_in (listing_of tree) (path_of here.path true))) found_is
        ∙ ap (λ (bytes : ℕ). let its : Start = record { place = place.Plain; size = bytes } in its) size_is

    task_is : task_at table starts d stripe ≡ seen_task size (Some here)
    task_is =
        task_at-same start table differs starts d stripe
        ∙ ap (cell_task size column (starts_at starts.columns d)) is
        ∙ ap (λ (its : Start). file_task its.place its.size here.path (here.index * size) (block_length size here.meta.size here.index)) start_is

    held_is : held_slot table lists others d stripe ≡ kept start.shape (Whole whole.seen whole.bytes)
    held_is =
        ap (λ (task : Task). kept table.shape (given_by (tree_at others d) task)) task_is
        ∙ ap (λ (t : Tree). kept table.shape (given_by t (seen_task size (Some here)))) same
        ∙ ap (λ (shape : Shape). kept shape reading) differs.shape
        ∙ ap (kept start.shape) whole.is

    abbrev digest : Digest16
    digest = record { 0 = hash start.shape.kind start.shape.seed whole.bytes }

    right_cell : (slot : SlotValue) → KeptAlike slot (held_slot table lists others d stripe) → is_damaged table.shape.kind (seen_in table stripe d) slot ≡ false
    right_cell slot alike =
        ap (λ (v : Option CellView). is_damaged table.shape.kind v slot) (seen_is ∙ ap₂ (λ (given : Option Digest16) (v : Option CellView). view_with given v) (ap (λ (its : SlotValue). its.digest) kept_is) view)
        ∙ ap (λ (given : Option Digest16). not (is_some given && matches_digest (Some digest) given)) (alike.digest ∙ ap (λ (its : SlotValue). its.digest) held_is)
        ∙ ap not ((bytes_eq-Decides digest.0 digest.0).1 refl)

  -- so what is held of it is what was read
  pub held_same : held_slot table lists others d stripe ≡ read
  held_same = by (cell_in column stripe) refl
    where
      by : (found : Option Cell) → cell_in column stripe ≡ found → held_slot table lists others d stripe ≡ read
      by None is =
          ap (λ (task : Task). kept table.shape (given_by (tree_at others d) task)) (task_at-same start table differs starts d stripe ∙ ap (cell_task size column (starts_at starts.columns d)) is)
          ∙ ap (λ (shape : Shape). kept shape NoBlock) differs.shape
          ∙ sym (ap (λ (found : Option Cell). kept start.shape (given_by tree (cell_task size column (starts_at (recorded_starts start).columns d) found))) is)
      by (Some cell) is = held_is cell is ∙ sym (kept_is cell is)

  by_cell : (found : Option Cell) → cell_in column stripe ≡ found → (slot : SlotValue) → KeptAlike slot (held_slot table lists others d stripe) → is_damaged table.shape.kind (seen_in table stripe d) slot ≡ false
  by_cell None is slot alike =
      ap (λ (v : Option CellView). is_damaged table.shape.kind v slot) (seen_is ∙ ap (view_with read.digest) (ap (option_map (cell_seen column)) is)) ∙ none_damaged table.shape.kind read.digest slot
  by_cell (Some cell) is slot alike = right_cell cell is slot alike

  pub undamaged : (slot : SlotValue) → KeptAlike slot (held_slot table lists others d stripe) → is_damaged table.shape.kind (seen_in table stripe d) slot ≡ false
  undamaged = by_cell (cell_in column stripe) refl
