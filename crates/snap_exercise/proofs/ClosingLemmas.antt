-- The sync of an exercise finds nothing, so it closes all its stripes.
use Rattle.std.proofs.Common.{◌≡◌, ◌↔◌, ℕ, zero, suc, ◌+◌, ◌*◌, ◌<◌, ◌==◌, List, [], ◌∷◌, ◌++◌, length, map, get_or, take, drop, cond, Bool, true, false, if◌then◌else◌, IsTrue, Option, None, Some, refl, ap, ap₂, ◌∙◌, subst, arith}
use Rattle.std.specs.Prelude.{All, count_by, nat_le, not}
use Rattle.std.specs.List.{flat_map, range_with_len}
use Rattle.std.proofs.lemmas.List.{get_or-append-add, get_or_append_left, get_or-map, length-append, length-map}
use Rattle.std.proofs.lemmas.List.FromFn.{get_or-map-range_with_len, length-range_with_len}
use Rattle.array_scan.specs.Fates.{origin}
use Rattle.folder_listing.specs.Kept.{kept_lists}
use Rattle.array_scan.specs.Layout.{all_sorted, column_laid, pending_stripes}
use Rattle.array_scan.specs.Laying.{bare, blocks_by, given, laid_records, needed}
use Rattle.block_hash.specs.declared.Digest16.{Digest16}
use Rattle.disk_model.specs.Bytes.{read_from}
use Rattle.disk_model.specs.declared.meta.Meta.{Meta}
use Rattle.disk_model.specs.Tree.{File, Tree, file_of, listing_of, meta_of, path_of}
use Rattle.file_table.specs.Cells.{CellView, cell_in, cell_seen}
use Rattle.file_table.specs.Table.{Column, Record, TableValue, block_in, block_count, column_at, no_block, no_record, record_in}
use Rattle.file_table.specs.Valid.{IsValid}
use Rattle.file_table.specs.declared.block.Cell.{Cell}
use Rattle.snap_exercise.specs.Exercise.{Summary}
use Rattle.snap_exercise.specs.Exercised.{Array, IsExercise, ClosesAll, IsSynced, NoneFailed, begun, readings_of, start_of}
use Rattle.snap_exercise.specs.Generated.{column_of, first_table, moment, names, setup, trees}
use Rattle.snap_exercise.proofs.AlikeLemmas.{in_range}
use Rattle.snap_exercise.proofs.LawLemmas.{IsLaidByTrees, IsReadByTrees, eight, is_end, readings_are, run, start_is, tells_at, told}
use Rattle.snap_fix.proofs.FixCountLemmas.{count_cons}
use Rattle.snap_report.specs.declared.events.Event.{Event}
use Rattle.snap_report.specs.declared.events.Event.TheVariants as event
use Rattle.snap_sync.specs.Ended.{IsEndOf, NotAChangedBlock}
use Rattle.snap_sync.specs.Part.{AllVerified, IsListedRun, SyncRun, reading_by, slot_by, tree_at}
use Rattle.snap_sync.specs.declared.syncing.SyncEnd.{SyncEnd}
use Rattle.stripe_findings.specs.Findings.{cell_events, events_at, events_of, silent_event, stripe_events, wrong_event}
use Rattle.stripe_findings.specs.Reading.{StripeReading, is_recorded, is_right, is_unread, is_verified, slot_of}
use Rattle.stripe_reader.specs.Columns.{folder_at}
use Rattle.stripe_reader.specs.Reading.{CellReading, NoBlock, Nowhere, Beyond, Unread, Gone, Part, Whole, Known, Fetch, block_length, cell_task, file_task, given_by, given_of, is_unread as is_not_read, task_at}
use Rattle.stripe_reader.specs.Slot.{kept}
use Rattle.stripe_reader.specs.SlotValue.{SlotValue}
use Rattle.stripe_reader.specs.Starts.{recorded_starts, start_in, starts_at}
use Rattle.stripe_reader.specs.WindowValue.{no_slot}
use Rattle.stripe_reader.specs.declared.starts.Start.{Start}
use Rattle.stripe_reader.specs.declared.starts.Place.{Place}
use Rattle.stripe_reader.specs.declared.starts.Place.TheVariants as place
use Rattle.file_table.specs.declared.shape.Shape.{Shape}

-- what snap_sync says of what a sync finds
abbrev pub FindsExactly : Type 0
FindsExactly = (table : TableValue) (reading : StripeReading) → (is_verified table reading ≡ true) ↔ (stripe_events table reading ≡ [])

abbrev pub CountsFindings : Type 0
CountsFindings = (start : TableValue) (now : ℕ) (readings : List StripeReading) (end : SyncEnd) → IsEndOf start now readings end → (end.findings ≡ 0) ↔ AllVerified start readings

abbrev pub CountsPending : Type 0
CountsPending = (start : TableValue) (now : ℕ) (readings : List StripeReading) (end : SyncEnd) → IsEndOf start now readings end
    → end.pending ≡ count_by (λ (reading : StripeReading). not (is_verified start reading)) readings

abbrev pub FindsNoChange : Type 0
FindsNoChange = (its : SyncRun) (d : ℕ) → IsListedRun its → IsValid its.plan.start → d < length its.folders → IsTrue (folder_at its.folders d).tells → All (NotAChangedBlock d) (events_of its.plan.start its.readings)

-- ---- a table that was empty is laid out without hashes

bare_hash : (positions : List ℕ) (index : ℕ) → (get_or (bare positions) index no_block).hash ≡ None
bare_hash [] index = refl
bare_hash (position ∷ positions) zero = refl
bare_hash (position ∷ positions) (suc index) = bare_hash positions index

by_hash : (source : Option ℕ) (free : List ℕ) (count index : ℕ) → (get_or (blocks_by [] free count source) index no_block).hash ≡ None
by_hash None free count index = bare_hash (take count free) index
by_hash (Some i) free count index = refl

laid_hash : (size : ℕ) (free : List ℕ) (files : List _) (i index : ℕ) → (block_in (get_or (laid_records size [] free files) i no_record) index).hash ≡ None
laid_hash size free [] i index = refl
laid_hash size free (file ∷ files) zero index = by_hash (origin file.fate) free (block_count size file.meta.size) index
laid_hash size free (file ∷ files) (suc i) index = laid_hash size (drop (needed size file) free) files i index

empty_at : (disks : List (List ℕ)) (d : ℕ) → (column_at (map column_of disks) d).records ≡ []
empty_at [] d = refl
empty_at (disk ∷ disks) zero = refl
empty_at (disk ∷ disks) (suc d) = empty_at disks d

start_hash : (n d i index : ℕ) → d < 8 → (block_in (record_in (column_at (start_of n).columns d) i) index).hash ≡ None
start_hash n d i index below =
    let files = all_sorted first_table (kept_lists setup (map listing_of (trees n))) in
    let column_is : column_at (start_of n).columns d ≡ column_laid first_table files d
    = get_or-map-range_with_len (column_laid first_table files) 0 8 d d (record { name = []; records = [] }) below (omega arith) in
    ap (λ (column : Column). (block_in (record_in column i) index).hash) column_is
    ∙ by_records (column_at first_table.columns d).records (empty_at names d) (given 1024 (column_at first_table.columns d) (get_or files d [])) (get_or files d [])
  where
    by_records : (records : List Record) → records ≡ [] → (free : List ℕ) (files : List _) → (block_in (get_or (laid_records 1024 records free files) i no_record) index).hash ≡ None
    by_records records none free files = ap (λ (rs : List Record). (block_in (get_or (laid_records 1024 rs free files) i no_record) index).hash) none ∙ laid_hash 1024 free files i index

-- ---- what trees give is read

came_read : (seen : Meta) (bytes : List ℕ) (b : Bool) → is_not_read (if b then Whole seen bytes else Part seen (length bytes)) ≡ false
came_read seen bytes true = refl
came_read seen bytes false = refl

of_read : (file : Option File) (at n : ℕ) → is_not_read (given_of file at n) ≡ false
of_read None at n = refl
of_read (Some file) at n = came_read (meta_of file) (read_from file.bytes at n) (length (read_from file.bytes at n) == n)

fetch_read : (tree : Tree) (path : List ℕ) (lost : Bool) (at n : ℕ) (b : Bool) → is_not_read (given_by tree (if b then Fetch path lost at n else Known Beyond)) ≡ false
fetch_read tree path lost at n true = of_read (file_of tree (path_of path lost)) at n
fetch_read tree path lost at n false = refl

file_read : (tree : Tree) (stood : Place) (size : ℕ) (path : List ℕ) (at n : ℕ) → is_not_read (given_by tree (file_task stood size path at n)) ≡ false
file_read tree place.Nowhere size path at n = refl
file_read tree place.Plain size path at n = fetch_read tree path false at n (nat_le (at + n) size)
file_read tree place.Lost size path at n = fetch_read tree path true at n (nat_le (at + n) size)

cell_read : (tree : Tree) (size : ℕ) (column : Column) (starts : List Start) (cell : Option Cell) → is_not_read (given_by tree (cell_task size column starts cell)) ≡ false
cell_read tree size column starts None = refl
cell_read tree size column starts (Some cell) =
    file_read tree (start_in starts cell.rec).place (start_in starts cell.rec).size (record_in column cell.rec).path (cell.index * size) (block_length size (record_in column cell.rec).meta.size cell.index)

found_read : (shape : Shape) (reading : CellReading) → is_unread (kept shape reading).cell.found ≡ is_not_read reading
found_read shape NoBlock = refl
found_read shape Nowhere = refl
found_read shape Beyond = refl
found_read shape (Unread seen) = refl
found_read shape (Gone seen) = refl
found_read shape (Part seen got) = refl
found_read shape (Whole seen bytes) = refl

pub slot_read : (table : TableValue) (those : List Tree) (stripe d : ℕ) → is_unread (slot_by table those stripe d).cell.found ≡ false
slot_read table those stripe d =
    found_read table.shape (given_by (tree_at those d) (task_at table (recorded_starts table) d stripe))
    ∙ cell_read (tree_at those d) table.shape.block_size (column_at table.columns d) (starts_at (recorded_starts table).columns d) (cell_in (column_at table.columns d) stripe)

-- ---- events among others

part_all : {X : Type 0} (P : Event → Type 0) (f : X → List Event) (xs : List X) (e : X) → All P (flat_map f xs) → (k : ℕ) → k < length xs → All P (f (get_or xs k e))
part_all P f [] e each k within = absurd (omega (arith, within))
part_all P f (x ∷ xs) e each zero within = λ i d below.
    subst P (get_or_append_left (f x) (flat_map f xs) d i below) (each i d (omega (arith, below, length-append (f x) (flat_map f xs))))
part_all P f (x ∷ xs) e each (suc k) within = part_all P f xs e
    (λ i d below. subst P (get_or-append-add (f x) (flat_map f xs) i d) (each (length (f x) + i) d (omega (arith, below, length-append (f x) (flat_map f xs))))) k (omega (arith, within))

-- ---- a cell has no event

no_silent : (stripe d : ℕ) (cell : Cell) (recorded got : Option Digest16) → recorded ≡ None → silent_event stripe d cell recorded got ≡ []
no_silent stripe d cell None got is = refl
no_silent stripe d cell (Some hash) got is = absurd (let clash : Some hash ≡ None = is in cc)

no_wrong : (unread recorded : Bool) (d : ℕ) (io silent : List Event) (stripe rec index : ℕ) (seen : Option Meta) (got : ℕ) → unread ≡ false → silent ≡ []
    → All (NotAChangedBlock d) (if unread then io else (if recorded then silent else event.ChangedBlock stripe d rec index seen got ∷ []))
    → (if unread then io else (if recorded then silent else event.ChangedBlock stripe d rec index seen got ∷ [])) ≡ []
no_wrong true recorded d io silent stripe rec index seen got read none each = absurd (let clash : true ≡ false = read in cc)
no_wrong false true d io silent stripe rec index seen got read none each = none
no_wrong false false d io silent stripe rec index seen got read none each = absurd (each 0 (event.ChangedBlock stripe d rec index seen got) (omega arith) refl)

if_right : (right : Bool) (d : ℕ) (wrong : List Event) → All (NotAChangedBlock d) (if right then [] else wrong) → (All (NotAChangedBlock d) wrong → wrong ≡ []) → (if right then [] else wrong) ≡ []
if_right true d wrong each none = refl
if_right false d wrong each none = none each

no_cell_events : (stripe d : ℕ) (column : Column) (cell : Option Cell) (slot : SlotValue) → is_unread slot.cell.found ≡ false → ((i index : ℕ) → (block_in (record_in column i) index).hash ≡ None)
    → All (NotAChangedBlock d) (cell_events stripe d column cell slot) → cell_events stripe d column cell slot ≡ []
no_cell_events stripe d column None slot read bare_all each = refl
no_cell_events stripe d column (Some cell) slot read bare_all each =
    let seen : CellView = cell_seen column cell in
    if_right (is_right (Some seen) slot) d (wrong_event stripe d cell seen slot) each
    (no_wrong (is_unread slot.cell.found) (is_recorded seen.meta slot) d (event.Io stripe d cell.rec cell.index ∷ []) (silent_event stripe d cell seen.hash slot.digest) stripe cell.rec cell.index slot.cell.seen slot.cell.got read
    (no_silent stripe d cell seen.hash slot.digest (bare_all cell.rec cell.index)))

pub flat_empty : (f : ℕ → List Event) (xs : List ℕ) → ((k : ℕ) → k < length xs → f (get_or xs k 0) ≡ []) → flat_map f xs ≡ []
flat_empty f [] each = refl
flat_empty f (x ∷ xs) each = ap₂ (λ (first rest : List Event). first ++ rest) (each 0 (omega arith)) (flat_empty f xs (λ k within. each (suc k) (omega (arith, within))))

none_counted : (p : StripeReading → Bool) (xs : List StripeReading) → All (λ (x : StripeReading). p x ≡ true) xs → count_by (λ (x : StripeReading). not (p x)) xs ≡ 0
none_counted p [] each = refl
none_counted p (x ∷ xs) each =
    let here : count_by (λ (y : StripeReading). not (p y)) (x ∷ []) ≡ 0 = ap (λ (b : Bool). 0 + cond (not b) 1 0) (each 0 x (omega arith)) in
    let rest : count_by (λ (y : StripeReading). not (p y)) xs ≡ 0 = none_counted p xs (λ k d below. each (suc k) d (omega (arith, below))) in
    omega (arith, count_cons (λ (y : StripeReading). not (p y)) x xs, here, rest)

-- ---- the sync

module _ (laid : IsLaidByTrees) (read : IsReadByTrees) (exactly : FindsExactly) (no_change : FindsNoChange) (n : ℕ) (new : Array) (end : SyncEnd) (done : IsSynced (begun n) new end) (well : NoneFailed new) where
  eight_columns : length (start_of n).columns ≡ 8
  eight_columns = length-map (range_with_len 0 8) (column_laid first_table (all_sorted first_table (kept_lists setup (map listing_of (trees n))))) ∙ length-range_with_len 0 8

  not_changed : (d : ℕ) → d < 8 → All (NotAChangedBlock d) (events_of (start_of n) (readings_of n))
  not_changed d below =
      let within : d < length (begun n).folders = omega (arith, below, eight laid read n new end done well) in
      subst (λ (rs : List StripeReading). All (NotAChangedBlock d) (events_of (start_of n) rs)) (readings_are laid read n new end done well)
      (subst (λ (t : TableValue). All (NotAChangedBlock d) (events_of t done.readings)) (start_is laid read n new end done well)
      (of_run within))
    where
      of_run : d < length (begun n).folders → All (NotAChangedBlock d) (events_of done.start done.readings)
      of_run within = no_change (run laid read n new end done well) d (told laid read n new end done well).of_lists done.laid.valid within (tells_at (trees n) d within)

  -- a reading is what the trees give
  none_found : (k : ℕ) (e : StripeReading) → k < length (readings_of n) → stripe_events (start_of n) (get_or (readings_of n) k e) ≡ []
  none_found k e within =
      let stripes : List ℕ = pending_stripes (start_of n).infos in
      let few : k < length stripes = omega (arith, within, length-map stripes (reading_by (start_of n) (trees n))) in
      let reading : StripeReading = reading_by (start_of n) (trees n) (get_or stripes k 0) in
      let it : get_or (readings_of n) k e ≡ reading = get_or-map (reading_by (start_of n) (trees n)) stripes k 0 e few in
      ap (stripe_events (start_of n)) it ∙ flat_empty (events_at (start_of n) reading) (range_with_len 0 (length (start_of n).columns)) (λ j inside.
      let at = in_range (length (start_of n).columns) j inside in
      let below : j < 8 = omega (arith, at.1, eight_columns) in
      let slot_is : slot_of j reading ≡ slot_by (start_of n) (trees n) (get_or stripes k 0) j
      = get_or-map-range_with_len (slot_by (start_of n) (trees n) (get_or stripes k 0)) 0 (length (start_of n).columns) j j no_slot at.1 (omega arith) in
      let among : All (NotAChangedBlock j) (events_at (start_of n) reading j)
      = subst (λ (r : StripeReading). All (NotAChangedBlock j) (events_at (start_of n) r j)) it
      (subst (λ (c : ℕ). All (NotAChangedBlock j) (events_at (start_of n) (get_or (readings_of n) k e) c)) at.0
      (part_all (NotAChangedBlock j) (events_at (start_of n) (get_or (readings_of n) k e)) (range_with_len 0 (length (start_of n).columns)) 0
      (part_all (NotAChangedBlock j) (stripe_events (start_of n)) (readings_of n) e (not_changed j below) k within) j inside)) in
      ap (events_at (start_of n) reading) at.0
      ∙ no_cell_events (get_or stripes k 0) j (column_at (start_of n).columns j) (cell_in (column_at (start_of n).columns j) (get_or stripes k 0)) (slot_of j reading)
      (ap (λ (slot : SlotValue). is_unread slot.cell.found) slot_is ∙ slot_read (start_of n) (trees n) (get_or stripes k 0) j)
      (λ i index. start_hash n j i index below) among)

  pub all_verified : AllVerified (start_of n) (readings_of n)
  all_verified k e within = (exactly (start_of n) (get_or (readings_of n) k e)).1 (none_found k e within)

pub closes_all : IsLaidByTrees → IsReadByTrees → FindsExactly → FindsNoChange → CountsFindings → CountsPending → (n : ℕ) (s : Summary) → IsExercise n s → ClosesAll s
closes_all laid read exactly no_change findings pending n s is =
    let verified : AllVerified (start_of n) (readings_of n) = all_verified laid read exactly no_change n is.course.after_sync is.synced is.course.sync is.course.sync_unfailed in
    let end : IsEndOf (start_of n) moment (readings_of n) is.synced = is_end laid read n is.course.after_sync is.synced is.course.sync is.course.sync_unfailed in
    record {
      findings = ap (λ (t : Summary). t.sync_findings) is.summary ∙ (findings (start_of n) moment (readings_of n) is.synced end).1 verified;
      pending = ap (λ (t : Summary). t.pending) is.summary ∙ pending (start_of n) moment (readings_of n) is.synced end ∙ none_counted (is_verified (start_of n)) (readings_of n) verified;
    }
