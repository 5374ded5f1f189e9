-- A cell that a fix found right, and that it does not write, is found right by the next fix after a stop.
use Rattle.std.proofs.Common.{◌≡◌, ⊎_elim, ℕ, ◌+◌, ◌-◌, ◌*◌, ◌/◌, ◌%◌, ◌<◌, ◌≤◌, ◌==◌, ◌&&◌, nat_le, List, [], ◌++◌, length, take, drop, get_or, not, is_some, Bool, true, false, if◌then◌else◌, Option, None, Some, refl, sym, ap, ap₂, ◌∙◌, subst, mul_comm, arith}
use Rattle.std.specs.Prelude.{Contains}
use Rattle.std.specs.Option.{option_map}
use Rattle.std.proofs.lemmas.Bool.{cases_eq, cases_lt, eq-eqb, leb-true, le-leb}
use Rattle.std.proofs.lemmas.List.{ext_get_or, get_or-drop, get_or-map, get_or-take, get_or_append_left, get_or_default, length-append, length-drop, length-map, length-take-le}
use Rattle.std.proofs.lemmas.List.FromFn.{get_or-map-range_with_len}
use Rattle.std.proofs.lemmas.Nat.{mul-le, row_fits}
use Rattle.folder_listing.proofs.JoinedLemmas.{all_of_flat}
use Rattle.folder_listing.specs.Kept.{ListedFile}
use Rattle.block_hash.specs.Hash.{hash}
use Rattle.block_hash.specs.declared.Digest16.{Digest16}
use Rattle.disk_model.specs.Bytes.{read_from}
use Rattle.disk_model.specs.Tree.{Tree, File, file_of, listing_of, meta_of, path_of}
use Rattle.disk_model.specs.declared.meta.Meta.{Meta}
use Rattle.file_table.specs.Cells.{CellView, cell_seen}
use Rattle.file_table.specs.Table.{Column, Record, TableValue, block_count, column_at, no_column, no_record, record_in, records_in}
use Rattle.file_table.specs.Valid.{IsWhole}
use Rattle.file_table.specs.declared.block.Cell.{Cell}
use Rattle.file_table.specs.declared.shape.Shape.{Shape}
use Rattle.file_table.proofs.CellInLemmas.{cell_in-Some}
use Rattle.file_restorer.specs.State.{bytes_or, bytes_placed, first_state, place_by, record_path}
use Rattle.stripe_reader.specs.Reading.{CellReading, NoBlock, Nowhere as NoFile, Beyond, Unread, Gone, Part, Whole, Known, Fetch, block_length, came, cell_task, file_task, given_by, given_of, is_unread, task_at}
use Rattle.stripe_reader.specs.Slot.{kept}
use Rattle.stripe_reader.specs.SlotValue.{SlotValue}
use Rattle.stripe_reader.specs.Starts.{no_start, start_in, starts_at}
use Rattle.stripe_reader.specs.declared.starts.Place.{Place}
use Rattle.stripe_reader.specs.declared.starts.Place.TheVariants.{Plain, Lost, Nowhere}
use Rattle.stripe_reader.specs.declared.starts.Start.{Start}
use Rattle.block_hash.specs.declared.Kind.{Kind}
use Rattle.stripe_reader.specs.Agreeing.{agrees, matches_digest}
use Rattle.stripe_examiner.specs.Facts.{StripeFacts, damaged_at, is_damaged, slot_of}
use Rattle.stripe_examiner.specs.Findings.{is_unread as is_not_found}
use Rattle.stripe_examiner.specs.Place.{start_of, column_starts, starts_of}
use Rattle.stripe_examiner.specs.Looking.{numbers_of}
use Rattle.repair_scope.specs.Plan.{FixPlan, cell_at, seen_at, seen_in, selects_cell}
use Rattle.stripe_examiner.specs.Present.{IsPresent}
use Rattle.stripe_examiner.specs.Showing.{known_block}
use Rattle.snap_fix.specs.Again.{IsFoundAgain, IsFoundIn, IsLookedAt}
use Rattle.snap_fix.specs.FixRun.{AreAscending}
use Rattle.snap_fix.specs.Fixing.{facts_of}
use Rattle.snap_fix.specs.Mended.{Mended, is_blocked_cell, is_repaired}
use Rattle.snap_fix.specs.Stopped.{FixStop, IsCellSpared, IsStop, StandsInCell, cell_length, file_or, file_placed, path_at, records_of}
use Rattle.snap_fix.proofs.FixStartLemmas.{stripes_ascending}
use Rattle.snap_fix.proofs.FixTreeLemmas.{untouched}
use Rattle.snap_fix.proofs.PlacedLemmas.{UnnamedStay}
use Rattle.snap_fix.proofs.PresentCellLemmas.{IsStartIn}
use Rattle.snap_fix.proofs.RestoredEvents.{contains_facts}
use Rattle.snap_fix.proofs.StoppedCellLemmas.{cell_stands}
use Rattle.snap_fix.proofs.StoppedLemmas.{bytes_stand}

-- ---- which file a start is of

some_same : {A : Type 0} (a b : A) → Some a ≡ Some b → a ≡ b
some_same a b same = cc

placed_bytes : (tree : Tree) (path : List ℕ) (file : File) → file_placed tree path ≡ Some file → bytes_placed tree path ≡ file.bytes
placed_bytes tree path file there = by (file_of tree (path_of path false)) (file_of tree (path_of path true)) there
  where
    by : (one other : Option File) → file_or one other ≡ Some file → bytes_or one (bytes_or other []) ≡ file.bytes
    by (Some found) other is = ap (λ (f : File). f.bytes) (some_same found file is)
    by None (Some found) is = ap (λ (f : File). f.bytes) (some_same found file is)
    by None None is = absurd (let clash : None ≡ Some file = is in cc)

listed_start : (plan : FixPlan) (lists : List (List ListedFile)) (d : ℕ) (tree : Tree) → d < length plan.table.columns → get_or lists d [] ≡ listing_of tree → (i : ℕ) → i < length (records_in plan.table d)
    → IsStartIn tree (record_path (records_in plan.table d) i) (start_in (starts_at (starts_of plan.table lists).columns d) i)
listed_start plan lists d tree within listed i below =
    let records = records_in plan.table d in
    let path = record_path records i in
    let column = starts_at (starts_of plan.table lists).columns d in
    let column_is : column ≡ column_starts plan.table lists d = get_or-map-range_with_len (column_starts plan.table lists) 0 (length plan.table.columns) d d [] within (omega arith) in
    let start_is : start_in column i ≡ start_of (listing_of tree) path =
    ap (λ (starts : List Start). get_or starts i no_start) column_is
    ∙ get_or-map (λ (kept : Record). start_of (get_or lists d []) kept.path) records i no_record no_start below
    ∙ ap (λ (files : List ListedFile). start_of files path) listed in
    let held = untouched tree path (start_in column i) (first_state (start_of (listing_of tree) path)) [] start_is refl refl in
    record { place = held.holds.place; size = ap (λ (start : Start). start.size) start_is ∙ held.size }

-- ---- what a place gives

-- a file in the place of PATH, long enough, has these bytes there
record Gives (tree : Tree) (path : List ℕ) (at n : ℕ) (bytes : List ℕ) : Type 0 where
  file : File
  there : file_placed tree path ≡ Some file
  long : at + n ≤ length file.bytes
  is : read_from file.bytes at n ≡ bytes

whole_came : (n : ℕ) (meta seen : Meta) (got bytes : List ℕ) (whole : Bool) → (if whole then Whole meta got else Part meta (length got)) ≡ Whole seen bytes → got ≡ bytes
whole_came n meta seen got bytes true is = let same : Whole meta got ≡ Whole seen bytes = is in cc
whole_came n meta seen got bytes false is = absurd (let clash : Part meta (length got) ≡ Whole seen bytes = is in cc)

given_whole : (o : Option File) (at n : ℕ) (seen : Meta) (bytes : List ℕ) → given_of o at n ≡ Whole seen bytes → (file : File) × (o ≡ Some file) × (read_from file.bytes at n ≡ bytes)
given_whole None at n seen bytes is = absurd (let clash : Gone None ≡ Whole seen bytes = is in cc)
given_whole (Some file) at n seen bytes is = (file, refl, whole_came n (meta_of file) seen (read_from file.bytes at n) bytes (length (read_from file.bytes at n) == n) is)

gives_of : (tree : Tree) (path : List ℕ) (at n : ℕ) (start : Start) (seen : Meta) (bytes : List ℕ) → IsStartIn tree path start → given_by tree (file_task start.place start.size path at n) ≡ Whole seen bytes → Gives tree path at n bytes
gives_of tree path at n start seen bytes fit is = by start.place refl is
  where
    size_is : (file : File) → file_placed tree path ≡ Some file → start.size ≡ length file.bytes
    size_is file there = fit.size ∙ ap (λ (bs : List ℕ). length bs) (placed_bytes tree path file there)

    fetched : (lost : Bool) → ((file : File) → file_of tree (path_of path lost) ≡ Some file → file_placed tree path ≡ Some file) → (fits : Bool) → nat_le (at + n) start.size ≡ fits
        → given_by tree (if fits then Fetch path lost at n else Known Beyond) ≡ Whole seen bytes → Gives tree path at n bytes
    fetched lost place true fits got =
        let found = given_whole (file_of tree (path_of path lost)) at n seen bytes got in
        let there : file_placed tree path ≡ Some found.0 = place found.0 found.1 in
        record {
          file = found.0;
          there = there;
          long = (let few : at + n ≤ start.size = leb-true (at + n) start.size fits in omega (arith, few, size_is found.0 there));
          is = found.2;
        }
    fetched lost place false fits got = absurd (let clash : Beyond ≡ Whole seen bytes = got in cc)

    plain_there : (one other : Option File) → place_by one other ≡ Plain → (file : File) → one ≡ Some file → file_or one other ≡ Some file
    plain_there (Some found) other place file is = is
    plain_there None (Some found) place file is = absurd (let clash : Lost ≡ Plain = place in cc)
    plain_there None None place file is = absurd (let clash : Nowhere ≡ Plain = place in cc)

    lost_there : (one other : Option File) → place_by one other ≡ Lost → (file : File) → other ≡ Some file → file_or one other ≡ Some file
    lost_there (Some found) other place file is = absurd (let clash : Plain ≡ Lost = place in cc)
    lost_there None other place file is = is

    by : (place : Place) → start.place ≡ place → given_by tree (file_task place start.size path at n) ≡ Whole seen bytes → Gives tree path at n bytes
    by Nowhere at_is got = absurd (let clash : NoFile ≡ Whole seen bytes = got in cc)
    by Plain at_is got = fetched false (plain_there (file_of tree (path_of path false)) (file_of tree (path_of path true)) (sym fit.place ∙ at_is)) (nat_le (at + n) start.size) refl got
    by Lost at_is got = fetched true (lost_there (file_of tree (path_of path false)) (file_of tree (path_of path true)) (sym fit.place ∙ at_is)) (nat_le (at + n) start.size) refl got

-- and back: such bytes are given, where there are so many
gives_back : (tree : Tree) (path : List ℕ) (at n : ℕ) (start : Start) (bytes : List ℕ) → IsStartIn tree path start → length bytes ≡ n → (gives : Gives tree path at n bytes)
    → given_by tree (file_task start.place start.size path at n) ≡ Whole (meta_of gives.file) bytes
gives_back tree path at n start bytes fit many gives =
    by (file_of tree (path_of path false)) (file_of tree (path_of path true)) refl refl gives.there
  where
    size_is : start.size ≡ length gives.file.bytes
    size_is = fit.size ∙ ap (λ (bs : List ℕ). length bs) (placed_bytes tree path gives.file gives.there)

    fits : nat_le (at + n) start.size ≡ true
    fits = le-leb (at + n) start.size (let long = gives.long in omega (arith, long, size_is))

    some : given_of (Some gives.file) at n ≡ Whole (meta_of gives.file) bytes
    some = ap (came (meta_of gives.file) n) gives.is ∙ ap (λ (b : Bool). if b then Whole (meta_of gives.file) bytes else Part (meta_of gives.file) (length bytes)) (eq-eqb (length bytes) n many)

    fetched : (lost : Bool) → file_of tree (path_of path lost) ≡ Some gives.file → given_by tree (if nat_le (at + n) start.size then Fetch path lost at n else Known Beyond) ≡ Whole (meta_of gives.file) bytes
    fetched lost is = ap (λ (b : Bool). given_by tree (if b then Fetch path lost at n else Known Beyond)) fits ∙ ap (λ (o : Option File). given_of o at n) is ∙ some

    by : (one other : Option File) → file_of tree (path_of path false) ≡ one → file_of tree (path_of path true) ≡ other → file_or one other ≡ Some gives.file
        → given_by tree (file_task start.place start.size path at n) ≡ Whole (meta_of gives.file) bytes
    by (Some found) other one_is other_is is =
        let place : start.place ≡ Plain = fit.place ∙ ap (λ (o : Option File). place_by o (file_of tree (path_of path true))) one_is in
        ap (λ (p : Place). given_by tree (file_task p start.size path at n)) place ∙ fetched false (one_is ∙ is)
    by None (Some found) one_is other_is is =
        let place : start.place ≡ Lost = fit.place ∙ ap₂ place_by one_is other_is in
        ap (λ (p : Place). given_by tree (file_task p start.size path at n)) place ∙ fetched true (other_is ∙ is)
    by None None one_is other_is is = absurd (let clash : None ≡ Some gives.file = is in cc)

-- ---- a reading with a digest

with_digest : (shape : Shape) (reading : CellReading) → is_some (kept shape reading).digest ≡ true → (seen : Meta) × (bytes : List ℕ) × (reading ≡ Whole seen bytes)
with_digest shape NoBlock is = absurd (let clash : false ≡ true = is in cc)
with_digest shape NoFile is = absurd (let clash : false ≡ true = is in cc)
with_digest shape Beyond is = absurd (let clash : false ≡ true = is in cc)
with_digest shape (Unread seen) is = absurd (let clash : false ≡ true = is in cc)
with_digest shape (Gone seen) is = absurd (let clash : false ≡ true = is in cc)
with_digest shape (Part seen got) is = absurd (let clash : false ≡ true = is in cc)
with_digest shape (Whole seen bytes) is = (seen, bytes, refl)

found_unread : (shape : Shape) (reading : CellReading) → is_not_found (kept shape reading).cell.found ≡ is_unread reading
found_unread shape NoBlock = refl
found_unread shape NoFile = refl
found_unread shape Beyond = refl
found_unread shape (Unread seen) = refl
found_unread shape (Gone seen) = refl
found_unread shape (Part seen got) = refl
found_unread shape (Whole seen bytes) = refl

-- a cell that isn't damaged has its digest
right_digest : (kind : Kind) (seen : CellView) (slot : SlotValue) → is_damaged kind (Some seen) slot ≡ false → is_some slot.digest ≡ true
right_digest kind seen slot is = by (is_some slot.digest) is
  where
    by : (b : Bool) → not (b && agrees kind seen.hash slot) ≡ false → b ≡ true
    by true it = refl
    by false it = absurd (let clash : true ≡ false = it in cc)

-- as many bytes as were asked for
whole_long : (bytes : List ℕ) (file : List ℕ) (at n : ℕ) → at + n ≤ length file → read_from file at n ≡ bytes → length bytes ≡ n
whole_long bytes file at n long is = ap (λ (bs : List ℕ). length bs) (sym is) ∙ length-take-le n (drop at file) (omega (arith, long, length-drop at file))

-- a block of a record that is as long as its size asks for has bytes
block_some : (size file_size index : ℕ) → 0 < size → index < block_count size file_size → 0 < block_length size file_size index
block_some size file_size index some below = by (file_size % size == 0) refl below
  where
    by : (b : Bool) → (file_size % size == 0) ≡ b → index < file_size / size + (if b then 0 else 1) → 0 < block_length size file_size index
    by true none less =
        let parts : size * (file_size / size) + file_size % size ≡ file_size = omega arith in
        let fits : index * size + size ≤ (file_size / size) * size = row_fits index size (file_size / size) size (omega (arith, less)) (omega arith) in
        let turned : (file_size / size) * size ≡ size * (file_size / size) = mul_comm (file_size / size) size in
        omega (arith, parts, fits, turned, some)
    by false more less =
        let parts : size * (file_size / size) + file_size % size ≡ file_size = omega arith in
        let fits : index * size ≤ (file_size / size) * size = mul-le index size (file_size / size) size (omega (arith, less)) (omega arith) in
        let turned : (file_size / size) * size ≡ size * (file_size / size) = mul_comm (file_size / size) size in
        ⊎_elim
        (λ same. absurd (let clash : true ≡ false = sym (eq-eqb (file_size % size) 0 same) ∙ more in cc))
        (λ other. omega (arith, parts, fits, turned, other, some))
        (cases_eq (file_size % size) 0)

-- ---- the next fix

module _ (stop : FixStop) (stops : IsStop stop) (cell : Cell) (facts : StripeFacts) (cell_is : cell_at stop.plan facts.stripe stop.d ≡ Some cell) where
  abbrev d : ℕ
  d = stop.d

  abbrev table : TableValue
  table = stop.plan.table

  abbrev shape : Shape
  shape = stop.plan.table.shape

  abbrev size : ℕ
  size = stop.plan.table.shape.block_size

  abbrev column : Column
  column = column_at stop.plan.table.columns stop.d

  abbrev path : List ℕ
  path = path_at stop cell.rec

  abbrev at : ℕ
  at = cell.index * stop.plan.table.shape.block_size

  abbrev n : ℕ
  n = cell_length stop cell

  within : cell.rec < length (records_of stop)
  within = (cell_in-Some column facts.stripe cell cell_is).within

  some_bytes : 0 < n
  some_bytes =
      let here = cell_in-Some column facts.stripe cell cell_is in
      let kept : Record = record_in column cell.rec in
      let whole : IsWhole size kept = all_of_flat (IsWhole size) (λ (c : Column). c.records) table.columns stops.valid.whole stop.d no_column stops.column cell.rec no_record within in
      let least = stops.valid.shape.block_size.least in
      block_some size kept.meta.size cell.index (omega (arith, least)) (omega (arith, here.index_within, whole))

  seen_is : seen_at stop.plan facts.stripe stop.d ≡ Some (cell_seen column cell)
  seen_is = ap (option_map (cell_seen column)) cell_is

  -- the task for the cell, by where its file stands
  task_is : (lists : List (List ListedFile)) → task_at table (starts_of table lists) stop.d facts.stripe
      ≡ file_task (start_in (starts_at (starts_of table lists).columns stop.d) cell.rec).place (start_in (starts_at (starts_of table lists).columns stop.d) cell.rec).size path at n
  task_is lists = ap (cell_task size column (starts_at (starts_of table lists).columns stop.d)) cell_is

  -- what it found at first
  right_first : IsFoundIn stop.plan stop.d stop.first facts → damaged_at stop.plan facts stop.d ≡ false
      → (bytes : List ℕ) × Gives stop.first path at n bytes × ((slot_of facts stop.d).digest ≡ Some (record { 0 = hash shape.kind shape.seed bytes }))
  right_first found right =
      let slot : SlotValue = slot_of facts stop.d in
      let present = found.present in
      let has : is_some slot.digest ≡ true = right_digest shape.kind (cell_seen column cell) slot (ap (λ (seen : Option CellView). is_damaged shape.kind seen slot) (sym seen_is) ∙ right) in
      let whole = with_digest shape present.reading (ap (λ (digest : Option Digest16). is_some digest) (sym present.digest) ∙ has) in
      let start : Start = start_in (starts_at (starts_of table found.lists).columns stop.d) cell.rec in
      let fit : IsStartIn stop.first path start = listed_start stop.plan found.lists stop.d stop.first stops.column found.listed cell.rec within in
      let answered : is_unread present.reading ≡ false = ap is_unread whole.2 in
      let given : given_by stop.first (file_task start.place start.size path at n) ≡ Whole whole.0 whole.1
      = ap (λ (tree : Tree). given_by tree (file_task start.place start.size path at n)) (sym found.holds)
      ∙ ap (given_by found.folder.tree) (sym (task_is found.lists))
      ∙ sym (present.is_of.given found.tells answered) ∙ whole.2 in
      (whole.1, gives_of stop.first path at n start whole.0 whole.1 fit given, present.digest ∙ ap (λ (reading : CellReading). (kept shape reading).digest) whole.2)

  -- it stands there, once the fix was stopped
  stands_still : (bytes : List ℕ) (gives : Gives stop.first path at n bytes) → StandsInCell stop cell gives.file → Gives stop.left path at n bytes
  stands_still bytes gives stands =
      let before = gives.file.bytes in
      let after = stands.after.bytes in
      let byte = λ (p : ℕ) (near : p < n). stands.bytes p (get_or before (at + p) 0) near (record { within = (let long = gives.long in omega (arith, near, long)); is = refl }) in
      let last = byte (n - 1) (omega (arith, some_bytes)) in
      let long_after : at + n ≤ length after = (let end = last.within in omega (arith, end, some_bytes)) in
      let long_now : length (take n (drop at after)) ≡ n = length-take-le n (drop at after) (omega (arith, long_after, length-drop at after)) in
      let long_first : length (take n (drop at before)) ≡ n = length-take-le n (drop at before) (let long = gives.long in omega (arith, long, length-drop at before)) in
      record {
        file = stands.after;
        there = stands.there;
        long = long_after;
        is = ext_get_or 0 (take n (drop at after)) (take n (drop at before)) (long_now ∙ sym long_first)
            (λ i below.
            let near : i < n = omega (arith, below, long_now) in
            get_or-take n (drop at after) i 0 near ∙ get_or-drop at after i 0
            ∙ (byte i near).is
            ∙ sym (get_or-take n (drop at before) i 0 near ∙ get_or-drop at before i 0))
            ∙ gives.is;
      }

  -- so the next fix finds it right
  pub right_again : (plan : FixPlan) (again : StripeFacts) → ((file : File) → file_placed stop.first path ≡ Some file → StandsInCell stop cell file) → IsFoundIn stop.plan stop.d stop.first facts
      → damaged_at stop.plan facts stop.d ≡ false → IsFoundAgain stop plan facts again → damaged_at plan again stop.d ≡ false
  right_again plan again stands found right next =
      let first = right_first found right in
      let gives : Gives stop.left path at n first.0 = stands_still first.0 first.1 (stands first.1.file first.1.there) in
      let many : length first.0 ≡ n = whole_long first.0 first.1.file.bytes at n first.1.long first.1.is in
      let lists = next.found.lists in
      let slot : SlotValue = slot_of again stop.d in
      let present : IsPresent shape next.found.folder (task_at table (starts_of table lists) stop.d facts.stripe) slot
      = subst (λ (s : ℕ). IsPresent shape next.found.folder (task_at table (starts_of table lists) stop.d s) slot) next.stripe
      (subst (λ (t : TableValue). IsPresent t.shape next.found.folder (task_at t (starts_of t lists) stop.d again.stripe) slot) next.table next.found.present) in
      let start : Start = start_in (starts_at (starts_of table lists).columns stop.d) cell.rec in
      let fit : IsStartIn stop.left path start = listed_start stop.plan lists stop.d stop.left stops.column next.found.listed cell.rec within in
      let answered : is_unread present.reading ≡ false = sym (found_unread shape present.reading) ∙ ap is_not_found (sym present.found) ∙ next.came in
      let reading : present.reading ≡ Whole (meta_of gives.file) first.0
      = present.is_of.given next.found.tells answered
      ∙ ap (given_by next.found.folder.tree) (task_is lists)
      ∙ ap (λ (tree : Tree). given_by tree (file_task start.place start.size path at n)) next.found.holds
      ∙ gives_back stop.left path at n start first.0 fit many gives in
      let digest : slot.digest ≡ (slot_of facts stop.d).digest = present.digest ∙ ap (λ (it : CellReading). (kept shape it).digest) reading ∙ sym first.2 in
      ap₂ (λ (t : TableValue) (s : ℕ). is_damaged t.shape.kind (seen_in t s stop.d) slot) next.table next.stripe
      ∙ same_damage (seen_in table facts.stripe stop.d) slot (slot_of facts stop.d) digest ∙ right
    where
      same_damage : (seen : Option CellView) (one other : SlotValue) → one.digest ≡ other.digest → is_damaged shape.kind seen one ≡ is_damaged shape.kind seen other
      same_damage None one other same = refl
      same_damage (Some seen) one other same = ap (λ (it : Option Digest16). not (is_some it && matches_digest seen.hash it)) same

-- where no cell is, none is damaged
pub no_cell_right : (stop : FixStop) (plan : FixPlan) (facts again : StripeFacts) → cell_at stop.plan facts.stripe stop.d ≡ None → IsFoundAgain stop plan facts again → damaged_at plan again stop.d ≡ false
no_cell_right stop plan facts again none next =
    ap₂ (λ (t : TableValue) (s : ℕ). is_damaged t.shape.kind (seen_in t s stop.d) (slot_of again stop.d)) next.table next.stripe
    ∙ ap (λ (found : Option Cell). is_damaged stop.plan.table.shape.kind (option_map (cell_seen (column_at stop.plan.table.columns stop.d)) found) (slot_of again stop.d)) none

-- ---- a stripe that the fix looked at

-- numbers that ascend stand at one place each
at_one_place : (numbers behind : List ℕ) → AreAscending (numbers ++ behind) → (i k : ℕ) → i < length numbers → k < length numbers → get_or numbers i 0 ≡ get_or numbers k 0 → i ≡ k
at_one_place numbers behind ascending i k within within_then same = ⊎_elim
    (λ less. absurd (let rises = risen i k less within_then in omega (arith, rises, same)))
    (λ least. ⊎_elim
    (λ more. absurd (let rises = risen k i more within in omega (arith, rises, same)))
    (λ most. omega (arith, least, most))
    (cases_lt k i))
    (cases_lt i k)
  where
    risen : (a b : ℕ) → a < b → b < length numbers → get_or numbers a 0 < get_or numbers b 0
    risen a b less below =
        let rises = ascending a b 0 less (omega (arith, below, length-append numbers behind)) in
        let one = get_or_append_left numbers behind 0 a (omega (arith, less, below)) in
        let two = get_or_append_left numbers behind 0 b below in
        omega (arith, rises, one, two)

module _ (stop : FixStop) (facts : StripeFacts) (looked : IsLookedAt stop facts) where
  abbrev all : List StripeFacts
  all = facts_of stop.stripes

  abbrev number : StripeFacts → ℕ
  number it = it.stripe

  -- facts of one stripe are the same
  same_facts : (mended : Mended) → Contains stop.stripes mended → mended.facts.stripe ≡ facts.stripe → mended.facts ≡ facts
  same_facts mended one same =
      let its : Contains all mended.facts = contains_facts stop.stripes mended one in
      let other = looked.one in
      let long = length-map all number in
      let ascending : AreAscending (numbers_of all ++ looked.behind) = subst AreAscending looked.numbers (stripes_ascending stop.plan) in
      let at : get_or (numbers_of all) its.0 0 ≡ get_or (numbers_of all) other.0 0
      = get_or-map number all its.0 mended.facts 0 its.1 ∙ ap number its.2 ∙ same ∙ sym (get_or-map number all other.0 facts 0 other.1 ∙ ap number other.2) in
      let place : its.0 ≡ other.0 = at_one_place (numbers_of all) looked.behind ascending its.0 other.0 (let within = its.1 in omega (arith, within, long)) (let within = other.1 in omega (arith, within, long)) at in
      sym its.2 ∙ get_or_default all its.0 mended.facts facts its.1 ∙ ap (λ (k : ℕ). get_or all k facts) place ∙ other.2

  -- the cell that it found right there is written in no stripe
  pub right_is_spared : (cell : Cell) → cell_at stop.plan facts.stripe stop.d ≡ Some cell → damaged_at stop.plan facts stop.d ≡ false → IsCellSpared stop cell
  right_is_spared cell cell_is right = record {
    are = looked.are;
    none = λ mended one here.
        let column = column_at stop.plan.table.columns stop.d in
        let stripe : mended.facts.stripe ≡ facts.stripe
        = sym (cell_in-Some column mended.facts.stripe cell here).position_is ∙ (cell_in-Some column facts.stripe cell cell_is).position_is in
        let its : mended.facts ≡ facts = same_facts mended one stripe in
        ap (λ (it : StripeFacts). is_repaired stop.plan it stop.d) its ∙ unwritten (selects_cell stop.plan facts.stripe stop.d) (damaged_at stop.plan facts stop.d) (is_some (known_block stop.plan facts stop.d)) (not (is_blocked_cell stop.plan stop.d (cell_at stop.plan facts.stripe stop.d))) right;
  }
    where
      unwritten : (a b c e : Bool) → b ≡ false → (a && b && c && e) ≡ false
      unwritten a true c e is = absurd (let clash : true ≡ false = is in cc)
      unwritten true false c e is = refl
      unwritten false false c e is = refl

  -- so the next fix finds it right
  pub found_right : (plan : FixPlan) (again : StripeFacts) → IsStop stop → UnnamedStay → IsFoundIn stop.plan stop.d stop.first facts → damaged_at stop.plan facts stop.d ≡ false → IsFoundAgain stop plan facts again
      → damaged_at plan again stop.d ≡ false
  found_right plan again stops unnamed found right next = by (cell_at stop.plan facts.stripe stop.d) refl
    where
      by : (found_cell : Option Cell) → cell_at stop.plan facts.stripe stop.d ≡ found_cell → damaged_at plan again stop.d ≡ false
      by None none = no_cell_right stop plan facts again none next
      by (Some cell) is =
          let rec = (cell_in-Some (column_at stop.plan.table.columns stop.d) facts.stripe cell is).within in
          right_again stop stops cell facts is plan again
          (λ file placed. cell_stands stop stops cell (right_is_spared cell is right) rec file (bytes_stand stop stops cell.rec rec file unnamed placed))
          found right next
