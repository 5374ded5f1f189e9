-- What a fix reads of a cell is what stood there at first: until then it wrote other cells alone.
use Rattle.std.proofs.Common.{◌≡◌, ◌≢◌, ℕ, zero, suc, ◌+◌, ◌*◌, ◌<◌, ◌≤◌, ◌==◌, ◌&&◌, not, List, [], ◌∷◌, length, map, take, get_or, is_some, All, Bool, true, false, if◌then◌else◌, Option, None, Some, IsTrue, refl, sym, ap, ap₂, ◌∙◌, subst, arith}
use Rattle.std.specs.List.{take-map}
use Rattle.std.specs.Option.{option_map}
use Rattle.std.proofs.lemmas.Bool.{eqb-true}
use Rattle.std.proofs.lemmas.List.{get_or-map, get_or-take, get_or_default, length-map, length-take}
use Rattle.std.proofs.lemmas.List.Elements.{All-nil, All-cons, All-take}
use Rattle.std.proofs.lemmas.List.FromFn.{get_or-map-range_with_len}
use Rattle.folder_listing.proofs.JoinedLemmas.{all_flat}
use Rattle.disk_model.specs.Folder.{FolderView}
use Rattle.disk_model.specs.Tree.{Tree}
use Rattle.file_table.specs.Cells.{cell_seen}
use Rattle.file_table.specs.Table.{Record, block_in, column_at, record_in, records_in}
use Rattle.file_table.specs.Valid.{IsValid}
use Rattle.file_table.specs.declared.block.Cell.{Cell}
use Rattle.file_table.proofs.CellInLemmas.{cell_in-Some}
use Rattle.stripe_reader.specs.Columns.{folder_at}
use Rattle.stripe_reader.specs.Reading.{NoBlock, block_length, cell_task, task_at}
use Rattle.stripe_reader.specs.Starts.{StartsValue, no_start, start_in, starts_at}
use Rattle.stripe_reader.specs.declared.starts.Start.{Start}
use Rattle.file_restorer.specs.declared.state.FileState.{FileState}
use Rattle.stripe_examiner.specs.Facts.{StripeFacts, damaged_at, slot_of}
use Rattle.snap_fix.specs.FixRun.{AreAscending}
use Rattle.snap_fix.specs.Fixing.{AreReadThen, IsCellRead, IsReadThen, facts_of, mended_at, no_mended}
use Rattle.stripe_examiner.specs.Present.{ArePresent, IsPresent}
use Rattle.stripe_examiner.specs.Known.{AreFacts}
use Rattle.stripe_examiner.specs.Looking.{numbers_of}
use Rattle.snap_fix.specs.Mended.{Mended, answer_of, column_writes, is_blocked_cell, is_of, is_repaired, is_written, write_of, writes_in, writes_of}
use Rattle.stripe_examiner.specs.Showing.{block_or_none, known_block}
use Rattle.repair_scope.specs.Plan.{FixPlan, cell_at, selects_cell}
use Rattle.file_restorer.specs.State.{HoldsRecord, Write, bytes_placed, first_state, first_states, no_state, puts, record_path}
use Rattle.snap_fix.specs.Underway.{AreUnderway, IsColumnUnderway}
use Rattle.snap_fix.proofs.MendedFactsLemmas.{and_parts}
use Rattle.stripe_examiner.proofs.ShownLemmas.{known_long}
use Rattle.snap_fix.proofs.PresentCellLemmas.{IsStartIn, Leaves, blocks_apart, present_file, present_known, still_gives}

-- ---- where files stood at first

-- of each folder that tells its files, the starts are where they stand
abbrev pub StartsFitFolders : FixPlan → StartsValue → List FolderView → Type 0
StartsFitFolders plan begun firsts = (d : ℕ) → d < length plan.table.columns → IsTrue (folder_at firsts d).tells
    → (i : ℕ) → i < length (records_in plan.table d)
    → IsStartIn (folder_at firsts d).tree (record_path (records_in plan.table d) i) (start_in (starts_at begun.columns d) i)

-- a file to which nothing was done is where its start says
start_untouched : (start : Start) (writes : List Write) (path : List ℕ) (first later : Tree) → HoldsRecord start (first_state start) writes path first later → IsStartIn first path start
start_untouched start writes path first later held = record {
  place = held.holds.place;
  size = held.size ∙ ap (λ (ws : List Write). length (puts (bytes_placed first path) ws)) held.holds.none;
}

-- so they do when a fix begins
pub starts_fit_first : (plan : FixPlan) (begun : StartsValue) (firsts : List FolderView)
    → AreUnderway plan [] firsts firsts begun (first_states begun) → StartsFitFolders plan begun firsts
starts_fit_first plan begun firsts is d below told i within =
    let held = (is.each d below).holds told in
    let column = starts_at begun.columns d in
    let states = get_or (first_states begun) d [] in
    let path = record_path (records_in plan.table d) i in
    let first = (folder_at firsts d).tree in
    let writes = get_or (column_writes plan [] d (length (records_in plan.table d))) i [] in
    let near : i < length column = omega (arith, within, held.starts_are) in
    let states_are : states ≡ map first_state column = rows begun.columns d in
    let state_is : get_or states i no_state ≡ first_state (get_or column i no_start) =
    ap (λ (ss : List FileState). get_or ss i no_state) states_are ∙ get_or-map first_state column i no_start no_state near in
    start_untouched (get_or column i no_start) writes path first first
    (subst (λ (s : FileState). HoldsRecord (get_or column i no_start) s writes path first first) state_is (held.each i within))
  where
    rows : (columns : List (List Start)) (d : ℕ) → get_or (map (λ (column : List Start). map first_state column) columns) d [] ≡ map first_state (get_or columns d [])
    rows [] d = refl
    rows (column ∷ columns) zero = refl
    rows (column ∷ columns) (suc d) = rows columns d

-- ---- what was written until then

module _ (plan : FixPlan) (stripes : List Mended) (d : ℕ) (valid : IsValid plan.table) (column : d < length plan.table.columns) (cell : Cell) (stripe n : ℕ)
    (cell_is : cell_at plan stripe d ≡ Some cell) (few : n ≤ plan.table.shape.block_size) where
  abbrev size : ℕ
  size = plan.table.shape.block_size

  and_first : (a b : Bool) → (a && b) ≡ true → a ≡ true
  and_first true b is = refl
  and_first false b is = absurd cc

  -- the block that is written of another stripe of the same file is another one of it
  other_block : (facts : StripeFacts) (other : Cell) → cell_at plan facts.stripe d ≡ Some other → facts.stripe ≢ stripe → other.rec ≡ cell.rec → cell.index ≢ other.index
  other_block facts other other_is apart rec index =
      let of = column_at plan.table.columns d in
      let one = (cell_in-Some of stripe cell cell_is).position_is in
      let two = (cell_in-Some of facts.stripe other other_is).position_is in
      apart (sym two ∙ ap₂ (λ (i k : ℕ). (block_in (record_in of i) k).position) rec (sym index) ∙ one)

  -- it is no longer than a block
  block_short : (mended : Mended) (other : Cell) → AreFacts plan mended.facts → cell_at plan mended.facts.stripe d ≡ Some other → is_repaired plan mended.facts d ≡ true
      → length (block_or_none (known_block plan mended.facts d)) ≤ size
  block_short mended other are other_is repaired =
      let facts = mended.facts in
      let parts = and_parts (selects_cell plan facts.stripe d) (damaged_at plan facts d) (is_some (known_block plan facts d)) (not (is_blocked_cell plan d (cell_at plan facts.stripe d))) repaired in
      let of = column_at plan.table.columns d in
      let long = known_long plan facts are valid.shape.levels.most d (cell_seen of other) column (ap (option_map (cell_seen of)) other_is) parts.1 parts.2 in
      omega (arith, long)

  leaves_one : (mended : Mended) → AreFacts plan mended.facts → mended.facts.stripe ≢ stripe → (i : ℕ) → i < n
      → All (Leaves (cell.index * size + i)) (writes_in plan d cell.rec mended)
  leaves_one mended are apart i near = by (cell_at plan mended.facts.stripe d) refl
    where
      here : Write → Type 0
      here = Leaves (cell.index * size + i)

      by_flags : (other : Cell) → cell_at plan mended.facts.stripe d ≡ Some other → (same written : Bool) → (other.rec == cell.rec) ≡ same → is_written plan mended d ≡ written
          → All here (if same && written then write_of plan d mended.facts (Some other) else [])
      by_flags other other_is true true same written =
          let repaired = and_first (is_repaired plan mended.facts d) (answer_of mended d) written in
          let bytes = block_or_none (known_block plan mended.facts d) in
          All-cons here (record { at = other.index * size; bytes = bytes }) []
          (blocks_apart size n (length bytes) cell.index other.index i few (block_short mended other are other_is repaired)
          (other_block mended.facts other other_is apart (eqb-true other.rec cell.rec same)) near)
          (All-nil here)
      by_flags other other_is true false same written = All-nil here
      by_flags other other_is false written same is = All-nil here

      by : (other : Option Cell) → cell_at plan mended.facts.stripe d ≡ other → All here (if is_of cell.rec other && is_written plan mended d then write_of plan d mended.facts other else [])
      by None is = All-nil here
      by (Some other) is = by_flags other is (other.rec == cell.rec) (is_written plan mended d) refl refl

  leaves_all : All (AreFacts plan) (facts_of stripes) → All (λ (mended : Mended). mended.facts.stripe ≢ stripe) stripes → (i : ℕ) → i < n
      → All (Leaves (cell.index * size + i)) (writes_of plan stripes d cell.rec)
  leaves_all are apart i near =
      all_flat (Leaves (cell.index * size + i)) (writes_in plan d cell.rec) stripes
      (λ k none within. leaves_one (get_or stripes k none) (facts_in are k none within) (apart k none within) i near)
    where
      facts_in : All (AreFacts plan) (facts_of stripes) → (k : ℕ) (none : Mended) → k < length stripes → AreFacts plan (get_or stripes k none).facts
      facts_in are k none within =
          subst (AreFacts plan) (get_or-map (λ (mended : Mended). mended.facts) stripes k none none.facts within)
          (are k none.facts (omega (arith, within, length-map stripes (λ (mended : Mended). mended.facts))))

-- ---- of all stripes

module _ (plan : FixPlan) (begun : StartsValue) (firsts : List FolderView) (stripes : List Mended) (valid : IsValid plan.table)
    (ascending : AreAscending (numbers_of (facts_of stripes))) (are : All (AreFacts plan) (facts_of stripes)) (fit : StartsFitFolders plan begun firsts) where
  facts_are : (k : ℕ) (none : Mended) → k < length stripes → get_or (facts_of stripes) k none.facts ≡ (get_or stripes k none).facts
  facts_are k none within = get_or-map (λ (mended : Mended). mended.facts) stripes k none none.facts within

  as_many : length (facts_of stripes) ≡ length stripes
  as_many = length-map stripes (λ (mended : Mended). mended.facts)

  number_is : (k : ℕ) (none : Mended) → k < length stripes → get_or (numbers_of (facts_of stripes)) k none.facts.stripe ≡ (get_or stripes k none).facts.stripe
  number_is k none within =
      get_or-map (λ (facts : StripeFacts). facts.stripe) (facts_of stripes) k none.facts none.facts.stripe (omega (arith, within, as_many))
      ∙ ap (λ (facts : StripeFacts). facts.stripe) (facts_are k none within)

  -- the stripes before one are other stripes
  earlier_apart : (k count : ℕ) → k < length stripes → count ≤ k → All (λ (mended : Mended). mended.facts.stripe ≢ (mended_at stripes k).facts.stripe) (take count stripes)
  earlier_apart k count within earlier m none near same =
      let cut = length-take count stripes in
      let less : m < count = omega (arith, near, cut) in
      let before : m < length stripes = omega (arith, less, earlier, within) in
      let numbers_long = length-map (facts_of stripes) (λ (facts : StripeFacts). facts.stripe) in
      let rises = ascending m k none.facts.stripe (omega (arith, less, earlier)) (omega (arith, within, numbers_long, as_many)) in
      let one = number_is m none before in
      let two = number_is k none within in
      let here = ap (λ (mended : Mended). mended.facts.stripe) (get_or-take count stripes m none less) in
      let any = get_or_default stripes k none no_mended within in
      let same_default = ap (λ (mended : Mended). mended.facts.stripe) any in
      absurd (omega (arith, rises, one, two, here, same, same_default))

  taken_facts : (count : ℕ) → All (AreFacts plan) (facts_of (take count stripes))
  taken_facts count = subst (All (AreFacts plan)) (take-map (λ (mended : Mended). mended.facts) count stripes) (All-take (AreFacts plan) count (facts_of stripes) are)

  module _ (k : ℕ) (within : k < length stripes) (later : IsReadThen plan begun firsts stripes k (mended_at stripes k).facts) (d : ℕ) (below : d < length plan.table.columns) where
    abbrev facts : StripeFacts
    facts = (mended_at stripes k).facts

    abbrev its : IsColumnUnderway plan d (take later.count stripes) (folder_at firsts d) (folder_at later.folders d) later.starts later.states
    its = later.underway.each d below

    abbrev first : FolderView
    first = folder_at firsts d

    abbrev now : FolderView
    now = folder_at later.folders d

    abbrev records : List Record
    records = records_in plan.table d

    present_cell : (cell : Cell) → cell_at plan facts.stripe d ≡ Some cell
        → IsCellRead plan.table.shape now (cell_task plan.table.shape.block_size (column_at plan.table.columns d) (starts_at later.starts.columns d) (Some cell)) (slot_of facts d)
        → IsPresent plan.table.shape first (cell_task plan.table.shape.block_size (column_at plan.table.columns d) (starts_at begun.columns d) (Some cell)) (slot_of facts d)
    present_cell cell cell_is read =
        let i = cell.rec in
        let block_size = plan.table.shape.block_size in
        let n = block_length block_size (record_in (column_at plan.table.columns d) i).meta.size cell.index in
        let at = cell.index * block_size in
        let rec = (cell_in-Some (column_at plan.table.columns d) facts.stripe cell cell_is).within in
        let start_first = start_in (starts_at begun.columns d) i in
        let start_now = start_in (starts_at later.starts.columns d) i in
        let stood = later.stood d i in
        let path = record_path records i in
        let few : n ≤ block_size = omega arith in
        let writes = get_or (column_writes plan (take later.count stripes) d (length records)) i [] in
        let writes_are : writes ≡ writes_of plan (take later.count stripes) d i = get_or-map-range_with_len (writes_of plan (take later.count stripes) d) 0 (length records) i i [] rec (omega arith) in
        present_file plan.table.shape first now (slot_of facts d) its.calls.goes_on.tells path start_first start_now stood.0 stood.1 at n
        (λ told fits there.
        still_gives path start_first start_now (state_at i) writes first.tree now.tree (fit d below told i rec) ((its.holds told).each i rec) at n fits
        (λ j near. subst (All (Leaves (at + j))) (sym writes_are)
        (leaves_all plan (take later.count stripes) d valid below cell facts.stripe n cell_is few (taken_facts later.count) (earlier_apart k later.count within later.earlier) j near))
        there)
        start_first.place refl read
      where
        state_at : ℕ → FileState
        state_at i = get_or (get_or later.states d []) i no_state

    present_one : IsPresent plan.table.shape first (task_at plan.table begun d facts.stripe) (slot_of facts d)
    present_one = by (cell_at plan facts.stripe d) refl (later.cells d below)
      where
        by : (found : Option Cell) → cell_at plan facts.stripe d ≡ found
            → IsCellRead plan.table.shape now (cell_task plan.table.shape.block_size (column_at plan.table.columns d) (starts_at later.starts.columns d) found) (slot_of facts d)
            → IsPresent plan.table.shape first (cell_task plan.table.shape.block_size (column_at plan.table.columns d) (starts_at begun.columns d) found) (slot_of facts d)
        by None is read = present_known plan.table.shape first now (slot_of facts d) NoBlock read
        by (Some cell) is read = present_cell cell is read

-- what was read of the cells of stripes is what stood there at first
pub present_at_first : (plan : FixPlan) (begun : StartsValue) (firsts : List FolderView) (stripes : List Mended)
    → IsValid plan.table → AreAscending (numbers_of (facts_of stripes)) → All (AreFacts plan) (facts_of stripes)
    → StartsFitFolders plan begun firsts → AreReadThen plan begun firsts stripes
    → ArePresent plan begun firsts (facts_of stripes)
present_at_first plan begun firsts stripes valid ascending are fit read k none within d below =
    let near : k < length stripes = omega (arith, within, length-map stripes (λ (mended : Mended). mended.facts)) in
    let here = get_or-map (λ (mended : Mended). mended.facts) stripes k no_mended none near in
    subst (λ (facts : StripeFacts). IsPresent plan.table.shape (folder_at firsts d) (task_at plan.table begun d facts.stripe) (slot_of facts d)) (sym here)
    (present_one plan begun firsts stripes valid ascending are fit k near (read k near) d below)
