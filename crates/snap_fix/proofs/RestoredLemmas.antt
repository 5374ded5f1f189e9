-- What a fix leaves of damaged cells: what could be had of them is in their files, and the others are told.
use Rattle.std.proofs.Common.{◌≡◌, ◌↔◌, ℕ, zero, suc, ◌+◌, ◌*◌, ◌<◌, ◌&&◌, List, [], ◌∷◌, ◌++◌, length, get_or, Bool, true, false, Option, None, Some, IsTrue, ◌⊎◌, refl, sym, ap, ap₂, ◌∙◌, subst, inl, inr, arith}
use Rattle.std.specs.Prelude.{is_some, not, if◌then◌else◌, slice_index}
use Rattle.std.specs.List.{Contains, flat_map, range_with_len}
use Rattle.std.proofs.lemmas.Bool.{and_parts, and_from, false≢true}
use Rattle.std.proofs.lemmas.List.{get_or-map, length-map}
use Rattle.std.proofs.lemmas.List.Elements.{Contains-append_left, Contains-append_right, Contains-get_or}
use Rattle.std.proofs.lemmas.List.FromFn.{get_or-map-range_with_len, get_or-range_with_len, length-range_with_len}
use Rattle.cauchy.specs.Field.{product}
use Rattle.cauchy.specs.Recovery.{AreBytes}
use Rattle.disk_model.specs.Bytes.{resized}
use Rattle.disk_model.specs.Folder.{FolderView}
use Rattle.disk_model.specs.Tree.{Tree, File, file_of, path_of}
use Rattle.file_table.specs.Table.{column_at, record_at, records_in}
use Rattle.file_table.specs.declared.block.Cell.{Cell}
use Rattle.file_table.proofs.CellInLemmas.{cell_in-Some}
use Rattle.parity_writer.specs.Keeps.{HasByte}
use Rattle.parity_writer.specs.Parity.{Row}
use Rattle.parity_writer.proofs.ElsewhereLemmas.{length-resized}
use Rattle.parity_writer.proofs.PaddedLemmas.{resized_byte}
use Rattle.snap_report.specs.declared.events.Event.{Event}
use Rattle.snap_report.specs.declared.events.Event.TheVariants as event
use Rattle.stripe_reader.specs.Columns.{folder_at}
use Rattle.stripe_reader.specs.Reading.{block_length}
use Rattle.stripe_reader.specs.Starts.{StartsValue, starts_at, start_in}
use Rattle.stripe_reader.specs.declared.starts.Start.{Start}
use Rattle.stripe_reader.specs.declared.starts.Place.{Place}
use Rattle.stripe_reader.specs.declared.starts.Place.TheVariants as place
use Rattle.file_restorer.specs.declared.finishing.Finish.{Finish}
use Rattle.file_restorer.specs.declared.finishing.Finish.TheVariants.{Kept, Renamed}
use Rattle.file_restorer.specs.declared.state.FileState.{FileState}
use Rattle.snap_fix.specs.Ending.{FinishesColumn, HoldsEnd, StandsEnd, IsDone, all_finish_news, finish_at, finishes_at, is_finished, states_at}
use Rattle.stripe_examiner.specs.Facts.{StripeFacts, damaged_at, gift_of}
use Rattle.stripe_examiner.specs.Findings.{all_cell_events, all_level_events, all_level_io_events, is_lost, lost_event, lost_events, opening_events, stripe_events, unsynced_events}
use Rattle.file_restorer.specs.Finishing.{StandsLost, bytes_now, finish_of, lost_finish, whole_finish}
use Rattle.snap_fix.specs.FixCourse.{Written, fix_events}
use Rattle.snap_fix.specs.Fixing.{facts_of}
use Rattle.snap_fix.specs.Genuine.{IsBlockIn, IsRestorableStripe, TellsIntactLevels}
use Rattle.snap_fix.proofs.ExactLemmas.{HasExactFacts}
use Rattle.snap_fix.specs.Mended.{Mended, all_cell_news, all_level_news, all_mended_events, answer_of, column_writes, has_lost, is_blocked_cell, is_repaired, is_written, mended_events, writes_of}
use Rattle.stripe_examiner.specs.Showing.{block_or_none, known_block, known_by}
use Rattle.file_restorer.specs.Mending.{block_start, cell_path}
use Rattle.repair_scope.specs.Plan.{FixPlan, cell_at, entry_at, is_audit, is_searched, is_synced, is_in_scope, has_selected, selects_cell}
use Rattle.snap_fix.specs.Restored.{CanBeHad, HasFixed, HoldsCell, IsDamagedCell, IsGivenBlock}
use Rattle.file_restorer.specs.State.{HoldsBy, HoldsRecord, IsTouched, Write, bytes_or, bytes_placed, place_then, puts, stands, state_in}
use Rattle.snap_fix.specs.Underway.{IsColumnUnderway}
use Rattle.snap_fix.proofs.GenuineCells.{given_is}
use Rattle.snap_fix.proofs.GenuineLemmas.{known_by_count, row_same}
use Rattle.stripe_examiner.proofs.ShownLemmas.{known_block_is}
use Rattle.snap_fix.proofs.RestoredWrites.{block_is_written, repaired_parts, some_are_written}

-- ---- of one file

pub then_stands : (stood before : Place) → stood ≡ place_then before → stands stood true ≡ true
then_stands stood place.Plain is = ap (λ (it : Place). stands it true) is
then_stands stood place.Lost is = ap (λ (it : Place). stands it true) is
then_stands stood place.Nowhere is = ap (λ (it : Place). stands it true) is

-- bytes of a block within the recorded size stay where the file gets that size
pub in_size : (bytes : List ℕ) (block_size size index p b : ℕ) → p < block_length block_size size index → HasByte bytes (index * block_size + p) b
    → HasByte (resized bytes size) (index * block_size + p) b
in_size bytes block_size size index p b less has =
    let below : index * block_size + p < size = omega (arith, less) in
    record { within = omega (arith, below, length-resized bytes size); is = resized_byte bytes size (index * block_size + p) below ∙ has.is }

renamed_where_lost : (start : Start) (state : FileState) → stands start.place state.touched ≡ true → lost_finish start state ≡ Renamed
renamed_where_lost start state there = ap (λ (b : Bool). if b then Renamed else Kept) there

-- ---- a damaged cell of a stripe that was mended

pub record IsDamagedOf (plan : FixPlan) (stripes : List Mended) (mended : Mended) (d : ℕ) (cell : Cell) : Type 0 where
  pub one : Contains stripes mended
  pub column : d < length plan.table.columns
  pub cell_is : cell_at plan mended.facts.stripe d ≡ Some cell
  pub selected : selects_cell plan mended.facts.stripe d ≡ true
  pub damaged : damaged_at plan mended.facts d ≡ true

pub record IsMendedOf (plan : FixPlan) (stripes : List Mended) (facts : StripeFacts) (d : ℕ) (cell : Cell) : Type 0 where
  pub mended : Mended
  pub facts_are : mended.facts ≡ facts
  pub is : IsDamagedOf plan stripes mended d cell

-- there is one with these facts
mended_of : (plan : FixPlan) (stripes : List Mended) (facts : StripeFacts) (d : ℕ) (cell : Cell) → IsDamagedCell plan (facts_of stripes) facts d cell → IsMendedOf plan stripes facts d cell
mended_of plan stripes facts d cell it =
    let none : Mended = record { facts = facts; answers = [] } in
    let of : Mended → StripeFacts = λ (mended : Mended). mended.facts in
    let within : it.one.0 < length stripes = let below = it.one.1 in omega (arith, below, length-map stripes of) in
    let mended : Mended = get_or stripes it.one.0 none in
    let same : mended.facts ≡ facts = sym (get_or-map of stripes it.one.0 none facts within) ∙ it.one.2 in
    record {
      mended = mended;
      facts_are = same;
      is = record {
        one = Contains-get_or stripes it.one.0 none within;
        column = it.column;
        cell_is = ap (λ (f : StripeFacts). cell_at plan f.stripe d) same ∙ it.cell_is;
        selected = ap (λ (f : StripeFacts). selects_cell plan f.stripe d) same ∙ it.selected;
        damaged = ap (λ (f : StripeFacts). damaged_at plan f d) same ∙ it.damaged;
      };
    }

-- ---- a cell that was written

module _ (plan : FixPlan) (starts : StartsValue) (stripes : List Mended) (finishes : List (List Finish)) (firsts news : List FolderView)
    (has : HasFixed plan starts stripes finishes firsts news) (mended : Mended) (d : ℕ) (cell : Cell) (one : IsDamagedOf plan stripes mended d cell)
    (free : (entry_at plan d cell.rec).blocked ≡ false) (known : is_some (known_block plan mended.facts d) ≡ true) (tells : IsTrue (folder_at firsts d).tells) where
  abbrev facts : StripeFacts
  facts = mended.facts

  abbrev i : ℕ
  i = cell.rec

  abbrev path : List ℕ
  path = cell_path plan.table d cell

  abbrev written : Written
  written = has.files.written

  abbrev before : Tree
  before = (folder_at written.folders d).tree

  abbrev later : Tree
  later = (folder_at news d).tree

  abbrev start : Start
  start = start_in (starts_at written.starts.columns d) i

  abbrev state : FileState
  state = state_in written.states d i

  abbrev all_writes : List Write
  all_writes = writes_of plan stripes d i

  within : i < length (records_in plan.table d)
  within = (cell_in-Some (column_at plan.table.columns d) facts.stripe cell one.cell_is).within

  repaired : is_repaired plan facts d ≡ true
  repaired =
      let blocked : is_blocked_cell plan d (cell_at plan facts.stripe d) ≡ false = ap (is_blocked_cell plan d) one.cell_is ∙ free in
      and_from _ _ (and_from _ _ (and_from _ _ one.selected one.damaged) known) (ap not blocked)

  is_written_here : is_written plan mended d ≡ true
  is_written_here =
      let fits = has.answered one.one.0 mended one.one.1 d one.column tells in
      let answered : is_repaired plan (get_or stripes one.one.0 mended).facts d ≡ true = ap (λ (it : Mended). is_repaired plan it.facts d) one.one.2 ∙ repaired in
      and_from _ _ repaired (ap (λ (it : Mended). answer_of it d) (sym one.one.2) ∙ fits answered)

  underway : IsColumnUnderway plan d stripes (folder_at firsts d) (folder_at written.folders d) written.starts written.states
  underway = has.files.writes.underway.each d one.column

  cell_there : cell_at plan (get_or stripes one.one.0 mended).facts.stripe d ≡ Some cell
  cell_there = ap (λ (it : Mended). cell_at plan it.facts.stripe d) one.one.2 ∙ one.cell_is

  written_there : is_written plan (get_or stripes one.one.0 mended) d ≡ true
  written_there = ap (λ (it : Mended). is_written plan it d) one.one.2 ∙ is_written_here

  touched : state.touched ≡ true
  touched = underway.wrote i within (some_are_written plan starts stripes finishes firsts news has d one.column mended one.one.0 cell one.one.1 cell_there written_there)

  held : IsTouched start state all_writes path (folder_at firsts d).tree before
  held =
      let record_held : HoldsRecord start state (get_or (column_writes plan stripes d (length (records_in plan.table d))) i []) path (folder_at firsts d).tree before =
      (underway.holds tells).each i within in
      let writes_are : get_or (column_writes plan stripes d (length (records_in plan.table d))) i [] ≡ all_writes =
      get_or-map-range_with_len (writes_of plan stripes d) 0 (length (records_in plan.table d)) i i [] within (omega arith) in
      subst (λ (writes : List Write). IsTouched start state writes path (folder_at firsts d).tree before) writes_are
      (subst (λ (b : Bool). HoldsBy b start state (get_or (column_writes plan stripes d (length (records_in plan.table d))) i []) path (folder_at firsts d).tree before) touched record_held.holds)

  abbrev real : ℕ
  real = block_length plan.table.shape.block_size (record_at plan.table.columns d i).meta.size cell.index

  abbrev byte : ℕ → ℕ
  byte p = get_or (block_or_none (known_block plan facts d)) p 0

  -- the file has the block once all is written
  has_block : (p : ℕ) → p < real → HasByte held.file.bytes (block_start plan.table cell + p) (byte p)
  has_block p less =
      subst (λ (bytes : List ℕ). HasByte bytes (block_start plan.table cell + p) (byte p)) (sym held.bytes)
      (subst (λ (it : Mended). HasByte (puts (bytes_placed (folder_at firsts d).tree path) all_writes) (block_start plan.table cell + p) (get_or (block_or_none (known_block plan it.facts d)) p 0)) one.one.2
      (block_is_written plan starts stripes finishes firsts news has d one.column mended one.one.0 cell (bytes_placed (folder_at firsts d).tree path) p
      one.one.1 cell_there written_there less))

  then_tells : IsTrue (folder_at written.folders d).tells
  then_tells = (has.files.writes.makes d one.column).goes_on.tells ∙ tells

  finished : is_finished plan d i ≡ true
  finished =
      let selected : has_selected plan d (Some cell) ≡ true = ap (has_selected plan d) (sym one.cell_is) ∙ (and_parts (is_in_scope plan facts.stripe) (has_selected plan d (cell_at plan facts.stripe d)) one.selected).1 in
      and_from _ _ selected (ap not free)

  column : FinishesColumn plan written.starts written.states d finishes (folder_at written.folders d) (folder_at news d)
  column = has.files.finished d one.column

  now_is : bytes_now before path ≡ held.file.bytes
  now_is = ap (λ (file : Option File). bytes_or file (bytes_or (file_of before (path_of path true)) [])) held.there

  -- without a lost block it stands under its path
  whole_holds : has_lost plan stripes d i ≡ false → HoldsCell plan.table d cell false byte later
  whole_holds none =
      let stood : StandsEnd plan d (starts_at written.starts.columns d) (folder_at written.folders d).keeps i before later =
      column.whole then_tells i within finished (underway.lost i within ∙ none) in
      let meta_size : ℕ = (record_at plan.table.columns d i).meta.size in
      record {
        file = stood.file;
        there = stood.there;
        bytes = λ p less.
            subst (λ (bytes : List ℕ). HasByte bytes (block_start plan.table cell + p) (byte p)) (sym (stood.bytes_are ∙ ap (λ (bytes : List ℕ). resized bytes meta_size) now_is))
            (in_size held.file.bytes plan.table.shape.block_size meta_size cell.index p (byte p) less (has_block p less));
      }

  -- with one it was renamed
  lost_holds : has_lost plan stripes d i ≡ true → HoldsCell plan.table d cell true byte later
  lost_holds some = by_done (column.is i within finished)
    where
      stood : stands start.place state.touched ≡ true
      stood = ap (stands start.place) touched ∙ then_stands start.place _ held.place

      wanted : finish_of (record_at plan.table.columns d i).meta (entry_at plan d i).listed start state (folder_at written.folders d).keeps ≡ Renamed
      wanted =
          ap (λ (b : Bool). if b then lost_finish start state else whole_finish (record_at plan.table.columns d i).meta (entry_at plan d i).listed start state (folder_at written.folders d).keeps)
          (underway.lost i within ∙ some)
          ∙ renamed_where_lost start state stood

      by_done : IsDone plan d (starts_at written.starts.columns d) (states_at written.states d) (folder_at written.folders d) i (finish_at (finishes_at finishes d) i)
          → HoldsCell plan.table d cell true byte later
      by_done (inr gone) = absurd (false≢true (sym gone.1 ∙ then_tells))
      by_done (inl is) =
          let moved : StandsLost path before later =
          subst (λ (finish : Finish). HoldsEnd plan d (starts_at written.starts.columns d) (states_at written.states d) (folder_at written.folders d).keeps i finish before later)
          (is ∙ wanted) (column.holds then_tells i within finished) in
          record { file = held.file; there = moved.moved ∙ held.there; bytes = has_block }

  pub cell_held : HoldsCell plan.table d cell (has_lost plan stripes d i) byte later
  cell_held = by_lost (has_lost plan stripes d i) refl
    where
      by_lost : (b : Bool) → has_lost plan stripes d i ≡ b → HoldsCell plan.table d cell b byte later
      by_lost false is = whole_holds is
      by_lost true is = lost_holds is

-- ---- which blocks are known

known_by_gift : (gift : Option (List ℕ)) (row : Option Row) (d : ℕ) → is_some gift ≡ true → is_some (known_by true gift row d) ≡ true
known_by_gift None row d some = absurd cc
known_by_gift (Some bytes) row d some = refl

known_by_row : (gift : Option (List ℕ)) (row : Option Row) (d : ℕ) → is_some row ≡ true → is_some (known_by true gift row d) ≡ true
known_by_row (Some bytes) row d some = refl
known_by_row None None d some = absurd cc
known_by_row None (Some row) d some = refl

module _ (plan : FixPlan) (starts : StartsValue) (firsts : List FolderView) (snapshot : Row) (facts : StripeFacts)
    (has : HasExactFacts plan starts firsts snapshot facts) (nothing : (a : ℕ) → product a 0 ≡ 0) (d : ℕ) where
  -- a known block is the snapshot's
  pub known_is : is_some (known_block plan facts d) ≡ true → IsBlockIn plan.table.shape.block_size snapshot d (block_or_none (known_block plan facts d))
  known_is =
      subst (λ (block : Option (List ℕ)). is_some block ≡ true → IsBlockIn plan.table.shape.block_size snapshot d (block_or_none block)) (sym (known_block_is plan facts has.are d))
      (by (gift_of facts d) facts.row refl refl)
    where
      by : (gift : Option (List ℕ)) (row : Option Row) → gift_of facts d ≡ gift → facts.row ≡ row → is_some (known_by true gift row d) ≡ true
          → IsBlockIn plan.table.shape.block_size snapshot d (block_or_none (known_by true gift row d))
      by (Some bytes) row gift_is row_is there = given_is plan starts firsts snapshot facts has d bytes gift_is
      by None None gift_is row_is there = absurd cc
      by None (Some row) gift_is row_is there = λ p less. (row_same plan starts firsts snapshot facts has nothing row row_is).bytes d p less

  module _ (bytes : AreBytes snapshot) (is_intact : ℕ → Bool) (tells : TellsIntactLevels plan facts snapshot is_intact) where
    some_known : is_some (known_block plan facts d) ≡ is_some (known_by true (gift_of facts d) facts.row d)
    some_known = ap (λ (block : Option (List ℕ)). is_some block) (known_block_is plan facts has.are d)

    pub known_where_had : CanBeHad plan facts is_intact d → is_some (known_block plan facts d) ≡ true
    known_where_had can = some_known ∙ by can.had
      where
        by : IsGivenBlock plan facts d ⊎ IsRestorableStripe plan facts is_intact → is_some (known_by true (gift_of facts d) facts.row d) ≡ true
        by (inl given) = known_by_gift (gift_of facts d) facts.row d given.1
        by (inr enough) = known_by_row (gift_of facts d) facts.row d ((known_by_count plan starts firsts snapshot facts has nothing bytes is_intact tells).1 enough)

    synced : is_synced plan facts.stripe ≡ true
    synced = (and_parts (is_synced plan facts.stripe) (not (is_audit plan.scope.mode)) has.searched).0

    had_where_known : (gift : Option (List ℕ)) (row : Option Row) → gift_of facts d ≡ gift → facts.row ≡ row → is_some (known_by true gift row d) ≡ true → CanBeHad plan facts is_intact d
    had_where_known (Some bytes) row gift_is row_is there = record { sought = synced; had = inl (synced, ap is_some gift_is) }
    had_where_known None None gift_is row_is there = absurd cc
    had_where_known None (Some row) gift_is row_is there =
        record { sought = synced; had = inr ((known_by_count plan starts firsts snapshot facts has nothing bytes is_intact tells).0 (ap is_some row_is)) }

    pub known_as_had : is_some (known_block plan facts d) ≡ true ↔ CanBeHad plan facts is_intact d
    known_as_had = (λ some. had_where_known (gift_of facts d) facts.row refl refl (sym some_known ∙ some), known_where_had)

    pub unknown_where_not : (CanBeHad plan facts is_intact d → ⊥) → is_some (known_block plan facts d) ≡ false
    unknown_where_not never = by (is_some (known_block plan facts d)) refl
      where
        by : (b : Bool) → is_some (known_block plan facts d) ≡ b → b ≡ false
        by false is = refl
        by true is = absurd (never (known_as_had.0 is))

-- ---- a cell whose block can't be had

pub contains_flat : {X A : Type 0} (f : X → List A) (xs : List X) (k : ℕ) (d : X) (a : A) → k < length xs → Contains (f (get_or xs k d)) a → Contains (flat_map f xs) a
contains_flat f [] k d a within there = absurd (omega (arith, within))
contains_flat f (x ∷ xs) zero d a within there = Contains-append_left (f x) (flat_map f xs) a there
contains_flat f (x ∷ xs) (suc k) d a within there = Contains-append_right (f x) (flat_map f xs) a (contains_flat f xs k d a (omega (arith, within)) there)

abbrev lost_of_cell : ℕ → ℕ → Cell → Event
lost_of_cell stripe d cell = event.Lost stripe d cell.rec cell.index

module _ (plan : FixPlan) (stripes : List Mended) (finishes : List (List Finish)) (mended : Mended) (d : ℕ) (cell : Cell)
    (one : IsDamagedOf plan stripes mended d cell) (unknown : is_some (known_block plan mended.facts d) ≡ false) where
  abbrev facts_here : StripeFacts
  facts_here = mended.facts

  abbrev stripe : ℕ
  stripe = mended.facts.stripe

  cell_is_lost : is_lost plan facts_here d ≡ true
  cell_is_lost = and_from _ _ one.selected (and_from _ _ one.damaged (ap not unknown))

  lost_is_not_repaired : is_repaired plan facts_here d ≡ false
  lost_is_not_repaired = by (is_repaired plan facts_here d) refl
    where
      by : (b : Bool) → is_repaired plan facts_here d ≡ b → b ≡ false
      by false is = refl
      by true is = absurd (false≢true (sym unknown ∙ (repaired_parts plan facts_here d is).known))

  lost_is_told : is_audit plan.scope.mode ≡ false → Contains (fix_events plan stripes finishes) (lost_of_cell stripe d cell)
  lost_is_told parity =
      let columns : ℕ = length plan.table.columns in
      let lost_by : ℕ → List Event = λ k. lost_events plan stripe (is_lost plan facts_here k) k in
      let here : lost_by d ≡ lost_of_cell stripe d cell ∷ [] =
      ap₂ (λ (audit lost : Bool). if not audit && lost then lost_event stripe d (cell_at plan stripe d) else []) parity cell_is_lost
      ∙ ap (lost_event stripe d) one.cell_is in
      let at : get_or (range_with_len 0 columns) d 0 ≡ d = get_or-range_with_len 0 columns d 0 one.column ∙ omega arith in
      let told : Contains (lost_by (get_or (range_with_len 0 columns) d 0)) (lost_of_cell stripe d cell) =
      subst (λ (events : List Event). Contains events (lost_of_cell stripe d cell)) (sym (ap lost_by at ∙ here)) (0, omega arith, refl) in
      let in_lost : Contains (flat_map lost_by (range_with_len 0 columns)) (lost_of_cell stripe d cell) =
      contains_flat lost_by (range_with_len 0 columns) d 0 (lost_of_cell stripe d cell) (omega (arith, one.column, length-range_with_len 0 columns)) told in
      let in_stripe : Contains (stripe_events plan facts_here) (lost_of_cell stripe d cell) =
      Contains-append_right (unsynced_events plan stripe) _ _
      (Contains-append_right (all_cell_events plan stripe facts_here.slots) _ _
      (Contains-append_right (all_level_io_events plan stripe facts_here.levels) _ _
      (Contains-append_right (all_level_events plan stripe facts_here.levels facts_here.row) _ _ in_lost))) in
      let in_mended : Contains (mended_events plan mended) (lost_of_cell stripe d cell) =
      Contains-append_left (stripe_events plan facts_here) (all_cell_news plan mended ++ all_level_news plan facts_here) _ in_stripe in
      let in_all : Contains (all_mended_events plan stripes) (lost_of_cell stripe d cell) =
      contains_flat (mended_events plan) stripes one.one.0 mended (lost_of_cell stripe d cell) one.one.1
      (subst (λ (it : Mended). Contains (mended_events plan it) (lost_of_cell stripe d cell)) (sym one.one.2) in_mended) in
      Contains-append_right (opening_events plan) (all_mended_events plan stripes ++ all_finish_news plan finishes) _
      (Contains-append_left (all_mended_events plan stripes) (all_finish_news plan finishes) _ in_all)

  pub lost_here : is_audit plan.scope.mode ≡ false → (is_lost plan facts_here d ≡ true)
      × Contains (fix_events plan stripes finishes) (lost_of_cell stripe d cell) × (is_repaired plan facts_here d ≡ false)
  lost_here parity = (cell_is_lost, lost_is_told parity, lost_is_not_repaired)

-- a recovery is tried where parity is looked at
pub searched_no_audit : (plan : FixPlan) (stripe : ℕ) → is_searched plan stripe ≡ true → is_audit plan.scope.mode ≡ false
searched_no_audit plan stripe searched = by (is_audit plan.scope.mode) (and_parts (is_synced plan stripe) (not (is_audit plan.scope.mode)) searched).1
  where
    by : (b : Bool) → not b ≡ true → b ≡ false
    by false is = refl
    by true is = absurd cc

-- the same cell with other bytes of these values
pub same_cell : {byte other : ℕ → ℕ} (plan : FixPlan) (d : ℕ) (cell : Cell) (lost : Bool) (tree : Tree)
    → ((p : ℕ) → p < plan.table.shape.block_size → byte p ≡ other p) → HoldsCell plan.table d cell lost byte tree → HoldsCell plan.table d cell lost other tree
same_cell plan d cell lost tree same holds = record {
  file = holds.file;
  there = holds.there;
  bytes = λ p less. let here = holds.bytes p less in record { within = here.within; is = here.is ∙ same p (omega (arith, less)) };
}

-- ---- by the facts of a stripe

module _ (plan : FixPlan) (stripes : List Mended) (facts : StripeFacts) (d : ℕ) (cell : Cell) (it : IsDamagedCell plan (facts_of stripes) facts d cell) where
  abbrev of : IsMendedOf plan stripes facts d cell
  of = mended_of plan stripes facts d cell it

  -- with a known block it is held
  pub held_by : (starts : StartsValue) (finishes : List (List Finish)) (firsts news : List FolderView) → HasFixed plan starts stripes finishes firsts news
      → (entry_at plan d cell.rec).blocked ≡ false → is_some (known_block plan facts d) ≡ true → IsTrue (folder_at firsts d).tells
      → HoldsCell plan.table d cell (has_lost plan stripes d cell.rec) (slice_index (block_or_none (known_block plan facts d))) (folder_at news d).tree
  held_by starts finishes firsts news has free known tells =
      subst (λ (its : StripeFacts). is_some (known_block plan its d) ≡ true
      → HoldsCell plan.table d cell (has_lost plan stripes d cell.rec) (slice_index (block_or_none (known_block plan its d))) (folder_at news d).tree) of.facts_are
      (λ there. cell_held plan starts stripes finishes firsts news has of.mended d cell of.is free there tells) known

  -- and without one it is lost
  pub lost_by : (finishes : List (List Finish)) → is_some (known_block plan facts d) ≡ false → is_audit plan.scope.mode ≡ false
      → (is_lost plan facts d ≡ true)
      × Contains (fix_events plan stripes finishes) (lost_of_cell facts.stripe d cell) × (is_repaired plan facts d ≡ false)
  lost_by finishes unknown parity =
      subst (λ (its : StripeFacts). is_some (known_block plan its d) ≡ false → (is_lost plan its d ≡ true)
      × Contains (fix_events plan stripes finishes) (lost_of_cell its.stripe d cell) × (is_repaired plan its d ≡ false)) of.facts_are
      (λ there. lost_here plan stripes finishes of.mended d cell of.is there parity) unknown
