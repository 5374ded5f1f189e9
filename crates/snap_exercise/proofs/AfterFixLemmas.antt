-- What a fix leaves of the files of its table, where it leaves no finding.
use Rattle.std.proofs.Common.{◌≡◌, ◌⊎◌, inl, inr, ⊎_elim, ℕ, zero, suc, ◌<◌, ◌&&◌, ◌||◌, List, [], ◌∷◌, ◌++◌, length, get_or, Bool, true, false, if◌then◌else◌, IsTrue, Option, None, Some, refl, sym, ap, ap₂, ◌∙◌, subst, arith}
use Rattle.std.specs.Prelude.{All, bytes_eq, count_by, not}
use Rattle.std.specs.Cmp.Lexicographic.{nat_list_cmp_total}
use Rattle.std.specs.FinMap as finite
use Rattle.std.specs.FinMap.{nat_cmp-IsAntisymmetric, slice_cmp-IsAntisymmetric}
use Rattle.std.specs.List.{flat_map, range_with_len}
use Rattle.std.proofs.lemmas.List.FromFn.{get_or-map-range_with_len, length-range_with_len}
use Rattle.std.proofs.lemmas.List.Folds.{list_any_none}
use Rattle.std.proofs.lemmas.Slice.Eq.{bytes_eq-Decides}
use Rattle.disk_model.specs.Bytes.{resized}
use Rattle.disk_model.specs.Folder.{FolderView}
use Rattle.disk_model.specs.Tree.{File, Tree, file_of, path_of}
use Rattle.disk_model.specs.declared.meta.Meta.{Meta}
use Rattle.disk_model.specs.declared.meta.Stamp.{Stamp}
use Rattle.file_restorer.specs.Finishing.{StandsWhole, bytes_now, lost_after}
use Rattle.file_restorer.specs.State.{HoldsBy, HoldsColumn, HoldsRecord, IsNameOf, Write, bytes_or, bytes_placed, has_some, lost_then, no_state, place_in, place_then, puts, record_path}
use Rattle.file_restorer.specs.declared.finishing.Finish.{Finish}
use Rattle.file_restorer.specs.declared.state.FileState.{FileState}
use Rattle.file_table.specs.Table.{Record, record_at, records_in}
use Rattle.snap_exercise.proofs.LawLemmas.{keeps_all}
use Rattle.file_table.specs.declared.block.Cell.{Cell}
use Rattle.snap_exercise.proofs.AlikeLemmas.{in_range}
use Rattle.snap_fix.specs.Ending.{is_finished}
use Rattle.snap_fix.specs.FixCourse.{FixesFiles}
use Rattle.snap_fix.specs.Mended.{Mended, all_cell_news, all_level_news, all_mended_events, answer_of, column_writes, has_lost, is_gone, is_of, is_repaired, loses, mended_events, writes_of}
use Rattle.snap_fix.proofs.FixCountLemmas.{count_append}
use Rattle.snap_report.specs.Kind.{is_left}
use Rattle.snap_report.specs.declared.events.Event.{Event}
use Rattle.snap_report.specs.declared.events.Event.TheVariants as event
use Rattle.stripe_examiner.specs.Findings.{all_cell_events, all_level_events, all_level_io_events, all_lost_events, changed_event, column_events, file_events, is_lost, lost_event, lost_events, opening_events, record_events, stripe_events, unsynced_events}
use Rattle.repair_scope.specs.Plan.{FixPlan, cell_at, entry_at, is_audit}
use Rattle.repair_scope.specs.declared.entry.Entry.{Entry}
use Rattle.stripe_reader.specs.Columns.{folder_at}
use Rattle.stripe_reader.specs.Starts.{StartsValue, no_start, starts_at}
use Rattle.stripe_reader.specs.declared.starts.Place.{Place}
use Rattle.stripe_reader.specs.declared.starts.Start.{Start}

-- ---- no finding is left: none in any part

flat_none : {X : Type 0} (f : X → List Event) (xs : List X) (e : X) → count_by is_left (flat_map f xs) ≡ 0 → (k : ℕ) → k < length xs → count_by is_left (f (get_or xs k e)) ≡ 0
flat_none f [] e none k within = absurd (omega (arith, within))
flat_none f (x ∷ xs) e none zero within =
    let total : count_by is_left (f x ++ flat_map f xs) ≡ 0 = none in
    omega (arith, count_append is_left (f x) (flat_map f xs), total)
flat_none f (x ∷ xs) e none (suc k) within =
    let total : count_by is_left (f x ++ flat_map f xs) ≡ 0 = none in
    let rest : count_by is_left (flat_map f xs) ≡ 0 = omega (arith, count_append is_left (f x) (flat_map f xs), total) in
    flat_none f xs e rest k (omega (arith, within))

range_none : (f : ℕ → List Event) (n k : ℕ) → k < n → count_by is_left (flat_map f (range_with_len 0 n)) ≡ 0 → count_by is_left (f k) ≡ 0
range_none f n k few none =
    let within : k < length (range_with_len 0 n) = omega (arith, few, length-range_with_len 0 n) in
    subst (λ (j : ℕ). count_by is_left (f j) ≡ 0) (in_range n k within).0 (flat_none f (range_with_len 0 n) 0 none k within)

behind_none : (front back : List Event) → count_by is_left (front ++ back) ≡ 0 → count_by is_left back ≡ 0
behind_none front back none = omega (arith, count_append is_left front back, none)

front_none : (front back : List Event) → count_by is_left (front ++ back) ≡ 0 → count_by is_left front ≡ 0
front_none front back none = omega (arith, count_append is_left front back, none)

-- ---- so no record is blocked

blocked_by : (selected blocked : Bool) (d i : ℕ) (changed : List Event) → selected ≡ true
    → count_by is_left (if selected then changed ++ (if blocked && not false then event.Blocked d i ∷ [] else []) else []) ≡ 0 → blocked ≡ false
blocked_by true true d i changed is none = absurd (let one : count_by is_left (event.Blocked d i ∷ []) ≡ 1 = refl in omega (arith, behind_none changed (event.Blocked d i ∷ []) none, one))
blocked_by true false d i changed is none = refl
blocked_by false blocked d i changed is none = absurd (let clash : false ≡ true = is in cc)

file_free : (audit : Bool) (d i : ℕ) (meta : Meta) (entry : Entry) → audit ≡ false → entry.selected ≡ true → count_by is_left (file_events audit d i meta entry) ≡ 0 → entry.blocked ≡ false
file_free true d i meta entry is selected none = absurd (let clash : true ≡ false = is in cc)
file_free false d i meta entry is selected none = blocked_by entry.selected entry.blocked d i (changed_event d i meta entry) selected none

pub all_free : (plan : FixPlan) → is_audit plan.scope.mode ≡ false → count_by is_left (opening_events plan) ≡ 0 → (d i : ℕ) → d < length plan.table.columns → i < length (records_in plan.table d)
    → (entry_at plan d i).selected ≡ true → (entry_at plan d i).blocked ≡ false
all_free plan audits none d i below inside selected =
    file_free (is_audit plan.scope.mode) d i (record_at plan.table.columns d i).meta (entry_at plan d i) audits selected
    (range_none (record_events plan d) (length (records_in plan.table d)) i inside (range_none (column_events plan) (length plan.table.columns) d below none))

-- ---- and none is lost

pub and_none : (b : Bool) → (b && false) ≡ false
and_none true = refl
and_none false = refl

gone_none : (wanted answer : Bool) → (wanted ≡ true → answer ≡ true) → (wanted && not answer) ≡ false
gone_none true answer says = ap (λ (b : Bool). not b) (says refl)
gone_none false answer says = refl

loses_by : (audit lost gone : Bool) (stripe d i : ℕ) (cell : Option Cell) → audit ≡ false → gone ≡ false → count_by is_left (if not audit && lost then lost_event stripe d cell else []) ≡ 0
    → (is_of i cell && (lost || gone)) ≡ false
loses_by audit lost gone stripe d i None is there none = refl
loses_by true lost gone stripe d i (Some cell) is there none = absurd (let clash : true ≡ false = is in cc)
loses_by false true gone stripe d i (Some cell) is there none =
    absurd (let one : count_by is_left (event.Lost stripe d cell.rec cell.index ∷ []) ≡ 1 = refl in omega (arith, one, none))
loses_by false false true stripe d i (Some cell) is there none = absurd (let clash : true ≡ false = there in cc)
loses_by false false false stripe d i (Some cell) is there none = and_none (is_of i (Some cell))

lost_part : (plan : FixPlan) (mended : Mended) → count_by is_left (mended_events plan mended) ≡ 0
    → count_by is_left (all_lost_events plan mended.facts.stripe (is_lost plan mended.facts)) ≡ 0
lost_part plan mended none =
    let facts = mended.facts in
    let lost = all_lost_events plan facts.stripe (is_lost plan facts) in
    let levels = all_level_events plan facts.stripe facts.levels facts.row in
    let ios = all_level_io_events plan facts.stripe facts.levels in
    let cells = all_cell_events plan facts.stripe facts.slots in
    behind_none levels lost
    (behind_none ios (levels ++ lost)
    (behind_none cells (ios ++ (levels ++ lost))
    (behind_none (unsynced_events plan facts.stripe) (cells ++ (ios ++ (levels ++ lost)))
    (front_none (stripe_events plan facts) (all_cell_news plan mended ++ all_level_news plan facts) none))))

pub none_lost : (plan : FixPlan) (stripes : List Mended) → is_audit plan.scope.mode ≡ false → count_by is_left (all_mended_events plan stripes) ≡ 0
    → All (λ (mended : Mended). (d : ℕ) → d < length plan.table.columns → is_repaired plan mended.facts d ≡ true → answer_of mended d ≡ true) stripes
    → (d i : ℕ) → d < length plan.table.columns → has_lost plan stripes d i ≡ false
none_lost plan stripes audits none answered d i below = list_any_none (loses plan d i) stripes (λ k e within.
    let mended : Mended = get_or stripes k e in
    let facts = mended.facts in
    loses_by (is_audit plan.scope.mode) (is_lost plan facts d) (is_gone plan mended d) facts.stripe d i (cell_at plan facts.stripe d) audits
    (gone_none (is_repaired plan facts d) (answer_of mended d) (answered k e within d below))
    (range_none (λ (c : ℕ). lost_events plan facts.stripe (is_lost plan facts c) c) (length plan.table.columns) d below (lost_part plan mended (flat_none (mended_events plan) stripes e none k within))))

-- ---- the files of a record

-- what stands under PATH`.unrecoverable` at last, by whether something was written to the file of PATH
abbrev pub lost_by : Bool → Place → Option File → Option File
lost_by false place file = lost_after place file
lost_by true place file = lost_after (place_then place) (lost_then place file)

bytes_held : (b : Bool) (start : Start) (state : FileState) (writes : List Write) (path : List ℕ) (first later : Tree) → HoldsBy b start state writes path first later
    → bytes_placed later path ≡ puts (bytes_placed first path) writes
bytes_held false start state writes path first later holds =
    ap₂ (λ (plain other : Option File). bytes_or plain (bytes_or other [])) (holds.same false) (holds.same true) ∙ ap (puts (bytes_placed first path)) (sym holds.none)
bytes_held true start state writes path first later holds =
    ap (λ (plain : Option File). bytes_or plain (bytes_or (file_of later (path_of path true)) [])) holds.there ∙ holds.bytes

lost_held : (b : Bool) (start : Start) (state : FileState) (writes : List Write) (path : List ℕ) (first later : Tree) → HoldsBy b start state writes path first later
    → lost_after start.place (file_of later (path_of path true)) ≡ lost_by b (place_in first path) (file_of first (path_of path true))
lost_held false start state writes path first later holds = ap₂ (λ (place : Place) (file : Option File). lost_after place file) holds.place (holds.same true)
lost_held true start state writes path first later holds = ap₂ (λ (place : Place) (file : Option File). lost_after place file) holds.place holds.lost

-- the file of a record at last: its recorded stamp, and what was there with what was written, in the recorded size
abbrev pub file_left : Meta → List ℕ → File
file_left meta bytes = record { stamp = meta.stamp; bytes = resized bytes meta.size }

-- What a folder holds of the records of a column at last, by what was written to their files.
pub record IsLeft (plan : FixPlan) (stripes : List Mended) (d : ℕ) (first last : Tree) : Type 0 where
  pub files : (i : ℕ) → i < length (records_in plan.table d)
      → file_of last (path_of (record_path (records_in plan.table d) i) false)
      ≡ Some (file_left (record_at plan.table.columns d i).meta (puts (bytes_placed first (record_path (records_in plan.table d) i)) (writes_of plan stripes d i)))
  pub lost : (i : ℕ) → i < length (records_in plan.table d)
      → file_of last (path_of (record_path (records_in plan.table d) i) true)
      ≡ lost_by (has_some (writes_of plan stripes d i)) (place_in first (record_path (records_in plan.table d) i)) (file_of first (path_of (record_path (records_in plan.table d) i) true))
  pub others : (name : List ℕ) → ¬ (IsNameOf (records_in plan.table d) name) → file_of last name ≡ file_of first name

module _ (plan : FixPlan) (starts : StartsValue) (stripes : List Mended) (finishes : List (List Finish)) (mids news : List FolderView) (files : FixesFiles plan starts stripes finishes mids news)
    (tells : (d : ℕ) → d < length plan.table.columns → IsTrue (folder_at mids d).tells) (keeps : (d : ℕ) → d < length plan.table.columns → (folder_at mids d).keeps ≡ keeps_all)
    (finished : (d i : ℕ) → d < length plan.table.columns → i < length (records_in plan.table d) → is_finished plan d i ≡ true)
    (kept : (d i : ℕ) → d < length plan.table.columns → has_lost plan stripes d i ≡ false) (d : ℕ) (below : d < length plan.table.columns) where
  abbrev records : List Record
  records = records_in plan.table d

  abbrev first : Tree
  first = (folder_at mids d).tree

  abbrev mid : FolderView
  mid = folder_at files.written.folders d

  abbrev last : Tree
  last = (folder_at news d).tree

  abbrev states : List FileState
  states = get_or files.written.states d []

  holds : HoldsColumn records (starts_at files.written.starts.columns d) states (column_writes plan stripes d (length records)) first mid.tree
  holds = (files.writes.underway.each d below).holds (tells d below)

  mid_tells : IsTrue mid.tells
  mid_tells = (files.writes.underway.each d below).calls.goes_on.tells ∙ tells d below

  mid_keeps : mid.keeps ≡ keeps_all
  mid_keeps = (files.writes.underway.each d below).calls.goes_on.keeps ∙ keeps d below

  module _ (i : ℕ) (inside : i < length records) where
    abbrev path : List ℕ
    path = record_path records i

    abbrev meta : Meta
    meta = (record_at plan.table.columns d i).meta

    abbrev start : Start
    start = get_or (starts_at files.written.starts.columns d) i no_start

    abbrev state : FileState
    state = get_or states i no_state

    abbrev written : List Write
    written = writes_of plan stripes d i

    held : HoldsRecord start state written path first mid.tree
    held = subst (λ (ws : List Write). HoldsRecord start state ws path first mid.tree) (get_or-map-range_with_len (writes_of plan stripes d) 0 (length records) i i [] inside (omega arith)) (holds.each i inside)

    whole : StandsWhole mid.keeps meta start.place (bytes_now mid.tree path) path mid.tree last
    whole = (files.finished d below).whole mid_tells i inside (finished d i below inside) ((files.writes.underway.each d below).lost i inside ∙ kept d i below)

    file_is : file_of last (path_of path false) ≡ Some (file_left meta (puts (bytes_placed first path) written))
    file_is =
        let bytes_are : whole.file.bytes ≡ resized (puts (bytes_placed first path) written) meta.size
        = whole.bytes_are ∙ ap (λ (bytes : List ℕ). resized bytes meta.size) (bytes_held state.touched start state written path first mid.tree held.holds) in
        whole.there ∙ ap₂ (λ (stamp : Stamp) (bytes : List ℕ). let file : File = record { stamp = stamp; bytes = bytes } in Some file) (whole.stamp (ap (λ (keeps_it : Stamp → Bool). keeps_it meta.stamp) mid_keeps)) bytes_are

    lost_is : file_of last (path_of path true) ≡ lost_by (has_some written) (place_in first path) (file_of first (path_of path true))
    lost_is = whole.lost ∙ lost_held state.touched start state written path first mid.tree held.holds
        ∙ ap (λ (b : Bool). lost_by b (place_in first path) (file_of first (path_of path true))) ((files.writes.underway.each d below).touched (tells d below) i inside)

  pub is_left_of : IsLeft plan stripes d first last
  is_left_of = record {
    files = file_is;
    lost = lost_is;
    others = λ name none. (files.finished d below).others mid_tells name (λ i lost inside due same. none (i, lost, inside, same)) ∙ holds.others name none;
  }

-- ---- what two of them left

-- whether a name is one of the records'
pub name_among : (records : List Record) (name : List ℕ) → (IsNameOf records name) ⊎ (¬ (IsNameOf records name))
name_among [] name = inr (λ one. omega (arith, one.2))
name_among (kept ∷ records) name = by_test (name_among records name) (bytes_eq name (path_of kept.path false)) (bytes_eq name (path_of kept.path true)) refl refl
  where
    not_so : (lost : Bool) → bytes_eq name (path_of kept.path lost) ≡ false → name ≡ path_of kept.path lost → ⊥
    not_so lost is same = let clash : true ≡ false = sym ((bytes_eq-Decides name (path_of kept.path lost)).1 same) ∙ is in cc

    none_of : bytes_eq name (path_of kept.path false) ≡ false → bytes_eq name (path_of kept.path true) ≡ false → ¬ (IsNameOf records name)
        → (i : ℕ) (lost : Bool) → i < length (kept ∷ records) → name ≡ path_of (record_path (kept ∷ records) i) lost → ⊥
    none_of plain other behind zero true inside same = not_so true other same
    none_of plain other behind zero false inside same = not_so false plain same
    none_of plain other behind (suc i) lost inside same = behind (i, lost, omega (arith, inside), same)

    by_rest : bytes_eq name (path_of kept.path false) ≡ false → bytes_eq name (path_of kept.path true) ≡ false → (IsNameOf records name) ⊎ (¬ (IsNameOf records name)) → (IsNameOf (kept ∷ records) name) ⊎ (¬ (IsNameOf (kept ∷ records) name))
    by_rest plain other (inl one) = inl (suc one.0, one.1, omega (arith, one.2), one.3)
    by_rest plain other (inr none) = inr (λ one. none_of plain other none one.0 one.1 one.2 one.3)

    by_test : (IsNameOf records name) ⊎ (¬ (IsNameOf records name)) → (plain other : Bool) → bytes_eq name (path_of kept.path false) ≡ plain → bytes_eq name (path_of kept.path true) ≡ other → (IsNameOf (kept ∷ records) name) ⊎ (¬ (IsNameOf (kept ∷ records) name))
    by_test rest true other is also = inl (0, false, omega arith, (bytes_eq-Decides name (path_of kept.path false)).0 is)
    by_test rest false true is also = inl (0, true, omega arith, (bytes_eq-Decides name (path_of kept.path true)).0 also)
    by_test rest false false is also = by_rest is also rest

module _ (plan : FixPlan) (ones others : List Mended) (d : ℕ) (first one other : Tree) (writes : (i : ℕ) → writes_of plan ones d i ≡ writes_of plan others d i)
    (left : IsLeft plan ones d first one) (left_then : IsLeft plan others d first other) where
  same_at : (i : ℕ) (lost : Bool) → i < length (records_in plan.table d) → file_of one (path_of (record_path (records_in plan.table d) i) lost) ≡ file_of other (path_of (record_path (records_in plan.table d) i) lost)
  same_at i false inside =
      left.files i inside
      ∙ ap (λ (ws : List Write). let it : Option File = Some (file_left (record_at plan.table.columns d i).meta (puts (bytes_placed first (record_path (records_in plan.table d) i)) ws)) in it) (writes i)
      ∙ sym (left_then.files i inside)
  same_at i true inside =
      left.lost i inside
      ∙ ap (λ (ws : List Write). lost_by (has_some ws) (place_in first (record_path (records_in plan.table d) i)) (file_of first (path_of (record_path (records_in plan.table d) i) true))) (writes i)
      ∙ sym (left_then.lost i inside)

  pub same_left : one ≡ other
  same_left = finite.same_map nat_list_cmp_total (slice_cmp-IsAntisymmetric nat_cmp-IsAntisymmetric) one other (λ name. ⊎_elim
      (λ is. subst (λ (n : List ℕ). file_of one n ≡ file_of other n) (sym is.3) (same_at is.0 is.1 is.2))
      (λ none. left.others name none ∙ sym (left_then.others name none))
      (name_among (records_in plan.table d) name))
