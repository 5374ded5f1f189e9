-- What a fix leaves of a file, said by what stood in its folder at first, what was written to it, and whether a block of it is lost.
use Rattle.std.proofs.Common.{◌≡◌, ◌⊎◌, ⊎_elim, ℕ, ◌<◌, List, [], length, get_or, Bool, true, false, if◌then◌else◌, Option, None, Some, IsTrue, refl, sym, ap, ap₂, ◌∙◌, subst, arith}
use Rattle.std.proofs.lemmas.List.FromFn.{get_or-map-range_with_len}
use Rattle.disk_model.specs.Bytes.{resized}
use Rattle.disk_model.specs.Folder.{FolderView}
use Rattle.disk_model.specs.Tree.{Tree, File, file_of, path_of}
use Rattle.disk_model.specs.declared.meta.Meta.{Meta}
use Rattle.disk_model.specs.declared.meta.Stamp.{Stamp}
use Rattle.file_restorer.specs.Finishing.{HoldsFinished, bytes_now, finish_of, lost_after}
use Rattle.file_restorer.specs.State.{HoldsBy, Write, bytes_or, bytes_placed, has_some, lost_then, place_in, place_then, puts, record_path, size_after, state_in}
use Rattle.file_restorer.specs.declared.finishing.Finish.{Finish}
use Rattle.file_restorer.specs.declared.finishing.Finish.TheVariants.{Kept, Restored, Unstamped, Renamed, Gone}
use Rattle.file_restorer.specs.declared.state.FileState.{FileState}
use Rattle.file_table.specs.Table.{record_at, records_in}
use Rattle.snap_fix.specs.Ending.{AreDone, IsDone, all_finish_news, column_news_at, finish_at, finish_news, finishes_at, is_finished, record_news}
use Rattle.snap_fix.specs.FixCourse.{Written, WritesFiles}
use Rattle.snap_fix.specs.Mended.{Mended, column_writes, has_lost, writes_of}
use Rattle.repair_scope.specs.Plan.{FixPlan, entry_at}
use Rattle.stripe_examiner.proofs.CellFactsLemmas.{flat_map_below}
use Rattle.stripe_reader.specs.Columns.{folder_at}
use Rattle.stripe_reader.specs.Starts.{StartsValue, start_in, starts_at}
use Rattle.stripe_reader.specs.declared.starts.Place.{Place}
use Rattle.stripe_reader.specs.declared.starts.Place.TheVariants.{Plain, Lost, Nowhere}
use Rattle.stripe_reader.specs.declared.starts.Start.{Start}
use Rattle.snap_top.specs.FixedAlike.{bytes_in}

-- ---- what is done to a file, and the bytes that it leaves

-- where a file is looked for, by whether something was written to it
abbrev pub placed : Bool → Place → Place
placed false place = place
placed true place = place_then place

abbrev pub start_by : Place → ℕ → Start
start_by place size = record { place = place; size = size }

abbrev pub state_by : Bool → Bool → ℕ → FileState
state_by lost touched size = record { lost = lost; touched = touched; size = size }

-- what is done to it at the end
abbrev pub finish_by : FixPlan → StartsValue → ℕ → ℕ → Bool → List Write → Tree → (Stamp → Bool) → Finish
finish_by plan starts d i lost writes first keeps =
    let size = (start_in (starts_at starts.columns d) i).size in
    finish_of (record_at plan.table.columns d i).meta (entry_at plan d i).listed
    (start_by (placed (has_some writes) (place_in first (record_path (records_in plan.table d) i))) size)
    (state_by lost (has_some writes) (size_after size writes)) keeps

-- its bytes once all blocks are written, under each of its names
abbrev pub touched_bytes : List Write → Tree → List ℕ → Bool → Option (List ℕ)
touched_bytes writes first path false = Some (puts (bytes_placed first path) writes)
touched_bytes writes first path true = bytes_in (lost_then (place_in first path) (file_of first (path_of path true)))

abbrev pub written_bytes : Bool → List Write → Tree → List ℕ → Bool → Option (List ℕ)
written_bytes false writes first path lost = bytes_in (file_of first (path_of path lost))
written_bytes true writes first path lost = touched_bytes writes first path lost

-- and when it is finished
abbrev pub bytes_either : Option (List ℕ) → Option (List ℕ) → List ℕ
bytes_either (Some bytes) other = bytes
bytes_either None (Some bytes) = bytes
bytes_either None None = []

abbrev pub lost_bytes : Place → Option (List ℕ) → Option (List ℕ)
lost_bytes Plain bytes = bytes
lost_bytes Lost bytes = None
lost_bytes Nowhere bytes = bytes

abbrev pub stays_bytes : Option (List ℕ) → Option (List ℕ) → Bool → Option (List ℕ)
stays_bytes plain other false = plain
stays_bytes plain other true = other

abbrev pub whole_bytes : ℕ → Place → Option (List ℕ) → Option (List ℕ) → Bool → Option (List ℕ)
whole_bytes size place plain other false = Some (resized (bytes_either plain other) size)
whole_bytes size place plain other true = lost_bytes place other

abbrev pub moved_bytes : Option (List ℕ) → Bool → Option (List ℕ)
moved_bytes plain false = None
moved_bytes plain true = plain

abbrev pub finished_bytes : Finish → ℕ → Place → Option (List ℕ) → Option (List ℕ) → Bool → Option (List ℕ)
finished_bytes Kept size place plain other lost = stays_bytes plain other lost
finished_bytes (Restored stamped) size place plain other lost = whole_bytes size place plain other lost
finished_bytes Unstamped size place plain other lost = stays_bytes plain other lost
finished_bytes Renamed size place plain other lost = moved_bytes plain lost
finished_bytes Gone size place plain other lost = None

abbrev pub last_bytes : FixPlan → StartsValue → ℕ → ℕ → Bool → List Write → Tree → (Stamp → Bool) → Bool → Option (List ℕ)
last_bytes plan starts d i lost_one writes first keeps lost =
    let path = record_path (records_in plan.table d) i in
    finished_bytes (finish_by plan starts d i lost_one writes first keeps) (record_at plan.table.columns d i).meta.size (placed (has_some writes) (place_in first path))
    (written_bytes (has_some writes) writes first path false) (written_bytes (has_some writes) writes first path true) lost

-- ---- what holds of a file while blocks are written

place_touch : (touched : Bool) (start : Start) (state : FileState) (writes : List Write) (path : List ℕ) (first later : Tree) → HoldsBy touched start state writes path first later → start.place ≡ placed touched (place_in first path)
place_touch true start state writes path first later h = h.place
place_touch false start state writes path first later h = h.place

bytes_touch : (touched : Bool) (start : Start) (state : FileState) (writes : List Write) (path : List ℕ) (first later : Tree) → HoldsBy touched start state writes path first later → (lost : Bool)
    → bytes_in (file_of later (path_of path lost)) ≡ written_bytes touched writes first path lost
bytes_touch true start state writes path first later h false = ap bytes_in h.there ∙ ap (λ (bytes : List ℕ). Some bytes) h.bytes
bytes_touch true start state writes path first later h true = ap bytes_in h.lost
bytes_touch false start state writes path first later h lost = ap bytes_in (h.same lost)

-- ---- and when it is finished

either_is : (one other : Option File) → bytes_or one (bytes_or other []) ≡ bytes_either (bytes_in one) (bytes_in other)
either_is (Some file) other = refl
either_is None (Some file) = refl
either_is None None = refl

lost_is : (place : Place) (there : Option File) → bytes_in (lost_after place there) ≡ lost_bytes place (bytes_in there)
lost_is Plain there = refl
lost_is Lost there = refl
lost_is Nowhere there = refl

bytes_finish : (finish : Finish) (keeps : Stamp → Bool) (meta : Meta) (start : Start) (state : FileState) (path : List ℕ) (before later : Tree)
    → HoldsFinished finish keeps meta start state (bytes_now before path) path before later → (lost : Bool) → bytes_in (file_of later (path_of path lost))
    ≡ finished_bytes finish meta.size start.place (bytes_in (file_of before (path_of path false))) (bytes_in (file_of before (path_of path true))) lost
bytes_finish Kept keeps meta start state path before later h false = ap bytes_in (h false)
bytes_finish Kept keeps meta start state path before later h true = ap bytes_in (h true)
bytes_finish (Restored stamped) keeps meta start state path before later h false =
    ap bytes_in h.there ∙ ap (λ (bytes : List ℕ). Some bytes) (h.bytes_are
    ∙ ap (λ (bytes : List ℕ). resized bytes meta.size) (either_is (file_of before (path_of path false)) (file_of before (path_of path true))))
bytes_finish (Restored stamped) keeps meta start state path before later h true = ap bytes_in h.lost ∙ lost_is start.place (file_of before (path_of path true))
bytes_finish Unstamped keeps meta start state path before later h false = ap bytes_in (h false)
bytes_finish Unstamped keeps meta start state path before later h true = ap bytes_in (h true)
bytes_finish Renamed keeps meta start state path before later h false = ap bytes_in h.none
bytes_finish Renamed keeps meta start state path before later h true = ap bytes_in h.moved
bytes_finish Gone keeps meta start state path before later h lost = absurd h

-- ---- of a record of a column, once all blocks are written

module _ (plan : FixPlan) (starts : StartsValue) (stripes : List Mended) (firsts : List FolderView) (written : Written) (writes_files : WritesFiles plan starts stripes firsts written) (d : ℕ) (below : d < length plan.table.columns)
    (tells : IsTrue (folder_at firsts d).tells) (i : ℕ) (within : i < length (records_in plan.table d)) where
  abbrev first : FolderView
  first = folder_at firsts d

  abbrev mid : FolderView
  mid = folder_at written.folders d

  abbrev path : List ℕ
  path = record_path (records_in plan.table d) i

  abbrev writes : List Write
  writes = writes_of plan stripes d i

  abbrev start : Start
  start = start_in (starts_at written.starts.columns d) i

  abbrev state : FileState
  state = state_in written.states d i

  abbrev first_size : ℕ
  first_size = (start_in (starts_at starts.columns d) i).size

  its_writes : get_or (column_writes plan stripes d (length (records_in plan.table d))) i [] ≡ writes
  its_writes = get_or-map-range_with_len (writes_of plan stripes d) 0 (length (records_in plan.table d)) i i [] within (omega arith)

  touched_is : state.touched ≡ has_some writes
  touched_is = (writes_files.underway.each d below).touched tells i within

  held : HoldsBy state.touched start state writes path first.tree mid.tree
  held = subst (λ (ws : List Write). HoldsBy state.touched start state ws path first.tree mid.tree) its_writes (((writes_files.underway.each d below).holds tells).each i within).holds

  place_is : start.place ≡ placed (has_some writes) (place_in first.tree path)
  place_is = place_touch state.touched start state writes path first.tree mid.tree held ∙ ap (λ (touched : Bool). placed touched (place_in first.tree path)) touched_is

  size_is : start.size ≡ first_size
  size_is = (writes_files.stood d i).0

  start_is : start ≡ start_by (placed (has_some writes) (place_in first.tree path)) first_size
  start_is = ap₂ (λ (place : Place) (size : ℕ). start_by place size) place_is size_is

  state_is : state ≡ state_by (has_lost plan stripes d i) (has_some writes) (size_after first_size writes)
  state_is =
      ap₂ (λ (lost touched : Bool). state_by lost touched state.size) ((writes_files.underway.each d below).lost i within) touched_is
      ∙ ap (state_by (has_lost plan stripes d i) (has_some writes)) ((writes_files.underway.each d below).sizes i within ∙ ap (λ (size : ℕ). size_after size writes) size_is)

  bytes_mid : (lost : Bool) → bytes_in (file_of mid.tree (path_of path lost)) ≡ written_bytes (has_some writes) writes first.tree path lost
  bytes_mid lost = bytes_touch state.touched start state writes path first.tree mid.tree held lost ∙ ap (λ (touched : Bool). written_bytes touched writes first.tree path lost) touched_is

  pub tells_mid : IsTrue mid.tells
  tells_mid = (writes_files.underway.each d below).calls.goes_on.tells ∙ tells

  keeps_mid : mid.keeps ≡ first.keeps
  keeps_mid = (writes_files.underway.each d below).calls.goes_on.keeps

  -- what is done to it
  finish_is : (finish : Finish) → IsDone plan d (starts_at written.starts.columns d) (get_or written.states d []) mid i finish → finish ≡ finish_by plan starts d i (has_lost plan stripes d i) writes first.tree first.keeps
  finish_is finish is = ⊎_elim
      (λ done. done
      ∙ ap₂ (λ (s : Start) (t : FileState). finish_of (record_at plan.table.columns d i).meta (entry_at plan d i).listed s t mid.keeps) start_is state_is
      ∙ ap (λ (keeps : Stamp → Bool). finish_of (record_at plan.table.columns d i).meta (entry_at plan d i).listed (start_by (placed (has_some writes) (place_in first.tree path)) first_size)
      (state_by (has_lost plan stripes d i) (has_some writes) (size_after first_size writes)) keeps) keeps_mid)
      (λ gone. absurd (let clash : false ≡ true = sym gone.1 ∙ tells_mid in cc))
      is

  -- and what it leaves
  pub bytes_last : (finish : Finish) (keeps : Stamp → Bool) (later : Tree) → IsDone plan d (starts_at written.starts.columns d) (get_or written.states d []) mid i finish
      → HoldsFinished finish keeps (record_at plan.table.columns d i).meta start state (bytes_now mid.tree path) path mid.tree later
      → (lost : Bool) → bytes_in (file_of later (path_of path lost)) ≡ last_bytes plan starts d i (has_lost plan stripes d i) writes first.tree first.keeps lost
  bytes_last finish keeps later is holds lost =
      let size : ℕ = (record_at plan.table.columns d i).meta.size in
      bytes_finish finish keeps (record_at plan.table.columns d i).meta start state path mid.tree later holds lost
      ∙ ap₂ (λ (f : Finish) (p : Place). finished_bytes f size p (bytes_in (file_of mid.tree (path_of path false))) (bytes_in (file_of mid.tree (path_of path true))) lost) (finish_is finish is) place_is
      ∙ ap₂ (λ (plain other : Option (List ℕ)). finished_bytes (finish_by plan starts d i (has_lost plan stripes d i) writes first.tree first.keeps) size (placed (has_some writes) (place_in first.tree path)) plain other lost)
      (bytes_mid false) (bytes_mid true)

-- ---- two fixes of one plan, of which the same is written and lost

module _ (plan : FixPlan) (starts : StartsValue) (ones others : List Mended) (firsts firsts_then : List FolderView) (written written_then : Written) (writes_files : WritesFiles plan starts ones firsts written)
    (writes_then : WritesFiles plan starts others firsts_then written_then) (finishes finishes_then : List (List Finish)) (tells : (d : ℕ) → d < length plan.table.columns → IsTrue (folder_at firsts d).tells)
    (tells_then : (d : ℕ) → d < length plan.table.columns → IsTrue (folder_at firsts_then d).tells) (trees : (d : ℕ) → d < length plan.table.columns → (folder_at firsts d).tree ≡ (folder_at firsts_then d).tree)
    (keeps : (d : ℕ) → d < length plan.table.columns → (folder_at firsts d).keeps ≡ (folder_at firsts_then d).keeps)
    (lost : (d i : ℕ) → d < length plan.table.columns → has_lost plan ones d i ≡ has_lost plan others d i) (wrote : (d i : ℕ) → d < length plan.table.columns → writes_of plan ones d i ≡ writes_of plan others d i) where
  module _ (are : AreDone plan written.starts written.states written.folders finishes) (are_then : AreDone plan written_then.starts written_then.states written_then.folders finishes_then) where
    finish_same : (d i : ℕ) → d < length plan.table.columns → i < length (records_in plan.table d) → is_finished plan d i ≡ true → finish_at (finishes_at finishes d) i ≡ finish_at (finishes_at finishes_then d) i
    finish_same d i below within finished =
        finish_is plan starts ones firsts written writes_files d below (tells d below) i within (finish_at (finishes_at finishes d) i) (are d i below within finished)
        ∙ ap₂ (λ (l : Bool) (ws : List Write). finish_by plan starts d i l ws (folder_at firsts d).tree (folder_at firsts d).keeps) (lost d i below) (wrote d i below)
        ∙ ap₂ (λ (tree : Tree) (k : Stamp → Bool). finish_by plan starts d i (has_lost plan others d i) (writes_of plan others d i) tree k) (trees d below) (keeps d below)
        ∙ sym (finish_is plan starts others firsts_then written_then writes_then d below (tells_then d below) i within (finish_at (finishes_at finishes_then d) i) (are_then d i below within finished))

    news_same : (d i : ℕ) → d < length plan.table.columns → i < length (records_in plan.table d) → record_news plan d (finishes_at finishes d) i ≡ record_news plan d (finishes_at finishes_then d) i
    news_same d i below within = by (is_finished plan d i) refl
      where
        by : (b : Bool) → is_finished plan d i ≡ b
            → (if b then finish_news d i (finish_at (finishes_at finishes d) i) else []) ≡ (if b then finish_news d i (finish_at (finishes_at finishes_then d) i) else [])
        by true finished = ap (finish_news d i) (finish_same d i below within finished)
        by false finished = refl

    column_news_same : (d : ℕ) → d < length plan.table.columns → column_news_at plan finishes d ≡ column_news_at plan finishes_then d
    column_news_same d below = flat_map_below (record_news plan d (finishes_at finishes d)) (record_news plan d (finishes_at finishes_then d)) (length (records_in plan.table d)) (λ i within. news_same d i below within)

    pub all_news_same : all_finish_news plan finishes ≡ all_finish_news plan finishes_then
    all_news_same = flat_map_below (column_news_at plan finishes) (column_news_at plan finishes_then) (length plan.table.columns) column_news_same

  pub last_same : (d i : ℕ) → d < length plan.table.columns → (named : Bool)
      → last_bytes plan starts d i (has_lost plan ones d i) (writes_of plan ones d i) (folder_at firsts d).tree (folder_at firsts d).keeps named
      ≡ last_bytes plan starts d i (has_lost plan others d i) (writes_of plan others d i) (folder_at firsts_then d).tree (folder_at firsts_then d).keeps named
  last_same d i below named =
      ap₂ (λ (l : Bool) (ws : List Write). last_bytes plan starts d i l ws (folder_at firsts d).tree (folder_at firsts d).keeps named) (lost d i below) (wrote d i below)
      ∙ ap₂ (λ (tree : Tree) (k : Stamp → Bool). last_bytes plan starts d i (has_lost plan others d i) (writes_of plan others d i) tree k named) (trees d below) (keeps d below)
