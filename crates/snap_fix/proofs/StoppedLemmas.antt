-- What surely stands of the files of a folder, wherever a fix is stopped or breaks off.
use Rattle.std.proofs.Common.{◌≡◌, ◌≢◌, ◌⊎◌, inl, inr, ⊎_elim, ℕ, ◌+◌, ◌<◌, ◌≤◌, ◌&&◌, not, List, [], length, get_or, IfSome, Bool, true, false, Option, None, Some, IsTrue, refl, sym, ap, ap₂, ◌∙◌, subst, arith}
use Rattle.std.proofs.lemmas.Bool.{cases_eq, cases_lt}
use Rattle.std.proofs.lemmas.List.{get_or-map}
use Rattle.std.proofs.lemmas.List.FromFn.{get_or-map-range_with_len}
use Rattle.folder_listing.specs.Kept.{ListedFile}
use Rattle.disk_model.specs.Folder.{FolderCall, FolderDone, ListFiles, Look, ReadAt, Make, WriteAt, SetSize, SetStamp, Rename}
use Rattle.disk_model.specs.Stopped.{EachCall, IsOwnOrApart, IsUntouchedBy, KeepsPlace, LeavesAlone, written_path}
use Rattle.disk_model.specs.Tree.{Tree, File, file_of, listing_of, path_of}
use Rattle.file_table.specs.Table.{Record, no_record, record_at, records_in}
use Rattle.stripe_reader.specs.Starts.{StartsValue, no_start, start_in, starts_at}
use Rattle.stripe_reader.specs.declared.starts.Place.{Place}
use Rattle.stripe_reader.specs.declared.starts.Place.TheVariants.{Plain, Lost, Nowhere}
use Rattle.stripe_reader.specs.declared.starts.Start.{Start}
use Rattle.snap_fix.specs.Ending.{is_finished}
use Rattle.snap_fix.specs.FixCourse.{IsFixCall, IsForPlace, IsForRecord}
use Rattle.snap_fix.specs.Mended.{Mended, has_lost}
use Rattle.stripe_examiner.specs.Place.{start_of, column_starts, starts_of}
use Rattle.repair_scope.specs.Plan.{FixPlan, entry_at}
use Rattle.file_restorer.specs.State.{first_state, place_by, place_in, record_path}
use Rattle.snap_fix.specs.Stopped.{FixStop, IsNoneOf, IsSpared, IsStop, StandInPlace, StandsSpared, file_or, file_placed, records_of}
use Rattle.snap_fix.specs.Underway.{WritesOneOf}
use Rattle.snap_fix.proofs.FixCallLemmas.{for_cell}
use Rattle.snap_fix.proofs.FixTreeLemmas.{untouched}
use Rattle.snap_fix.proofs.PlacedLemmas.{StandsPlaced, UnnamedStay, lost_stays, plain_stays}
use Rattle.file_restorer.proofs.RecordPathsLemmas.{ArePaths, names_distinct, table_paths}

-- ---- where the files stood that a folder listed

pub listed_in_place : (plan : FixPlan) (lists : List (List ListedFile)) (d : ℕ) (first : Tree) → d < length plan.table.columns → get_or lists d [] ≡ listing_of first
    → StandInPlace plan (starts_of plan.table lists) d first
listed_in_place plan lists d first within listed i below =
    let records = records_in plan.table d in
    let path = record_path records i in
    let column = starts_at (starts_of plan.table lists).columns d in
    let column_is : column ≡ column_starts plan.table lists d = get_or-map-range_with_len (column_starts plan.table lists) 0 (length plan.table.columns) d d [] within (omega arith) in
    let start_is : start_in column i ≡ start_of (listing_of first) path =
    ap (λ (starts : List Start). get_or starts i no_start) column_is
    ∙ get_or-map (λ (kept : Record). start_of (get_or lists d []) kept.path) records i no_record no_start below
    ∙ ap (λ (files : List ListedFile). start_of files path) listed in
    (untouched first path (start_in column i) (first_state (start_of (listing_of first) path)) [] start_is refl refl).holds.place

-- ---- which records calls are for

-- the path of a record that is selected and isn't blocked
abbrev IsFinishedPath : FixPlan → ℕ → List ℕ → Type 0
IsFinishedPath plan d path = (i : ℕ) × (i < length (records_in plan.table d)) × (is_finished plan d i ≡ true) × (path ≡ record_path (records_in plan.table d) i)

both_set : (selected blocked : Bool) → selected ≡ true → blocked ≡ false → (selected && not blocked) ≡ true
both_set true false is free = refl
both_set true true is free = absurd cc
both_set false blocked is free = absurd cc

of_record : (plan : FixPlan) (d i : ℕ) (path : List ℕ) → IsForRecord plan d i path → IsFinishedPath plan d path
of_record plan d i path is = (i, is.within, both_set (entry_at plan d i).selected (entry_at plan d i).blocked is.selected is.free, is.path_is)

of_write : (plan : FixPlan) (d : ℕ) (stripes : List Mended) (path : List ℕ) (at : ℕ) (bytes : List ℕ) → WritesOneOf plan d stripes path at bytes → IsFinishedPath plan d path
of_write plan d stripes path at bytes is =
    let its = is.writes in
    of_record plan d its.cell.rec path (for_cell plan is.mended.facts d its.cell path its.repaired its.cell_is its.path_is)

module _ (plan : FixPlan) (starts : StartsValue) (d : ℕ) (stripes : List Mended) where
  -- a call of a fix writes the file of such a record
  path_written : (call : FolderCall) → IsFixCall plan starts d stripes call → IfSome (written_path call) (IsFinishedPath plan d)
  path_written ListFiles is = absurd is
  path_written (Look path lost) is = tt
  path_written (ReadAt path lost at n) is = tt
  path_written (Make path) is = of_record plan d is.0 path is.1
  path_written (WriteAt path at bytes) is = of_write plan d stripes path at bytes is
  path_written (SetSize path size) is = of_record plan d is.0 path is.1
  path_written (SetStamp path stamp) is = of_record plan d is.0 path is.1
  path_written (Rename path true) is = of_record plan d is.0 path is.1
  path_written (Rename path false) is = of_record plan d is.0 path is.1

if_some : {X : Type 0} (P Q : X → Type 0) (o : Option X) → ((x : X) → P x → Q x) → IfSome o P → IfSome o Q
if_some P Q None wider is = tt
if_some P Q (Some x) wider is = wider x is

-- ---- what a stop leaves

module _ (stop : FixStop) (stops : IsStop stop) where
  abbrev plan : FixPlan
  plan = stop.plan

  abbrev starts : StartsValue
  starts = stop.starts

  abbrev d : ℕ
  d = stop.d

  abbrev stripes : List Mended
  stripes = stop.stripes

  abbrev calls : List FolderDone
  calls = stops.calls

  abbrev first : Tree
  first = stop.first

  abbrev records : List Record
  records = records_of stop

  abbrev is_call : FolderCall → Type 0
  is_call = IsFixCall plan starts d stripes

  paths : ArePaths records
  paths = table_paths plan.table d stops.valid stops.column

  -- what holds of a listing and of each call of a fix holds of each call of the run
  each_call : (P : FolderCall → Type 0) → P ListFiles → ((call : FolderCall) → is_call call → P call) → EachCall P calls
  each_call P listing wider k none within =
      ⊎_elim (λ is. subst P (sym is) listing) (λ is. wider (get_or calls k none).call is) (stops.each k none within)

  -- what is no name of a record that is finished is left alone
  pub left_alone : (name : List ℕ) → IsNoneOf stop name → EachCall (LeavesAlone name) calls
  left_alone name none = each_call (LeavesAlone name) tt (λ call is.
      if_some (IsFinishedPath plan d) (λ (path : List ℕ). (lost : Bool) → path_of path lost ≢ name) (written_path call)
      (λ path of lost same. none of.0 lost of.1 of.2 (sym same ∙ ap (λ (p : List ℕ). path_of p lost) of.3))
      (path_written plan starts d stripes call is))

  -- so are both names of a record that is not
  pub unfinished_alone : (i : ℕ) (lost : Bool) → i < length records → is_finished plan d i ≡ false → IsNoneOf stop (path_of (record_path records i) lost)
  unfinished_alone i lost within not_finished k other also finished same = ⊎_elim
      (λ one. let clash : true ≡ false = sym finished ∙ ap (is_finished plan d) one ∙ not_finished in cc)
      (λ apart. names_distinct records paths i k within also apart other lost (sym same))
      (cases_eq k i)

  module _ (i : ℕ) (within : i < length records) where
    abbrev path : List ℕ
    path = record_path records i

    own_or_apart : EachCall (IsOwnOrApart path) calls
    own_or_apart = each_call (IsOwnOrApart path) tt (λ call is.
        if_some (IsFinishedPath plan d) (λ (other : List ℕ). (other ≡ path) ⊎ ((one two : Bool) → path_of other one ≢ path_of path two)) (written_path call) by
        (path_written plan starts d stripes call is))
      where
        by : (other : List ℕ) → IsFinishedPath plan d other → (other ≡ path) ⊎ ((one two : Bool) → path_of other one ≢ path_of path two)
        by other of = ⊎_elim
            (λ one. inl (of.3 ∙ ap (record_path records) one))
            (λ apart. inr (λ one two same. names_distinct records paths i of.0 within of.1 apart one two (ap (λ (p : List ℕ). path_of p one) (sym of.3) ∙ same)))
            (cases_eq of.0 i)

    -- a call by the place of PATH's file
    place_of : (place : Place) (other : List ℕ) → IsForPlace plan starts d place other → other ≡ path → place_in first path ≡ place
    place_of place other is same = ap (place_in first) (sym same ∙ is.1.path_is) ∙ sym (stops.places is.0 is.1.within) ∙ is.2

    keeps_place : (back : Bool) → place_in first path ≢ Nowhere → (back ≡ false → place_in first path ≢ Lost) → EachCall (KeepsPlace path back) calls
    keeps_place back there plain = each_call (KeepsPlace path back) tt by
      where
        back_is : (b : Bool) → back ≡ b → place_in first path ≡ Lost → IsTrue back
        back_is true is lost = is
        back_is false is lost = absurd (plain is lost)

        by : (call : FolderCall) → is_call call → KeepsPlace path back call
        by ListFiles is = tt
        by (Look other lost) is = tt
        by (ReadAt other lost at n) is = tt
        by (Make other) is = λ same. there (place_of Nowhere other is same)
        by (WriteAt other at bytes) is = tt
        by (SetSize other size) is = tt
        by (SetStamp other stamp) is = tt
        by (Rename other true) is = λ same lost. absurd cc
        by (Rename other false) is = λ same lost. back_is back refl (place_of Lost other is same)

    same_number : (k : ℕ) → k < length records → record_path records k ≡ path → k ≡ i
    same_number k also same = ⊎_elim (λ one. one) (λ apart. absurd (paths.distinct i k within also apart same)) (cases_eq k i)

    -- no call touches a byte that is spared
    untouched_by : (byte : ℕ) → IsSpared stop i byte → EachCall (IsUntouchedBy path byte) calls
    untouched_by byte spared = each_call (IsUntouchedBy path byte) tt by
      where
        beside : (at : ℕ) (bytes : List ℕ) → WritesOneOf plan d stripes path at bytes → (byte < at) ⊎ (at + length bytes ≤ byte)
        beside at bytes writes = ⊎_elim (λ less. inl less)
            (λ from. ⊎_elim (λ before. absurd (spared.unwritten (record { at = at; bytes = bytes; writes = writes; from = from; before = before }))) (λ past. inr past)
            (cases_lt byte (at + length bytes)))
            (cases_lt byte at)

        cut : (k size : ℕ) → k ≡ i → has_lost plan stripes d k ≡ false → size ≡ (record_at plan.table.columns d k).meta.size → byte < size
        cut k size one whole size_is =
            let below = spared.within (ap (has_lost plan stripes d) (sym one) ∙ whole) in
            subst (λ (n : ℕ). byte < n) (ap (λ (j : ℕ). (record_at plan.table.columns d j).meta.size) (sym one) ∙ sym size_is) below

        by : (call : FolderCall) → is_call call → IsUntouchedBy path byte call
        by ListFiles is = tt
        by (Look other lost) is = tt
        by (ReadAt other lost at n) is = tt
        by (Make other) is = tt
        by (WriteAt other at bytes) is = λ same. beside at bytes (subst (λ (p : List ℕ). WritesOneOf plan d stripes p at bytes) same is)
        by (SetSize other size) is = λ same. cut is.0 size (same_number is.0 is.1.within (sym is.1.path_is ∙ same)) is.2 is.3
        by (SetStamp other stamp) is = tt
        by (Rename other lost) is = tt

    stands_spared : (file : File) → StandsPlaced path calls file stop.left → StandsSpared stop i file
    stands_spared file is = record { after = is.after; there = is.there; bytes = λ byte below spared. is.keeps byte below (untouched_by byte spared) }

    -- by what is kept of a file under PATH, and of one under its other name where PATH is free
    pub bytes_stand : (file : File) → UnnamedStay → file_placed first path ≡ Some file → StandsSpared stop i file
    bytes_stand file unnamed placed = by (file_of first (path_of path false)) (file_of first (path_of path true)) refl refl
      where
        by : (one other : Option File) → file_of first (path_of path false) ≡ one → file_of first (path_of path true) ≡ other → StandsSpared stop i file
        by (Some found) other one_is other_is =
            let place : place_in first path ≡ Plain = ap (λ (f : Option File). place_by f (file_of first (path_of path true))) one_is in
            stands_spared file (plain_stays unnamed stop.keeps path calls first stop.left file placed own_or_apart
            (keeps_place false (λ gone. let clash : Plain ≡ Nowhere = sym place ∙ gone in cc) (λ no lost. let clash : Plain ≡ Lost = sym place ∙ lost in cc)) stops.left)
        by None (Some found) one_is other_is =
            let place : place_in first path ≡ Lost = ap (λ (f : Option File). place_by f (file_of first (path_of path true))) one_is ∙ ap (place_by None) other_is in
            stands_spared file (lost_stays unnamed stop.keeps path calls first stop.left file placed one_is own_or_apart
            (keeps_place true (λ gone. let clash : Lost ≡ Nowhere = sym place ∙ gone in cc) (λ no. absurd cc)) stops.left)
        by None None one_is other_is = absurd (let clash : None ≡ Some file = sym (ap₂ file_or one_is other_is) ∙ placed in cc)
