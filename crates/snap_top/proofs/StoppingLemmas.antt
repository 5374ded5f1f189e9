-- What a stop within a fix leaves of the files, and that the next fix can restore as much.
use Rattle.std.proofs.Common.{◌≡◌, inl, inr, ℕ, ◌<◌, ◌≤◌, List, [], ◌∷◌, length, drop, get_or, Bool, true, false, IsTrue, Some, cond, refl, sym, ap, ◌∙◌, subst, arith}
use Rattle.std.specs.Prelude.{filter, not}
use Rattle.std.specs.List.{range_with_len}
use Rattle.std.proofs.Math.Seq.{drop-append_seam}
use Rattle.folder_listing.specs.Kept.{ListedFile}
use Rattle.disk_model.specs.Folder.{FolderView, FolderDone}
use Rattle.disk_model.specs.Opener.{folder_held}
use Rattle.disk_model.specs.Stopped.{MayBeLeft}
use Rattle.disk_model.specs.Tree.{File, Tree, file_of, listing_of, path_of}
use Rattle.disk_model.specs.declared.meta.Stamp.{Stamp}
use Rattle.file_table.specs.Table.{TableValue}
use Rattle.file_table.specs.Valid.{IsValid}
use Rattle.file_table.specs.declared.block.Cell.{Cell}
use Rattle.snap_fix.specs.Again.{IsFoundAgain, IsFoundIn, IsLookedAt}
use Rattle.snap_fix.specs.Ending.{is_finished}
use Rattle.stripe_examiner.specs.Facts.{StripeFacts, damaged_at, is_missing, missing_in}
use Rattle.snap_fix.specs.Mended.{Mended}
use Rattle.repair_scope.specs.Plan.{FixPlan}
use Rattle.stripe_examiner.specs.Place.{starts_of}
use Rattle.file_restorer.specs.State.{AnyCall, FolderMakes}
use Rattle.snap_fix.specs.Stopped.{FixStop, IsCellSpared, IsNoneOf, IsStop, StandInPlace, StandsInCell, StandsSpared, file_placed, path_at, records_of}
use Rattle.snap_top.specs.Fix.{FixRun, IsRunCall}
use Rattle.snap_top.specs.Began.{IsFixOf}
use Rattle.snap_top.specs.Entry.{Entry, Exit}
use Rattle.snap_top.specs.Stopping.{FindsNoLess, FolderStandsIn, MayStandLeft, SparesFiles, stop_of}
use Rattle.snap_top.specs.Undamaged.{HasEnough, undamaged_levels, was_read}
use Rattle.snap_top.specs.Views.{calls_since, folder_at}

-- ---- what snap_fix says of a stop

abbrev pub BytesAreSpared : Type 0
BytesAreSpared = (stop : FixStop) (i : ℕ) (file : File) → IsStop stop → i < length (records_of stop) → file_placed stop.first (path_at stop i) ≡ Some file → StandsSpared stop i file

abbrev pub NotSelectedStay : Type 0
NotSelectedStay = (stop : FixStop) (i : ℕ) (lost : Bool) → IsStop stop → i < length (records_of stop) → is_finished stop.plan stop.d i ≡ false
    → file_of stop.left (path_of (path_at stop i) lost) ≡ file_of stop.first (path_of (path_at stop i) lost)

abbrev pub OthersStay : Type 0
OthersStay = (stop : FixStop) (name : List ℕ) → IsStop stop → IsNoneOf stop name → file_of stop.left name ≡ file_of stop.first name

abbrev pub CellsAreSpared : Type 0
CellsAreSpared = (stop : FixStop) (cell : Cell) (file : File) → IsStop stop → IsCellSpared stop cell → cell.rec < length (records_of stop) → file_placed stop.first (path_at stop cell.rec) ≡ Some file
    → StandsInCell stop cell file

abbrev pub ListedStandInPlace : Type 0
ListedStandInPlace = (plan : FixPlan) (lists : List (List ListedFile)) (d : ℕ) (first : Tree) → d < length plan.table.columns → get_or lists d [] ≡ listing_of first → StandInPlace plan (starts_of plan.table lists) d first

abbrev pub RightAgain : Type 0
RightAgain = (stop : FixStop) (plan : FixPlan) (facts again : StripeFacts) → IsStop stop → IsLookedAt stop facts → IsFoundIn stop.plan stop.d stop.first facts → damaged_at stop.plan facts stop.d ≡ false
    → IsFoundAgain stop plan facts again → damaged_at plan again stop.d ≡ false

pub record SaysOfStops : Type 0 where
  pub bytes : BytesAreSpared
  pub cells : CellsAreSpared
  pub not_selected : NotSelectedStay
  pub others : OthersStay
  pub listed : ListedStandInPlace
  pub again : RightAgain

-- ---- a stop within the fix of a run

-- what was left is among what a stop within all calls of the fix may leave
left_within : (P : FolderDone → Type 0) (old new : FolderView) (left : Tree) (makes : FolderMakes P old new) → ((told : IsTrue old.tells) → MayBeLeft old.keeps makes.done old.tree new.tree) → IsTrue old.tells
    → MayStandLeft old new left → MayBeLeft old.keeps makes.done old.tree left
left_within P old new left makes at_end tells (inl same) = subst (λ (tree : Tree). MayBeLeft old.keeps makes.done old.tree tree) (sym same) (at_end tells)
left_within P old new left makes at_end tells (inr at) =
    let calls : calls_since old new ≡ makes.done = ap (drop (length old.calls)) (makes.goes_on.calls.more at.0) ∙ drop-append_seam old.calls makes.done in
    subst (λ (done : List FolderDone). MayBeLeft old.keeps done old.tree left) calls at.1

pub stop_is : ListedStandInPlace → (before : Entry) (exit : Exit) (run : FixRun) (d : ℕ) (left : Tree) → IsFixOf before exit run → FolderStandsIn before exit d left
    → IsStop (stop_of run d (folder_held before.opener d).tree left)
stop_is listed before exit run d left is at =
    let old : FolderView = folder_held before.opener d in
    let new : FolderView = folder_at exit.after.folders d in
    let makes : FolderMakes (AnyCall (IsRunCall run d)) old new = is.makes.each d at.within in
    let over = is.over in
    let within : d < length run.folders = subst (λ (folders : List FolderView). d < length folders) (sym is.folders_are) at.within in
    let table : run.plan.table ≡ run.loaded = over.plan_is.table_is in
    let below : d < length run.plan.table.columns = subst (λ (n : ℕ). d < n) (over.columns ∙ ap (λ (t : TableValue). length t.columns) (sym table)) within in
    let held : folder_at run.folders d ≡ old = ap (λ (folders : List FolderView). folder_at folders d) is.folders_are in
    let lists = (over.listed.each d within).found in
    let found : get_or run.lists d [] ≡ listing_of old.tree
    = subst (λ (folder : FolderView). IsTrue folder.tells → get_or run.lists d [] ≡ listing_of folder.tree) held lists at.tells in
    record {
      valid = subst IsValid (sym table) over.valid;
      column = below;
      places = subst (λ (t : TableValue). StandInPlace run.plan (starts_of t run.lists) d old.tree) table (listed run.plan run.lists d old.tree below found);
      calls = makes.done;
      each = makes.each;
      left = subst (λ (keeps : Stamp → Bool). MayBeLeft keeps makes.done old.tree left) (sym (ap (λ (folder : FolderView). folder.keeps) held))
          (left_within (AnyCall (IsRunCall run d)) old new left makes (λ told. makes.left told at.is_tree) at.tells at.stands);
    }

pub stop_spares : SaysOfStops → (before : Entry) (exit : Exit) (run : FixRun) (d : ℕ) (left : Tree) → IsFixOf before exit run → FolderStandsIn before exit d left
    → SparesFiles (stop_of run d (folder_held before.opener d).tree left)
stop_spares says before exit run d left is at =
    let stop : FixStop = stop_of run d (folder_held before.opener d).tree left in
    let is_stop : IsStop stop = stop_is says.listed before exit run d left is at in
    record {
      bytes = λ i file there. says.bytes stop i file is_stop there;
      not_selected = λ i lost there. says.not_selected stop i lost is_stop there;
      others = λ name. says.others stop name is_stop;
    }

-- ---- counting

module _ {X : Type 0} where
  took_no_less : (b d : Bool) (x : X) (us vs : List X) → (b ≡ true → d ≡ true) → length us ≤ length vs → length (cond b (x ∷ us) us) ≤ length (cond d (x ∷ vs) vs)
  took_no_less true true x us vs more le = omega (arith, le)
  took_no_less true false x us vs more le = absurd (let clash : false ≡ true = more refl in cc)
  took_no_less false true x us vs more le = omega (arith, le)
  took_no_less false false x us vs more le = le

  filters_no_less : (p q : X → Bool) → ((x : X) → p x ≡ true → q x ≡ true) → (xs : List X) → length (filter p xs) ≤ length (filter q xs)
  filters_no_less p q more [] = omega arith
  filters_no_less p q more (x ∷ xs) = took_no_less (p x) (q x) x (filter p xs) (filter q xs) (more x) (filters_no_less p q more xs)

  -- of what passes two tests
  module _ (of p of_again q : X → Bool) (more : (x : X) → of x ≡ true → p x ≡ true → (of_again x ≡ true) × (q x ≡ true)) where
    one_no_less : (a c : Bool) (x : X) (us vs : List X) → (a ≡ true → p x ≡ true → (c ≡ true) × (q x ≡ true)) → length (filter p us) ≤ length (filter q vs)
        → length (filter p (cond a (x ∷ us) us)) ≤ length (filter q (cond c (x ∷ vs) vs))
    one_no_less true true x us vs here le = took_no_less (p x) (q x) x (filter p us) (filter q vs) (λ is. (here refl is).1) le
    one_no_less true false x us vs here le = took_no_less (p x) false x (filter p us) (filter q vs) (λ is. (here refl is).0) le
    one_no_less false true x us vs here le = took_no_less false (q x) x (filter p us) (filter q vs) (λ is. absurd (let clash : false ≡ true = is in cc)) le
    one_no_less false false x us vs here le = le

    pub both_no_less : (xs : List X) → length (filter p (filter of xs)) ≤ length (filter q (filter of_again xs))
    both_no_less [] = omega arith
    both_no_less (x ∷ xs) = one_no_less (of x) (of_again x) x (filter of xs) (filter of_again xs) (more x) (both_no_less xs)

-- ---- the next fix

-- of a stripe of which it finds no less, no more is missing
pub missing_no_more : (run again : FixRun) (mended mended_again : Mended) → FindsNoLess run again mended mended_again → length (missing_in again.plan mended_again.facts) ≤ length (missing_in run.plan mended.facts)
missing_no_more run again mended mended_again no_less =
    let columns : ℕ = length run.plan.table.columns in
    subst (λ (n : ℕ). length (filter (is_missing again.plan mended_again.facts) (range_with_len 0 n)) ≤ length (filter (is_missing run.plan mended.facts) (range_with_len 0 columns))) (sym no_less.columns)
    (filters_no_less (is_missing again.plan mended_again.facts) (is_missing run.plan mended.facts) no_less.missing (range_with_len 0 columns))

-- and it has enough undamaged levels if it had before
pub enough_again : (run again : FixRun) (is_changed : ℕ → ℕ → Bool) (mended mended_again : Mended) → FindsNoLess run again mended mended_again → HasEnough run is_changed mended.facts → HasEnough again is_changed mended_again.facts
enough_again run again is_changed mended mended_again no_less enough =
    let levels : ℕ = length mended.facts.levels in
    let unchanged : ℕ → Bool = λ (r : ℕ). not (is_changed mended.facts.stripe r) in
    let missing = missing_no_more run again mended mended_again no_less in
    let here : length (filter unchanged (filter (was_read mended.facts.levels) (range_with_len 0 levels))) ≤ length (filter unchanged (filter (was_read mended_again.facts.levels) (range_with_len 0 levels)))
    = both_no_less (was_read mended.facts.levels) unchanged (was_read mended_again.facts.levels) unchanged (λ r read stays. (no_less.read r read, stays)) (range_with_len 0 levels) in
    let undamaged : length (undamaged_levels is_changed mended.facts) ≤ length (undamaged_levels is_changed mended_again.facts)
    = subst (λ (s : ℕ). length (undamaged_levels is_changed mended.facts) ≤ length (filter (λ (r : ℕ). not (is_changed s r)) (filter (was_read mended_again.facts.levels) (range_with_len 0 (length mended_again.facts.levels))))) (sym no_less.stripe)
    (subst (λ (n : ℕ). length (undamaged_levels is_changed mended.facts) ≤ length (filter unchanged (filter (was_read mended_again.facts.levels) (range_with_len 0 n)))) (sym no_less.as_many) here) in
    omega (arith, missing, undamaged, enough)
