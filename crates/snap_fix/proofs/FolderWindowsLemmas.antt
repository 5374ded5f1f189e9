-- The calls of a folder, window after window, and then those that finish its files.
use Rattle.std.proofs.Common.{◌≡◌, ℕ, List, [], ◌∷◌, ◌++◌, refl, sym, ap, ◌∙◌, subst, append_assoc}
use Rattle.std.proofs.lemmas.List.{append-nil}
use Rattle.disk_model.specs.Folder.{FolderView, FolderDone}
use Rattle.disk_model.specs.Stopped.{MayBeLeft}
use Rattle.disk_model.specs.Tree.{Tree}
use Rattle.disk_model.proofs.AnsweredLemmas.{left_later}
use Rattle.stripe_reader.specs.Column.{ReadsBy}
use Rattle.stripe_reader.specs.Starts.{StartsValue, starts_at}
use Rattle.file_restorer.specs.declared.finishing.Finish.{Finish}
use Rattle.file_restorer.specs.declared.state.FileState.{FileState}
use Rattle.file_restorer.specs.State.{FolderMakesBy, KeepsStarts}
use Rattle.file_restorer.proofs.FolderCallLemmas.{makes_by_none, makes_by_then}
use Rattle.repair_scope.specs.Plan.{FixPlan}
use Rattle.snap_fix.specs.Ending.{AreColumnFinishCalls, states_at}
use Rattle.snap_fix.specs.Fixing.{facts_of}
use Rattle.snap_fix.specs.FolderWindows.{AreAllWindowCalls, AreInWindows, AreWindowCalls, GoesInWindows}
use Rattle.snap_fix.specs.Mended.{Mended}
use Rattle.snap_fix.specs.Reads.{AreReadBy}
use Rattle.snap_fix.specs.Underway.{AreAllMendCalls}
use Rattle.snap_fix.specs.Windows.{FixWindow}
use Rattle.snap_fix.proofs.StartsKeptLemmas.{keeps_starts_same}

-- calls that only read leave what there was
pub reads_by : (P : List FolderDone → Type 0) {old new : FolderView} → ReadsBy P old new → FolderMakesBy P old new
reads_by P {old = old} {new = new} read = record {
  done = read.done;
  are = read.are;
  goes_on = read.goes_on;
  left = λ told is.
      subst (λ (tree : Tree). MayBeLeft old.keeps read.done old.tree tree) (sym (read.tree told)) (left_later old.keeps [] read.done old.tree old.tree is refl);
}

-- ---- one window

module _ (plan : FixPlan) (starts : StartsValue) (d : ℕ) where
  -- its cells were read, and then written
  window_goes : (stripes : List Mended) {old mid new : FolderView} → FolderMakesBy (AreReadBy plan starts starts d (facts_of stripes)) old mid
      → FolderMakesBy (AreAllMendCalls plan starts d stripes) mid new → FolderMakesBy (AreWindowCalls plan starts d stripes) old new
  window_goes stripes one two =
      makes_by_then (AreReadBy plan starts starts d (facts_of stripes)) (AreAllMendCalls plan starts d stripes) (AreWindowCalls plan starts d stripes)
      (λ reads writes read wrote. record { reads = reads; writes = writes; done_is = refl; read = read; wrote = wrote }) one two

  -- no window was
  pub windows_none : (v : FolderView) → FolderMakesBy (AreAllWindowCalls plan starts starts d [] []) v v
  windows_none v = makes_by_none (AreAllWindowCalls plan starts starts d [] []) v (keeps_starts_same starts, refl, refl)

-- ---- windows, and one more

module _ (plan : FixPlan) (mid ended : StartsValue) (kept : KeepsStarts mid ended) (d : ℕ) (window : FixWindow) (ys : List Mended) (facts : facts_of ys ≡ window.stripes) where
  window_behind : (begun : StartsValue) (windows : List FixWindow) (xs : List Mended) (one two : List FolderDone)
      → AreAllWindowCalls plan begun mid d windows xs one → AreWindowCalls plan mid d ys two → AreAllWindowCalls plan begun ended d (windows ++ window ∷ []) (xs ++ ys) (one ++ two)
  window_behind begun [] xs one two (stood, none, no_calls) its = (
    mid,
    ys,
    [],
    two,
    [],
    stood,
    ap (λ (stripes : List Mended). stripes ++ ys) none ∙ sym (append-nil ys),
    facts,
    ap (λ (calls : List FolderDone). calls ++ two) no_calls ∙ sym (append-nil two),
    its,
    (kept, refl, refl),
  )
  window_behind begun (other ∷ windows) xs one two (starts, here, behind, first, rest, stood, xs_are, others, one_is, is, more) its = (
    starts,
    here,
    behind ++ ys,
    first,
    rest ++ two,
    stood,
    ap (λ (stripes : List Mended). stripes ++ ys) xs_are ∙ append_assoc here behind ys,
    others,
    ap (λ (calls : List FolderDone). calls ++ two) one_is ∙ append_assoc first rest two,
    is,
    window_behind starts windows behind rest two more its,
  )

  pub windows_more : (begun : StartsValue) (windows : List FixWindow) (xs : List Mended) {old before after new : FolderView} → FolderMakesBy (AreAllWindowCalls plan begun mid d windows xs) old before
      → FolderMakesBy (AreReadBy plan mid mid d (facts_of ys)) before after → FolderMakesBy (AreAllMendCalls plan mid d ys) after new
      → FolderMakesBy (AreAllWindowCalls plan begun ended d (windows ++ window ∷ []) (xs ++ ys)) old new
  windows_more begun windows xs first read wrote =
      makes_by_then (AreAllWindowCalls plan begun mid d windows xs) (AreWindowCalls plan mid d ys) (AreAllWindowCalls plan begun ended d (windows ++ window ∷ []) (xs ++ ys))
      (window_behind begun windows xs) first (window_goes plan mid d ys read wrote)

-- ---- and the files are finished

pub goes_in_windows : (plan : FixPlan) (begun ended : StartsValue) (states : List (List FileState)) (d : ℕ) (windows : List FixWindow) (stripes : List Mended) (finishes : List Finish)
    {old mid new : FolderView} → FolderMakesBy (AreAllWindowCalls plan begun ended d windows stripes) old mid
    → FolderMakesBy (AreColumnFinishCalls plan d (starts_at ended.columns d) (states_at states d) finishes) mid new → GoesInWindows plan begun ended states d windows stripes finishes old new
goes_in_windows plan begun ended states d windows stripes finishes one two =
    makes_by_then (AreAllWindowCalls plan begun ended d windows stripes) (AreColumnFinishCalls plan d (starts_at ended.columns d) (states_at states d) finishes)
    (AreInWindows plan begun ended states d windows stripes finishes)
    (λ first last are finished. record { first = first; last = last; done_is = refl; windows_are = are; finished = finished }) one two
