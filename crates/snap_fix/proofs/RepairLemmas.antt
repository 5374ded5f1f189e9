-- The cell of a column of a stripe that is written anew: a column that is underway goes on.
use Rattle.std.proofs.Common.{◌≡◌, ◌≢◌, ◌⊎◌, inl, inr, ℕ, ◌<◌, List, [], ◌∷◌, ◌++◌, length, get_or, set, slice_index_or, Bool, true, false, IsTrue, refl, sym, ap, ◌∙◌, subst, arith}
use Rattle.std.specs.Prelude.{◌||◌}
use Rattle.std.proofs.Math.Bool.{or-false}
use Rattle.std.proofs.lemmas.Bool.{cases_eq}
use Rattle.std.proofs.lemmas.List.{length-set, get_or-set_same, get_or-set_other}
use Rattle.disk_model.specs.Folder.{FolderView, FolderCall, SomeFolderCalls}
use Rattle.disk_model.specs.Tree.{Tree}
use Rattle.file_table.specs.Table.{Record, records_in}
use Rattle.stripe_reader.specs.Starts.{StartsValue, StartsFit, no_start, starts_at, start_in}
use Rattle.stripe_reader.specs.declared.starts.Start.{Start}
use Rattle.stripe_reader.specs.declared.starts.Place.{Place}
use Rattle.file_restorer.specs.declared.state.FileState.{FileState}
use Rattle.snap_fix.specs.Mended.{Mended, loses, column_writes, writes_in, writes_of}
use Rattle.file_restorer.specs.Mending.{StatesFit, with_place, with_state}
use Rattle.file_restorer.specs.Order.{FolderWrites}
use Rattle.repair_scope.specs.Plan.{FixPlan}
use Rattle.file_restorer.specs.State.{Write, HoldsBy, HoldsRecord, HoldsColumn, HoldsTold, has_some, size_after, record_path, state_in, no_state}
use Rattle.snap_fix.specs.StripeOrder.{stripe_writes, writes_after}
use Rattle.snap_fix.specs.Underway.{IsColumnUnderway}
use Rattle.file_restorer.proofs.FolderCallLemmas.{calls_then}
use Rattle.snap_fix.proofs.MendedFactsLemmas.{lost_push}
use Rattle.file_restorer.proofs.OrderLemmas.{writes_then}
use Rattle.snap_fix.proofs.StripeOrderLemmas.{writes_after-push}
use Rattle.snap_fix.proofs.WritesLemmas.{size_after-append, has_some-append, writes_of-push}

-- ---- what is held of a column

-- a column is as it was, where its starts, states and folder are
pub underway_same : (plan : FixPlan) (d : ℕ) (stripes : List Mended) (first now later : FolderView) (starts starts_new : StartsValue) (states states_new : List (List FileState))
    → later ≡ now → starts_at starts_new.columns d ≡ starts_at starts.columns d → get_or states_new d [] ≡ get_or states d []
    → IsColumnUnderway plan d stripes first now starts states → IsColumnUnderway plan d stripes first later starts_new states_new
underway_same plan d stripes first now later starts starts_new states states_new same starts_same states_same before = record {
  calls = subst (SomeFolderCalls first) (sym same) before.calls;
  holds =
      subst (λ (v : FolderView). HoldsTold records (starts_at starts_new.columns d) (get_or states_new d []) writes first v) (sym same)
      (subst (λ (s : List Start). HoldsTold records s (get_or states_new d []) writes first now) (sym starts_same)
      (subst (λ (s : List FileState). HoldsTold records (starts_at starts.columns d) s writes first now) (sym states_same) before.holds));
  lost = λ i within. ap (λ (s : List FileState). (slice_index_or s i no_state).lost) states_same ∙ before.lost i within;
  sizes = λ i within. ap (λ (s : List FileState). (slice_index_or s i no_state).size) states_same ∙ before.sizes i within
      ∙ ap (λ (s : List Start). size_after (start_in s i).size (writes_of plan stripes d i)) (sym starts_same);
  wrote = λ i within some. ap (λ (s : List FileState). (slice_index_or s i no_state).touched) states_same ∙ before.wrote i within some;
  touched = λ told i within. ap (λ (s : List FileState). (slice_index_or s i no_state).touched) states_same ∙ before.touched told i within;
  ordered = λ told. subst (FolderWrites (writes_after plan d first.tree [] stripes) first) (sym same) (before.ordered told);
}
  where
    records : List Record
    records = records_in plan.table d

    writes : List (List Write)
    writes = column_writes plan stripes d (length (records_in plan.table d))

-- What becomes of the state of a record in one stripe more.
pub record RecordGoesOn (plan : FixPlan) (d i : ℕ) (mended : Mended) (told : Bool) (starts starts_new : StartsValue) (states states_new : List (List FileState)) : Type 0 where
  pub lost : (state_in states_new d i).lost ≡ ((state_in states d i).lost || loses plan d i mended)
  pub start : (start_in (starts_at starts_new.columns d) i).size ≡ (start_in (starts_at starts.columns d) i).size
  pub size : (state_in states_new d i).size ≡ size_after (state_in states d i).size (writes_in plan d i mended)
  pub stays : (state_in states d i).touched ≡ true → (state_in states_new d i).touched ≡ true
  pub wrote : has_some (writes_in plan d i mended) ≡ true → (state_in states_new d i).touched ≡ true
  pub touched : IsTrue told → (state_in states_new d i).touched ≡ ((state_in states d i).touched || has_some (writes_in plan d i mended))

-- nothing is written to it
pub record_still : (plan : FixPlan) (d i : ℕ) (mended : Mended) (told : Bool) (starts starts_new : StartsValue) (states states_new : List (List FileState))
    → (state_in states_new d i).lost ≡ ((state_in states d i).lost || loses plan d i mended)
    → (start_in (starts_at starts_new.columns d) i).size ≡ (start_in (starts_at starts.columns d) i).size
    → (state_in states_new d i).size ≡ (state_in states d i).size → (state_in states_new d i).touched ≡ (state_in states d i).touched
    → writes_in plan d i mended ≡ [] → RecordGoesOn plan d i mended told starts starts_new states states_new
record_still plan d i mended told starts starts_new states states_new lost start size touched none = record {
  lost = lost;
  start = start;
  size = size ∙ ap (size_after (state_in states d i).size) (sym none);
  stays = λ yes. touched ∙ yes;
  wrote = λ some. absurd (let clash : false ≡ true = sym (ap has_some none) ∙ some in cc);
  touched = λ tells. touched ∙ sym (or-false (state_in states d i).touched) ∙ ap (λ (b : Bool). (state_in states d i).touched || b) (sym (ap has_some none));
}

either : (a b : Bool) → (a || b) ≡ true → (a ≡ true) ⊎ (b ≡ true)
either true b is = inl refl
either false true is = inr refl
either false false is = absurd cc

-- one stripe more
pub underway_more : (plan : FixPlan) (d : ℕ) (stripes : List Mended) (mended : Mended) (first now later : FolderView) (starts starts_new : StartsValue)
    (states states_new : List (List FileState)) → IsColumnUnderway plan d stripes first now starts states → SomeFolderCalls now later
    → HoldsTold (records_in plan.table d) (starts_at starts_new.columns d) (get_or states_new d [])
    (column_writes plan (stripes ++ mended ∷ []) d (length (records_in plan.table d))) first later
    → ((i : ℕ) → i < length (records_in plan.table d) → RecordGoesOn plan d i mended now.tells starts starts_new states states_new)
    → (IsTrue now.tells → FolderWrites (stripe_writes plan d first.tree stripes mended) now later)
    → IsColumnUnderway plan d (stripes ++ mended ∷ []) first later starts_new states_new
underway_more plan d stripes mended first now later starts starts_new states states_new before calls holds each wrote = record {
  calls = calls_then before.calls calls;
  holds = holds;
  lost = λ i within. (each i within).lost ∙ ap (λ (b : Bool). b || loses plan d i mended) (before.lost i within) ∙ sym (lost_push plan stripes mended d i);
  sizes = λ i within. (each i within).size
      ∙ ap (λ (n : ℕ). size_after n (writes_in plan d i mended)) (before.sizes i within ∙ ap (λ (n : ℕ). size_after n (writes_of plan stripes d i)) (sym (each i within).start))
      ∙ sym (size_after-append (start_in (starts_at starts_new.columns d) i).size (writes_of plan stripes d i) (writes_in plan d i mended))
      ∙ ap (size_after (start_in (starts_at starts_new.columns d) i).size) (sym (writes_of-push plan mended d i stripes));
  wrote = λ i within some. elim (either (has_some (writes_of plan stripes d i)) (has_some (writes_in plan d i mended)) (sym (some_is i) ∙ some)) [
    | inl earlier ↦ (each i within).stays (before.wrote i within earlier)
    | inr here ↦ (each i within).wrote here
  ];
  touched = λ told i within. (each i within).touched (subst IsTrue (sym before.calls.goes_on.tells) told)
      ∙ ap (λ (b : Bool). b || has_some (writes_in plan d i mended)) (before.touched told i within) ∙ sym (some_is i);
  ordered = λ told. subst (λ (calls : List FolderCall). FolderWrites calls first later) (sym (writes_after-push plan d first.tree mended [] stripes))
      (writes_then (writes_after plan d first.tree [] stripes) (stripe_writes plan d first.tree stripes mended) (before.ordered told)
      (wrote (subst IsTrue (sym before.calls.goes_on.tells) told)));
}
  where
    some_is : (i : ℕ) → has_some (writes_of plan (stripes ++ mended ∷ []) d i) ≡ (has_some (writes_of plan stripes d i) || has_some (writes_in plan d i mended))
    some_is i = ap has_some (writes_of-push plan mended d i stripes) ∙ has_some-append (writes_of plan stripes d i) (writes_in plan d i mended)

-- whether a block of it is lost is not looked at
record_lost : (start : Start) (state : FileState) (lost : Bool) (writes : List Write) (path : List ℕ) (first later : Tree)
    → HoldsRecord start state writes path first later → HoldsRecord start (record state { lost = lost }) writes path first later
record_lost start state lost writes path first later held = record { holds = by state.touched held.holds; size = held.size }
  where
    by : (touched : Bool) → HoldsBy touched start state writes path first later → HoldsBy touched start (record state { lost = lost }) writes path first later
    by true h = record { place = h.place; file = h.file; there = h.there; bytes = h.bytes; lost = h.lost }
    by false h = record { none = h.none; place = h.place; same = h.same }

pub column_lost : (records : List Record) (starts : List Start) (states : List FileState) (writes : List (List Write)) (first later : Tree) (i : ℕ) (lost : Bool)
    → i < length records → HoldsColumn records starts states writes first later
    → HoldsColumn records starts (set states i (record (slice_index_or states i no_state) { lost = lost })) writes first later
column_lost records starts states writes first later i lost within held = record {
  starts_are = held.starts_are;
  states_are = length-set states i _ ∙ held.states_are;
  writes_are = held.writes_are;
  each = λ k below. by k below (cases_eq k i);
  others = held.others;
}
  where
    state : FileState
    state = record (slice_index_or states i no_state) { lost = lost }

    by : (k : ℕ) → k < length records → (k ≡ i) ⊎ (k ≡ i → ⊥)
        → HoldsRecord (slice_index_or starts k no_start) (slice_index_or (set states i state) k no_state) (get_or writes k []) (record_path records k) first later
    by k below (inl same) =
        subst (λ (n : ℕ). HoldsRecord (slice_index_or starts n no_start) (slice_index_or (set states i state) n no_state) (get_or writes n []) (record_path records n) first later) (sym same)
        (subst (λ (s : FileState). HoldsRecord (slice_index_or starts i no_start) s (get_or writes i []) (record_path records i) first later)
        (sym (get_or-set_same states i state no_state (omega (arith, within, held.states_are))))
        (record_lost (slice_index_or starts i no_start) (slice_index_or states i no_state) lost (get_or writes i []) (record_path records i) first later (held.each i within)))
    by k below (inr other) =
        subst (λ (s : FileState). HoldsRecord (slice_index_or starts k no_start) s (get_or writes k []) (record_path records k) first later)
        (sym (get_or-set_other states i k state no_state other)) (held.each k below)

-- ---- states and starts with one that is replaced

pub state_same : (states : List (List FileState)) (d i : ℕ) (state : FileState) → d < length states → i < length (get_or states d []) → state_in (with_state states d i state) d i ≡ state
state_same states d i state column rec =
    ap (λ (s : List FileState). slice_index_or s i no_state) (get_or-set_same states d (set (get_or states d []) i state) [] column)
    ∙ get_or-set_same (get_or states d []) i state no_state rec

pub state_other : (states : List (List FileState)) (d i k : ℕ) (state : FileState) → d < length states → k ≢ i → state_in (with_state states d i state) d k ≡ state_in states d k
state_other states d i k state column other =
    ap (λ (s : List FileState). slice_index_or s k no_state) (get_or-set_same states d (set (get_or states d []) i state) [] column)
    ∙ get_or-set_other (get_or states d []) i k state no_state other

pub row_same : (states : List (List FileState)) (d i : ℕ) (state : FileState) → d < length states → get_or (with_state states d i state) d [] ≡ set (get_or states d []) i state
row_same states d i state column = get_or-set_same states d (set (get_or states d []) i state) [] column

pub states_fit-with : (plan : FixPlan) (states : List (List FileState)) (d i : ℕ) (state : FileState) → d < length plan.table.columns
    → StatesFit plan.table states → StatesFit plan.table (with_state states d i state)
states_fit-with plan states d i state within fit = record {
  columns = length-set states d _ ∙ fit.columns;
  records = λ k below. by k below (cases_eq k d);
}
  where
    long : d < length states
    long = omega (arith, within, fit.columns)

    by : (k : ℕ) → k < length plan.table.columns → (k ≡ d) ⊎ (k ≡ d → ⊥) → length (get_or (with_state states d i state) k []) ≡ length (records_in plan.table k)
    by k below (inl same) =
        ap (λ (n : ℕ). length (get_or (with_state states d i state) n [])) same ∙ ap (λ (s : List FileState). length s) (row_same states d i state long)
        ∙ length-set (get_or states d []) i state ∙ fit.records d within ∙ ap (λ (n : ℕ). length (records_in plan.table n)) (sym same)
    by k below (inr other) = ap (λ (s : List FileState). length s) (get_or-set_other states d k _ [] other) ∙ fit.records k below

pub starts_fit-with : (plan : FixPlan) (starts : StartsValue) (d i : ℕ) (place : Place) → d < length plan.table.columns
    → StartsFit plan.table starts → StartsFit plan.table (with_place starts d i place)
starts_fit-with plan starts d i place within fit = record {
  columns = length-set starts.columns d _ ∙ fit.columns;
  records = λ k below. by k below (cases_eq k d);
}
  where
    row : List Start
    row = set (starts_at starts.columns d) i (record { place = place; size = (start_in (starts_at starts.columns d) i).size })

    by : (k : ℕ) → k < length plan.table.columns → (k ≡ d) ⊎ (k ≡ d → ⊥) → length (starts_at (set starts.columns d row) k) ≡ length (records_in plan.table k)
    by k below (inl same) =
        ap (λ (n : ℕ). length (starts_at (set starts.columns d row) n)) same
        ∙ ap (λ (s : List Start). length s) (get_or-set_same starts.columns d row [] (omega (arith, within, fit.columns)))
        ∙ length-set (starts_at starts.columns d) i _ ∙ fit.records d within ∙ ap (λ (n : ℕ). length (records_in plan.table n)) (sym same)
    by k below (inr other) = ap (λ (s : List Start). length s) (get_or-set_other starts.columns d k row [] other) ∙ fit.records k below
