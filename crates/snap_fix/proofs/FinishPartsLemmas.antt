-- The calls that finish the records of a column, a part for each.
use Rattle.std.proofs.Common.{◌≡◌, ◌⊎◌, inl, inr, ℕ, suc, ◌+◌, ◌<◌, ◌≤◌, List, [], ◌∷◌, ◌++◌, All, length, get_or, Bool, true, false, Option, refl, sym, ap, ap₂, ◌∙◌, subst, arith}
use Rattle.std.specs.List.{flat_map}
use Rattle.std.proofs.lemmas.Bool.{cases_lt}
use Rattle.std.proofs.lemmas.Grind.{flat_map-append}
use Rattle.std.proofs.lemmas.List.{append-nil, get_or_append_left, get_or_push, length-append}
use Rattle.std.proofs.lemmas.List.Elements.{All-append, All-nil}
use Rattle.disk_model.specs.Folder.{FolderView, FolderCall, FolderDone}
use Rattle.disk_model.specs.declared.meta.Meta.{Meta}
use Rattle.file_table.specs.Table.{record_at, records_in}
use Rattle.snap_report.specs.Answer.{is_reading}
use Rattle.stripe_reader.specs.Starts.{StartsValue, start_in, starts_at}
use Rattle.stripe_reader.specs.declared.starts.Start.{Start}
use Rattle.file_restorer.specs.declared.finishing.Finish.{Finish}
use Rattle.file_restorer.specs.declared.state.FileState.{FileState}
use Rattle.snap_fix.specs.Ending.{AreColumnFinishCalls, AreFinishCalls, FinishesFile, FinishesOne, FinishesThis, finish_at, finishes_at, record_calls, state_at, states_at}
use Rattle.file_restorer.specs.Finishing.{IsFinishCall, was_gone}
use Rattle.repair_scope.specs.Plan.{FixPlan, entry_at}
use Rattle.snap_fix.specs.Reads.{FolderReads, IsQuiet}
use Rattle.file_restorer.specs.State.{AnyCall, AreStepCalls, FolderMakes, FolderMakesBy, WellCall, record_path}
use Rattle.file_restorer.proofs.FolderCallLemmas.{makes_each, well_wider}
use Rattle.snap_fix.proofs.ReadsLemmas.{quiet_makes}

-- all parts, one after another
abbrev pub joined_parts : List (List FolderDone) → List FolderDone
joined_parts parts = flat_map (λ (part : List FolderDone). part) parts

all_joined : (P : FolderDone → Type 0) (parts : List (List FolderDone)) → ((i : ℕ) → i < length parts → All P (get_or parts i [])) → All P (joined_parts parts)
all_joined P [] each = All-nil P
all_joined P (part ∷ parts) each = All-append P part (joined_parts parts) (each 0 (omega arith)) (all_joined P parts (λ i below. each (suc i) (omega (arith, below))))

module _ (plan : FixPlan) (d : ℕ) (starts : List Start) (states : List FileState) where
  pub no_finish_calls : (done : List Finish) → AreFinishCalls plan d starts states done 0 []
  no_finish_calls done = record { parts = []; as_many = refl; calls_are = refl; each = λ i below. absurd (omega (arith, below)) }

  -- they are by what was done to these records alone
  pub finish_calls_as : (done more : List Finish) (n : ℕ) (calls : List FolderDone) → ((i : ℕ) → i < n → finish_at more i ≡ finish_at done i)
      → AreFinishCalls plan d starts states done n calls → AreFinishCalls plan d starts states more n calls
  finish_calls_as done more n calls same are = record {
    parts = are.parts;
    as_many = are.as_many;
    calls_are = are.calls_are;
    each = λ i below. subst (λ (finish : Finish). AreStepCalls (FinishesThis plan d i starts states) (record_calls plan d starts states i) (was_gone finish) (get_or are.parts i [])) (sym (same i below)) (are.each i below);
  }

  -- those of one record more
  pub finish_calls_more : (done more : List Finish) (n : ℕ) (first next : List FolderDone) → ((i : ℕ) → i < n → finish_at more i ≡ finish_at done i)
      → AreFinishCalls plan d starts states done n first → AreStepCalls (FinishesThis plan d n starts states) (record_calls plan d starts states n) (was_gone (finish_at more n)) next
      → AreFinishCalls plan d starts states more (n + 1) (first ++ next)
  finish_calls_more done more n first next same are one = record {
    parts = parts;
    as_many = length-append are.parts (next ∷ []) ∙ ap (λ (k : ℕ). k + 1) are.as_many;
    calls_are = ap₂ (λ (a b : List FolderDone). a ++ b) are.calls_are (sym (append-nil next))
        ∙ sym (flat_map-append (λ (part : List FolderDone). part) are.parts (next ∷ []));
    each = λ i below. at i below (cases_lt i n);
  }
    where
      parts : List (List FolderDone)
      parts = are.parts ++ next ∷ []

      at : (i : ℕ) → i < n + 1 → (i < n) ⊎ (n ≤ i) → AreStepCalls (FinishesThis plan d i starts states) (record_calls plan d starts states i) (was_gone (finish_at more i)) (get_or parts i [])
      at i below (inl near) =
          subst (λ (part : List FolderDone). AreStepCalls (FinishesThis plan d i starts states) (record_calls plan d starts states i) (was_gone (finish_at more i)) part)
          (sym (get_or_append_left are.parts (next ∷ []) [] i (omega (arith, near, are.as_many))))
          (subst (λ (finish : Finish). AreStepCalls (FinishesThis plan d i starts states) (record_calls plan d starts states i) (was_gone finish) (get_or are.parts i [])) (sym (same i near)) (are.each i near))
      at i below (inr far) =
          let here : n ≡ i = omega (arith, below, far) in
          subst (λ (k : ℕ). AreStepCalls (FinishesThis plan d k starts states) (record_calls plan d starts states k) (was_gone (finish_at more k)) (get_or parts k [])) here
          (subst (λ (part : List FolderDone). AreStepCalls (FinishesThis plan d n starts states) (record_calls plan d starts states n) (was_gone (finish_at more n)) part)
          (sym (get_or_push are.parts next [] n are.as_many)) one)

  -- each finishes some record
  pub first_calls_each : (done : List Finish) (n : ℕ) → n ≤ length (records_in plan.table d) → (calls : List FolderDone) → AreFinishCalls plan d starts states done n calls
      → All (WellCall (FinishesFile plan d starts states)) calls
  first_calls_each done n few calls are = subst (All (WellCall (FinishesFile plan d starts states))) (sym are.calls_are)
      (all_joined (WellCall (FinishesFile plan d starts states)) are.parts (λ i below k none within.
      let inside : i < n = omega (arith, below, are.as_many) in
      well_wider (FinishesThis plan d i starts states) (FinishesFile plan d starts states)
      (λ call is. record { i = i; within = omega (arith, inside, few); finished = is.0; is = is.1 }) (get_or (get_or are.parts i []) k none) ((are.each i inside).each k none within)))

  pub finish_calls_each : (done : List Finish) (calls : List FolderDone) → AreColumnFinishCalls plan d starts states done calls → All (WellCall (FinishesFile plan d starts states)) calls
  finish_calls_each done calls are = first_calls_each done (length (records_in plan.table d)) (omega arith) calls are

pub finish_calls_any : (plan : FixPlan) (d : ℕ) (starts : StartsValue) (states : List (List FileState)) (finishes : List (List Finish)) {old new : FolderView}
    → FolderMakesBy (AreColumnFinishCalls plan d (starts_at starts.columns d) (states_at states d) (finishes_at finishes d)) old new
    → FolderMakes (AnyCall (FinishesOne plan d starts states)) old new
finish_calls_any plan d starts states finishes makes =
    makes_each (AreColumnFinishCalls plan d (starts_at starts.columns d) (states_at states d) (finishes_at finishes d)) (AnyCall (FinishesOne plan d starts states))
    (λ calls are k none within. (finish_calls_each plan d (starts_at starts.columns d) (states_at states d) (finishes_at finishes d) calls are k none within).0) makes

-- ---- none of them reads

finish_call_writes : (lost : Bool) (listed : Option Meta) (start : Start) (state : FileState) (path : List ℕ) (meta : Meta) (call : FolderCall)
    → IsFinishCall lost listed start state path meta call → is_reading call ≡ false
finish_call_writes true listed start state path meta call is = ap is_reading is.1
finish_call_writes false listed start state path meta call (inl is) = ap is_reading is.1
finish_call_writes false listed start state path meta call (inr (inl is)) = ap is_reading is.2
finish_call_writes false listed start state path meta call (inr (inr (inl is))) = ap is_reading is.1
finish_call_writes false listed start state path meta call (inr (inr (inr is))) = ap is_reading is.1

pub finish_writes : (plan : FixPlan) (d : ℕ) (starts : List Start) (states : List FileState) (call : FolderCall) → FinishesFile plan d starts states call → is_reading call ≡ false
finish_writes plan d starts states call is = finish_call_writes (state_at states is.i).lost (entry_at plan d is.i).listed (start_in starts is.i) (state_at states is.i)
    (record_path (records_in plan.table d) is.i) (record_at plan.table.columns d is.i).meta call is.is

pub finish_quiet : (plan : FixPlan) (d : ℕ) (starts : List Start) (states : List FileState) (done : List Finish) {old new : FolderView}
    → FolderMakesBy (AreColumnFinishCalls plan d starts states done) old new → FolderReads IsQuiet old new
finish_quiet plan d starts states done makes = quiet_makes (AreColumnFinishCalls plan d starts states done) (FinishesFile plan d starts states)
    (finish_writes plan d starts states) (finish_calls_each plan d starts states done) makes
