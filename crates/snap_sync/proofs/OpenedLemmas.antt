-- A vault that was opened and then got calls: more of them, or a front of them that failed.
use Rattle.std.proofs.Common.{◌≡◌, List, ◌++◌, Bool, true, false, Result, Ok, Err, is_err, append_assoc, subst}
use Rattle.std.specs.Result.{IsErrAnd}
use Rattle.disk_model.specs.Ran.{Log, RanLog, log_of}
use Rattle.disk_model.specs.Vault.{VaultCall, VaultState}
use Rattle.disk_model.specs.declared.fault.Failed.{Failed}
use Rattle.disk_model.proofs.RanLemmas.{ran_front, ran_then}
use Rattle.snap_sync.specs.Calls.{SyncPlan, RanOpened, opening_calls}

-- the same calls
pub opened_as : (plan : SyncPlan) (one two : List VaultCall) (failed : Bool) (old : VaultState) (new : Log) → one ≡ two → RanOpened plan one failed old new → RanOpened plan two failed old new
opened_as plan one two failed old new same its = subst (λ cs. RanOpened plan cs failed old new) same its

-- some calls, and then others
pub opened_then : (plan : SyncPlan) (one two : List VaultCall) (failed : Bool) (old : VaultState) (mid new : Log) → RanOpened plan one false old mid → RanLog two failed mid new
    → RanOpened plan (one ++ two) failed old new
opened_then plan one two failed old mid new its more = record {
  lengths = its.lengths;
  are = its.are;
  ran = subst (λ cs. RanLog cs failed (log_of old) new) (append_assoc (opening_calls plan its.lengths) one two)
      (ran_then (opening_calls plan its.lengths ++ one) two failed (log_of old) mid new its.ran more);
}

-- a call of a front failed
pub opened_front : (plan : SyncPlan) (one two : List VaultCall) (old : VaultState) (new : Log) → RanOpened plan one true old new → RanOpened plan (one ++ two) true old new
opened_front plan one two old new its = record {
  lengths = its.lengths;
  are = its.are;
  ran = subst (λ cs. RanLog cs true (log_of old) new) (append_assoc (opening_calls plan its.lengths) one two)
      (ran_front (opening_calls plan its.lengths ++ one) two (log_of old) new its.ran);
}

-- what a `?` hands on
pub opened_exit : {T : Type 0} (P : Failed → Type 0) (plan : SyncPlan) (calls : List VaultCall) (result : Result T Failed) (old : VaultState) (new : Log) → IsErrAnd result P
    → RanOpened plan calls true old new → RanOpened plan calls (is_err result) old new
opened_exit P plan calls (Ok x) old new is its = absurd is
opened_exit P plan calls (Err e) old new is its = its
