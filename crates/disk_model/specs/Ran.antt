-- Calls that were made of a vault one after another, where it tells them, by how they ended.
use Rattle.std.specs.Prelude.{◌≡◌, ℕ, ◌≤◌, List, [], ◌∷◌, ◌++◌, Bool, true, false, is_err, Result}
use Rattle.disk_model.specs.Calls.{WentWellAs}
use Rattle.disk_model.specs.Cause.{Rose, Grows}
use Rattle.disk_model.specs.Vault.{VaultState, VaultCall, VaultDone, plain_done}
use Rattle.disk_model.specs.declared.fault.Failed.{Failed}

-- what is known of a vault's calls: its count of faults, whether it tells its calls, and all calls so far
pub record Log : Type 0 where
  pub faults : ℕ
  pub tells : Bool
  pub calls : List VaultDone

abbrev pub log_of : VaultState → Log
log_of s = record { faults = s.faults; tells = s.tells_calls; calls = s.calls }

-- just these calls were made, in this order, and none of them failed
pub record RanAll (calls : List VaultCall) (old new : Log) : Type 0 where
  pub later : old.faults ≤ new.faults
  pub done : List VaultDone
  pub are : WentWellAs calls done
  pub grown : Grows old.tells old.calls new.tells new.calls done

-- these calls were made, in this order, up to the first that failed, which is the last that was made
pub record RanUpTo (calls : List VaultCall) (old new : Log) : Type 0 where
  pub rose : Rose old.faults new.faults
  pub earlier : List VaultCall
  pub call : VaultCall
  pub later : List VaultCall
  pub whole : calls ≡ earlier ++ call ∷ later
  pub done : List VaultDone
  pub are : WentWellAs earlier done
  pub grown : Grows old.tells old.calls new.tells new.calls (done ++ plain_done call true ∷ [])

-- what calls left of the log: all of them where none failed, or these up to the first that failed
abbrev pub RanLog : List VaultCall → Bool → Log → Log → Type 0
RanLog calls false old new = RanAll calls old new
RanLog calls true old new = RanUpTo calls old new

-- Just these calls were made and none failed, or, where the answer is `Failed`, these up to the first that failed.
abbrev pub Ran : {T : Type 0} → List VaultCall → Result T Failed → VaultState → VaultState → Type 0
Ran calls result old new = RanLog calls (is_err result) (log_of old) (log_of new)
