-- Which calls were made of a vault, where it tells them.
use Rattle.std.specs.Prelude.{◌≡◌, ℕ, List, [], ◌∷◌, ◌++◌, map, true, false, IsTrue}
use Rattle.std.specs.List.{All}
use Rattle.disk_model.specs.Answer.{is_failure}
use Rattle.disk_model.specs.Cause.{Rose, Grows, Counts}
use Rattle.disk_model.specs.Vault.{VaultView, VaultCall, VaultDone, VaultOutcome, any_write, plain_done, outcomes}

-- a call with P that did not fail
pub record WentWell (P : VaultCall → Type 0) (done : VaultDone) : Type 0 where
  pub is : P done.call
  pub unfailed : is_failure done.answer ≡ false

-- only calls with P were made, whether they failed or not
pub record MakesOnly (P : VaultCall → Type 0) (old new : VaultView) : Type 0 where
  pub done : List VaultDone
  pub grown : Grows old.tells_calls old.calls new.tells_calls new.calls done
  pub writes : Counts (any_write done) old.writes new.writes
  pub each : All (λ (d : VaultDone). P d.call) done

-- only calls with P were made, and none of them failed
pub record Makes (P : VaultCall → Type 0) (old new : VaultView) : Type 0 where
  pub done : List VaultDone
  pub grown : Grows old.tells_calls old.calls new.tells_calls new.calls done
  pub writes : Counts (any_write done) old.writes new.writes
  pub each : All (WentWell P) done

-- Since a count of faults and a list of calls, only calls with P were made, and the last of them alone failed.
pub record LastFailed (P : VaultCall → Type 0) (faults : ℕ) (calls : List VaultDone) (new : VaultView) : Type 0 where
  pub rose : Rose faults new.faults
  pub earlier : List VaultDone
  pub each : All (WentWell P) earlier
  pub call : VaultCall
  pub is : P call
  pub made : IsTrue new.tells_calls → new.calls ≡ calls ++ (earlier ++ plain_done call true ∷ [])

abbrev pub FailsBy : (VaultCall → Type 0) → VaultView → VaultView → Type 0
FailsBy P old new = LastFailed P old.faults old.calls new

-- a call that did not fail
abbrev pub gone_well : VaultCall → VaultOutcome
gone_well call = record { call = call; failed = false }

-- these are those calls, in this order, and none of them failed
abbrev pub WentWellAs : List VaultCall → List VaultDone → Type 0
WentWellAs calls done = outcomes done ≡ map gone_well calls

-- just these calls were made, in this order, and none of them failed
pub record MakesThese (calls : List VaultCall) (old new : VaultView) : Type 0 where
  pub done : List VaultDone
  pub are : WentWellAs calls done
  pub grown : Grows old.tells_calls old.calls new.tells_calls new.calls done
  pub writes : Counts (any_write done) old.writes new.writes

-- These calls were made, in this order, up to the first that failed.
pub record FailsAmong (calls : List VaultCall) (old new : VaultView) : Type 0 where
  pub rose : Rose old.faults new.faults
  pub earlier : List VaultCall
  pub call : VaultCall
  pub later : List VaultCall
  pub whole : calls ≡ earlier ++ call ∷ later
  pub done : List VaultDone
  pub are : WentWellAs earlier done
  pub made : IsTrue new.tells_calls → new.calls ≡ old.calls ++ (done ++ plain_done call true ∷ [])
