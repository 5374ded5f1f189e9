-- When the calls of an object in memory fail.
use Rattle.std.specs.Prelude.{◌≡◌, ◌⊎◌, ℕ, ◌+◌, ◌-◌, ◌^◌, ◌<◌, min, List, [], Bool, true, false, Contains, Result, Ok, Err}
use Rattle.disk_model.specs.declared.fault.Failed.{Failed}
use Rattle.disk_memory.specs.declared.schedule.Schedule.{Schedule}

-- how many calls there were, the numbers of those that are to fail, and after how many every call fails
pub record Plan : Type 0 where
  pub calls : ℕ
  pub failing : List ℕ
  pub stop : ℕ

abbrev pub plan_of : Schedule → Plan
plan_of s = record { calls = s.calls; failing = s.failing.items; stop = s.stop }

-- no call yet, and none is to fail
abbrev pub fresh_plan : Plan
fresh_plan = record { calls = 0; failing = []; stop = 2 ^ 64 - 1 }

-- a call more. Its number stays at the greatest u64
abbrev pub counted : Plan → Plan
counted plan = record plan { calls = min (plan.calls + 1) (2 ^ 64 - 1) }

-- the call of the last number is to fail
abbrev pub IsDue : Plan → Type 0
IsDue plan = (plan.stop < plan.calls) ⊎ Contains plan.failing plan.calls

-- what a call answers that did its work or not
abbrev pub answer_of : Bool → Result (Unit {0}) Failed
answer_of true = Ok tt
answer_of false = Err (record {})

-- A call was counted, and it failed where it was to fail.
pub record Obeys (failed : Bool) (old new : Plan) : Type 0 where
  pub counts : new ≡ counted old
  pub due : IsDue (counted old) → failed ≡ true

-- Of an object that tells its calls: it failed too where memory refused the entry of the call, so that calls are told no more.
pub record ObeysOnRecord (failed : Bool) (old new : Plan) (told told_now : Bool) : Type 0 where
  pub obeys : Obeys failed old new
  pub lost : told ≡ true → told_now ≡ false → failed ≡ true

-- It failed nowhere else.
pub record ObeysExactly (failed : Bool) (old new : Plan) (told told_now : Bool) : Type 0 where
  pub obeys : ObeysOnRecord failed old new told told_now
  pub only : failed ≡ true → IsDue (counted old) ⊎ ((told ≡ true) × (told_now ≡ false))

-- It failed nowhere else, unless P.
pub record ObeysUnless (P : Type 0) (failed : Bool) (old new : Plan) (told told_now : Bool) : Type 0 where
  pub obeys : ObeysOnRecord failed old new told told_now
  pub only : failed ≡ true → (IsDue (counted old) ⊎ ((told ≡ true) × (told_now ≡ false))) ⊎ P
