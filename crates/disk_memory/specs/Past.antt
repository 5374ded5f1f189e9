-- The record of an object's calls.
use Rattle.std.specs.Prelude.{◌≡◌, List, [], ◌∷◌, ◌++◌, Bool, true, false}
use Rattle.disk_model.specs.declared.answer.Answer.{Answer}
use Rattle.disk_model.specs.declared.answer.Answer.TheVariants.{Failed}
use Rattle.disk_memory.specs.declared.past.Made.{Made}
use Rattle.disk_memory.specs.declared.past.Past.{Past}

-- a call and what it answered
abbrev pub made : {C : Type 0} → C → Answer → Made C
made call answer = record { call = call; answer = answer }

-- what is answered by a call that gives this, unless it failed
abbrev pub answered : Answer → Bool → Answer
answered given true = Failed
answered given false = given

-- a call was written down at the end, or the record is lost, and what was written down stays
pub record Notes {C : Type 0} (call : C) (answer : Answer) (old new : Past C) : Type 0 where
  pub told : new.lost ≡ false → old.lost ≡ false
  pub entry : new.lost ≡ false → new.made.items ≡ old.made.items ++ made call answer ∷ []
  pub kept : new.lost ≡ true → new.made.items ≡ old.made.items

-- the record is lost, and what was written down stays
pub record Loses {C : Type 0} (old new : Past C) : Type 0 where
  pub lost : new.lost ≡ true
  pub kept : new.made.items ≡ old.made.items

-- the record was not lost before, and is now
pub record LosesNow {C : Type 0} (old new : Past C) : Type 0 where
  pub was : old.lost ≡ false
  pub lost : new.lost ≡ true

-- the last call of the record did not fail, and answered this
pub record Ends {C : Type 0} (answer : Answer) (old new : Past C) : Type 0 where
  pub lost : new.lost ≡ old.lost
  pub last : new.lost ≡ false → (before : List (Made C)) (call : C) → old.made.items ≡ before ++ made call Failed ∷ [] → new.made.items ≡ before ++ made call answer ∷ []
  pub kept : new.lost ≡ true → new.made.items ≡ old.made.items
