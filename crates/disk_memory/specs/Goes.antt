-- How a call of a vault in memory goes on from what is held and recorded.
use Rattle.std.specs.Prelude.{◌≡◌, ◌⊎◌, ℕ, ◌≤◌, [], ◌∷◌, Bool, true, false, not, length, if◌then◌else◌}
use Rattle.disk_calm.specs.Held.{Held}
use Rattle.disk_model.specs.Cause.{Rose, Grows}
use Rattle.disk_model.specs.Vault.{VaultCall}
use Rattle.disk_model.specs.declared.answer.Answer.{Answer}
use Rattle.disk_model.specs.declared.answer.Answer.TheVariants.{Done}
use Rattle.disk_memory.specs.Calls.{vault_calls}
use Rattle.disk_memory.specs.Past.{answered}
use Rattle.disk_memory.specs.Recorded.{held_after}
use Rattle.disk_calm.specs.Store.{held, nothing_held, SameCounts}
use Rattle.disk_memory.specs.declared.recorded.Recorded.{Recorded}
use Rattle.disk_calm.specs.declared.store.Store.{Store}

-- The call, which gives this unless it failed, is the last of the record, where that is not lost, and a lost one stays. Reads give what is
-- held after it.
pub record GoesBy (call : VaultCall) (given : Answer) (failed : Bool) (old new : Recorded) : Type 0 where
  pub calls : Grows (not old.past.lost) (vault_calls old.past.made.items) (not new.past.lost) (vault_calls new.past.made.items) (record { call = call; answer = answered given failed } ∷ [])
  pub kept : new.past.lost ≡ true → new.past.made.items ≡ old.past.made.items
  pub now : held new.store ≡ held_after (held old.store) call failed
  pub base : new.base ≡ old.base
  pub opened : held new.opened ≡ held old.opened
  pub same : SameCounts old.store new.store

-- one that gives nothing
abbrev pub Goes : VaultCall → Bool → Recorded → Recorded → Type 0
Goes call failed old new = GoesBy call Done failed old new

-- it failed where it may not do its work, and where memory refused its entry
pub record MayAnswer (may done : Bool) (old new : Recorded) : Type 0 where
  pub refused : may ≡ false → done ≡ false
  pub lost : old.past.lost ≡ false → new.past.lost ≡ true → done ≡ false

-- and nowhere else
pub record IsAnswered (may done : Bool) (old new : Recorded) : Type 0 where
  pub may_answer : MayAnswer may done old new
  pub only : done ≡ false → (may ≡ false) ⊎ ((old.past.lost ≡ false) × (new.past.lost ≡ true))

-- and nowhere else, unless P
pub record IsAnsweredUnless (P : Type 0) (may done : Bool) (old new : Recorded) : Type 0 where
  pub may_answer : MayAnswer may done old new
  pub only : done ≡ false → ((may ≡ false) ⊎ ((old.past.lost ≡ false) × (new.past.lost ≡ true))) ⊎ P

-- the count rose where the call failed, and is as it was where it did not
pub record CountsFaults (failed : Bool) (old new : ℕ) : Type 0 where
  pub later : old ≤ new
  pub cause : failed ≡ true → Rose old new
  pub unfailed : failed ≡ false → new ≡ old

-- it was just opened with this
pub record IsOpenedRecord (store : Store) (r : Recorded) : Type 0 where
  pub lost : r.past.lost ≡ false
  pub calls : r.past.made.items ≡ []
  pub base : r.base ≡ 0
  pub opened : held r.opened ≡ held store
  pub now : held r.store ≡ held store
  pub same : SameCounts store r.store

-- it holds this, and what it held before is forgotten, but for a record that is lost
pub record Damages (now : Held) (old new : Recorded) : Type 0 where
  pub held_now : held new.store ≡ now
  pub lost : new.past.lost ≡ old.past.lost
  pub calls : new.past.made.items ≡ old.past.made.items
  pub base : new.base ≡ (if old.past.lost then old.base else length old.past.made.items)
  pub opened : held new.opened ≡ (if old.past.lost then held old.opened else now)
  pub same : SameCounts old.store new.store

pub record SameRecord (old new : Recorded) : Type 0 where
  pub held_now : held new.store ≡ held old.store
  pub lost : new.past.lost ≡ old.past.lost
  pub calls : new.past.made.items ≡ old.past.made.items
  pub base : new.base ≡ old.base
  pub opened : held new.opened ≡ held old.opened
  pub same : SameCounts old.store new.store

-- nothing is held, and no call was made
pub record IsFreshRecord (levels copies : ℕ) (r : Recorded) : Type 0 where
  pub lost : r.past.lost ≡ false
  pub calls : r.past.made.items ≡ []
  pub base : r.base ≡ 0
  pub opened : held r.opened ≡ nothing_held levels copies
  pub now : held r.store ≡ nothing_held levels copies
  pub levels_are : r.store.levels ≡ levels
  pub copies_are : r.store.copies ≡ copies
