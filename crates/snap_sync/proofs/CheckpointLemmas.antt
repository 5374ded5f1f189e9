-- A checkpoint by its two parts: parity is settled, and then a table is saved.
use Rattle.std.proofs.Common.{◌≡◌, ℕ, List, [], get_or, Result, OnOk, inl, inr, ⊎_elim, ap, ◌∙◌, subst, Ok, Err, IsErrAnd}
use Rattle.content_file.specs.Save.{MaySave, HasSaved}
use Rattle.disk_model.specs.Files.{Files, Stays, content_of}
use Rattle.disk_model.specs.Vault.{VaultView, IsWellFormed, SomeCalls, ChangesBy, Holds}
use Rattle.disk_model.specs.declared.fault.Failed.{Failed}
use Rattle.parity_writer.specs.Keeps.{SameParities}
use Rattle.snap_sync.specs.Work.{MaySettle}
use Rattle.snap_sync.proofs.StepLemmas.{changes_by, changes_looser, holds_on}

-- nothing is saved yet
may_stay : (levels : ℕ) (read : Files) (bytes : List ℕ) (a b : Files) → Stays a b → MaySettle levels read bytes a b
may_stay levels read bytes a b same = record {
  saves = record { parities = ap (λ (files : Files). files.parities) same; contents = λ copy. inl (ap (λ (files : Files). content_of files copy) same) };
  settled = inl same;
}

parities_kept : (levels : ℕ) (read : Files) (bytes : List ℕ) (a b : Files) → SameParities levels read a → MaySave bytes a b → SameParities levels read b
parities_kept levels read bytes a b same saves level below = ap (λ (parities : List (List ℕ)). get_or parities level []) saves.parities ∙ same level below

may_save : (levels : ℕ) (read : Files) (bytes : List ℕ) (a b c : Files) → Stays a b → SameParities levels read b → MaySave bytes b c → MaySettle levels read bytes a c
may_save levels read bytes a b c same settled saves = record {
  saves = record {
    parities = saves.parities ∙ ap (λ (files : Files). files.parities) same;
    contents = λ copy. ⊎_elim (λ was. inl (was ∙ ap (λ (files : Files). content_of files copy) same)) (λ is. inr is) (saves.contents copy);
  };
  settled = inr (parities_kept levels read bytes b c settled saves);
}

module _ (levels : ℕ) (bytes : List ℕ) (old new : VaultView) where
  -- the settling failed
  pub settles_not : ChangesBy Stays old new → ChangesBy (MaySettle levels old.files bytes) old new
  settles_not stays = changes_looser Stays (MaySettle levels old.files bytes) old new (may_stay levels old.files bytes) stays

  module _ (mid : VaultView) (formed : IsWellFormed new) (calls : SomeCalls old mid) (more : SomeCalls mid new) (stays : ChangesBy Stays old mid)
      (settled : Holds (SameParities levels old.files) mid) (saves : ChangesBy (MaySave bytes) mid new) where
    pub settles_and_saves : ChangesBy (MaySettle levels old.files bytes) old new
    settles_and_saves =
        changes_by Stays (MaySave bytes) (MaySettle levels old.files bytes) (SameParities levels old.files) old mid new formed
        (λ told. may_stay levels old.files bytes) (λ told. may_save levels old.files bytes) calls more stays settled saves

    -- parity stays so
    pub still_settled : Holds (SameParities levels old.files) new
    still_settled = holds_on (MaySave bytes) (SameParities levels old.files) (SameParities levels old.files) mid new more (parities_kept levels old.files bytes) saves settled

-- the copies are as many as before
pub saved_as : {T E : Type 0} (result : Result T E) (one other : ℕ) (bytes : List ℕ) (new : VaultView) → one ≡ other → OnOk result (Holds (HasSaved one bytes) new) → OnOk result (Holds (HasSaved other bytes) new)
saved_as result one other bytes new same saved = subst (λ (copies : ℕ). OnOk result (Holds (HasSaved copies bytes) new)) same saved

-- an error is no success
pub not_ok : {T : Type 0} (P : Type 0) (R : Failed → Type 0) (result : Result T Failed) → IsErrAnd result R → OnOk result P
not_ok P R (Ok x) is = absurd is
not_ok P R (Err fault) is = tt

-- what holds in any case
pub ok_or_not : {T P : Type 0} (result : Result T Failed) → P → OnOk result P
ok_or_not (Ok x) holds = holds
ok_or_not (Err fault) holds = tt
