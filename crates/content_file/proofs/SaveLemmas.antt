-- A copy is replaced by its sealed draft, and copies are saved one after another.
use Rattle.std.proofs.Common.{◌≡◌, ◌⊎◌, inl, inr, ⊎_elim, ℕ, ◌+◌, ◌<◌, List, [], length, None, Some, true, IsTrue, Result, OnOk, refl, sym, ◌∙◌, ap, subst, arith, below_more, get_or, set}
use Rattle.std.proofs.lemmas.List.{set-get_or, get_or-set_same, get_or-set_other, set_past}
use Rattle.std.proofs.lemmas.Bool.{cases_eq, cases_lt}
use Rattle.disk_model.specs.Files.{Files, Stays, MayPublish, content_of}
use Rattle.disk_model.specs.Vault.{VaultView, SomeCalls, ChangesBy, Holds, DraftIs, staged_of, draft_of, copies_of, is_sealed, IsWellFormed}
use Rattle.disk_model.specs.declared.draft.Draft.TheVariants.{Absent, Sealed}
use Rattle.disk_model.specs.declared.fault.Failed.{Failed}
use Rattle.disk_model.proofs.MomentsLemmas.{leaves_more}
use Rattle.disk_model.proofs.VaultLemmas.{on_ok, no_calls, calls_then, changes_start, changes_then, changes_more, stays_then, draft_state, draft_bytes}
use Rattle.content_file.specs.Save.{MaySave, HasSaved, HasNoDraft, copy_calls, piecewise_calls}
use Rattle.disk_model.specs.Calls.{MakesThese}
use Rattle.disk_model.proofs.CallsLemmas.{these_none}
use Rattle.disk_model.proofs.InOrder.{all_more}

-- ---- one copy

-- a copy that is not replaced
pub not_replaced : (copy : ℕ) (bytes : List ℕ) (files : Files) → MayPublish copy true bytes files files
not_replaced copy bytes files = record {
  content = content_of files copy;
  whole = λ t. inl refl;
  rest = ap (λ contents. record files { contents = contents }) (sym (set-get_or files.contents copy None));
}

pub no_publish : (copy : ℕ) (bytes : List ℕ) (old new : VaultView) → ChangesBy Stays old new → ChangesBy (MayPublish copy true bytes) old new
no_publish copy bytes old new stays =
    record {
      reads = λ t. subst (λ x. MayPublish copy true bytes old.files x) (sym (stays.reads t)) (not_replaced copy bytes old.files);
      leaves = leaves_more Stays (MayPublish copy true bytes) old.images new.images (λ told a b same. subst (λ x. MayPublish copy true bytes a x) (sym same) (not_replaced copy bytes a)) stays.leaves;
    }

-- a sealed draft was put in the place of the copy, or not
pub published : (copy : ℕ) (bytes : List ℕ) (old mid new : VaultView) → SomeCalls old mid → IsWellFormed mid → copy < copies_of old → DraftIs copy Sealed bytes old mid
    → ChangesBy Stays old mid → ChangesBy (MayPublish copy (is_sealed (draft_of mid copy)) (staged_of mid copy)) mid new → ChangesBy (MayPublish copy true bytes) old new
published copy bytes old mid new calls formed within sealed stays changes =
    let tells = calls.goes_on.tells in
    let same = calls.goes_on.copies in
    let state : draft_of mid copy ≡ Sealed = draft_state copy Sealed bytes old mid within sealed in
    stays_then (MayPublish copy true bytes) old mid new tells stays
    (changes_more (MayPublish copy (is_sealed (draft_of mid copy)) (staged_of mid copy)) (MayPublish copy true bytes) mid new formed
    (λ told a b step. subst (λ d. MayPublish copy (is_sealed d) bytes a b) state (subst (λ xs. MayPublish copy (is_sealed (draft_of mid copy)) xs a b) (draft_bytes copy Sealed bytes old mid told tells (omega (arith, same)) formed sealed) step))
    changes)
    (not_replaced copy bytes)

-- then the copy is the draft
pub copy_saved : {T : Type 0} (result : Result T Failed) (copy : ℕ) (bytes : List ℕ) (old mid new : VaultView) → SomeCalls old mid → IsWellFormed mid → IsWellFormed new → copy < copies_of old → DraftIs copy Sealed bytes old mid
    → new.tells ≡ mid.tells → OnOk result (draft_of mid copy ≡ Sealed → Holds (λ files. content_of files copy ≡ Some (staged_of mid copy)) new) → OnOk result (Holds (λ files. content_of files copy ≡ Some bytes) new)
copy_saved result copy bytes old mid new calls formed new_formed within sealed still published =
    let tells = calls.goes_on.tells in
    let same = calls.goes_on.copies in
    let is : IsTrue mid.tells → Some (staged_of mid copy) ≡ Some bytes = λ told. ap (λ xs. Some xs) (draft_bytes copy Sealed bytes old mid told tells (omega (arith, same)) formed sealed) in
    on_ok result
    (λ holds.
    let held = holds (draft_state copy Sealed bytes old mid within sealed) in
    record {
      reads = λ told. held.reads told ∙ is (sym still ∙ told);
      leaves = λ told files left. held.leaves told files left ∙ is (sym still ∙ new_formed.tells told);
    })
    published

-- ---- drafts

-- the draft of another copy, or of none
other_draft : (copy other : ℕ) (content : List ℕ) (old new : VaultView) → DraftIs copy Absent content old new → draft_of old other ≡ Absent → draft_of new other ≡ Absent
other_draft copy other content old new gone absent =
    let is : draft_of new other ≡ get_or (set old.drafts copy Absent) other Absent = ap (λ ds. get_or ds other Absent) gone.state in
    elim (cases_eq other copy) [
      | inl same ↦ elim (cases_lt copy (length old.drafts)) [
        | inl within ↦ is ∙ ap (λ k. get_or (set old.drafts copy Absent) k Absent) same ∙ get_or-set_same old.drafts copy Absent Absent within
        | inr past ↦ is ∙ ap (λ ds. get_or ds other Absent) (set_past old.drafts copy Absent past) ∙ absent
      ]
      | inr differs ↦ is ∙ get_or-set_other old.drafts copy other Absent Absent differs ∙ absent
    ]

-- ---- all copies

pub saves_nothing : (bytes : List ℕ) (files : Files) → MaySave bytes files files
saves_nothing bytes files = record { parities = refl; contents = λ copy. inl refl }

-- one copy that is replaced, or not
one_copy : (copy : ℕ) (bytes : List ℕ) (old new : Files) → MayPublish copy true bytes old new → (c : ℕ) → (content_of new c ≡ content_of old c) ⊎ (content_of new c ≡ Some bytes)
one_copy copy bytes old new may c =
    let is : content_of new c ≡ get_or (set old.contents copy may.content) c None = ap (λ f. content_of f c) may.rest in
    elim (cases_eq c copy) [
      | inl same ↦ elim (cases_lt copy (length old.contents)) [
        | inl within ↦
            let at : content_of new c ≡ may.content = is ∙ ap (λ k. get_or (set old.contents copy may.content) k None) same ∙ get_or-set_same old.contents copy may.content None within in
            ⊎_elim (λ kept. inl (at ∙ kept ∙ ap (λ k. content_of old k) (sym same))) (λ saved. inr (at ∙ saved)) (may.whole refl)
        | inr past ↦ inl (is ∙ ap (λ xs. get_or xs c None) (set_past old.contents copy may.content past))
      ]
      | inr other ↦ inl (is ∙ get_or-set_other old.contents copy c may.content None other)
    ]

pub saves_more : (copy : ℕ) (bytes : List ℕ) (a b c : Files) → MaySave bytes a b → MayPublish copy true bytes b c → MaySave bytes a c
saves_more copy bytes a b c one two = record {
  parities = ap (λ f. f.parities) two.rest ∙ one.parities;
  contents = λ k. ⊎_elim (λ kept. ⊎_elim (λ was. inl (kept ∙ was)) (λ saved. inr (kept ∙ saved)) (one.contents k)) (λ saved. inr saved) (one_copy copy bytes b c two k);
}

pub has_saved_more : (copy : ℕ) (bytes : List ℕ) (a b : Files) → HasSaved copy bytes a → MayPublish copy true bytes a b → content_of b copy ≡ Some bytes → HasSaved (copy + 1) bytes b
has_saved_more copy bytes a b saved may this =
    below_more (λ c. content_of b c ≡ Some bytes) copy (λ c below. ⊎_elim (λ kept. kept ∙ saved c below) (λ is. is) (one_copy copy bytes a b may c)) this

-- the first copies are saved, and have no drafts
pub record Saving (size copy : ℕ) (bytes : List ℕ) (old now : VaultView) : Type 0 where
  pub calls : SomeCalls old now
  pub made : MakesThese (piecewise_calls size copy bytes) old now
  pub changes : ChangesBy (MaySave bytes) old now
  pub saved : Holds (HasSaved copy bytes) now
  pub drafts : HasNoDraft old → HasNoDraft now
  pub gone : (k : ℕ) → k < copy → draft_of now k ≡ Absent

pub saving_start : (size : ℕ) (bytes : List ℕ) (old : VaultView) → Saving size 0 bytes old old
saving_start size bytes old = record {
  calls = no_calls old;
  made = these_none old;
  changes = changes_start (MaySave bytes) old (saves_nothing bytes);
  saved = record { reads = λ told copy below. absurd (omega arith); leaves = λ told files left copy below. absurd (omega arith) };
  drafts = λ none. none;
  gone = λ k below. absurd (omega arith);
}

pub saving_so_far : (size copy : ℕ) (bytes : List ℕ) (old mid new : VaultView) → Saving size copy bytes old mid → ChangesBy (MayPublish copy true bytes) mid new → ChangesBy (MaySave bytes) old new
saving_so_far size copy bytes old mid new so_far changes =
    changes_then (MaySave bytes) (MayPublish copy true bytes) (MaySave bytes) old mid new (λ a b s. s) (saves_more copy bytes) so_far.calls.goes_on.tells so_far.changes changes

pub drafts_so_far : (size copy : ℕ) (bytes : List ℕ) (old mid new : VaultView) → Saving size copy bytes old mid → DraftIs copy Absent [] mid new → HasNoDraft old → HasNoDraft new
drafts_so_far size copy bytes old mid new so_far gone none other = other_draft copy other [] mid new gone (so_far.drafts none other)

pub saving_more : (size copy : ℕ) (bytes : List ℕ) (old mid new : VaultView) → copy < copies_of mid → Saving size copy bytes old mid → SomeCalls mid new → MakesThese (copy_calls size bytes copy) mid new → ChangesBy (MayPublish copy true bytes) mid new
    → Holds (λ files. content_of files copy ≡ Some bytes) new → DraftIs copy Absent [] mid new → Saving size (copy + 1) bytes old new
saving_more size copy bytes old mid new within so_far calls made changes holds gone = record {
  calls = calls_then old mid new so_far.calls calls;
  made = all_more (copy_calls size bytes) copy old mid new so_far.made made;
  changes = saving_so_far size copy bytes old mid new so_far changes;
  saved = record {
    reads = λ told. let was = sym calls.goes_on.tells ∙ told in has_saved_more copy bytes mid.files new.files (so_far.saved.reads was) (changes.reads was) (holds.reads told);
    leaves = λ told files left.
        let came = changes.leaves.at_end told files left in
        has_saved_more copy bytes came.0 files (so_far.saved.leaves (changes.leaves.told told) came.0 came.1) came.2 (holds.leaves told files left);
  };
  drafts = drafts_so_far size copy bytes old mid new so_far gone;
  gone = below_more (λ k. draft_of new k ≡ Absent) copy (λ k below. other_draft copy k [] mid new gone (so_far.gone k below)) (draft_state copy Absent [] mid new within gone);
}
