-- When nothing of a vault in memory is unsynced.
use Rattle.std.proofs.Common.{◌≡◌, ℕ, zero, suc, List, [], length, not, Bool, true, false, if◌then◌else◌, Result, OnOk, OnErr, replicate, Ok, Err, refl, sym, ◌∙◌, ap, subst, arith}
use Rattle.std.proofs.lemmas.List.{drop_all, length-map, length-replicate}
use Rattle.disk_model.specs.Files.{Files}
use Rattle.disk_model.specs.Machine.{images_of, opened_with}
use Rattle.disk_model.specs.Moments.{MayLeave}
use Rattle.disk_model.specs.Vault.{VaultDone, IsSettled}
use Rattle.disk_model.specs.declared.draft.Draft.{Draft}
use Rattle.disk_model.specs.declared.draft.Draft.TheVariants.{Absent}
use Rattle.disk_model.proofs.ByCallsLemmas.{opened_reads, opened_is_settled}
use Rattle.disk_memory.specs.Calls.{vault_calls, vault_done}
use Rattle.disk_memory.specs.Goes.{Damages, SameRecord}
use Rattle.disk_calm.specs.Held.{Held}
use Rattle.disk_memory.specs.Recorded.{opened_by, calls_since}
use Rattle.disk_calm.specs.Store.{held}
use Rattle.disk_memory.specs.Vault.{VaultValue, value_of, view_of}
use Rattle.disk_memory.specs.declared.calls.VaultEntry.{VaultEntry}
use Rattle.disk_memory.specs.declared.past.Made.{Made}
use Rattle.disk_memory.specs.declared.recorded.Recorded.{Recorded}

-- the drafts of an opened vault do not matter to what a stop leaves
as_opened : (h : Held) (told : Bool) (files : Files) → MayLeave (images_of told (opened_by h) []) files → MayLeave (images_of told (opened_with h.files) []) files
as_opened h told files (zero, low, high, image) = (zero, low, high, record { levels = image.levels; copies = image.copies; parities = image.parities; contents = image.contents })
as_opened h told files (suc k, low, high, image) = absurd (omega (arith, high))

-- it was just opened
pub settled_anew : (v : VaultValue) → v.since ≡ [] → v.held_now ≡ v.opened → IsSettled (view_of v)
settled_anew v none same = λ told files left.
    let left_now = subst (λ (cs : List VaultDone). MayLeave (images_of v.told (opened_by v.opened) cs) files) none left in
    opened_is_settled v.opened.files v.told v.faults told files (as_opened v.opened v.told files left_now) ∙ opened_reads v.opened.files ∙ ap (λ (h : Held). h.files) (sym same)

-- no call was made
pub settled_fresh : (faults : ℕ) (r : Recorded) → r.past.made.items ≡ [] → held r.store ≡ held r.opened → IsSettled (view_of (value_of faults r))
settled_fresh faults r none same = settled_anew (value_of faults r) (ap (λ (es : List (Made VaultEntry)). calls_since r.base es) none ∙ drop_all r.base [] (omega arith)) same

no_draft : (old new : List Draft) → new ≡ old → old ≡ replicate (length old) Absent → new ≡ replicate (length new) Absent
no_draft old new same none = same ∙ none ∙ ap (λ (ds : List Draft). replicate (length ds) Absent) (sym same)

-- none that is new has a draft
pub no_draft_anew : (copies : ℕ) (drafts : List Draft) → drafts ≡ replicate copies Absent → drafts ≡ replicate (length drafts) Absent
no_draft_anew copies drafts is = is ∙ ap (λ (n : ℕ). replicate n Absent) (sym (length-replicate copies Absent) ∙ sym (ap length is))

-- it was damaged from outside
pub settled_damaged : (faults : ℕ) (old new : Recorded) (now : Held) → Damages now old new → IsSettled (view_of (value_of faults new))
settled_damaged faults old new now damages = by old.past.lost refl
  where
    by : (lost : Bool) → old.past.lost ≡ lost → IsSettled (view_of (value_of faults new))
    by true is = λ told. absurd (let gone : new.past.lost ≡ true = damages.lost ∙ is in let clash : false ≡ true = sym (ap not gone) ∙ told in cc)
    by false is =
        let base : new.base ≡ length old.past.made.items = damages.base ∙ ap (λ b. if b then old.base else length old.past.made.items) is in
        let opened : held new.opened ≡ now = damages.opened ∙ ap (λ b. if b then held old.opened else now) is in
        let none : calls_since new.base new.past.made.items ≡ []
        = drop_all new.base (vault_calls new.past.made.items) (omega (arith, base, ap length damages.calls, length-map new.past.made.items vault_done)) in
        settled_anew (value_of faults new) none (damages.held_now ∙ sym opened)

-- damage leaves the drafts
pub drafts_kept : {T E : Type 0} (result : Result T E) (old new : Recorded) (now : Held) → now.drafts ≡ (held old.store).drafts → OnOk result (Damages now old new) → OnErr result (SameRecord old new)
    → (held old.store).drafts ≡ replicate (length (held old.store).drafts) Absent → (held new.store).drafts ≡ replicate (length (held new.store).drafts) Absent
drafts_kept (Ok x) old new now same ok err none = no_draft (held old.store).drafts (held new.store).drafts (ap (λ (h : Held). h.drafts) ok.held_now ∙ same) none
drafts_kept (Err e) old new now same ok err none = no_draft (held old.store).drafts (held new.store).drafts (ap (λ (h : Held). h.drafts) err.held_now) none

pub ok_more : {T E P Q : Type 0} (result : Result T E) → OnOk result P → (P → Q) → OnOk result Q
ok_more (Ok x) p more = more p
ok_more (Err e) p more = tt
