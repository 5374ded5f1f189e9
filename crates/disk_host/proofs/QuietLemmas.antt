-- Lemmas on a vault that tells only what is always told, and keeps its drafts in a list of copies.
use Rattle.std.proofs.Common.{◌≡◌, ◌∙◌, ℕ, ◌≤◌, List, Bool, false, ◌||◌, map, set, get_or, Result, Ok, Err, OnOk, OnErr, is_err, sym, ap, subst, rules}
use Rattle.std.proofs.lemmas.List.{map-set}
use Rattle.std.proofs.Math.Seq.{map-set_same}
use Rattle.disk_model.specs.Cause.{Rose, Counts, exactly}
use Rattle.disk_model.specs.Vault.{VaultCall, writes_vault, IsReading, DraftIs, quiet_vault}
use Rattle.disk_model.specs.declared.answer.Answer.{Answer}
use Rattle.disk_model.specs.declared.draft.Draft.{Draft}
use Rattle.disk_model.specs.declared.fault.Failed.{Failed}
use Rattle.disk_model.proofs.CountLemmas.{counts_none}

-- a call that only reads
still_reading : {T : Type 0} (call : VaultCall) (gives : T → Answer) (result : Result T Failed) (before after writes levels : ℕ) (drafts : List Draft) → writes_vault call ≡ false → before ≤ after → OnErr result (Rose before after)
    → IsReading call gives result (quiet_vault before writes levels drafts) (quiet_vault after writes levels drafts)
still_reading call gives result before after writes levels drafts reads later cause =
    let counts : Counts (writes_vault call || false) (exactly writes) (exactly writes) = subst (λ (wrote : Bool). Counts (wrote || false) (exactly writes) (exactly writes)) (sym reads) (counts_none (exactly writes)) in
    search (rules, counts)

-- a copy is replaced by one with the same draft
pub reading : {X T : Type 0} (draft_in : X → Draft) (copies : List X) (i : ℕ) (copy d : X) (call : VaultCall) (gives : T → Answer) (result : Result T Failed) (before after writes levels : ℕ)
    → draft_in copy ≡ draft_in (get_or copies i d) → writes_vault call ≡ false → before ≤ after → OnErr result (Rose before after)
    → IsReading call gives result (quiet_vault before writes levels (map draft_in copies)) (quiet_vault after writes levels (map draft_in (set copies i copy)))
reading draft_in copies i copy d call gives result before after writes levels same reads later cause =
    subst (λ (drafts : List Draft). IsReading call gives result (quiet_vault before writes levels (map draft_in copies)) (quiet_vault after writes levels drafts)) (sym (map-set_same draft_in copies i copy d same))
    (still_reading call gives result before after writes levels (map draft_in copies) reads later cause)

-- a copy is replaced by one with this draft
pub draft_is : {X : Type 0} (draft_in : X → Draft) (copies : List X) (i : ℕ) (copy : X) (draft : Draft) (content : List ℕ) (before after one other levels : ℕ)
    → draft_in copy ≡ draft → DraftIs i draft content (quiet_vault before one levels (map draft_in copies)) (quiet_vault after other levels (map draft_in (set copies i copy)))
draft_is draft_in copies i copy draft content before after one other levels is = record {
  state = map-set draft_in copies i copy ∙ ap (λ (one : Draft). set (map draft_in copies) i one) is;
  bytes = λ told. absurd (cc);
}

-- what holds where one call succeeds, and where it fails, holds of another that ends in the same way
pub ok_too : {A B E G : Type 0} {P Q : Type 0} (answer : Result A E) (result : Result B G) → is_err result ≡ is_err answer → (P → Q) → OnOk answer P → OnOk result Q
ok_too (Ok a) (Ok b) same then is = then is
ok_too (Ok a) (Err e) same then is = tt
ok_too (Err e) (Ok b) same then is = absurd (cc)
ok_too (Err e) (Err o) same then is = tt

pub err_too : {A B E G : Type 0} {P Q : Type 0} (answer : Result A E) (result : Result B G) → is_err result ≡ is_err answer → (P → Q) → OnErr answer P → OnErr result Q
err_too (Ok a) (Ok b) same then is = tt
err_too (Ok a) (Err e) same then is = absurd (cc)
err_too (Err e) (Ok b) same then is = tt
err_too (Err e) (Err o) same then is = then is
