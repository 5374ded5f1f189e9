-- A write of no bytes at the start of a file changes nothing.
use Rattle.std.proofs.Common.{inr, ℕ, ◌≡◌, List, [], set, Result, ◌∙◌, ap, arith}
use Rattle.std.proofs.lemmas.List.{ext_get_or, set-get_or}
use Rattle.disk_model.specs.Bytes.{Torn}
use Rattle.disk_model.specs.Files.{Files, parity_of, TearsParity, Stays}
use Rattle.disk_model.specs.Vault.{VaultView, VaultCall, IsCall, ChangesBy, DraftsStay}
use Rattle.disk_model.specs.declared.fault.Failed.{Failed}
use Rattle.disk_model.proofs.MomentsLemmas.{leaves_more}
use Rattle.parity_split.specs.Works.{Works}
use Rattle.parity_split.proofs.WorksLemmas.{works_then, stays_then, call_works}

torn_by_none : (x y : List ℕ) → Torn 0 0 x y → y ≡ x
torn_by_none x y torn = ext_get_or 0 y x (omega (arith, torn.no_shorter, torn.no_longer)) (λ i below. torn.same i (omega (arith, torn.no_longer)) (inr (omega arith)))

tears_none : (level : ℕ) (old new : Files) → TearsParity level 0 0 old new → Stays old new
tears_none level old new tears =
    tears.rest ∙ ap (λ file. record old { parities = set old.parities level file }) (torn_by_none (parity_of old level) tears.file tears.torn)
    ∙ ap (λ ps. record old { parities = ps }) (set-get_or old.parities level [])

none_stays : (level : ℕ) (old new : VaultView) → ChangesBy (TearsParity level 0 0) old new → ChangesBy Stays old new
none_stays level old new changes = record {
  reads = λ t. tears_none level _ _ (changes.reads t);
  leaves = leaves_more (TearsParity level 0 0) Stays old.images new.images (λ told a b s. tears_none level a b s) changes.leaves;
}

-- after calls that change nothing, a write of no bytes
pub makes_then : {T : Type 0} (call : VaultCall) (result : Result T Failed) (level : ℕ) (old mid new : VaultView) → Works Stays old mid
    → IsCall call result mid new → ChangesBy (TearsParity level 0 0) mid new → DraftsStay mid new → Works Stays old new
makes_then call result level old mid new one is changes drafts =
    works_then Stays old mid new stays_then one (call_works Stays call result mid new is (none_stays level mid new changes) drafts)
