-- A count of writing calls, over one list of calls and then another.
use Rattle.std.proofs.Common.{◌≡◌, ℕ, ◌+◌, ◌≤◌, List, [], ◌∷◌, ◌++◌, Bool, true, false, cond, ◌||◌, refl, sym, ◌∙◌, subst, arith, All}
use Rattle.std.proofs.lemmas.List.Folds.{list_any-append, list_any_none}
use Rattle.std.proofs.lemmas.List.Sums.{sum_by_push}
use Rattle.disk_model.specs.Cause.{Rose, WriteCount, Counts, exactly}
use Rattle.disk_model.specs.Folder.{FolderCall, FolderDone, writes_folder, any_folder_write}
use Rattle.disk_model.specs.Vault.{VaultCall, VaultDone, writes_vault, any_write, vault_writes}

pub counts_none : (w : WriteCount) → Counts false w w
counts_none w = record { exact = refl; later = omega arith; stays = λ none. refl; rose = λ exact clash. absurd (let no : false ≡ true = clash in cc) }

pub counts_then : (a b : Bool) (x y z : WriteCount) → Counts a x y → Counts b y z → Counts (a || b) x z
counts_then a b x y z one two = record {
  exact = two.exact ∙ one.exact;
  later = omega (arith, one.later, two.later);
  stays = stays a b one.stays two.stays;
  rose = λ exact. rose a b (one.stays) one.later two.later (one.rose exact) (two.rose (one.exact ∙ exact));
}
  where
    stays : (a b : Bool) → (a ≡ false → y.count ≡ x.count) → (b ≡ false → z.count ≡ y.count) → (a || b) ≡ false → z.count ≡ x.count
    stays true b first second clash = absurd (let no : true ≡ false = clash in cc)
    stays false b first second none = second none ∙ first refl

    rose : (a b : Bool) → (a ≡ false → y.count ≡ x.count) → x.count ≤ y.count → y.count ≤ z.count → (a ≡ true → Rose x.count y.count) → (b ≡ true → Rose y.count z.count) → (a || b) ≡ true → Rose x.count z.count
    rose true b same le more first second wrote = let r : Rose x.count y.count = first refl in omega (arith, r, more)
    rose false b same le more first second wrote = subst (λ n. Rose n z.count) (same refl) (second wrote)

-- an object's count that stays over calls that only read
pub counts_stay : {wrote : Bool} (x y : WriteCount) → wrote ≡ false → Counts wrote x y → y ≡ x
counts_stay x y none counts i = record { exact = counts.exact i; count = counts.stays none i }

-- one that counts each writing call, over one of them and over one that only reads
pub counts_write : (n m : ℕ) → n ≤ m → Rose n m → Counts true (exactly n) (exactly m)
counts_write n m later rose = record { exact = refl; later = later; stays = λ clash. absurd (let no : true ≡ false = clash in cc); rose = λ exact wrote. rose }

counts_more : (wrote : Bool) (n m : ℕ) → m ≡ n + cond wrote 1 0 → Counts wrote (exactly n) (exactly m)
counts_more true n m is = counts_write n m (omega arith) (omega arith)
counts_more false n m is = record { exact = refl; later = omega arith; stays = λ none. omega arith; rose = λ exact clash. absurd (let no : false ≡ true = clash in cc) }

-- ---- of a vault

-- one whose count is the number of the writing calls among all that were made
pub counts_call : (calls : List VaultDone) (done : VaultDone) → Counts (writes_vault done.call) (exactly (vault_writes calls)) (exactly (vault_writes (calls ++ done ∷ [])))
counts_call calls done = counts_more (writes_vault done.call) (vault_writes calls) (vault_writes (calls ++ done ∷ [])) (sum_by_push (λ (d : VaultDone). cond (writes_vault d.call) 1 0) calls done)

pub writes_then : (one two : List VaultDone) (x y z : WriteCount) → Counts (any_write one) x y → Counts (any_write two) y z → Counts (any_write (one ++ two)) x z
writes_then one two x y z a b =
    subst (λ wrote. Counts wrote x z) (sym (list_any-append (λ (done : VaultDone). writes_vault done.call) one two)) (counts_then (any_write one) (any_write two) x y z a b)

pub none_writes : (P : VaultCall → Type 0) (done : List VaultDone) → ((call : VaultCall) → P call → writes_vault call ≡ false) → All (λ (d : VaultDone). P d.call) done → any_write done ≡ false
none_writes P done reads each = list_any_none (λ (d : VaultDone). writes_vault d.call) done (λ k d below. reads _ (each k d below))

-- ---- of a folder

pub folder_writes_then : (one two : List FolderDone) (x y z : WriteCount) → Counts (any_folder_write one) x y → Counts (any_folder_write two) y z → Counts (any_folder_write (one ++ two)) x z
folder_writes_then one two x y z a b =
    subst (λ wrote. Counts wrote x z) (sym (list_any-append (λ (done : FolderDone). writes_folder done.call) one two)) (counts_then (any_folder_write one) (any_folder_write two) x y z a b)

pub none_writes_folder : (P : FolderCall → Type 0) (done : List FolderDone) → ((call : FolderCall) → P call → writes_folder call ≡ false) → All (λ (d : FolderDone). P d.call) done → any_folder_write done ≡ false
none_writes_folder P done reads each = list_any_none (λ (d : FolderDone). writes_folder d.call) done (λ k d below. reads _ (each k d below))
