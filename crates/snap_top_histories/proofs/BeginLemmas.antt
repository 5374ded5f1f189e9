-- An array that an opener holds, of which the vault was just opened.
use Rattle.std.proofs.Common.{◌≡◌, ℕ, zero, suc, ◌<◌, List, [], ◌∷◌, map, length, get_or, replicate, true, false, Option, None, Some, IsTrue, refl, sym, ap, ◌∙◌, subst, arith}
use Rattle.std.proofs.lemmas.List.{get_or-replicate, length-replicate}
use Rattle.disk_model.specs.Files.{content_of}
use Rattle.disk_model.specs.Folder.{FolderView, quiet_folder}
use Rattle.disk_model.specs.Opener.{OpenerView, SameVault}
use Rattle.disk_model.specs.Sink.{SinkView}
use Rattle.disk_model.specs.Tree.{IsTree}
use Rattle.disk_model.specs.Vault.{IsSettled, VaultView}
use Rattle.disk_model.specs.declared.draft.Draft.TheVariants.{Absent}
use Rattle.disk_memory.specs.Folder.{folder_view, folder_well_formed}
use Rattle.disk_memory.specs.Opener.{IsFreshOpener}
use Rattle.disk_calm.specs.Store.{nothing_held}
use Rattle.disk_memory.specs.Vault.{fresh_vault, view_of}
use Rattle.disk_memory.specs.declared.folder.MemFolder.{MemFolder}
use Rattle.snap_sync.specs.Part.{AllTell, trees_of}
use Rattle.snap_top.specs.LastSynced.{LastSynced}
use Rattle.snap_top.specs.Levels.{by_setup, said_by}
use Rattle.snap_top.specs.Entry.{at_entry, entry_seen}
use Rattle.snap_top.specs.Standing.{BeginsOver, IsOrigin, nothing_synced}
use Rattle.snap_top_histories.specs.Lived.{IsNew, files_seen, standing_of}
use Rattle.snap_top_histories.proofs.SeenLemmas.{contents_seen, copies_seen, faults_seen, files_by, moment_seen, settled_seen, tells_seen}

-- ---- what an opener holds

settled_held : (vault held : VaultView) → SameVault true vault held → IsSettled vault → IsSettled held
settled_held vault held same settled told files left =
    settled (sym (same.tells_images refl) ∙ told) files ((same.since refl vault.images.moment files).0 (subst (λ (m : ℕ). held.images.since m files) (same.moment refl) left))
    ∙ sym (same.files refl)

all_tell : (folders : List MemFolder) → AllTell (map folder_view folders)
all_tell [] d below = absurd (omega (arith, below))
all_tell (folder ∷ folders) zero below = refl
all_tell (folder ∷ folders) (suc d) below = all_tell folders d (omega (arith, below))

abbrev HoldTrees : List FolderView → Type 0
HoldTrees folders = (d : ℕ) → d < length folders → IsTree (get_or folders d (quiet_folder 0 false)).tree

hold_trees : (folders : List MemFolder) → HoldTrees (map folder_view folders)
hold_trees [] d below = absurd (omega (arith, below))
hold_trees (folder ∷ folders) zero below = (folder_well_formed folder).tree refl
hold_trees (folder ∷ folders) (suc d) below = hold_trees folders d (omega (arith, below))

pub fresh_with : (held config : List ℕ) (folders : List MemFolder) (vault : VaultView) (opener : OpenerView) → held ≡ config
    → IsFreshOpener held (map folder_view folders) vault opener → IsFreshOpener config (map folder_view folders) vault opener
fresh_with held config folders vault opener same fresh = subst (λ (cs : List ℕ). IsFreshOpener cs (map folder_view folders) vault opener) same fresh

pub begins_over : (config : List ℕ) (folders : List MemFolder) (vault : VaultView) (opener : OpenerView) (texts : List (List ℕ)) (out : SinkView) (moment : ℕ) (seed : List ℕ)
    → IsFreshOpener config (map folder_view folders) vault opener → IsTrue vault.tells → IsSettled vault → (last : LastSynced)
    → BeginsOver (standing_of config (map folder_view folders) vault last) (entry_seen (at_entry texts opener out moment seed))
begins_over config folders vault opener texts out moment seed fresh tells settled last = record {
  tells = record {
    tells = fresh.tells;
    tells_vault = tells_seen (said_by opener.config) opener.vault ∙ fresh.vault_is.tells refl ∙ tells;
    tells_folders = subst AllTell (sym fresh.folders_are) (all_tell folders);
  };
  settled = settled_seen (said_by opener.config) opener.vault (settled_held vault opener.vault fresh.vault_is settled);
  config = fresh.config_is;
  are_trees = subst HoldTrees (sym fresh.folders_are) (hold_trees folders);
  trees = ap trees_of fresh.folders_are;
  copies = copies_seen (said_by opener.config) opener.vault ∙ ap length (fresh.vault_is.drafts refl);
  files = ap (λ (cs : List ℕ). files_seen cs opener.vault) fresh.config_is ∙ files_by (said_by config) opener.vault vault (fresh.vault_is.files refl);
}

-- it is at its first moment by its levels, and no call of it failed
pub moment_at : (config : List ℕ) (folders : List FolderView) (vault : VaultView) (opener : OpenerView) → IsFreshOpener config folders vault opener → IsNew vault
    → (by_setup (said_by opener.config) opener.vault).images.moment ≡ 0
moment_at config folders vault opener fresh is_new = moment_seen (said_by opener.config) opener.vault ∙ fresh.vault_is.moment refl ∙ is_new.moment

pub faults_at : (config : List ℕ) (folders : List FolderView) (vault : VaultView) (opener : OpenerView) → IsFreshOpener config folders vault opener → IsNew vault
    → (by_setup (said_by opener.config) opener.vault).faults ≡ 0
faults_at config folders vault opener fresh is_new = faults_seen (said_by opener.config) opener.vault ∙ fresh.vault_is.faults ∙ is_new.faults

-- ---- before the first run

none_there : (levels copies copy : ℕ) → copy < length (replicate copies Absent) → content_of (nothing_held levels copies).files copy ≡ None
none_there levels copies copy below = get_or-replicate copies copy None None (omega (arith, below, length-replicate copies Absent))

pub origin : (config : List ℕ) (folders : List FolderView) (levels copies : ℕ) → IsOrigin (standing_of config folders (view_of (fresh_vault levels copies)) nothing_synced)
origin config folders levels copies = record {
  none = λ copy below bytes there content.
      let same : content_of (files_seen config (view_of (fresh_vault levels copies))) copy ≡ content_of (nothing_held levels copies).files copy
      = ap (λ (cs : List (Option (List ℕ))). get_or cs copy None) (contents_seen (said_by config) (view_of (fresh_vault levels copies))) in
      let clash : None ≡ Some bytes = sym (none_there levels copies copy below) ∙ sym same ∙ there in
      cc;
  nothing = refl;
}
