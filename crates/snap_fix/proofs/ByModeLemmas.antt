-- What a check leaves.
use Rattle.std.proofs.Common.{◌≡◌, ℕ, ◌<◌, ◌≤◌, ◌⊎◌, inl, inr, List, length, Result, Ok, Err, IfOk, IfErr, refl, ◌∙◌, sym, ap, subst, arith}
use Rattle.std.proofs.lemmas.Bool.{cases_lt}
use Rattle.folder_listing.specs.Listings.{FailsAt, ListsFirst, RunsOut}
use Rattle.disk_model.specs.Files.{Stays}
use Rattle.disk_model.specs.Folder.{FolderView, TreeStays}
use Rattle.disk_model.specs.Sink.{SinkView}
use Rattle.disk_model.specs.Vault.{VaultView}
use Rattle.disk_model.proofs.VaultLemmas.{changes_start}
use Rattle.file_table.specs.Table.{TableValue}
use Rattle.array_setup.specs.declared.ways.Selection.{Selection}
use Rattle.snap_report.specs.Report.{ReportView}
use Rattle.snap_report.specs.declared.answer.RunFault.{RunFault}
use Rattle.snap_report.specs.declared.answer.RunFault.TheVariants.{Folder, Vault, Memory}
use Rattle.snap_report.specs.declared.events.Event.{Event}
use Rattle.stripe_reader.specs.Columns.{folder_at}
use Rattle.snap_fix.specs.declared.checks.FixEnd.{FixEnd}
use Rattle.repair_scope.specs.declared.scope.Mode.{Mode}
use Rattle.repair_scope.specs.declared.scope.Mode.TheVariants.{Check, Audit, Fix}
use Rattle.snap_fix.specs.Beginning.{BeginsNot}
use Rattle.snap_fix.specs.ByMode.{LeavesAll, LeavesFor, MayFailBy, Repairs, RepairsNot}
use Rattle.snap_fix.specs.Course.{Checks, Outside}
use Rattle.snap_fix.specs.FixBreaking.{FixesNot}
use Rattle.snap_fix.specs.FixCourse.{Fixes}
use Rattle.snap_fix.proofs.FixedParityLemmas.{drafts_same}

-- a fact, and others beside it
pub nested : {T E : Type 0} (result : Result T E) (A : E → Type 0) (B C D F : Type 0) → IfErr result (λ fault. A fault × B × C × D × F) → IfErr result (λ fault. A fault × (B × C × D × F))
nested (Ok _) A B C D F all = tt
nested (Err _) A B C D F all = (all.0, (all.1, all.2, all.3, all.4))

-- the files of all folders stay
abbrev AllStay : List FolderView → List FolderView → Type 0
AllStay olds news = (d : ℕ) → d < length olds → TreeStays (folder_at olds d) (folder_at news d)

same_stays : (old new : FolderView) → new ≡ old → TreeStays old new
same_stays old new same tells = ap (λ (v : FolderView). v.tree) same

first_stay : (count : ℕ) (olds news : List FolderView) → ListsFirst count olds news → AllStay olds news
first_stay count olds news first d below = by (cases_lt d count)
  where
    from : (count < d) ⊎ (d ≤ count) → count ≤ d → TreeStays (folder_at olds d) (folder_at news d)
    from (inl over) least = (first.behind d over below).call.tree
    from (inr under) least =
        let same : d ≡ count = omega (arith, under, least) in
        subst (λ k. TreeStays (folder_at olds k) (folder_at news k)) (sym same) (first.ran_out (omega (arith, below, same))).tree

    by : (d < count) ⊎ (count ≤ d) → TreeStays (folder_at olds d) (folder_at news d)
    by (inl before) = (first.before d before).tree
    by (inr least) = from (cases_lt count d) least

out_stay : (olds news : List FolderView) → RunsOut olds news → AllStay olds news
out_stay olds news (inl same) d below = same_stays _ _ (ap (λ fs. folder_at fs d) same)
out_stay olds news (inr first) d below = first_stay first.0 olds news first.1 d below

failed_stay : (disk : ℕ) (olds news : List FolderView) → FailsAt disk olds news → AllStay olds news
failed_stay disk olds news fails d below = by (cases_lt d disk)
  where
    behind : (disk < d) ⊎ (d ≤ disk) → disk ≤ d → TreeStays (folder_at olds d) (folder_at news d)
    behind (inl over) least = (fails.behind d over below).call.tree
    behind (inr under) least = let same : d ≡ disk = omega (arith, under, least) in subst (λ k. TreeStays (folder_at olds k) (folder_at news k)) (sym same) fails.failed.tree

    by : (d < disk) ⊎ (disk ≤ d) → TreeStays (folder_at olds d) (folder_at news d)
    by (inl before) = (fails.before d before).tree
    by (inr least) = behind (cases_lt disk d) least

begun_stay : (olds news : List FolderView) (fault : RunFault) → BeginsNot olds news fault → AllStay olds news
begun_stay olds news (Folder disk) why = failed_stay disk olds news why
begun_stay olds news Memory why = out_stay olds news why
begun_stay olds news Vault why = absurd why

-- a check that did not begin
pub not_begun_leaves : (olds news : List FolderView) (old new : VaultView) (fault : RunFault) → length news ≡ length olds → new ≡ old → BeginsNot olds news fault → LeavesAll olds news old new
not_begun_leaves olds news old new fault many same why = subst (λ (v : VaultView). LeavesAll olds news old v) (sym same) (record {
  as_many = many;
  trees = begun_stay olds news fault why;
  files = changes_start Stays old (λ files. refl);
  drafts = drafts_same old;
})

-- and does not fail by the vault
pub not_by_vault : (olds news : List FolderView) (fault : RunFault) → BeginsNot olds news fault → ¬ (fault ≡ Vault)
not_by_vault olds news fault why is = subst (BeginsNot olds news) is why

-- a check that ended
module _ {W R : Type 0} (view : W → SinkView) (standing : R → ReportView) (stands : R → List Event → Type 0) where
  pub checks_leave : (mode : Mode) (selection : Selection) (names : List (List ℕ)) (table : TableValue) (old new : Outside W R) (end : FixEnd)
      → Checks view standing stands mode selection names table old new end → LeavesAll old.folders new.folders old.vault new.vault
  checks_leave mode selection names table old new end checks = record {
    as_many = checks.read.folders ∙ checks.as_many;
    trees = λ d below told.
        let call = (checks.listed.each d below).call in
        let read = checks.read.each d (subst (λ (n : ℕ). d < n) (sym checks.as_many) below) in
        read.folder.tree (call.called.goes_on.tells ∙ told) ∙ call.tree told;
    files = checks.levels.changes;
    drafts = checks.levels.drafts;
  }

  -- ---- by the mode

  module _ (selection : Selection) (names : List (List ℕ)) (table : TableValue) (old new : Outside W R) (result : Result FixEnd RunFault) where
    abbrev ChecksIn : Mode → Type 0
    ChecksIn mode = IfOk result (Checks view standing stands mode selection names table old new)

    abbrev RepairsIn : Mode → Type 0
    RepairsIn mode = IfOk result (Repairs view standing stands mode selection names table old new)

    -- a check or an audit ended
    pub checked : (mode : Mode) → (mode ≡ Check) ⊎ (mode ≡ Audit) → ChecksIn mode → RepairsIn mode
    checked mode (inl is) = subst (λ (m : Mode). ChecksIn m → RepairsIn m) (sym is) (λ checks. checks)
    checked mode (inr is) = subst (λ (m : Mode). ChecksIn m → RepairsIn m) (sym is) (λ checks. checks)

    -- a fix did
    pub fixed : (mode : Mode) → mode ≡ Fix → IfOk result (Fixes view standing stands Fix selection names table old new) → RepairsIn mode
    fixed mode is fixes = subst RepairsIn (sym is) fixes

    module _ (untouched : Type 0) where
      abbrev BeginsNotIn : Type 0
      BeginsNotIn = IfErr result (λ fault. BeginsNot old.folders new.folders fault × untouched)

      abbrev RepairsNotIn : Mode → Type 0
      RepairsNotIn mode = IfErr result (RepairsNot view standing stands mode selection names table old new untouched)

      pub not_checked : (mode : Mode) → (mode ≡ Check) ⊎ (mode ≡ Audit) → BeginsNotIn → RepairsNotIn mode
      not_checked mode (inl is) = subst (λ (m : Mode). BeginsNotIn → RepairsNotIn m) (sym is) (λ begun. begun)
      not_checked mode (inr is) = subst (λ (m : Mode). BeginsNotIn → RepairsNotIn m) (sym is) (λ begun. begun)

      pub not_fixed : (mode : Mode) → mode ≡ Fix → IfErr result (FixesNot view standing stands Fix selection names table old new untouched) → RepairsNotIn mode
      not_fixed mode is fails = subst RepairsNotIn (sym is) fails

      leaves_by : (mode : Mode) (it : Result FixEnd RunFault) → length new.folders ≡ length old.folders → (untouched → new.vault ≡ old.vault)
          → IfOk it (Checks view standing stands mode selection names table old new) → IfErr it (λ fault. BeginsNot old.folders new.folders fault × untouched)
          → LeavesAll old.folders new.folders old.vault new.vault
      leaves_by mode (Ok end) many same checks begun = checks_leave mode selection names table old new end checks
      leaves_by mode (Err fault) many same checks begun = not_begun_leaves old.folders new.folders old.vault new.vault fault many (same begun.1) begun.0

      -- it leaves all
      pub leaves_all : (mode : Mode) → (mode ≡ Check) ⊎ (mode ≡ Audit) → length new.folders ≡ length old.folders → (untouched → new.vault ≡ old.vault) → ChecksIn mode → BeginsNotIn
          → LeavesFor mode old.folders new.folders old.vault new.vault
      leaves_all mode either many same checks begun = by either (leaves_by mode result many same checks begun)
        where
          by : (mode ≡ Check) ⊎ (mode ≡ Audit) → LeavesAll old.folders new.folders old.vault new.vault → LeavesFor mode old.folders new.folders old.vault new.vault
          by (inl is) all = subst (λ (m : Mode). LeavesFor m old.folders new.folders old.vault new.vault) (sym is) all
          by (inr is) all = subst (λ (m : Mode). LeavesFor m old.folders new.folders old.vault new.vault) (sym is) all

-- it does not fail by the vault
pub not_caused : (mode : Mode) (olds news : List FolderView) (untouched : Type 0) (result : Result FixEnd RunFault)
    → IfErr result (λ fault. BeginsNot olds news fault × untouched) → IfErr result (MayFailBy mode)
not_caused mode olds news untouched (Ok _) begun = tt
not_caused mode olds news untouched (Err its) begun = λ is. absurd (not_by_vault olds news its begun.0 is)

-- a fix leaves what it leaves, and may fail by the vault
pub fix_leaves : (mode : Mode) (folders folders_new : List FolderView) (vault vault_new : VaultView) → mode ≡ Fix → LeavesFor mode folders folders_new vault vault_new
fix_leaves mode folders folders_new vault vault_new is = subst (λ (m : Mode). LeavesFor m folders folders_new vault vault_new) (sym is) tt

pub fix_caused : (mode : Mode) (result : Result FixEnd RunFault) → mode ≡ Fix → IfErr result (MayFailBy mode)
fix_caused mode (Ok end) is = tt
fix_caused mode (Err _) is = λ by_vault. is
