-- What the check of an exercise finds follows from what its folders and its levels hold.
use Rattle.std.proofs.Common.{◌≡◌, ℕ, ◌<◌, List, ◌++◌, length, get_or, refl, sym, ap, ◌∙◌, subst, arith}
use Rattle.std.specs.FinMap as finite
use Rattle.std.specs.Prelude.{All, count_by}
use Rattle.std.proofs.lemmas.List.{ext_get_or, length-map}
use Rattle.folder_listing.specs.Kept.{ListedFile}
use Rattle.disk_model.specs.Cause.{Rose}
use Rattle.disk_model.specs.Files.{Files}
use Rattle.disk_model.specs.Folder.{FolderView}
use Rattle.disk_model.specs.Tree.{Tree}
use Rattle.file_table.specs.Table.{TableValue}
use Rattle.file_table.specs.Valid.{IsValid}
use Rattle.snap_exercise.specs.Exercised.{Array, IsChecked, NoneFailed, vault_of}
use Rattle.snap_exercise.proofs.AfterSyncLemmas.{none_at}
use Rattle.snap_exercise.proofs.AlikeLemmas.{as_many, gifts_same, its, its_then, levels_same, slot_alike, stripe_same, within_then}
use Rattle.snap_exercise.proofs.FixLemmas.{no_gift}
use Rattle.snap_exercise.proofs.HeldLemmas.{CameAsHeld, check_held, none_risen, tree_of_folder}
use Rattle.snap_exercise.proofs.LawLemmas.{not_rose}
use Rattle.snap_exercise.proofs.SeenLemmas.{IsDetermined, NoGifts, all_told_same, told_same}
use Rattle.snap_fix.specs.Course.{check_events}
use Rattle.snap_fix.specs.declared.checks.FixEnd.{FixEnd}
use Rattle.snap_report.specs.Kind.{is_finding}
use Rattle.snap_report.specs.declared.events.Event.{Event}
use Rattle.snap_sync.specs.Part.{AllTell, NoneRose, trees_of}
use Rattle.stripe_examiner.specs.Counts.{at_most}
use Rattle.stripe_examiner.specs.Facts.{StripeFacts, gift_of}
use Rattle.stripe_examiner.specs.Findings.{events_of, opening_events}
use Rattle.stripe_examiner.specs.Known.{AreFacts}
use Rattle.stripe_examiner.specs.Looking.{facts_at, no_facts, numbers_of, unread_in}
use Rattle.repair_scope.specs.Plan.{FixPlan, stripes_of}
use Rattle.stripe_reader.specs.Columns.{folder_at}

-- What is known of a check that ended, by what these files and these levels hold.
pub record IsCheckOf (plan : FixPlan) (lists : List (List ListedFile)) (trees : List Tree) (files : Files) (stripes : List StripeFacts) (end : FixEnd) : Type 0 where
  pub numbers : numbers_of stripes ≡ stripes_of plan
  pub are : All (AreFacts plan) stripes
  pub none : All NoGifts stripes
  pub came : CameAsHeld plan.table lists trees files stripes
  pub findings : end.findings ≡ at_most (count_by is_finding (check_events plan stripes))

-- a check in which no call failed
module _ (table : TableValue) (old new : Array) (end : FixEnd) (done : IsChecked table old new end) (tell : AllTell old.folders) (before : (d : ℕ) → (folder_at old.folders d).faults ≡ 0)
    (well_before : old.vault.faults ≡ 0) (well : NoneFailed new) (columns : length old.folders ≡ length table.columns) where
  none_rose : NoneRose old.folders new.folders
  none_rose d within rose = not_rose (subst (λ (k : ℕ). Rose 0 k) (none_at new.folders well.folders d) (subst (λ (k : ℕ). Rose k (folder_at new.folders d).faults) (before d) rose))

  all_read : unread_in done.levels.readings ≡ 0
  all_read = none_risen (unread_in done.levels.readings) old.vault.faults new.vault.faults
      (λ rose. not_rose (subst (λ (k : ℕ). Rose 0 k) well.vault (subst (λ (k : ℕ). Rose k new.vault.faults) well_before rose))) done.levels.unread

  pub check_is : IsCheckOf done.plan done.lists (trees_of old.folders) (vault_of old).files done.stripes end
  check_is = record {
    numbers = done.numbers;
    are = done.are;
    none = λ k e within d. no_gift (gift_of (get_or done.stripes k e) d) (done.spare.gave refl k e within d);
    came = subst (λ (t : TableValue). CameAsHeld t done.lists (trees_of old.folders) (vault_of old).files done.stripes) (sym done.plan_is.table_is)
        (check_held done.plan table done.plan_is.table_is done.lists done.stripes old.folders done.mids new.folders done.listed done.as_many columns tell none_rose done.read
        (vault_of old) done.levels.readings done.levels.are refl all_read);
    findings = done.findings;
  }

  -- it leaves the trees
  tree_left : (d : ℕ) → d < length old.folders → (folder_at new.folders d).tree ≡ (folder_at old.folders d).tree
  tree_left d below =
      let listed = (done.listed.each d below).call in
      (done.read.each d (omega (arith, below, done.as_many))).folder.tree (listed.called.goes_on.tells ∙ tell d below) ∙ listed.tree (tell d below)

  abbrev its_tree : FolderView → Tree
  its_tree folder = folder.tree

  pub trees_left : trees_of new.folders ≡ trees_of old.folders
  trees_left =
      let many : length new.folders ≡ length old.folders = done.read.folders ∙ done.as_many in
      ext_get_or finite.empty (trees_of new.folders) (trees_of old.folders) (length-map new.folders its_tree ∙ many ∙ sym (length-map old.folders its_tree))
      (λ d within.
      let below : d < length old.folders = omega (arith, within, length-map new.folders its_tree, many) in
      tree_of_folder new.folders d ∙ tree_left d below ∙ sym (tree_of_folder old.folders d))

-- two checks of the same find as much
pub same_findings : IsDetermined → (plan : FixPlan) → IsValid plan.table → (lists : List (List ListedFile)) (trees : List Tree) (files : Files) (ones others : List StripeFacts) (end end_then : FixEnd)
    → IsCheckOf plan lists trees files ones end → IsCheckOf plan lists trees files others end_then → end.findings ≡ end_then.findings
same_findings determined plan valid lists trees files ones others end end_then first second =
    let numbers : numbers_of ones ≡ numbers_of others = first.numbers ∙ sym second.numbers in
    let many : length ones ≡ length others = as_many plan lists trees files ones others first.are second.are first.none second.none numbers first.came second.came in
    let told : events_of plan ones ≡ events_of plan others = all_told_same plan ones others many (λ k within.
    told_same determined plan valid (facts_at ones k) (facts_at others k) (its plan lists trees files ones others first.are second.are first.none second.none numbers first.came second.came k within)
    (its_then plan lists trees files ones others first.are second.are first.none second.none numbers first.came second.came k within)
    (stripe_same plan lists trees files ones others first.are second.are first.none second.none numbers first.came second.came k within)
    (slot_alike plan lists trees files ones others first.are second.are first.none second.none numbers first.came second.came k within)
    (gifts_same plan lists trees files ones others first.are second.are first.none second.none numbers first.came second.came k within)
    (second.none k no_facts (within_then plan lists trees files ones others first.are second.are first.none second.none numbers first.came second.came k within))
    (levels_same plan lists trees files ones others first.are second.are first.none second.none numbers first.came second.came k within)) in
    first.findings ∙ ap (λ (events : List Event). at_most (count_by is_finding (opening_events plan ++ events))) told ∙ sym second.findings
