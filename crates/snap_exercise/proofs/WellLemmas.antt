-- An exercise that meets no hash by chance is well.
use Rattle.std.proofs.Common.{◌≡◌, ℕ, Bool, true, sym, ap, ap₂, ◌∙◌}
use Rattle.std.specs.Prelude.{◌==◌, ◌&&◌}
use Rattle.snap_exercise.specs.Exercise.{Summary, is_well}
use Rattle.snap_exercise.specs.Exercised.{IsExercise, begun}
use Rattle.snap_exercise.specs.Mends.{MeetsNoChance}
use Rattle.snap_exercise.proofs.AfterSyncLemmas.{SavesValid, none_at}
use Rattle.snap_exercise.proofs.CellByteLemmas.{LeavesBytes}
use Rattle.snap_exercise.proofs.CheckLemmas.{trees_left}
use Rattle.snap_exercise.proofs.CheckedLemmas.{findings_none}
use Rattle.snap_exercise.proofs.ClosingLemmas.{CountsFindings, CountsPending, FindsExactly, FindsNoChange, closes_all}
use Rattle.snap_exercise.proofs.EngineLemmas.{synced_columns}
use Rattle.snap_exercise.proofs.FreeLemmas.{IsOfKept}
use Rattle.snap_exercise.proofs.IntactLemmas.{WholeLevelsHold}
use Rattle.snap_exercise.proofs.LawLemmas.{IsLaidByTrees, IsReadByTrees}
use Rattle.snap_exercise.proofs.MendsLemmas.{GivesFacts, KnownByCounting, WrongWasChanged, left_none}
use Rattle.snap_exercise.proofs.RestoredTreesLemmas.{trees_restored}
use Rattle.snap_exercise.proofs.WholeLemmas.{many_fixed, tell_fixed}
use Rattle.snap_fix.specs.Restored.{RestoresGenuine}
use Rattle.snap_sync.proofs.CellLemmas.{FindsCells}
use Rattle.snap_sync.proofs.SeenLemmas.{GivesItsHashes, LeavesTheOthers}

well_by : (s : Summary) → s.sync_findings ≡ 0 → s.left ≡ 0 → s.check_findings ≡ 0 → s.same ≡ true → is_well s ≡ true
well_by s synced left checked same =
    ap₂ (λ (a b : ℕ). a == 0 && b == 0 && s.check_findings == 0 && s.same) synced left ∙ ap₂ (λ (c : ℕ) (d : Bool). 0 == 0 && 0 == 0 && c == 0 && d) checked same

module _ (laid : IsLaidByTrees) (read : IsReadByTrees) (leaves : LeavesTheOthers) (gives : GivesItsHashes) (exactly : FindsExactly) (no_change : FindsNoChange) (finds : FindsCells)
    (saves : SavesValid) (gives_facts : GivesFacts) (was_changed : WrongWasChanged) (by_counting : KnownByCounting) (holds : WholeLevelsHold) (just : IsOfKept)
    (restores : RestoresGenuine) (leaves_bytes : LeavesBytes) (findings : CountsFindings) (pending : CountsPending) where
  pub is_well_so : (n : ℕ) (s : Summary) (is : IsExercise n s) → MeetsNoChance n s is → is_well s ≡ true
  is_well_so n s is genuine =
      let its = is.course in
      let left_is = left_none laid read leaves gives exactly no_change finds n is.synced is.fixed is.checked is.last its saves gives_facts was_changed by_counting holds just genuine in
      let trees_same = trees_restored laid read leaves gives exactly no_change finds n is.synced is.fixed is.checked is.last its saves gives_facts was_changed by_counting holds just genuine restores leaves_bytes in
      let found = findings_none laid read leaves gives exactly no_change finds n is.synced is.fixed is.checked is.last its saves gives_facts was_changed by_counting holds just genuine restores leaves_bytes in
      let last_same = trees_left is.synced.table its.after_fix is.last is.checked its.check (tell_fixed laid read n is.synced is.fixed is.checked is.last its left_is) (none_at its.after_fix.folders its.fix_unfailed.folders) its.fix_unfailed.vault its.check_unfailed
      (many_fixed laid read n is.synced is.fixed is.checked is.last its left_is ∙ sym (synced_columns (begun n) its.after_sync is.synced its.sync)) in
      well_by s (closes_all laid read exactly no_change findings pending n s is).findings
      (ap (λ (t : Summary). t.left) is.summary ∙ left_is) (ap (λ (t : Summary). t.check_findings) is.summary ∙ found)
      (is.same.1 (last_same ∙ trees_same))
