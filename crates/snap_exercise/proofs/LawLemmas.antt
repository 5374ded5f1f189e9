-- The sync of an exercise follows from its number.
use Rattle.std.proofs.Common.{◌≡◌, ℕ, zero, suc, ◌<◌, List, [], ◌∷◌, length, map, take, Bool, true, false, All, IsTrue, refl, sym, ap, ◌∙◌, subst, arith}
use Rattle.std.proofs.lemmas.List.{append-nil, length-map, take_all}
use Rattle.std.proofs.lemmas.List.FromFn.{length-range_with_len}
use Rattle.array_scan.specs.Layout.{pending_stripes}
use Rattle.disk_model.specs.Cause.{Rose}
use Rattle.disk_model.specs.Folder.{FolderView, quiet_folder}
use Rattle.disk_model.specs.Tree.{Tree}
use Rattle.disk_model.specs.declared.meta.Stamp.{Stamp}
use Rattle.file_table.specs.Table.{TableValue}
use Rattle.snap_exercise.specs.Exercise.{Summary}
use Rattle.snap_exercise.specs.Exercised.{Array, HasSyncOf, IsExercise, IsSynced, NoneFailed, TellSameSync, begun, plan_from, readings_of, start_of, vault_of}
use Rattle.snap_exercise.specs.Generated.{columns, first_table, moment, setup, standing, tree_of, trees}
use Rattle.snap_exercise.proofs.EngineLemmas.{trees_standing}
use Rattle.snap_sync.proofs.SeenLemmas.{infos_closed}
use Rattle.snap_sync.specs.Ended.{IsEndOf}
use Rattle.snap_sync.specs.Part.{IsToldRun, NoneRose, SyncRun, layout_by, readings_by, run_trees}
use Rattle.snap_sync.specs.declared.syncing.SyncEnd.{SyncEnd}
use Rattle.stripe_findings.specs.Reading.{StripeReading, stripes_of}
use Rattle.stripe_reader.specs.Columns.{folder_at}

-- what snap_sync says of a sync of folders that tell their trees
abbrev pub IsLaidByTrees : Type 0
IsLaidByTrees = (run : SyncRun) → IsToldRun run → run.plan.start ≡ layout_by run.setup run.loaded (run_trees run)

abbrev pub IsReadByTrees : Type 0
IsReadByTrees = (run : SyncRun) → IsToldRun run → NoneRose run.folders run.ended → run.readings ≡ readings_by run.plan.start (run_trees run) (stripes_of run.readings)

-- ---- folders in which no call failed

pub tells_at : (those : List Tree) (d : ℕ) → d < length (map standing those) → IsTrue (folder_at (map standing those) d).tells
tells_at [] d within = absurd (omega (arith, within))
tells_at (tree ∷ those) zero within = refl
tells_at (tree ∷ those) (suc d) within = tells_at those d (omega (arith, within))

-- it keeps every stamp
abbrev pub keeps_all : Stamp → Bool
keeps_all stamp = true

pub keeps_at : (those : List Tree) (d : ℕ) → d < length (map standing those) → (folder_at (map standing those) d).keeps ≡ keeps_all
keeps_at [] d within = absurd (omega (arith, within))
keeps_at (tree ∷ those) zero within = refl
keeps_at (tree ∷ those) (suc d) within = keeps_at those d (omega (arith, within))

pub faultless_at : (those : List Tree) (d : ℕ) → (folder_at (map standing those) d).faults ≡ 0
faultless_at [] d = refl
faultless_at (tree ∷ those) zero = refl
faultless_at (tree ∷ those) (suc d) = faultless_at those d

pub not_rose : Rose 0 0 → ⊥
not_rose rose = omega (arith, rose)

none_rose : (those : List Tree) (news : List FolderView) → length news ≡ length (map standing those) → All (λ (folder : FolderView). folder.faults ≡ 0) news → NoneRose (map standing those) news
none_rose those news long well = λ d within rose.
    not_rose (subst (λ (k : ℕ). Rose 0 k) (well d (quiet_folder 0 false) (omega (arith, within, long))) (subst (λ (k : ℕ). Rose k (folder_at news d).faults) (faultless_at those d) rose))

module _ (laid : IsLaidByTrees) (read : IsReadByTrees) (n : ℕ) (new : Array) (end : SyncEnd) (done : IsSynced (begun n) new end) (well : NoneFailed new) where
  abbrev pub run : SyncRun
  run = record {
    setup = setup;
    loaded = first_table;
    plan = plan_from done.start (vault_of (begun n));
    readings = done.readings;
    ahead = [];
    folders = (begun n).folders;
    listed = done.listed;
    ended = new.folders;
  }

  pub eight : length (begun n).folders ≡ 8
  eight = length-map (trees n) standing ∙ length-map columns (tree_of n) ∙ length-range_with_len 0 8

  pub told : IsToldRun run
  told = record {
    told = tells_at (trees n);
    of_lists = record {
      folders = eight;
      as_many = done.laid.as_many;
      lists = done.laid.lists;
      listed = done.laid.listed;
      start_is = done.laid.start_is;
      reads = done.reads;
    };
  }

  pub start_is : done.start ≡ start_of n
  start_is = laid run told ∙ ap (layout_by setup first_table) (trees_standing (trees n))

  pub stripes_are : stripes_of done.readings ≡ pending_stripes done.start.infos
  stripes_are =
      let pending = pending_stripes done.start.infos in
      ap stripes_of (sym (append-nil done.readings)) ∙ done.reads.stripes ∙ ap (λ (rs : List StripeReading). take (length rs) pending) (append-nil done.readings)
      ∙ ap (λ (k : ℕ). take k pending) done.all ∙ take_all (length pending) pending (omega arith)

  pub readings_are : done.readings ≡ readings_of n
  readings_are =
      read run told (none_rose (trees n) new.folders (done.reads.read.folders ∙ done.laid.as_many) well.folders)
      ∙ ap (λ (ts : List Tree). readings_by done.start ts (stripes_of done.readings)) (trees_standing (trees n))
      ∙ ap (readings_by done.start (trees n)) stripes_are
      ∙ ap (λ (t : TableValue). readings_by t (trees n) (pending_stripes t.infos)) start_is

  pub is_end : IsEndOf (start_of n) moment (readings_of n) end
  is_end = subst (λ (rs : List StripeReading). IsEndOf (start_of n) moment rs end) readings_are (subst (λ (t : TableValue). IsEndOf t moment done.readings end) start_is (record {
    table_is = done.table_is;
    synced = done.synced;
    pending = done.pending ∙ sym done.all;
    findings = done.findings;
  }))

  pub stripe_count : length end.table.infos ≡ length (start_of n).infos
  stripe_count = ap (λ (t : TableValue). length t.infos) done.table_is ∙ infos_closed done.start moment done.readings done.start ∙ ap (λ (t : TableValue). length t.infos) start_is

  pub sync_is : (s : Summary) → s.stripes ≡ length end.table.infos → s.synced ≡ end.synced → s.pending ≡ end.pending → s.sync_findings ≡ end.findings → HasSyncOf n s
  sync_is s stripes synced pending findings = record {
    end = end;
    is_end = is_end;
    stripes = stripes ∙ stripe_count;
    synced = synced;
    pending = pending;
    findings = findings;
  }

pub sync_of : IsLaidByTrees → IsReadByTrees → (n : ℕ) (s : Summary) → IsExercise n s → HasSyncOf n s
sync_of laid read n s is = sync_is laid read n is.course.after_sync is.synced is.course.sync is.course.sync_unfailed s
    (ap (λ (t : Summary). t.stripes) is.summary) (ap (λ (t : Summary). t.synced) is.summary) (ap (λ (t : Summary). t.pending) is.summary) (ap (λ (t : Summary). t.sync_findings) is.summary)

pub one_sync : (n : ℕ) (one other : Summary) → HasSyncOf n one → HasSyncOf n other → TellSameSync one other
one_sync n one other first second = record {
  stripes = first.stripes ∙ sym second.stripes;
  synced = first.synced ∙ (first.is_end.synced ∙ sym second.is_end.synced) ∙ sym second.synced;
  pending = first.pending ∙ pending_same ∙ sym second.pending;
  findings = first.findings ∙ (first.is_end.findings ∙ sym second.is_end.findings) ∙ sym second.findings;
}
  where
    pending_same : first.end.pending ≡ second.end.pending
    pending_same = omega (arith, first.is_end.synced, second.is_end.synced, first.is_end.pending, second.is_end.pending)
