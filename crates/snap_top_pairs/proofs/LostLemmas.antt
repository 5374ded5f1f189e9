-- Two runs over an array whose disk was lost after a sync begin over the same.
use Rattle.std.proofs.Common.{◌≡◌, ◌≢◌, ℕ, zero, suc, ◌<◌, ◌≤◌, List, [], ◌∷◌, length, true, IsTrue, Option, Some, refl, sym, ap, ◌∙◌, subst, arith}
use Rattle.content_file.specs.Load.{Loads}
use Rattle.disk_model.specs.Files.{Files}
use Rattle.disk_model.specs.Folder.{FolderView}
use Rattle.disk_model.specs.Opener.{OpenerView}
use Rattle.disk_model.specs.Sink.{SinkView}
use Rattle.disk_model.specs.Vault.{VaultView, copies_of}
use Rattle.disk_memory.specs.Folder.{fresh_folder}
use Rattle.disk_memory.specs.Vault.{VaultValue, view_of}
use Rattle.file_table.specs.Table.{TableValue, records_in}
use Rattle.file_table.specs.declared.shape.Shape.{Shape}
use Rattle.snap_top.specs.Levels.{said_by}
use Rattle.snap_top.specs.RunOf.{RunOf}
use Rattle.snap_top.specs.Entry.{Entry, Exit}
use Rattle.snap_top.specs.Standing.{BeginsOver, Standing, after_of, before_of, nothing_synced}
use Rattle.snap_top_histories.specs.Lived.{standing_of}
use Rattle.snap_top_histories.specs.Repeated.{are_calm}
use Rattle.snap_top_histories.proofs.RepeatedLemmas.{few_is, hold_alike, nothing_rose}
use Rattle.snap_top_histories.proofs.SeenLemmas.{contents_seen}
use Rattle.snap_top_pairs.specs.Lost.{AreRunTwice, HasRows, HoldsRows}
use Rattle.snap_top_instances.specs.Told.{RunsTold}
use Rattle.snap_top_instances.proofs.SmoothLemmas.{content_by, first_content}

-- ---- the rows of a table

some_of : (count : ℕ) → count ≢ 0 → 0 < count
some_of zero some = absurd (some refl)
some_of (suc count) some = omega arith

-- what was counted in it
pub rows_of : (table : TableValue) (shape : Shape) (stripes records : ℕ) → shape ≡ table.shape → shape.levels ≢ 0 → stripes ≡ length table.infos → stripes ≢ 0 → records ≡ length (records_in table 0) → records ≢ 0 → HasRows table
rows_of table shape stripes records shape_is levels stripes_are some records_are kept = record {
  levels = subst (λ (s : Shape). 0 < s.levels) shape_is (some_of shape.levels levels);
  stripes = subst (λ (n : ℕ). 0 < n) stripes_are (some_of stripes some);
  records = subst (λ (n : ℕ). 0 < n) records_are (some_of records kept);
}

-- what was loaded, if no call failed
pub rows_loaded : (old new : VaultView) (loaded : Option TableValue) (table : TableValue) → IsTrue old.tells → Loads old new loaded → loaded ≡ Some table → new.faults ≡ 0 → HasRows table → HoldsRows old
rows_loaded old new loaded table tells loads is calm rows = record { table = table; content = first_content old new table tells (subst (Loads old new) is loads) calm; rows = rows }

-- so it is of another vault with the same copies
rows_by : (v w : VaultView) → copies_of v ≡ copies_of w → w.files.contents ≡ v.files.contents → HoldsRows v → HoldsRows w
rows_by v w many same holds = record { table = holds.table; content = content_by (copies_of v) (copies_of w) v.files w.files holds.table many same holds.content; rows = holds.rows }

-- ---- both runs

module _ {O F V W : Type 0} (opener_view : O → OpenerView) (folder_view : F → FolderView) (vault_view : V → VaultView) (sink_view : W → SinkView) where
  abbrev begun : RunOf O F V W → Entry
  begun run = before_of opener_view folder_view vault_view sink_view run

  abbrev ended : RunOf O F V W → Exit
  ended run = after_of opener_view folder_view vault_view sink_view run

  abbrev IsTold : List ℕ → List (List ℕ) → List ℕ → List FolderView → VaultView → ℕ → List F → V → List ℕ → Type 0
  IsTold config texts seed folders vault status left_folders left printed =
      RunsTold opener_view folder_view vault_view sink_view config texts seed folders vault status left_folders left printed

  -- what a run finds that begins over a vault with rows
  rows_begun : (config : List ℕ) (folders : List FolderView) (vault : VaultView) (before : Entry) → BeginsOver (standing_of config folders vault nothing_synced) before → HoldsRows vault → HoldsRows before.opener.vault
  rows_begun config folders vault before begins holds =
      rows_by vault before.opener.vault (sym begins.copies) (ap (λ (files : Files). files.contents) begins.files ∙ contents_seen (said_by config) vault) holds

  pub run_twice : (config : List ℕ) (texts others : List (List ℕ)) (seed : List ℕ) (folders folders_then : List FolderView) (one other seen : VaultValue) (status status_then : ℕ) (left_folders then_folders : List F)
      (left left_then : V) (printed printed_then : List ℕ) → other ≡ one → seen ≡ one → HoldsRows (view_of seen)
      → folders ≡ fresh_folder true ∷ [] → folders_then ≡ fresh_folder true ∷ []
      → IsTold config texts seed folders (view_of one) status left_folders left printed → (vault_view left).faults ≡ 0 → are_calm folder_view left_folders ≡ true → status ≤ 1
      → IsTold config others seed folders_then (view_of other) status_then then_folders left_then printed_then → (vault_view left_then).faults ≡ 0 → are_calm folder_view then_folders ≡ true
      → status_then ≤ 1 → AreRunTwice opener_view folder_view vault_view sink_view texts others status status_then
  run_twice config texts others seed folders folders_then one other seen status status_then left_folders then_folders left left_then printed printed_then
      same_value same_seen holds are_new are_new_then runs faults calm few again faults_then calm_then few_then =
      let run : RunOf O F V W = runs.over.run in
      let run_then : RunOf O F V W = again.over.run in
      let standing : Standing = standing_of config folders (view_of one) nothing_synced in
      let next : Standing = standing_of config folders_then (view_of other) nothing_synced in
      let same : next ≡ standing
      = ap (λ (v : VaultValue). standing_of config folders_then (view_of v) nothing_synced) same_value
      ∙ ap (λ (fs : List FolderView). standing_of config fs (view_of one) nothing_synced) (are_new_then ∙ sym are_new) in
      record {
        run = run;
        again = run_then;
        texts_are = runs.over.texts_are;
        others_are = again.over.texts_are;
        hold = hold_alike opener_view folder_view vault_view sink_view standing next (begun run) (begun run_then) (runs.over.begins nothing_synced) (again.over.begins nothing_synced) same
            (runs.over.seed_is ∙ sym again.over.seed_is);
        well = nothing_rose opener_view folder_view vault_view sink_view config texts seed folders (view_of one) status left_folders left runs.over faults calm;
        well_then = nothing_rose opener_view folder_view vault_view sink_view config others seed folders_then (view_of other) status_then then_folders left_then again.over faults_then calm_then;
        clauses = runs.clauses;
        clauses_then = again.clauses;
        few = few_is run.status status 1 runs.over.status_is few;
        few_then = few_is run_then.status status_then 1 again.over.status_is few_then;
        holds = rows_begun config folders (view_of one) (begun run) (runs.over.begins nothing_synced) (subst (λ (v : VaultValue). HoldsRows (view_of v)) same_seen holds);
        status_is = runs.over.status_is;
        status_then_is = again.over.status_is;
      }
