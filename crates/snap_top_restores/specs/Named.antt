-- A check of an array whose disks were lost: an instance of what is supposed of a check that names what is lost.
use Rattle.std.specs.Prelude.{◌≡◌, ℕ, ◌<◌, ◌≤◌, List, length, Bool, true}
use Rattle.std.specs.FinMap as finite_map
use Rattle.disk_model.specs.Folder.{FolderView}
use Rattle.disk_model.specs.Opener.{OpenerView}
use Rattle.disk_model.specs.Sink.{SinkView}
use Rattle.disk_model.specs.Tree.{Tree}
use Rattle.disk_model.specs.Vault.{VaultView, copies_of}
use Rattle.file_table.specs.Table.{TableValue, info_at, is_synced_mark}
use Rattle.file_table.specs.declared.block.Cell.{Cell}
use Rattle.snap_fix.specs.Genuine.{AreGenuine, held_row}
use Rattle.snap_fix.specs.Restored.{CanBeHad}
use Rattle.snap_sync.specs.Part.{tree_at}
use Rattle.stripe_examiner.specs.Facts.{StripeFacts}
use Rattle.snap_top.specs.Alike.{HoldAlike}
use Rattle.snap_top.specs.Unbroken.{NothingRose}
use Rattle.snap_top.specs.Lost.{IsDamagedOfSynced, IsToldLost, NamesLost}
use Rattle.snap_top.specs.Naming.{EndsChecked, events_found}
use Rattle.snap_top.specs.RunOf.{RunOf}
use Rattle.snap_top.specs.Standing.{BeginsOver, GoesOver, IsHistory, IsOrigin, Stage, Standing, after_of, before_of}
use Rattle.snap_top.specs.Sync.{IsFirstContent}
use Rattle.snap_top.specs.Taken.{OnlyTakenAway}
use Rattle.snap_top_instances.specs.Told.{KeepsClauses}

-- each stripe of a table is synced
abbrev pub AllSynced : TableValue → Type 0
AllSynced table = (stripe : ℕ) → stripe < length table.infos → is_synced_mark (info_at table.infos stripe).mark ≡ true

-- so is each of that of the first copy that is a content file
pub record HoldsSynced (vault : VaultView) : Type 0 where
  pub table : TableValue
  pub content : IsFirstContent (copies_of vault) vault.files table
  pub synced : AllSynced table

module _ {O F V W : Type 0} (opener_view : O → OpenerView) (folder_view : F → FolderView) (vault_view : V → VaultView) (sink_view : W → SinkView) where
  -- A run over an array without content; then all files were taken away, and these words and those were run over one such array, which has content
  -- whose stripes, if any, are synced. Both went to their ends with these statuses, and nothing failed in them. They say of themselves what `KeepsClauses` has.
  pub record AreRunOverLost (texts others : List (List ℕ)) (status status_then : ℕ) : Type 0 where
    pub first : Standing
    pub next : Standing
    pub trees : List Tree
    pub once : RunOf O F V W
    pub run : RunOf O F V W
    pub again : RunOf O F V W
    pub origin : IsOrigin first
    pub goes : GoesOver opener_view folder_view vault_view sink_view once first next
    pub taken : OnlyTakenAway next.trees trees
    pub bare : (d : ℕ) → tree_at trees d ≡ finite_map.empty
    pub texts_are : run.texts ≡ texts
    pub others_are : again.texts ≡ others
    pub begins : BeginsOver (record next { trees = trees }) (before_of opener_view folder_view vault_view sink_view run)
    pub begins_then : BeginsOver (record next { trees = trees }) (before_of opener_view folder_view vault_view sink_view again)
    pub hold : HoldAlike (before_of opener_view folder_view vault_view sink_view run) (before_of opener_view folder_view vault_view sink_view again)
    pub well : NothingRose (before_of opener_view folder_view vault_view sink_view run) (after_of opener_view folder_view vault_view sink_view run)
    pub well_then : NothingRose (before_of opener_view folder_view vault_view sink_view again) (after_of opener_view folder_view vault_view sink_view again)
    pub clauses : KeepsClauses (before_of opener_view folder_view vault_view sink_view run) (after_of opener_view folder_view vault_view sink_view run) run.status
    pub clauses_then : KeepsClauses (before_of opener_view folder_view vault_view sink_view again) (after_of opener_view folder_view vault_view sink_view again) again.status
    pub few : run.status ≤ 1
    pub few_then : again.status ≤ 1
    pub holds : HoldsSynced (before_of opener_view folder_view vault_view sink_view run).opener.vault
    pub status_is : run.status ≡ status
    pub status_then_is : again.status ≡ status_then

  -- No file stood after a history. A check of that went to its end with this status, and met no hash by chance. Of a stripe that was synced more
  -- cells are missing than levels are intact, by a test that tells the intact ones. So this one, which is selected and damaged, is told to be lost.
  -- More cells may be missing than levels were read; then no block can be met.
  pub record IsNamedLost (status : ℕ) : Type 0 where
    pub first : Standing
    pub standing : Standing
    pub stages : List (Stage O F V W)
    pub run : RunOf O F V W
    pub origin : IsOrigin first
    pub history : IsHistory opener_view folder_view vault_view sink_view first stages standing
    pub bare : (d : ℕ) → tree_at standing.trees d ≡ finite_map.empty
    pub begins : BeginsOver standing (before_of opener_view folder_view vault_view sink_view run)
    pub ends : EndsChecked (before_of opener_view folder_view vault_view sink_view run) (after_of opener_view folder_view vault_view sink_view run) run.status
    pub genuine : AreGenuine ends.run.plan (held_row ends.run.plan.table standing.last.snapshot) ends.run.stripes
    pub names : NamesLost ends.run.plan ends.run.stripes standing.last.snapshot (events_found ends.run)
    pub facts : StripeFacts
    pub d : ℕ
    pub cell : Cell
    pub is_intact : ℕ → Bool
    pub damaged : IsDamagedOfSynced ends.run.plan ends.run.stripes standing.last.snapshot facts d cell is_intact
    pub too_many : ¬ (CanBeHad ends.run.plan facts is_intact d)
    pub told : IsToldLost (events_found ends.run) facts d cell
    pub status_is : run.status ≡ status
