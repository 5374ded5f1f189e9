-- Two runs over one array, which has content.
use Rattle.std.specs.Prelude.{◌≡◌, ℕ, ◌<◌, ◌≤◌, List, length}
use Rattle.disk_model.specs.Folder.{FolderView}
use Rattle.disk_model.specs.Opener.{OpenerView}
use Rattle.disk_model.specs.Sink.{SinkView}
use Rattle.disk_model.specs.Vault.{VaultView, copies_of}
use Rattle.file_table.specs.Table.{TableValue, records_in}
use Rattle.snap_top.specs.Alike.{HoldAlike}
use Rattle.snap_top.specs.Unbroken.{NothingRose}
use Rattle.snap_top.specs.RunOf.{RunOf}
use Rattle.snap_top.specs.Standing.{after_of, before_of}
use Rattle.snap_top.specs.Sync.{IsFirstContent}
use Rattle.snap_top_instances.specs.Told.{KeepsClauses}

-- a table has a level, a stripe, and a record of the first disk
pub record HasRows (table : TableValue) : Type 0 where
  pub levels : 0 < table.shape.levels
  pub stripes : 0 < length table.infos
  pub records : 0 < length (records_in table 0)

-- so has that of the first copy that is a content file
pub record HoldsRows (vault : VaultView) : Type 0 where
  pub table : TableValue
  pub content : IsFirstContent (copies_of vault) vault.files table
  pub rows : HasRows table

module _ {O F V W : Type 0} (opener_view : O → OpenerView) (folder_view : F → FolderView) (vault_view : V → VaultView) (sink_view : W → SinkView) where
  -- Runs of these words and of those over one array, which has content with rows. Both went to their ends with these statuses, and nothing failed
  -- in them. They say of themselves what `KeepsClauses` has.
  pub record AreRunTwice (texts others : List (List ℕ)) (status status_then : ℕ) : Type 0 where
    pub run : RunOf O F V W
    pub again : RunOf O F V W
    pub texts_are : run.texts ≡ texts
    pub others_are : again.texts ≡ others
    pub hold : HoldAlike (before_of opener_view folder_view vault_view sink_view run) (before_of opener_view folder_view vault_view sink_view again)
    pub well : NothingRose (before_of opener_view folder_view vault_view sink_view run) (after_of opener_view folder_view vault_view sink_view run)
    pub well_then : NothingRose (before_of opener_view folder_view vault_view sink_view again) (after_of opener_view folder_view vault_view sink_view again)
    pub clauses : KeepsClauses (before_of opener_view folder_view vault_view sink_view run) (after_of opener_view folder_view vault_view sink_view run) run.status
    pub clauses_then : KeepsClauses (before_of opener_view folder_view vault_view sink_view again) (after_of opener_view folder_view vault_view sink_view again) again.status
    pub few : run.status ≤ 1
    pub few_then : again.status ≤ 1
    pub holds : HoldsRows (before_of opener_view folder_view vault_view sink_view run).opener.vault
    pub status_is : run.status ≡ status
    pub status_then_is : again.status ≡ status_then
