-- A sync over content with a record: an instance of what is supposed of a run that surely ends well, if memory does not run out.
use Rattle.std.specs.Prelude.{◌≡◌, ◌⊎◌, ℕ, ◌<◌, ◌≤◌, length, false, Ok}
use Rattle.disk_model.specs.Folder.{FolderView}
use Rattle.disk_model.specs.Opener.{OpenerView}
use Rattle.disk_model.specs.Sink.{SinkView}
use Rattle.disk_model.specs.Vault.{VaultView, copies_of}
use Rattle.file_table.specs.Table.{TableValue, records_in}
use Rattle.snap_config.specs.declared.options.Command.TheVariants as commands
use Rattle.snap_config.specs.declared.options.Options.{Options}
use Rattle.array_setup.specs.declared.ways.SyncWay.{SyncWay}
use Rattle.snap_top.specs.Complete.{IsSmooth}
use Rattle.snap_top.specs.Asked.{asked_by}
use Rattle.snap_top.specs.RunOf.{RunOf}
use Rattle.snap_top.specs.Standing.{BeginsOver, Standing, after_of, before_of}
use Rattle.snap_top.specs.Sync.{IsFirstContent}

-- the first copy that is a content file has a record of the first disk
pub record HasRecord (vault : VaultView) : Type 0 where
  pub table : TableValue
  pub content : IsFirstContent (copies_of vault) vault.files table
  pub some : 0 < length (records_in table 0)

module _ {O F V W : Type 0} (opener_view : O → OpenerView) (folder_view : F → FolderView) (vault_view : V → VaultView) (sink_view : W → SinkView) where
  -- A sync over content that has a record of the first disk, which does not sync disks that lost all their files. All is as a run needs it that
  -- surely ends well, if memory does not run out: nothing failed so that a run ends, the content is of the configuration's array, and no layout is
  -- refused. It ended with this status.
  pub record IsSmoothSync (status : ℕ) : Type 0 where
    pub standing : Standing
    pub run : RunOf O F V W
    pub table : TableValue
    pub asked : Options
    pub way : SyncWay
    pub begins : BeginsOver standing (before_of opener_view folder_view vault_view sink_view run)
    pub words : asked_by run.texts ≡ Ok asked
    pub command_is : asked.command ≡ commands.Sync way
    pub unforced : way.force_empty ≡ false
    pub content : IsFirstContent standing.copies standing.files table
    pub has_record : 0 < length (records_in table 0)
    pub smooth : IsSmooth (before_of opener_view folder_view vault_view sink_view run) (after_of opener_view folder_view vault_view sink_view run)
    pub done : (run.status ≤ 1) ⊎ (run.status ≡ 4)
    pub status_is : run.status ≡ status
