-- A sync that broke off: an instance of what is supposed of one of which it is known what it loaded.
use Rattle.std.specs.Prelude.{◌≡◌, ◌≢◌, None, true}
use Rattle.disk_model.specs.Cause.{Rose, RoseBy}
use Rattle.disk_model.specs.Files.{content_of}
use Rattle.disk_model.specs.Folder.{FolderView}
use Rattle.disk_model.specs.Opener.{OpenerView}
use Rattle.disk_model.specs.Sink.{SinkView}
use Rattle.disk_model.specs.Vault.{VaultView}
use Rattle.snap_sync.specs.Part.{SyncRun}
use Rattle.snap_top.specs.Moment.{IsSoundAlways}
use Rattle.snap_top.specs.Effect.{effect}
use Rattle.snap_top.specs.RunOf.{RunOf}
use Rattle.snap_top.specs.Standing.{after_of, before_of}
use Rattle.snap_top.specs.Did.{syncs}

module _ {O F V W : Type 0} (opener_view : O → OpenerView) (folder_view : F → FolderView) (vault_view : V → VaultView) (sink_view : W → SinkView) where
  -- A sync of an array without its first copy broke off once that was saved, and just one call of the vault failed. So no reading of a copy did
  -- while it looked for a table.
  pub record IsBrokenWellLoaded : Type 0 where
    pub run : RunOf O F V W
    pub always : IsSoundAlways (before_of opener_view folder_view vault_view sink_view run) (after_of opener_view folder_view vault_view sink_view run) run.status
    pub sync : SyncRun
    pub broke : always.did ≡ syncs true sync
    pub none : content_of (before_of opener_view folder_view vault_view sink_view run).opener.vault.files 0 ≡ None
    pub saved : content_of (after_of opener_view folder_view vault_view sink_view run).after.vault.files 0 ≢ None
    pub rose : Rose (before_of opener_view folder_view vault_view sink_view run).opener.vault.faults
        (after_of opener_view folder_view vault_view sink_view run).after.vault.faults
    pub once : ¬ (RoseBy 2 (before_of opener_view folder_view vault_view sink_view run).opener.vault.faults
        (after_of opener_view folder_view vault_view sink_view run).after.vault.faults)
    pub loads : (effect always.did).loads_well (before_of opener_view folder_view vault_view sink_view run) (after_of opener_view folder_view vault_view sink_view run) always.is_did
