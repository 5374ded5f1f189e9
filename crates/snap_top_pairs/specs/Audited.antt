-- An audit that found something: an instance of what a run says of an audit that went to its end.
use Rattle.std.specs.Prelude.{◌≡◌, ℕ, Ok}
use Rattle.disk_model.specs.Folder.{FolderView}
use Rattle.disk_model.specs.Opener.{OpenerView}
use Rattle.disk_model.specs.Sink.{SinkView}
use Rattle.disk_model.specs.Vault.{VaultView}
use Rattle.snap_config.specs.declared.options.Command.TheVariants as commands
use Rattle.snap_config.specs.declared.options.Options.{Options}
use Rattle.array_setup.specs.declared.ways.Selection.{Selection}
use Rattle.snap_fix.specs.Audited.{FindsNothing}
use Rattle.snap_top.specs.Unbroken.{NothingRose}
use Rattle.snap_top.specs.Ended.{WentToItsEnd}
use Rattle.snap_top.specs.Stands.{TellsAll}
use Rattle.snap_top.specs.Naming.{EndsAudited}
use Rattle.snap_top.specs.Asked.{asked_by}
use Rattle.snap_top.specs.RunOf.{RunOf}
use Rattle.snap_top.specs.Standing.{after_of, before_of}

module _ {O F V W : Type 0} (opener_view : O → OpenerView) (folder_view : F → FolderView) (vault_view : V → VaultView) (sink_view : W → SinkView) where
  -- An audit of an array that tells all went to its end with this status, and nothing failed. It found something: a file is not listed as it was
  -- recorded, or a block of one has not its recorded hash.
  pub record IsAudited (status : ℕ) : Type 0 where
    pub run : RunOf O F V W
    pub selection : Selection
    pub asked : Options
    pub words : asked_by run.texts ≡ Ok asked
    pub command_is : asked.command ≡ commands.Audit selection
    pub tells : TellsAll (before_of opener_view folder_view vault_view sink_view run)
    pub went : WentToItsEnd (before_of opener_view folder_view vault_view sink_view run) (after_of opener_view folder_view vault_view sink_view run) run.status
    pub well : NothingRose (before_of opener_view folder_view vault_view sink_view run) (after_of opener_view folder_view vault_view sink_view run)
    pub ends : EndsAudited (before_of opener_view folder_view vault_view sink_view run) (after_of opener_view folder_view vault_view sink_view run) run.status
    pub found : ¬ (FindsNothing ends.run.plan ends.run.stripes)
    pub status_is : run.status ≡ status
