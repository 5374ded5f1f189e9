-- A sync of which the output failed, and which went to its end all the same.
use Rattle.std.specs.Prelude.{◌≡◌, ◌≢◌, ℕ, ◌<◌, List, Some, Ok, length, slice_index, false, true, IsTrue}
use Rattle.disk_model.specs.Files.{parity_of}
use Rattle.disk_model.specs.Folder.{FolderView}
use Rattle.disk_model.specs.Opener.{OpenerView}
use Rattle.disk_model.specs.Sink.{SinkView}
use Rattle.disk_model.specs.Vault.{VaultView}
use Rattle.array_setup.specs.Setup.{SetupValue}
use Rattle.snap_sync.specs.Closing.{verified_in}
use Rattle.snap_top.specs.Unbroken.{NothingBroke}
use Rattle.snap_top.specs.Ended.{HasEnded}
use Rattle.snap_top.specs.Effect.{effect}
use Rattle.snap_top.specs.Headline.{SyncsWell}
use Rattle.snap_top.specs.Levels.{is_split, said_by}
use Rattle.snap_top.specs.InPart.{EndsInPart}
use Rattle.snap_top.specs.AsAsked.{SyncsEndInPart}
use Rattle.snap_top.specs.Stands.{StandsAfter, TellsAll}
use Rattle.snap_top.specs.RunOf.{RunOf}
use Rattle.snap_top.specs.Run.{IsAccounted}
use Rattle.snap_top.specs.Standing.{GoesOver, IsOrigin, Standing, after_of, before_of}
use Rattle.snap_top.specs.SyncedLast.{IsSyncedLast}
use Rattle.snap_top_histories.specs.Lived.{RunsOver}

-- a configuration is read, there is a level, and each level has one file
pub record HasLevels (config : List ℕ) : Type 0 where
  pub setup : SetupValue
  pub says : said_by config ≡ Some setup
  pub whole : is_split setup.parts ≡ false
  pub some : 0 < length setup.parts

-- the first level has a byte that is not zero
pub record HasParityByte (vault : VaultView) : Type 0 where
  pub at : ℕ
  pub within : at < length (parity_of vault.files 0)
  pub other : slice_index (parity_of vault.files 0) at ≢ 0

module _ {O F V W : Type 0} (opener_view : O → OpenerView) (folder_view : F → FolderView) (vault_view : V → VaultView) (sink_view : W → SinkView) where
  -- A run of these words, with its account and what it says of a sync. No call of the opener failed.
  pub record RunsUnheard (config : List ℕ) (texts : List (List ℕ)) (seed : List ℕ) (folders : List FolderView) (vault : VaultView)
      (status : ℕ) (left_folders : List F) (left_vault : V) : Type 0 where
    pub over : RunsOver opener_view folder_view vault_view sink_view config texts seed folders vault status left_folders left_vault
    pub account : IsAccounted (before_of opener_view folder_view vault_view sink_view over.run)
        (after_of opener_view folder_view vault_view sink_view over.run) over.run.status
    pub synced : SyncsEndInPart (before_of opener_view folder_view vault_view sink_view over.run)
        (after_of opener_view folder_view vault_view sink_view over.run) over.run.status
    pub opener_faults : (after_of opener_view folder_view vault_view sink_view over.run).opener.faults ≡ 0

  -- A sync of an array without content ended with status 3, and neither the opener nor a folder nor the vault failed so that a run ends. So its output
  -- failed, and it went to its end: it verified a stripe, and the rows of these were last synced then. Its account says so, too.
  pub record IsSyncedUnheard (status : ℕ) : Type 0 where
    pub first : Standing
    pub next : Standing
    pub run : RunOf O F V W
    pub origin : IsOrigin first
    pub goes : GoesOver opener_view folder_view vault_view sink_view run first next
    pub tells : TellsAll (before_of opener_view folder_view vault_view sink_view run)
    pub three : run.status ≡ 3
    pub unbroken : NothingBroke (before_of opener_view folder_view vault_view sink_view run) (after_of opener_view folder_view vault_view sink_view run)
    pub ended : HasEnded (before_of opener_view folder_view vault_view sink_view run) (after_of opener_view folder_view vault_view sink_view run) run.status
    pub syncs : SyncsWell opener_view folder_view vault_view sink_view run
    pub ends : EndsInPart (before_of opener_view folder_view vault_view sink_view run) (after_of opener_view folder_view vault_view sink_view run) run.status
    pub ends_by_run : EndsInPart (before_of opener_view folder_view vault_view sink_view run) (after_of opener_view folder_view vault_view sink_view run) run.status
    pub some : 0 < length ends.run.readings
    pub some_by_run : 0 < length ends_by_run.run.readings
    pub unheard : IsTrue ends.output_failed
    pub done : (effect goes.step.always.did).has_ended ≡ true
    pub stands : StandsAfter (after_of opener_view folder_view vault_view sink_view run) next.files
    pub synced : IsSyncedLast (before_of opener_view folder_view vault_view sink_view run) (after_of opener_view folder_view vault_view sink_view run)
        run.status goes.step.always.did first next
    pub closed : 0 < verified_in synced.ends.run.plan.start synced.ends.run.readings
    pub status_is : run.status ≡ status
