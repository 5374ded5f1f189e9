-- A sync that was stopped at some moment or ended, a level that was changed from outside, and one more sync: an instance of what is supposed of
-- a history of runs.
use Rattle.std.specs.Prelude.{◌≡◌, ◌≢◌, ℕ, ◌<◌, ◌==◌, List, [], ◌∷◌, length, Bool, None, Ok}
use Rattle.disk_model.specs.Files.{Files, content_of, parity_of}
use Rattle.disk_model.specs.Folder.{FolderView}
use Rattle.disk_model.specs.Opener.{OpenerView}
use Rattle.disk_model.specs.Sink.{SinkView}
use Rattle.disk_model.specs.Vault.{VaultView}
use Rattle.snap_config.specs.declared.options.Command.TheVariants as commands
use Rattle.snap_config.specs.declared.options.Options.{Options}
use Rattle.array_setup.specs.declared.ways.SyncWay.{SyncWay}
use Rattle.snap_top.specs.History.{Changes, IsHistory, Runs, StaysSound, Step}
use Rattle.snap_top.specs.LastSynced.{AreSoundBy, IsChange, LastSynced, synced_by}
use Rattle.snap_top.specs.Moment.{SyncsToItsEnd}
use Rattle.snap_top.specs.Stands.{StandsAfter}
use Rattle.snap_top.specs.Asked.{asked_by}
use Rattle.snap_top.specs.RunOf.{StoppedRun}
use Rattle.snap_top.specs.Standing.{after_of, before_of}
use Rattle.snap_top.specs.Sync.{HasNoCopy}
use Rattle.snap_top.specs.Did.{Did}

-- all blocks of the first level count as changed from outside
abbrev pub first_level : ℕ → ℕ → Bool
first_level stripe level = level == 0

-- a run, the loss of the first level that leaves these files, and another run, over so many copies
abbrev pub steps_of : {O F V W : Type 0} → ℕ → StoppedRun O F V W → Files → StoppedRun O F V W → List (Step O F V W)
steps_of copies sync hurt last = Runs sync ∷ Changes copies hurt first_level ∷ Runs last ∷ []

module _ {O F V W : Type 0} (opener_view : O → OpenerView) (folder_view : F → FolderView) (vault_view : V → VaultView) (sink_view : W → SinkView) where
  -- There was no content copy, and no byte of the first level. A sync was stopped at some moment or ended; it left a content copy, and parity. The
  -- first level was lost; and one more sync went to its end and wrote parity. So the copies stay sound.
  pub record IsSoundHistory : Type 0 where
    pub copies : ℕ
    pub files : Files
    pub synced : LastSynced
    pub sync : StoppedRun O F V W
    pub hurt : Files
    pub last : StoppedRun O F V W
    pub history : IsHistory opener_view folder_view vault_view sink_view copies (steps_of copies sync hurt last) files
    pub sound : AreSoundBy copies files synced
    pub asked : Options
    pub way : SyncWay
    pub words : asked_by sync.run.texts ≡ Ok asked
    pub command_is : asked.command ≡ commands.Sync way
    pub bare : HasNoCopy copies files
    pub none : length (parity_of files 0) ≡ 0
    pub there : content_of sync.left 0 ≢ None
    pub wrote : 0 < length (parity_of sync.left 0)
    pub lost : length (parity_of hurt 0) ≡ 0
    pub change : (did : Did) (count : ℕ) → IsChange copies copies (synced_by did count synced).is_changed first_level sync.left hurt
    pub went : SyncsToItsEnd (before_of opener_view folder_view vault_view sink_view last.run) (after_of opener_view folder_view vault_view sink_view last.run)
        last.run.status
    pub stands : StandsAfter (after_of opener_view folder_view vault_view sink_view last.run) last.left
    pub wrote_again : 0 < length (parity_of last.left 0)
    pub stays : StaysSound opener_view folder_view vault_view sink_view copies (steps_of copies sync hurt last) files synced
