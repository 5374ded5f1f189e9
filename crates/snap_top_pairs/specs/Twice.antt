-- Two syncs, two scrubs and two fixes of one array: instances of what is supposed of two runs that are left alike.
use Rattle.std.specs.Prelude.{◌≡◌, ◌≢◌, ℕ, ◌<◌, List, length, Ok}
use Rattle.std.specs.FinMap as finite_map
use Rattle.disk_model.specs.Folder.{FolderView}
use Rattle.disk_model.specs.Opener.{OpenerView}
use Rattle.disk_model.specs.Sink.{SinkView}
use Rattle.disk_model.specs.Vault.{VaultView}
use Rattle.snap_config.specs.declared.options.Options.{Options}
use Rattle.snap_sync.specs.Part.{tree_at, trees_of}
use Rattle.snap_top.specs.Alike.{HoldAlike}
use Rattle.snap_top.specs.Unbroken.{NothingRose}
use Rattle.snap_top.specs.FixedAlike.{FixesAlike, KeepStampsAlike}
use Rattle.snap_top.specs.LeftAlike.{AskSame, PrintAlike, ScrubsAlike, SyncsAlike}
use Rattle.snap_top.specs.InPart.{EndsInPart}
use Rattle.snap_top.specs.Asked.{asked_by}
use Rattle.snap_top.specs.Restoring.{EndsFixed}
use Rattle.snap_top.specs.RunOf.{RunOf}
use Rattle.snap_top.specs.Scrubbed.{EndsScrubbed}
use Rattle.snap_top.specs.Standing.{after_of, before_of}
use Rattle.snap_top_instances.specs.Told.{HoldsFile}

-- two lines of words ask for other numbers of readers
pub record AskForOthers (texts others : List (List ℕ)) : Type 0 where
  pub asked : Options
  pub asked_then : Options
  pub words : asked_by texts ≡ Ok asked
  pub words_then : asked_by others ≡ Ok asked_then
  pub readers : asked.readers ≢ asked_then.readers

module _ {O F V W : Type 0} (opener_view : O → OpenerView) (folder_view : F → FolderView) (vault_view : V → VaultView) (sink_view : W → SinkView) where
  -- Two runs over one array were asked for the same with other numbers of readers, and nothing failed in them.
  pub record AreOfOneArray (run again : RunOf O F V W) : Type 0 where
    pub hold : HoldAlike (before_of opener_view folder_view vault_view sink_view run) (before_of opener_view folder_view vault_view sink_view again)
    pub ask : AskSame (before_of opener_view folder_view vault_view sink_view run) (before_of opener_view folder_view vault_view sink_view again)
    pub readers : ask.asked.readers ≢ ask.asked_then.readers
    pub well : NothingRose (before_of opener_view folder_view vault_view sink_view run) (after_of opener_view folder_view vault_view sink_view run)
    pub well_then : NothingRose (before_of opener_view folder_view vault_view sink_view again) (after_of opener_view folder_view vault_view sink_view again)

  abbrev pub Prints : RunOf O F V W → RunOf O F V W → Type 0
  Prints run again = PrintAlike (before_of opener_view folder_view vault_view sink_view run) (before_of opener_view folder_view vault_view sink_view again)
      (after_of opener_view folder_view vault_view sink_view run) (after_of opener_view folder_view vault_view sink_view again) run.status again.status

  -- Two syncs of one array went to their ends, the second with this status, and the first one read a stripe. So they left and printed the same.
  pub record IsSyncedTwice (status : ℕ) : Type 0 where
    pub run : RunOf O F V W
    pub again : RunOf O F V W
    pub one : EndsInPart (before_of opener_view folder_view vault_view sink_view run) (after_of opener_view folder_view vault_view sink_view run) run.status
    pub other : EndsInPart (before_of opener_view folder_view vault_view sink_view again) (after_of opener_view folder_view vault_view sink_view again) again.status
    pub of_one : AreOfOneArray run again
    pub some : 0 < length one.run.readings
    pub alike : SyncsAlike one.run other.run (after_of opener_view folder_view vault_view sink_view run) (after_of opener_view folder_view vault_view sink_view again)
    pub printed : Prints run again
    pub status_is : again.status ≡ status

  -- Two scrubs of one array, likewise.
  pub record IsScrubbedTwice (status : ℕ) : Type 0 where
    pub run : RunOf O F V W
    pub again : RunOf O F V W
    pub one : EndsScrubbed (before_of opener_view folder_view vault_view sink_view run) (after_of opener_view folder_view vault_view sink_view run) run.status
    pub other : EndsScrubbed (before_of opener_view folder_view vault_view sink_view again) (after_of opener_view folder_view vault_view sink_view again) again.status
    pub of_one : AreOfOneArray run again
    pub at_once : run.moment ≡ again.moment
    pub some : 0 < length one.run.readings
    pub alike : ScrubsAlike one.run other.run (after_of opener_view folder_view vault_view sink_view run) (after_of opener_view folder_view vault_view sink_view again)
    pub printed : Prints run again
    pub status_is : again.status ≡ status

  -- Two fixes of one array, likewise: they saw the same blocks of each stripe that they looked at, if any (`FixesAlike`). The first disk was lost before
  -- the first one, which left files there.
  pub record IsFixedTwice (status : ℕ) : Type 0 where
    pub run : RunOf O F V W
    pub again : RunOf O F V W
    pub one : EndsFixed (before_of opener_view folder_view vault_view sink_view run) (after_of opener_view folder_view vault_view sink_view run) run.status
    pub other : EndsFixed (before_of opener_view folder_view vault_view sink_view again) (after_of opener_view folder_view vault_view sink_view again) again.status
    pub of_one : AreOfOneArray run again
    pub stamps : KeepStampsAlike (before_of opener_view folder_view vault_view sink_view run) (before_of opener_view folder_view vault_view sink_view again)
    pub lost : tree_at (trees_of (before_of opener_view folder_view vault_view sink_view run).opener.folders) 0 ≡ finite_map.empty
    pub there : HoldsFile (after_of opener_view folder_view vault_view sink_view run).after.folders
    pub wrote : tree_at (trees_of (after_of opener_view folder_view vault_view sink_view run).after.folders) 0
        ≢ tree_at (trees_of (before_of opener_view folder_view vault_view sink_view run).opener.folders) 0
    pub alike : FixesAlike one.run other.run one.finishes other.finishes
        (after_of opener_view folder_view vault_view sink_view run) (after_of opener_view folder_view vault_view sink_view again)
    pub printed : Prints run again
    pub status_is : again.status ≡ status
