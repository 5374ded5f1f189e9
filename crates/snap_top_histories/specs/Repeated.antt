-- Two checks of one array in memory, and a fix after one that was stopped: instances of what laws of `snap_top` suppose of two runs.
use Rattle.std.specs.Prelude.{◌≡◌, ℕ, ◌==◌, List, Bool, false, Ok}
use Rattle.std.specs.List.{list_all}
use Rattle.disk_model.specs.Folder.{FolderView}
use Rattle.disk_model.specs.Opener.{OpenerView}
use Rattle.disk_model.specs.Sink.{SinkView}
use Rattle.disk_model.specs.Vault.{VaultView}
use Rattle.snap_config.specs.declared.options.Command.TheVariants as commands
use Rattle.snap_config.specs.declared.options.Options.{Options}
use Rattle.array_setup.specs.declared.ways.Selection.{Selection}
use Rattle.repair_scope.specs.declared.scope.Mode.TheVariants as modes
use Rattle.snap_top.specs.Alike.{AskAlike, CheckAlike, HoldAlike}
use Rattle.snap_top.specs.Unbroken.{NothingRose}
use Rattle.snap_top.specs.Check.{CheckRun}
use Rattle.snap_top.specs.Fix.{FixRun}
use Rattle.snap_top.specs.Naming.{HasChecked}
use Rattle.snap_top.specs.NextFix.{RestoresAgain}
use Rattle.snap_top.specs.Asked.{asked_by}
use Rattle.snap_top.specs.RunOf.{RunOf}
use Rattle.snap_top.specs.Standing.{BeginsOver, GoesOver, IsHistory, IsOrigin, Stage, Standing, after_of, before_of}
use Rattle.snap_top.specs.Step.{RunStep}
use Rattle.snap_top.specs.Did.{fixes}

-- the words ask for a check
pub record AskForCheck (texts : List (List ℕ)) : Type 0 where
  pub asked : Options
  pub selection : Selection
  pub words : asked_by texts ≡ Ok asked
  pub command_is : asked.command ≡ commands.Check selection

-- no call of these folders failed
abbrev pub are_calm : {F : Type 0} → (F → FolderView) → List F → Bool
are_calm folder_view folders = list_all (λ folder. (folder_view folder).faults == 0) folders

module _ {O F V W : Type 0} (opener_view : O → OpenerView) (folder_view : F → FolderView) (vault_view : V → VaultView) (sink_view : W → SinkView) where
  -- Two checks of one array, which were asked for the same, went to their ends, and nothing failed in them. So they found the same, and the
  -- second ended with this status, as did the first.
  pub record IsCheckedTwice (status : ℕ) : Type 0 where
    pub run : RunOf O F V W
    pub again : RunOf O F V W
    pub one : CheckRun
    pub other : CheckRun
    pub hold : HoldAlike (before_of opener_view folder_view vault_view sink_view run) (before_of opener_view folder_view vault_view sink_view again)
    pub ask : AskAlike modes.Check modes.Check (before_of opener_view folder_view vault_view sink_view run) (before_of opener_view folder_view vault_view sink_view again)
    pub well : NothingRose (before_of opener_view folder_view vault_view sink_view run) (after_of opener_view folder_view vault_view sink_view run)
    pub well_then : NothingRose (before_of opener_view folder_view vault_view sink_view again) (after_of opener_view folder_view vault_view sink_view again)
    pub checked : HasChecked modes.Check (before_of opener_view folder_view vault_view sink_view run) (after_of opener_view folder_view vault_view sink_view run)
        run.status one
    pub checked_then : HasChecked modes.Check (before_of opener_view folder_view vault_view sink_view again)
        (after_of opener_view folder_view vault_view sink_view again) again.status other
    pub alike : CheckAlike one other run.status again.status
    pub first_status : run.status ≡ status
    pub status_is : again.status ≡ status

  -- A fix of what stood after a history, which met no hash by chance and was stopped at some moment or ended; and a fix of what that left, which went to
  -- its end with this status, and in which nothing failed. So it could restore as much.
  pub record IsFixedAgain (status : ℕ) : Type 0 where
    pub first : Standing
    pub standing : Standing
    pub next : Standing
    pub stages : List (Stage O F V W)
    pub run : RunOf O F V W
    pub again : RunOf O F V W
    pub fix : FixRun
    pub fix_again : FixRun
    pub origin : IsOrigin first
    pub history : IsHistory opener_view folder_view vault_view sink_view first stages standing
    pub goes : GoesOver opener_view folder_view vault_view sink_view run standing next
    pub begins : BeginsOver next (before_of opener_view folder_view vault_view sink_view again)
    pub step : RunStep (before_of opener_view folder_view vault_view sink_view again) (after_of opener_view folder_view vault_view sink_view again) again.status
    pub did_is : goes.step.always.did ≡ fixes false fix
    pub did_then : step.always.did ≡ fixes false fix_again
    pub loaded : fix_again.loaded ≡ fix.loaded
    pub well : NothingRose (before_of opener_view folder_view vault_view sink_view again) (after_of opener_view folder_view vault_view sink_view again)
    pub resumed : RestoresAgain fix fix_again standing next
    pub status_is : again.status ≡ status
