-- Two checks, and a check and then a fix: instances of what is supposed of runs that find the same.
use Rattle.std.specs.Prelude.{◌≡◌, ℕ, ◌<◌, length, count_by}
use Rattle.disk_model.specs.Folder.{FolderView}
use Rattle.disk_model.specs.Opener.{OpenerView}
use Rattle.disk_model.specs.Sink.{SinkView}
use Rattle.disk_model.specs.Vault.{VaultView}
use Rattle.snap_report.specs.Kind.{is_finding}
use Rattle.repair_scope.specs.declared.scope.Mode.TheVariants as modes
use Rattle.snap_top.specs.Alike.{AskAlike, CheckAlike, FindAlike, FixAlike, HoldAlike, ReadAlike}
use Rattle.snap_top.specs.Unbroken.{NothingRose}
use Rattle.snap_top.specs.Check.{CheckRun}
use Rattle.snap_top.specs.Naming.{HasChecked, events_found}
use Rattle.snap_top.specs.Restoring.{EndsFixed}
use Rattle.snap_top.specs.RunOf.{RunOf}
use Rattle.snap_top.specs.Standing.{after_of, before_of}

module _ {O F V W : Type 0} (opener_view : O → OpenerView) (folder_view : F → FolderView) (vault_view : V → VaultView) (sink_view : W → SinkView) where
  -- A check of an array looked at a stripe and found something. A fix of the same array, which was asked for the same, went to its end with this
  -- status. Nothing failed in them. So they found the same.
  pub record AreFoundAndFixed (status : ℕ) : Type 0 where
    pub run : RunOf O F V W
    pub again : RunOf O F V W
    pub one : CheckRun
    pub ends : EndsFixed (before_of opener_view folder_view vault_view sink_view again) (after_of opener_view folder_view vault_view sink_view again) again.status
    pub hold : HoldAlike (before_of opener_view folder_view vault_view sink_view run) (before_of opener_view folder_view vault_view sink_view again)
    pub ask : AskAlike modes.Check modes.Fix (before_of opener_view folder_view vault_view sink_view run) (before_of opener_view folder_view vault_view sink_view again)
    pub well : NothingRose (before_of opener_view folder_view vault_view sink_view run) (after_of opener_view folder_view vault_view sink_view run)
    pub well_then : NothingRose (before_of opener_view folder_view vault_view sink_view again) (after_of opener_view folder_view vault_view sink_view again)
    pub checked : HasChecked modes.Check (before_of opener_view folder_view vault_view sink_view run)
        (after_of opener_view folder_view vault_view sink_view run) run.status one
    pub found : run.status ≡ 1
    pub some : 0 < count_by is_finding (events_found one)
    pub some_stripe : 0 < length one.stripes
    pub alike : FixAlike one ends.run ends.finishes
    pub status_is : again.status ≡ status

  -- Two checks of an array, which were asked for the same, went to their ends, the second with this status, and nothing failed in them. The first
  -- one looked at a stripe and found something. They read the same; and so they found the same.
  pub record AreFoundTwice (status : ℕ) : Type 0 where
    pub run : RunOf O F V W
    pub again : RunOf O F V W
    pub one : CheckRun
    pub other : CheckRun
    pub hold : HoldAlike (before_of opener_view folder_view vault_view sink_view run) (before_of opener_view folder_view vault_view sink_view again)
    pub ask : AskAlike modes.Check modes.Check (before_of opener_view folder_view vault_view sink_view run) (before_of opener_view folder_view vault_view sink_view again)
    pub well : NothingRose (before_of opener_view folder_view vault_view sink_view run) (after_of opener_view folder_view vault_view sink_view run)
    pub well_then : NothingRose (before_of opener_view folder_view vault_view sink_view again) (after_of opener_view folder_view vault_view sink_view again)
    pub checked : HasChecked modes.Check (before_of opener_view folder_view vault_view sink_view run)
        (after_of opener_view folder_view vault_view sink_view run) run.status one
    pub checked_then : HasChecked modes.Check (before_of opener_view folder_view vault_view sink_view again)
        (after_of opener_view folder_view vault_view sink_view again) again.status other
    pub some : 0 < count_by is_finding (events_found one)
    pub some_stripe : 0 < length one.stripes
    pub alike : CheckAlike one other run.status again.status
    pub read : ReadAlike one other
    pub found_alike : FindAlike one other
    pub status_is : again.status ≡ status
