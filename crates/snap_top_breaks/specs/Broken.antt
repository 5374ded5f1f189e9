-- A fix that broke off, and one that did not: an instance of what is supposed of a run that prints a front of another one.
use Rattle.std.specs.Prelude.{◌≡◌, ◌≢◌, ℕ, List, length, ◌≤◌}
use Rattle.disk_model.specs.Folder.{FolderView}
use Rattle.disk_model.specs.Opener.{OpenerView}
use Rattle.disk_model.specs.Sink.{SinkView}
use Rattle.disk_model.specs.Vault.{VaultView}
use Rattle.snap_report.specs.declared.answer.RunFault.TheVariants as runs
use Rattle.stripe_reader.specs.Columns.{folder_at}
use Rattle.snap_top.specs.Alike.{HoldAlike, SeenAlike, seen_by}
use Rattle.snap_top.specs.Unbroken.{NothingRose}
use Rattle.snap_top.specs.BrokeOff.{FixBrokeOff, PrintsFront, ReadsRight, RoseOnceBy, seen_so_far}
use Rattle.snap_top.specs.FixedAlike.{KeepStampsAlike}
use Rattle.snap_top.specs.LeftAlike.{AskSame}
use Rattle.snap_top.specs.Restoring.{EndsFixed, events_in}
use Rattle.snap_top.specs.RunOf.{RunOf}
use Rattle.snap_top.specs.Standing.{after_of, before_of}

-- there is one folder, and one call of it failed
pub record FailedOnce (folders : List FolderView) : Type 0 where
  pub one : length folders ≡ 1
  pub faults : (folder_at folders 0).faults ≡ 1

module _ {O F V W : Type 0} (opener_view : O → OpenerView) (folder_view : F → FolderView) (vault_view : V → VaultView) (sink_view : W → SinkView) where
  -- A fix broke off by a folder, of which just that call failed; it had printed something. Another one of the same array, which was asked for the
  -- same, went to its end, and nothing failed. No reading failed in either: the first one read all that it came to. Of each stripe that it looked at, if
  -- any, it saw what the second one saw first. It printed a front of what that did, and not all of it.
  pub record IsFrontPrinted : Type 0 where
    pub run : RunOf O F V W
    pub again : RunOf O F V W
    pub off : FixBrokeOff (before_of opener_view folder_view vault_view sink_view run) (after_of opener_view folder_view vault_view sink_view run)
    pub fault_is : off.broke.fault ≡ runs.Folder 0
    pub other : EndsFixed (before_of opener_view folder_view vault_view sink_view again) (after_of opener_view folder_view vault_view sink_view again) again.status
    pub hold : HoldAlike (before_of opener_view folder_view vault_view sink_view run) (before_of opener_view folder_view vault_view sink_view again)
    pub ask : AskSame (before_of opener_view folder_view vault_view sink_view run) (before_of opener_view folder_view vault_view sink_view again)
    pub stamps : KeepStampsAlike (before_of opener_view folder_view vault_view sink_view run) (before_of opener_view folder_view vault_view sink_view again)
    pub once : RoseOnceBy off.broke.fault (before_of opener_view folder_view vault_view sink_view run) (after_of opener_view folder_view vault_view sink_view run)
    pub well : NothingRose (before_of opener_view folder_view vault_view sink_view again) (after_of opener_view folder_view vault_view sink_view again)
    pub right : ReadsRight off
    pub seen : SeenAlike (seen_so_far off) (seen_by other.run)
    pub few : again.status ≤ 1
    pub printed_some : (after_of opener_view folder_view vault_view sink_view run).after.out.written
        ≢ (before_of opener_view folder_view vault_view sink_view run).out.written
    pub out_begins : (before_of opener_view folder_view vault_view sink_view run).out.written
        ≡ (before_of opener_view folder_view vault_view sink_view again).out.written
    pub printed_less : (after_of opener_view folder_view vault_view sink_view run).after.out.written
        ≢ (after_of opener_view folder_view vault_view sink_view again).after.out.written
    pub front : PrintsFront off.broke.told (events_in other.run other.finishes)
        (before_of opener_view folder_view vault_view sink_view run) (before_of opener_view folder_view vault_view sink_view again)
        (after_of opener_view folder_view vault_view sink_view run) (after_of opener_view folder_view vault_view sink_view again) again.status
