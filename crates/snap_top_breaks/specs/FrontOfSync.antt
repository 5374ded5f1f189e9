-- A sync that broke off, and one that did not: an instance of what is supposed of a run that prints a front of another one.
use Rattle.std.specs.Prelude.{◌≡◌, ◌≢◌, ◌<◌, ◌≤◌, List, ◌++◌, length}
use Rattle.disk_model.specs.Folder.{FolderView}
use Rattle.disk_model.specs.Opener.{OpenerView}
use Rattle.disk_model.specs.Sink.{SinkView}
use Rattle.disk_model.specs.Vault.{VaultView}
use Rattle.snap_report.specs.declared.answer.RunFault.TheVariants as runs
use Rattle.stripe_findings.specs.Findings.{events_of}
use Rattle.stripe_findings.specs.Reading.{StripeReading}
use Rattle.snap_top.specs.Alike.{HoldAlike}
use Rattle.snap_top.specs.Unbroken.{NothingRose}
use Rattle.snap_top.specs.BrokeOff.{PrintsFront, RoseOnceBy, SyncBrokeOff}
use Rattle.snap_top.specs.LeftAlike.{AskSame}
use Rattle.snap_top.specs.InPart.{EndsInPart}
use Rattle.snap_top.specs.RunOf.{RunOf}
use Rattle.snap_top.specs.Standing.{after_of, before_of}

module _ {O F V W : Type 0} (opener_view : O → OpenerView) (folder_view : F → FolderView) (vault_view : V → VaultView) (sink_view : W → SinkView) where
  -- A sync broke off by the vault, of which just that call failed; it had read a stripe and printed something. Another one of the same array, which was
  -- asked for the same, went to its end, and nothing failed. So the first one read what the second one read first, in the same layout, and printed a
  -- front of what that did, and not all of it.
  pub record IsFrontOfSync : Type 0 where
    pub run : RunOf O F V W
    pub again : RunOf O F V W
    pub off : SyncBrokeOff (before_of opener_view folder_view vault_view sink_view run) (after_of opener_view folder_view vault_view sink_view run)
    pub fault_is : off.broke.fault ≡ runs.Vault
    pub other : EndsInPart (before_of opener_view folder_view vault_view sink_view again) (after_of opener_view folder_view vault_view sink_view again) again.status
    pub hold : HoldAlike (before_of opener_view folder_view vault_view sink_view run) (before_of opener_view folder_view vault_view sink_view again)
    pub ask : AskSame (before_of opener_view folder_view vault_view sink_view run) (before_of opener_view folder_view vault_view sink_view again)
    pub once : RoseOnceBy off.broke.fault (before_of opener_view folder_view vault_view sink_view run) (after_of opener_view folder_view vault_view sink_view run)
    pub well : NothingRose (before_of opener_view folder_view vault_view sink_view again) (after_of opener_view folder_view vault_view sink_view again)
    pub few : again.status ≤ 1
    pub start : off.sync.course.start ≡ other.run.plan.start
    pub more : List StripeReading
    pub read : other.run.readings ≡ off.sync.course.readings ++ more
    pub read_some : 0 < length off.sync.course.readings
    pub printed_some : (after_of opener_view folder_view vault_view sink_view run).after.out.written
        ≢ (before_of opener_view folder_view vault_view sink_view run).out.written
    pub out_begins : (before_of opener_view folder_view vault_view sink_view run).out.written
        ≡ (before_of opener_view folder_view vault_view sink_view again).out.written
    pub printed_less : (after_of opener_view folder_view vault_view sink_view run).after.out.written
        ≢ (after_of opener_view folder_view vault_view sink_view again).after.out.written
    pub front : PrintsFront off.broke.told (events_of other.run.plan.start other.run.readings)
        (before_of opener_view folder_view vault_view sink_view run) (before_of opener_view folder_view vault_view sink_view again)
        (after_of opener_view folder_view vault_view sink_view run) (after_of opener_view folder_view vault_view sink_view again) again.status
