-- A scrub that broke off, and one that did not: an instance of what is supposed of a run that prints a front of another one.
use Rattle.std.specs.Prelude.{◌≡◌, ◌≢◌, ◌≤◌}
use Rattle.disk_model.specs.Folder.{FolderView}
use Rattle.disk_model.specs.Opener.{OpenerView}
use Rattle.disk_model.specs.Sink.{SinkView}
use Rattle.disk_model.specs.Vault.{VaultView}
use Rattle.snap_report.specs.declared.answer.RunFault.TheVariants as runs
use Rattle.snap_top.specs.Alike.{HoldAlike}
use Rattle.snap_top.specs.Unbroken.{NothingRose}
use Rattle.snap_top.specs.BrokeOff.{PrintsFront, RoseOnceBy, ScrubBrokeOff, answered}
use Rattle.snap_top.specs.LeftAlike.{AskSame}
use Rattle.snap_top.specs.RunOf.{RunOf}
use Rattle.snap_top.specs.Scrubbed.{EndsScrubbed, events_scrubbed}
use Rattle.snap_top.specs.Standing.{after_of, before_of}

module _ {O F V W : Type 0} (opener_view : O → OpenerView) (folder_view : F → FolderView) (vault_view : V → VaultView) (sink_view : W → SinkView) where
  -- A scrub broke off by the vault, of which just that call failed; it had printed something. Another one of the same array, which was asked for the
  -- same at the same moment, went to its end, and nothing failed. So both read the same of one table, and the first one printed a front of what the
  -- second one did, and not all of it.
  pub record IsFrontOfScrub : Type 0 where
    pub run : RunOf O F V W
    pub again : RunOf O F V W
    pub off : ScrubBrokeOff (before_of opener_view folder_view vault_view sink_view run) (after_of opener_view folder_view vault_view sink_view run)
    pub fault_is : off.broke.fault ≡ runs.Vault
    pub other : EndsScrubbed (before_of opener_view folder_view vault_view sink_view again) (after_of opener_view folder_view vault_view sink_view again) again.status
    pub hold : HoldAlike (before_of opener_view folder_view vault_view sink_view run) (before_of opener_view folder_view vault_view sink_view again)
    pub ask : AskSame (before_of opener_view folder_view vault_view sink_view run) (before_of opener_view folder_view vault_view sink_view again)
    pub at_once : run.moment ≡ again.moment
    pub once : RoseOnceBy off.broke.fault (before_of opener_view folder_view vault_view sink_view run) (after_of opener_view folder_view vault_view sink_view run)
    pub well : NothingRose (before_of opener_view folder_view vault_view sink_view again) (after_of opener_view folder_view vault_view sink_view again)
    pub few : again.status ≤ 1
    pub loaded : (answered off.broke).table ≡ other.run.loaded
    pub read : off.scrub.course.readings ≡ other.run.readings
    pub printed_some : (after_of opener_view folder_view vault_view sink_view run).after.out.written
        ≢ (before_of opener_view folder_view vault_view sink_view run).out.written
    pub out_begins : (before_of opener_view folder_view vault_view sink_view run).out.written
        ≡ (before_of opener_view folder_view vault_view sink_view again).out.written
    pub printed_less : (after_of opener_view folder_view vault_view sink_view run).after.out.written
        ≢ (after_of opener_view folder_view vault_view sink_view again).after.out.written
    pub front : PrintsFront off.broke.told (events_scrubbed other.run)
        (before_of opener_view folder_view vault_view sink_view run) (before_of opener_view folder_view vault_view sink_view again)
        (after_of opener_view folder_view vault_view sink_view run) (after_of opener_view folder_view vault_view sink_view again) again.status
