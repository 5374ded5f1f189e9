-- The command of a run: by the configuration that was asked for, over what the opener held.
use Rattle.std.specs.Prelude.{◌≡◌, ℕ, length, All}
use Rattle.cauchy.specs.Recovery.{AreBytes}
use Rattle.disk_model.specs.Vault.{copies_of}
use Rattle.snap_config.specs.declared.options.Command.{Command}
use Rattle.snap_config.specs.declared.options.Command.TheVariants as commands
use Rattle.array_setup.specs.declared.ways.SyncWay.{SyncWay}
use Rattle.snap_sync.specs.Part.{SyncRun}
use Rattle.stripe_findings.specs.Reading.{StripeReading, row_of}
use Rattle.snap_top.specs.Loading.{Loading}
use Rattle.snap_top.specs.Asked.{IsConfigured}
use Rattle.snap_top.specs.Entry.{Entry, Exit}
use Rattle.snap_top.specs.Fix.{AllFixed, FixRun, FixesOver}
use Rattle.snap_top.specs.Scrub.{ScrubRun, ScrubsOver}
use Rattle.snap_top.specs.Sync.{BeginsAmong, SyncsOver}
use Rattle.array_setup.specs.declared.ways.Selection.{Selection}
use Rattle.repair_scope.specs.declared.scope.Mode.{Mode}
use Rattle.repair_scope.specs.declared.scope.Mode.TheVariants as modes
use Rattle.snap_top.specs.Check.{CheckRun, ChecksOver}

-- The sync of a run: it is by the configuration that was asked for, over the folders and the vault that the opener held. The rows that
-- it read are of bytes. Where no copy's reading failed while its table was loaded, that is the first copy's that is a content file.
pub record IsSyncOf (before : Entry) (exit : Exit) (run : SyncRun) : Type 0 where
  pub way : SyncWay
  pub readers : ℕ
  pub configured : IsConfigured before.texts before.opener (commands.Sync way) readers run.setup
  pub folders_are : run.folders ≡ before.opener.folders
  pub ended_is : run.ended ≡ exit.after.folders
  pub moment_is : run.plan.now ≡ before.moment
  pub copies_are : copies_of before.opener.vault ≡ length run.setup.contents
  pub over : SyncsOver (copies_of before.opener.vault) before.opener.vault.files run
  pub begins : BeginsAmong run.setup before.seed (copies_of before.opener.vault) before.opener.vault.files run.loaded
  pub bytes : All (λ (reading : StripeReading). AreBytes (row_of reading)) run.readings
  pub loading : Loading before exit run.setup run.loaded

-- The fix of a run, by the configuration that was asked for, over the folders and the vault that the opener held. Where no copy's reading
-- failed while its table was loaded, that is the first copy's that is a content file.
pub record IsFixOf (before : Entry) (exit : Exit) (run : FixRun) : Type 0 where
  pub readers : ℕ
  pub configured : IsConfigured before.texts before.opener (commands.Fix run.selection) readers run.setup
  pub folders_are : run.folders ≡ before.opener.folders
  pub ended_is : run.ended ≡ exit.after.folders
  pub over : FixesOver (copies_of before.opener.vault) before.opener.vault run
  pub begins : BeginsAmong run.setup before.seed (copies_of before.opener.vault) before.opener.vault.files run.loaded
  -- only its calls were made of the folders
  pub makes : AllFixed run before.opener.folders exit.after.folders
  pub loading : Loading before exit run.setup run.loaded

-- The scrub of a run, by the configuration that was asked for, over the folders and the vault that the opener held. Where no copy's reading
-- failed while its table was loaded, that is the first copy's that is a content file.
pub record IsScrubOf (before : Entry) (exit : Exit) (run : ScrubRun) : Type 0 where
  pub readers : ℕ
  pub configured : IsConfigured before.texts before.opener (commands.Scrub run.way) readers run.setup
  pub folders_are : run.folders ≡ before.opener.folders
  pub ended_is : run.ended ≡ exit.after.folders
  pub moment_is : run.now ≡ before.moment
  pub over : ScrubsOver (copies_of before.opener.vault) before.opener.vault run
  pub begins : BeginsAmong run.setup before.seed (copies_of before.opener.vault) before.opener.vault.files run.loaded
  pub loading : Loading before exit run.setup run.loaded

-- the command of a run in a mode
abbrev pub command_in : Mode → Selection → Command
command_in modes.Check selection = commands.Check selection
command_in modes.Audit selection = commands.Audit selection
command_in modes.Fix selection = commands.Fix selection

-- The check or the audit of a run, by the configuration that was asked for, over the folders and the vault that the
-- opener held. Where no copy's reading failed while its table was loaded, that is the first copy's that is a content file.
pub record IsCheckOf (mode : Mode) (before : Entry) (exit : Exit) (run : CheckRun) : Type 0 where
  pub readers : ℕ
  pub configured : IsConfigured before.texts before.opener (command_in mode run.selection) readers run.setup
  pub folders_are : run.folders ≡ before.opener.folders
  pub ended_is : run.ended ≡ exit.after.folders
  pub over : ChecksOver mode (copies_of before.opener.vault) before.opener.vault run
  pub begins : BeginsAmong run.setup before.seed (copies_of before.opener.vault) before.opener.vault.files run.loaded
  pub loading : Loading before exit run.setup run.loaded
