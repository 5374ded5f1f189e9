-- What words and a configuration ask for.
use Rattle.std.specs.Prelude.{◌≡◌, ℕ, List, [], Bool, false, None, Some, Ok}
use Rattle.array_setup.specs.Setup.{SetupValue}
use Rattle.snap_config.specs.declared.options.Command.{Command}
use Rattle.snap_config.specs.declared.options.Options.{Options}
use Rattle.array_setup.specs.declared.ways.ScrubPlan.TheVariants as plans
use Rattle.array_setup.specs.declared.ways.ScrubWay.{ScrubWay}
use Rattle.array_setup.specs.declared.ways.Selection.{Selection}
use Rattle.array_setup.specs.declared.ways.SyncWay.{SyncWay}
use Rattle.snap_top.specs.Levels.{is_split, said_by}
use Rattle.snap_top.specs.Asked.{asked_by}

-- a sync without options
abbrev pub plain_sync : SyncWay
plain_sync = record { force_zero = false; force_empty = false; save_every = None }

-- a scrub of all that is synced
abbrev pub full_scrub : ScrubWay
full_scrub = record { plan = plans.Full; older = 10 }

-- all disks, levels and files
abbrev pub everything : Selection
everything = record { disks = []; patterns = []; missing = false; errors = false }

-- the words ask for this command, and name no log
pub record AsksFor (command : Command) (texts : List (List ℕ)) : Type 0 where
  pub asked : Options
  pub words : asked_by texts ≡ Ok asked
  pub command_is : asked.command ≡ command
  pub no_log : asked.log ≡ None

-- a configuration is read, and each level of it has one file
pub record HasWholeLevels (config : List ℕ) : Type 0 where
  pub setup : SetupValue
  pub says : said_by config ≡ Some setup
  pub whole : is_split setup.parts ≡ false
