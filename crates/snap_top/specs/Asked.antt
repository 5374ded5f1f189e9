-- What the words of a run ask for, and the configuration that they name.
use Rattle.std.specs.Prelude.{◌≡◌, ℕ, List, Option, take, IsTrue, Result, Ok}
use Rattle.array_setup.specs.Setup.{SetupValue}
use Rattle.snap_config.specs.declared.options.Command.{Command}
use Rattle.snap_config.specs.declared.options.Command.TheVariants as commands
use Rattle.disk_model.specs.Opener.{OpenerView}
use Rattle.snap_config.specs.Config.{read_setup}
use Rattle.snap_config.specs.Words.{reading_among}
use Rattle.snap_config.specs.declared.options.Options.{Options}
use Rattle.snap_config.specs.declared.options.WordsFault.{WordsFault}
use Rattle.snap_top.specs.declared.commands.TheConstants.{COMMANDS}

-- the commands that work on the array of a configuration
abbrev pub WorksOnArray : Command → Type 0
WorksOnArray commands.List = Unit {0}
WorksOnArray commands.Status = Unit {0}
WorksOnArray commands.Dup = Unit {0}
WorksOnArray (commands.Sync way) = Unit {0}
WorksOnArray (commands.Check selection) = Unit {0}
WorksOnArray (commands.Audit selection) = Unit {0}
WorksOnArray (commands.Fix selection) = Unit {0}
WorksOnArray (commands.Scrub way) = Unit {0}
WorksOnArray (commands.Exercise n) = ⊥

-- what the words ask for, among the commands that are built
abbrev pub asked_by : List (List ℕ) → Result Options WordsFault
asked_by texts = reading_among COMMANDS texts

-- the bytes of a configuration, and what they say; they are those of the file, where the opener tells that
pub record Says (opener : OpenerView) (log : Option (List ℕ)) (setup : SetupValue) : Type 0 where
  pub bytes : List ℕ
  pub held : IsTrue opener.tells → bytes ≡ take 1048577 opener.config
  pub says : read_setup bytes log ≡ Ok setup

-- the words ask for this command, which works on an array, with so many readers, and the file that they name says this configuration
pub record IsConfigured (texts : List (List ℕ)) (opener : OpenerView) (command : Command) (readers : ℕ) (setup : SetupValue) : Type 0 where
  pub asked : Options
  pub read : asked_by texts ≡ Ok asked
  pub array : WorksOnArray asked.command
  pub command_is : command ≡ asked.command
  pub readers_are : readers ≡ asked.readers
  pub says : Says opener asked.log setup

-- the commands that change nothing
abbrev pub ChangesNothing : Command → Type 0
ChangesNothing commands.List = Unit {0}
ChangesNothing commands.Status = Unit {0}
ChangesNothing commands.Dup = Unit {0}
ChangesNothing (commands.Check selection) = Unit {0}
ChangesNothing (commands.Audit selection) = Unit {0}
ChangesNothing (commands.Exercise n) = Unit {0}
ChangesNothing _ = ⊥
