-- What a list of words asks for, as a function of what clap finds in it.
use Rattle.std.specs.Prelude.{Bool, not, ◌&&◌, List, [], ◌∷◌, Option, Some, None, Result, Ok, Err, codes, bytes_eq, find}
use Rattle.std.specs.Prelude.{◌≡◌, ◌⊎◌, ◌≤◌, ⊤, Contains, IfSome, if◌then◌else◌, unwrap_or}
use Rattle.std.specs.Option.{option_map_or}
use Rattle.clap.specs.Words.{Kinds, Row, Text}
use Rattle.snap_config.specs.FlatCommand.{matches_in, usage_faults}
use Rattle.snap_config.specs.Given.{command_text, is_given, value_of, values_of}
use Rattle.snap_config.specs.OptionTable.{command_word, goes_with, row_of}
use Rattle.snap_config.specs.OptionValues.{IsBetween, IsPlan, first_bad, first_option, values_in}
use Rattle.snap_config.specs.declared.option_table.TheConstants.{BUILT_COMMANDS}
use Rattle.snap_config.specs.declared.option_table.CommandName.{CommandName}
use Rattle.snap_config.specs.declared.option_table.CommandName.TheVariants as names
use Rattle.snap_config.specs.declared.option_table.OptionName.{OptionName}
use Rattle.snap_config.specs.declared.option_table.OptionName.TheVariants.{Conf, Log, FilterDisk, FilterMissing, FilterError}
use Rattle.snap_config.specs.declared.option_table.OptionName.TheVariants.{AuditOnly, ForceZero, ForceEmpty}
use Rattle.snap_config.specs.declared.options.Command.{Command}
use Rattle.snap_config.specs.declared.options.Command.TheVariants as commands
use Rattle.snap_config.specs.declared.options.Options.{Options}
use Rattle.array_setup.specs.declared.ways.ScrubWay.{ScrubWay}
use Rattle.array_setup.specs.declared.ways.Selection.{Selection}
use Rattle.array_setup.specs.declared.ways.SyncWay.{SyncWay}
use Rattle.snap_config.specs.declared.options.WordsFault.{WordsFault}
use Rattle.snap_config.specs.declared.options.WordsFault.TheVariants as faults

-- ---- the options of a command

abbrev pub sync_way : List Row → SyncWay
sync_way matches = record {
  force_zero = is_given ForceZero matches;
  force_empty = is_given ForceEmpty matches;
  save_every = (values_in matches).save_every;
}

abbrev pub scrub_way : List Row → ScrubWay
scrub_way matches = record { plan = (values_in matches).plan; older = (values_in matches).older }

abbrev pub selection : List Row → Selection
selection matches = record {
  disks = values_of FilterDisk matches;
  patterns = (values_in matches).patterns;
  missing = is_given FilterMissing matches;
  errors = is_given FilterError matches;
}

abbrev pub checking : Bool → Selection → Command
checking is_audit selected = if is_audit then commands.Audit selected else commands.Check selected

abbrev pub command_of : CommandName → List Row → Command
command_of names.Sync matches = commands.Sync (sync_way matches)
command_of names.Scrub matches = commands.Scrub (scrub_way matches)
command_of names.Check matches = checking (is_given AuditOnly matches) (selection matches)
command_of names.Fix matches = commands.Fix (selection matches)
command_of names.Status matches = commands.Status
command_of names.List matches = commands.List
command_of names.Dup matches = commands.Dup
command_of names.Exercise matches = commands.Exercise (values_in matches).number

abbrev pub default_conf : Text
default_conf = codes "/etc/snapraid.conf"

-- all that the words ask for, where nothing is refused
abbrev pub asked_for : CommandName → List Row → Options
asked_for command matches = record {
  conf = unwrap_or (value_of Conf matches) default_conf;
  log = value_of Log matches;
  readers = (values_in matches).readers;
  command = command_of command matches;
}

-- ---- refusals

-- the option was given, and does not go with the command
abbrev pub is_unfit : CommandName → List Row → OptionName → Bool
is_unfit command matches option = is_given option matches && not (goes_with option command)

abbrev pub unless_refused : Option OptionName → (OptionName → WordsFault) → Result Options WordsFault → Result Options WordsFault
unless_refused None fault otherwise = otherwise
unless_refused (Some option) fault otherwise = Err (fault option)

-- first the options that do not go with the command, then the bad values
abbrev pub options_of : CommandName → List Row → Result Options WordsFault
options_of command matches =
    unless_refused (first_option (is_unfit command matches)) (λ option. faults.Unfit (row_of option) command)
    (unless_refused (first_bad command matches) (λ option. faults.Value (row_of option))
    (Ok (asked_for command matches)))

-- the command of a word, among these
abbrev pub named : List CommandName → Text → Option CommandName
named built word = find (λ command. bytes_eq (command_word command) word) built

-- what matches ask for, where these commands are built
abbrev pub options : List CommandName → List Row → Result Options WordsFault
options built matches =
    option_map_or (λ command. options_of command matches) (named built (command_text matches)) (Err (faults.Command (command_text matches)))

-- ---- the words

abbrev pub unless_usage : Kinds → Result Options WordsFault → Result Options WordsFault
unless_usage [] otherwise = otherwise
unless_usage (kind ∷ kinds) otherwise = Err faults.Usage

-- what words ask for, where these commands are built; the first word is the program's name
unfoldable pub reading_among : List CommandName → List Text → Result Options WordsFault
reading_among built words = unless_usage (usage_faults words) (options built (matches_in words))

-- what words ask for
abbrev pub reading : List Text → Result Options WordsFault
reading words = reading_among BUILT_COMMANDS words

-- the log that they name, where they are not refused
abbrev pub log_of : Result Options WordsFault → Option Text
log_of (Ok asked) = asked.log
log_of (Err fault) = None

-- the answer is this reading, or memory ran out
abbrev pub Answers : Result Options WordsFault → Result Options WordsFault → Type 0
Answers (Ok asked) read = read ≡ Ok asked
Answers (Err fault) read = (fault ≡ faults.Memory) ⊎ (read ≡ Err fault)

-- ---- what holds of options that were read

abbrev pub name_of_command : Command → CommandName
name_of_command (commands.Sync way) = names.Sync
name_of_command (commands.Scrub way) = names.Scrub
name_of_command (commands.Check selected) = names.Check
name_of_command (commands.Audit selected) = names.Check
name_of_command (commands.Fix selected) = names.Fix
name_of_command commands.Status = names.Status
name_of_command commands.List = names.List
name_of_command commands.Dup = names.Dup
name_of_command (commands.Exercise n) = names.Exercise

-- numbers lie within their bounds
abbrev pub IsWay : Command → Type 0
IsWay (commands.Sync way) = IfSome way.save_every (IsBetween 1 67108864)
IsWay (commands.Scrub way) = IsPlan way.plan × (way.older ≤ 36500)
IsWay (commands.Exercise n) = n ≤ 999999999
IsWay _ = ⊤

pub record IsOptions (asked : Options) : Type 0 where
  pub readers : IsBetween 1 16 asked.readers
  pub way : IsWay asked.command

-- the command is among these
abbrev pub IsAmong : List CommandName → Options → Type 0
IsAmong built asked = Contains built (name_of_command asked.command)
