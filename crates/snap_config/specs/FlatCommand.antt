-- The command line as one flat simple command of clap: the options in any place, one required positional, and one that may follow it.
use Rattle.std.specs.Prelude.{◌≡◌, ◌≢◌, ◌⊎◌, true, List, [], fold, None, Option, Some, codes, if◌then◌else◌}
use Rattle.clap.specs.Words.{App, Row, Rule, Text, fault_of, matches_of, new_app, new_rule, with_rule}
use Rattle.clap.specs.Kinds.{Kinds}
use Rattle.clap.specs.declared.error.kind.ErrorKind.{ErrorKind}
use Rattle.clap.specs.declared.error.kind.ErrorKind.TheVariants.{OutOfMemory}
use Rattle.snap_config.specs.OptionTable.{action_of, all_options, is_positional, letter_of, name_of}
use Rattle.snap_config.specs.declared.option_table.OptionName.{OptionName}
use Rattle.snap_config.specs.declared.options.WordsFault.{WordsFault}
use Rattle.snap_config.specs.declared.options.WordsFault.TheVariants.{Memory, Usage}

-- the name behind two dashes, where there is one
abbrev pub long_of : OptionName → Option Text
long_of option = if is_positional option then None else Some (name_of option)

-- what clap is to know of an option
abbrev pub rule_for : OptionName → Rule
rule_for option = record (new_rule (name_of option)) {
  long = long_of option;
  short = letter_of option;
  action = Some (action_of option);
}

abbrev pub command_id : Text
command_id = codes "command"

-- the positional for the command, which is required and comes first
abbrev pub command_rule : Rule
command_rule = record (new_rule command_id) { required = true }

-- without clap's own help and version
abbrev pub bare_app : App
bare_app = record (new_app (codes "snapraid")) {
  top = record (new_app (codes "snapraid")).top { disable_help_flag = true; disable_version_flag = true };
}

abbrev pub with_option : App → OptionName → App
with_option app option = with_rule app (rule_for option)

abbrev pub flat_app : App
flat_app = fold with_option (with_rule bare_app command_rule) all_options

-- why clap refuses the words; nothing where it takes them
unfoldable pub usage_faults : List Text → Kinds
usage_faults words = fault_of flat_app words

-- what clap's matches hold where it takes the words
unfoldable pub matches_in : List Text → List Row
matches_in words = matches_of flat_app words

-- want of memory, or clap refuses the words for another cause
abbrev pub IsRefusal : Kinds → WordsFault → Type 0
IsRefusal kinds fault = (fault ≡ Memory) ⊎ ((fault ≡ Usage) × (kinds ≢ []))

-- the fault of an error of this kind
abbrev pub RefusesAs : ErrorKind → WordsFault → Type 0
RefusesAs kind fault = (fault ≡ Memory) ⊎ ((fault ≡ Usage) × (kind ≢ OutOfMemory))
