-- The options of the command line, row by row, and the commands that they go with.
use Rattle.std.specs.Prelude.{◌==◌, find, ℕ, Bool, true, false, ◌||◌, List, [], ◌∷◌, Option, Some, None, codes}
use Rattle.clap.specs.declared.builder.action.ArgAction.{ArgAction}
use Rattle.clap.specs.declared.builder.action.ArgAction.TheVariants.{Set, Append, SetTrue}
use Rattle.snap_config.specs.declared.option_table.CommandName.{CommandName}
use Rattle.snap_config.specs.declared.option_table.CommandName.TheVariants as commands
use Rattle.snap_config.specs.declared.option_table.OptionName.{OptionName}
use Rattle.snap_config.specs.declared.option_table.OptionName.TheVariants as options

-- the word of a command
abbrev pub command_word : CommandName → List ℕ
command_word commands.Sync = codes "sync"
command_word commands.Scrub = codes "scrub"
command_word commands.Check = codes "check"
command_word commands.Fix = codes "fix"
command_word commands.Status = codes "status"
command_word commands.List = codes "list"
command_word commands.Dup = codes "dup"
command_word commands.Exercise = codes "exercise"

-- the options in the order of their rows
abbrev pub all_options : List OptionName
all_options = options.Conf ∷ options.Log ∷ options.Filter ∷ options.FilterDisk
    ∷ options.FilterMissing ∷ options.FilterError ∷ options.AuditOnly ∷ options.Plan
    ∷ options.OlderThan ∷ options.ForceZero ∷ options.ForceEmpty ∷ options.SaveEvery
    ∷ options.Readers ∷ options.Number ∷ []

-- the row of an option, from 1
abbrev pub row_of : OptionName → ℕ
row_of options.Conf = 1
row_of options.Log = 2
row_of options.Filter = 3
row_of options.FilterDisk = 4
row_of options.FilterMissing = 5
row_of options.FilterError = 6
row_of options.AuditOnly = 7
row_of options.Plan = 8
row_of options.OlderThan = 9
row_of options.ForceZero = 10
row_of options.ForceEmpty = 11
row_of options.SaveEvery = 12
row_of options.Readers = 13
row_of options.Number = 14

-- the option of a row
abbrev pub option_in : ℕ → Option OptionName
option_in row = find (λ option. row_of option == row) all_options

-- the name, which stands behind two dashes where the option has one
abbrev pub name_of : OptionName → List ℕ
name_of options.Conf = codes "conf"
name_of options.Log = codes "log"
name_of options.Filter = codes "filter"
name_of options.FilterDisk = codes "filter-disk"
name_of options.FilterMissing = codes "filter-missing"
name_of options.FilterError = codes "filter-error"
name_of options.AuditOnly = codes "audit-only"
name_of options.Plan = codes "plan"
name_of options.OlderThan = codes "older-than"
name_of options.ForceZero = codes "force-zero"
name_of options.ForceEmpty = codes "force-empty"
name_of options.SaveEvery = codes "save-every"
name_of options.Readers = codes "readers"
name_of options.Number = codes "number"

-- the number alone stands among the words without a name
abbrev pub is_positional : OptionName → Bool
is_positional options.Number = true
is_positional _ = false

-- the letter that stands behind one dash
abbrev pub letter_of : OptionName → Option ℕ
letter_of options.Conf = Some 99
letter_of options.Log = Some 108
letter_of options.Filter = Some 102
letter_of options.FilterDisk = Some 100
letter_of options.FilterMissing = Some 109
letter_of options.FilterError = Some 101
letter_of options.AuditOnly = Some 97
letter_of options.Plan = Some 112
letter_of options.OlderThan = Some 111
letter_of options.ForceZero = Some 90
letter_of options.ForceEmpty = Some 69
letter_of options.SaveEvery = None
letter_of options.Readers = None
letter_of options.Number = None

-- what a use of an option does: filters collect their values, the other values are taken once, and flags take none
abbrev pub action_of : OptionName → ArgAction
action_of options.Conf = Set
action_of options.Log = Set
action_of options.Filter = Append
action_of options.FilterDisk = Append
action_of options.FilterMissing = SetTrue
action_of options.FilterError = SetTrue
action_of options.AuditOnly = SetTrue
action_of options.Plan = Set
action_of options.OlderThan = Set
action_of options.ForceZero = SetTrue
action_of options.ForceEmpty = SetTrue
action_of options.SaveEvery = Set
action_of options.Readers = Set
action_of options.Number = Set

abbrev pub is_sync : CommandName → Bool
is_sync commands.Sync = true
is_sync _ = false

abbrev pub is_scrub : CommandName → Bool
is_scrub commands.Scrub = true
is_scrub _ = false

abbrev pub is_check : CommandName → Bool
is_check commands.Check = true
is_check _ = false

abbrev pub is_fix : CommandName → Bool
is_fix commands.Fix = true
is_fix _ = false

abbrev pub is_exercise : CommandName → Bool
is_exercise commands.Exercise = true
is_exercise _ = false

-- whether an option goes with a command
abbrev pub goes_with : OptionName → CommandName → Bool
goes_with options.Conf command = true
goes_with options.Log command = true
goes_with options.Filter command = is_check command || is_fix command
goes_with options.FilterDisk command = is_check command || is_fix command
goes_with options.FilterMissing command = is_check command || is_fix command
goes_with options.FilterError command = is_check command || is_fix command
goes_with options.AuditOnly command = is_check command
goes_with options.Plan command = is_scrub command
goes_with options.OlderThan command = is_scrub command
goes_with options.ForceZero command = is_sync command
goes_with options.ForceEmpty command = is_sync command
goes_with options.SaveEvery command = is_sync command
goes_with options.Readers command = is_sync command || is_scrub command || is_check command || is_fix command
goes_with options.Number command = is_exercise command
