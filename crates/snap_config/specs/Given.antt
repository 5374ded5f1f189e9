-- What clap's matches hold for an option.
use Rattle.std.specs.Prelude.{Bool, true, false, List, [], Option, Some, find, map, unwrap_or, bytes_eq}
use Rattle.std.specs.Borrow.{Bor}
use Rattle.std.specs.Option.{option_map_or}
use Rattle.clap.specs.Words.{Row, Text, found_of, rows_of}
use Rattle.clap.specs.Walk.{all_of, first_of}
use Rattle.clap.specs.declared.parser.matches.ArgMatches.{ArgMatches}
use Rattle.clap.specs.declared.parser.matches.ValueSource.{ValueSource}
use Rattle.clap.specs.declared.parser.matches.ValueSource.TheVariants.{CommandLine}
use Rattle.snap_config.specs.FlatCommand.{command_id}
use Rattle.snap_config.specs.OptionTable.{name_of}
use Rattle.snap_config.specs.declared.option_table.OptionName.{OptionName}

-- the rows of the matches
abbrev pub rows : ArgMatches → List Row
rows matches = rows_of (found_of matches)

-- the texts behind references
abbrev pub behind : Bor (List (Bor Text)) → List Text
behind texts = map (λ text. text.now) texts.now

-- not a default of clap's
abbrev pub is_from_words : Option ValueSource → Bool
is_from_words (Some CommandLine) = true
is_from_words _ = false

-- the option was used in the words
abbrev pub is_given : OptionName → List Row → Bool
is_given option matches = option_map_or (λ row. is_from_words row.source) (find (λ row. bytes_eq row.id (name_of option)) matches) false

-- the value of an option that is taken once
abbrev pub value_of : OptionName → List Row → Option Text
value_of option matches = first_of (name_of option) matches

-- the values of an option that collects them, in order, where it was given
abbrev pub all_values_of : OptionName → List Row → Option (List Text)
all_values_of option matches = all_of (name_of option) matches

-- the same, none where it was not given
abbrev pub values_of : OptionName → List Row → List Text
values_of option matches = unwrap_or (all_values_of option matches) []

-- the word for the command
abbrev pub command_text : List Row → Text
command_text matches = unwrap_or (first_of command_id matches) []
