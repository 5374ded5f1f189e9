-- The forms of the values of options.
use Rattle.std.specs.Prelude.{ℕ, Bool, true, false, not, ◌&&◌, nat_le, List, Option, Some, None, codes, bytes_eq}
use Rattle.std.specs.Prelude.{◌≡◌, ◌⊎◌, ◌≤◌, ⊤, IfSome, find, if◌then◌else◌, is_some, option_and_then, option_map, unwrap_or}
use Rattle.std.specs.List.{list_all}
use Rattle.std.specs.Option.{option_map_or}
use Rattle.clap.specs.Words.{Row, Text}
use Rattle.snap_config.specs.Given.{value_of, values_of}
use Rattle.snap_config.specs.Number.{number_of}
use Rattle.snap_config.specs.OptionTable.{all_options, is_exercise, row_of}
use Rattle.array_setup.specs.Pattern.{is_pattern}
use Rattle.snap_config.specs.declared.option_table.CommandName.{CommandName}
use Rattle.snap_config.specs.declared.option_table.OptionName.{OptionName}
use Rattle.snap_config.specs.declared.option_table.OptionName.TheVariants as options
use Rattle.snap_config.specs.declared.option_values.OptionValues.{OptionValues}
use Rattle.array_setup.specs.declared.ways.ScrubPlan.{ScrubPlan}
use Rattle.array_setup.specs.declared.ways.ScrubPlan.TheVariants as plans
use Rattle.snap_config.specs.declared.options.WordsFault.{WordsFault}
use Rattle.snap_config.specs.declared.options.WordsFault.TheVariants.{Memory, Value}

-- the number that a text is, where it lies within these bounds
abbrev pub number_in : ℕ → ℕ → Text → Option ℕ
number_in least most text =
    option_and_then (λ n. if nat_le least n && nat_le n most then Some n else None) (number_of text)

-- the plan of a scrub: a word, or a number of percent
abbrev pub plan_of : Text → Option ScrubPlan
plan_of text = if bytes_eq text (codes "bad") then Some plans.Bad
    else (if bytes_eq text (codes "new") then Some plans.New
    else (if bytes_eq text (codes "full") then Some plans.Full
    else option_map plans.Percent (number_in 0 100 text)))

abbrev pub days_of : Text → Option ℕ
days_of = number_in 0 36500

abbrev pub stripes_of : Text → Option ℕ
stripes_of = number_in 1 67108864

abbrev pub readers_of : Text → Option ℕ
readers_of = number_in 1 16

abbrev pub numbers_of : Text → Option ℕ
numbers_of = number_in 0 999999999

-- a value was given for the option, and this finds none in it
abbrev pub is_misread : {X : Type 0} → (Text → Option X) → OptionName → List Row → Bool
is_misread reads option matches = option_map_or (λ text. not (is_some (reads text))) (value_of option matches) false

-- the value of an option as this reads it, or a default
abbrev pub read_or : {X : Type 0} → X → (Text → Option X) → OptionName → List Row → X
read_or default reads option matches = unwrap_or (option_and_then reads (value_of option matches)) default

-- what the options' values come to: unless the words say otherwise, 8 percent of the stripes that no check saw in the last 10 days,
-- 4 readers and the number 0
abbrev pub values_in : List Row → OptionValues
values_in matches = record {
  patterns = values_of options.Filter matches;
  plan = read_or (plans.Percent 8) plan_of options.Plan matches;
  older = read_or 10 days_of options.OlderThan matches;
  save_every = option_and_then stripes_of (value_of options.SaveEvery matches);
  readers = read_or 4 readers_of options.Readers matches;
  number = read_or 0 numbers_of options.Number matches;
}

-- the number of an exercise is not given, or not of its form
abbrev pub lacks_number : CommandName → List Row → Bool
lacks_number command matches = is_exercise command && not (is_some (option_and_then numbers_of (value_of options.Number matches)))

-- a value that was given for the option is not of its form, or an exercise has no number
abbrev pub is_bad : CommandName → OptionName → List Row → Bool
is_bad command options.Filter matches = not (list_all is_pattern (values_of options.Filter matches))
is_bad command options.Plan matches = is_misread plan_of options.Plan matches
is_bad command options.OlderThan matches = is_misread days_of options.OlderThan matches
is_bad command options.SaveEvery matches = is_misread stripes_of options.SaveEvery matches
is_bad command options.Readers matches = is_misread readers_of options.Readers matches
is_bad command options.Number matches = lacks_number command matches
is_bad command _ matches = false

-- the first option of which this is so, in the order of the rows
unfoldable pub first_option : (OptionName → Bool) → Option OptionName
first_option is_so = find is_so all_options

abbrev pub first_bad : CommandName → List Row → Option OptionName
first_bad command matches = first_option (λ option. is_bad command option matches)

-- ---- what reading a value comes to

-- the fault of an option whose value is bad
pub record IsValueFault (option : OptionName) (bad : Bool) (fault : WordsFault) : Type 0 where
  pub is_bad : bad ≡ true
  pub row : fault ≡ Value (row_of option)

-- this was read, and no value was given that is misread
pub record IsRead {X : Type 0} (reads : Text → Option X) (option : OptionName) (matches : List Row) (read : Option X) : Type 0 where
  pub value : read ≡ option_and_then reads (value_of option matches)
  pub good : is_misread reads option matches ≡ false

abbrev pub IsMisread : {X : Type 0} → (Text → Option X) → OptionName → List Row → WordsFault → Type 0
IsMisread reads option matches = IsValueFault option (is_misread reads option matches)

-- these are the texts, and each is a pattern
pub record ArePatterns (texts patterns : List Text) : Type 0 where
  pub value : patterns ≡ texts
  pub good : list_all is_pattern texts ≡ true

-- memory ran out, or one of the texts is no pattern
abbrev pub IsPatternFault : List Text → WordsFault → Type 0
IsPatternFault texts fault = (fault ≡ Memory) ⊎ IsValueFault options.Filter (not (list_all is_pattern texts)) fault

-- memory ran out, or this is the fault of the first option whose value is bad
abbrev pub IsFirstBad : CommandName → List Row → WordsFault → Type 0
IsFirstBad command matches fault =
    (fault ≡ Memory) ⊎ ((option : OptionName) × (first_bad command matches ≡ Some option) × (fault ≡ Value (row_of option)))

-- ---- bounds

abbrev pub IsBetween : ℕ → ℕ → ℕ → Type 0
IsBetween least most n = (least ≤ n) × (n ≤ most)

abbrev pub IsPlan : ScrubPlan → Type 0
IsPlan (plans.Percent percent) = percent ≤ 100
IsPlan _ = ⊤

pub record AreInBounds (values : OptionValues) : Type 0 where
  pub plan : IsPlan values.plan
  pub older : values.older ≤ 36500
  pub save_every : IfSome values.save_every (IsBetween 1 67108864)
  pub readers : IsBetween 1 16 values.readers
  pub number : values.number ≤ 999999999
