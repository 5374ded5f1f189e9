-- The status of each end of a run, and its line on the standard error, or lines where content is damaged.
use Rattle.std.specs.Prelude.{ℕ, ◌+◌, ◌==◌, if◌then◌else◌, List, [], ◌∷◌, codes, slice_get, unwrap_or, Option}
use Rattle.std.specs.Fmt.{decimal}
use Rattle.std.specs.List.{flat_map}
use Rattle.std.specs.Option.{option_map_or}
use Rattle.content_file.specs.declared.fault.Damage.{Damage}
use Rattle.content_file.specs.FlawText.{printed_flaw}
use Rattle.content_file.specs.declared.loading.LoadFault.{LoadFault}
use Rattle.content_file.specs.declared.loading.LoadFault.TheVariants as loads
use Rattle.disk_model.specs.declared.fault.OpenFault.{OpenFault}
use Rattle.disk_model.specs.declared.fault.OpenFault.TheVariants as opens
use Rattle.file_table.specs.Table.{TableValue, record_at}
use Rattle.snap_config.specs.OptionTable.{command_word, name_of, option_in}
use Rattle.array_setup.specs.Setup.{SetupValue, setup_value}
use Rattle.snap_config.specs.Why.{printed_why}
use Rattle.snap_config.specs.declared.options.WordsFault.{WordsFault}
use Rattle.snap_config.specs.declared.options.WordsFault.TheVariants as words
use Rattle.snap_config.specs.declared.why.ConfigFault.{ConfigFault}
use Rattle.snap_config.specs.declared.why.ConfigFault.TheVariants as config
use Rattle.snap_report.specs.Answer as answers
use Rattle.snap_report.specs.EventLines.{joined}
use Rattle.snap_report.specs.Text.{printed}
use Rattle.snap_report.specs.declared.answer.Answer.{Answer}
use Rattle.snap_report.specs.declared.answer.Answer.TheVariants.{Zeroed}
use Rattle.snap_top.specs.Array.{column_names, disk_names}
use Rattle.snap_top.specs.declared.end.Difference.{Difference}
use Rattle.snap_top.specs.declared.end.Difference.TheVariants.{BlockSize, Levels, DiskName}
use Rattle.snap_top.specs.declared.end.End.{End}
use Rattle.snap_top.specs.declared.end.End.TheVariants.{Refused, Worked, Exercised}
use Rattle.snap_top.specs.declared.end.Ending.{Ending}
use Rattle.snap_top.specs.declared.end.Ending.TheVariants.{NotLoaded, NoTable, OtherArray, Answered}
use Rattle.snap_top.specs.declared.end.Refusal.{Refusal}
use Rattle.snap_top.specs.declared.end.Refusal.TheVariants.{Words, Unread, Config, NoDisk, Unopened}

-- ---- the status

abbrev pub words_status : WordsFault → ℕ
words_status words.Memory = 4
words_status _ = 2

abbrev pub config_status : ConfigFault → ℕ
config_status config.Memory = 4
config_status (config.BadLine line why) = 2

abbrev pub open_status : OpenFault → ℕ
open_status opens.Failed = 3
open_status opens.Memory = 4

abbrev pub load_status : LoadFault → ℕ
load_status loads.Failed = 3
load_status (loads.Damaged damages) = 5
load_status loads.Memory = 4

abbrev pub refusal_status : Refusal → ℕ
refusal_status (Words fault) = words_status fault
refusal_status (Unread fault) = open_status fault
refusal_status (Config file fault) = config_status fault
refusal_status (NoDisk name) = 2
refusal_status (Unopened fault) = open_status fault

abbrev pub ending_status : Ending → ℕ
ending_status (NotLoaded fault) = load_status fault
ending_status NoTable = 4
ending_status (OtherArray difference content) = 2
ending_status (Answered answer named) = answers.status_of answer

abbrev pub status_of : End → ℕ
status_of (Refused refusal) = refusal_status refusal
status_of (Worked setup ending) = ending_status ending
status_of (Exercised answer) = answers.status_of answer

-- ---- the line

abbrev pub memory_line : List ℕ
memory_line = codes "snapraid: out of memory\n"

-- the name of the option in a row
abbrev pub option_word : ℕ → List ℕ
option_word row = option_map_or name_of (option_in row) []

-- what stands in a refused line for the option of a row: the number has no name
abbrev pub given_in : ℕ → List ℕ
given_in row = if row == 14 then codes "a number" else joined (codes "option '--" ∷ option_word row ∷ codes "'" ∷ [])

abbrev pub value_in : ℕ → List ℕ
value_in row = if row == 14 then codes "bad number for 'exercise'" else joined (codes "bad value for '--" ∷ option_word row ∷ codes "'" ∷ [])

abbrev pub unfit_line : ℕ → List ℕ → List ℕ
unfit_line row command = joined (codes "snapraid: " ∷ given_in row ∷ codes " does not go with '" ∷ command ∷ codes "'\n" ∷ [])

abbrev pub value_line : ℕ → List ℕ
value_line row = joined (codes "snapraid: " ∷ value_in row ∷ codes "\n" ∷ [])

abbrev pub words_line : WordsFault → List ℕ
words_line words.Usage = codes "snapraid: cannot read the arguments\n"
words_line (words.Command word) = joined (codes "snapraid: unknown command '" ∷ printed word ∷ codes "'\n" ∷ [])
words_line (words.Unfit option command) = unfit_line option (command_word command)
words_line (words.Value option) = value_line option
words_line words.Memory = memory_line

abbrev pub config_line : List ℕ → ConfigFault → List ℕ
config_line file (config.BadLine line why) =
    joined (codes "snapraid: " ∷ printed file ∷ codes ":" ∷ decimal line ∷ codes ": " ∷ printed_why why ∷ codes "\n" ∷ [])
config_line file config.Memory = memory_line

abbrev pub open_line : OpenFault → List ℕ
open_line opens.Failed = codes "snapraid: configuration or opening failed\n"
open_line opens.Memory = memory_line

abbrev pub no_disk_line : List ℕ → List ℕ
no_disk_line name = joined (codes "snapraid: no disk '" ∷ printed name ∷ codes "'\n" ∷ [])

abbrev pub refusal_line : Refusal → List ℕ
refusal_line (Words fault) = words_line fault
refusal_line (Unread fault) = open_line fault
refusal_line (Config file fault) = config_line file fault
refusal_line (NoDisk name) = no_disk_line name
refusal_line (Unopened fault) = open_line fault

-- the line of a damaged copy: copies are numbered from 0, and printed from 1
abbrev pub damage_line : ℕ × Damage → List ℕ
damage_line (copy, damage) =
    joined (codes "snapraid: content " ∷ decimal (copy + 1) ∷ codes " is damaged at byte " ∷ decimal damage.offset ∷ codes ": " ∷ printed_flaw damage.why ∷ codes "\n" ∷ [])

-- one line a copy where content is damaged
abbrev pub load_line : LoadFault → List ℕ
load_line loads.Failed = codes "snapraid: parity or content failed\n"
load_line (loads.Damaged damages) = flat_map damage_line damages
load_line loads.Memory = memory_line

abbrev pub size_line : ℕ → ℕ → List ℕ
size_line content configuration =
    joined (codes "snapraid: content has block size " ∷ decimal content ∷ codes ", the configuration " ∷ decimal configuration ∷ codes "\n" ∷ [])

abbrev pub levels_line : ℕ → ℕ → List ℕ
levels_line content configuration =
    joined (codes "snapraid: content has " ∷ decimal content ∷ codes " levels, the configuration " ∷ decimal configuration ∷ codes "\n" ∷ [])

abbrev pub names_line : List ℕ → ℕ → List ℕ → List ℕ
names_line content column configuration =
    joined (codes "snapraid: content has disk '" ∷ printed content ∷ codes "' in column " ∷ decimal column
    ∷ codes ", the configuration '" ∷ printed configuration ∷ codes "'\n" ∷ [])

-- the name of a number, and a sign where there is none
abbrev pub name_or_sign : List (List ℕ) → ℕ → List ℕ
name_or_sign names column = unwrap_or (slice_get names column) (codes "-")

abbrev pub difference_line : SetupValue → TableValue → Difference → List ℕ
difference_line setup table (BlockSize content configuration) = size_line content configuration
difference_line setup table (Levels content configuration) = levels_line content configuration
difference_line setup table (DiskName column) = names_line (name_or_sign (column_names table) column) column (name_or_sign (disk_names setup) column)

-- the name of the disk that an answer names, and the path of the file that it names in this table
abbrev pub disk_named : SetupValue → Answer → List ℕ
disk_named setup answer = option_map_or (λ disk. unwrap_or (slice_get (disk_names setup) disk) []) (answers.disk_of answer) []

abbrev pub path_of_answer : TableValue → Answer → List ℕ
path_of_answer table (Zeroed disk rec) = (record_at table.columns disk rec).path
path_of_answer table _ = []

abbrev pub path_named : Option TableValue → Answer → List ℕ
path_named table answer = option_map_or (λ of. path_of_answer of answer) table []

abbrev pub ending_line : SetupValue → Ending → List ℕ
ending_line setup (NotLoaded fault) = load_line fault
ending_line setup NoTable = memory_line
ending_line setup (OtherArray difference content) = difference_line setup content difference
ending_line setup (Answered answer named) = answers.answer_line (disk_named setup answer) (path_named named answer) answer

abbrev pub line_of : End → List ℕ
line_of (Refused refusal) = refusal_line refusal
line_of (Worked setup ending) = ending_line (setup_value setup) ending
line_of (Exercised answer) = answers.answer_line [] [] answer
