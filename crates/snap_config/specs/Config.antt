-- What a configuration says: the fold over its lines, and what is looked at behind the last one.
use Rattle.std.specs.Prelude.{◌≡◌, ℕ, ◌+◌, ◌-◌, List, [], ◌∷◌, length, map, filter_map, flat_map, find, Bool, ◌==◌, ◌&&◌, ◌||◌, not, nat_lt, if◌then◌else◌, Option, unwrap_or, option_map, Result, Ok, Err, ⊤}
use Rattle.std.specs.List.{list_any}
use Rattle.snap_config.specs.Builder.{BuilderValue, no_lines, has_level, take_line}
use Rattle.snap_config.specs.Line.{lines_of}
use Rattle.snap_config.specs.Names.{file_name}
use Rattle.snap_config.specs.Parts.{capacity_of}
use Rattle.array_setup.specs.Setup.{SetupValue}
use Rattle.snap_config.specs.declared.builder.ParityLine.{ParityLine}
use Rattle.array_setup.specs.declared.setup.Disk.{Disk}
use Rattle.snap_config.specs.declared.why.ConfigFault.{ConfigFault}
use Rattle.snap_config.specs.declared.why.ConfigFault.TheVariants.{BadLine, Memory}
use Rattle.snap_config.specs.declared.why.Why.{Why}
use Rattle.snap_config.specs.declared.why.Why.TheVariants.{TooLong, NoParity, NoContent, NoData}

-- a line that is refused, by its number from 1, and why; 0 where the whole is
pub record Refusal : Type 0 where
  pub line : ℕ
  pub why : Why

-- what follows where nothing is refused
abbrev pub then_read : {A B E : Type 0} → Result A E → (A → Result B E) → Result B E
then_read (Ok value) next = next value
then_read (Err refusal) next = Err refusal

-- the same, refused at a line
abbrev pub at_line : {A : Type 0} → ℕ → Result A Why → Result A Refusal
at_line line (Ok value) = Ok value
at_line line (Err why) = Err (record { line = line; why = why })

-- the lines from this number on, one after another
abbrev pub read_lines : ℕ → BuilderValue → List (List ℕ) → Result BuilderValue Refusal
read_lines number builder [] = Ok builder
read_lines number builder (line ∷ lines) = then_read (at_line number (take_line line builder)) (λ next. read_lines (number + 1) next lines)

-- a level stands above one that isn't there
abbrev pub lacks_below : List ParityLine → ℕ → Bool
lacks_below parities level = nat_lt 0 level && not (has_level (level - 1) parities)

abbrev pub has_gap : List ParityLine → Bool
has_gap parities = list_any (λ (line : ParityLine). lacks_below parities line.level) parities

-- there is no level, or one stands above one that isn't there
abbrev pub lacks_level : List ParityLine → Bool
lacks_level parities = length parities == 0 || has_gap parities

-- the files of each level, in the order of the levels
abbrev pub files_of : List ParityLine → ℕ → Option (List (List ℕ))
files_of parities level = option_map (λ (line : ParityLine). line.files) (find (λ (line : ParityLine). line.level == level) parities)

abbrev pub by_level : List ParityLine → List (List (List ℕ))
by_level parities = filter_map (files_of parities) (0 ∷ 1 ∷ 2 ∷ 3 ∷ 4 ∷ 5 ∷ [])

abbrev pub block_size_of : BuilderValue → ℕ
block_size_of builder = unwrap_or builder.block_size 262144

-- the setup that the lines make, with the log's name as names of files are kept
abbrev pub setup_of : Option (List ℕ) → BuilderValue → SetupValue
setup_of log builder = record {
  disks = builder.disks;
  dirs = map (λ (disk : Disk). disk.dir) builder.disks;
  parities = flat_map (λ files. files) (by_level builder.parities);
  parts = map length (by_level builder.parities);
  split = capacity_of (block_size_of builder) (unwrap_or builder.split 16000000000000);
  contents = builder.contents;
  rules = builder.rules;
  nohidden = builder.nohidden;
  block_size = block_size_of builder;
  autosave = unwrap_or builder.autosave 0;
  log = option_map file_name log;
}

-- what is looked at behind the last line
abbrev pub finish : Option (List ℕ) → BuilderValue → Result SetupValue Why
finish log builder =
    if lacks_level builder.parities then Err NoParity else
    if length builder.contents == 0 then Err NoContent else
    if length builder.disks == 0 then Err NoData else
    Ok (setup_of log builder)

-- what a configuration says
abbrev pub read_setup : List ℕ → Option (List ℕ) → Result SetupValue Refusal
read_setup bytes log =
    if nat_lt 1048576 (length bytes) then Err (record { line = 0; why = TooLong })
    else then_read (read_lines 1 no_lines (lines_of bytes)) (λ builder. at_line 0 (finish log builder))

-- a fault is what is refused, or want of memory
abbrev pub IsRefusal : {A : Type 0} → ConfigFault → Result A Refusal → Type 0
IsRefusal (BadLine line why) said = said ≡ Err (record { line = line; why = why })
IsRefusal Memory said = ⊤
