-- A configuration as far as its lines are read, and what one more line makes of it.
use Rattle.std.specs.Prelude.{ℕ, ◌*◌, List, [], ◌∷◌, ◌++◌, length, Bool, true, false, ◌==◌, ◌&&◌, ◌||◌, not, nat_le, nat_lt, bytes_eq, if◌then◌else◌, Option, None, Some, is_some, Result, Ok, Err}
use Rattle.std.specs.List.{list_any}
use Rattle.std.specs.Str.{is_utf8}
use Rattle.array_setup.specs.Glob.{is_empty}
use Rattle.array_setup.specs.Keeps.{has_name}
use Rattle.snap_config.specs.Keyword.{keyword_of}
use Rattle.snap_config.specs.Line.{content_of, is_skipped, first_word, after_word}
use Rattle.snap_config.specs.Names.{is_disk_name, file_name, folder_name}
use Rattle.snap_config.specs.Number.{number_of}
use Rattle.snap_config.specs.Parts.{line_parts, line_files}
use Rattle.array_setup.specs.Pattern.{is_pattern}
use Rattle.snap_config.specs.declared.builder.ParityLine.{ParityLine}
use Rattle.snap_config.specs.declared.keyword.Keyword.{Keyword}
use Rattle.snap_config.specs.declared.keyword.Keyword.TheVariants.{Parity, Content, Data, Include, Exclude, NoHidden, BlockSize, HashSize, AutoSave, SplitSize, Unused, ZParity}
use Rattle.array_setup.specs.declared.setup.Disk.{Disk}
use Rattle.array_setup.specs.declared.setup.Rule.{Rule}
use Rattle.snap_config.specs.declared.why.Why.{Why}
use Rattle.snap_config.specs.declared.why.Why.TheVariants.{Utf8, Unknown, Unsupported, Value, Repeated, TooMany, Pattern}

-- what the lines so far say: each kind in the order of its lines, and nothing where no line says it
pub record BuilderValue : Type 0 where
  pub parities : List ParityLine
  pub contents : List (List ℕ)
  pub disks : List Disk
  pub rules : List Rule
  pub nohidden : Bool
  pub block_size : Option ℕ
  pub hash_size : Bool
  pub autosave : Option ℕ
  pub split : Option ℕ

-- no line yet
abbrev pub no_lines : BuilderValue
no_lines = record { parities = []; contents = []; disks = []; rules = []; nohidden = false; block_size = None; hash_size = false; autosave = None; split = None }

-- a level has its line; a file is named by a parity or a content line
abbrev pub has_level : ℕ → List ParityLine → Bool
has_level level parities = list_any (λ (line : ParityLine). line.level == level) parities

abbrev pub has_parity : List ℕ → List ParityLine → Bool
has_parity file parities = list_any (λ (line : ParityLine). has_name line.files file) parities

abbrev pub has_file : List ℕ → BuilderValue → Bool
has_file file builder = has_parity file builder.parities || has_name builder.contents file

-- one of these files is named by a line, or twice
abbrev pub names_again : List (List ℕ) → BuilderValue → Bool
names_again [] builder = false
names_again (file ∷ files) builder = has_file file builder || (has_name files file || names_again files builder)

-- a disk has this name or this folder
abbrev pub has_disk : List ℕ → List ℕ → List Disk → Bool
has_disk name dir disks = list_any (λ (disk : Disk). bytes_eq disk.name name || bytes_eq disk.dir dir) disks

abbrev pub Said : Type 0
Said = Result BuilderValue Why

-- `parity FILE`, `parity FILE,FILE`, `2-parity FILE` and so on, with 8 files at most
abbrev pub add_parity : ℕ → List ℕ → BuilderValue → Said
add_parity level argument builder =
    if list_any is_empty (line_parts argument) then Err Value else
    if has_level level builder.parities || names_again (line_files argument) builder then Err Repeated else
    if nat_lt 8 (length (line_files argument)) then Err TooMany else
    Ok (record builder { parities = builder.parities ++ record { level = level; files = line_files argument } ∷ [] })

-- `content FILE`, 64 times at most
abbrev pub add_content : List ℕ → BuilderValue → Said
add_content argument builder =
    if is_empty argument then Err Value else
    if has_file (file_name argument) builder then Err Repeated else
    if nat_le 64 (length builder.contents) then Err TooMany else
    Ok (record builder { contents = builder.contents ++ file_name argument ∷ [] })

-- `data NAME DIR`, 251 times at most
abbrev pub add_disk : List ℕ → List ℕ → BuilderValue → Said
add_disk name dir builder =
    if not (is_disk_name name) || is_empty dir then Err Value else
    if has_disk name (folder_name dir) builder.disks then Err Repeated else
    if nat_le 251 (length builder.disks) then Err TooMany else
    Ok (record builder { disks = builder.disks ++ record { name = name; dir = folder_name dir } ∷ [] })

-- `include PATTERN` and `exclude PATTERN`
abbrev pub add_rule : Bool → List ℕ → BuilderValue → Said
add_rule include argument builder =
    if is_empty argument then Err Value else
    if not (is_pattern argument) then Err Pattern else
    Ok (record builder { rules = builder.rules ++ record { include = include; pattern = argument } ∷ [] })

-- `nohidden`
abbrev pub set_nohidden : List ℕ → BuilderValue → Said
set_nohidden argument builder = if is_empty argument then Ok (record builder { nohidden = true }) else Err Value

-- `blocksize KIB`, 1 to 4,096, kept in bytes
abbrev pub set_block_size : Option ℕ → BuilderValue → Said
set_block_size None builder = Err Value
set_block_size (Some kib) builder =
    if not (nat_le 1 kib && nat_le kib 4096) then Err Value else
    if is_some builder.block_size then Err Repeated else
    Ok (record builder { block_size = Some (1024 * kib) })

-- `hashsize 16`
abbrev pub set_hash_size : Option ℕ → BuilderValue → Said
set_hash_size None builder = Err Value
set_hash_size (Some size) builder =
    if not (size == 16) then Err Unsupported else
    if builder.hash_size then Err Repeated else
    Ok (record builder { hash_size = true })

-- `autosave GB`, 0 to 1,000,000, kept in bytes
abbrev pub set_autosave : Option ℕ → BuilderValue → Said
set_autosave None builder = Err Value
set_autosave (Some gb) builder =
    if not (nat_le gb 1000000) then Err Value else
    if is_some builder.autosave then Err Repeated else
    Ok (record builder { autosave = Some (1000000000 * gb) })

-- `splitsize GB`, 1 to 1,000,000, kept in bytes
abbrev pub set_split : Option ℕ → BuilderValue → Said
set_split None builder = Err Value
set_split (Some gb) builder =
    if not (nat_le 1 gb && nat_le gb 1000000) then Err Value else
    if is_some builder.split then Err Repeated else
    Ok (record builder { split = Some (1000000000 * gb) })

-- a keyword without effect, with any argument
abbrev pub pass_over : List ℕ → BuilderValue → Said
pass_over argument builder = if is_empty argument then Err Value else Ok builder

abbrev pub take_keyword : Keyword → List ℕ → BuilderValue → Said
take_keyword (Parity level) argument builder = add_parity level argument builder
take_keyword Content argument builder = add_content argument builder
take_keyword Data argument builder = add_disk (first_word argument) (after_word argument) builder
take_keyword Include argument builder = add_rule true argument builder
take_keyword Exclude argument builder = add_rule false argument builder
take_keyword NoHidden argument builder = set_nohidden argument builder
take_keyword BlockSize argument builder = set_block_size (number_of argument) builder
take_keyword HashSize argument builder = set_hash_size (number_of argument) builder
take_keyword AutoSave argument builder = set_autosave (number_of argument) builder
take_keyword SplitSize argument builder = set_split (number_of argument) builder
take_keyword Unused argument builder = pass_over argument builder
take_keyword ZParity argument builder = Err Unsupported

abbrev pub take_known : Option Keyword → List ℕ → BuilderValue → Said
take_known None argument builder = Err Unknown
take_known (Some keyword) argument builder = take_keyword keyword argument builder

-- what a line says, which is neither nothing nor a comment
abbrev pub take_content : List ℕ → BuilderValue → Said
take_content content builder = take_known (keyword_of (first_word content)) (after_word content) builder

-- one more line
abbrev pub take_line : List ℕ → BuilderValue → Said
take_line line builder =
    if not (is_utf8 line) then Err Utf8 else
    if is_skipped (content_of line) then Ok builder else
    take_content (content_of line) builder
