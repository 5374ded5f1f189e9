-- The tests of fields of a content file that are not tests of one number.
use Rattle.std.specs.Prelude.{ℕ, ◌==◌, ◌&&◌, ◌||◌, not, List, [], ◌∷◌, ◌++◌, length, Bool, true, false, is_some, nat_eq, nat_le, bytes_eq, codes}
use Rattle.std.specs.List.{list_all, list_any, starts_with, ends_with}
use Rattle.std.specs.Ordering.{nat_cmp, is_lt}
use Rattle.std.specs.Str.{is_utf8}
use Rattle.std.specs.Cmp.Lexicographic.{slice_cmp}
use Rattle.disk_model.specs.Path.{components, lost_suffix}
use Rattle.file_table.specs.declared.block.Block.{Block}
use Rattle.file_table.specs.declared.info.Mark.{Mark}
use Rattle.file_table.specs.declared.info.Mark.TheVariants.{Pending, Synced}
use Rattle.file_table.specs.Table.{Record, Column, blocks_of, positions_of}
use Rattle.disk_model.specs.Name.{is_name_byte, level_names}
use Rattle.file_table.specs.Building.{last_record}

-- an allowed name of a disk
abbrev pub is_name : List ℕ → Bool
is_name name = nat_le 1 (length name) && nat_le (length name) 64 && list_all is_name_byte name && not (list_any (bytes_eq name) level_names)

-- a column has this name
abbrev pub is_named : List Column → List ℕ → Bool
is_named columns name = list_any (λ (column : Column). bytes_eq column.name name) columns

-- a part of a path is not empty, neither `.` nor `..`, and no lost file's name
abbrev pub is_part : List ℕ → Bool
is_part part = not (bytes_eq part []) && not (bytes_eq part (codes ".")) && not (bytes_eq part (codes "..")) && not (ends_with nat_eq part lost_suffix)

-- a path that a record may have
abbrev pub is_record_path : List ℕ → Bool
is_record_path path = is_utf8 path && nat_le (length path) 4082 && not (list_any (λ byte. byte == 0) path) && list_all is_part (components path)

-- a path is greater in byte order than that of the last record, if there is one
abbrev pub is_greatest : List Record → List ℕ → Bool
is_greatest records path = length records == 0 || is_lt (slice_cmp nat_cmp (last_record records).path path)

-- a record's path is a directory of this path
abbrev pub is_nested : List Record → List ℕ → Bool
is_nested records path = list_any (λ (kept : Record). starts_with nat_eq path (kept.path ++ 47 ∷ [])) records

-- one of these blocks stands at this position
abbrev pub is_used : List Block → ℕ → Bool
is_used blocks position = list_any (λ used. used == position) (positions_of blocks)

-- each block at this stripe has its hash
abbrev pub is_hashed : List Column → ℕ → Bool
is_hashed columns stripe = list_all (λ (block : Block). not (block.position == stripe) || is_some block.hash) (blocks_of columns)

-- a stripe is marked as pending
abbrev pub is_pending : Mark → Bool
is_pending Pending = true
is_pending Synced = false
