-- What is not laid out.
use Rattle.std.specs.Prelude.{◌≡◌, ℕ, ◌-◌, ◌^◌, ◌&&◌, ◌||◌, ◌==◌, min, List, [], ◌∷◌, length, map, sum_by, get_or, nat_lt, Bool, true, false, if◌then◌else◌, Option, None, Some}
use Rattle.std.specs.List.{list_all}
use Rattle.std.specs.Option.{is_none, option_map}
use Rattle.disk_model.specs.declared.meta.Meta.{Meta}
use Rattle.file_table.specs.Table.{Record, TableValue, column_at, block_count}
use Rattle.file_table.specs.Valid.{most_blocks, most_records}
use Rattle.array_scan.specs.declared.sorting.Fate.{Fate}
use Rattle.array_scan.specs.declared.sorting.Fate.TheVariants.{Unchanged, Changed, Moved, New}
use Rattle.array_scan.specs.declared.sorting.Sorted.{Sorted}
use Rattle.array_scan.specs.declared.fault.ScanFault.{ScanFault}
use Rattle.array_scan.specs.declared.fault.ScanFault.TheVariants.{Zeroed, Emptied, Full, Memory}
use Rattle.folder_listing.specs.Kept.{each_column}
use Rattle.array_scan.specs.Fates.{record_of, origin}

-- the first that is there
abbrev pub or_else : {X : Type 0} → Option X → Option X → Option X
or_else (Some x) later = Some x
or_else None later = later

abbrev pub first_some : {X : Type 0} → List (Option X) → Option X
first_some [] = None
first_some (x ∷ xs) = or_else x (first_some xs)

-- the record of a file that had bytes and is empty now
abbrev pub emptied_record : List Record → Meta → Fate → Option ℕ
emptied_record records meta (Changed i) = if meta.size == 0 && nat_lt 0 (record_of records i).meta.size then Some i else None
emptied_record records meta (Unchanged i) = None
emptied_record records meta (Moved i) = None
emptied_record records meta New = None

-- the record of the first file of a column that is empty now
abbrev pub first_zeroed : List Record → List Sorted → Option ℕ
first_zeroed records files = first_some (map (λ (file : Sorted). emptied_record records file.meta file.fate) files)

abbrev pub zeroed_at : TableValue → List (List Sorted) → ℕ → Option ScanFault
zeroed_at old files d = option_map (λ (rec : ℕ). Zeroed d rec) (first_zeroed (column_at old.columns d).records (get_or files d []))

-- a column has records, and none of them is unchanged or moved
abbrev pub is_emptied : List Record → List Sorted → Bool
is_emptied records files = nat_lt 0 (length records) && list_all (λ (file : Sorted). is_none (origin file.fate)) files

abbrev pub emptied_at : TableValue → List (List Sorted) → ℕ → Option ScanFault
emptied_at old files d = if is_emptied (column_at old.columns d).records (get_or files d []) then Some (Emptied d) else None

-- how many blocks a column has, and all columns, and how many files
abbrev pub size_of : ℕ → List Sorted → ℕ
size_of block_size files = sum_by (λ (file : Sorted). block_count block_size file.meta.size) files

abbrev pub blocks_in : ℕ → List (List Sorted) → ℕ
blocks_in block_size files = sum_by (size_of block_size) files

abbrev pub files_in : List (List Sorted) → ℕ
files_in files = sum_by (λ (column : List Sorted). length column) files

-- a number as it is given in an answer: the greatest u64 for one that passes it
abbrev pub capped : ℕ → ℕ
capped n = min n (2 ^ 64 - 1)

-- a table cannot have as many blocks, or files
abbrev pub full : TableValue → List (List Sorted) → Option ScanFault
full old files =
    let blocks = blocks_in old.shape.block_size files in
    if nat_lt most_blocks blocks || nat_lt most_records (files_in files) then Some (Full (capped blocks) (capped (files_in files))) else None

-- a refusal that is asked for, or not
abbrev pub unless : {X : Type 0} → Bool → Option X → Option X
unless true fault = None
unless false fault = fault

-- the first column that has such a fault
abbrev pub in_columns : TableValue → (ℕ → Option ScanFault) → Option ScanFault
in_columns old fault = first_some (each_column fault (length old.columns))

-- the refusals in their order: a file that became empty, a column that lost all its files, too many blocks or files
abbrev pub refusal : Bool → Bool → TableValue → List (List Sorted) → Option ScanFault
refusal force_zero force_empty old files =
    or_else (unless force_zero (in_columns old (zeroed_at old files)))
    (or_else (unless force_empty (in_columns old (emptied_at old files))) (full old files))

-- why a fault was answered. Want of memory is free
abbrev pub IsCause : Option ScanFault → ScanFault → Type 0
IsCause refused Memory = Unit {0}
IsCause refused (Zeroed d rec) = refused ≡ Some (Zeroed d rec)
IsCause refused (Emptied d) = refused ≡ Some (Emptied d)
IsCause refused (Full blocks files) = refused ≡ Some (Full blocks files)
