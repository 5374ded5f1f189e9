-- What becomes of the kept files of a column: each is unchanged, changed, moved or new.
use Rattle.std.specs.Prelude.{◌≡◌, ℕ, ◌<◌, ◌==◌, ◌&&◌, List, [], length, map, filter, take, position, slice_index_or, slice_get, count_by, not, nat_lt, bytes_eq, Bool, false, if◌then◌else◌, Option, None, Some, All, AllPairs}
use Rattle.std.specs.List.{range_with_len, list_any}
use Rattle.std.specs.Ordering.{int_eq}
use Rattle.std.specs.Option.{is_none}
use Rattle.disk_model.specs.Stamp.{IsStamp}
use Rattle.disk_model.specs.declared.meta.Meta.{Meta}
use Rattle.file_table.specs.Table.{Record, no_record, no_meta}
use Rattle.file_table.specs.Valid.{IsMeta}
use Rattle.array_scan.specs.declared.sorting.Fate.{Fate}
use Rattle.array_scan.specs.declared.sorting.Fate.TheVariants.{Unchanged, Changed, Moved, New}
use Rattle.array_scan.specs.declared.sorting.Sorted.{Sorted}
use Rattle.folder_listing.specs.Kept.{ListedFile}
use Rattle.folder_listing.specs.Kept.{same_meta}

-- the record of a number, and the file of a number
abbrev pub record_of : List Record → ℕ → Record
record_of records i = slice_index_or records i no_record

abbrev pub file_of : List ListedFile → ℕ → ListedFile
file_of files k = slice_index_or files k ([], no_meta)

-- the number of the record with this path
abbrev pub record_with : List Record → List ℕ → Option ℕ
record_with records path = position (λ (kept : Record). bytes_eq kept.path path) records

abbrev pub is_number : ℕ → Option ℕ → Bool
is_number i None = false
is_number i (Some j) = j == i

-- a kept file has the path of this record. A record without such a file is vanished
abbrev pub is_listed : List Record → List ListedFile → ℕ → Bool
is_listed records files i = list_any (λ (file : ListedFile). is_number i (record_with records file.0)) files

-- no record has the path of this file
abbrev pub is_new : List Record → ListedFile → Bool
is_new records file = is_none (record_with records file.0)

-- a file of this size and stamp may be one that moved: it has bytes, and a stamp to know it by
abbrev pub may_move : Meta → Bool
may_move meta = nat_lt 0 meta.size && nat_lt 0 meta.stamp.nanos

-- the numbers of the vanished records of this size and stamp, in byte order of path
abbrev pub is_vanished : List Record → List ListedFile → Meta → ℕ → Bool
is_vanished records files meta i = not (is_listed records files i) && same_meta (record_of records i).meta meta

abbrev pub vanished : List Record → List ListedFile → Meta → List ℕ
vanished records files meta = filter (is_vanished records files meta) (range_with_len 0 (length records))

-- how many of these files are new, of this size and stamp
abbrev pub is_rival : List Record → Meta → ListedFile → Bool
is_rival records meta file = is_new records file && same_meta file.1 meta

abbrev pub rivals : List Record → List ListedFile → Meta → ℕ
rivals records files meta = count_by (is_rival records meta) files

-- the vanished record that a new file was: each takes the first, of its size and stamp, that those before it leave
abbrev pub source_of : List Record → List ListedFile → ℕ → Meta → Option ℕ
source_of records files k meta =
    if may_move meta then slice_get (vanished records files meta) (rivals records (take k files) meta) else None

-- with a record of its path a file is unchanged or changed; without one it is moved or new
abbrev pub fate_with : Bool → ℕ → Fate
fate_with same i = if same then Unchanged i else Changed i

abbrev pub fate_without : Option ℕ → Fate
fate_without None = New
fate_without (Some i) = Moved i

abbrev pub fate_by : List Record → Meta → Option ℕ → Option ℕ → Fate
fate_by records meta (Some i) source = fate_with (same_meta (record_of records i).meta meta) i
fate_by records meta None source = fate_without source

abbrev pub fate_of : List Record → List ListedFile → ℕ → Fate
fate_of records files k =
    let file = file_of files k in
    fate_by records file.1 (record_with records file.0) (source_of records files k file.1)

-- the kept files of a column, each with its fate
abbrev pub sorted_file : List Record → List ListedFile → ℕ → Sorted
sorted_file records files k = record { path = (file_of files k).0; meta = (file_of files k).1; fate = fate_of records files k }

abbrev pub sorted_files : List Record → List ListedFile → List Sorted
sorted_files records files = map (sorted_file records files) (range_with_len 0 (length files))

-- the record whose blocks a file keeps
abbrev pub origin : Fate → Option ℕ
origin (Unchanged i) = Some i
origin (Moved i) = Some i
origin (Changed i) = None
origin New = None

-- the record that a fate names is there
abbrev pub HasRecord : ℕ → Fate → Type 0
HasRecord count (Unchanged i) = i < count
HasRecord count (Changed i) = i < count
HasRecord count (Moved i) = i < count
HasRecord count New = Unit {0}

-- a file of a column of so many records: its record is there, and its stamp is one
pub record IsSound (count : ℕ) (file : Sorted) : Type 0 where
  pub rec : HasRecord count file.fate
  pub stamp : IsStamp file.meta.stamp

-- size and stamp of a file fit their fields
abbrev pub HasMeta : Sorted → Type 0
HasMeta file = IsMeta file.meta

-- a file that keeps the blocks of a record has its size and stamp
abbrev pub HasOriginMeta : List Record → Sorted → Type 0
HasOriginMeta records file = (i : ℕ) → origin file.fate ≡ Some i → (record_of records i).meta ≡ file.meta

-- two files do not keep the blocks of one record
abbrev pub ShareNone : Sorted → Sorted → Type 0
ShareNone a b = (i : ℕ) → origin a.fate ≡ Some i → origin b.fate ≡ Some i → ⊥

-- the blocks of each record are kept by one file at most, of the same size and stamp
pub record AreFates (records : List Record) (files : List Sorted) : Type 0 where
  pub same : All (HasOriginMeta records) files
  pub apart : AllPairs ShareNone files
