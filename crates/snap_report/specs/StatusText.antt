-- What `status` prints.
use Rattle.std.specs.Prelude.{ℕ, ◌==◌, ◌&&◌, not, min, List, [], ◌∷◌, length, map, codes, count_by, Bool, true, false, Option, None, Some, if◌then◌else◌}
use Rattle.std.specs.Fmt.{decimal}
use Rattle.std.specs.List.{flat_map, list_any, range_with_len}
use Rattle.file_table.specs.Table.{Column, TableValue, records_of, column_blocks, positions_of, info_at, is_synced_mark}
use Rattle.file_table.specs.Cells.{holds_block}
use Rattle.file_table.specs.declared.info.Info.{Info}
use Rattle.file_table.specs.declared.info.Mark.{Mark}
use Rattle.file_table.specs.declared.info.Mark.TheVariants.{Pending, Synced}
use Rattle.snap_report.specs.EventLines.{joined}
use Rattle.snap_report.specs.ListText.{bytes_in}

abbrev pub is_pending_mark : Mark → Bool
is_pending_mark Synced = false
is_pending_mark Pending = true

-- how many stripes are synced, pending, not scrubbed since their sync, and known to be bad
abbrev pub synced_in : List Info → ℕ
synced_in infos = count_by (λ (info : Info). is_synced_mark info.mark) infos

abbrev pub pending_in : List Info → ℕ
pending_in infos = count_by (λ (info : Info). is_pending_mark info.mark) infos

abbrev pub fresh_in : List Info → ℕ
fresh_in infos = count_by (λ (info : Info). info.fresh) infos

abbrev pub bad_in : List Info → ℕ
bad_in infos = count_by (λ (info : Info). info.bad) infos

-- the last check of a stripe, if it is synced and holds a block
abbrev pub check_at : TableValue → ℕ → Option ℕ
check_at table stripe =
    if is_synced_mark (info_at table.infos stripe).mark && holds_block table.columns stripe then Some (info_at table.infos stripe).last else None

-- the lesser of two numbers, and the least of many, as far as they are there
abbrev pub lesser : Option ℕ → Option ℕ → Option ℕ
lesser None b = b
lesser (Some a) None = Some a
lesser (Some a) (Some b) = Some (min a b)

abbrev pub least : List (Option ℕ) → Option ℕ
least [] = None
least (a ∷ rest) = lesser a (least rest)

abbrev pub stripes_of : TableValue → List ℕ
stripes_of table = range_with_len 0 (length table.infos)

-- the least last check of the synced stripes that hold a block
abbrev pub oldest : TableValue → Option ℕ
oldest table = least (map (check_at table) (stripes_of table))

abbrev pub number_or_none : Option ℕ → List ℕ
number_or_none None = codes "-"
number_or_none (Some n) = decimal n

-- a line of a word and a number
abbrev pub number_line : List ℕ → ℕ → List ℕ
number_line word n = joined (word ∷ decimal n ∷ codes "\n" ∷ [])

-- how much there is, and what is known of the stripes
abbrev pub counts_text : TableValue → List ℕ
counts_text table = joined (
    number_line (codes "files ") (length (records_of table.columns))
    ∷ number_line (codes "bytes ") (bytes_in (records_of table.columns))
    ∷ number_line (codes "stripes ") (length table.infos)
    ∷ number_line (codes "synced ") (synced_in table.infos)
    ∷ number_line (codes "pending ") (pending_in table.infos)
    ∷ number_line (codes "fresh ") (fresh_in table.infos)
    ∷ number_line (codes "bad ") (bad_in table.infos)
    ∷ [])

abbrev pub oldest_line : TableValue → List ℕ
oldest_line table = joined (codes "oldest " ∷ number_or_none (oldest table) ∷ codes "\n" ∷ [])

-- a position that is none of these
abbrev pub is_unused : List ℕ → ℕ → Bool
is_unused used position = not (list_any (λ other. position == other) used)

-- how many positions of an array of so many stripes a column has no block at
abbrev pub free_in : ℕ → Column → ℕ
free_in stripes column = count_by (is_unused (positions_of (column_blocks column))) (range_with_len 0 stripes)

-- a disk of an array of so many stripes
abbrev pub disk_line : ℕ → Column → List ℕ
disk_line stripes column = joined (codes "disk " ∷ column.name ∷ codes " files " ∷ decimal (length column.records)
    ∷ codes " blocks " ∷ decimal (length (column_blocks column)) ∷ codes " free " ∷ decimal (free_in stripes column) ∷ codes "\n" ∷ [])

abbrev pub disks_text : TableValue → List ℕ
disks_text table = flat_map (disk_line (length table.infos)) table.columns

-- a bad stripe has a line
abbrev pub bad_line : TableValue → ℕ → List ℕ
bad_line table stripe = if (info_at table.infos stripe).bad then number_line (codes "bad stripe ") stripe else []

abbrev pub bad_text : TableValue → List ℕ
bad_text table = joined (map (bad_line table) (stripes_of table))

abbrev pub status_text : TableValue → List ℕ
status_text table = joined (counts_text table ∷ oldest_line table ∷ disks_text table ∷ bad_text table ∷ [])
