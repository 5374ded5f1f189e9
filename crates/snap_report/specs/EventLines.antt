-- The line of each event, over the columns of the table in hand.
use Rattle.std.specs.Prelude.{ℕ, ◌+◌, ◌==◌, List, [], ◌∷◌, ◌++◌, codes, if◌then◌else◌}
use Rattle.std.specs.Fmt.{decimal}
use Rattle.std.specs.List.{flat_map}
use Rattle.hex.specs.Hex.{encode_lower}
use Rattle.file_table.specs.Table.{Column, record_at}
use Rattle.snap_report.specs.Text.{meta_text, found_text, record_text}
use Rattle.snap_report.specs.declared.events.Event.{Event}
use Rattle.snap_report.specs.declared.events.Event.TheVariants.{Changed, ChangedBlock, Silent, Io, ParityIo, Parity, Unsynced, Lost, Blocked, Fixed, FixedParity, Restored, Renamed, NoStamp}

-- one text after another
abbrev pub joined : List (List ℕ) → List ℕ
joined texts = flat_map (λ text. text) texts

-- `parity`, and from level 1 on `2-parity` and so on
abbrev pub level_text : ℕ → List ℕ
level_text level = if level == 0 then codes "parity" else decimal (level + 1) ++ codes "-parity"

-- a word, and a file
abbrev pub file_event : List Column → List ℕ → ℕ → ℕ → List ℕ
file_event columns word disk rec = joined (word ∷ record_text columns disk rec ∷ codes "\n" ∷ [])

-- a word, and a block: its stripe, its file and its number in that file
abbrev pub block_event : List Column → List ℕ → ℕ → ℕ → ℕ → ℕ → List ℕ
block_event columns word stripe disk rec index =
    joined (word ∷ decimal stripe ∷ codes " " ∷ record_text columns disk rec ∷ codes " " ∷ decimal index ∷ codes "\n" ∷ [])

-- a word, and a block of a level
abbrev pub level_event : List ℕ → ℕ → ℕ → List ℕ
level_event word stripe level = joined (word ∷ decimal stripe ∷ codes " " ∷ level_text level ∷ codes "\n" ∷ [])

abbrev pub event_line : List Column → Event → List ℕ
event_line columns (Changed disk rec found) =
    joined (codes "changed " ∷ record_text columns disk rec ∷ codes " recorded " ∷ meta_text (record_at columns disk rec).meta
    ∷ found_text found ∷ codes "\n" ∷ [])
event_line columns (ChangedBlock stripe disk rec index found got) =
    joined (codes "changed-block " ∷ decimal stripe ∷ codes " " ∷ record_text columns disk rec ∷ codes " " ∷ decimal index
    ∷ codes " recorded " ∷ meta_text (record_at columns disk rec).meta ∷ found_text found ∷ codes " got " ∷ decimal got ∷ codes "\n" ∷ [])
event_line columns (Silent stripe disk rec index recorded found) =
    joined (codes "silent " ∷ decimal stripe ∷ codes " " ∷ record_text columns disk rec ∷ codes " " ∷ decimal index
    ∷ codes " recorded " ∷ encode_lower recorded.0 ∷ codes " found " ∷ encode_lower found.0 ∷ codes "\n" ∷ [])
event_line columns (Io stripe disk rec index) = block_event columns (codes "io ") stripe disk rec index
event_line columns (ParityIo stripe level) = level_event (codes "io-parity ") stripe level
event_line columns (Parity stripe level) = level_event (codes "wrong-parity ") stripe level
event_line columns (Unsynced stripe) = joined (codes "unsynced " ∷ decimal stripe ∷ codes "\n" ∷ [])
event_line columns (Lost stripe disk rec index) = block_event columns (codes "unrecoverable ") stripe disk rec index
event_line columns (Blocked disk rec) = file_event columns (codes "blocked ") disk rec
event_line columns (Fixed stripe disk rec index) = block_event columns (codes "fixed ") stripe disk rec index
event_line columns (FixedParity stripe level) = level_event (codes "fixed-parity ") stripe level
event_line columns (Restored disk rec) = file_event columns (codes "restored ") disk rec
event_line columns (Renamed disk rec) = file_event columns (codes "renamed ") disk rec
event_line columns (NoStamp disk rec) = file_event columns (codes "no-stamp ") disk rec

-- the lines of events
abbrev pub lines_of : List Column → List Event → List ℕ
lines_of columns events = flat_map (event_line columns) events
