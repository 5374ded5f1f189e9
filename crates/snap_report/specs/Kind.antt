-- The kinds of events, and how many there are of each.
use Rattle.std.specs.Prelude.{◌≡◌, ℕ, ◌<◌, ◌-◌, ◌^◌, ◌==◌, ◌||◌, nat_lt, min, List, Bool, slice_index, count_by}
use Rattle.snap_report.specs.declared.events.Event.{Event}
use Rattle.snap_report.specs.declared.events.Event.TheVariants.{Changed, ChangedBlock, Silent, Io, ParityIo, Parity, Unsynced, Lost, Blocked, Fixed, FixedParity, Restored, Renamed, NoStamp}

-- the number of an event's kind
abbrev pub kind_of : Event → ℕ
kind_of (Changed disk rec found) = 0
kind_of (ChangedBlock stripe disk rec index found got) = 1
kind_of (Silent stripe disk rec index recorded found) = 2
kind_of (Io stripe disk rec index) = 3
kind_of (ParityIo stripe level) = 4
kind_of (Parity stripe level) = 5
kind_of (Unsynced stripe) = 6
kind_of (Lost stripe disk rec index) = 7
kind_of (Blocked disk rec) = 8
kind_of (Fixed stripe disk rec index) = 9
kind_of (FixedParity stripe level) = 10
kind_of (Restored disk rec) = 11
kind_of (Renamed disk rec) = 12
kind_of (NoStamp disk rec) = 13

-- the first nine kinds are findings, the others are news
abbrev pub is_finding : Event → Bool
is_finding event = nat_lt (kind_of event) 9

-- what a fix leaves: `unsynced`, `unrecoverable` and `blocked`
abbrev pub is_left : Event → Bool
is_left event = kind_of event == 6 || (kind_of event == 7) || (kind_of event == 8)

-- how many findings there are, and how many of them a fix leaves
abbrev pub findings_in : List Event → ℕ
findings_in events = count_by is_finding events

abbrev pub left_in : List Event → ℕ
left_in events = count_by is_left events

-- these are the counts of a list by kind, each kept at the greatest u64 once there
abbrev pub Counts : List ℕ → List Event → Type 0
Counts counts events = (kind : ℕ) → kind < 14 → slice_index counts kind ≡ min (count_by (λ event. kind_of event == kind) events) (2 ^ 64 - 1)
