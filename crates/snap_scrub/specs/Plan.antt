-- Which stripes a scrub checks.
use Rattle.std.specs.Prelude.{ℕ, ◌+◌, ◌*◌, ◌/◌, ◌==◌, ◌&&◌, ◌||◌, nat_lt, nat_le, List, length, filter, count_by, Bool, true}
use Rattle.std.specs.List.{range_with_len}
use Rattle.file_table.specs.Cells.{holds_block}
use Rattle.file_table.specs.Table.{TableValue, info_at, is_synced_mark}
use Rattle.file_table.specs.declared.info.Info.{Info}
use Rattle.array_setup.specs.declared.ways.ScrubPlan.{ScrubPlan}
use Rattle.array_setup.specs.declared.ways.ScrubPlan.TheVariants.{Bad, New, Full, Percent}
use Rattle.array_setup.specs.declared.ways.ScrubWay.{ScrubWay}

-- the stripes that a scrub may check, ascending: the synced ones that hold a block
abbrev pub is_candidate : TableValue → ℕ → Bool
is_candidate table stripe = is_synced_mark (info_at table.infos stripe).mark && holds_block table.columns stripe

abbrev pub candidates : TableValue → List ℕ
candidates table = filter (is_candidate table) (range_with_len 0 (length table.infos))

-- one stripe comes before another in the order of last check and number
abbrev pub comes_before : List Info → ℕ → ℕ → Bool
comes_before infos one other =
    nat_lt (info_at infos one).last (info_at infos other).last
    || ((info_at infos one).last == (info_at infos other).last && nat_lt one other)

-- a stripe is among the first of some, so many of them, in that order: fewer come before it
abbrev pub is_among_first : List Info → ℕ → List ℕ → ℕ → Bool
is_among_first infos count stripes stripe = nat_lt (count_by (λ other. comes_before infos other stripe) stripes) count

-- the last check was so many days ago or more
abbrev pub is_old : ℕ → ℕ → Info → Bool
is_old days now info = nat_le (info.last + 86400 * days) now

-- those that a scrub may check, and that were checked so long ago
abbrev pub old_candidates : TableValue → ℕ → ℕ → List ℕ
old_candidates table days now = filter (λ stripe. is_old days now (info_at table.infos stripe)) (candidates table)

-- of so many stripes so many percent, rounded up
abbrev pub share_of : ℕ → ℕ → ℕ
share_of percent count = (count * percent + 99) / 100

-- A stripe is one of those that a percentage takes for their age: its last check is old enough, and it is among the first of these in the
-- order, as many as the percentage is of all that a scrub may check.
abbrev pub takes_oldest : TableValue → ℕ → ℕ → ℕ → ℕ → Bool
takes_oldest table percent days now stripe =
    is_old days now (info_at table.infos stripe)
    && is_among_first table.infos (share_of percent (length (candidates table))) (old_candidates table days now) stripe

-- what a scrub takes of those that it may check: the bad ones, those that no scrub has checked since their sync, all, or, of a percentage,
-- the bad ones and those of the longest ago
abbrev pub takes : TableValue → ScrubPlan → ℕ → ℕ → ℕ → Bool
takes table Bad days now stripe = (info_at table.infos stripe).bad
takes table New days now stripe = (info_at table.infos stripe).fresh
takes table Full days now stripe = true
takes table (Percent percent) days now stripe = (info_at table.infos stripe).bad || takes_oldest table percent days now stripe

-- the stripes that a scrub checks, ascending
abbrev pub plan_of : TableValue → ScrubWay → ℕ → List ℕ
plan_of table way now = filter (takes table way.plan way.older now) (candidates table)
