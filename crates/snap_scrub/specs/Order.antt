-- The order of last check and number as one number.
use Rattle.std.specs.Prelude.{◌≡◌, ℕ, ◌+◌, ◌-◌, ◌*◌, ◌^◌, ◌||◌, nat_lt, List, Bool, true}
use Rattle.std.specs.List.{Contains}
use Rattle.file_table.specs.Table.{TableValue, info_at}
use Rattle.file_table.specs.declared.info.Info.{Info}
use Rattle.array_setup.specs.declared.ways.ScrubPlan.{ScrubPlan}
use Rattle.array_setup.specs.declared.ways.ScrubPlan.TheVariants.{Bad, New, Full, Percent}
use Rattle.array_setup.specs.declared.ways.ScrubWay.{ScrubWay}
use Rattle.snap_scrub.specs.Plan.{candidates, takes}

-- the place of a stripe
abbrev pub order_in : List Info → ℕ → ℕ
order_in infos stripe = (info_at infos stripe).last * 2 ^ 32 + stripe

-- the first place of a stripe that was not checked so many days ago
abbrev pub recent_in : ℕ → ℕ → ℕ
recent_in days now = ((now + 1) - 86400 * days) * 2 ^ 32

-- what is taken, where a percentage takes the bad ones and those before a place
abbrev pub takes_before : TableValue → ScrubPlan → ℕ → ℕ → Bool
takes_before table Bad end stripe = (info_at table.infos stripe).bad
takes_before table New end stripe = (info_at table.infos stripe).fresh
takes_before table Full end stripe = true
takes_before table (Percent percent) end stripe = (info_at table.infos stripe).bad || nat_lt (order_in table.infos stripe) end

-- those before a place are just those that are taken for their age, if a percentage is asked for
abbrev pub EndsOldest : TableValue → ScrubWay → ℕ → ℕ → Type 0
EndsOldest table way now end = (stripe : ℕ) → Contains (candidates table) stripe → takes_before table way.plan end stripe ≡ takes table way.plan way.older now stripe
