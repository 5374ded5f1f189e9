-- The stripes of a plan are of the table, and synced.
use Rattle.std.proofs.Common.{◌≡◌, ℕ, ◌<◌, ◌≤◌, length, true, refl, arith}
use Rattle.std.specs.List.{All, range_with_len}
use Rattle.std.proofs.lemmas.Bool.{and_parts}
use Rattle.std.proofs.lemmas.List.Elements.{All-filter}
use Rattle.std.proofs.lemmas.List.Sums.{length-filter, count_by-le-length}
use Rattle.std.proofs.lemmas.List.FromFn.{length-range_with_len}
use Rattle.file_table.specs.Table.{TableValue, info_at, is_synced_mark}
use Rattle.file_table.specs.declared.info.Mark.{Mark}
use Rattle.file_table.specs.declared.info.Mark.TheVariants.{Pending, Synced}
use Rattle.array_setup.specs.declared.ways.ScrubWay.{ScrubWay}
use Rattle.snap_scrub.specs.Plan.{candidates, is_candidate, plan_of, takes}
use Rattle.snap_scrub.proofs.PlanLemmas.{all_pass, below_all}

pub planned_within : (table : TableValue) (way : ScrubWay) (now : ℕ) → All (λ stripe. stripe < length table.infos) (plan_of table way now)
planned_within table way now =
    All-filter (takes table way.plan way.older now) (λ stripe. stripe < length table.infos) (candidates table) (below_all (is_candidate table) (length table.infos))

synced_by : (mark : Mark) → is_synced_mark mark ≡ true → mark ≡ Synced
synced_by Synced is = refl
synced_by Pending is = absurd cc

pub planned_synced : (table : TableValue) (way : ScrubWay) (now : ℕ) → All (λ stripe. (info_at table.infos stripe).mark ≡ Synced) (plan_of table way now)
planned_synced table way now =
    All-filter (takes table way.plan way.older now) (λ stripe. (info_at table.infos stripe).mark ≡ Synced) (candidates table)
    (λ k d within. synced_by _ (and_parts _ _ (all_pass (is_candidate table) (range_with_len 0 (length table.infos)) k d within)).0)

pub planned_few : (table : TableValue) (way : ScrubWay) (now : ℕ) → length (plan_of table way now) ≤ length table.infos
planned_few table way now =
    omega (
      arith,
      length-filter (takes table way.plan way.older now) (candidates table),
      count_by-le-length (takes table way.plan way.older now) (candidates table),
      length-filter (is_candidate table) (range_with_len 0 (length table.infos)),
      count_by-le-length (is_candidate table) (range_with_len 0 (length table.infos)),
      length-range_with_len 0 (length table.infos),
    )
