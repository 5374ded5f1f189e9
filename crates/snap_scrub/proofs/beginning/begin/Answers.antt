use Rattle.std.proofs.Common.{rules, ◌<◌, length, sym, subst, List, ℕ}
use Rattle.std.specs.List.{All}
use Rattle.snap_scrub.proofs.PlannedLemmas.{planned_within}
use Rattle.snap_scrub.proofs.beginning.begin.Goals as goal

pub returns-clause-work : goal.returns-clause-work
returns-clause-work c = record {
  within = subst (λ (stripes : List ℕ). All (λ stripe. stripe < length c.args.table.now.infos) stripes) (sym c.in_ok-stripes.ensures) (planned_within c.args.table.now c.args.way.now c.args.now);
  verdicts = search rules;
  room = c.in_ok-room.ensures.room;
}
