use Rattle.std.proofs.Common.{rules, get_or, ap, ◌∙◌}
use Rattle.std.specs.Prelude.{filter}
use Rattle.std.proofs.lemmas.Fn.{filter_same}
use Rattle.std.proofs.lemmas.List.{get_or_default}
use Rattle.snap_scrub.specs.Plan.{candidates, takes}
use Rattle.snap_scrub.specs.Order.{takes_before}
use Rattle.snap_scrub.proofs.PlanLemmas.{filter_agrees}
use Rattle.snap_scrub.proofs.planning.plan.Goals as goal

pub returns : goal.returns
returns c =
    let table = c.args.table.now in
    let way = c.args.way.now in
    let taken = takes_before table way.plan c.in_ok-end.end in
    filter_same _ taken _ (λ x b f' k. search rules) _ _ c.retain.ensures.filtered
    ∙ ap (filter taken) c.in_ok-stripes.ensures
    ∙ filter_agrees taken (takes table way.plan way.older c.args.now) (candidates table)
    (λ k d within. c.in_ok-end.ensures (get_or (candidates table) k d) (k, within, get_or_default (candidates table) k (get_or (candidates table) k d) d within))
