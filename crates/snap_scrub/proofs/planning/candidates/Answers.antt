use Rattle.std.proofs.Common.{sym, ap, ◌∙◌}
use Rattle.snap_scrub.specs.Plan.{is_candidate}
use Rattle.snap_scrub.proofs.PlanLemmas.{kept_more, left_out}
use Rattle.snap_scrub.proofs.planning.candidates.Goals as goal
use Rattle.snap_scrub.proofs.planning.candidates.Goals.{then-is_candidate+in_ok-push, else-is_candidate}

pub loop-stripe-preserved : goal.loop-stripe-preserved
loop-stripe-preserved c =
    elim c.if-is_candidate.branch [
      | then-is_candidate+in_ok-push w ↦
          ap (λ stripes. stripes.items) w.stripes-is
          ∙ w.in_ok-push.ensures.items
          ∙ kept_more (is_candidate c.args.table.now) c.loop-stripe.stripe c.loop-stripe.stripes.items c.loop-stripe.invariant (sym c.is_candidate.ensures ∙ w.if-is_candidate.true)
      | else-is_candidate w ↦
          ap (λ stripes. stripes.items) w.stripes-is
          ∙ left_out (is_candidate c.args.table.now) c.loop-stripe.stripe c.loop-stripe.stripes.items c.loop-stripe.invariant (sym c.is_candidate.ensures ∙ w.if-is_candidate.false)
    ]
