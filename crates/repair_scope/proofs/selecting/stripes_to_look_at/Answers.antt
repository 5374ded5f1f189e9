use Rattle.std.proofs.Common.{sym, ap, ◌∙◌}
use Rattle.repair_scope.specs.Plan.{seen, is_looked_at}
use Rattle.repair_scope.proofs.SelectLemmas.{kept_more, left_out}
use Rattle.repair_scope.proofs.selecting.stripes_to_look_at.Goals as goal
use Rattle.repair_scope.proofs.selecting.stripes_to_look_at.Goals.{then-is_looked_at+in_ok-push, else-is_looked_at}

pub loop-stripe-preserved : goal.loop-stripe-preserved
loop-stripe-preserved c =
    let plan = seen c.args.plan.now in
    elim c.if-is_looked_at.branch [
      | then-is_looked_at+in_ok-push w ↦
          ap (λ stripes. stripes.items) w.stripes-is
          ∙ w.in_ok-push.ensures.items
          ∙ kept_more (is_looked_at plan) c.loop-stripe.stripe c.loop-stripe.stripes.items c.loop-stripe.invariant (sym c.is_looked_at.ensures ∙ w.if-is_looked_at.true)
      | else-is_looked_at w ↦
          ap (λ stripes. stripes.items) w.stripes-is
          ∙ left_out (is_looked_at plan) c.loop-stripe.stripe c.loop-stripe.stripes.items c.loop-stripe.invariant (sym c.is_looked_at.ensures ∙ w.if-is_looked_at.false)
    ]
