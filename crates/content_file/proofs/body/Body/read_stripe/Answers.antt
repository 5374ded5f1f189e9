use Rattle.std.proofs.Common.{◌≡◌, ◌<◌, Some, true, false, sym, subst, ◌∙◌, ap, Err, IfErr, arith}
use Rattle.content_file.specs.ReadingOn.{BodyValue}
use Rattle.content_file.specs.BodyState.{body_of}
use Rattle.content_file.specs.Body.{StopsAt, IsPastColumns}
use Rattle.content_file.proofs.Faults.{info_fault}
use Rattle.content_file.proofs.Steps.{handed, stripe_steps, stripe_stop, length_stop, length_fits, length_differs}
use Rattle.content_file.proofs.body.Body.read_stripe.Goals as goal

pub returns-then-not-length_fits-clause-err : goal.returns-then-not-length_fits-clause-err
returns-then-not-length_fits-clause-err c =
    rw (← c.self.view_is)
    (length_stop (body_of c.self.inside) c.args.bytes.now (subst (λ (v : BodyValue). IsPastColumns v) (sym c.self.view_is) c.requires.past)
    (length_differs (body_of c.self.inside) c.self.invariant (λ fits. let e : true ≡ false = sym (c.length_fits.ensures.1 fits) ∙ c.if-not-length_fits.true in cc)))

pub returns-in_err-info-clause-err : goal.returns-in_err-info-clause-err
returns-in_err-info-clause-err c =
    subst (λ (v : BodyValue). IfErr c.from_residual.result (StopsAt (Some v) c.args.bytes.now)) c.self.view_is
    (handed (StopsAt (Some (body_of c.self.inside)) c.args.bytes.now) c.from_residual.result c.in_err-info.field-0.0 c.from_residual.ensures.1
    (stripe_stop (body_of c.self.inside) c.args.bytes.now c.in_err-info.field-0.0 (subst (λ (v : BodyValue). IsPastColumns v) (sym c.self.view_is) c.requires.past) (subst (λ (v : BodyValue). 0 < v.stripes) (sym c.self.view_is) c.requires.more) (length_fits (body_of c.self.inside) c.self.invariant (c.length_fits.ensures.0 c.if-not-length_fits.false)) c.in_err-info.ensures))

pub invariant_of-self : goal.invariant_of-self
invariant_of-self c = (stripe_steps (body_of c.self.inside) c.args.bytes.now c.in_ok-info.info c.in_ok-info.rest.now c.push_info.new.self c.self.invariant (subst (λ (v : BodyValue). IsPastColumns v) (sym c.self.view_is) c.requires.past) (subst (λ (v : BodyValue). 0 < v.stripes) (sym c.self.view_is) c.requires.more) (length_fits (body_of c.self.inside) c.self.invariant (c.length_fits.ensures.0 c.if-not-length_fits.false)) c.in_ok-info.ensures c.in-Ok.ensures.ok c.in-Ok.ensures.building).reading

pub returns-in-Ok-clause-ok : goal.returns-in-Ok-clause-ok
returns-in-Ok-clause-ok c =
    rw (← c.self.view_is)
    (stripe_steps (body_of c.self.inside) c.args.bytes.now c.in_ok-info.info c.in_ok-info.rest.now c.push_info.new.self c.self.invariant (subst (λ (v : BodyValue). IsPastColumns v) (sym c.self.view_is) c.requires.past) (subst (λ (v : BodyValue). 0 < v.stripes) (sym c.self.view_is) c.requires.more) (length_fits (body_of c.self.inside) c.self.invariant (c.length_fits.ensures.0 c.if-not-length_fits.false)) c.in_ok-info.ensures c.in-Ok.ensures.ok c.in-Ok.ensures.building)

pub out_of_memory-requires : goal.out_of_memory-requires
out_of_memory-requires c =
    info_fault c.in-Err.fault (body_of c.self.inside) c.args.bytes.now c.in_ok-info.info c.in_ok-info.rest.now c.self.invariant (subst (λ (v : BodyValue). IsPastColumns v) (sym c.self.view_is) c.requires.past) (subst (λ (v : BodyValue). 0 < v.stripes) (sym c.self.view_is) c.requires.more)
    (λ i. omega (arith, c.type_inv.bytes i)) c.in_ok-info.ensures
    (λ e. c.in-Err.ensures.blocks (ap (λ f. Err f) e)) (λ e. c.in-Err.ensures.state (ap (λ f. Err f) e)) (λ e. c.in-Err.ensures.length (ap (λ f. Err f) e)) (λ e. c.in-Err.ensures.hash (ap (λ f. Err f) e)) c.in-Err.ensures.only
