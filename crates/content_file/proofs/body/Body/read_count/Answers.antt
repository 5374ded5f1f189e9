use Rattle.std.proofs.Common.{◌≡◌, Some, true, sym, subst, IfErr}
use Rattle.content_file.specs.ReadingOn.{BodyValue}
use Rattle.content_file.specs.BodyState.{body_of}
use Rattle.content_file.specs.Body.{StopsAt}
use Rattle.content_file.proofs.Steps.{handed, count_steps, count_stop}
use Rattle.content_file.proofs.body.Body.read_count.Goals as goal

pub returns-in_err-count-clause-err : goal.returns-in_err-count-clause-err
returns-in_err-count-clause-err c =
    subst (λ (v : BodyValue). IfErr c.from_residual.result (StopsAt (Some v) c.args.bytes.now)) c.self.view_is
    (handed (StopsAt (Some (body_of c.self.inside)) c.args.bytes.now) c.from_residual.result c.in_err-count.field-0.0 c.from_residual.ensures.1
    (count_stop (body_of c.self.inside) c.args.bytes.now c.in_err-count.field-0.0 (subst (λ (v : BodyValue). v.blocks ≡ 0) (sym c.self.view_is) c.requires.no_block) (subst (λ (v : BodyValue). v.named ≡ true) (sym c.self.view_is) c.requires.more) c.in_err-count.ensures))

pub invariant_of-self : goal.invariant_of-self
invariant_of-self c = (count_steps (body_of c.self.inside) c.args.bytes.now c.in_ok-count.count c.in_ok-count.rest.now c.self.invariant (subst (λ (v : BodyValue). v.blocks ≡ 0) (sym c.self.view_is) c.requires.no_block) (subst (λ (v : BodyValue). v.named ≡ true) (sym c.self.view_is) c.requires.more) c.in_ok-count.ensures).reading

pub returns-clause-ok : goal.returns-clause-ok
returns-clause-ok c =
    rw (← c.self.view_is)
    (count_steps (body_of c.self.inside) c.args.bytes.now c.in_ok-count.count c.in_ok-count.rest.now c.self.invariant (subst (λ (v : BodyValue). v.blocks ≡ 0) (sym c.self.view_is) c.requires.no_block) (subst (λ (v : BodyValue). v.named ≡ true) (sym c.self.view_is) c.requires.more) c.in_ok-count.ensures)
