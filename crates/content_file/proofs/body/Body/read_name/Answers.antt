use Rattle.std.proofs.Common.{◌≡◌, ◌<◌, Some, false, sym, subst, IfErr}
use Rattle.content_file.specs.ReadingOn.{BodyValue}
use Rattle.content_file.specs.BodyState.{body_of}
use Rattle.content_file.specs.Body.{StopsAt}
use Rattle.content_file.proofs.Steps.{handed, name_steps, name_stop}
use Rattle.content_file.proofs.body.Body.read_name.Goals as goal

pub returns-in_err-rest-clause-err : goal.returns-in_err-rest-clause-err
returns-in_err-rest-clause-err c =
    subst (λ (v : BodyValue). IfErr c.from_residual.result (StopsAt (Some v) c.args.bytes.now)) c.self.view_is
    (handed (StopsAt (Some (body_of c.self.inside)) c.args.bytes.now) c.from_residual.result c.in_err-rest.field-0.0 c.from_residual.ensures.1
    (name_stop (body_of c.self.inside) c.args.bytes.now c.in_err-rest.field-0.0 (subst (λ (v : BodyValue). v.blocks ≡ 0) (sym c.self.view_is) c.requires.no_block) (subst (λ (v : BodyValue). v.named ≡ false) (sym c.self.view_is) c.requires.no_count) (subst (λ (v : BodyValue). v.records ≡ 0) (sym c.self.view_is) c.requires.no_record) (subst (λ (v : BodyValue). 0 < v.columns) (sym c.self.view_is) c.requires.more) c.in_err-rest.ensures.err))

pub invariant_of-self-2 : goal.invariant_of-self-2
invariant_of-self-2 c = (name_steps (body_of c.self.inside) c.args.bytes.now c.in_ok-rest.rest.now c.name_of.new.builder c.self.invariant (subst (λ (v : BodyValue). v.blocks ≡ 0) (sym c.self.view_is) c.requires.no_block) (subst (λ (v : BodyValue). v.named ≡ false) (sym c.self.view_is) c.requires.no_count) (subst (λ (v : BodyValue). v.records ≡ 0) (sym c.self.view_is) c.requires.no_record) (subst (λ (v : BodyValue). 0 < v.columns) (sym c.self.view_is) c.requires.more) c.in_ok-rest.ensures.ok c.in_ok-rest.ensures.building).reading

pub returns-clause-ok : goal.returns-clause-ok
returns-clause-ok c =
    rw (← c.self.view_is)
    (name_steps (body_of c.self.inside) c.args.bytes.now c.in_ok-rest.rest.now c.name_of.new.builder c.self.invariant (subst (λ (v : BodyValue). v.blocks ≡ 0) (sym c.self.view_is) c.requires.no_block) (subst (λ (v : BodyValue). v.named ≡ false) (sym c.self.view_is) c.requires.no_count) (subst (λ (v : BodyValue). v.records ≡ 0) (sym c.self.view_is) c.requires.no_record) (subst (λ (v : BodyValue). 0 < v.columns) (sym c.self.view_is) c.requires.more) c.in_ok-rest.ensures.ok c.in_ok-rest.ensures.building)
