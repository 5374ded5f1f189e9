use Rattle.std.proofs.Common.{◌≡◌, ◌<◌, Some, false, sym, subst, ap, Err, IfErr, arith}
use Rattle.content_file.specs.ReadingOn.{BodyValue}
use Rattle.content_file.specs.BodyState.{body_of}
use Rattle.content_file.specs.Body.{StopsAt}
use Rattle.content_file.proofs.Faults.{record_fault}
use Rattle.content_file.proofs.Steps.{handed, record_steps, record_stop}
use Rattle.content_file.proofs.body.Body.read_record.Goals as goal

pub returns-in_err-path-clause-err : goal.returns-in_err-path-clause-err
returns-in_err-path-clause-err c =
    subst (λ (v : BodyValue). IfErr c.from_residual.result (StopsAt (Some v) c.args.bytes.now)) c.self.view_is
    (handed (StopsAt (Some (body_of c.self.inside)) c.args.bytes.now) c.from_residual.result c.in_err-path.field-0.0 c.from_residual.ensures.1
    (record_stop (body_of c.self.inside) c.args.bytes.now c.in_err-path.field-0.0 c.self.invariant (subst (λ (v : BodyValue). v.blocks ≡ 0) (sym c.self.view_is) c.requires.no_block) (subst (λ (v : BodyValue). v.named ≡ false) (sym c.self.view_is) c.requires.no_count) (subst (λ (v : BodyValue). 0 < v.records) (sym c.self.view_is) c.requires.more) c.in_err-path.ensures.read))

pub invariant_of-self : goal.invariant_of-self
invariant_of-self c = (record_steps (body_of c.self.inside) c.args.bytes.now c.in_ok-path.path c.in_ok-path.meta c.in_ok-path.rest.now c.push_record.new.self c.blocks_for-blocks.result c.self.invariant (subst (λ (v : BodyValue). v.blocks ≡ 0) (sym c.self.view_is) c.requires.no_block) (subst (λ (v : BodyValue). v.named ≡ false) (sym c.self.view_is) c.requires.no_count) (subst (λ (v : BodyValue). 0 < v.records) (sym c.self.view_is) c.requires.more) c.in_ok-path.ensures.read c.blocks_for-blocks.ensures c.in-Ok.ensures.ok c.in-Ok.ensures.building).reading

pub returns-in-Ok-clause-ok : goal.returns-in-Ok-clause-ok
returns-in-Ok-clause-ok c =
    rw (← c.self.view_is)
    (record_steps (body_of c.self.inside) c.args.bytes.now c.in_ok-path.path c.in_ok-path.meta c.in_ok-path.rest.now c.push_record.new.self c.blocks_for-blocks.result c.self.invariant (subst (λ (v : BodyValue). v.blocks ≡ 0) (sym c.self.view_is) c.requires.no_block) (subst (λ (v : BodyValue). v.named ≡ false) (sym c.self.view_is) c.requires.no_count) (subst (λ (v : BodyValue). 0 < v.records) (sym c.self.view_is) c.requires.more) c.in_ok-path.ensures.read c.blocks_for-blocks.ensures c.in-Ok.ensures.ok c.in-Ok.ensures.building)

pub out_of_memory-requires : goal.out_of_memory-requires
out_of_memory-requires c =
    record_fault c.in-Err.fault (body_of c.self.inside) c.args.bytes.now c.in_ok-path.path c.in_ok-path.meta c.in_ok-path.rest.now c.self.invariant
    (subst (λ (v : BodyValue). v.blocks ≡ 0) (sym c.self.view_is) c.requires.no_block) (subst (λ (v : BodyValue). v.named ≡ false) (sym c.self.view_is) c.requires.no_count) (subst (λ (v : BodyValue). 0 < v.records) (sym c.self.view_is) c.requires.more)
    (λ i. omega (arith, c.type_inv.bytes i)) c.in_ok-path.ensures.read
    (λ e. c.in-Err.ensures.blocks (ap (λ f. Err f) e)) (λ e. c.in-Err.ensures.name (ap (λ f. Err f) e)) (λ e. c.in-Err.ensures.order (ap (λ f. Err f) e)) (λ e. c.in-Err.ensures.nested (ap (λ f. Err f) e)) (λ e. c.in-Err.ensures.full (ap (λ f. Err f) e)) c.in-Err.ensures.only
