use Rattle.std.proofs.Common.{◌<◌, Some, sym, subst, ap, Err, IfErr, arith}
use Rattle.content_file.specs.ReadingOn.{BodyValue}
use Rattle.content_file.specs.BodyState.{body_of}
use Rattle.content_file.specs.Body.{StopsAt}
use Rattle.content_file.proofs.Faults.{block_fault}
use Rattle.content_file.proofs.Steps.{handed, block_steps, block_stop}
use Rattle.content_file.proofs.body.Body.read_block.Goals as goal

pub returns-in_err-block-clause-err : goal.returns-in_err-block-clause-err
returns-in_err-block-clause-err c =
    subst (λ (v : BodyValue). IfErr c.from_residual.result (StopsAt (Some v) c.args.bytes.now)) c.self.view_is
    (handed (StopsAt (Some (body_of c.self.inside)) c.args.bytes.now) c.from_residual.result c.in_err-block.field-0.0 c.from_residual.ensures.1
    (block_stop (body_of c.self.inside) c.args.bytes.now c.in_err-block.field-0.0 c.self.invariant (subst (λ (v : BodyValue). 0 < v.blocks) (sym c.self.view_is) c.requires.more) c.in_err-block.ensures))

pub invariant_of-self : goal.invariant_of-self
invariant_of-self c = (block_steps (body_of c.self.inside) c.args.bytes.now c.in_ok-block.block c.in_ok-block.rest.now c.push_block.new.self c.self.invariant (subst (λ (v : BodyValue). 0 < v.blocks) (sym c.self.view_is) c.requires.more) c.in_ok-block.ensures c.in-Ok.ensures.ok c.in-Ok.ensures.building).reading

pub returns-in-Ok-clause-ok : goal.returns-in-Ok-clause-ok
returns-in-Ok-clause-ok c =
    rw (← c.self.view_is)
    (block_steps (body_of c.self.inside) c.args.bytes.now c.in_ok-block.block c.in_ok-block.rest.now c.push_block.new.self c.self.invariant (subst (λ (v : BodyValue). 0 < v.blocks) (sym c.self.view_is) c.requires.more) c.in_ok-block.ensures c.in-Ok.ensures.ok c.in-Ok.ensures.building)

pub out_of_memory-requires : goal.out_of_memory-requires
out_of_memory-requires c =
    block_fault c.in-Err.fault (body_of c.self.inside) c.args.bytes.now c.in_ok-block.block c.in_ok-block.rest.now c.self.invariant (subst (λ (v : BodyValue). 0 < v.blocks) (sym c.self.view_is) c.requires.more) (λ i. omega (arith, c.type_inv.bytes i)) c.in_ok-block.ensures
    (λ e. c.in-Err.ensures.blocks (ap (λ f. Err f) e)) (λ e. c.in-Err.ensures.range (ap (λ f. Err f) e)) (λ e. c.in-Err.ensures.repeated (ap (λ f. Err f) e)) c.in-Err.ensures.only
