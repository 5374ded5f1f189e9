use Rattle.std.proofs.Common.{arith}
use Rattle.content_file.specs.Giving.{Refuses}
use Rattle.content_file.specs.FirstFlaw.{read_head}
use Rattle.content_file.proofs.Steps.{handed}
use Rattle.content_file.proofs.Starts.{head_read, head_starts}
use Rattle.content_file.proofs.body.Body.start.Goals as goal

pub returns-in_err-head-clause-err : goal.returns-in_err-head-clause-err
returns-in_err-head-clause-err c =
    handed (λ refusal. Refuses refusal (read_head c.args.bytes.now)) c.from_residual.result c.in_err-head.field-0.0 c.from_residual.ensures.1 c.in_err-head.ensures

pub new-requires-clause-block_size : goal.new-requires-clause-block_size
new-requires-clause-block_size c = (head_read c.args.bytes.now c.in_ok-head.head c.in_ok-head.rest.now (λ i. omega (arith, c.type_inv.bytes i)) c.in_ok-head.ensures).shape.block_size

pub new-requires-clause-levels : goal.new-requires-clause-levels
new-requires-clause-levels c = (head_read c.args.bytes.now c.in_ok-head.head c.in_ok-head.rest.now (λ i. omega (arith, c.type_inv.bytes i)) c.in_ok-head.ensures).shape.levels

pub new-requires-clause-length : goal.new-requires-clause-length
new-requires-clause-length c = (head_read c.args.bytes.now c.in_ok-head.head c.in_ok-head.rest.now (λ i. omega (arith, c.type_inv.bytes i)) c.in_ok-head.ensures).short

pub invariant_of-result : goal.invariant_of-result
invariant_of-result c = (head_starts c.args.bytes.now c.in_ok-head.head c.in_ok-head.rest.now c.in_ok-builder.builder (λ i. omega (arith, c.type_inv.bytes i)) c.in_ok-head.ensures c.in_ok-builder.ensures.ok c.in_ok-builder.ensures.building).reading

pub returns-clause-ok : goal.returns-clause-ok
returns-clause-ok c =
    head_starts c.args.bytes.now c.in_ok-head.head c.in_ok-head.rest.now c.in_ok-builder.builder (λ i. omega (arith, c.type_inv.bytes i)) c.in_ok-head.ensures c.in_ok-builder.ensures.ok c.in_ok-builder.ensures.building
