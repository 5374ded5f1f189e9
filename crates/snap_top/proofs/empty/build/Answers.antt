use Rattle.std.proofs.Common.{ap, length, refl, ◌∙◌, arith}
use Rattle.array_setup.specs.Setup.{setup_value}
use Rattle.snap_top.proofs.EmptyLemmas.{push_memory, finish_memory, next_is_new, lacks_none, ends_at_none, some_columns}
use Rattle.snap_top.proofs.empty.build.Goals as goal

pub returns-in-Err-clause-memory : goal.returns-in-Err-clause-memory
returns-in-Err-clause-memory c =
    let columns = ap (λ b. b.columns) c.loop-disk.invariant in
    push_memory c.in-Err.fault _ refl c.in-Err.ensures.only
    (λ is. lacks_none _ _ columns (c.in-Err.ensures.blocks is))
    (λ is. (c.in-Err.ensures.name is).1
    (next_is_new (setup_value c.args.setup.now) c.requires _ _ c.disk-item.result _ _ c.as_slice-disk-items.ensures c.loop-disk-test.true c.disk-item.is columns c.in_ok-name.ensures))

pub returns-clause-memory : goal.returns-clause-memory
returns-clause-memory c =
    let columns = ap (λ b. b.columns) c.loop-disk.invariant in
    let all = ap length c.as_slice-disk-items.ensures in
    let no_stripes = ap (λ b. b.length) c.loop-disk.invariant ∙ ap (λ b. b.length) c.in_ok-builder.ensures.ok in
    finish_memory c.finish.result c.finish.ensures.only
    (λ is. some_columns _ _ _ columns (c.finish.ensures.name is) c.loop-disk-test.false (omega (arith, all, c.requires.some_disk)))
    (λ is. lacks_none _ _ columns (c.finish.ensures.blocks is).1)
    (λ is. omega (arith, no_stripes, (c.finish.ensures.state is).2))
    (λ is. (c.finish.ensures.length is).3 (ends_at_none c.loop-disk.builder _ columns no_stripes))
