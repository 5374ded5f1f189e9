use Rattle.std.proofs.Common.{ℕ, List, Bor, arith}
use Rattle.snap_exercise.proofs.FirstTableLemmas.{table_made}
use Rattle.snap_exercise.proofs.array.build.Goals as goal

pub returns : goal.returns
returns c =
    table_made (λ (name : Bor (List ℕ)). name.now) c.args.names.now c.loop-name.name-index c.in_ok-builder.builder c.loop-name.builder c.finish.result (omega arith) c.in_ok-builder.ensures.ok
    c.loop-name.invariant c.finish.ensures.ok
