use Rattle.std.proofs.Common.{sym, ◌∙◌, ap}
use Rattle.disk_model.specs.Answer.{is_failure}
use Rattle.disk_model.specs.Machine.{Machine, after}
use Rattle.disk_memory.specs.Calls.{vault_call}
use Rattle.disk_memory.proofs.ReplayLemmas.{replay_more}
use Rattle.disk_memory.proofs.replay.Replay.go.Goals as goal

pub loop-made-preserved : goal.loop-made-preserved
loop-made-preserved c =
    c.in_ok-apply.ensures
    ∙ ap (after c.loop-made.self (vault_call c.made-item.result.call)) c.failed.ensures
    ∙ ap (λ (m : Machine). after m (vault_call c.made-item.result.call) (is_failure c.made-item.result.answer)) c.loop-made.invariant
    ∙ sym (replay_more c.args.self.now c.args.entries.now c.loop-made.made-index c.made-item.result c.loop-made-test.true c.made-item.is)
