use Rattle.std.proofs.Common.{arith}
use Rattle.disk_model.proofs.CountLemmas.{counts_write}
use Rattle.disk_model.proofs.writes.count_write.Goals as goal

pub returns : goal.returns
returns c = counts_write c.args.writes.now c.saturating_add.result (omega (arith, c.saturating_add.ensures)) (omega (arith, c.saturating_add.ensures))
