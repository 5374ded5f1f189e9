use Rattle.disk_model.proofs.UntouchedLemmas.{untouched_here}
use Rattle.parity_split.proofs.ahead.plan_piece.Goals as goal

pub returns-else-from-to : goal.returns-else-from-to
returns-else-from-to g c = untouched_here _
