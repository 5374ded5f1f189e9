use Rattle.parity_writer.proofs.WholeLevelLemmas.{none_failed}
use Rattle.parity_writer.proofs.laws.no_level_is_unread_without_a_fault.Goals as goal

pub returns : goal.returns
returns c = none_failed
