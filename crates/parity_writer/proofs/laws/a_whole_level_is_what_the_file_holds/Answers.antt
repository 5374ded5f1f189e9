use Rattle.parity_writer.proofs.WholeLevelLemmas.{level_has}
use Rattle.parity_writer.proofs.laws.a_whole_level_is_what_the_file_holds.Goals as goal

pub returns : goal.returns
returns c = level_has
