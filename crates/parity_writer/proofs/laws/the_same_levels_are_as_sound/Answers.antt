use Rattle.parity_writer.proofs.SoundLemmas.{same_levels}
use Rattle.parity_writer.proofs.laws.the_same_levels_are_as_sound.Goals as goal

pub returns : goal.returns
returns c = λ table levels old new snapshot is_changed sound enough same. same_levels table old new snapshot is_changed sound levels enough same
