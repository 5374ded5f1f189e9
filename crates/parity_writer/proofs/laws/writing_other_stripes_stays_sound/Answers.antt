use Rattle.parity_writer.proofs.SoundLemmas.{others_written}
use Rattle.parity_writer.specs.Chosen.{IsChosen}
use Rattle.parity_writer.proofs.laws.writing_other_stripes_stays_sound.Goals as goal

pub returns : goal.returns
returns c = λ table old new snapshot is_changed choice sound writes other. others_written table old new snapshot is_changed sound (IsChosen choice) writes other
