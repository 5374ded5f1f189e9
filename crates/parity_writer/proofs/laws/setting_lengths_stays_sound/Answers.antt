use Rattle.parity_writer.proofs.SoundLemmas.{below_kept}
use Rattle.parity_writer.proofs.laws.setting_lengths_stays_sound.Goals as goal

pub returns : goal.returns
returns c = λ table old new snapshot is_changed bytes sound keeps enough. below_kept table old new snapshot is_changed sound bytes keeps enough
