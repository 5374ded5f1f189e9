use Rattle.parity_writer.proofs.ClosingLemmas.{fewer_synced_sound}
use Rattle.parity_writer.proofs.laws.a_table_with_fewer_synced_stripes_is_as_sound.Goals as goal

pub returns : goal.returns
returns c = fewer_synced_sound
