use Rattle.parity_writer.proofs.laws.more_changes_are_as_sound.Goals as goal

pub returns : goal.returns
returns c = λ table files snapshot is_changed others sound fewer. record { was_closed = sound.was_closed; rows = sound.rows; sums = λ stripe level synced below unchanged. sound.sums stripe level synced below (fewer stripe level unchanged) }
