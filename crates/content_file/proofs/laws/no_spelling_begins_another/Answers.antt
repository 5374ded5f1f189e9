use Rattle.content_file.proofs.OneSpelling.{no_front}
use Rattle.content_file.proofs.laws.no_spelling_begins_another.Goals as goal

pub returns : goal.returns
returns c = no_front
