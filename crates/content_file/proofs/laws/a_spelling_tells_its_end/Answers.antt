use Rattle.content_file.proofs.OneSpelling.{spelling_apart}
use Rattle.content_file.proofs.laws.a_spelling_tells_its_end.Goals as goal

pub returns : goal.returns
returns c = spelling_apart
