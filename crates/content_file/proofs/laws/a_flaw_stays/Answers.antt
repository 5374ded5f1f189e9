use Rattle.content_file.proofs.TakenContent.{bytes_fit}
use Rattle.content_file.proofs.FlawStays.{flaw_stays}
use Rattle.content_file.proofs.laws.a_flaw_stays.Goals as goal

pub returns : goal.returns
returns c = λ bytes more damage small. flaw_stays bytes more damage (bytes_fit bytes small)
