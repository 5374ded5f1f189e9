use Rattle.content_file.proofs.TakenContent.{bytes_fit, content_from_none}
use Rattle.content_file.proofs.ReadContent.{none_from_content}
use Rattle.content_file.proofs.laws.only_content_has_no_flaw.Goals as goal

pub returns : goal.returns
returns c = λ bytes small. (content_from_none bytes (bytes_fit bytes small), none_from_content bytes)
