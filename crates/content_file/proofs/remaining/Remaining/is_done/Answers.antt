use Rattle.std.proofs.Common.{◌≡◌, true, false, length, ◌∙◌, ap, arith}
use Rattle.sha2.specs.Sha256.{sha256}
use Rattle.sha2.proofs.Facts256.{length-sha256}
use Rattle.content_file.specs.Spelling.{body}
use Rattle.content_file.proofs.EncodingLemmas.{some_left}
use Rattle.content_file.proofs.remaining.Remaining.is_done.Goals as goal

pub returns-in_default : goal.returns-in_default
returns-in_default c =
    let table = c.self.inside.table.now in
    let some = some_left table (sha256 (body table)) c.self.inside.place c.in_default.not-End in
    ((λ is. absurd (let clash : false ≡ true = is in cc)), λ none. absurd (let long = ap length (c.self.view_is ∙ none) in omega (arith, some, long, length-sha256 (body table))))
