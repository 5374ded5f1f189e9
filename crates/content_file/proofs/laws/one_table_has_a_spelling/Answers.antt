use Rattle.std.proofs.Common.{◌≡◌, Some, sym, ◌∙◌}
use Rattle.content_file.specs.Spelling.{spelling}
use Rattle.content_file.proofs.OneSpelling.{one_spelled}
use Rattle.content_file.proofs.laws.one_table_has_a_spelling.Goals as goal

pub returns : goal.returns
returns c = λ a b held valid_a valid_b is_a is_b.
    let both : Some (spelling a) ≡ Some (spelling b) = sym is_a ∙ is_b in
    let same : spelling a ≡ spelling b = cc in
    one_spelled a b valid_a valid_b same
