use Rattle.std.proofs.Common.{◌++◌, encode_utf8, sym, ap, ◌∙◌}
use Rattle.array_setup.proofs.TextLemmas.{first_of}
use Rattle.array_setup.proofs.glob.first_of.Goals as goal

pub returns : goal.returns
returns c =
    let rest = ap (λ rest. encode_utf8 c.in_ok-first.first ++ rest) (sym c.as_str.ensures) in
    first_of c.args.text.now c.as_str.result.now c.in_ok-first.first c.utf8.text (sym c.chars-chars.ensures.rest ∙ c.in_ok-first.ensures.steps.0 ∙ rest)
