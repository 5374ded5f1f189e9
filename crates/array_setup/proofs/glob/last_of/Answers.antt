use Rattle.std.proofs.Common.{◌++◌, encode_utf8, length, sym, ap, ◌∙◌}
use Rattle.array_setup.proofs.TextLemmas.{last_of, no_chars}
use Rattle.array_setup.proofs.glob.last_of.Goals as goal

pub returns-in_err-last : goal.returns-in_err-last
returns-in_err-last c = rw c.from_residual.ensures (no_chars c.args.text.now (ap length (sym c.chars-chars.ensures.rest) ∙ c.in_err-last.ensures.steps.0))

pub returns : goal.returns
returns c =
    let before = ap (λ before. before ++ encode_utf8 c.in_ok-last.last) (sym c.as_str.ensures) in
    last_of c.args.text.now c.as_str.result.now c.in_ok-last.last c.utf8.text c.as_str.utf8 (sym c.chars-chars.ensures.rest ∙ c.in_ok-last.ensures.steps ∙ before)
