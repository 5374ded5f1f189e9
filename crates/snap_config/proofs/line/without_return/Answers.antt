use Rattle.std.proofs.Common.{◌≡◌, ◌∷◌, [], ◌++◌, Some, None, sym, ap, ◌∙◌, arith}
use Rattle.std.proofs.lemmas.Str.Pattern.{strip_suffix_char}
use Rattle.snap_config.specs.Line.{without_return}
use Rattle.snap_config.proofs.LineLemmas.{return-here, return-none}
use Rattle.snap_config.proofs.line.without_return.Goals as goal

pub returns-in-Some : goal.returns-in-Some
returns-in-Some c =
    let front = c.in-Some.front.now in
    let spelled : c.args.line.now ≡ front ++ 13 ∷ [] = strip_suffix_char 13 c.args.line.now (Some c.in-Some.front) c.in-Some.ensures.cases (omega arith) in
    sym (ap without_return spelled ∙ return-here front)

pub returns-in-None : goal.returns-in-None
returns-in-None c = return-none c.args.line.now (strip_suffix_char 13 c.args.line.now None c.in-None.ensures.cases (omega arith))
