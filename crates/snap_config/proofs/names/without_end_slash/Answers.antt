use Rattle.std.proofs.Common.{◌≡◌, ◌∷◌, [], ◌++◌, Some, None, sym, ◌∙◌, arith}
use Rattle.std.proofs.lemmas.Str.Pattern.{strip_suffix_char}
use Rattle.snap_config.proofs.NamesLemmas.{end-here, end-none}
use Rattle.snap_config.proofs.names.without_end_slash.Goals as goal

pub returns-in-Some : goal.returns-in-Some
returns-in-Some c =
    let front = c.in-Some.front.now in
    let spelled : c.args.name.now ≡ front ++ 47 ∷ [] = strip_suffix_char 47 c.args.name.now (Some c.in-Some.front) c.in-Some.ensures.cases (omega arith) in
    end-here c.args.name.now front spelled (sym c.eq.ensures ∙ c.if-eq.false)

pub returns-in-None : goal.returns-in-None
returns-in-None c = end-none c.args.name.now (strip_suffix_char 47 c.args.name.now None c.in-None.ensures.cases (omega arith))
