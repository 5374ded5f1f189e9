use Rattle.std.proofs.Common.{◌∙◌, Err, ap, sym, inr, map, string_bytes}
use Rattle.std.proofs.lemmas.Result.{err_from_is_err_and}
use Rattle.clap.specs.Words.{found_of, rows_of}
use Rattle.snap_config.proofs.WordsLemmas.{Answers-along, known_answer, refused_answer, taken_answer, unknown_answer}
use Rattle.snap_config.specs.Words.{named}
use Rattle.snap_config.specs.declared.options.WordsFault.TheVariants.{Command}
use Rattle.snap_config.proofs.words.read_words_among.Goals as goal

pub returns-in_err-matches-clause-answers : goal.returns-in_err-matches-clause-answers
returns-in_err-matches-clause-answers c =
    let p = err_from_is_err_and c.from_residual.result c.from_residual.ensures.1 in
    rw (p.1, p.2) (refused_answer c.args.built.now (map string_bytes c.args.words.now) _ c.in_err-matches.ensures.refused)

pub returns-in-Some-clause-answers : goal.returns-in-Some-clause-answers
returns-in-Some-clause-answers c =
    let m = rows_of (found_of c.in_ok-matches.matches) in
    let known = known_answer c.args.built.now m c.in-Some.command
    (sym c.in-Some.is ∙ c.named.ensures.value ∙ ap (named c.args.built.now) c.command_text-word.ensures) in
    let taken = taken_answer c.args.built.now (map string_bytes c.args.words.now) m c.in_ok-matches.ensures.taken c.in_ok-matches.ensures.rows in
    Answers-along _ _ _ (known ∙ taken) c.options_of.ensures.answers

pub returns-clause-answers : goal.returns-clause-answers
returns-clause-answers c =
    let m = rows_of (found_of c.in_ok-matches.matches) in
    let unknown = unknown_answer c.args.built.now m
    (sym c.in-None.is ∙ c.named.ensures.value ∙ ap (named c.args.built.now) c.command_text-word.ensures) in
    let taken = taken_answer c.args.built.now (map string_bytes c.args.words.now) m c.in_ok-matches.ensures.taken c.in_ok-matches.ensures.rows in
    let word = c.in_ok-new-in-None.ensures ∙ c.command_text-word.ensures in
    inr (sym (unknown ∙ taken) ∙ ap (λ text. Err (Command text)) (sym word))
