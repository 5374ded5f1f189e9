use Rattle.snap_config.proofs.WordsLemmas.{answers_err, answers_ok}
use Rattle.snap_config.proofs.words.read_words.Goals as goal

pub returns-clause-ok : goal.returns-clause-ok
returns-clause-ok c = answers_ok _ _ c.read_words_among.ensures.answers

pub returns-clause-err : goal.returns-clause-err
returns-clause-err c = answers_err _ _ c.read_words_among.ensures.answers
