use Rattle.std.proofs.lemmas.Result.{err_from_is_err_and}
use Rattle.snap_config.proofs.OptionValueLemmas.{pattern_fault}
use Rattle.snap_config.proofs.option_values.read_patterns.Goals as goal

pub returns-in_err-pattern_of-clause-err : goal.returns-in_err-pattern_of-clause-err
returns-in_err-pattern_of-clause-err c =
    let p = err_from_is_err_and c.from_residual.result c.from_residual.ensures.1 in
    rw (p.1, p.2) (pattern_fault c.args.texts.now c.loop-text.text-index _ _ c.loop-text-test.true c.in_err-pattern_of.ensures.err)
