use Rattle.std.proofs.Common.{ap, not}
use Rattle.std.proofs.lemmas.Result.{err_from_is_err_and}
use Rattle.snap_config.proofs.OptionValueLemmas.{filter_fault, none_bad, number_fault, older_fault, plan_fault, readers_fault, save_fault}
use Rattle.snap_config.proofs.option_values.read_values.Goals as goal

pub returns-clause-good : goal.returns-clause-good
returns-clause-good c =
    none_bad _ _ (ap not c.in_ok-patterns.ensures.ok.good) c.in_ok-plan.ensures.ok.good c.in_ok-older.ensures.ok.good
    c.in_ok-save_every.ensures.ok.good c.in_ok-readers.ensures.ok.good c.in_ok-number.ensures.good

pub returns-in_err-patterns-clause-err : goal.returns-in_err-patterns-clause-err
returns-in_err-patterns-clause-err c =
    let p = err_from_is_err_and c.from_residual.result c.from_residual.ensures.1 in
    rw (p.1, p.2) (filter_fault c.args.command _ _ c.in_err-patterns.ensures.err)

pub returns-in_err-plan-clause-err : goal.returns-in_err-plan-clause-err
returns-in_err-plan-clause-err c =
    let p = err_from_is_err_and c.from_residual-in_err-plan.result c.from_residual-in_err-plan.ensures.1 in
    rw (p.1, p.2) (plan_fault c.args.command _ (ap not c.in_ok-patterns.ensures.ok.good) _ c.in_err-plan.ensures.err)

pub returns-in_err-older-clause-err : goal.returns-in_err-older-clause-err
returns-in_err-older-clause-err c =
    let p = err_from_is_err_and c.from_residual-in_err-older.result c.from_residual-in_err-older.ensures.1 in
    rw (p.1, p.2) (older_fault c.args.command _ (ap not c.in_ok-patterns.ensures.ok.good) c.in_ok-plan.ensures.ok.good
    _ c.in_err-older.ensures.err)

pub returns-in_err-save_every-clause-err : goal.returns-in_err-save_every-clause-err
returns-in_err-save_every-clause-err c =
    let p = err_from_is_err_and c.from_residual-in_err-save_every.result c.from_residual-in_err-save_every.ensures.1 in
    rw (p.1, p.2) (save_fault c.args.command _ (ap not c.in_ok-patterns.ensures.ok.good) c.in_ok-plan.ensures.ok.good
    c.in_ok-older.ensures.ok.good _ c.in_err-save_every.ensures.err)

pub returns-in_err-readers-clause-err : goal.returns-in_err-readers-clause-err
returns-in_err-readers-clause-err c =
    let p = err_from_is_err_and c.from_residual-in_err-readers.result c.from_residual-in_err-readers.ensures.1 in
    rw (p.1, p.2) (readers_fault c.args.command _ (ap not c.in_ok-patterns.ensures.ok.good) c.in_ok-plan.ensures.ok.good
    c.in_ok-older.ensures.ok.good c.in_ok-save_every.ensures.ok.good _ c.in_err-readers.ensures.err)

pub returns-in_err-number-clause-err : goal.returns-in_err-number-clause-err
returns-in_err-number-clause-err c =
    let p = err_from_is_err_and c.from_residual-in_err-number.result c.from_residual-in_err-number.ensures.1 in
    rw (p.1, p.2) (number_fault c.args.command _ (ap not c.in_ok-patterns.ensures.ok.good) c.in_ok-plan.ensures.ok.good
    c.in_ok-older.ensures.ok.good c.in_ok-save_every.ensures.ok.good c.in_ok-readers.ensures.ok.good _ c.in_err-number.ensures.err)
