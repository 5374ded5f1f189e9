use Rattle.std.proofs.Common.{rules, refl, sym, ap, ◌∙◌, subst}
use Rattle.std.proofs.lemmas.List.{length-map}
use Rattle.snap_report.specs.Answer.{done_answer}
use Rattle.snap_report.specs.State.{state_of as told_of}
use Rattle.snap_top.specs.Task.{task_of}
use Rattle.snap_top.proofs.CheckedLemmas.{begins_not_by, check_done, check_refused, checks_by, none_open}
use Rattle.snap_top.proofs.SyncLemmas.{with_answer}
use Rattle.snap_top.proofs.checking.check_array.Goals as goal

pub returns-in-Ok : goal.returns-in-Ok
returns-in-Ok g c =
    let checks = checks_by _ _ _ c.args.mode c.args.selection.now (task_of c.args.job.now) c.requires.command _ _ _ _ c.in-Ok.end c.in-Ok.ensures.repairs in
    with_answer _ _ (task_of c.args.job.now) _ _ _ _ _ _ _ _ _ (c.done.ensures ∙ ap (done_answer c.in-Ok.end.findings) c.failed.ensures) refl
    (check_done _ _ g.W.Sink.view c.args.mode c.args.selection.now (task_of c.args.job.now) c.args.table.now c.requires.command _ _ _ _ _ _ c.over-lines.result c.repair.new.lines _ _ c.over-lines.ensures.state
    (let same = checks.puts.same_reference in let first = c.over-lines.ensures.same_reference in search rules) c.in-Ok.end checks)

pub returns-in-Err : goal.returns-in-Err
returns-in-Err g c =
    let failed = begins_not_by _ _ _ c.args.mode c.args.selection.now (task_of c.args.job.now) c.requires.command _ _ _ _ _ c.in-Err.fault c.in-Err.ensures.failed in
    let same = ap (λ l. l.out.ghost_name) failed.1.2 in
    let first = c.over-lines.ensures.same_reference in
    with_answer _ _ (task_of c.args.job.now) _ _ _ _ _ _ _ _ _ c.from.ensures refl
    (check_refused _ _ g.W.Sink.view c.args.mode c.args.selection.now (task_of c.args.job.now) c.args.table.now c.requires.command _ _ _ _ _ _ c.over-lines.result c.repair.new.lines _ _ c.over-lines.ensures.state (search rules) _ c.in-Err.fault
    (length-map _ _ ∙ c.repair.auto.folders ∙ sym (length-map _ _))
    (λ still P was. subst (λ v. P (g.V.Vault.view v)) (sym still.0) was)
    (λ still. ap (λ l. told_of g.W.Sink.view l) still.2)
    (λ still. ap (λ r. r.items) still.3)
    failed.1 failed.0)

pub repair-requires-clause-open : goal.repair-requires-clause-open
repair-requires-clause-open g c κs within = none_open c.args.mode c.args.selection.now (task_of c.args.job.now) c.args.table.now _ c.requires.command
