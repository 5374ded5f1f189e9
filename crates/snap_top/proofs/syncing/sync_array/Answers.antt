use Rattle.std.proofs.Common.{rules, refl, sym, ap, ◌∙◌, subst}
use Rattle.std.proofs.lemmas.List.{length-map}
use Rattle.snap_report.specs.Answer.{done_answer}
use Rattle.snap_report.specs.State.{state_of as told_of}
use Rattle.snap_top.specs.Task.{task_of}
use Rattle.snap_top.proofs.SyncLemmas.{ended_done, not_ended_done, same_output, with_answer}
use Rattle.snap_top.proofs.syncing.sync_array.Goals as goal

pub returns-in-Ok : goal.returns-in-Ok
returns-in-Ok g c =
    with_answer _ _ (task_of c.args.job.now) _ _ _ _ _ _ _ _ _ (c.done.ensures ∙ ap (done_answer c.in-Ok.end.findings) c.failed.ensures) refl
    (ended_done _ _ (task_of c.args.job.now) c.args.way.now c.args.table c.requires.command g.W.Sink.view _ _ _ _ _ _ c.over-lines.result c.sync.new.lines _ _ c.over-lines.ensures.state (let same = c.in-Ok.ensures.done.ends.course.tells.puts.same_reference in let first = c.over-lines.ensures.same_reference in search rules) c.in-Ok.end c.in-Ok.ensures.done)

pub returns-in-Err : goal.returns-in-Err
returns-in-Err g c =
    let same = same_output g.W.Sink.view _ _ (task_of c.args.job.now) c.args.way.now c.args.table _ _ _ _ c.over-lines.result c.sync.new.lines _ _ _ c.in-Err.fault (λ still. ap (λ l. l.out.ghost_name) still.1) c.in-Err.ensures.failed in
    let first = c.over-lines.ensures.same_reference in
    with_answer _ _ (task_of c.args.job.now) _ _ _ _ _ _ _ _ _ c.fault_done.ensures.answer c.fault_done.ensures.named
    (not_ended_done _ _ (task_of c.args.job.now) c.args.way.now c.args.table c.requires.command g.W.Sink.view _ _ _ _ _ _ c.over-lines.result c.sync.new.lines _ _ c.over-lines.ensures.state (search rules) _ c.in-Err.fault
    (length-map _ _ ∙ c.sync.auto.folders ∙ sym (length-map _ _))
    (λ still P was. subst (λ v. P (g.V.Vault.view v)) (sym still.0) was)
    (λ still. ap (λ l. told_of g.W.Sink.view l) still.1)
    (λ still. ap (λ r. r.items) still.2)
    c.in-Err.ensures.failed)
