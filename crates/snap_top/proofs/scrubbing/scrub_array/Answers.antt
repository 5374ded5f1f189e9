use Rattle.std.proofs.Common.{rules, map, refl, sym, ap, ◌∙◌, subst}
use Rattle.snap_report.specs.Answer.{done_answer}
use Rattle.snap_report.specs.State.{state_of as told_of}
use Rattle.snap_top.specs.Task.{task_of}
use Rattle.snap_top.proofs.ScrubLemmas.{same_output, scrub_done, scrub_not_done}
use Rattle.snap_top.proofs.SyncLemmas.{with_answer}
use Rattle.snap_top.proofs.scrubbing.scrub_array.Goals as goal

pub returns-in-Ok : goal.returns-in-Ok
returns-in-Ok g c =
    with_answer _ _ (task_of c.args.job.now) _ _ _ _ _ _ _ _ _ (c.done.ensures ∙ ap (done_answer c.in-Ok.end.findings) c.failed.ensures) refl
    (scrub_done c.each_unread_level_is_told.ensures _ _ g.W.Sink.view c.args.way.now (task_of c.args.job.now) c.args.table c.requires.command _ _ _ _ _ _ c.over-lines.result c.scrub.new.lines _ _ c.over-lines.ensures.state
    (let same = c.in-Ok.ensures.done.course.puts.same_reference in let first = c.over-lines.ensures.same_reference in search rules) c.in-Ok.end c.in-Ok.ensures.done)

pub returns-in-Err : goal.returns-in-Err
returns-in-Err g c =
    let failed = c.in-Err.ensures.failed in
    let same = same_output g.W.Sink.view _ _ c.args.way.now (task_of c.args.job.now) c.args.table _ _ _ _ c.over-lines.result c.scrub.new.lines _ _ _ c.in-Err.fault (λ still. ap (λ l. l.out.ghost_name) still.2) failed in
    let first = c.over-lines.ensures.same_reference in
    with_answer _ _ (task_of c.args.job.now) _ _ _ _ _ _ _ _ _ c.from.ensures refl
    (scrub_not_done c.each_unread_level_is_told.ensures _ _ g.W.Sink.view c.args.way.now (task_of c.args.job.now) c.args.table c.requires.command _ _ _ _ _ _ c.over-lines.result c.scrub.new.lines _ _ c.over-lines.ensures.state (search rules) _ c.in-Err.fault
    (λ still. ap (map g.F.Folder.view) still.0)
    (λ still P was. subst (λ v. P (g.V.Vault.view v)) (sym still.1) was)
    (λ still. ap (λ l. told_of g.W.Sink.view l) still.2)
    (λ still. ap (λ r. r.items) still.3)
    failed)
