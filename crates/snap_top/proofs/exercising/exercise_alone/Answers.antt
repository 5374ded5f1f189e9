use Rattle.std.proofs.Common.{rules, ap, ◌∙◌, if◌then◌else◌, Bool, refl}
use Rattle.snap_report.specs.Answer.{done_answer}
use Rattle.snap_top.proofs.ExercisingLemmas.{exercise_printed, exercise_ran_out}
use Rattle.snap_top.proofs.exercising.exercise_alone.Goals as goal

pub returns-in-Ok : goal.returns-in-Ok
returns-in-Ok g c =
    let told = c.in-Ok.ensures.told in
    exercise_printed g.W.Sink.view c.args.n told.0 _ _ c.over-lines.result c.exercise.new.lines _ _ c.over-lines.ensures.state
    (let same = told.3.same_reference in let first = c.over-lines.ensures.same_reference in search rules)
    told.1 told.3 c.in-Ok.ensures.settled (c.findings.ensures ∙ ap (λ (b : Bool). if b then 0 else 1) told.2) (c.done.ensures ∙ ap (done_answer c.findings.result) c.failed.ensures)

pub returns-in-Err : goal.returns-in-Err
returns-in-Err g c =
    exercise_ran_out g.W.Sink.view c.args.n _ _ c.over-lines.result c.exercise.new.lines _ c.over-lines.ensures.state
    (let same = ap (λ l. l.out.ghost_name) c.in-Err.ensures.untold in let first = c.over-lines.ensures.same_reference in search rules)
    c.in-Err.ensures.untold refl
