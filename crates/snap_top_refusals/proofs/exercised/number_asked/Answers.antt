use Rattle.snap_top_refusals.proofs.exercised.number_asked.Goals as goal

pub returns-in-Exercise : goal.returns-in-Exercise
returns-in-Exercise c = record { asked = c.in-Ok.asked; read = c.in-Ok.ensures.answers; command_is = c.in-Exercise.is }
