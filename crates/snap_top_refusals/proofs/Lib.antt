mod ExercisedLemmas
mod RefusedLemmas
mod UnheardLemmas
