-- What an exercise leaves.
use Rattle.std.specs.Prelude.{◌≡◌, ◌⊎◌, ℕ, List, Ok, if◌then◌else◌}
use Rattle.disk_model.specs.Sink.{SinkView}
use Rattle.snap_config.specs.declared.options.Command.TheVariants as commands
use Rattle.snap_config.specs.declared.options.Options.{Options}
use Rattle.snap_exercise.specs.Exercise.{Summary, exercise_text, is_well}
use Rattle.snap_exercise.specs.Exercised.{IsExercise}
use Rattle.snap_report.specs.declared.answer.Answer.{Answer}
use Rattle.snap_report.specs.declared.answer.Answer.TheVariants.{Broken}
use Rattle.snap_report.specs.declared.answer.RunFault.TheVariants.{Memory}
use Rattle.snap_top.specs.Asked.{asked_by}
use Rattle.snap_top.specs.Task.{Prints}

-- memory ran out, and nothing was printed
pub record RanOut (out out_new : SinkView) (answer : Answer) : Type 0 where
  pub answer_is : answer ≡ Broken Memory
  pub out_is : out_new ≡ out

-- an exercise of this number was made, and its text was printed, with the status 1 where all is not well
pub record PrintsExercise (n : ℕ) (out out_new : SinkView) (answer : Answer) : Type 0 where
  pub summary : Summary
  pub exercised : IsExercise n summary
  pub prints : Prints (exercise_text n summary) (if is_well summary then 0 else 1) out out_new answer

-- so it is, or memory ran out
abbrev pub Exercises : ℕ → SinkView → SinkView → Answer → Type 0
Exercises n out out_new answer = PrintsExercise n out out_new answer ⊎ RanOut out out_new answer

-- the words ask for the exercise of this number
pub record AsksForExercise (texts : List (List ℕ)) (n : ℕ) : Type 0 where
  pub asked : Options
  pub read : asked_by texts ≡ Ok asked
  pub command_is : asked.command ≡ commands.Exercise n
