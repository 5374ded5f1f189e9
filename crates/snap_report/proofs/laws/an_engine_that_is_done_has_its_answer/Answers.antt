use Rattle.std.proofs.Common.{◌≡◌, ◌==◌, ℕ, Bool, true, false, IsTrue, List, arith, refl}
use Rattle.std.proofs.lemmas.Bool.Decides.{Decides-eqb}
use Rattle.disk_model.specs.Cause.{Rose}
use Rattle.snap_report.specs.declared.events.Event.{Event}
use Rattle.snap_report.specs.Answer.{done_answer, Outside, IsCaused}
use Rattle.snap_report.proofs.laws.an_engine_that_is_done_has_its_answer.Goals as goal

by_count : (counted : ℕ) (none : Bool) → (counted == 0) ≡ none → (told : List Event) (old new : Outside) → IsCaused (done_answer counted false) counted told old new
by_count counted true is told old new = rw is ((Decides-eqb counted 0).0 is)
by_count counted false is told old new = rw is (let some : counted ≡ 0 → false ≡ true = λ none. rw (← is) ((Decides-eqb counted 0).1 none) in grind (arith, some))

by_output : (counted : ℕ) (output_failed : Bool) (told : List Event) (old new : Outside) → (IsTrue output_failed → Rose old.output_faults new.output_faults) → IsCaused (done_answer counted output_failed) counted told old new
by_output counted true told old new cause = cause refl
by_output counted false told old new cause = by_count counted (counted == 0) refl told old new

pub returns-clause-caused : goal.returns-clause-caused
returns-clause-caused c = by_output
