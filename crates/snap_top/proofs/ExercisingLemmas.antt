-- An exercise among the runs: its words ask for no command over an array, so a run that they ask for is refused only for want of memory.
use Rattle.std.proofs.Common.{◌≡◌, ◌⊎◌, inl, inr, ⊎_elim, ℕ, List, false, if◌then◌else◌, Ok, refl, sym, ap, ◌∙◌, subst}
use Rattle.disk_model.specs.Cause.{Rose}
use Rattle.disk_model.specs.Opener.{OpenerView}
use Rattle.disk_model.specs.Sink.{SinkView}
use Rattle.snap_config.specs.declared.options.Command.{Command}
use Rattle.snap_config.specs.declared.options.Command.TheVariants as commands
use Rattle.snap_config.specs.declared.options.Options.{Options}
use Rattle.snap_exercise.specs.Exercise.{Summary, exercise_text, is_well}
use Rattle.snap_exercise.specs.Exercised.{IsExercise}
use Rattle.snap_report.specs.Answer.{done_answer}
use Rattle.snap_report.specs.Report.{ReportView}
use Rattle.snap_report.specs.State.{Puts, state_of as told_of}
use Rattle.snap_report.specs.Telling.{Settled, Written, between}
use Rattle.snap_report.specs.declared.answer.Answer.{Answer}
use Rattle.snap_report.specs.declared.answer.Answer.TheVariants.{Broken}
use Rattle.snap_report.specs.declared.answer.RunFault.TheVariants.{Memory}
use Rattle.snap_report.specs.declared.pages.Lines.{Lines}
use Rattle.snap_report.specs.declared.events.Event.{Event}
use Rattle.snap_top.specs.Complete.{SmoothRunsAreDone}
use Rattle.snap_top.specs.End.{refusal_status, status_of, words_status}
use Rattle.snap_top.specs.Exercising.{AsksForExercise, Exercises}
use Rattle.snap_top.specs.Opening.{Refuses}
use Rattle.snap_top.specs.Asked.{asked_by, WorksOnArray}
use Rattle.snap_top.specs.Run.{Ran, RanWith, setup_of}
use Rattle.snap_top.specs.Entry.{Entry, entry_by, entry_seen, Exit, exit_by, exit_seen}
use Rattle.snap_top.specs.Step.{ChangesFiles}
use Rattle.snap_top.specs.declared.end.End.{End}
use Rattle.snap_top.specs.declared.end.End.TheVariants.{Exercised, Refused, Worked}
use Rattle.snap_top.specs.declared.end.Refusal.{Refusal}
use Rattle.snap_top.specs.declared.end.Refusal.TheVariants as refusals
use Rattle.snap_top.proofs.CompleteLemmas.{IsDoneOrMemory, exercise_is_done, ok_or_err, same_ok, smooth_is_done}
use Rattle.snap_top.proofs.LevelsLemmas.{by_said}
use Rattle.snap_top.proofs.SyncLemmas.{printed_lines}

-- the words that ask for a command over an array ask for no exercise
pub not_exercised : (texts : List (List ℕ)) (asked : Options) (n : ℕ) → asked_by texts ≡ Ok asked → WorksOnArray asked.command → AsksForExercise texts n → ⊥
not_exercised texts asked n read works asks =
    let same : asked ≡ asks.asked = same_ok (asked_by texts) asked asks.asked read asks.read in
    subst WorksOnArray (ap (λ (a : Options). a.command) same ∙ asks.command_is) works

-- a command that changes files works on an array
pub changes_on_array : (command : Command) → ChangesFiles command → WorksOnArray command
changes_on_array commands.List changes = absurd changes
changes_on_array commands.Status changes = absurd changes
changes_on_array commands.Dup changes = absurd changes
changes_on_array (commands.Sync way) changes = tt
changes_on_array (commands.Scrub way) changes = tt
changes_on_array (commands.Check selection) changes = absurd changes
changes_on_array (commands.Audit selection) changes = absurd changes
changes_on_array (commands.Fix selection) changes = tt
changes_on_array (commands.Exercise n) changes = absurd changes

-- each command does so or is an exercise
pub works_or_exercises : (command : Command) → WorksOnArray command ⊎ ((n : ℕ) × (command ≡ commands.Exercise n))
works_or_exercises commands.List = inl tt
works_or_exercises commands.Status = inl tt
works_or_exercises commands.Dup = inl tt
works_or_exercises (commands.Sync way) = inl tt
works_or_exercises (commands.Scrub way) = inl tt
works_or_exercises (commands.Check selection) = inl tt
works_or_exercises (commands.Audit selection) = inl tt
works_or_exercises (commands.Fix selection) = inl tt
works_or_exercises (commands.Exercise n) = inr (n, refl)

-- ---- what an exercise leaves, by the lines that it told

module _ {W : Type 0} (view : W → SinkView) (n : ℕ) where
  pub exercise_printed : (s : Summary) (out out_new : SinkView) (lines lines_new : Lines W) (counted : ℕ) (answer : Answer)
      → told_of view lines ≡ between false out → (told_of view lines_new).sink ≡ out_new → IsExercise n s → Puts view (exercise_text n s) lines lines_new → Settled (told_of view lines_new)
      → counted ≡ (if is_well s then 0 else 1) → answer ≡ done_answer counted lines_new.failed → Exercises n out out_new answer
  exercise_printed s out out_new lines lines_new counted answer start last exercised puts settled counted_is answer_is = inl (record {
    summary = s;
    exercised = exercised;
    prints = record {
      failed = lines_new.failed;
      told = printed_lines view (exercise_text n s) out out_new lines lines_new start last puts (λ first. settled);
      answer_is = answer_is ∙ ap (λ (k : ℕ). done_answer k lines_new.failed) counted_is;
    };
  })

  pub exercise_ran_out : (out out_new : SinkView) (lines lines_new : Lines W) (answer : Answer)
      → told_of view lines ≡ between false out → (told_of view lines_new).sink ≡ out_new → lines_new ≡ lines → answer ≡ Broken Memory → Exercises n out out_new answer
  exercise_ran_out out out_new lines lines_new answer start last untold answer_is = inr (record {
    answer_is = answer_is;
    out_is = sym last ∙ ap (λ (l : Lines W). (told_of view l).sink) untold ∙ ap (λ (w : Written). w.sink) start;
  })

-- ---- a run whose words ask for an exercise

refused_for_memory : (why : Refusal) (texts : List (List ℕ)) (old new : OpenerView) (n : ℕ) → Refuses texts old new why → AsksForExercise texts n → refusal_status why ≡ 4
refused_for_memory (refusals.Words fault) texts old new n refuses asks =
    ⊎_elim (λ memory. ap words_status memory) (λ said. absurd (ok_or_err (asked_by texts) asks.asked fault asks.read said)) refuses.0
refused_for_memory (refusals.Unread fault) texts old new n refuses asks = absurd (not_exercised texts refuses.asked n refuses.read refuses.array asks)
refused_for_memory (refusals.Config file fault) texts old new n refuses asks = absurd (not_exercised texts refuses.asked n refuses.read refuses.array asks)
refused_for_memory (refusals.NoDisk name) texts old new n refuses asks =
    let is = refuses.configured in
    absurd (not_exercised texts is.asked n is.read is.array asks)
refused_for_memory (refusals.Unopened fault) texts old new n refuses asks =
    let is = refuses.configured in
    absurd (not_exercised texts is.asked n is.read is.array asks)

exercise_ends : (before : Entry) (exit : Exit) (end : End) (told : List Event) (status n : ℕ) → status ≡ status_of end → Ran before exit end told
    → AsksForExercise before.texts n → ¬ (Rose before.out.faults exit.after.out.faults) → IsDoneOrMemory status
exercise_ends before exit (Refused why) told status n is ran asks unfailed =
    inr (is ∙ refused_for_memory why before.texts before.opener exit.opener n ran.refuses asks)
exercise_ends before exit (Worked setup ending) told status n is ran asks unfailed =
    let configured = ran.is_given.configured in
    absurd (not_exercised before.texts configured.asked n configured.read configured.array asks)
exercise_ends before exit (Exercised answer) told status n is ran asks unfailed =
    subst IsDoneOrMemory (sym is) (exercise_is_done ran.number before.out exit.after.out answer ran.exercises unfailed)

-- Of each run, by its levels. Of an exercise this needs no opener that tells what it holds.
pub smooth_runs_are_done : {R : Type 0} (standing : R → ReportView) (stands : R → List Event → Type 0) (before : Entry) (exit : Exit) (olds news : List R) (end : End) → RanWith standing stands before exit olds news end
    → (status : ℕ) → status ≡ status_of end → SmoothRunsAreDone (entry_seen before) (exit_seen before exit) status
smooth_runs_are_done standing stands before exit olds news end ran status is (inl smooth) =
    smooth_is_done (entry_seen before) (exit_seen before exit) end ran.told status is (by_said standing stands before exit olds news end ran smooth.tells) smooth
smooth_runs_are_done standing stands before exit olds news end ran status is (inr smooth) =
    exercise_ends (entry_by (setup_of end) before) (exit_by (setup_of end) exit) end ran.told status smooth.number is ran.ran smooth.asks smooth.out
