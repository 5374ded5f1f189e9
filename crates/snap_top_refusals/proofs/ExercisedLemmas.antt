-- A run that was asked for an exercise and printed something made it.
use Rattle.std.proofs.Common.{◌≡◌, ◌≢◌, inr, ℕ, List, [], IsTrue, sym, ap, ◌∙◌, subst}
use Rattle.disk_model.specs.Folder.{FolderView}
use Rattle.disk_model.specs.Opener.{OpenerView}
use Rattle.disk_model.specs.Sink.{SinkView}
use Rattle.disk_model.specs.Vault.{VaultView}
use Rattle.snap_config.specs.declared.options.Command.TheVariants as commands
use Rattle.snap_config.specs.declared.options.Options.{Options}
use Rattle.snap_report.specs.declared.answer.Answer.{Answer}
use Rattle.snap_report.specs.declared.events.Event.{Event}
use Rattle.snap_top.specs.Complete.{IsSmoothExercise}
use Rattle.snap_top.specs.Exercising.{AsksForExercise}
use Rattle.snap_top.specs.Asked.{asked_by}
use Rattle.snap_top.specs.RunOf.{RunOf}
use Rattle.snap_top.specs.Run.{HasAccount, IsExercised, Ran}
use Rattle.snap_top.specs.Entry.{Entry, Exit}
use Rattle.snap_top.specs.Standing.{after_of, before_of}
use Rattle.snap_top.specs.declared.end.End.{End}
use Rattle.snap_top.specs.declared.end.End.TheVariants.{Exercised, Refused, Worked}
use Rattle.snap_top.proofs.CompleteLemmas.{same_ok}
use Rattle.snap_top.proofs.ExercisingLemmas.{not_exercised}
use Rattle.snap_top_histories.proofs.ResumedLemmas.{not_risen}
use Rattle.snap_top_refusals.specs.Exercised.{IsSmoothlyExercised, RunsAlone}

-- an exercise that a run made
record Made (before : Entry) (exit : Exit) : Type 0 where
  pub answer : Answer
  pub told : List Event
  pub exercised : IsExercised before exit answer told

by_end : (before : Entry) (exit : Exit) (end : End) (told : List Event) → Ran before exit end told → (n : ℕ) → AsksForExercise before.texts n → before.out.written ≡ [] → exit.after.out.written ≢ [] → Made before exit
by_end before exit (Refused why) told ran n asks begins some = absurd (some (ap (λ (s : SinkView). s.written) ran.out ∙ begins))
by_end before exit (Worked setup ending) told ran n asks begins some =
    absurd (not_exercised before.texts ran.is_given.configured.asked n ran.is_given.configured.read ran.is_given.configured.array asks)
by_end before exit (Exercised answer) told ran n asks begins some = record { answer = answer; told = told; exercised = ran }

-- the same words ask for one exercise
one_number : (texts : List (List ℕ)) (n other : ℕ) → AsksForExercise texts n → AsksForExercise texts other → other ≡ n
one_number texts n other asks asks_then =
    let same : asks_then.asked ≡ asks.asked = same_ok (asked_by texts) asks_then.asked asks.asked asks_then.read asks.read in
    let both : commands.Exercise other ≡ commands.Exercise n = sym asks_then.command_is ∙ ap (λ (a : Options). a.command) same ∙ asks.command_is in
    cc

module _ {O F V W : Type 0} (opener_view : O → OpenerView) (folder_view : F → FolderView) (vault_view : V → VaultView) (sink_view : W → SinkView) where
  abbrev begun : RunOf O F V W → Entry
  begun run = before_of opener_view folder_view vault_view sink_view run

  abbrev ended : RunOf O F V W → Exit
  ended run = after_of opener_view folder_view vault_view sink_view run

  pub smoothly_exercised : (texts : List (List ℕ)) (status : ℕ) (out : W) (n : ℕ) → RunsAlone opener_view folder_view vault_view sink_view texts status out → AsksForExercise texts n
      → (sink_view out).faults ≡ 0 → (sink_view out).written ≢ [] → IsSmoothlyExercised opener_view folder_view vault_view sink_view status
  smoothly_exercised texts status out n runs asks calm some =
      let run : RunOf O F V W = runs.run in
      let asks_here : AsksForExercise run.texts n = subst (λ (ts : List (List ℕ)). AsksForExercise ts n) (sym runs.texts_are) asks in
      let calm_here : (ended run).after.out.faults ≡ 0 = ap (λ (w : W). (sink_view w).faults) runs.out_is ∙ calm in
      let some_here : (ended run).after.out.written ≢ [] = λ none. some (sym (ap (λ (w : W). (sink_view w).written) runs.out_is) ∙ none) in
      let account : HasAccount (begun run) (ended run) run.status = runs.account runs.tells in
      let made : Made (begun run) (ended run) = by_end (begun run) (ended run) account.end account.told account.ran n asks_here runs.out_begins some_here in
      let smooth : IsSmoothExercise (begun run) (ended run) = record { number = n; asks = asks_here; out = λ rose. not_risen (begun run).out.faults (ended run).after.out.faults calm_here rose } in
      record {
        run = run;
        answer = made.answer;
        told = made.told;
        smooth = smooth;
        exercised = made.exercised;
        number_is = one_number run.texts n made.exercised.number asks_here made.exercised.asks;
        begins = runs.out_begins;
        printed_some = some_here;
        done = runs.complete (inr smooth);
        status_is = runs.status_is;
      }
