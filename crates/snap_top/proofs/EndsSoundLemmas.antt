-- A sync that did not break off is sound at its end, by the one account of what its run did.
use Rattle.std.proofs.Common.{◌≡◌, ⊎_elim, ℕ, ◌^◌, ◌<◌, List, Bool, true, false, IsTrue, Option, sym, ap, subst}
use Rattle.file_table.specs.Table.{TableValue}
use Rattle.array_setup.specs.Setup.{SetupValue}
use Rattle.snap_config.specs.declared.options.Command.{Command}
use Rattle.snap_config.specs.declared.options.Command.TheVariants as commands
use Rattle.array_setup.specs.declared.ways.SyncWay.{SyncWay}
use Rattle.snap_report.specs.Answer.{status_of as answer_status}
use Rattle.snap_report.specs.declared.answer.Answer.{Answer}
use Rattle.snap_report.specs.declared.events.Event.{Event}
use Rattle.snap_sync.specs.Part.{SyncRun}
use Rattle.snap_top.specs.Does.{DoesCommand}
use Rattle.snap_top.specs.End.{ending_status}
use Rattle.snap_top.specs.Effect.{effect}
use Rattle.snap_top.specs.Fix.{FixRun}
use Rattle.snap_top.specs.Run.{IsAnswered, IsRun}
use Rattle.snap_top.specs.Entry.{Entry, Exit}
use Rattle.snap_top.specs.Scrub.{ScrubRun}
use Rattle.snap_top.specs.Syncing.{SyncEnds, SyncsBy}
use Rattle.snap_top.specs.Task.{Left}
use Rattle.snap_top.specs.Did.{Did, fixes, scrubs, syncs}
use Rattle.snap_top.specs.Views.{world_of}
use Rattle.snap_top.specs.declared.end.Ending.{Ending}
use Rattle.snap_top.specs.declared.end.Ending.TheVariants.{NotLoaded, NoTable, OtherArray, Answered}
use Rattle.snap_top.proofs.OfFixLemmas.{command_did}
use Rattle.snap_top.proofs.OfSyncLemmas.{KeepsItsStripes}
use Rattle.snap_top.proofs.SyncEndLemmas.{FindsWhatIsPending, HasEndedSync, done_by_did, ends_by_answer, run, sound_at_end, sound_run_is}
use Rattle.snap_top.proofs.SyncedLemmas.{MomentsAreSound, OneTable}

module _ (keeps : KeepsItsStripes) (one_table : OneTable) (moments : MomentsAreSound) (finds : FindsWhatIsPending) (before : Entry) (exit : Exit) (tells : IsTrue before.opener.tells) (tells_vault : IsTrue before.opener.vault.tells)
    (in_time : before.moment < 2 ^ 64) (status : ℕ) where
  abbrev Sound : Did → Type 0
  Sound did = (effect did).sound_at_end before exit status

  module _ (setup : SetupValue) (answer : Answer) (named : Option TableValue) (told : List Event) (ran : IsRun before exit setup (Answered answer named) told) (is : status ≡ answer_status answer) where
    abbrev left : Left
    left = record { answer = answer; named = named; counted = ran.goes.0; told = told }

    abbrev one : IsAnswered ran.task ran.given (world_of exit.after) left ran.did
    one = ran.goes.1

    sync_sound : (way : SyncWay) → ran.task.command ≡ commands.Sync way → (failed : Bool) (of : SyncRun) → ran.did ≡ syncs failed of → Sound ran.did
    sync_sound way command true of did_is = subst Sound (sym did_is) tt
    sync_sound way command false of did_is =
        let does : SyncsBy answer ran.task way one.table one.start (world_of exit.after) left ran.did
        = subst (λ (it : Command). DoesCommand it ran.task one.table one.start (world_of exit.after) left ran.did) command one.does in
        let ends : SyncEnds ran.task way one.table one.start (world_of exit.after) left ran.did
        = ends_by_answer answer ran.task way one.table one.start (world_of exit.after) left ran.did
        (done_by_did answer ran.task way one.table one.start (world_of exit.after) left ran.did does (ap (λ (did : Did). (effect did).has_ended) did_is)) does in
        let sync : HasEndedSync before exit status = record {
          setup = setup;
          answer = answer;
          named = named;
          told = told;
          ran = ran;
          left = left;
          one = one;
          way = way;
          command = command;
          status_is = is;
          ends = ends;
        } in
        let its : SyncRun = run keeps before exit tells tells_vault in_time status sync in
        let its_did : ran.did ≡ syncs false its = ends.course.did_is in
        subst Sound (sym its_did)
        (sound_at_end keeps before exit tells tells_vault in_time status sync one_table moments finds, sound_run_is keeps before exit tells tells_vault in_time status sync one_table moments finds)

    fix_sound : (failed : Bool) (of : FixRun) → ran.did ≡ fixes failed of → Sound ran.did
    fix_sound failed of did_is = subst Sound (sym did_is) tt

    scrub_sound : (failed : Bool) (of : ScrubRun) → ran.did ≡ scrubs failed of → Sound ran.did
    scrub_sound failed of did_is = subst Sound (sym did_is) tt

    answered_sound : Sound ran.did
    answered_sound =
        ⊎_elim
        (λ read. subst Sound (sym read) tt)
        (λ went. ⊎_elim
        (λ course_of. sync_sound course_of.way course_of.command_is course_of.failed _ course_of.course.did_is)
        (λ others. ⊎_elim
        (λ course_of. fix_sound course_of.failed _ course_of.course.did_is)
        (λ course_of. scrub_sound course_of.failed _ course_of.course.did_is)
        others)
        went)
        (command_did ran.task.command ran.task one.table one.start (world_of exit.after) left ran.did one.does)

  pub ends_sound : (setup : SetupValue) (ending : Ending) (told : List Event) (ran : IsRun before exit setup ending told) → status ≡ ending_status ending → Sound ran.did
  ends_sound setup (NotLoaded fault) told ran is = subst Sound (sym ran.goes.0.1) tt
  ends_sound setup NoTable told ran is = subst Sound (sym ran.goes.0.1) tt
  ends_sound setup (OtherArray difference content) told ran is = subst Sound (sym ran.goes.0.1) tt
  ends_sound setup (Answered answer named) told ran is = answered_sound setup answer named told ran is
