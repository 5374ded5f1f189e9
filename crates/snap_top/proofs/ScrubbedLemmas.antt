-- A scrub that went to its end: its table, what it printed, and its status.
use Rattle.std.proofs.Common.{◌≡◌, ◌≢◌, ◌↔◌, ⊎_elim, ℕ, ◌^◌, ◌<◌, ◌≤◌, List, [], ◌∷◌, ◌++◌, length, true, false, Option, sum_by, refl, sym, ap, ◌∙◌, subst, arith}
use Rattle.content_file.specs.Save.{HasSaved}
use Rattle.content_file.specs.Spelling.{spelling}
use Rattle.disk_model.specs.Cause.{RoseBy}
use Rattle.disk_model.specs.Files.{Files}
use Rattle.disk_model.specs.Vault.{Holds, copies_of}
use Rattle.file_table.specs.Table.{TableValue}
use Rattle.array_setup.specs.Setup.{SetupValue}
use Rattle.snap_config.specs.declared.options.Command.{Command}
use Rattle.snap_config.specs.declared.options.Command.TheVariants as commands
use Rattle.snap_config.specs.declared.options.Options.{Options}
use Rattle.array_setup.specs.declared.ways.ScrubWay.{ScrubWay}
use Rattle.snap_report.specs.Answer.{status_of as answer_status}
use Rattle.snap_report.specs.EndLines.{scrub_text}
use Rattle.snap_report.specs.EventLines.{lines_of}
use Rattle.snap_report.specs.Telling.{Tells, between}
use Rattle.snap_report.specs.declared.answer.Answer.{Answer}
use Rattle.snap_report.specs.declared.answer.Answer.TheVariants as answers
use Rattle.snap_report.specs.declared.answer.RunFault.TheVariants as runs
use Rattle.snap_report.specs.declared.events.Event.{Event}
use Rattle.snap_scrub.specs.Marks.{at_most}
use Rattle.snap_scrub.specs.Plan.{plan_of}
use Rattle.snap_scrub.specs.Reading.{cells_of, unread_levels}
use Rattle.snap_sync.specs.Part.{AllTell, NoneRose, readings_by, trees_of}
use Rattle.snap_top.specs.Does.{DoesCommand}
use Rattle.snap_top.specs.End.{status_of}
use Rattle.snap_top.specs.Effect.{effect}
use Rattle.snap_top.specs.Output.{IsEndStatus}
use Rattle.snap_top.specs.Began.{IsScrubOf}
use Rattle.snap_top.specs.Stands.{TellsVault}
use Rattle.snap_top.specs.Asked.{asked_by, WorksOnArray}
use Rattle.snap_top.specs.Run.{IsAnswered, IsRun, Ran}
use Rattle.snap_top.specs.Entry.{Entry, Exit}
use Rattle.snap_top.specs.Scrub.{MayStandMarked, ScrubRun, marked_table}
use Rattle.snap_top.specs.Scrubbed.{EndsScrubbed, events_scrubbed}
use Rattle.snap_top.specs.AsAsked.{ScrubsEnd}
use Rattle.snap_top.specs.Scrubbing.{ScrubEnds, ScrubsBy, scrub_of}
use Rattle.snap_top.specs.Task.{Left, Task}
use Rattle.snap_top.specs.Did.{Did}
use Rattle.snap_top.specs.Views.{World, world_of}
use Rattle.snap_top.specs.declared.end.End.{End}
use Rattle.snap_top.specs.declared.end.Ending.TheVariants.{Answered}
use Rattle.snap_top.proofs.CompleteLemmas.{same_ok}
use Rattle.snap_top.proofs.EndedLemmas.{IsDoneAnswer, done_status, goes_to_its_end, only_read, output_rose, well_as}
use Rattle.snap_top.proofs.OfScrubLemmas.{HasScrubCourse, scrub_is}
use Rattle.snap_top.proofs.OfSyncLemmas.{start_out as out_held}
use Rattle.snap_top.proofs.PartLemmas.{holds_on}
use Rattle.snap_top.proofs.RestoringLemmas.{none_left, rose_from}
use Rattle.snap_top.proofs.ScrubUnread.{unread_counted}
use Rattle.snap_top.proofs.ScrubGiven.{stripes_given}

-- a scrub that did not break off has an answer of an engine that is done
pub done_by_did : (answer : Answer) (way : ScrubWay) (task : Task) (table : TableValue) (before after : World) (left : Left) (did : Did) → ScrubsBy answer way task table before after left did → (effect did).has_ended ≡ true → IsDoneAnswer answer
done_by_did answers.Clean way task table before after left did does ended = tt
done_by_did answers.Found way task table before after left did does ended = tt
done_by_did answers.OutputFailed way task table before after left did does ended = tt
done_by_did (answers.Zeroed disk rec) way task table before after left did does ended = absurd does
done_by_did (answers.Emptied disk) way task table before after left did does ended = absurd does
done_by_did (answers.Full blocks files) way task table before after left did does ended = absurd does
done_by_did (answers.Broken (runs.Folder disk)) way task table before after left did does ended = absurd does
done_by_did (answers.Broken runs.Vault) way task table before after left did does ended = absurd (let clash : false ≡ true = ap (λ (did : Did). (effect did).has_ended) (sym does.course.did_is) ∙ ended in cc)
done_by_did (answers.Broken runs.Memory) way task table before after left did does ended = absurd (only_read did does.did_is ended)

-- nothing counts exactly where there is nothing
none_found : (events : List Event) → (length events ≡ 0) ↔ (events ≡ [])
none_found [] = (λ none. refl, λ none. refl)
none_found (event ∷ events) = (λ none. absurd (omega (arith, none)), λ none. ap length none)

-- ---- a scrub that went to its end

module _ (before : Entry) (exit : Exit) (tells : TellsVault before) (in_time : before.moment < 2 ^ 64) where
  module _ (setup : SetupValue) (answer : Answer) (named : Option TableValue) (told : List Event) (ran : IsRun before exit setup (Answered answer named) told) (left : Left)
      (one : IsAnswered ran.task ran.given (world_of exit.after) left ran.did) (way : ScrubWay) (command : ran.task.command ≡ commands.Scrub way) (status : ℕ) (status_is : status ≡ answer_status left.answer)
      (ends : ScrubEnds way ran.task one.table one.start (world_of exit.after) left ran.did) where
    abbrev run : ScrubRun
    run = scrub_of way ran.task one.table one.start (world_of exit.after) ends.course.readings

    abbrev old : Files
    old = before.opener.vault.files

    abbrev all : List Event
    all = events_scrubbed run

    abbrev course_of : HasScrubCourse ran.task.command ran.task one.table one.start (world_of exit.after) left ran.did
    course_of = record { way = way; command_is = command; failed = false; course = ends.course }

    is_scrub : IsScrubOf before exit run
    is_scrub = scrub_is before exit tells.tells tells.tells_vault setup (Answered answer named) told ran left one in_time course_of

    given : AllTell run.folders → NoneRose run.folders exit.after.folders → cells_of run.readings ≡ readings_by run.loaded (trees_of run.folders) (plan_of run.loaded run.way run.now)
    given all_tell none =
        stripes_given run.loaded (cells_of run.readings) run.folders run.ended ends.course.cells one.columns all_tell none
        ∙ ap (readings_by run.loaded (trees_of run.folders)) ends.course.stripes

    unread : RoseBy (sum_by unread_levels run.readings) before.opener.vault.faults exit.after.vault.faults
    unread =
        let since = ends.course.vault.unread in
        let later = ends.course.vault.ran.later in
        rose_from (sum_by unread_levels run.readings) before.opener.vault.faults ran.given.vault.faults one.start.vault.faults exit.after.vault.faults
        ran.is_given.state.faults one.reads.vault.calls.goes_on.later (rose_then _ _ _ _ since later)
      where
        rose_then : (n a b c : ℕ) → RoseBy n a b → b ≤ c → RoseBy n a c
        rose_then n a b c since later = omega (arith, since, later)

    moment : MayStandMarked run old exit.after.vault.files
    moment = subst (λ (did : Did). (effect did).may_stand old exit.after.vault.files) ends.course.did_is ((ran.changes tells.tells).reads tells.tells_vault)

    saved : run.readings ≢ [] → Holds (HasSaved (copies_of before.opener.vault) (spelling (marked_table run))) exit.after.vault
    saved some = holds_on (λ (files : Files). (effect ran.did).stands_after old files) (HasSaved (copies_of before.opener.vault) (spelling (marked_table run))) exit.after.vault
        (λ files stands. subst (λ (n : ℕ). HasSaved n (spelling (marked_table run)) files) is_scrub.over.copies_are (subst (λ (did : Did). (effect did).stands_after old files) ends.course.did_is stands some))
        (ran.ends tells.tells tells.tells_vault)

    start_out : one.start.out ≡ before.out
    start_out = out_held before exit tells.tells tells.tells_vault setup (Answered answer named) told ran left one

    printed : Tells (lines_of run.loaded.columns all ++ scrub_text (length run.readings) (at_most (length all))) (between false before.out) (between ends.prints.failed exit.after.out)
    printed =
        subst (λ (text : List ℕ). Tells (lines_of run.loaded.columns all ++ text) (between false before.out) (between ends.prints.failed exit.after.out))
        (ap (scrub_text (length run.readings)) ends.counted_is)
        (subst (λ out. Tells (lines_of run.loaded.columns all ++ scrub_text (length run.readings) left.counted) (between false out) (between ends.prints.failed exit.after.out)) start_out ends.prints.told)

    status_well : IsEndStatus status ends.prints.failed (all ≡ [])
    status_well =
        let none = none_left (length all) in
        well_as status ends.prints.failed (λ zero. (none_found all).0 (none.0 (sym ends.counted_is ∙ zero)), λ nothing. ends.counted_is ∙ none.1 ((none_found all).1 nothing))
        (done_status left.counted status ends.prints.failed (status_is ∙ ap answer_status ends.prints.answer_is))

    pub ended_scrubbed : EndsScrubbed before exit status
    ended_scrubbed = record {
      run = run;
      is_scrub = is_scrub;
      given = given;
      unread_cells_of = λ d below. unread_counted run.loaded (cells_of run.readings) run.folders run.ended ends.course.cells d (omega (arith, below, one.columns));
      unread_levels_of = unread;
      moment = moment;
      saved = saved;
      output_failed = ends.prints.failed;
      printed = printed;
      status_is = status_well;
      output = output_rose before exit setup (Answered answer named) told ran left one ends.prints.failed ends.prints.answer_is;
    }

    pub ended_scrubbed_run : ended_scrubbed.run ≡ run
    unfolding ended_scrubbed
    ended_scrubbed_run = refl

  -- by the answer
  by_answer : (setup : SetupValue) (answer : Answer) (named : Option TableValue) (told : List Event) (ran : IsRun before exit setup (Answered answer named) told) (left_answer : Answer) (left_named : Option TableValue) (counted : ℕ)
      → (let left : Left = record { answer = left_answer; named = left_named; counted = counted; told = told } in
      (one : IsAnswered ran.task ran.given (world_of exit.after) left ran.did) (way : ScrubWay) (command : ran.task.command ≡ commands.Scrub way) (status : ℕ) → status ≡ answer_status left_answer → IsDoneAnswer left_answer
      → ScrubsBy left_answer way ran.task one.table one.start (world_of exit.after) left ran.did → EndsScrubbed before exit status)
  by_answer setup answer named told ran answers.Clean left_named counted one way command status is done ends = ended_scrubbed setup answer named told ran _ one way command status is ends
  by_answer setup answer named told ran answers.Found left_named counted one way command status is done ends = ended_scrubbed setup answer named told ran _ one way command status is ends
  by_answer setup answer named told ran answers.OutputFailed left_named counted one way command status is done ends = ended_scrubbed setup answer named told ran _ one way command status is ends
  by_answer setup answer named told ran (answers.Zeroed disk rec) left_named counted one way command status is done ends = absurd done
  by_answer setup answer named told ran (answers.Emptied disk) left_named counted one way command status is done ends = absurd done
  by_answer setup answer named told ran (answers.Full _ _) left_named counted one way command status is done ends = absurd done
  by_answer setup answer named told ran (answers.Broken (runs.Folder disk)) left_named counted one way command status is done ends = absurd done
  by_answer setup answer named told ran (answers.Broken runs.Vault) left_named counted one way command status is done ends = absurd done
  by_answer setup answer named told ran (answers.Broken runs.Memory) left_named counted one way command status is done ends = absurd done

-- of each run
pub scrubs_end : (before : Entry) (exit : Exit) (end : End) (told : List Event) (status : ℕ) → before.moment < 2 ^ 64 → status ≡ status_of end → Ran before exit end told → ScrubsEnd before exit status
scrubs_end before exit end told status in_time is ran tells went asked way words command =
    let to = goes_to_its_end before exit end told status tells.tells is ran asked words (subst WorksOnArray (sym command) tt) went in
    let configured = to.ran.is_given.configured in
    let left : Left = record { answer = to.answer; named = to.named; counted = to.ran.goes.0; told = to.told } in
    let one : IsAnswered to.ran.task to.ran.given (world_of exit.after) left to.ran.did = to.ran.goes.1 in
    let same : configured.asked ≡ asked = same_ok (asked_by before.texts) configured.asked asked configured.read words in
    let command_is : to.ran.task.command ≡ commands.Scrub way = configured.command_is ∙ ap (λ (a : Options). a.command) same ∙ command in
    let does : DoesCommand (commands.Scrub way) to.ran.task one.table one.start (world_of exit.after) left to.ran.did
    = subst (λ (c : Command). DoesCommand c to.ran.task one.table one.start (world_of exit.after) left to.ran.did) command_is one.does in
    let done : IsDoneAnswer to.answer = ⊎_elim (λ done. done) (λ ended. done_by_did to.answer way to.ran.task one.table one.start (world_of exit.after) left to.ran.did does ended) to.how in
    by_answer before exit tells in_time to.setup to.answer to.named to.told to.ran to.answer to.named to.ran.goes.0 one way command_is status to.status_is done does
