-- A run is one step: what it did says what stands at each moment of it, and what it leaves at its end.
use Rattle.std.proofs.Common.{◌≡◌, ◌⊎◌, ℕ, ◌^◌, ◌<◌, List, true, false, Option, Ok, refl, sym, ap, ◌∙◌, subst}
use Rattle.disk_model.specs.Files.{Files}
use Rattle.disk_model.specs.Folder.{FolderView}
use Rattle.file_table.specs.Table.{TableValue}
use Rattle.array_setup.specs.Setup.{SetupValue, setup_value}
use Rattle.snap_config.specs.declared.options.Command.{Command}
use Rattle.snap_config.specs.declared.options.Command.TheVariants as commands
use Rattle.snap_config.specs.declared.options.Options.{Options}
use Rattle.array_setup.specs.declared.ways.Selection.{Selection}
use Rattle.array_setup.specs.declared.ways.ScrubWay.{ScrubWay}
use Rattle.array_setup.specs.declared.ways.SyncWay.{SyncWay}
use Rattle.snap_report.specs.Answer.{status_of as answer_status}
use Rattle.snap_report.specs.declared.answer.Answer.{Answer}
use Rattle.snap_report.specs.declared.answer.Answer.TheVariants as answers
use Rattle.snap_report.specs.declared.answer.RunFault.TheVariants as runs
use Rattle.snap_report.specs.declared.events.Event.{Event}
use Rattle.repair_scope.specs.declared.scope.Mode.TheVariants as modes
use Rattle.snap_sync.specs.Part.{AllTell}
use Rattle.snap_top.specs.Does.{DoesCommand}
use Rattle.snap_top.specs.Dup.{dup_text}
use Rattle.snap_top.specs.End.{ending_status, status_of}
use Rattle.snap_top.specs.Effect.{effect}
use Rattle.snap_top.specs.Fixing.{FixEnds, FixesBy}
use Rattle.snap_top.specs.Moment.{IsSoundAlways, SyncsToItsEnd}
use Rattle.snap_top.specs.SoundAtEnd.{IsSoundAtEnd}
use Rattle.snap_top.specs.Stands.{HoldsFresh, StandsIn, TellsAll, TellsVault}
use Rattle.snap_top.specs.AsAsked.{ChecksEnd}
use Rattle.snap_top.specs.Asked.{asked_by}
use Rattle.snap_top.specs.Run.{IsAnswered, IsRun, Ran}
use Rattle.snap_top.specs.Entry.{Entry, Exit}
use Rattle.snap_top.specs.Scrubbing.{ScrubEnds, ScrubsBy}
use Rattle.snap_top.specs.Step.{ChangesFiles, EveryRunSteps, RunStep}
use Rattle.snap_top.specs.Syncing.{SyncEnds, SyncsBy}
use Rattle.snap_top.specs.Task.{Left, Task}
use Rattle.snap_top.specs.Did.{Did, reads_only}
use Rattle.snap_top.specs.Views.{World, world_of}
use Rattle.snap_top.specs.declared.end.End.{End}
use Rattle.snap_top.specs.declared.end.End.TheVariants.{Exercised, Refused, Worked}
use Rattle.snap_top.specs.declared.end.Ending.{Ending}
use Rattle.snap_top.specs.declared.end.Ending.TheVariants.{NotLoaded, NoTable, OtherArray, Answered}
use Rattle.snap_top.proofs.CompleteLemmas.{same_ok}
use Rattle.snap_top.proofs.EndsSoundLemmas.{ends_sound}
use Rattle.snap_top.proofs.EndedLemmas.{IsDoneAnswer, IsDoneEnd, done_end, only_read}
use Rattle.snap_top.proofs.ExercisingLemmas.{changes_on_array, not_exercised}
use Rattle.snap_top.proofs.LostLemmas.{FactsAreGenuine}
use Rattle.snap_top.proofs.MomentLemmas.{CopiesAreOfPartSyncs, FixKeepsSound, LayoutIsOfTrees, reading_did, run_did_is, sound_reading, sound_run, stands_same}
use Rattle.snap_top.proofs.NamingLemmas.{RowsAreKnown, checks_end}
use Rattle.snap_top.proofs.OfFixLemmas.{HasFix, HasScrub, HasSync, check_did, printing_did, run_did}
use Rattle.snap_top.proofs.OfScrubLemmas.{ScrubKeepsSound, ScrubKeepsValid}
use Rattle.snap_top.proofs.OfSyncLemmas.{KeepsItsStripes, given_folders}
use Rattle.snap_top.proofs.PartLemmas.{PendingIsFound, ReadIsGiven, ReadIsPartSync, VerifiedIsFullSync, ended_in_part, ended_run}
use Rattle.snap_top.proofs.ReadStopLemmas.{each_tree_stays}
use Rattle.snap_top.proofs.RefusalLemmas.{ending_untouched}
use Rattle.snap_top.proofs.RestoringLemmas.{BlocksAreKnown, CellsAreLost, CellsAreRestored, LostAreUnknown, UnknownAreLost, done_by_did as fix_is_done, ended_fixed, ended_fixed_run}
use Rattle.snap_top.proofs.ScrubbedLemmas.{done_by_did as scrub_is_done, ended_scrubbed, ended_scrubbed_run}
use Rattle.snap_top.proofs.SyncEndLemmas.{FindsWhatIsPending, HasEndedSync, done_by_did as sync_is_done, ends_by_answer, sound_at_end, sync_ended}
use Rattle.snap_top.proofs.SyncedLemmas.{MomentsAreSound, OneTable}

-- what the crates below say
pub record BelowSays : Type 0 where
  pub laid : LayoutIsOfTrees
  pub of_parts : CopiesAreOfPartSyncs
  pub part : ReadIsPartSync
  pub full : VerifiedIsFullSync
  pub given : ReadIsGiven
  pub finds : FindsWhatIsPending
  pub found : PendingIsFound
  pub moments : MomentsAreSound
  pub keeps : KeepsItsStripes
  pub one_table : OneTable
  pub keeps_sound : FixKeepsSound
  pub restored : CellsAreRestored
  pub lost : CellsAreLost
  pub unknown_lost : UnknownAreLost
  pub lost_unknown : LostAreUnknown
  pub known : BlocksAreKnown
  pub genuine : FactsAreGenuine
  pub restorable : RowsAreKnown
  pub marks_valid : ScrubKeepsValid
  pub marks_sound : ScrubKeepsSound

-- a fix by the answer of an engine that is done
fix_ends_by : (answer : Answer) (selection : Selection) (task : Task) (table : TableValue) (before after : World) (left : Left) (did : Did) → IsDoneAnswer answer → FixesBy answer selection task table before after left did
    → FixEnds selection task table before after left did
fix_ends_by answers.Clean selection task table before after left did done does = does
fix_ends_by answers.Found selection task table before after left did done does = does
fix_ends_by answers.OutputFailed selection task table before after left did done does = does
fix_ends_by (answers.Zeroed disk rec) selection task table before after left did done does = absurd done
fix_ends_by (answers.Emptied disk) selection task table before after left did done does = absurd done
fix_ends_by (answers.Full blocks files) selection task table before after left did done does = absurd done
fix_ends_by (answers.Broken (runs.Folder disk)) selection task table before after left did done does = absurd done
fix_ends_by (answers.Broken runs.Vault) selection task table before after left did done does = absurd done
fix_ends_by (answers.Broken runs.Memory) selection task table before after left did done does = absurd done

-- a scrub likewise
scrub_ends_by : (answer : Answer) (way : ScrubWay) (task : Task) (table : TableValue) (before after : World) (left : Left) (did : Did) → IsDoneAnswer answer → ScrubsBy answer way task table before after left did
    → ScrubEnds way task table before after left did
scrub_ends_by answers.Clean way task table before after left did done does = does
scrub_ends_by answers.Found way task table before after left did done does = does
scrub_ends_by answers.OutputFailed way task table before after left did done does = does
scrub_ends_by (answers.Zeroed disk rec) way task table before after left did done does = absurd done
scrub_ends_by (answers.Emptied disk) way task table before after left did done does = absurd done
scrub_ends_by (answers.Full blocks files) way task table before after left did done does = absurd done
scrub_ends_by (answers.Broken (runs.Folder disk)) way task table before after left did done does = absurd done
scrub_ends_by (answers.Broken runs.Vault) way task table before after left did done does = absurd done
scrub_ends_by (answers.Broken runs.Memory) way task table before after left did done does = absurd done

module _ (says : BelowSays) (before : Entry) (exit : Exit) (fresh : HoldsFresh before) (in_time : before.moment < 2 ^ 64) (status : ℕ) where
  vault_told : TellsVault before
  vault_told = record { tells = fresh.tells; tells_vault = fresh.tells_vault }

  all_told : AllTell before.opener.folders → TellsAll before
  all_told folders = record { tells = fresh.tells; tells_vault = fresh.tells_vault; tells_folders = folders }

  -- ---- a command that was carried out

  module _ (setup : SetupValue) (answer : Answer) (named : Option TableValue) (told : List Event) (ran : IsRun before exit setup (Answered answer named) told) (is : status ≡ answer_status answer) where
    abbrev left : Left
    left = record { answer = answer; named = named; counted = ran.goes.0; told = told }

    abbrev one : IsAnswered ran.task ran.given (world_of exit.after) left ran.did
    one = ran.goes.1

    abbrev DoesSo : Command → Type 0
    DoesSo command = DoesCommand command ran.task one.table one.start (world_of exit.after) left ran.did

    synced_of : (way : SyncWay) → ran.task.command ≡ commands.Sync way → IsDoneAnswer answer → ((effect ran.did).has_ended ≡ true) × (effect ran.did).ends before exit status
    synced_of way command done =
        let does : SyncsBy answer ran.task way one.table one.start (world_of exit.after) left ran.did = subst DoesSo command one.does in
        let ends : SyncEnds ran.task way one.table one.start (world_of exit.after) left ran.did = ends_by_answer answer ran.task way one.table one.start (world_of exit.after) left ran.did done does in
        let sync : HasEndedSync before exit status = record {
          setup = setup;
          answer = answer;
          named = named;
          told = told;
          ran = ran;
          left = left;
          one = one;
          way = way;
          command = command;
          status_is = is;
          ends = ends;
        } in (
          ap (λ (did : Did). (effect did).has_ended) ends.course.did_is,
          subst (λ (did : Did). (effect did).ends before exit status) (sym ends.course.did_is) (λ folders. (
            ended_in_part says.laid says.part says.full says.given says.finds says.found says.keeps before exit (all_told folders) in_time status sync,
            ended_run says.laid says.part says.full says.given says.finds says.found says.keeps before exit (all_told folders) in_time status sync,
          )),
        )

    fixed_of : (selection : Selection) → ran.task.command ≡ commands.Fix selection → IsDoneAnswer answer → ((effect ran.did).has_ended ≡ true) × (effect ran.did).ends before exit status
    fixed_of selection command done =
        let does : FixesBy answer selection ran.task one.table one.start (world_of exit.after) left ran.did = subst DoesSo command one.does in
        let ends : FixEnds selection ran.task one.table one.start (world_of exit.after) left ran.did = fix_ends_by answer selection ran.task one.table one.start (world_of exit.after) left ran.did done does in (
          ap (λ (did : Did). (effect did).has_ended) ends.course.did_is,
          subst (λ (did : Did). (effect did).ends before exit status) (sym ends.course.did_is) (λ folders. (
            ended_fixed says.restored says.lost says.unknown_lost says.lost_unknown says.known says.genuine before exit (all_told folders) setup answer named told ran left one selection command status is ends,
            ended_fixed_run says.restored says.lost says.unknown_lost says.lost_unknown says.known says.genuine before exit (all_told folders) setup answer named told ran left one selection command status is ends,
          )),
        )

    scrubbed_of : (way : ScrubWay) → ran.task.command ≡ commands.Scrub way → IsDoneAnswer answer → ((effect ran.did).has_ended ≡ true) × (effect ran.did).ends before exit status
    scrubbed_of way command done =
        let does : ScrubsBy answer way ran.task one.table one.start (world_of exit.after) left ran.did = subst DoesSo command one.does in
        let ends : ScrubEnds way ran.task one.table one.start (world_of exit.after) left ran.did = scrub_ends_by answer way ran.task one.table one.start (world_of exit.after) left ran.did done does in (
          ap (λ (did : Did). (effect did).has_ended) ends.course.did_is,
          subst (λ (did : Did). (effect did).ends before exit status) (sym ends.course.did_is) (
            ended_scrubbed before exit vault_told in_time setup answer named told ran left one way command status is ends,
            ended_scrubbed_run before exit vault_told in_time setup answer named told ran left one way command status is ends,
          ),
        )

    ends_of : (command : Command) → ran.task.command ≡ command → DoesSo command → (effect ran.did).has_ended ≡ true → (effect ran.did).ends before exit status
    ends_of commands.List command does ended = absurd (only_read ran.did does.did_is ended)
    ends_of commands.Status command does ended = absurd (only_read ran.did does.did_is ended)
    ends_of commands.Dup command does ended =
        absurd (only_read ran.did (printing_did (dup_text one.table) 0 one.start (world_of exit.after) left ran.did does) ended)
    ends_of (commands.Sync way) command does ended =
        (synced_of way command (sync_is_done answer ran.task way one.table one.start (world_of exit.after) left ran.did does ended)).1
    ends_of (commands.Scrub way) command does ended =
        (scrubbed_of way command (scrub_is_done answer way ran.task one.table one.start (world_of exit.after) left ran.did does ended)).1
    ends_of (commands.Check selection) command does ended =
        absurd (only_read ran.did (check_did answer modes.Check selection ran.task one.table one.start (world_of exit.after) left ran.did does) ended)
    ends_of (commands.Audit selection) command does ended =
        absurd (only_read ran.did (check_did answer modes.Audit selection ran.task one.table one.start (world_of exit.after) left ran.did does) ended)
    ends_of (commands.Fix selection) command does ended =
        (fixed_of selection command (fix_is_done answer selection ran.task one.table one.start (world_of exit.after) left ran.did does ended)).1
    ends_of (commands.Exercise n) command does ended = absurd does

    done_of : (command : Command) → ran.task.command ≡ command → ChangesFiles command → IsDoneAnswer answer → (effect ran.did).has_ended ≡ true
    done_of commands.List command changes done = absurd changes
    done_of commands.Status command changes done = absurd changes
    done_of commands.Dup command changes done = absurd changes
    done_of (commands.Sync way) command changes done = (synced_of way command done).0
    done_of (commands.Scrub way) command changes done = (scrubbed_of way command done).0
    done_of (commands.Check selection) command changes done = absurd changes
    done_of (commands.Audit selection) command changes done = absurd changes
    done_of (commands.Fix selection) command changes done = (fixed_of selection command done).0
    done_of (commands.Exercise n) command changes done = absurd changes

  -- ---- a run that opened its array

  ends_in : (setup : SetupValue) (ending : Ending) (told : List Event) (ran : IsRun before exit setup ending told) → status ≡ ending_status ending → (effect ran.did).has_ended ≡ true → (effect ran.did).ends before exit status
  ends_in setup (NotLoaded fault) told ran is ended = absurd (only_read ran.did ran.goes.0.1 ended)
  ends_in setup NoTable told ran is ended = absurd (only_read ran.did ran.goes.0.1 ended)
  ends_in setup (OtherArray difference content) told ran is ended = absurd (only_read ran.did ran.goes.0.1 ended)
  ends_in setup (Answered answer named) told ran is ended = ends_of setup answer named told ran is ran.task.command refl ran.goes.1.does ended

  abbrev IsDoneEnding : Ending → Type 0
  IsDoneEnding (Answered answer named) = IsDoneAnswer answer
  IsDoneEnding _ = ⊥

  done_in : (setup : SetupValue) (ending : Ending) (told : List Event) (ran : IsRun before exit setup ending told) → status ≡ ending_status ending
      → (asked : Options) → asked_by before.texts ≡ Ok asked → ChangesFiles asked.command → IsDoneEnding ending → (effect ran.did).has_ended ≡ true
  done_in setup (NotLoaded fault) told ran is asked words changes done = absurd done
  done_in setup NoTable told ran is asked words changes done = absurd done
  done_in setup (OtherArray difference content) told ran is asked words changes done = absurd done
  done_in setup (Answered answer named) told ran is asked words changes done =
      let configured = ran.is_given.configured in
      let same : configured.asked ≡ asked = same_ok (asked_by before.texts) configured.asked asked configured.read words in
      done_of setup answer named told ran is asked.command (configured.command_is ∙ ap (λ (a : Options). a.command) same) changes done

  step_by : (end : End) (told : List Event) → status ≡ status_of end → Ran before exit end told → (SyncsToItsEnd before exit status → IsSoundAtEnd before exit status) → ChecksEnd before exit status → RunStep before exit status
  step_by (Refused why) told is ran synced checked =
      let still : (files : Files) → StandsIn before exit files → files ≡ before.opener.vault.files = stands_same before exit status fresh synced ran.vault in
      let read = reading_did before exit status fresh synced still in
      record {
        always = sound_reading before exit status fresh synced still;
        folders = λ has. absurd (let clash : false ≡ true = sym ran.no_vault ∙ has in cc);
        stops = λ has. absurd (let clash : false ≡ true = sym ran.no_vault ∙ has in cc);
        unopened = λ none. ran.kept;
        refused = λ refused. read;
        done = λ asked words changes well. absurd (done_end before exit (Refused why) told status fresh.tells is ran well);
        at_end = λ ended. absurd (only_read _ read ended);
        checked = checked;
      }
  step_by (Exercised answer) told is ran synced checked =
      let still : (files : Files) → StandsIn before exit files → files ≡ before.opener.vault.files = stands_same before exit status fresh synced ran.vault in
      let read = reading_did before exit status fresh synced still in
      record {
        always = sound_reading before exit status fresh synced still;
        folders = λ has. absurd (let clash : false ≡ true = sym ran.no_vault ∙ has in cc);
        stops = λ has. absurd (let clash : false ≡ true = sym ran.no_vault ∙ has in cc);
        unopened = λ none. ran.kept;
        refused = λ refused. read;
        done = λ asked words changes well. absurd (not_exercised before.texts asked ran.number words (changes_on_array asked.command changes) ran.asks);
        at_end = λ ended. absurd (only_read _ read ended);
        checked = checked;
      }
  step_by (Worked setup ending) told is ran synced checked =
      let how : (ran.did ≡ reads_only) ⊎ (HasSync before exit ran.did ⊎ (HasFix before exit ran.did ⊎ HasScrub before exit ran.did))
      = run_did before exit fresh.tells fresh.tells_vault says.keeps in_time (setup_value setup) ending told ran in
      let ends : (effect ran.did).sound_at_end before exit status
      = ends_sound says.keeps says.one_table says.moments says.finds before exit fresh.tells fresh.tells_vault in_time status (setup_value setup) ending told ran is in
      let always : IsSoundAlways before exit status
      = sound_run before exit status fresh synced says.laid says.of_parts says.moments says.keeps_sound says.one_table says.marks_valid says.marks_sound ran.did ends (ran.changes fresh.tells) how in
      let same : always.did ≡ ran.did
      = run_did_is before exit status fresh synced says.laid says.of_parts says.moments says.keeps_sound says.one_table says.marks_valid says.marks_sound ran.did ends (ran.changes fresh.tells) how in
      let kept : (effect always.did).folders_after before.opener.folders exit.after.folders
      = subst (λ (did : Did). (effect did).folders_after before.opener.folders exit.after.folders) (sym same)
      (subst (λ (olds : List FolderView). (effect ran.did).folders_after olds exit.after.folders) (given_folders before exit fresh.tells fresh.tells_vault (setup_value setup) ending told ran) ran.keeps.folders) in
      record {
        always = always;
        folders = λ has. kept;
        stops = λ has. each_tree_stays always.did before exit kept;
        unopened = λ none. absurd (let clash : true ≡ false = sym ran.has_vault ∙ none in cc);
        refused = λ refused. same ∙ (ending_untouched ending ran.task ran.given (world_of exit.after) told ran.did ran.goes (subst (λ (n : ℕ). (n ≡ 2) ⊎ (n ≡ 5)) is refused)).did_is;
        done = λ asked words changes well. ap (λ (did : Did). (effect did).has_ended) same
            ∙ done_in (setup_value setup) ending told ran is asked words changes (done_ending ending (done_end before exit (Worked setup ending) told status fresh.tells is ran well));
        at_end = λ ended. subst (λ (did : Did). (effect did).ends before exit status) (sym same) (ends_in (setup_value setup) ending told ran is (sym (ap (λ (did : Did). (effect did).has_ended) same) ∙ ended));
        checked = checked;
      }
    where
      done_ending : (it : Ending) → IsDoneEnd (Worked setup it) → IsDoneEnding it
      done_ending (NotLoaded fault) done = done
      done_ending NoTable done = done
      done_ending (OtherArray difference content) done = done
      done_ending (Answered answer named) done = done

-- of each run
pub every_run_steps : BelowSays → (before : Entry) (exit : Exit) (end : End) (told : List Event) (status : ℕ) → before.moment < 2 ^ 64 → status ≡ status_of end → Ran before exit end told → EveryRunSteps before exit status
every_run_steps says before exit end told status in_time is ran fresh =
    step_by says before exit fresh in_time status end told is ran
    (λ asked. sound_at_end says.keeps before exit fresh.tells fresh.tells_vault in_time status (sync_ended before exit end told status fresh.tells is ran asked) says.one_table says.moments says.finds)
    (checks_end says.restorable says.genuine before exit end told status is ran)
