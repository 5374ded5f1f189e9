-- The sync of a run that went to its end: what it read, its status and what it left, and that this is sound with the rows of all that it read.
use Rattle.std.proofs.Common.{◌≡◌, ◌↔◌, inl, inr, ⊎_elim, ℕ, ◌+◌, ◌^◌, ◌<◌, List, ◌++◌, length, take, false, true, IsTrue, Option, refl, sym, ap, ◌∙◌, subst, arith}
use Rattle.std.proofs.Math.Seq.{take-append_seam}
use Rattle.std.proofs.lemmas.List.{length-append, length-map, map-append, take-take, take_all}
use Rattle.array_scan.specs.Layout.{pending_stripes}
use Rattle.content_file.specs.Save.{HasSaved}
use Rattle.content_file.specs.Spelling.{spelling}
use Rattle.disk_model.specs.Files.{Files}
use Rattle.disk_model.specs.Vault.{Holds, VaultState, copies_of}
use Rattle.file_table.specs.Table.{TableValue}
use Rattle.parity_writer.specs.Parity.{Rows}
use Rattle.array_setup.specs.Setup.{SetupValue}
use Rattle.snap_config.specs.declared.options.Command.{Command}
use Rattle.snap_config.specs.declared.options.Command.TheVariants as commands
use Rattle.snap_config.specs.declared.options.Options.{Options}
use Rattle.array_setup.specs.declared.ways.SyncWay.{SyncWay}
use Rattle.snap_report.specs.Answer.{status_of as answer_status}
use Rattle.snap_report.specs.declared.answer.Answer.{Answer}
use Rattle.snap_report.specs.declared.answer.Answer.TheVariants as answers
use Rattle.snap_report.specs.declared.answer.RunFault.TheVariants as runs
use Rattle.snap_report.specs.declared.events.Event.{Event}
use Rattle.snap_sync.specs.Ended.{IsEndOf}
use Rattle.snap_sync.specs.Images.{rows_after}
use Rattle.snap_sync.specs.Part.{AllVerified, SyncRun}
use Rattle.stripe_findings.specs.Reading.{StripeReading, stripes_of}
use Rattle.snap_sync.specs.Soundness.{AreSound, changed_without, snapshot_with}
use Rattle.snap_sync.specs.declared.syncing.SyncEnd.{SyncEnd}
use Rattle.snap_top.specs.Does.{DoesCommand}
use Rattle.snap_top.specs.End.{status_of}
use Rattle.snap_top.specs.Effect.{effect}
use Rattle.snap_top.specs.Output.{IsEndStatus}
use Rattle.snap_top.specs.Moment.{SyncsToItsEnd}
use Rattle.snap_top.specs.SoundAtEnd.{IsSoundAtEnd}
use Rattle.snap_top.specs.Began.{IsSyncOf}
use Rattle.snap_top.specs.Stands.{StandsAfter}
use Rattle.snap_top.specs.Asked.{asked_by, WorksOnArray}
use Rattle.snap_top.specs.Run.{IsAnswered, IsRun, Ran}
use Rattle.snap_top.specs.Entry.{Entry, Exit}
use Rattle.snap_top.specs.Syncing.{SyncEnds, SyncsBy, run_of}
use Rattle.snap_top.specs.Task.{Task, Left}
use Rattle.snap_top.specs.Did.{Did}
use Rattle.snap_top.specs.Sync.{end_table, LeavesSynced}
use Rattle.snap_top.specs.Views.{World, world_of}
use Rattle.snap_top.specs.declared.end.End.{End}
use Rattle.snap_top.specs.declared.end.Ending.TheVariants.{Answered}
use Rattle.snap_top.proofs.CompleteLemmas.{same_ok}
use Rattle.snap_top.proofs.EndedLemmas.{IsDoneAnswer, done_status, goes_to_its_end, only_read, well_as}
use Rattle.snap_top.proofs.OfSyncLemmas.{KeepsItsStripes, HasCourse, given_is, sync_of}
use Rattle.snap_top.proofs.SyncedLemmas.{MomentsAreSound, OneTable, all_count}

-- what snap_sync says of its findings
abbrev pub FindsWhatIsPending : Type 0
FindsWhatIsPending = (start : TableValue) (now : ℕ) (readings : List StripeReading) (end : SyncEnd) → IsEndOf start now readings end → (end.findings ≡ 0) ↔ AllVerified start readings

-- what holds in a vault at the end of a run, holds of what stands then
pub stands_then : (P : Files → Type 0) (exit : Exit) (files : Files) → IsTrue exit.after.vault.tells → Holds P exit.after.vault → StandsAfter exit files → P files
stands_then P exit files tells holds (inl same) = subst P (sym same) (holds.reads tells)
stands_then P exit files tells holds (inr left) = holds.leaves left.0 files left.1

-- those that were read are all, where they are as many
all_read : (readings ahead : List StripeReading) (pending : List ℕ) → stripes_of (readings ++ ahead) ≡ take (length (readings ++ ahead)) pending → length readings ≡ length pending → stripes_of readings ≡ pending
all_read readings ahead pending first many =
    let n : ℕ = length readings in
    let long : length (stripes_of readings) ≡ n = length-map readings (λ (reading : StripeReading). reading.stripe) in
    let more : length (readings ++ ahead) ≡ n + length ahead = length-append readings ahead in
    sym (ap (λ (k : ℕ). take k (stripes_of readings ++ stripes_of ahead)) (sym long) ∙ take-append_seam (stripes_of readings) (stripes_of ahead))
    ∙ ap (take n) (sym (map-append (λ (reading : StripeReading). reading.stripe) readings ahead) ∙ first)
    ∙ take-take n (length (readings ++ ahead)) pending (omega (arith, more))
    ∙ take_all n pending (omega (arith, many))

-- ---- by what it did

pub done_by_did : (answer : Answer) (task : Task) (way : SyncWay) (table : TableValue) (before after : World) (left : Left) (did : Did) → SyncsBy answer task way table before after left did → (effect did).has_ended ≡ true → IsDoneAnswer answer
done_by_did answers.Clean task way table before after left did does ended = tt
done_by_did answers.Found task way table before after left did does ended = tt
done_by_did answers.OutputFailed task way table before after left did does ended = tt
done_by_did (answers.Zeroed disk rec) task way table before after left did does ended = absurd (only_read did does.did_is ended)
done_by_did (answers.Emptied disk) task way table before after left did does ended = absurd (only_read did does.did_is ended)
done_by_did (answers.Full blocks files) task way table before after left did does ended = absurd (only_read did does.did_is ended)
done_by_did (answers.Broken (runs.Folder disk)) task way table before after left did does ended = absurd (only_read did does.did_is ended)
done_by_did (answers.Broken runs.Vault) task way table before after left did does ended = absurd (let clash : false ≡ true = ap (λ (did : Did). (effect did).has_ended) (sym does.course.did_is) ∙ ended in cc)
done_by_did (answers.Broken runs.Memory) task way table before after left did does ended = absurd (only_read did does.did_is ended)

-- A run whose sync went to its end.
pub record HasEndedSync (before : Entry) (exit : Exit) (status : ℕ) : Type 0 where
  pub setup : SetupValue
  pub answer : Answer
  pub named : Option TableValue
  pub told : List Event
  pub ran : IsRun before exit setup (Answered answer named) told
  pub left : Left
  pub one : IsAnswered ran.task ran.given (world_of exit.after) left ran.did
  pub way : SyncWay
  pub command : ran.task.command ≡ commands.Sync way
  pub status_is : status ≡ answer_status left.answer
  pub ends : SyncEnds ran.task way one.table one.start (world_of exit.after) left ran.did

-- by the answer
pub ends_by_answer : (answer : Answer) (task : Task) (way : SyncWay) (table : TableValue) (before after : World) (left : Left) (did : Did) → IsDoneAnswer answer → SyncsBy answer task way table before after left did → SyncEnds task way table before after left did
ends_by_answer answers.Clean task way table before after left did done does = does
ends_by_answer answers.Found task way table before after left did done does = does
ends_by_answer answers.OutputFailed task way table before after left did done does = does
ends_by_answer (answers.Zeroed disk rec) task way table before after left did done does = absurd done
ends_by_answer (answers.Emptied disk) task way table before after left did done does = absurd done
ends_by_answer (answers.Full blocks files) task way table before after left did done does = absurd done
ends_by_answer (answers.Broken (runs.Folder disk)) task way table before after left did done does = absurd done
ends_by_answer (answers.Broken runs.Vault) task way table before after left did done does = absurd done
ends_by_answer (answers.Broken runs.Memory) task way table before after left did done does = absurd done

-- of each run that was asked for one
pub sync_ended : (before : Entry) (exit : Exit) (end : End) (told : List Event) (status : ℕ) → IsTrue before.opener.tells → status ≡ status_of end → Ran before exit end told → SyncsToItsEnd before exit status → HasEndedSync before exit status
sync_ended before exit end told status tells is ran sync =
    let to = goes_to_its_end before exit end told status tells is ran sync.asked sync.words (subst WorksOnArray (sym sync.command_is) tt) sync.went in
    let configured = to.ran.is_given.configured in
    let left : Left = record { answer = to.answer; named = to.named; counted = to.ran.goes.0; told = to.told } in
    let one : IsAnswered to.ran.task to.ran.given (world_of exit.after) left to.ran.did = to.ran.goes.1 in
    let same : configured.asked ≡ sync.asked = same_ok (asked_by before.texts) configured.asked sync.asked configured.read sync.words in
    let command_is : to.ran.task.command ≡ commands.Sync sync.way = configured.command_is ∙ ap (λ (a : Options). a.command) same ∙ sync.command_is in
    let does : SyncsBy to.answer to.ran.task sync.way one.table one.start (world_of exit.after) left to.ran.did
    = subst (λ (c : Command). DoesCommand c to.ran.task one.table one.start (world_of exit.after) left to.ran.did) command_is one.does in
    let done : IsDoneAnswer to.answer
    = ⊎_elim (λ done. done) (λ ended. done_by_did to.answer to.ran.task sync.way one.table one.start (world_of exit.after) left to.ran.did does ended) to.how in
    record {
      setup = to.setup;
      answer = to.answer;
      named = to.named;
      told = to.told;
      ran = to.ran;
      left = left;
      one = one;
      way = sync.way;
      command = command_is;
      status_is = to.status_is;
      ends = ends_by_answer to.answer to.ran.task sync.way one.table one.start (world_of exit.after) left to.ran.did done does;
    }

-- ---- its sync, and what it left

module _ (keeps : KeepsItsStripes) (before : Entry) (exit : Exit) (tells : IsTrue before.opener.tells) (tells_vault : IsTrue before.opener.vault.tells) (in_time : before.moment < 2 ^ 64)
    (status : ℕ) (sync : HasEndedSync before exit status) where
  abbrev pub run : SyncRun
  run = run_of sync.ran.task sync.way sync.one.table sync.one.start (world_of exit.after) sync.ends.course.start sync.ends.course.listed sync.ends.course.readings sync.ends.course.ahead

  abbrev pub old : Files
  old = before.opener.vault.files

  abbrev course_of : HasCourse sync.ran.task.command sync.ran.task sync.one.table sync.one.start (world_of exit.after) sync.left sync.ran.did
  course_of = record { way = sync.way; command_is = sync.command; failed = false; course = sync.ends.course }

  pub is_sync : IsSyncOf before exit run
  is_sync = sync_of before exit tells tells_vault sync.setup (Answered sync.answer sync.named) sync.told sync.ran sync.left sync.one keeps in_time course_of

  pub all_of : stripes_of run.readings ≡ pending_stripes run.plan.start.infos
  all_of = all_read run.readings run.ahead (pending_stripes run.plan.start.infos) sync.ends.course.reads.stripes sync.ends.all

  pub stands : Holds (LeavesSynced run old) exit.after.vault
  stands = subst (λ (did : Did). Holds ((effect did).stands_after old) exit.after.vault) sync.ends.course.did_is (sync.ran.ends tells tells_vault)

  pub still_tells : IsTrue exit.after.vault.tells
  still_tells = sync.ran.keeps.vault.goes_on.tells ∙ ap (λ (s : VaultState). s.tells) (given_is before exit tells tells_vault sync.setup (Answered sync.answer sync.named) sync.told sync.ran) ∙ tells_vault

  -- what stands then
  left_synced : (files : Files) → StandsAfter exit files → LeavesSynced run old files
  left_synced files stand = stands_then (LeavesSynced run old) exit files still_tells stands stand

  -- its status
  pub status_well : FindsWhatIsPending → IsEndStatus status sync.ends.prints.failed (AllVerified run.plan.start run.readings)
  status_well finds =
      let end : SyncEnd = record { table = end_table run; synced = sync.ends.synced; pending = sync.ends.pending; findings = sync.left.counted } in
      let counts = finds run.plan.start run.plan.now run.readings end (record {
        table_is = refl;
        synced = sync.ends.synced_is;
        pending = sync.ends.pending_is ∙ sym sync.ends.all;
        findings = sync.ends.counted_is;
      }) in
      well_as status sync.ends.prints.failed counts (done_status sync.left.counted status sync.ends.prints.failed (sync.status_is ∙ ap answer_status sync.ends.prints.answer_is))

  -- this is sound with the rows of all that it read
  pub sound_at_end : OneTable → MomentsAreSound → FindsWhatIsPending → IsSoundAtEnd before exit status
  sound_at_end one_table moments finds = record {
    run = run;
    is_sync = is_sync;
    all = all_of;
    saved = λ files stand. subst (λ (n : ℕ). HasSaved n (spelling (end_table run)) files) is_sync.over.copies_are (left_synced files stand).saved;
    clean = λ zero. ((status_well finds).clean.0 zero).1;
    sound = λ files snapshot is_changed stand are.
        let rows : Rows = rows_after run.plan run.readings (length run.readings) in
        subst (λ (n : ℕ). AreSound n files (snapshot_with rows snapshot) (changed_without run.plan.start.shape.levels rows is_changed)) is_sync.over.copies_are
        (all_count one_table moments run (copies_of before.opener.vault) old files is_sync.over all_of (left_synced files stand) snapshot is_changed
        (subst (λ (n : ℕ). AreSound n old snapshot is_changed) (sym is_sync.over.copies_are) are));
  }

  pub sound_run_is : (one_table : OneTable) (moments : MomentsAreSound) (finds : FindsWhatIsPending) → (sound_at_end one_table moments finds).run ≡ run
  unfolding sound_at_end
  sound_run_is one_table moments finds = refl
