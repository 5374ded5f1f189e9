-- A run that is refused touches nothing, from its end.
use Rattle.std.proofs.Common.{◌≡◌, ◌≢◌, ◌⊎◌, inl, inr, ℕ, List, Bool, true, false, sym, ap, ◌∙◌, subst, arith, cond, ◌==◌}
use Rattle.disk_model.specs.Sink.{SinkView}
use Rattle.disk_model.specs.Vault.{ChangesBy}
use Rattle.file_table.specs.Table.{TableValue}
use Rattle.snap_config.specs.declared.options.Command.{Command}
use Rattle.snap_config.specs.declared.options.Command.TheVariants as commands
use Rattle.array_setup.specs.declared.ways.Selection.{Selection}
use Rattle.repair_scope.specs.declared.scope.Mode.{Mode}
use Rattle.repair_scope.specs.declared.scope.Mode.TheVariants as modes
use Rattle.snap_report.specs.Answer.{done_answer, status_of as answer_status}
use Rattle.snap_report.specs.declared.answer.Answer.{Answer}
use Rattle.snap_report.specs.declared.answer.Answer.TheVariants.{Clean, Found, OutputFailed, Zeroed, Emptied, Full, Broken}
use Rattle.snap_report.specs.declared.answer.RunFault.TheVariants.{Folder, Vault, Memory}
use Rattle.snap_report.specs.declared.events.Event.{Event}
use Rattle.snap_top.specs.Checking.{ChecksBy}
use Rattle.snap_top.specs.Complete.{RefusalsTouchNothing}
use Rattle.snap_top.specs.Does.{DoesCommand, PrintsOrStays}
use Rattle.snap_top.specs.Dup.{dup_text}
use Rattle.snap_top.specs.Exercising.{Exercises}
use Rattle.snap_top.specs.Fixing.{FixesBy}
use Rattle.array_setup.specs.declared.ways.ScrubWay.{ScrubWay}
use Rattle.array_setup.specs.declared.ways.SyncWay.{SyncWay}
use Rattle.snap_top.specs.Scrubbing.{ScrubsBy}
use Rattle.snap_top.specs.Syncing.{SyncsBy, SyncRefuses}
use Rattle.snap_top.specs.Task.{Task, Left}
use Rattle.snap_top.specs.Effect.{effect}
use Rattle.snap_top.specs.Did.{Did, reads_only}
use Rattle.snap_top.specs.End.{status_of, ending_status}
use Rattle.snap_top.specs.Run.{Goes, OnlyLoads, Ran}
use Rattle.snap_top.specs.Entry.{Entry, Exit}
use Rattle.snap_top.specs.Views.{World, world_of}
use Rattle.snap_top.specs.declared.end.End.{End}
use Rattle.snap_top.specs.declared.end.End.TheVariants.{Exercised, Refused, Worked}
use Rattle.snap_top.specs.declared.end.Ending.{Ending}
use Rattle.snap_top.specs.declared.end.Ending.TheVariants.{NotLoaded, NoTable, OtherArray, Answered}

no_refusal : (n : ℕ) → n ≢ 2 → n ≢ 5 → (n ≡ 2) ⊎ (n ≡ 5) → ⊥
no_refusal n two five (inl is) = two is
no_refusal n two five (inr is) = five is

-- an engine that is done is not refused
pub done_is_no_refusal : (counted : ℕ) (failed : Bool) → (answer_status (done_answer counted failed) ≡ 2) ⊎ (answer_status (done_answer counted failed) ≡ 5) → ⊥
done_is_no_refusal counted true refused = no_refusal 3 (omega arith) (omega arith) refused
done_is_no_refusal counted false refused = by (counted == 0) refused
  where
    by : (none : Bool) → (answer_status (cond none Clean Found) ≡ 2) ⊎ (answer_status (cond none Clean Found) ≡ 5) → ⊥
    by true is = no_refusal 0 (omega arith) (omega arith) is
    by false is = no_refusal 1 (omega arith) (omega arith) is

-- what is not touched
pub record Untouched (given after : World) (did : Did) : Type 0 where
  pub out : after.out ≡ given.out
  pub did_is : did ≡ reads_only

only_loads_out : (given after : World) → OnlyLoads given after → after.out ≡ given.out
only_loads_out given after only = ap (λ (w : World). w.out) only.others

refused_sync : (task : Task) (way : SyncWay) (table : TableValue) (start after : World) (left : Left) (did : Did) → SyncRefuses task way table start after left did → Untouched start after did
refused_sync task way table start after left did refuses = record { out = ap (λ (w : World). w.out) refuses.others; did_is = refuses.did_is }

sync_untouched : (answer : Answer) (task : Task) (way : SyncWay) (table : TableValue) (start after : World) (left : Left) (did : Did) → SyncsBy answer task way table start after left did
    → (answer_status answer ≡ 2) ⊎ (answer_status answer ≡ 5) → Untouched start after did
sync_untouched Clean task way table start after left did does refused = absurd (no_refusal 0 (omega arith) (omega arith) refused)
sync_untouched Found task way table start after left did does refused = absurd (no_refusal 1 (omega arith) (omega arith) refused)
sync_untouched OutputFailed task way table start after left did does refused = absurd (no_refusal 3 (omega arith) (omega arith) refused)
sync_untouched (Zeroed disk rec) task way table start after left did does refused = refused_sync task way table start after left did does
sync_untouched (Emptied disk) task way table start after left did does refused = refused_sync task way table start after left did does
sync_untouched (Full blocks files) task way table start after left did does refused = refused_sync task way table start after left did does
sync_untouched (Broken (Folder disk)) task way table start after left did does refused = refused_sync task way table start after left did does
sync_untouched (Broken Vault) task way table start after left did does refused = absurd (no_refusal 3 (omega arith) (omega arith) refused)
sync_untouched (Broken Memory) task way table start after left did does refused = refused_sync task way table start after left did does

-- a check is not refused
pub check_not_refused : (answer : Answer) (mode : Mode) (selection : Selection) (task : Task) (table : TableValue) (start after : World) (left : Left) (did : Did) → ChecksBy answer mode selection task table start after left did
    → (answer_status answer ≡ 2) ⊎ (answer_status answer ≡ 5) → ⊥
check_not_refused Clean mode selection task table start after left did does refused = no_refusal 0 (omega arith) (omega arith) refused
check_not_refused Found mode selection task table start after left did does refused = no_refusal 1 (omega arith) (omega arith) refused
check_not_refused OutputFailed mode selection task table start after left did does refused = no_refusal 3 (omega arith) (omega arith) refused
check_not_refused (Zeroed disk rec) mode selection task table start after left did does refused = does
check_not_refused (Emptied disk) mode selection task table start after left did does refused = does
check_not_refused (Full blocks files) mode selection task table start after left did does refused = does
check_not_refused (Broken (Folder disk)) mode selection task table start after left did does refused = no_refusal 3 (omega arith) (omega arith) refused
check_not_refused (Broken Vault) mode selection task table start after left did does refused = does
check_not_refused (Broken Memory) mode selection task table start after left did does refused = no_refusal 4 (omega arith) (omega arith) refused

-- nor is a fix
pub fix_not_refused : (answer : Answer) (selection : Selection) (task : Task) (table : TableValue) (start after : World) (left : Left) (did : Did) → FixesBy answer selection task table start after left did
    → (answer_status answer ≡ 2) ⊎ (answer_status answer ≡ 5) → ⊥
fix_not_refused Clean selection task table start after left did does refused = no_refusal 0 (omega arith) (omega arith) refused
fix_not_refused Found selection task table start after left did does refused = no_refusal 1 (omega arith) (omega arith) refused
fix_not_refused OutputFailed selection task table start after left did does refused = no_refusal 3 (omega arith) (omega arith) refused
fix_not_refused (Zeroed disk rec) selection task table start after left did does refused = does
fix_not_refused (Emptied disk) selection task table start after left did does refused = does
fix_not_refused (Full blocks files) selection task table start after left did does refused = does
fix_not_refused (Broken (Folder disk)) selection task table start after left did does refused = no_refusal 3 (omega arith) (omega arith) refused
fix_not_refused (Broken Vault) selection task table start after left did does refused = no_refusal 3 (omega arith) (omega arith) refused
fix_not_refused (Broken Memory) selection task table start after left did does refused = no_refusal 4 (omega arith) (omega arith) refused

-- nor is a scrub
pub scrub_not_refused : (answer : Answer) (way : ScrubWay) (task : Task) (table : TableValue) (start after : World) (left : Left) (did : Did) → ScrubsBy answer way task table start after left did
    → (answer_status answer ≡ 2) ⊎ (answer_status answer ≡ 5) → ⊥
scrub_not_refused Clean way task table start after left did does refused = no_refusal 0 (omega arith) (omega arith) refused
scrub_not_refused Found way task table start after left did does refused = no_refusal 1 (omega arith) (omega arith) refused
scrub_not_refused OutputFailed way task table start after left did does refused = no_refusal 3 (omega arith) (omega arith) refused
scrub_not_refused (Zeroed disk rec) way task table start after left did does refused = does
scrub_not_refused (Emptied disk) way task table start after left did does refused = does
scrub_not_refused (Full blocks files) way task table start after left did does refused = does
scrub_not_refused (Broken (Folder disk)) way task table start after left did does refused = does
scrub_not_refused (Broken Vault) way task table start after left did does refused = no_refusal 3 (omega arith) (omega arith) refused
scrub_not_refused (Broken Memory) way task table start after left did does refused = no_refusal 4 (omega arith) (omega arith) refused

-- nor is a command that prints a text, or has no memory for it
pub printing_not_refused : (text : List ℕ) (counted : ℕ) (start after : World) (left : Left) (did : Did) → PrintsOrStays text counted start after left did
    → (answer_status left.answer ≡ 2) ⊎ (answer_status left.answer ≡ 5) → ⊥
printing_not_refused text counted start after left did (inl alone) refused =
    done_is_no_refusal counted alone.prints.failed (subst (λ (a : Answer). (answer_status a ≡ 2) ⊎ (answer_status a ≡ 5)) alone.prints.answer_is refused)
printing_not_refused text counted start after left did (inr idle) refused =
    no_refusal 4 (omega arith) (omega arith) (subst (λ (l : Left). (answer_status l.answer ≡ 2) ⊎ (answer_status l.answer ≡ 5)) idle.left_is refused)

command_untouched : (command : Command) (task : Task) (table : TableValue) (start after : World) (left : Left) (did : Did) → DoesCommand command task table start after left did
    → (answer_status left.answer ≡ 2) ⊎ (answer_status left.answer ≡ 5) → Untouched start after did
command_untouched commands.List task table start after left did does refused =
    absurd (done_is_no_refusal 0 does.prints.failed (subst (λ a. (answer_status a ≡ 2) ⊎ (answer_status a ≡ 5)) does.prints.answer_is refused))
command_untouched commands.Status task table start after left did does refused =
    absurd (done_is_no_refusal _ does.prints.failed (subst (λ a. (answer_status a ≡ 2) ⊎ (answer_status a ≡ 5)) does.prints.answer_is refused))
command_untouched commands.Dup task table start after left did does refused = absurd (printing_not_refused (dup_text table) 0 start after left did does refused)
command_untouched (commands.Sync way) task table start after left did does refused = sync_untouched left.answer task way table start after left did does refused
command_untouched (commands.Scrub way) task table start after left did does refused = absurd (scrub_not_refused left.answer way task table start after left did does refused)
command_untouched (commands.Check selection) task table start after left did does refused = absurd (check_not_refused left.answer modes.Check selection task table start after left did does refused)
command_untouched (commands.Audit selection) task table start after left did does refused = absurd (check_not_refused left.answer modes.Audit selection task table start after left did does refused)
command_untouched (commands.Fix selection) task table start after left did does refused = absurd (fix_not_refused left.answer selection task table start after left did does refused)
command_untouched (commands.Exercise n) task table start after left did does refused = absurd does

pub ending_untouched : (ending : Ending) (task : Task) (given after : World) (told : List Event) (did : Did) → Goes task given after ending told did
    → (ending_status ending ≡ 2) ⊎ (ending_status ending ≡ 5) → Untouched given after did
ending_untouched (NotLoaded fault) task given after told did goes refused = record { out = only_loads_out given after goes.1; did_is = goes.0.1 }
ending_untouched NoTable task given after told did goes refused = record { out = only_loads_out given after goes.1.reads; did_is = goes.0.1 }
ending_untouched (OtherArray difference content) task given after told did goes refused = record { out = only_loads_out given after goes.1.reads; did_is = goes.0.1 }
ending_untouched (Answered answer named) task given after told did goes refused =
    let one = goes.1 in
    let same = command_untouched task.command task one.table one.start after _ did one.does refused in
    record { out = same.out ∙ only_loads_out given one.start one.reads; did_is = same.did_is }

-- no exercise is refused
exercise_not_refused : (n : ℕ) (out out_new : SinkView) (answer : Answer) → Exercises n out out_new answer → (answer_status answer ≡ 2) ⊎ (answer_status answer ≡ 5) → ⊥
exercise_not_refused n out out_new answer (inl printed) refused =
    done_is_no_refusal _ printed.prints.failed (subst (λ (a : Answer). (answer_status a ≡ 2) ⊎ (answer_status a ≡ 5)) printed.prints.answer_is refused)
exercise_not_refused n out out_new answer (inr ran_out) refused =
    no_refusal 4 (omega arith) (omega arith) (subst (λ (a : Answer). (answer_status a ≡ 2) ⊎ (answer_status a ≡ 5)) ran_out.answer_is refused)

pub refusal_touches_nothing : (before : Entry) (exit : Exit) (end : End) (told : List Event) (status : ℕ) → status ≡ status_of end → Ran before exit end told → RefusalsTouchNothing before exit status
refusal_touches_nothing before exit (Refused why) told status is ran refused = record {
  out = ran.out;
  opened = λ has told. absurd (let clash : false ≡ true = sym ran.no_vault ∙ has in cc);
  unopened = λ none. ran.kept;
}
refusal_touches_nothing before exit (Worked setup ending) told status is ran refused =
    let same = ending_untouched ending ran.task ran.given (world_of exit.after) told ran.did ran.goes (subst (λ n. (n ≡ 2) ⊎ (n ≡ 5)) is refused) in
    record {
      out = same.out ∙ ran.given_out;
      opened = λ has tells. subst (λ did. ChangesBy (effect did).may_stand before.opener.vault exit.after.vault) same.did_is (ran.changes tells);
      unopened = λ none. absurd (let clash : true ≡ false = sym ran.has_vault ∙ none in cc);
    }
refusal_touches_nothing before exit (Exercised answer) told status is ran refused =
    absurd (exercise_not_refused ran.number before.out exit.after.out answer ran.exercises (subst (λ n. (n ≡ 2) ⊎ (n ≡ 5)) is refused))
