-- What a run leaves unwritten, from its end.
use Rattle.std.proofs.Common.{◌≡◌, ◌⊎◌, inl, inr, ℕ, ◌<◌, List, [], length, Some, Bool, true, false, Ok, arith, ap, sym, ◌∙◌, subst}
use Rattle.disk_model.specs.Cause.{WriteCount}
use Rattle.disk_model.specs.Folder.{FolderView}
use Rattle.disk_model.specs.Opener.{SameVault}
use Rattle.disk_model.specs.Vault.{VaultView, state_of}
use Rattle.file_table.specs.Table.{TableValue}
use Rattle.array_setup.specs.Setup.{SetupValue, setup_value}
use Rattle.snap_config.specs.declared.options.Command.{Command}
use Rattle.snap_config.specs.declared.options.Command.TheVariants as commands
use Rattle.snap_config.specs.declared.options.Options.{Options}
use Rattle.array_setup.specs.declared.ways.ScrubWay.{ScrubWay}
use Rattle.array_setup.specs.declared.ways.Selection.{Selection}
use Rattle.array_setup.specs.declared.ways.SyncWay.{SyncWay}
use Rattle.repair_scope.specs.declared.scope.Mode.{Mode}
use Rattle.repair_scope.specs.declared.scope.Mode.TheVariants as modes
use Rattle.snap_report.specs.declared.answer.Answer.{Answer}
use Rattle.snap_report.specs.declared.answer.Answer.TheVariants.{Clean, Found, OutputFailed, Zeroed, Emptied, Full, Broken}
use Rattle.snap_report.specs.declared.answer.RunFault.TheVariants.{Folder, Vault, Memory}
use Rattle.snap_report.specs.declared.events.Event.{Event}
use Rattle.snap_top.specs.Checking.{ChecksBy}
use Rattle.snap_top.specs.Does.{DoesCommand}
use Rattle.snap_top.specs.End.{status_of, ending_status}
use Rattle.snap_top.specs.Levels.{by_parts, is_split}
use Rattle.snap_top.specs.Asked.{asked_by}
use Rattle.snap_top.specs.Run.{Goes, IsRun, Ran, setup_of}
use Rattle.snap_top.specs.Entry.{Entry, entry_by, Exit, exit_by}
use Rattle.snap_top.specs.Scrubbing.{ScrubsBy}
use Rattle.snap_top.specs.Syncing.{SyncsBy}
use Rattle.snap_top.specs.Task.{Task, Left}
use Rattle.snap_top.specs.Effect.{effect}
use Rattle.snap_top.specs.Did.{Did, fixes, reads_only, scrubs, syncs}
use Rattle.snap_top.specs.Unwritten.{writes_array, writes_files, VaultIsUnwritten, FoldersAreUnwritten, HeldAreUnwritten, WritesAsAsked}
use Rattle.snap_top.specs.Views.{World, world_of, AllReadOnly}
use Rattle.snap_top.specs.declared.end.End.{End}
use Rattle.snap_top.specs.declared.end.End.TheVariants.{Exercised, Refused, Worked}
use Rattle.snap_top.specs.declared.end.Ending.{Ending}
use Rattle.snap_top.specs.declared.end.Ending.TheVariants.{NotLoaded, NoTable, OtherArray, Answered}
use Rattle.snap_top.proofs.CompleteLemmas.{same_ok}
use Rattle.snap_top.proofs.RefusalLemmas.{ending_untouched}

-- ---- a command that was carried out

check_reads : (answer : Answer) (mode : Mode) (selection : Selection) (task : Task) (table : TableValue) (start after : World) (left : Left) (did : Did) → ChecksBy answer mode selection task table start after left did → did ≡ reads_only
check_reads Clean mode selection task table start after left did does = does.did_is
check_reads Found mode selection task table start after left did does = does.did_is
check_reads OutputFailed mode selection task table start after left did does = does.did_is
check_reads (Zeroed disk rec) mode selection task table start after left did does = absurd does
check_reads (Emptied disk) mode selection task table start after left did does = absurd does
check_reads (Full blocks files) mode selection task table start after left did does = absurd does
check_reads (Broken (Folder disk)) mode selection task table start after left did does = does.did_is
check_reads (Broken Vault) mode selection task table start after left did does = absurd does
check_reads (Broken Memory) mode selection task table start after left did does = does.did_is

command_reads : (command : Command) (task : Task) (table : TableValue) (start after : World) (left : Left) (did : Did) → DoesCommand command task table start after left did → writes_array command ≡ false → did ≡ reads_only
command_reads commands.List task table start after left did does none = does.did_is
command_reads commands.Status task table start after left did does none = does.did_is
command_reads commands.Dup task table start after left did (inl alone) none = alone.did_is
command_reads commands.Dup task table start after left did (inr idle) none = idle.did_is
command_reads (commands.Sync way) task table start after left did does none = absurd (let clash : true ≡ false = none in cc)
command_reads (commands.Check selection) task table start after left did does none = check_reads left.answer modes.Check selection task table start after left did does
command_reads (commands.Audit selection) task table start after left did does none = check_reads left.answer modes.Audit selection task table start after left did does
command_reads (commands.Fix selection) task table start after left did does none = absurd (let clash : true ≡ false = none in cc)
command_reads (commands.Scrub way) task table start after left did does none = absurd (let clash : true ≡ false = none in cc)
command_reads (commands.Exercise n) task table start after left did does none = absurd does

sync_fixes : (answer : Answer) (task : Task) (way : SyncWay) (table : TableValue) (start after : World) (left : Left) (did : Did) → SyncsBy answer task way table start after left did → (effect did).writes_files ≡ false
sync_fixes Clean task way table start after left did does = ap (λ (did : Did). (effect did).writes_files) does.course.did_is
sync_fixes Found task way table start after left did does = ap (λ (did : Did). (effect did).writes_files) does.course.did_is
sync_fixes OutputFailed task way table start after left did does = ap (λ (did : Did). (effect did).writes_files) does.course.did_is
sync_fixes (Zeroed disk rec) task way table start after left did does = ap (λ (did : Did). (effect did).writes_files) does.did_is
sync_fixes (Emptied disk) task way table start after left did does = ap (λ (did : Did). (effect did).writes_files) does.did_is
sync_fixes (Full blocks files) task way table start after left did does = ap (λ (did : Did). (effect did).writes_files) does.did_is
sync_fixes (Broken (Folder disk)) task way table start after left did does = ap (λ (did : Did). (effect did).writes_files) does.did_is
sync_fixes (Broken Vault) task way table start after left did does = ap (λ (did : Did). (effect did).writes_files) does.course.did_is
sync_fixes (Broken Memory) task way table start after left did does = ap (λ (did : Did). (effect did).writes_files) does.did_is

scrub_fixes : (answer : Answer) (way : ScrubWay) (task : Task) (table : TableValue) (start after : World) (left : Left) (did : Did) → ScrubsBy answer way task table start after left did → (effect did).writes_files ≡ false
scrub_fixes Clean way task table start after left did does = ap (λ (did : Did). (effect did).writes_files) does.course.did_is
scrub_fixes Found way task table start after left did does = ap (λ (did : Did). (effect did).writes_files) does.course.did_is
scrub_fixes OutputFailed way task table start after left did does = ap (λ (did : Did). (effect did).writes_files) does.course.did_is
scrub_fixes (Zeroed disk rec) way task table start after left did does = absurd does
scrub_fixes (Emptied disk) way task table start after left did does = absurd does
scrub_fixes (Full blocks files) way task table start after left did does = absurd does
scrub_fixes (Broken (Folder disk)) way task table start after left did does = absurd does
scrub_fixes (Broken Vault) way task table start after left did does = ap (λ (did : Did). (effect did).writes_files) does.course.did_is
scrub_fixes (Broken Memory) way task table start after left did does = ap (λ (did : Did). (effect did).writes_files) does.did_is

command_fixes : (command : Command) (task : Task) (table : TableValue) (start after : World) (left : Left) (did : Did) → DoesCommand command task table start after left did → writes_files command ≡ false → (effect did).writes_files ≡ false
command_fixes commands.List task table start after left did does none = ap (λ (did : Did). (effect did).writes_files) does.did_is
command_fixes commands.Status task table start after left did does none = ap (λ (did : Did). (effect did).writes_files) does.did_is
command_fixes commands.Dup task table start after left did (inl alone) none = ap (λ (did : Did). (effect did).writes_files) alone.did_is
command_fixes commands.Dup task table start after left did (inr idle) none = ap (λ (did : Did). (effect did).writes_files) idle.did_is
command_fixes (commands.Sync way) task table start after left did does none = sync_fixes left.answer task way table start after left did does
command_fixes (commands.Check selection) task table start after left did does none = ap (λ (did : Did). (effect did).writes_files) (check_reads left.answer modes.Check selection task table start after left did does)
command_fixes (commands.Audit selection) task table start after left did does none = ap (λ (did : Did). (effect did).writes_files) (check_reads left.answer modes.Audit selection task table start after left did does)
command_fixes (commands.Fix selection) task table start after left did does none = absurd (let clash : true ≡ false = none in cc)
command_fixes (commands.Scrub way) task table start after left did does none = scrub_fixes left.answer way task table start after left did does
command_fixes (commands.Exercise n) task table start after left did does none = absurd does

-- ---- a run that opened its array

ending_reads : (ending : Ending) (task : Task) (given after : World) (told : List Event) (did : Did) → Goes task given after ending told did → writes_array task.command ≡ false → did ≡ reads_only
ending_reads (NotLoaded fault) task given after told did goes none = goes.0.1
ending_reads NoTable task given after told did goes none = goes.0.1
ending_reads (OtherArray difference content) task given after told did goes none = goes.0.1
ending_reads (Answered answer named) task given after told did goes none = let one = goes.1 in command_reads task.command task one.table one.start after _ did one.does none

ending_fixes : (ending : Ending) (task : Task) (given after : World) (told : List Event) (did : Did) → Goes task given after ending told did → writes_files task.command ≡ false → (effect did).writes_files ≡ false
ending_fixes (NotLoaded fault) task given after told did goes none = ap (λ (did : Did). (effect did).writes_files) goes.0.1
ending_fixes NoTable task given after told did goes none = ap (λ (did : Did). (effect did).writes_files) goes.0.1
ending_fixes (OtherArray difference content) task given after told did goes none = ap (λ (did : Did). (effect did).writes_files) goes.0.1
ending_fixes (Answered answer named) task given after told did goes none = let one = goes.1 in command_fixes task.command task one.table one.start after _ did one.does none

folders_read : (did : Did) (olds news : List FolderView) → (effect did).writes_files ≡ false → (effect did).folders_after olds news → AllReadOnly olds news
folders_read reads_only olds news none reads = reads
folders_read (syncs failed run) olds news none reads = reads
folders_read (fixes failed run) olds news none reads = absurd (let clash : true ≡ false = none in cc)
folders_read (scrubs failed run) olds news none reads = reads

-- the count by levels is that of all files
count_by_parts : (split : Bool) (parts : List ℕ) (capacity : ℕ) (held left : VaultView) → (by_parts split parts capacity left).writes ≡ (by_parts split parts capacity held).writes → left.writes.count ≡ held.writes.count
count_by_parts true parts capacity held left same = ap (λ (w : WriteCount). w.count) same
count_by_parts false parts capacity held left same = ap (λ (w : WriteCount). w.count) same

module _ (before : Entry) (exit : Exit) (setup : SetupValue) (ending : Ending) (told : List Event) (ran : IsRun (entry_by (Some setup) before) (exit_by (Some setup) exit) setup ending told) where
  vault_unwritten : ran.did ≡ reads_only → VaultIsUnwritten before exit
  vault_unwritten is =
      count_by_parts (is_split setup.parts) setup.parts setup.split before.opener.vault exit.after.vault
      (subst (λ (did : Did). (effect did).vault_after ran.given.vault (world_of (exit_by (Some setup) exit).after).vault) is ran.keeps.writes ∙ ran.is_given.state.writes)

  folders_unwritten : (effect ran.did).writes_files ≡ false → FoldersAreUnwritten before exit
  folders_unwritten none d below =
      let read = folders_read ran.did ran.given.folders exit.after.folders none ran.keeps.folders in
      let within : d < length ran.given.folders = let count = read.count in omega (arith, below, count) in
      (read.each d within).unwritten ∙ (ran.is_given.each d within).writes

  -- it is the command of the words
  same_command : (asked : Options) → asked_by before.texts ≡ Ok asked → ran.task.command ≡ asked.command
  same_command asked words =
      let its = ran.is_given.configured in
      its.command_is ∙ ap (λ (a : Options). a.command) (same_ok (asked_by before.texts) its.asked asked its.read words)

  run_writes : (status : ℕ) → status ≡ ending_status ending → WritesAsAsked before exit status
  run_writes status is = record {
    vault = λ asked words none. vault_unwritten (ending_reads ending ran.task ran.given (world_of (exit_by (Some setup) exit).after) told ran.did ran.goes (ap writes_array (same_command asked words) ∙ none));
    folders = λ asked words none. folders_unwritten (ending_fixes ending ran.task ran.given (world_of (exit_by (Some setup) exit).after) told ran.did ran.goes (ap writes_files (same_command asked words) ∙ none));
    refused = λ refused.
        let same = ending_untouched ending ran.task ran.given (world_of (exit_by (Some setup) exit).after) told ran.did ran.goes (subst (λ (n : ℕ). (n ≡ 2) ⊎ (n ≡ 5)) is refused) in
        (vault_unwritten same.did_is, folders_unwritten (ap (λ (did : Did). (effect did).writes_files) same.did_is));
    unopened = λ none. absurd (let clash : true ≡ false = sym ran.has_vault ∙ none in cc);
  }

-- ---- a run that opened nothing

unopened_writes : (before : Entry) (exit : Exit) (status : ℕ) (told : Bool) → exit.after.folders ≡ [] → SameVault told before.opener.vault exit.after.vault → HeldAreUnwritten before exit → WritesAsAsked before exit status
unopened_writes before exit status told none same held = record {
  vault = λ asked words reads. vault;
  folders = λ asked words reads. folders;
  refused = λ refused. (vault, folders);
  unopened = λ no_vault. (vault, held);
}
  where
    vault : VaultIsUnwritten before exit
    vault = ap (λ (w : WriteCount). w.count) same.writes

    folders : FoldersAreUnwritten before exit
    folders d below = absurd (let many = ap length none in omega (arith, below, many))

pub writes_as_asked : (before : Entry) (exit : Exit) (end : End) (told : List Event) (status : ℕ) → status ≡ status_of end → Ran (entry_by (setup_of end) before) (exit_by (setup_of end) exit) end told → WritesAsAsked before exit status
writes_as_asked before exit (Refused why) told status is ran = unopened_writes before exit status before.opener.tells ran.folders ran.vault ran.kept.array.folder_writes
writes_as_asked before exit (Worked setup ending) told status is ran = run_writes before exit (setup_value setup) ending told ran status is
writes_as_asked before exit (Exercised answer) told status is ran = unopened_writes before exit status before.opener.tells ran.folders ran.vault ran.kept.array.folder_writes
