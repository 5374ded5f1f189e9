-- What a run did that broke off, or ended early.
use Rattle.std.proofs.Common.{◌==◌, if◌then◌else◌, ◌≡◌, ◌⊎◌, inl, inr, ⊎_elim, ℕ, ◌≤◌, Option, List, [], Bool, true, false, IsTrue, refl, sym, ap, ◌∙◌, subst, arith}
use Rattle.disk_model.specs.Cause.{Rose, RoseBy}
use Rattle.disk_model.specs.Folder.{FolderView}
use Rattle.disk_model.specs.Sink.{SinkView}
use Rattle.disk_model.specs.Vault.{VaultState, copies_of}
use Rattle.file_table.specs.Table.{TableValue}
use Rattle.snap_config.specs.declared.options.Command.{Command}
use Rattle.snap_config.specs.declared.options.Command.TheVariants as commands
use Rattle.array_setup.specs.Setup.{SetupValue}
use Rattle.array_setup.specs.declared.ways.ScrubWay.{ScrubWay}
use Rattle.array_setup.specs.declared.ways.Selection.{Selection}
use Rattle.array_setup.specs.declared.ways.SyncWay.{SyncWay}
use Rattle.snap_report.specs.Answer.{done_answer}
use Rattle.snap_report.specs.StatusText.{bad_in}
use Rattle.snap_report.specs.Telling.{Tells, between}
use Rattle.snap_report.specs.declared.answer.Answer.TheVariants as answers
use Rattle.snap_report.specs.declared.answer.RunFault.{RunFault}
use Rattle.snap_report.specs.declared.answer.RunFault.TheVariants as runs
use Rattle.snap_report.specs.declared.events.Event.{Event}
use Rattle.snap_report.proofs.TellingLemmas.{tells_nothing}
use Rattle.repair_scope.specs.declared.scope.Mode.{Mode}
use Rattle.repair_scope.specs.declared.scope.Mode.TheVariants as modes
use Rattle.snap_top.specs.BrokeOff.{BrokeOff, EndedEarly, RoseOnce, WasRefused, WasUndone, answered, is_undone}
use Rattle.snap_top.specs.Checking.{CheckRefuses, ChecksBy}
use Rattle.snap_top.specs.Does.{DoesCommand}
use Rattle.snap_top.specs.Fixing.{FixBroke, FixesBy}
use Rattle.snap_top.specs.Asked.{IsConfigured}
use Rattle.snap_top.specs.Run.{IsAnswered, IsRun}
use Rattle.snap_top.specs.Entry.{Entry, Exit}
use Rattle.snap_top.specs.Scrubbing.{ScrubBreaks, ScrubsBy}
use Rattle.snap_top.specs.Sync.{BeginsFrom}
use Rattle.snap_top.specs.Syncing.{SyncBreaks, SyncRefuses, SyncsBy}
use Rattle.snap_top.specs.Task.{Left, Task}
use Rattle.snap_top.specs.Did.{Did, reads_only}
use Rattle.snap_top.specs.Views.{World, view_of, world_of}
use Rattle.snap_top.specs.declared.end.Ending.{Ending}
use Rattle.snap_top.specs.declared.end.Ending.TheVariants.{NotLoaded, NoTable, OtherArray, Answered}
use Rattle.snap_top.proofs.OfSyncLemmas.{begins_from, configured_for, given_copies, given_files, given_is, given_tells, start_files, start_folders, start_tells}
use Rattle.snap_top.proofs.RefusalLemmas.{ending_untouched}

-- ---- what breaks off by its command

-- nothing was told or printed
pub record LeftUntold (before after : World) (left : Left) : Type 0 where
  pub untold : left.told ≡ []
  pub out : after.out ≡ before.out

same_out : (before after : World) (folders : List FolderView) → after ≡ record before { folders = folders } → after.out ≡ before.out
same_out before after folders same = ap (λ (w : World). w.out) same

refused_sync : (task : Task) (way : SyncWay) (table : TableValue) (before after : World) (left : Left) (did : Did) → SyncRefuses task way table before after left did → LeftUntold before after left
refused_sync task way table before after left did does = record { untold = ap (λ (l : Left). l.told) does.left_is; out = same_out before after after.folders does.others }

pub sync_broke : (fault : RunFault) (task : Task) (way : SyncWay) (table : TableValue) (before after : World) (left : Left) (did : Did) → SyncsBy (answers.Broken fault) task way table before after left did
    → LeftUntold before after left ⊎ ((fault ≡ runs.Vault) × SyncBreaks task way table before after left did)
sync_broke (runs.Folder disk) task way table before after left did does = inl (refused_sync task way table before after left did does)
sync_broke runs.Vault task way table before after left did does = inr (refl, does)
sync_broke runs.Memory task way table before after left did does = inl (refused_sync task way table before after left did does)

pub scrub_broke : (fault : RunFault) (way : ScrubWay) (task : Task) (table : TableValue) (before after : World) (left : Left) (did : Did) → ScrubsBy (answers.Broken fault) way task table before after left did
    → LeftUntold before after left ⊎ ((fault ≡ runs.Vault) × ScrubBreaks way task table before after left did)
scrub_broke (runs.Folder disk) way task table before after left did does = absurd does
scrub_broke runs.Vault way task table before after left did does = inr (refl, does)
scrub_broke runs.Memory way task table before after left did does = inl (record { untold = ap (λ (l : Left). l.told) does.left_is; out = ap (λ (w : World). w.out) does.untouched })

check_broke : (fault : RunFault) (mode : Mode) (selection : Selection) (task : Task) (table : TableValue) (before after : World) (left : Left) (did : Did)
    → ChecksBy (answers.Broken fault) mode selection task table before after left did → after.out ≡ before.out
check_broke (runs.Folder disk) mode selection task table before after left did does = same_out before after after.folders does.others
check_broke runs.Vault mode selection task table before after left did does = absurd does
check_broke runs.Memory mode selection task table before after left did does = same_out before after after.folders does.others

refused_fix : (before after : World) (left : Left) (did : Did) → CheckRefuses before after left did → LeftUntold before after left
refused_fix before after left did does = record { untold = ap (λ (l : Left). l.told) does.left_is; out = same_out before after after.folders does.others }

pub fix_broke : (fault : RunFault) (selection : Selection) (task : Task) (table : TableValue) (before after : World) (left : Left) (did : Did) → FixesBy (answers.Broken fault) selection task table before after left did
    → LeftUntold before after left ⊎ FixBroke fault selection task table before after left did
fix_broke (runs.Folder disk) selection task table before after left did does = by does
  where
    by : CheckRefuses before after left did ⊎ FixBroke (runs.Folder disk) selection task table before after left did → LeftUntold before after left ⊎ FixBroke (runs.Folder disk) selection task table before after left did
    by (inl refuses) = inl (refused_fix before after left did refuses)
    by (inr breaks) = inr breaks
fix_broke runs.Vault selection task table before after left did does = inr does
fix_broke runs.Memory selection task table before after left did does = inl (refused_fix before after left did does)

-- an engine that is done does not break off
not_done : (why : RunFault) (counted : ℕ) (failed : Bool) → answers.Broken why ≡ done_answer counted failed → ⊥
not_done why counted true same = let clash : answers.Broken why ≡ answers.OutputFailed = same in cc
not_done why counted false same = by (counted == 0) same
  where
    by : (b : Bool) → answers.Broken why ≡ (if b then answers.Clean else answers.Found) → ⊥
    by true is = let clash : answers.Broken why ≡ answers.Clean = is in cc
    by false is = let clash : answers.Broken why ≡ answers.Found = is in cc

-- ---- a run that broke off

-- its command began with the output as it was
pub out_of : (before : Entry) (exit : Exit) (broke : BrokeOff before exit) → (answered broke).start.out ≡ before.out
out_of before exit broke = ap (λ (w : World). w.out) (answered broke).reads.others ∙ broke.ran.given_out

module _ (before : Entry) (exit : Exit) (tells : IsTrue before.opener.tells) (tells_vault : IsTrue before.opener.vault.tells) (broke : BrokeOff before exit) where
  abbrev pub task : Task
  task = broke.ran.task

  abbrev after : World
  after = world_of exit.after

  abbrev pub left : Left
  left = record { answer = answers.Broken broke.fault; named = broke.named; counted = broke.ran.goes.0; told = broke.told }

  abbrev pub one : IsAnswered task broke.ran.given after left broke.ran.did
  one = broke.ran.goes.1

  pub configured : IsConfigured before.texts before.opener task.command task.readers task.setup
  configured = configured_for before exit tells tells_vault broke.setup (Answered left.answer broke.named) broke.told broke.ran task.command refl

  pub out_is : one.start.out ≡ before.out
  out_is = out_of before exit broke

  pub folders_are : one.start.folders ≡ before.opener.folders
  folders_are = start_folders before exit tells tells_vault broke.setup (Answered left.answer broke.named) broke.told broke.ran left one

  pub files_are : one.start.vault.files ≡ before.opener.vault.files
  files_are = start_files before exit tells tells_vault broke.setup (Answered left.answer broke.named) broke.told broke.ran left one

  pub vault_tells : IsTrue one.start.vault.tells
  vault_tells = start_tells before exit tells tells_vault broke.setup (Answered left.answer broke.named) broke.told broke.ran left one

  -- of what began in it
  pub does_as : (command : Command) → task.command ≡ command → DoesCommand command task one.table one.start after left broke.ran.did
  does_as command is = subst (λ (c : Command). DoesCommand c task one.table one.start after left broke.ran.did) is one.does

  -- it printed nothing
  pub printed_nothing : after.out ≡ one.start.out → Tells [] (between false before.out) (between false exit.after.out)
  printed_nothing same = subst (λ (out : SinkView). Tells [] (between false before.out) (between false out)) (sym (same ∙ out_is)) (tells_nothing (between false before.out))

  pub begun : broke.ran.given.vault.faults ≤ one.start.vault.faults
  begun = one.reads.vault.calls.goes_on.later

  pub given_faults : broke.ran.given.vault.faults ≡ before.opener.vault.faults
  given_faults = ap (λ (s : VaultState). s.faults) (given_is before exit tells tells_vault broke.setup (Answered left.answer broke.named) broke.told broke.ran)

  -- where a call failed behind the reading of the copies, and the count rose by one at most, no reading of a copy failed
  pub table_is : Rose one.start.vault.faults exit.after.vault.faults → RoseOnce before exit
      → BeginsFrom task.setup before.seed (copies_of before.opener.vault) before.opener.vault.files one.table
  table_is rose once =
      subst (λ (n : ℕ). BeginsFrom task.setup before.seed n before.opener.vault.files one.table) (given_copies before exit tells tells_vault broke.setup (Answered left.answer broke.named) broke.told broke.ran)
      (subst (λ (seed : List ℕ). BeginsFrom task.setup seed (copies_of (view_of broke.ran.given.vault)) before.opener.vault.files one.table) broke.ran.seed_is
      (begins_from before.opener.vault.files broke.ran.given.vault one.start.vault (given_files before exit tells tells_vault broke.setup (Answered left.answer broke.named) broke.told broke.ran)
      (given_tells before exit tells tells_vault broke.setup (Answered left.answer broke.named) broke.told broke.ran) task.setup task.seed one.loaded one.table one.loads one.begins
      (λ copy failed. once.vault (subst (λ (n : ℕ). RoseBy 2 n exit.after.vault.faults) given_faults (twice broke.ran.given.vault.faults one.start.vault.faults exit.after.vault.faults failed.rose rose)))))
    where
      twice : (a b c : ℕ) → Rose a b → Rose b c → RoseBy 2 a c
      twice a b c first then_too = omega (arith, first, then_too)

-- ---- a run that ended early

-- what is left of a command that broke off
abbrev broken_left : RunFault → Option TableValue → ℕ → List Event → Left
broken_left fault named counted told = record { answer = answers.Broken fault; named = named; counted = counted; told = told }

-- a command that broke off, and did no more than to read
broken_early : (command : Command) (fault : RunFault) (named : Option TableValue) (counted : ℕ) (told : List Event) (task : Task) (table : TableValue) (before after : World) (did : Did)
    → DoesCommand command task table before after (broken_left fault named counted told) did → did ≡ reads_only → after.out ≡ before.out
broken_early commands.List fault named counted told task table before after did does quiet = absurd (not_done fault 0 does.prints.failed does.prints.answer_is)
broken_early commands.Status fault named counted told task table before after did does quiet = absurd (not_done fault (bad_in table.infos) does.prints.failed does.prints.answer_is)
broken_early commands.Dup fault named counted told task table before after did does quiet =
    ⊎_elim (λ alone. absurd (not_done fault 0 alone.prints.failed alone.prints.answer_is)) (λ idle. ap (λ (w : World). w.out) idle.others) does
broken_early (commands.Sync way) fault named counted told task table before after did does quiet =
    by (sync_broke fault task way table before after (broken_left fault named counted told) did does)
  where
    by : LeftUntold before after (broken_left fault named counted told) ⊎ ((fault ≡ runs.Vault) × SyncBreaks task way table before after (broken_left fault named counted told) did) → after.out ≡ before.out
    by (inl untold) = untold.out
    by (inr breaks) = absurd (let clash = sym breaks.1.course.did_is ∙ quiet in cc)
broken_early (commands.Check selection) fault named counted told task table before after did does quiet =
    check_broke fault modes.Check selection task table before after (broken_left fault named counted told) did does
broken_early (commands.Audit selection) fault named counted told task table before after did does quiet =
    check_broke fault modes.Audit selection task table before after (broken_left fault named counted told) did does
broken_early (commands.Fix selection) fault named counted told task table before after did does quiet =
    by (fix_broke fault selection task table before after (broken_left fault named counted told) did does)
  where
    by : LeftUntold before after (broken_left fault named counted told) ⊎ FixBroke fault selection task table before after (broken_left fault named counted told) did → after.out ≡ before.out
    by (inl untold) = untold.out
    by (inr breaks) = absurd (let clash = sym breaks.course.did_is ∙ quiet in cc)
broken_early (commands.Scrub way) fault named counted told task table before after did does quiet =
    by (scrub_broke fault way task table before after (broken_left fault named counted told) did does)
  where
    by : LeftUntold before after (broken_left fault named counted told) ⊎ ((fault ≡ runs.Vault) × ScrubBreaks way task table before after (broken_left fault named counted told) did) → after.out ≡ before.out
    by (inl untold) = untold.out
    by (inr breaks) = absurd (let clash = sym breaks.1.course.did_is ∙ quiet in cc)
broken_early (commands.Exercise n) fault named counted told task table before after did does quiet = absurd does

early_by : (before : Entry) (exit : Exit) (setup : SetupValue) (ending : Ending) (told : List Event) (ran : IsRun before exit setup ending told) → is_undone ending ≡ true → ran.did ≡ reads_only
    → exit.after.out ≡ before.out
early_by before exit setup (NotLoaded fault) told ran undone quiet = ap (λ (w : World). w.out) ran.goes.1.others ∙ ran.given_out
early_by before exit setup NoTable told ran undone quiet = ap (λ (w : World). w.out) ran.goes.1.reads.others ∙ ran.given_out
early_by before exit setup (OtherArray difference content) told ran undone quiet = ap (λ (w : World). w.out) ran.goes.1.reads.others ∙ ran.given_out
early_by before exit setup (Answered answers.Clean named) told ran undone quiet = absurd (let clash : false ≡ true = undone in cc)
early_by before exit setup (Answered answers.Found named) told ran undone quiet = absurd (let clash : false ≡ true = undone in cc)
early_by before exit setup (Answered answers.OutputFailed named) told ran undone quiet = absurd (let clash : false ≡ true = undone in cc)
early_by before exit setup (Answered (answers.Zeroed disk rec) named) told ran undone quiet =
    (ending_untouched (Answered (answers.Zeroed disk rec) named) ran.task ran.given (world_of exit.after) told ran.did ran.goes (inl refl)).out ∙ ran.given_out
early_by before exit setup (Answered (answers.Emptied disk) named) told ran undone quiet =
    (ending_untouched (Answered (answers.Emptied disk) named) ran.task ran.given (world_of exit.after) told ran.did ran.goes (inl refl)).out ∙ ran.given_out
early_by before exit setup (Answered (answers.Full blocks files) named) told ran undone quiet =
    (ending_untouched (Answered (answers.Full blocks files) named) ran.task ran.given (world_of exit.after) told ran.did ran.goes (inl refl)).out ∙ ran.given_out
early_by before exit setup (Answered (answers.Broken fault) named) told ran undone quiet =
    let counted : ℕ = ran.goes.0 in
    let one : IsAnswered ran.task ran.given (world_of exit.after) (broken_left fault named counted told) ran.did = ran.goes.1 in
    broken_early ran.task.command fault named counted told ran.task one.table one.start (world_of exit.after) ran.did one.does quiet
    ∙ ap (λ (w : World). w.out) one.reads.others ∙ ran.given_out

-- it printed nothing
pub early_front : (before : Entry) (exit : Exit) → EndedEarly before exit → exit.after.out ≡ before.out
early_front before exit (WasRefused why told is) = is.out
early_front before exit (WasUndone setup ending told ran undone quiet) = early_by before exit setup ending told ran undone quiet
