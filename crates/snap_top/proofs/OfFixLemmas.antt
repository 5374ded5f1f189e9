-- What a run did, from its end: of which fix it is, if it is none of a sync or a scrub.
use Rattle.std.proofs.Common.{◌≡◌, ◌⊎◌, inl, inr, ⊎_elim, ℕ, ◌*◌, ◌^◌, ◌<◌, List, [], ◌∷◌, ◌++◌, length, get_or, append-nil, Bool, true, false, IsTrue, IfSome, None, Some, refl, sym, ap, ◌∙◌, subst, arith}
use Rattle.std.proofs.lemmas.List.Elements.{All-cons}
use Rattle.disk_model.specs.Bytes.{read_from}
use Rattle.disk_model.specs.Cause.{Rose}
use Rattle.disk_model.specs.Files.{Files, parity_of}
use Rattle.disk_model.specs.Folder.{FolderView}
use Rattle.disk_model.specs.Vault.{VaultView, VaultState, SomeCalls}
use Rattle.file_table.specs.Table.{TableValue}
use Rattle.file_table.specs.Valid.{IsValid}
use Rattle.parity_writer.specs.LevelReading.{LevelReading, IsReadingOf}
use Rattle.parity_writer.specs.LevelsValue.{no_level}
use Rattle.parity_writer.specs.Sound.{Sound, Closed, last_row}
use Rattle.array_setup.specs.Setup.{SetupValue}
use Rattle.snap_config.specs.declared.options.Command.{Command}
use Rattle.snap_config.specs.declared.options.Command.TheVariants as commands
use Rattle.array_setup.specs.declared.ways.Selection.{Selection}
use Rattle.stripe_examiner.specs.Facts.{StripeFacts}
use Rattle.snap_fix.specs.Fixing.{facts_of}
use Rattle.snap_fix.specs.Genuine.{AreGenuine, AreGenuineOf, AreLevelsIn, IsLevelOf}
use Rattle.stripe_examiner.specs.Looking.{AreAllLevelsOf, numbers_of}
use Rattle.repair_scope.specs.Plan.{stripes_of}
use Rattle.stripe_examiner.specs.Place.{starts_of}
use Rattle.repair_scope.specs.declared.scope.Mode.{Mode}
use Rattle.repair_scope.specs.declared.scope.Mode.TheVariants as modes
use Rattle.snap_report.specs.declared.answer.Answer.{Answer}
use Rattle.snap_report.specs.declared.answer.Answer.TheVariants as answers
use Rattle.snap_report.specs.declared.answer.RunFault.{RunFault}
use Rattle.snap_report.specs.declared.answer.RunFault.TheVariants as runs
use Rattle.snap_report.specs.declared.events.Event.{Event}
use Rattle.snap_sync.specs.Part.{SyncRun}
use Rattle.snap_sync.specs.Soundness.{AreSound, IsLoadedFrom}
use Rattle.snap_top.specs.Checking.{ChecksBy}
use Rattle.snap_top.specs.Does.{DoesCommand, PrintsOrStays}
use Rattle.snap_top.specs.Dup.{dup_text}
use Rattle.snap_top.specs.Fix.{AllFixed, FixRun, FixesOver, IsGenuineFix}
use Rattle.snap_top.specs.Fixing.{FixBroke, FixCourse, FixEnds, FixesBy, fix_of as run_fixed}
use Rattle.snap_top.specs.Began.{IsFixOf, IsScrubOf, IsSyncOf}
use Rattle.snap_top.specs.Run.{IsAnswered, IsRun}
use Rattle.snap_top.specs.Entry.{Entry, Exit}
use Rattle.snap_top.specs.Scrub.{ScrubRun}
use Rattle.snap_top.specs.Task.{Task, Left}
use Rattle.snap_top.specs.Effect.{effect}
use Rattle.snap_top.specs.Did.{Did, fixes, reads_only, scrubs, syncs}
use Rattle.snap_top.specs.Views.{World, view_of, world_of}
use Rattle.snap_top.specs.declared.end.Ending.{Ending}
use Rattle.snap_top.specs.declared.end.Ending.TheVariants.{NotLoaded, NoTable, OtherArray, Answered}
use Rattle.snap_top.proofs.OfScrubLemmas.{HasScrubCourse, reading_held, scrub_did, scrub_is}
use Rattle.snap_top.proofs.OfSyncLemmas.{KeepsItsStripes, HasCourse, configured_for, given_files, given_folders, given_is, start_folders, sync_broke, sync_did, sync_of, table_among, table_loading, table_loaded}

-- ---- what a command did: it only read, it synced, it fixed, or it scrubbed

-- where all were looked at, none is behind them
pub all_looked_at : (numbers all : List ℕ) → numbers ≡ all → all ≡ numbers ++ []
all_looked_at numbers all are = sym are ∙ sym (append-nil numbers)

pub record HasFixCourse (command : Command) (task : Task) (table : TableValue) (before after : World) (did : Did) : Type 0 where
  pub selection : Selection
  pub command_is : command ≡ commands.Fix selection
  pub failed : Bool
  pub course : FixCourse selection task table failed before after did
  pub behind : List ℕ
  pub numbers : stripes_of course.plan ≡ numbers_of (facts_of course.stripes) ++ behind
  pub calls : SomeCalls (view_of before.vault) (view_of after.vault)

ended_course : (selection : Selection) (task : Task) (table : TableValue) (before after : World) (left : Left) (did : Did) → FixEnds selection task table before after left did → HasFixCourse (commands.Fix selection) task table before after did
ended_course selection task table before after left did ends = record {
  selection = selection;
  command_is = refl;
  failed = false;
  course = ends.course;
  behind = [];
  numbers = all_looked_at (numbers_of (facts_of ends.course.stripes)) (stripes_of ends.course.plan) ends.numbers;
  calls = ends.vault.mends.calls;
}

broken_course : (why : RunFault) (selection : Selection) (task : Task) (table : TableValue) (before after : World) (left : Left) (did : Did) → FixBroke why selection task table before after left did → HasFixCourse (commands.Fix selection) task table before after did
broken_course why selection task table before after left did broke = record {
  selection = selection;
  command_is = refl;
  failed = true;
  course = broke.course;
  behind = broke.behind;
  numbers = broke.numbers;
  calls = broke.vault.calls;
}

fix_did : (answer : Answer) (selection : Selection) (task : Task) (table : TableValue) (before after : World) (left : Left) (did : Did) → FixesBy answer selection task table before after left did
    → (did ≡ reads_only) ⊎ HasFixCourse (commands.Fix selection) task table before after did
fix_did answers.Clean selection task table before after left did does = inr (ended_course selection task table before after left did does)
fix_did answers.Found selection task table before after left did does = inr (ended_course selection task table before after left did does)
fix_did answers.OutputFailed selection task table before after left did does = inr (ended_course selection task table before after left did does)
fix_did (answers.Zeroed disk rec) selection task table before after left did does = absurd does
fix_did (answers.Emptied disk) selection task table before after left did does = absurd does
fix_did (answers.Full blocks files) selection task table before after left did does = absurd does
fix_did (answers.Broken (runs.Folder disk)) selection task table before after left did does = ⊎_elim
    (λ refuses. inl refuses.did_is)
    (λ broke. inr (broken_course (runs.Folder disk) selection task table before after left did broke))
    does
fix_did (answers.Broken runs.Vault) selection task table before after left did does = inr (broken_course runs.Vault selection task table before after left did does)
fix_did (answers.Broken runs.Memory) selection task table before after left did does = inl does.did_is

-- a check only reads
pub check_did : (answer : Answer) (mode : Mode) (selection : Selection) (task : Task) (table : TableValue) (before after : World) (left : Left) (did : Did) → ChecksBy answer mode selection task table before after left did → did ≡ reads_only
check_did answers.Clean mode selection task table before after left did does = does.did_is
check_did answers.Found mode selection task table before after left did does = does.did_is
check_did answers.OutputFailed mode selection task table before after left did does = does.did_is
check_did (answers.Zeroed disk rec) mode selection task table before after left did does = absurd does
check_did (answers.Emptied disk) mode selection task table before after left did does = absurd does
check_did (answers.Full blocks files) mode selection task table before after left did does = absurd does
check_did (answers.Broken (runs.Folder disk)) mode selection task table before after left did does = does.did_is
check_did (answers.Broken runs.Vault) mode selection task table before after left did does = absurd does
check_did (answers.Broken runs.Memory) mode selection task table before after left did does = does.did_is

pub printing_did : (text : List ℕ) (counted : ℕ) (before after : World) (left : Left) (did : Did) → PrintsOrStays text counted before after left did → did ≡ reads_only
printing_did text counted before after left did does = ⊎_elim (λ alone. alone.did_is) (λ idle. idle.did_is) does

abbrev WentOn : Command → Task → TableValue → World → World → Left → Did → Type 0
WentOn command task table before after left did =
    HasCourse command task table before after left did ⊎ (HasFixCourse command task table before after did ⊎ HasScrubCourse command task table before after left did)

pub command_did : (command : Command) (task : Task) (table : TableValue) (before after : World) (left : Left) (did : Did) → DoesCommand command task table before after left did
    → (did ≡ reads_only) ⊎ WentOn command task table before after left did
command_did commands.List task table before after left did does = inl does.did_is
command_did commands.Status task table before after left did does = inl does.did_is
command_did commands.Dup task table before after left did does = inl (printing_did (dup_text table) 0 before after left did does)
command_did (commands.Sync way) task table before after left did does = ⊎_elim
    (λ read. inl read)
    (λ course. inr (inl (record { way = way; command_is = refl; failed = course.0; course = course.1 })))
    (sync_did left.answer task way table before after left did does)
command_did (commands.Scrub way) task table before after left did does = ⊎_elim
    (λ read. inl read)
    (λ course. inr (inr (inr (record { way = way; command_is = refl; failed = course.0; course = course.1 }))))
    (scrub_did left.answer way task table before after left did does)
command_did (commands.Check selection) task table before after left did does = inl (check_did left.answer modes.Check selection task table before after left did does)
command_did (commands.Audit selection) task table before after left did does = inl (check_did left.answer modes.Audit selection task table before after left did does)
command_did (commands.Fix selection) task table before after left did does = ⊎_elim
    (λ read. inl read)
    (λ course. inr (inr (inl course)))
    (fix_did left.answer selection task table before after left did does)
command_did (commands.Exercise n) task table before after left did does = absurd does

-- ---- the fix of a run

-- what was read of levels, by a vault that holds the same
module _ (block_size : ℕ) (held read : VaultView) (tells : IsTrue held.tells → IsTrue read.tells) (files : IsTrue held.tells → read.files ≡ held.files) where
  pub levels_held : (stripes : List StripeFacts) (readings : List (List LevelReading)) → AreAllLevelsOf block_size read stripes readings → AreAllLevelsOf block_size held stripes readings
  levels_held [] [] are = tt
  levels_held [] (of ∷ readings) are = absurd are
  levels_held (facts ∷ stripes) [] are = absurd are
  levels_held (facts ∷ stripes) (of ∷ readings) (first, rest) = (
    record { as_many = first.as_many; are_kept = first.are_kept; are_of = λ r below. reading_held block_size held read tells files facts.stripe r (get_or of r None) (first.are_of r below) },
    levels_held stripes readings rest,
  )

-- what a run did is to read, to sync, to fix, or to scrub
pub record HasSync (before : Entry) (exit : Exit) (did : Did) : Type 0 where
  pub failed : Bool
  pub run : SyncRun
  pub did_is : did ≡ syncs failed run
  pub is_sync : IsSyncOf before exit run
  pub broke : IsTrue failed → Rose is_sync.loading.at.faults exit.after.vault.faults

pub record HasFix (before : Entry) (exit : Exit) (did : Did) : Type 0 where
  pub failed : Bool
  pub run : FixRun
  pub did_is : did ≡ fixes failed run
  pub is_fix : IsFixOf before exit run

pub record HasScrub (before : Entry) (exit : Exit) (did : Did) : Type 0 where
  pub failed : Bool
  pub run : ScrubRun
  pub did_is : did ≡ scrubs failed run
  pub is_scrub : IsScrubOf before exit run

module _ (before : Entry) (exit : Exit) (tells : IsTrue before.opener.tells) (tells_vault : IsTrue before.opener.vault.tells) where
  -- it is that which its command ran from the table that was loaded
  module _ (setup : SetupValue) (ending : Ending) (told : List Event) (ran : IsRun before exit setup ending told) (left : Left) (one : IsAnswered ran.task ran.given (world_of exit.after) left ran.did) where
    pub fix_of : (course_of : HasFixCourse ran.task.command ran.task one.table one.start (world_of exit.after) ran.did)
        → (let course = course_of.course in
        IsFixOf before exit (run_fixed course_of.selection ran.task one.table one.start (world_of exit.after) course.lists course.listed course.plan course.stripes course.readings))
    fix_of course_of =
        let course = course_of.course in
        let finds = course.finds in
        let fixed : FixRun = run_fixed course_of.selection ran.task one.table one.start (world_of exit.after) course.lists course.listed course.plan course.stripes course.readings in
        let given_tells : IsTrue ran.given.vault.tells = ap (λ (s : VaultState). s.tells) (given_is before exit tells tells_vault setup ending told ran) ∙ tells_vault in
        record {
          readers = ran.task.readers;
          configured = configured_for before exit tells tells_vault setup ending told ran (commands.Fix course_of.selection) course_of.command_is;
          folders_are = start_folders before exit tells tells_vault setup ending told ran left one;
          ended_is = refl;
          begins = table_among before exit tells tells_vault setup ending told ran left one;
          over = record {
            valid = one.valid;
            is_loaded = table_loaded before exit tells tells_vault setup ending told ran left one;
            columns = one.columns;
            as_many = course.as_many;
            listed = course.lists_are;
            plan_is = course.plan_is;
            behind = course_of.behind;
            numbers = course_of.numbers;
            finds = record {
              are = finds.are;
              cells = finds.cells;
              levels = levels_held course.plan.table.shape.block_size before.opener.vault (view_of one.start.vault)
                  (λ held. one.reads.vault.calls.goes_on.tells ∙ given_tells)
                  (λ held. one.reads.vault.files given_tells ∙ given_files before exit tells tells_vault setup ending told ran)
                  (facts_of course.stripes) course.readings finds.levels;
              answered = finds.answered;
            };
            no_gifts = course.no_gifts;
          };
          makes = subst (λ (olds : List FolderView). AllFixed fixed olds exit.after.folders) (given_folders before exit tells tells_vault setup ending told ran)
              (subst (λ (did : Did). (effect did).folders_after ran.given.folders exit.after.folders) course.did_is ran.keeps.folders);
          loading = table_loading before exit tells tells_vault setup ending told ran left one course_of.calls;
        }

  pub run_did : KeepsItsStripes → before.moment < 2 ^ 64 → (setup : SetupValue) (ending : Ending) (told : List Event) (ran : IsRun before exit setup ending told) → (ran.did ≡ reads_only) ⊎ (HasSync before exit ran.did ⊎ (HasFix before exit ran.did ⊎ HasScrub before exit ran.did))
  run_did keeps in_time setup (NotLoaded fault) told ran = inl ran.goes.0.1
  run_did keeps in_time setup NoTable told ran = inl ran.goes.0.1
  run_did keeps in_time setup (OtherArray difference content) told ran = inl ran.goes.0.1
  run_did keeps in_time setup (Answered answer named) told ran =
      let left : Left = record { answer = answer; named = named; counted = ran.goes.0; told = told } in
      let one : IsAnswered ran.task ran.given (world_of exit.after) left ran.did = ran.goes.1 in
      ⊎_elim (λ read. inl read) (λ went. inr (⊎_elim
      (λ course_of. inl (record {
        failed = course_of.failed;
        run = _;
        did_is = course_of.course.did_is;
        is_sync = sync_of before exit tells tells_vault setup (Answered answer named) told ran left one keeps in_time course_of;
        broke = sync_broke before exit tells tells_vault setup (Answered answer named) told ran left one keeps in_time course_of;
      }))
      (λ went. inr (⊎_elim
      (λ course_of. inl (record {
        failed = course_of.failed;
        run = _;
        did_is = course_of.course.did_is;
        is_fix = fix_of setup (Answered answer named) told ran left one course_of;
      }))
      (λ course_of. inr (record {
        failed = course_of.failed;
        run = _;
        did_is = course_of.course.did_is;
        is_scrub = scrub_is before exit tells tells_vault setup (Answered answer named) told ran left one in_time course_of;
      }))
      went))
      went)) (command_did ran.task.command ran.task one.table one.start (world_of exit.after) left ran.did one.does)

-- ---- what it met is genuine

-- what is kept of the levels of its stripes is of the vault's files
pub levels_in : (block_size : ℕ) (v : VaultView) (stripes : List StripeFacts) (readings : List (List LevelReading)) → IsTrue v.tells → AreAllLevelsOf block_size v stripes readings → AreLevelsIn block_size v.files stripes
levels_in block_size v [] [] tells are = λ k d below. absurd (omega (arith, below))
levels_in block_size v [] (of ∷ readings) tells are = absurd are
levels_in block_size v (facts ∷ stripes) [] tells are = absurd are
levels_in block_size v (facts ∷ stripes) (of ∷ readings) tells (first, rest) =
    All-cons (λ (facts' : StripeFacts). (r : ℕ) → r < length facts'.levels → IsLevelOf block_size facts'.stripe r v.files (get_or facts'.levels r no_level)) facts stripes
    (λ r below. record { reading = get_or of r None; is_kept = first.are_kept r below; is_of = by facts.stripe r (get_or of r None) (first.are_of r below) })
    (levels_in block_size v stripes readings tells rest)
  where
    by : (stripe r : ℕ) (reading : LevelReading) → IsReadingOf v block_size stripe r reading → IfSome reading (λ (bytes : List ℕ). bytes ≡ read_from (parity_of v.files r) (stripe * block_size) block_size)
    by stripe r None is = tt
    by stripe r (Some bytes) is = is.1 tells

-- the table that was loaded is sound, where all copies are
pub loaded_sound : (copies : ℕ) (table : TableValue) (files : Files) (snapshot : Closed) (is_changed : ℕ → ℕ → Bool) → IsValid table → IsLoadedFrom copies table files → AreSound copies files snapshot is_changed → Sound table files snapshot is_changed
loaded_sound copies table files snapshot is_changed valid (inl copy) are = are copy.0 table copy.1 valid copy.2
loaded_sound copies table files snapshot is_changed valid (inr none) are = record {
  was_closed = λ stripe synced. absurd (none stripe synced);
  rows = λ stripe cells synced is. absurd (none stripe synced);
  sums = λ stripe level synced below unchanged. absurd (none stripe synced);
}

-- where that table is sound, what was met is genuine
pub genuine_by : (copies : ℕ) (vault : VaultView) (run : FixRun) (snapshot : Closed) (is_changed : ℕ → ℕ → Bool) → IsTrue vault.tells → FixesOver copies vault run → Sound run.loaded vault.files snapshot is_changed
    → AreGenuine run.plan (last_row snapshot) (facts_of run.stripes) → AreGenuineOf run.plan (starts_of run.loaded run.lists) run.listed vault.files snapshot is_changed (facts_of run.stripes)
genuine_by copies vault run snapshot is_changed tells over sound genuine = record {
  valid = subst IsValid (sym over.plan_is.table_is) over.valid;
  are = over.finds.are;
  present = over.finds.cells;
  levels = levels_in run.plan.table.shape.block_size vault (facts_of run.stripes) run.readings tells over.finds.levels;
  sound = subst (λ (t : TableValue). Sound t vault.files snapshot is_changed) (sym over.plan_is.table_is) sound;
  genuine = genuine;
}

pub genuine_of : (copies : ℕ) (vault : VaultView) (run : FixRun) (snapshot : Closed) (is_changed : ℕ → ℕ → Bool) → IsTrue vault.tells → FixesOver copies vault run → IsGenuineFix run copies vault.files snapshot
    → AreSound copies vault.files snapshot is_changed → AreGenuineOf run.plan (starts_of run.loaded run.lists) run.listed vault.files snapshot is_changed (facts_of run.stripes)
genuine_of copies vault run snapshot is_changed tells over supposed sound =
    genuine_by copies vault run snapshot is_changed tells over (loaded_sound copies run.loaded vault.files snapshot is_changed over.valid over.is_loaded sound) supposed.genuine
