-- Of which scrub a run is, and what stands at each moment of it.
use Rattle.std.proofs.Common.{◌≡◌, ◌⊎◌, inl, inr, ⊎_elim, ℕ, ◌*◌, ◌^◌, ◌<◌, List, [], ◌∷◌, get_or, Bool, true, false, IsTrue, None, Some, refl, sym, ap, ◌∙◌, subst}
use Rattle.std.proofs.lemmas.List.Elements.{All-weaker}
use Rattle.disk_model.specs.Bytes.{read_from}
use Rattle.disk_model.specs.Files.{Files, content_of, parity_of}
use Rattle.disk_model.specs.Vault.{VaultView}
use Rattle.file_table.specs.Table.{TableValue}
use Rattle.file_table.specs.Valid.{IsValid}
use Rattle.parity_writer.specs.LevelReading.{LevelReading, IsReadingOf}
use Rattle.parity_writer.specs.Parity.{HasLevel}
use Rattle.parity_writer.specs.Sound.{Sound, Closed, last_row}
use Rattle.array_setup.specs.Setup.{SetupValue}
use Rattle.snap_config.specs.declared.options.Command.{Command}
use Rattle.snap_config.specs.declared.options.Command.TheVariants as commands
use Rattle.array_setup.specs.declared.ways.ScrubWay.{ScrubWay}
use Rattle.snap_report.specs.declared.answer.Answer.{Answer}
use Rattle.snap_report.specs.declared.answer.Answer.TheVariants as answers
use Rattle.snap_report.specs.declared.answer.RunFault.TheVariants as runs
use Rattle.snap_report.specs.declared.events.Event.{Event}
use Rattle.snap_scrub.specs.Course.{MayStandScrubbed}
use Rattle.snap_scrub.specs.Marks.{scrubbed}
use Rattle.snap_scrub.specs.Plan.{plan_of}
use Rattle.snap_scrub.specs.Reading.{AreLevelsOf, ScrubReading, cells_of}
use Rattle.snap_sync.specs.Soundness.{AreSound}
use Rattle.stripe_findings.specs.Reading.{stripes_of}
use Rattle.snap_top.specs.Began.{IsScrubOf}
use Rattle.snap_top.specs.Run.{IsAnswered, IsRun}
use Rattle.snap_top.specs.Entry.{Entry, Exit}
use Rattle.snap_top.specs.Scrub.{MayStandMarked, ScrubRun, marked_table}
use Rattle.snap_top.specs.Scrubbing.{ScrubCourse, ScrubsBy, scrub_of}
use Rattle.snap_top.specs.Task.{Left, Task}
use Rattle.snap_top.specs.Did.{Did, reads_only}
use Rattle.snap_top.specs.Views.{World, view_of, world_of}
use Rattle.snap_top.specs.declared.end.Ending.{Ending}
use Rattle.snap_top.proofs.OfSyncLemmas.{configured_for, given_copies, start_files, start_folders, start_tells, table_among, table_loading, table_loaded}
use Rattle.snap_top.proofs.SyncedLemmas.{OneTable}

-- ---- what snap_scrub says of the table that a scrub leaves

abbrev pub ScrubKeepsValid : Type 0
ScrubKeepsValid = (table : TableValue) (way : ScrubWay) (now : ℕ) (readings : List ScrubReading) → stripes_of (cells_of readings) ≡ plan_of table way now → now < 2 ^ 64 → IsValid table → IsValid (scrubbed now table readings)

abbrev pub ScrubKeepsSound : Type 0
ScrubKeepsSound = (table : TableValue) (way : ScrubWay) (now : ℕ) (readings : List ScrubReading) (old new : Files) (snapshot : Closed) (is_changed : ℕ → ℕ → Bool) → stripes_of (cells_of readings) ≡ plan_of table way now
    → new.parities ≡ old.parities → Sound table old snapshot is_changed → Sound (scrubbed now table readings) new snapshot is_changed

-- ---- what a scrub did: it only read, or it went on

pub record HasScrubCourse (command : Command) (task : Task) (table : TableValue) (before after : World) (left : Left) (did : Did) : Type 0 where
  pub way : ScrubWay
  pub command_is : command ≡ commands.Scrub way
  pub failed : Bool
  pub course : ScrubCourse way task table failed before after left did

pub scrub_did : (answer : Answer) (way : ScrubWay) (task : Task) (table : TableValue) (before after : World) (left : Left) (did : Did) → ScrubsBy answer way task table before after left did
    → (did ≡ reads_only) ⊎ ((failed : Bool) × ScrubCourse way task table failed before after left did)
scrub_did answers.Clean way task table before after left did does = inr (false, does.course)
scrub_did answers.Found way task table before after left did does = inr (false, does.course)
scrub_did answers.OutputFailed way task table before after left did does = inr (false, does.course)
scrub_did (answers.Zeroed disk rec) way task table before after left did does = absurd does
scrub_did (answers.Emptied disk) way task table before after left did does = absurd does
scrub_did (answers.Full blocks files) way task table before after left did does = absurd does
scrub_did (answers.Broken (runs.Folder disk)) way task table before after left did does = absurd does
scrub_did (answers.Broken runs.Vault) way task table before after left did does = inr (true, does.course)
scrub_did (answers.Broken runs.Memory) way task table before after left did does = inl does.did_is

-- ---- what was read of levels, by a vault that holds the same

pub reading_held : (block_size : ℕ) (held read : VaultView) → (IsTrue held.tells → IsTrue read.tells) → (IsTrue held.tells → read.files ≡ held.files) → (stripe r : ℕ) (reading : LevelReading)
    → IsReadingOf read block_size stripe r reading → IsReadingOf held block_size stripe r reading
reading_held block_size held read tells files stripe r None is = tt
reading_held block_size held read tells files stripe r (Some bytes) is =
    (is.0, λ told. is.1 (tells told) ∙ ap (λ (fs : Files). read_from (parity_of fs r) (stripe * block_size) block_size) (files told))

-- ---- the scrub of a run: it is that which its command ran from the table that was loaded

module _ (before : Entry) (exit : Exit) (tells : IsTrue before.opener.tells) (tells_vault : IsTrue before.opener.vault.tells)
    (setup : SetupValue) (ending : Ending) (told : List Event) (ran : IsRun before exit setup ending told) (left : Left) (one : IsAnswered ran.task ran.given (world_of exit.after) left ran.did) where
  pub scrub_is : before.moment < 2 ^ 64 → (course_of : HasScrubCourse ran.task.command ran.task one.table one.start (world_of exit.after) left ran.did)
      → IsScrubOf before exit (scrub_of course_of.way ran.task one.table one.start (world_of exit.after) course_of.course.readings)
  scrub_is in_time course_of =
      let course = course_of.course in
      let block_size : ℕ = one.table.shape.block_size in
      let held = start_files before exit tells tells_vault setup ending told ran left one in
      let still = start_tells before exit tells tells_vault setup ending told ran left one in
      record {
        readers = ran.task.readers;
        configured = configured_for before exit tells tells_vault setup ending told ran (commands.Scrub course_of.way) course_of.command_is;
        folders_are = start_folders before exit tells tells_vault setup ending told ran left one;
        ended_is = refl;
        moment_is = ran.moment_is;
        over = record {
          valid = one.valid;
          is_loaded = table_loaded before exit tells tells_vault setup ending told ran left one;
          copies_are = one.reads.vault.calls.goes_on.copies ∙ given_copies before exit tells tells_vault setup ending told ran;
          columns = one.columns;
          stripes = course.stripes;
          cells = course.cells;
          due = course.due;
          levels = All-weaker (AreLevelsOf (view_of one.start.vault) block_size) (AreLevelsOf before.opener.vault block_size)
              (λ reading are r within. reading_held block_size before.opener.vault (view_of one.start.vault) (λ held_tells. still) (λ held_tells. held) reading.cells.stripe r (get_or reading.levels r None) (are r within))
              course.readings course.vault.are;
          in_time = subst (λ (n : ℕ). n < 2 ^ 64) (sym ran.moment_is) in_time;
        };
        begins = table_among before exit tells tells_vault setup ending told ran left one;
        loading = table_loading before exit tells tells_vault setup ending told ran left one course.vault.calls;
      }

-- ---- soundness: parity stays, and the table that is saved calls the same stripes synced

same_parity : (table : TableValue) (old new : Files) (snapshot : Closed) (is_changed : ℕ → ℕ → Bool) → new.parities ≡ old.parities → Sound table old snapshot is_changed → Sound table new snapshot is_changed
same_parity table old new snapshot is_changed same sound = record {
  was_closed = sound.was_closed;
  rows = sound.rows;
  sums = λ stripe level synced within unchanged. subst (λ (parities : List (List ℕ)). HasLevel table.shape.block_size level stripe (last_row snapshot stripe) (get_or parities level [])) (sym same) (sound.sums stripe level synced within unchanged);
}

pub scrub_sound : OneTable → ScrubKeepsValid → ScrubKeepsSound → (run : ScrubRun) (copies : ℕ) (old new : Files) (snapshot : Closed) (is_changed : ℕ → ℕ → Bool) → run.now < 2 ^ 64 → IsValid run.loaded
    → stripes_of (cells_of run.readings) ≡ plan_of run.loaded run.way run.now → Sound run.loaded old snapshot is_changed → AreSound copies old snapshot is_changed → MayStandMarked run old new → AreSound copies new snapshot is_changed
scrub_sound one_table keeps_valid keeps_sound run copies old new snapshot is_changed in_time valid planned sound are stands = by run.readings refl
  where
    by : (readings : List ScrubReading) → run.readings ≡ readings → AreSound copies new snapshot is_changed
    by [] none =
        let same : new ≡ old = subst (λ (rs : List ScrubReading). MayStandScrubbed (marked_table run) rs old new) none stands in
        subst (λ (files : Files). AreSound copies files snapshot is_changed) (sym same) are
    by (reading ∷ readings) some =
        let saves : MayStandScrubbed (marked_table run) (reading ∷ readings) old new = subst (λ (rs : List ScrubReading). MayStandScrubbed (marked_table run) rs old new) some stands in
        λ copy table below of_table spells. ⊎_elim
        (λ still. same_parity table old new snapshot is_changed saves.parities (are copy table below of_table (sym still ∙ spells)))
        (λ saved.
        let marked : table ≡ marked_table run = one_table table (marked_table run) (content_of new copy) of_table (keeps_valid run.loaded run.way run.now run.readings planned in_time valid) spells saved in
        subst (λ (t : TableValue). Sound t new snapshot is_changed) (sym marked) (keeps_sound run.loaded run.way run.now run.readings old new snapshot is_changed planned saves.parities sound))
        (saves.contents copy)
