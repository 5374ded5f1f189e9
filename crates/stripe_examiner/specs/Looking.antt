-- Stripes that are looked at, one after another: what is read of their levels, and what is told.
use Rattle.std.specs.Prelude.{◌≡◌, ℕ, ◌<◌, List, [], ◌∷◌, ◌++◌, length, map, get_or, count_by, sum_by, All, None}
use Rattle.disk_model.specs.Cause.{RoseBy}
use Rattle.disk_model.specs.Files.{Stays}
use Rattle.disk_model.specs.Folder.{FolderView}
use Rattle.disk_model.specs.Sink.{SinkView}
use Rattle.disk_model.specs.Vault.{VaultView, VaultDone, GoesOn, ChangesBy, DraftsStay}
use Rattle.parity_writer.specs.LevelReading.{LevelReading, IsReadingOf, kept_level, has_failed, calls_of}
use Rattle.parity_writer.specs.LevelsValue.{LevelValue, no_level}
use Rattle.snap_report.specs.Report.{ReportView}
use Rattle.snap_report.specs.Told.{Told}
use Rattle.snap_report.specs.declared.events.Event.{Event}
use Rattle.snap_report.specs.declared.pages.Lines.{Lines}
use Rattle.stripe_reader.specs.Column.{ReadsColumn}
use Rattle.stripe_reader.specs.Columns.{folder_at}
use Rattle.stripe_reader.specs.Reading.{tasks_at}
use Rattle.stripe_reader.specs.Slot.{count_unread}
use Rattle.stripe_reader.specs.SlotValue.{SlotValue}
use Rattle.stripe_reader.specs.Starts.{StartsValue}
use Rattle.stripe_reader.specs.WindowValue.{WindowValue}
use Rattle.stripe_examiner.specs.declared.counts.Counts.{Counts}
use Rattle.stripe_examiner.specs.Asking.{AsksSpare}
use Rattle.stripe_examiner.specs.Counts.{AreCounts}
use Rattle.stripe_examiner.specs.Facts.{StripeFacts, slot_of}
use Rattle.stripe_examiner.specs.Findings.{events_of}
use Rattle.stripe_examiner.specs.Known.{AreFacts}
use Rattle.stripe_examiner.specs.Marks.{slots_at}
use Rattle.repair_scope.specs.Plan.{FixPlan}
use Rattle.stripe_examiner.specs.Spare.{SpareView}

-- the numbers of stripes, and the slots of a column
abbrev pub numbers_of : List StripeFacts → List ℕ
numbers_of stripes = map (λ (facts : StripeFacts). facts.stripe) stripes

abbrev pub slots_of : ℕ → List StripeFacts → List SlotValue
slots_of d stripes = map (λ (facts : StripeFacts). slot_of facts d) stripes

-- how many cells of a column were not read
abbrev pub unread_cells : ℕ → List StripeFacts → ℕ
unread_cells d stripes = count_unread (λ (facts : StripeFacts). slot_of facts d) stripes

-- what stands for the facts of a stripe that is not there
abbrev pub no_facts : StripeFacts
no_facts = record { stripe = 0; slots = []; gifts = []; levels = []; row = None }

abbrev pub facts_at : List StripeFacts → ℕ → StripeFacts
facts_at stripes k = get_or stripes k no_facts

-- The stripes were read of the folders, each column of its own folder, with its files where they stood at the start.
pub record AreRead (plan : FixPlan) (starts : StartsValue) (stripes : List StripeFacts) (olds news : List FolderView) : Type 0 where
  pub folders : length news ≡ length olds
  pub each : (d : ℕ) → d < length olds → ReadsColumn plan.table.shape (tasks_at plan.table starts d (numbers_of stripes))
      (slots_of d stripes) (folder_at olds d) (folder_at news d)

-- what is kept of the levels of a stripe, by what was read of them
pub record AreLevelsOf (block_size stripe : ℕ) (levels : List LevelValue) (v : VaultView) (readings : List LevelReading) : Type 0 where
  pub as_many : length readings ≡ length levels
  pub are_kept : (r : ℕ) → r < length levels → get_or levels r no_level ≡ kept_level block_size (get_or readings r None)
  pub are_of : (r : ℕ) → r < length levels → IsReadingOf v block_size stripe r (get_or readings r None)

-- the same of stripes, one after another
abbrev pub AreAllLevelsOf : ℕ → VaultView → List StripeFacts → List (List LevelReading) → Type 0
AreAllLevelsOf block_size v [] [] = Unit {0}
AreAllLevelsOf block_size v [] (of ∷ readings) = ⊥
AreAllLevelsOf block_size v (facts ∷ stripes) [] = ⊥
AreAllLevelsOf block_size v (facts ∷ stripes) (of ∷ readings) =
    AreLevelsOf block_size facts.stripe facts.levels v of × AreAllLevelsOf block_size v stripes readings

-- the calls for the levels of stripes, stripe after stripe
abbrev pub level_reads : ℕ → List StripeFacts → List (List LevelReading) → List VaultDone
level_reads block_size [] readings = []
level_reads block_size (facts ∷ stripes) [] = []
level_reads block_size (facts ∷ stripes) (of ∷ readings) =
    calls_of block_size facts.stripe of ++ level_reads block_size stripes readings

-- how many levels were not read
abbrev pub unread_in : List (List LevelReading) → ℕ
unread_in readings = sum_by (count_by has_failed) readings

-- The levels of the stripes were read, and nothing else was done to the vault: each level by one call, and its count of faults
-- rose by no less than the levels that were not read.
pub record LevelsAreRead (plan : FixPlan) (stripes : List StripeFacts) (old new : VaultView) : Type 0 where
  pub readings : List (List LevelReading)
  pub are : AreAllLevelsOf plan.table.shape.block_size old stripes readings
  pub unread : RoseBy (unread_in readings) old.faults new.faults
  pub goes_on : GoesOn old new (level_reads plan.table.shape.block_size stripes readings)
  pub changes : ChangesBy Stays old new
  pub drafts : DraftsStay old new

-- what is looked at: the vault, the spare, the lines, and those who are told
pub record Scene (W R : Type 0) : Type 1 where
  pub vault : VaultView
  pub spare : SpareView
  pub lines : Lines W
  pub reports : List R

abbrev pub scene : {W R : Type 0} → VaultView → SpareView → Lines W → List R → Scene W R
scene vault spare lines reports = record { vault = vault; spare = spare; lines = lines; reports = reports }

-- Stripes were looked at: these are the facts of them, and just their events were told.
pub record LooksAt {W R : Type 0} (view : W → SinkView) (standing : R → ReportView) (stands : R → List Event → Type 0)
    (plan : FixPlan) (stripes : List StripeFacts) (counts : Counts) (old new : Scene W R) : Type 0 where
  pub are : All (AreFacts plan) stripes
  pub levels : LevelsAreRead plan stripes old.vault new.vault
  pub spare : AsksSpare plan stripes old.spare new.spare
  pub told : Told view standing stands plan.table.columns (events_of plan stripes) old.lines new.lines old.reports new.reports
  pub counts_are : AreCounts (events_of plan stripes) counts

-- The first so many stripes of a window were looked at, as they were read into it.
pub record LooksInto {W R : Type 0} (view : W → SinkView) (standing : R → ReportView) (stands : R → List Event → Type 0)
    (plan : FixPlan) (numbers : List ℕ) (window : WindowValue) (counts : Counts) (old new : Scene W R) : Type 0 where
  pub stripes : List StripeFacts
  pub numbers_are : numbers_of stripes ≡ numbers
  pub slots : (k : ℕ) → k < length stripes → (facts_at stripes k).slots ≡ slots_at window k
  pub looks : LooksAt view standing stands plan stripes counts old new
