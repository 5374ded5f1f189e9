-- What is said of a fix by the views of the vault is said by its states.
use Rattle.std.proofs.Common.{◌≡◌, inl, inr, ℕ, List}
use Rattle.disk_model.specs.Files.{parity_of}
use Rattle.disk_model.specs.Folder.{FolderView}
use Rattle.disk_model.specs.Vault.{VaultView, VaultDone, state_of}
use Rattle.parity_writer.specs.LevelReading.{LevelReading}
use Rattle.file_restorer.specs.Breaking.{FailsAfter}
use Rattle.snap_fix.specs.BrokenStripe.{BreaksLevels}
use Rattle.stripe_examiner.specs.Facts.{StripeFacts}
use Rattle.snap_fix.specs.FixBreaking.{BreaksAtEnd, BreaksEnding, BreaksOff, BreaksWriting}
use Rattle.snap_fix.specs.FixCourse.{FixFinds, FixesVault, Written}
use Rattle.snap_fix.specs.FixRun.{HasBroken, LooksAhead, RoseBeyond}
use Rattle.snap_fix.specs.Fixing.{MendsVault, facts_of}
use Rattle.snap_fix.specs.Mended.{Mended}
use Rattle.repair_scope.specs.Plan.{FixPlan}
use Rattle.snap_fix.specs.Underway.{IsMendedLevel, KeepsLevels}
use Rattle.snap_fix.specs.Windows.{FixWindow}
use Rattle.snap_report.specs.declared.answer.RunFault.{RunFault}
use Rattle.snap_report.specs.declared.answer.RunFault.TheVariants as runs
use Rattle.snap_report.specs.declared.events.Event.{Event}
use Rattle.stripe_reader.specs.Starts.{StartsValue}
use Rattle.snap_top.specs.Views.{view_of}
use Rattle.snap_top.proofs.CheckedLemmas.{all_levels_of, goes_on_of}
use Rattle.snap_top.proofs.SyncLemmas.{changes_of, holds_of}
use Rattle.snap_top.proofs.ViewsLemmas.{some_calls_of}

pub finds_of : (plan : FixPlan) (starts : StartsValue) (firsts : List FolderView) (v : VaultView) (stripes : List Mended) (readings : List (List LevelReading)) → FixFinds plan starts firsts v stripes readings
    → FixFinds plan starts firsts (view_of (state_of v)) stripes readings
finds_of plan starts firsts v stripes readings finds = record {
  are = finds.are;
  cells = finds.cells;
  levels = all_levels_of plan.table.shape.block_size v (facts_of stripes) readings finds.levels;
  answered = finds.answered;
}

pub mends_of : (plan : FixPlan) (stripes : List StripeFacts) (old new : VaultView) → MendsVault plan stripes old new → MendsVault plan stripes (view_of (state_of old)) (view_of (state_of new))
mends_of plan stripes old new mends = record {
  calls = some_calls_of old new mends.calls;
  drafts = record { state = mends.drafts.state; bytes = mends.drafts.bytes };
  changes = changes_of (KeepsLevels plan.table.shape.block_size (IsMendedLevel plan stripes)) old new mends.changes;
}

pub vault_of : (plan : FixPlan) (stripes : List Mended) (readings : List (List LevelReading)) (old new : VaultView) → FixesVault plan stripes readings old new
    → FixesVault plan stripes readings (view_of (state_of old)) (view_of (state_of new))
vault_of plan stripes readings old new vault = record {
  windows = vault.windows;
  windows_are = vault.windows_are;
  ran = goes_on_of old new _ vault.ran;
  unread = vault.unread;
  mends = mends_of plan (facts_of stripes) old new vault.mends;
  zeros = vault.zeros;
  holds = vault.holds;
  synced = λ level below was. holds_of (λ files. parity_of files level ≡ parity_of new.files level) new (vault.synced level below was);
}

pub looked_of : (plan : FixPlan) (count : ℕ) (ahead : FixWindow) (behind : List ℕ) (v : VaultView) → LooksAhead plan count ahead behind v
    → LooksAhead plan count ahead behind (view_of (state_of v))
looked_of plan count ahead behind v looked = record {
  are = looked.are;
  levels = all_levels_of plan.table.shape.block_size v ahead.stripes ahead.readings looked.levels;
  more = looked.more;
  behind_is = looked.behind_is;
  few = looked.few;
  to_the_end = looked.to_the_end;
}

pub broken_of : (plan : FixPlan) (fault : RunFault) (told : List Event) (olds news : List FolderView) (old new : VaultView) → HasBroken plan fault told olds news old new
    → HasBroken plan fault told olds news (view_of (state_of old)) (view_of (state_of new))
broken_of plan (runs.Folder disk) told olds news old new broke = broke
broken_of plan runs.Vault told olds news old new broke = record { rose = broke.rose; call = broke.call }
broken_of plan runs.Memory told olds news old new broke = absurd broke

pub rose_of : (fault : RunFault) (stripes : List StripeFacts) (readings : List (List LevelReading)) (olds news : List FolderView) (old new : VaultView) → RoseBeyond fault stripes readings olds news old new
    → RoseBeyond fault stripes readings olds news (view_of (state_of old)) (view_of (state_of new))
rose_of (runs.Folder disk) stripes readings olds news old new rose = rose
rose_of runs.Vault stripes readings olds news old new rose = rose
rose_of runs.Memory stripes readings olds news old new rose = absurd rose

-- ---- where it broke off

fails_of : (before others : List VaultDone) (old new : VaultView) → FailsAfter before others old new → FailsAfter before others (view_of (state_of old)) (view_of (state_of new))
fails_of before others old new part = record { done = part.done; fails = part.fails; goes_on = goes_on_of old new _ part.goes_on }

breaks_levels_of : (fault : RunFault) (plan : FixPlan) (facts : StripeFacts) (level : ℕ) (before : List VaultDone)
    (old new : VaultView) → BreaksLevels fault plan facts level before old new
    → BreaksLevels fault plan facts level before (view_of (state_of old)) (view_of (state_of new))
breaks_levels_of (runs.Folder disk) plan facts level before old new ran = goes_on_of old new _ ran
breaks_levels_of runs.Vault plan facts level before old new part = record {
  within = part.within;
  wrong = part.wrong;
  row = part.row;
  row_is = part.row_is;
  goes_on = goes_on_of old new _ part.goes_on;
  holds = part.holds;
}
breaks_levels_of runs.Memory plan facts level before old new part = absurd part

writing_of : (plan : FixPlan) (starts : StartsValue) (fault : RunFault) (stripes : List Mended) (readings : List (List LevelReading)) (ahead : FixWindow) (first : List Event) (firsts news : List FolderView) (old new : VaultView)
    → BreaksWriting plan starts fault stripes readings ahead first firsts news old new → BreaksWriting plan starts fault stripes readings ahead first firsts news (view_of (state_of old)) (view_of (state_of new))
writing_of plan starts fault stripes readings ahead first firsts news old new off =
    let last = off.ran in
    record {
      earlier = off.earlier;
      last = off.last;
      stripes_are = off.stripes_are;
      level = off.level;
      first_is = off.first_is;
      makes = off.makes;
      ran = record {
        windows = last.windows;
        window = last.window;
        windows_are = last.windows_are;
        front = last.front;
        earlier_are = last.earlier_are;
        window_is = last.window_is;
        ran = breaks_levels_of fault plan off.last.facts off.level _ old new last.ran;
        vault = mends_of plan _ old new last.vault;
        holds = last.holds;
      };
    }

ending_of : (fault : RunFault) (plan : FixPlan) (stripes : List Mended) (readings : List (List LevelReading)) (first : List Event) (written : Written) (news : List FolderView) (old new : VaultView)
    → BreaksEnding fault plan stripes readings first written news old new → BreaksEnding fault plan stripes readings first written news (view_of (state_of old)) (view_of (state_of new))
ending_of (runs.Folder disk) plan stripes readings first written news old new off = record {
  finishes = off.finishes;
  are = off.are;
  finished = off.finished;
  last = off.last;
  part = off.part;
  finished_is = off.finished_is;
  rest = off.rest;
  events = off.events;
  finished_are = off.finished_are;
  makes = off.makes;
  vault = vault_of plan stripes readings old new off.vault;
}
ending_of runs.Vault plan stripes readings first written news old new off = record {
  events = off.events;
  windows = off.windows;
  windows_are = off.windows_are;
  ran = fails_of _ _ old new off.ran;
  holds = off.holds;
  folders = off.folders;
}
ending_of runs.Memory plan stripes readings first written news old new off = absurd off

at_end_of : (plan : FixPlan) (starts : StartsValue) (fault : RunFault) (stripes : List Mended) (readings : List (List LevelReading)) (first : List Event) (firsts news : List FolderView) (old new : VaultView)
    → BreaksAtEnd plan starts fault stripes readings first firsts news old new → BreaksAtEnd plan starts fault stripes readings first firsts news (view_of (state_of old)) (view_of (state_of new))
at_end_of plan starts fault stripes readings first firsts news old new off = record {
  written = off.written;
  writes = off.writes;
  in_windows = off.in_windows;
  ending = ending_of fault plan stripes readings first off.written news old new off.ending;
}

pub off_of : (plan : FixPlan) (starts : StartsValue) (fault : RunFault) (stripes : List Mended) (behind : List ℕ) (readings : List (List LevelReading)) (ahead : FixWindow) (first : List Event) (firsts news : List FolderView) (old new : VaultView)
    → BreaksOff plan starts fault stripes behind readings ahead first firsts news old new → BreaksOff plan starts fault stripes behind readings ahead first firsts news (view_of (state_of old)) (view_of (state_of new))
off_of plan starts fault stripes behind readings ahead first firsts news old new (inl off) = inl (writing_of plan starts fault stripes readings ahead first firsts news old new off)
off_of plan starts fault stripes behind readings ahead first firsts news old new (inr off) = inr (off.0, at_end_of plan starts fault stripes readings first firsts news old new off.1)
