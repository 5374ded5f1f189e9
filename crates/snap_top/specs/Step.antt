-- A run as one step: what it did, what stands at each moment of it, and what it leaves at its end.
use Rattle.std.specs.Prelude.{◌≡◌, ◌⊎◌, ℕ, ◌≤◌, true, false, Ok}
use Rattle.disk_model.specs.Opener.{HoldsSame, folder_held}
use Rattle.disk_model.specs.Tree.{Tree}
use Rattle.snap_config.specs.declared.options.Command.{Command}
use Rattle.snap_config.specs.declared.options.Command.TheVariants as commands
use Rattle.snap_config.specs.declared.options.Options.{Options}
use Rattle.snap_top.specs.Unbroken.{NothingBroke}
use Rattle.snap_top.specs.Effect.{effect}
use Rattle.snap_top.specs.Moment.{IsSoundAlways}
use Rattle.snap_top.specs.Stands.{HoldsFresh}
use Rattle.snap_top.specs.AsAsked.{ChecksEnd}
use Rattle.snap_top.specs.Asked.{asked_by}
use Rattle.snap_top.specs.Entry.{Entry, Exit}
use Rattle.snap_top.specs.Stopping.{FolderStandsIn}
use Rattle.snap_top.specs.Did.{reads_only}

-- the commands that change files of the vault or of the folders
abbrev pub ChangesFiles : Command → Type 0
ChangesFiles (commands.Sync way) = Unit {0}
ChangesFiles (commands.Scrub way) = Unit {0}
ChangesFiles (commands.Fix selection) = Unit {0}
ChangesFiles _ = ⊥

-- The files of a folder at each moment of a run are those at its beginning: at its end, and at a stop before, if the folder tells its calls
-- (`FolderStandsIn`).
abbrev pub LeavesEachTree : Entry → Exit → Type 0
LeavesEachTree before exit = (d : ℕ) (left : Tree) → FolderStandsIn before exit d left → left ≡ (folder_held before.opener d).tree

-- What a run did, and what stands at each moment of it. What was opened is only read, or changed as that says. Where nothing was
-- opened, the opener holds what it held. Where it writes no files of folders, these stay at each moment. With status 2 or 5 it only read. A sync, a fix or a scrub with status 0 or 1 did not break off,
-- nor does one with status 3 where nothing failed but the output and readings; and so it ends by that. A check that went to its end
-- names what is lost, an audit finds what is changed, and a list, a status and a list of duplicates print their texts.
pub record RunStep (before : Entry) (exit : Exit) (status : ℕ) : Type 0 where
  pub always : IsSoundAlways before exit status
  pub folders : exit.has_vault ≡ true → (effect always.did).folders_after before.opener.folders exit.after.folders
  pub stops : exit.has_vault ≡ true → (effect always.did).writes_files ≡ false → LeavesEachTree before exit
  pub unopened : exit.has_vault ≡ false → HoldsSame before.opener exit.opener
  pub refused : (status ≡ 2) ⊎ (status ≡ 5) → always.did ≡ reads_only
  pub done : (asked : Options) → asked_by before.texts ≡ Ok asked → ChangesFiles asked.command
      → (status ≤ 1) ⊎ ((status ≡ 3) × NothingBroke before exit) → (effect always.did).has_ended ≡ true
  pub at_end : (effect always.did).has_ended ≡ true → (effect always.did).ends before exit status
  pub checked : ChecksEnd before exit status

-- so it is of each run over a vault that was opened anew, where the opener tells what it holds and the vault tells its files
abbrev pub EveryRunSteps : Entry → Exit → ℕ → Type 0
EveryRunSteps before exit status = HoldsFresh before → RunStep before exit status
