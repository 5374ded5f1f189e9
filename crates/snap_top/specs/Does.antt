-- What each command does, once its table is there: one line for each.
use Rattle.std.specs.Prelude.{◌≡◌, ◌⊎◌, ℕ, List, [], IsTrue, None, Option}
use Rattle.disk_model.specs.Vault.{ChangesBy, Holds}
use Rattle.file_table.specs.Table.{TableValue}
use Rattle.snap_config.specs.declared.options.Command.{Command}
use Rattle.snap_config.specs.declared.options.Command.TheVariants as commands
use Rattle.snap_report.specs.Answer.{IsCaused}
use Rattle.snap_report.specs.EventLines.{lines_of}
use Rattle.snap_report.specs.ListText.{list_text}
use Rattle.snap_report.specs.Report.{ReportView, AllGiven}
use Rattle.snap_report.specs.StatusText.{status_text, bad_in}
use Rattle.snap_report.specs.declared.answer.Answer.{Answer}
use Rattle.snap_report.specs.declared.answer.Answer.TheVariants.{Broken}
use Rattle.snap_report.specs.declared.answer.RunFault.TheVariants.{Memory}
use Rattle.snap_report.specs.declared.events.Event.{Event}
use Rattle.repair_scope.specs.declared.scope.Mode.TheVariants as modes
use Rattle.snap_top.specs.Checking.{ChecksBy}
use Rattle.snap_top.specs.Dup.{dup_text}
use Rattle.snap_top.specs.Fixing.{FixesBy}
use Rattle.snap_top.specs.Scrubbing.{ScrubsBy}
use Rattle.snap_top.specs.Syncing.{SyncsBy}
use Rattle.snap_top.specs.Task.{Task, Left, Prints, outside_of}
use Rattle.snap_top.specs.Effect.{Keeps, effect}
use Rattle.snap_top.specs.Did.{Did, reads_only}
use Rattle.snap_top.specs.Views.{World, WorldView, world_of}

-- it prints a text, tells no event, and touches nothing but the output
pub record PrintsAlone (text : List ℕ) (counted : ℕ) (before after : World) (left : Left) (did : Did) : Type 0 where
  pub did_is : did ≡ reads_only
  pub others : after ≡ record before { out = after.out }
  pub left_is : left ≡ record { answer = left.answer; named = None; counted = counted; told = [] }
  pub prints : Prints text counted before.out after.out left.answer

-- it has not the memory that it needs, and touches nothing
pub record StaysIdle (before after : World) (left : Left) (did : Did) : Type 0 where
  pub did_is : did ≡ reads_only
  pub others : after ≡ before
  pub left_is : left ≡ record { answer = Broken Memory; named = None; counted = 0; told = [] }

-- it prints a text so, or has no memory for it
abbrev pub PrintsOrStays : List ℕ → ℕ → World → World → Left → Did → Type 0
PrintsOrStays text counted before after left did = PrintsAlone text counted before after left did ⊎ StaysIdle before after left did

-- By the command, from this table: what it did to the files of the vault, what else it touched, and its own relation.
abbrev pub DoesCommand : Command → Task → TableValue → World → World → Left → Did → Type 0
DoesCommand commands.List task table before after left did = PrintsAlone (list_text table.columns) 0 before after left did
DoesCommand commands.Status task table before after left did = PrintsAlone (status_text table) (bad_in table.infos) before after left did
DoesCommand commands.Dup task table before after left did = PrintsOrStays (dup_text table) 0 before after left did
DoesCommand (commands.Sync way) task table before after left did = SyncsBy left.answer task way table before after left did
DoesCommand (commands.Check selection) task table before after left did = ChecksBy left.answer modes.Check selection task table before after left did
DoesCommand (commands.Audit selection) task table before after left did = ChecksBy left.answer modes.Audit selection task table before after left did
DoesCommand (commands.Fix selection) task table before after left did = FixesBy left.answer selection task table before after left did
DoesCommand (commands.Scrub way) task table before after left did = ScrubsBy left.answer way task table before after left did
DoesCommand (commands.Exercise n) task table before after left did = ⊥

abbrev pub Does : Task → TableValue → World → World → Left → Did → Type 0
Does task table before after left did = DoesCommand task.command task table before after left did

-- what holds of every command that was carried out
pub record IsDone {R : Type 0} (standing : R → ReportView) (stands : R → List Event → Type 0) (task : Task) (table : TableValue)
    (before after : WorldView) (olds news : List R) (answer : Answer) (named : Option TableValue) : Type 0 where
  pub left : Left
  pub answer_is : left.answer ≡ answer
  pub named_is : left.named ≡ named
  pub did : Did
  pub does : Does task table (world_of before) (world_of after) left did
  pub changes : ChangesBy (effect did).may_stand before.vault after.vault
  pub ends : IsTrue before.vault.tells → Holds ((effect did).stands_after before.vault.files) after.vault
  pub caused : IsCaused left.answer left.counted left.told (outside_of (world_of before)) (outside_of (world_of after))
  pub keeps : Keeps did (world_of before) (world_of after)
  pub reports : AllGiven standing stands (lines_of ((effect did).told_columns table) left.told) left.told olds news
