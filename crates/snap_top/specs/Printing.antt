-- What a run leaves that was asked to list the files or the duplicates, or for the status.
use Rattle.std.specs.Prelude.{◌≡◌, ℕ, List, Bool, false, IsTrue}
use Rattle.disk_model.specs.Cause.{Rose}
use Rattle.disk_model.specs.Vault.{copies_of}
use Rattle.file_table.specs.Table.{TableValue}
use Rattle.file_table.specs.Valid.{IsValid}
use Rattle.array_setup.specs.Setup.{SetupValue}
use Rattle.snap_config.specs.declared.options.Command.{Command}
use Rattle.snap_report.specs.Telling.{Tells, between}
use Rattle.snap_top.specs.Output.{IsEndStatus}
use Rattle.snap_top.specs.Loading.{Loading}
use Rattle.snap_top.specs.Asked.{IsConfigured}
use Rattle.snap_top.specs.Entry.{Entry, Exit}
use Rattle.snap_top.specs.Sync.{BeginsAmong}

-- A command that prints a text of the table that it began with went to its end. A copy spells that table, or there is no copy, and it is that
-- of an array without content. Where no copy's reading failed while it was loaded, it is that of the first copy that is a content file. It
-- printed the whole text, or a prefix where the output failed; its status is 0 exactly where that did not and nothing is counted in the table.
-- A failure of the output is counted.
pub record EndsPrinted (command : Command) (text : TableValue → List ℕ) (counted : TableValue → ℕ) (before : Entry) (exit : Exit) (status : ℕ) : Type 0 where
  pub setup : SetupValue
  pub readers : ℕ
  pub configured : IsConfigured before.texts before.opener command readers setup
  pub table : TableValue
  pub valid : IsValid table
  pub begins : BeginsAmong setup before.seed (copies_of before.opener.vault) before.opener.vault.files table
  pub loading : Loading before exit setup table
  pub output_failed : Bool
  pub printed : Tells (text table) (between false before.out) (between output_failed exit.after.out)
  pub status_is : IsEndStatus status output_failed (counted table ≡ 0)
  pub output : IsTrue output_failed → Rose before.out.faults exit.after.out.faults
