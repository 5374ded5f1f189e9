-- Two lists of one array, of its files or its duplicates, and two runs for its status: instances of what is supposed of
-- two runs that print a text of their table.
use Rattle.std.specs.Prelude.{◌≡◌, ℕ, ◌<◌, List, length}
use Rattle.disk_model.specs.Folder.{FolderView}
use Rattle.disk_model.specs.Opener.{OpenerView}
use Rattle.disk_model.specs.Sink.{SinkView}
use Rattle.disk_model.specs.Vault.{VaultView}
use Rattle.file_table.specs.Table.{TableValue, records_in}
use Rattle.snap_config.specs.declared.options.Command.{Command}
use Rattle.snap_config.specs.declared.options.Command.TheVariants as commands
use Rattle.snap_report.specs.ListText.{list_text}
use Rattle.snap_report.specs.StatusText.{bad_in, status_text}
use Rattle.snap_top.specs.Alike.{HoldAlike}
use Rattle.snap_top.specs.Unbroken.{NothingRose}
use Rattle.snap_top.specs.Dup.{dup_text}
use Rattle.snap_top.specs.LeftAlike.{AskSame, PrintAlike}
use Rattle.snap_top.specs.Printing.{EndsPrinted}
use Rattle.snap_top.specs.RunOf.{RunOf}
use Rattle.snap_top.specs.Standing.{after_of, before_of}

module _ {O F V W : Type 0} (opener_view : O → OpenerView) (folder_view : F → FolderView) (vault_view : V → VaultView) (sink_view : W → SinkView) where
  -- Two runs of one array printed a text of the table that they began with, the second with this status, and nothing failed in them. The table has
  -- a record of the first disk. So they began with the same table and printed the same.
  pub record ArePrintedTwice (command : Command) (text : TableValue → List ℕ) (counted : TableValue → ℕ) (status : ℕ) : Type 0 where
    pub run : RunOf O F V W
    pub again : RunOf O F V W
    pub one : EndsPrinted command text counted (before_of opener_view folder_view vault_view sink_view run)
        (after_of opener_view folder_view vault_view sink_view run) run.status
    pub other : EndsPrinted command text counted (before_of opener_view folder_view vault_view sink_view again)
        (after_of opener_view folder_view vault_view sink_view again) again.status
    pub hold : HoldAlike (before_of opener_view folder_view vault_view sink_view run) (before_of opener_view folder_view vault_view sink_view again)
    pub ask : AskSame (before_of opener_view folder_view vault_view sink_view run) (before_of opener_view folder_view vault_view sink_view again)
    pub well : NothingRose (before_of opener_view folder_view vault_view sink_view run) (after_of opener_view folder_view vault_view sink_view run)
    pub well_then : NothingRose (before_of opener_view folder_view vault_view sink_view again) (after_of opener_view folder_view vault_view sink_view again)
    pub some : 0 < length (records_in one.table 0)
    pub alike : one.table ≡ other.table
    pub printed : PrintAlike (before_of opener_view folder_view vault_view sink_view run) (before_of opener_view folder_view vault_view sink_view again)
        (after_of opener_view folder_view vault_view sink_view run) (after_of opener_view folder_view vault_view sink_view again) run.status again.status
    pub status_is : again.status ≡ status

  -- so did two lists
  abbrev pub AreListedTwice : ℕ → Type 0
  AreListedTwice status = ArePrintedTwice commands.List (λ (table : TableValue). list_text table.columns) (λ (table : TableValue). 0) status

  -- and so did two runs for the status
  abbrev pub AreToldTwice : ℕ → Type 0
  AreToldTwice status = ArePrintedTwice commands.Status status_text (λ (table : TableValue). bad_in table.infos) status

  -- and so did two lists of duplicates
  abbrev pub AreDuplicatesTwice : ℕ → Type 0
  AreDuplicatesTwice status = ArePrintedTwice commands.Dup dup_text (λ (table : TableValue). 0) status
