-- How a run ends that was asked for a command and went to its end, whatever the output did.
use Rattle.std.specs.Prelude.{◌≡◌, ℕ, Ok}
use Rattle.snap_config.specs.declared.options.Command.TheVariants as commands
use Rattle.snap_config.specs.declared.options.Options.{Options}
use Rattle.array_setup.specs.declared.ways.SyncWay.{SyncWay}
use Rattle.snap_top.specs.Ended.{WentToItsEnd}
use Rattle.snap_top.specs.Asked.{asked_by}
use Rattle.snap_top.specs.Entry.{Entry, Exit}
use Rattle.snap_top.specs.Stands.{TellsAll, TellsVault}
use Rattle.array_setup.specs.declared.ways.Selection.{Selection}
use Rattle.array_setup.specs.declared.ways.ScrubWay.{ScrubWay}
use Rattle.file_table.specs.Table.{TableValue}
use Rattle.snap_config.specs.declared.options.Command.{Command}
use Rattle.snap_report.specs.ListText.{list_text}
use Rattle.snap_report.specs.StatusText.{bad_in, status_text}
use Rattle.snap_top.specs.Dup.{dup_text}
use Rattle.snap_top.specs.Printing.{EndsPrinted}
use Rattle.snap_top.specs.Scrubbed.{EndsScrubbed}
use Rattle.snap_top.specs.Restoring.{EndsFixed}
use Rattle.snap_top.specs.InPart.{EndsInPart}
use Rattle.snap_top.specs.Naming.{EndsAudited, EndsChecked}

-- so a sync ends that was asked for and went to its end, whatever the output did
abbrev pub SyncsEndInPart : Entry → Exit → ℕ → Type 0
SyncsEndInPart before exit status = TellsAll before → WentToItsEnd before exit status → (asked : Options) (way : SyncWay)
    → asked_by before.texts ≡ Ok asked → asked.command ≡ commands.Sync way → EndsInPart before exit status

-- so a fix ends that was asked for and went to its end, whatever the output did
abbrev pub FixesEnd : Entry → Exit → ℕ → Type 0
FixesEnd before exit status = TellsAll before → WentToItsEnd before exit status → (asked : Options) (selection : Selection)
    → asked_by before.texts ≡ Ok asked → asked.command ≡ commands.Fix selection → EndsFixed before exit status

-- so a scrub ends that was asked for and went to its end, whatever the output did, and whether or not the folders tell what they hold
abbrev pub ScrubsEnd : Entry → Exit → ℕ → Type 0
ScrubsEnd before exit status = TellsVault before → WentToItsEnd before exit status → (asked : Options) (way : ScrubWay)
    → asked_by before.texts ≡ Ok asked → asked.command ≡ commands.Scrub way → EndsScrubbed before exit status

-- by the command
abbrev pub EndsAsAsked : Command → Entry → Exit → ℕ → Type 0
EndsAsAsked commands.List before exit status = EndsPrinted commands.List (λ (table : TableValue). list_text table.columns) (λ (table : TableValue). 0) before exit status
EndsAsAsked commands.Status before exit status = EndsPrinted commands.Status status_text (λ (table : TableValue). bad_in table.infos) before exit status
EndsAsAsked commands.Dup before exit status = EndsPrinted commands.Dup dup_text (λ (table : TableValue). 0) before exit status
EndsAsAsked (commands.Check selection) before exit status = EndsChecked before exit status
EndsAsAsked (commands.Audit selection) before exit status = EndsAudited before exit status
EndsAsAsked _ before exit status = Unit {0}

-- So a list, a status, a list of duplicates, a check and an audit end that were asked for and went to their ends, whatever the output did, and
-- whether or not the folders tell what they hold.
abbrev pub ChecksEnd : Entry → Exit → ℕ → Type 0
ChecksEnd before exit status = TellsVault before → WentToItsEnd before exit status
    → (asked : Options) → asked_by before.texts ≡ Ok asked → EndsAsAsked asked.command before exit status
