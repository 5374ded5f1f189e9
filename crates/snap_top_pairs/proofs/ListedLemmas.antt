-- Two runs of one array that print a text of their table print the same.
use Rattle.std.proofs.Common.{◌≡◌, inl, ℕ, ◌<◌, List, length, sym, subst}
use Rattle.disk_model.specs.Folder.{FolderView}
use Rattle.disk_model.specs.Opener.{OpenerView}
use Rattle.disk_model.specs.Sink.{SinkView}
use Rattle.disk_model.specs.Vault.{VaultView, copies_of}
use Rattle.file_table.specs.Table.{TableValue, records_in}
use Rattle.snap_config.specs.declared.options.Command.{Command}
use Rattle.snap_config.specs.declared.options.Command.TheVariants as commands
use Rattle.snap_report.specs.ListText.{list_text}
use Rattle.snap_report.specs.StatusText.{bad_in, status_text}
use Rattle.snap_top.specs.Alike.{HoldAlike}
use Rattle.snap_top.specs.Unbroken.{NothingRose}
use Rattle.snap_top.specs.Dup.{dup_text}
use Rattle.snap_top.specs.LeftAlike.{AskSame, PrintAlike}
use Rattle.snap_top.specs.Printing.{EndsPrinted}
use Rattle.snap_top.specs.RunOf.{RunOf}
use Rattle.snap_top.specs.Entry.{Entry, Exit}
use Rattle.snap_top.specs.Standing.{after_of, before_of}
use Rattle.snap_top.proofs.AskedLemmas.{unfailed}
use Rattle.snap_top.proofs.ResumeLemmas.{begins_same}
use Rattle.snap_top.proofs.SyncedLemmas.{OneTable}
use Rattle.snap_top_instances.specs.Asked.{AsksFor}
use Rattle.snap_top_pairs.specs.Listed.{AreDuplicatesTwice, AreListedTwice, ArePrintedTwice, AreToldTwice}
use Rattle.snap_top_pairs.specs.Lost.{AreRunTwice, HoldsRows}
use Rattle.snap_top_instances.proofs.EndsLemmas.{ask_same, ended_as}

-- the table that a text was printed of has a record
some_printed : OneTable → (command : Command) (text : TableValue → List ℕ) (counted : TableValue → ℕ) (before : Entry) (exit : Exit) (status : ℕ) (ends : EndsPrinted command text counted before exit status) → NothingRose before exit
    → HoldsRows before.opener.vault → 0 < length (records_in ends.table 0)
some_printed one_table command text counted before exit status ends well holds =
    let same : ends.table ≡ holds.table = begins_same one_table ends.setup before.seed (copies_of before.opener.vault) before.opener.vault.files ends.table holds.table
    (ends.loading.from (unfailed before exit ends.loading well)) (inl holds.content) in
    subst (λ (table : TableValue). 0 < length (records_in table 0)) (sym same) holds.rows.records

module _ {O F V W : Type 0} (opener_view : O → OpenerView) (folder_view : F → FolderView) (vault_view : V → VaultView) (sink_view : W → SinkView) where
  abbrev begun : RunOf O F V W → Entry
  begun run = before_of opener_view folder_view vault_view sink_view run

  abbrev ended : RunOf O F V W → Exit
  ended run = after_of opener_view folder_view vault_view sink_view run

  -- what the law says of them
  abbrev pub PrintsFoundAlike : Type 0
  PrintsFoundAlike = (command : Command) (text : TableValue → List ℕ) (counted : TableValue → ℕ) (run again : RunOf O F V W) (one : EndsPrinted command text counted (begun run) (ended run) run.status)
      (other : EndsPrinted command text counted (begun again) (ended again) again.status) → HoldAlike (begun run) (begun again) → AskSame (begun run) (begun again) → NothingRose (begun run) (ended run)
      → NothingRose (begun again) (ended again) → (one.table ≡ other.table) × PrintAlike (begun run) (begun again) (ended run) (ended again) run.status again.status

  module _ (one_table : OneTable) (law : PrintsFoundAlike) (texts others : List (List ℕ)) (status status_then : ℕ) (two : AreRunTwice opener_view folder_view vault_view sink_view texts others status status_then) where
    asks_of : (command : Command) → AsksFor command texts → AsksFor command two.run.texts
    asks_of command asks = subst (AsksFor command) (sym two.texts_are) asks

    asks_then_of : (command : Command) → AsksFor command others → AsksFor command two.again.texts
    asks_then_of command asks = subst (AsksFor command) (sym two.others_are) asks

    printed_twice : (command : Command) (text : TableValue → List ℕ) (counted : TableValue → ℕ) → AsksFor command texts → AsksFor command others → EndsPrinted command text counted (begun two.run) (ended two.run) two.run.status
        → EndsPrinted command text counted (begun two.again) (ended two.again) two.again.status → ArePrintedTwice opener_view folder_view vault_view sink_view command text counted status_then
    printed_twice command text counted asks asks_then one other =
        let ask : AskSame (begun two.run) (begun two.again) = ask_same command (begun two.run) (begun two.again) (asks_of command asks) (asks_then_of command asks_then) in
        let alike = law command text counted two.run two.again one other two.hold ask two.well two.well_then in
        record {
          run = two.run;
          again = two.again;
          one = one;
          other = other;
          hold = two.hold;
          ask = ask;
          well = two.well;
          well_then = two.well_then;
          some = some_printed one_table command text counted (begun two.run) (ended two.run) two.run.status one two.well two.holds;
          alike = alike.0;
          printed = alike.1;
          status_is = two.status_then_is;
        }

    pub listed_twice : AsksFor commands.List texts → AsksFor commands.List others → AreListedTwice opener_view folder_view vault_view sink_view status_then
    listed_twice asks asks_then =
        printed_twice commands.List (λ (table : TableValue). list_text table.columns) (λ (table : TableValue). 0) asks asks_then
        (ended_as commands.List (begun two.run) (ended two.run) two.run.status two.hold.tells two.clauses.checked two.few (asks_of commands.List asks))
        (ended_as commands.List (begun two.again) (ended two.again) two.again.status two.hold.tells_then two.clauses_then.checked two.few_then (asks_then_of commands.List asks_then))

    pub told_twice : AsksFor commands.Status texts → AsksFor commands.Status others → AreToldTwice opener_view folder_view vault_view sink_view status_then
    told_twice asks asks_then =
        printed_twice commands.Status status_text (λ (table : TableValue). bad_in table.infos) asks asks_then
        (ended_as commands.Status (begun two.run) (ended two.run) two.run.status two.hold.tells two.clauses.checked two.few (asks_of commands.Status asks))
        (ended_as commands.Status (begun two.again) (ended two.again) two.again.status two.hold.tells_then two.clauses_then.checked two.few_then (asks_then_of commands.Status asks_then))

    pub duplicates_twice : AsksFor commands.Dup texts → AsksFor commands.Dup others → AreDuplicatesTwice opener_view folder_view vault_view sink_view status_then
    duplicates_twice asks asks_then =
        printed_twice commands.Dup dup_text (λ (table : TableValue). 0) asks asks_then
        (ended_as commands.Dup (begun two.run) (ended two.run) two.run.status two.hold.tells two.clauses.checked two.few (asks_of commands.Dup asks))
        (ended_as commands.Dup (begun two.again) (ended two.again) two.again.status two.hold.tells_then two.clauses_then.checked two.few_then (asks_then_of commands.Dup asks_then))
