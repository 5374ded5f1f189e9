-- Two lists, of files or of duplicates, or two calls of status, over one array print the same.
use Rattle.std.proofs.Common.{◌≡◌, ℕ, List, false, sym, ap, ◌∙◌, subst}
use Rattle.file_table.specs.Table.{TableValue}
use Rattle.snap_config.specs.declared.options.Command.{Command}
use Rattle.snap_report.specs.Telling.{Tells, between}
use Rattle.snap_top.specs.Alike.{HoldAlike}
use Rattle.snap_top.specs.Unbroken.{NothingRose}
use Rattle.snap_top.specs.LeftAlike.{AskSame, PrintAlike}
use Rattle.snap_top.specs.Printing.{EndsPrinted}
use Rattle.snap_top.specs.Entry.{Entry, Exit}
use Rattle.snap_top.proofs.AskedLemmas.{one_setup, same_loaded, same_status, unfailed}
use Rattle.snap_top.proofs.SyncedLemmas.{OneTable}

pub prints_of_one_array : OneTable → (command : Command) (text : TableValue → List ℕ) (counted : TableValue → ℕ) (before before_then : Entry) (exit exit_then : Exit) (status status_then : ℕ)
    (one : EndsPrinted command text counted before exit status) (other : EndsPrinted command text counted before_then exit_then status_then) → HoldAlike before before_then → AskSame before before_then
    → NothingRose before exit → NothingRose before_then exit_then → (one.table ≡ other.table) × PrintAlike before before_then exit exit_then status status_then
prints_of_one_array one_table command text counted before before_then exit exit_then status status_then one other hold ask well well_then =
    let set : one.setup ≡ other.setup
    = one_setup before before_then hold ask.asked ask.asked_then ask.words ask.words_then ask.log command command one.readers other.readers one.setup other.setup one.configured other.configured in
    let tables : one.table ≡ other.table
    = same_loaded one_table before before_then hold one.setup other.setup one.table other.table set (one.loading.from (unfailed before exit one.loading well)) (other.loading.from (unfailed before_then exit_then other.loading well_then)) in (
      tables,
      record {
        text = text one.table;
        printed = record { failed = one.output_failed; status_is = one.status_is.failed; told = one.printed };
        printed_then = record {
          failed = other.output_failed;
          status_is = other.status_is.failed;
          told = subst (λ (t : TableValue). Tells (text t) (between false before_then.out) (between other.output_failed exit_then.after.out)) (sym tables) other.printed;
        };
        statuses = same_status status status_then one.output_failed other.output_failed _ _ (λ clean. ap counted (sym tables) ∙ clean) (λ clean. ap counted tables ∙ clean) one.status_is other.status_is;
      },
    )
