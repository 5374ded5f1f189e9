-- What a run leaves that was asked to list the files or the duplicates, or for the status.
use Rattle.std.proofs.Common.{◌≡◌, ℕ, List, Bool, false, sym, ap, ◌∙◌, subst}
use Rattle.disk_model.proofs.VaultLemmas.{no_calls}
use Rattle.disk_model.specs.Sink.{SinkView}
use Rattle.disk_model.specs.Vault.{SomeCalls, VaultState}
use Rattle.file_table.specs.Table.{TableValue}
use Rattle.array_setup.specs.Setup.{SetupValue}
use Rattle.snap_config.specs.declared.options.Command.{Command}
use Rattle.snap_report.specs.Answer.{done_answer, status_of as answer_status}
use Rattle.snap_report.specs.Telling.{Tells, between}
use Rattle.snap_report.specs.declared.events.Event.{Event}
use Rattle.snap_top.specs.Does.{PrintsAlone}
use Rattle.snap_top.specs.Stands.{TellsVault}
use Rattle.snap_top.specs.Printing.{EndsPrinted}
use Rattle.snap_top.specs.Run.{IsAnswered, IsRun}
use Rattle.snap_top.specs.Entry.{Entry, Exit}
use Rattle.snap_top.specs.Task.{Left}
use Rattle.snap_top.specs.Views.{World, view_of, world_of}
use Rattle.snap_top.specs.declared.end.Ending.{Ending}
use Rattle.snap_top.proofs.EndedLemmas.{done_status, output_rose}
use Rattle.snap_top.proofs.OfSyncLemmas.{configured_for, start_out, table_among, table_loading}

pub ended_printed : (before : Entry) (exit : Exit) (tells : TellsVault before) (setup : SetupValue) (ending : Ending) (told : List Event) (ran : IsRun before exit setup ending told) (left : Left)
    (one : IsAnswered ran.task ran.given (world_of exit.after) left ran.did) (command : Command) → ran.task.command ≡ command → (text : TableValue → List ℕ) (counted : TableValue → ℕ) (status : ℕ) → status ≡ answer_status left.answer
    → PrintsAlone (text one.table) (counted one.table) one.start (world_of exit.after) left ran.did → EndsPrinted command text counted before exit status
ended_printed before exit tells setup ending told ran left one command command_is text counted status is alone =
    let failed : Bool = alone.prints.failed in
    let calls : SomeCalls (view_of one.start.vault) (view_of (world_of exit.after).vault)
    = subst (λ (vault : VaultState). SomeCalls (view_of one.start.vault) (view_of vault)) (sym (ap (λ (world : World). world.vault) alone.others)) (no_calls (view_of one.start.vault)) in
    record {
      setup = ran.task.setup;
      readers = ran.task.readers;
      configured = configured_for before exit tells.tells tells.tells_vault setup ending told ran command command_is;
      table = one.table;
      valid = one.valid;
      begins = table_among before exit tells.tells tells.tells_vault setup ending told ran left one;
      loading = table_loading before exit tells.tells tells.tells_vault setup ending told ran left one calls;
      output_failed = failed;
      printed = subst (λ (out : SinkView). Tells (text one.table) (between false out) (between failed exit.after.out))
          (start_out before exit tells.tells tells.tells_vault setup ending told ran left one) alone.prints.told;
      status_is = done_status (counted one.table) status failed (is ∙ ap answer_status alone.prints.answer_is);
      output = output_rose before exit setup ending told ran left one failed
          (alone.prints.answer_is ∙ ap (λ (n : ℕ). done_answer n failed) (sym (ap (λ (its : Left). its.counted) alone.left_is)));
    }
