-- A sync that is done is the part sync of its layout, and every copy spells its table.
use Rattle.std.proofs.Common.{◌≡◌, All, ℕ, ◌-◌, ◌^◌, ◌<◌, ◌≤◌, List, ◌++◌, length, take, false, refl, sym, ap, ◌∙◌, subst, arith}
use Rattle.std.proofs.lemmas.List.{take_all}
use Rattle.array_scan.specs.Layout.{pending_stripes}
use Rattle.content_file.specs.Save.{HasSaved}
use Rattle.content_file.specs.Spelling.{spelling}
use Rattle.disk_model.specs.Files.{Files}
use Rattle.disk_model.specs.Sink.{SinkView}
use Rattle.disk_model.specs.Vault.{VaultView, Holds}
use Rattle.file_table.specs.Table.{TableValue}
use Rattle.snap_report.specs.EventLines.{lines_of}
use Rattle.snap_report.specs.Telling.{Tells, between}
use Rattle.snap_report.specs.Text.{sync_text}
use Rattle.snap_report.specs.declared.events.Event.{Event}
use Rattle.snap_sync.specs.Closing.{closed, verified_in}
use Rattle.snap_sync.specs.Ended.{IsFoundIn}
use Rattle.stripe_findings.specs.Findings.{events_of}
use Rattle.snap_sync.specs.Images.{HasParityAfter}
use Rattle.snap_sync.specs.Part.{AllTell, AllVerified, IsFullSync, IsPartSync, IsToldRun, NoneRose, SyncRun, readings_by, run_table, run_trees, run_verified, verified_stripes}
use Rattle.stripe_findings.specs.Reading.{StripeReading, is_verified, stripes_of}
use Rattle.snap_top.specs.End.{status_of}
use Rattle.snap_top.specs.InPart.{EndsInPart}
use Rattle.snap_top.specs.AsAsked.{SyncsEndInPart}
use Rattle.snap_top.specs.Began.{IsSyncOf}
use Rattle.snap_top.specs.Stands.{TellsAll}
use Rattle.snap_top.specs.Run.{Ran}
use Rattle.snap_top.specs.Entry.{Entry, Exit}
use Rattle.snap_top.specs.Sync.{end_table, LeavesSynced}
use Rattle.snap_top.specs.declared.end.End.{End}
use Rattle.snap_top.specs.declared.end.Ending.TheVariants.{Answered}
use Rattle.snap_top.proofs.EndedLemmas.{output_rose}
use Rattle.snap_top.proofs.MomentLemmas.{LayoutIsOfTrees}
use Rattle.snap_top.proofs.OfSyncLemmas.{KeepsItsStripes, start_out}
use Rattle.snap_top.proofs.SyncEndLemmas.{FindsWhatIsPending, HasEndedSync, all_of, is_sync as sync_is, run as run_ended, stands, status_well, still_tells, sync_ended}

-- ---- what snap_sync says of a sync that ended

abbrev pub ReadIsPartSync : Type 0
ReadIsPartSync = (run : SyncRun) (count : ℕ) (files new : Files) → IsToldRun run → count ≤ length run.readings → HasParityAfter run.plan run.readings count files new
    → IsPartSync run.plan.start (run_trees run) (run_verified run count) run.plan.now files (run_table run count) new

abbrev pub VerifiedIsFullSync : Type 0
VerifiedIsFullSync = (run : SyncRun) (files new : Files) → IsToldRun run → length run.readings ≡ length (pending_stripes run.plan.start.infos) → AllVerified run.plan.start run.readings
    → HasParityAfter run.plan run.readings (length run.readings) files new
    → IsFullSync run.setup run.loaded (run_trees run) run.plan.now files (closed run.plan.now run.plan.start run.readings) new

abbrev pub ReadIsGiven : Type 0
ReadIsGiven = (run : SyncRun) → IsToldRun run → NoneRose run.folders run.ended → run.readings ≡ readings_by run.plan.start (run_trees run) (stripes_of run.readings)

abbrev pub PendingIsFound : Type 0
PendingIsFound = (start : TableValue) (readings : List StripeReading) → All (λ (reading : StripeReading). is_verified start reading ≡ false → IsFoundIn (events_of start readings) reading.stripe) readings

-- ---- what follows of files that hold in a vault, holds in it

pub holds_on : (P Q : Files → Type 0) (v : VaultView) → ((files : Files) → P files → Q files) → Holds P v → Holds Q v
holds_on P Q v on has = record { reads = λ told. on v.files (has.reads told); leaves = λ told files left. on files (has.leaves told files left) }

-- ---- a sync that went to its end

module _ (laid : LayoutIsOfTrees) (part : ReadIsPartSync) (full : VerifiedIsFullSync) (given : ReadIsGiven) (finds : FindsWhatIsPending) (found : PendingIsFound) (keeps : KeepsItsStripes) (before : Entry) (exit : Exit) (tells : TellsAll before)
    (in_time : before.moment < 2 ^ 64) (status : ℕ) (sync : HasEndedSync before exit status) where
  abbrev run : SyncRun
  run = run_ended keeps before exit tells.tells tells.tells_vault in_time status sync

  abbrev old : Files
  old = before.opener.vault.files

  is_sync : IsSyncOf before exit run
  is_sync = sync_is keeps before exit tells.tells tells.tells_vault in_time status sync

  told_run : IsToldRun run
  told_run = record {
    told = subst AllTell (sym is_sync.folders_are) tells.tells_folders;
    of_lists = is_sync.over.listed;
  }

  all : stripes_of run.readings ≡ pending_stripes run.plan.start.infos
  all = all_of keeps before exit tells.tells tells.tells_vault in_time status sync

  leaves : Holds (LeavesSynced run old) exit.after.vault
  leaves = stands keeps before exit tells.tells tells.tells_vault in_time status sync

  abbrev whole : take (length run.readings) run.readings ≡ run.readings
  whole = take_all (length run.readings) run.readings (omega arith)

  left_over : sync.ends.pending ≡ length run.readings - verified_in run.plan.start run.readings
  left_over = omega (arith, sync.ends.pending_is, sync.ends.synced_is, sync.ends.all)

  held_out : sync.one.start.out ≡ before.out
  held_out = start_out before exit tells.tells tells.tells_vault sync.setup (Answered sync.answer sync.named) sync.told sync.ran sync.left sync.one

  abbrev lines : List ℕ
  lines = lines_of run.plan.start.columns (events_of run.plan.start run.readings)

  printed : Tells (lines ++ sync_text (verified_in run.plan.start run.readings) (length run.readings - verified_in run.plan.start run.readings)) (between false before.out) (between sync.ends.prints.failed exit.after.out)
  printed =
      subst (λ (text : List ℕ). Tells (lines ++ text) (between false before.out) (between sync.ends.prints.failed exit.after.out))
      (ap (λ (n : ℕ). sync_text n sync.ends.pending) sync.ends.synced_is ∙ ap (sync_text (verified_in run.plan.start run.readings)) left_over)
      (subst (λ (out : SinkView). Tells (lines ++ sync_text sync.ends.synced sync.ends.pending) (between false out) (between sync.ends.prints.failed exit.after.out)) held_out sync.ends.prints.told)

  pub ended_in_part : EndsInPart before exit status
  ended_in_part = record {
    run = run;
    is_sync = is_sync;
    tells = still_tells keeps before exit tells.tells tells.tells_vault in_time status sync;
    all = all;
    laid = laid run told_run;
    given = λ none. given run told_run none ∙ ap (readings_by run.plan.start (run_trees run)) all;
    part = holds_on (LeavesSynced run old) _ exit.after.vault (λ new synced.
        subst (λ (rs : List StripeReading). IsPartSync run.plan.start (run_trees run) (verified_stripes run.plan.start rs) run.plan.now old (closed run.plan.now run.plan.start rs) new) whole
        (part run (length run.readings) old new told_run (omega arith) synced.parity)) leaves;
    saved = holds_on (LeavesSynced run old) _ exit.after.vault (λ new synced.
        subst (λ (n : ℕ). HasSaved n (spelling (end_table run)) new) is_sync.over.copies_are synced.saved) leaves;
    found = found run.plan.start run.readings;
    full = λ all_verified. holds_on (LeavesSynced run old) _ exit.after.vault (λ new synced. full run old new told_run sync.ends.all all_verified synced.parity) leaves;
    output_failed = sync.ends.prints.failed;
    printed = printed;
    status_is = status_well keeps before exit tells.tells tells.tells_vault in_time status sync finds;
    output = output_rose before exit sync.setup (Answered sync.answer sync.named) sync.told sync.ran sync.left sync.one sync.ends.prints.failed sync.ends.prints.answer_is;
  }

  pub ended_run : ended_in_part.run ≡ run
  unfolding ended_in_part
  ended_run = refl

-- of each run
pub syncs_end_in_part : LayoutIsOfTrees → ReadIsPartSync → VerifiedIsFullSync → ReadIsGiven → FindsWhatIsPending → PendingIsFound → KeepsItsStripes → (before : Entry) (exit : Exit) (end : End) (told : List Event) (status : ℕ)
    → before.moment < 2 ^ 64 → status ≡ status_of end → Ran before exit end told → SyncsEndInPart before exit status
syncs_end_in_part laid part full given finds found keeps before exit end told status in_time is ran tells went asked way words command =
    ended_in_part laid part full given finds found keeps before exit tells in_time status
    (sync_ended before exit end told status tells.tells is ran (record { asked = asked; way = way; words = words; command_is = command; went = went }))
