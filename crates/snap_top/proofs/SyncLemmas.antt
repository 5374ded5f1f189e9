-- What a sync leaves, as a command that was carried out.
use Rattle.std.proofs.Common.{◌≡◌, ℕ, ◌+◌, ◌<◌, ◌==◌, ◌||◌, List, [], ◌∷◌, ◌++◌, length, count_by, cond, Bool, true, false, if◌then◌else◌, not, IsTrue, Option, None, Some, refl, sym, ap, ◌∙◌, subst, arith}
use Rattle.std.specs.List.{flat_map, list_any, range_with_len}
use Rattle.std.proofs.lemmas.List.{append-nil}
use Rattle.std.proofs.lemmas.List.Sums.{sum_by-append}
use Rattle.disk_model.specs.declared.answer.Answer.{Answer as CallAnswer}
use Rattle.disk_model.specs.declared.answer.Answer.TheVariants as given
use Rattle.disk_model.specs.Cause.{Rose, RoseBy}
use Rattle.disk_model.specs.Files.{Files, Stays}
use Rattle.disk_model.specs.Folder.{FolderView, IsFolderReading, ListFiles}
use Rattle.disk_model.specs.Sink.{SinkView}
use Rattle.disk_model.specs.Vault.{VaultView, VaultCall, VaultDone, ParityLen, ParityRead, ParityWrite, ParitySetLen, ParitySync, ContentSize, ContentRead, DraftBegin, DraftAppend, DraftSeal, Publish, ChangesBy, Holds, state_of}
use Rattle.disk_model.proofs.VaultLemmas.{no_calls, changes_start}
use Rattle.content_file.specs.Save.{HasSaved}
use Rattle.content_file.specs.Spelling.{spelling}
use Rattle.array_scan.specs.declared.fault.ScanFault.TheVariants as scans
use Rattle.block_hash.specs.declared.Digest16.{Digest16}
use Rattle.file_table.specs.Cells.{CellView, cell_seen, cell_in}
use Rattle.file_table.specs.Table.{TableValue, Column, column_at}
use Rattle.file_table.specs.declared.block.Cell.{Cell}
use Rattle.snap_config.specs.declared.options.Command.{Command}
use Rattle.snap_config.specs.declared.options.Command.TheVariants as commands
use Rattle.array_setup.specs.declared.ways.SyncWay.{SyncWay}
use Rattle.snap_report.specs.Answer.{Outside, IsCaused, FolderFailed, done_answer, is_parity_io, broke_vault}
use Rattle.snap_report.specs.EventLines.{lines_of}
use Rattle.snap_report.specs.Report.{ReportView}
use Rattle.snap_report.specs.State.{state_of as told_of, Puts}
use Rattle.snap_report.specs.Telling.{Written, Tells, Settled, between}
use Rattle.snap_report.specs.declared.answer.Answer.{Answer}
use Rattle.snap_report.specs.declared.answer.Answer.TheVariants as answers
use Rattle.snap_report.specs.declared.answer.RunFault.TheVariants as runs
use Rattle.snap_report.specs.declared.events.Event.{Event}
use Rattle.snap_report.specs.declared.events.Event.TheVariants.{Io, ChangedBlock}
use Rattle.snap_report.specs.declared.pages.Lines.{Lines}
use Rattle.snap_report.proofs.ReportLemmas.{all_given_nothing}
use Rattle.stripe_reader.specs.SlotValue.{SlotValue}
use Rattle.snap_sync.specs.Beginning.{BeginsNot}
use Rattle.snap_sync.specs.Calls.{SyncPlan}
use Rattle.snap_sync.specs.Course.{TouchesVault, Syncs, SyncsNot, BreaksOff, outside}
use Rattle.stripe_findings.specs.Findings.{silent_event, wrong_event, block_events, cell_events, events_at, stripe_events, events_of}
use Rattle.snap_sync.specs.Images.{MayStand, HasParityAfter}
use Rattle.snap_sync.specs.Part.{SyncRun}
use Rattle.stripe_findings.specs.Reading.{StripeReading, is_right, is_unread, is_recorded, slot_of}
use Rattle.snap_sync.specs.Work.{broke_sync}
use Rattle.snap_sync.specs.declared.fault.SyncFault.{SyncFault}
use Rattle.snap_sync.specs.declared.fault.SyncFault.TheVariants.{Scan, Run}
use Rattle.snap_sync.specs.declared.syncing.SyncEnd.{SyncEnd}
use Rattle.snap_top.specs.Does.{DoesCommand, IsDone}
use Rattle.snap_top.specs.Syncing.{plan_for, run_of, answer_of, named_of, SyncEnds, SyncRefuses, SyncsBy}
use Rattle.snap_top.specs.Task.{Task, Left, outside_of}
use Rattle.snap_top.specs.Did.{Did, reads_only, syncs}
use Rattle.snap_top.specs.Sync.{end_table, LeavesSynced}
use Rattle.snap_top.specs.Views.{World, WorldView, world_view, world_of, view_of, folder_at}
use Rattle.snap_top.proofs.DoneLemmas.{by_output, nothing_more}
use Rattle.snap_top.proofs.FolderLemmas.{all_listed, stripes_read, begun_not}
use Rattle.snap_top.proofs.ViewsLemmas.{some_calls_of, sink_stays, all_read_then}

-- ---- events of a sync: none is of a level

count_both : (xs ys : List Event) → count_by is_parity_io xs ≡ 0 → count_by is_parity_io ys ≡ 0 → count_by is_parity_io (xs ++ ys) ≡ 0
count_both xs ys one two = let both = sum_by-append (λ (event : Event). cond (is_parity_io event) 1 0) xs ys in omega (arith, both, one, two)

silent_none : (stripe d : ℕ) (cell : Cell) (recorded came : Option Digest16) → count_by is_parity_io (silent_event stripe d cell recorded came) ≡ 0
silent_none stripe d cell (Some recorded) (Some came) = refl
silent_none stripe d cell (Some recorded) None = refl
silent_none stripe d cell None came = refl

wrong_none : (stripe d : ℕ) (cell : Cell) (seen : CellView) (slot : SlotValue) → count_by is_parity_io (wrong_event stripe d cell seen slot) ≡ 0
wrong_none stripe d cell seen slot = by (is_unread slot.cell.found) (is_recorded seen.meta slot)
  where
    by : (unread recorded : Bool) → count_by is_parity_io (if unread then Io stripe d cell.rec cell.index ∷ [] else if recorded then silent_event stripe d cell seen.hash slot.digest
        else ChangedBlock stripe d cell.rec cell.index slot.cell.seen slot.cell.got ∷ []) ≡ 0
    by true recorded = refl
    by false true = silent_none stripe d cell seen.hash slot.digest
    by false false = refl

block_none : (stripe d : ℕ) (cell : Cell) (seen : CellView) (slot : SlotValue) → count_by is_parity_io (block_events stripe d cell seen slot) ≡ 0
block_none stripe d cell seen slot = by (is_right (Some seen) slot)
  where
    by : (right : Bool) → count_by is_parity_io (if right then [] else wrong_event stripe d cell seen slot) ≡ 0
    by true = refl
    by false = wrong_none stripe d cell seen slot

cell_none : (stripe d : ℕ) (column : Column) (cell : Option Cell) (slot : SlotValue) → count_by is_parity_io (cell_events stripe d column cell slot) ≡ 0
cell_none stripe d column None slot = refl
cell_none stripe d column (Some cell) slot = block_none stripe d cell (cell_seen column cell) slot

flat_none : {A : Type 0} (f : A → List Event) (xs : List A) → ((x : A) → count_by is_parity_io (f x) ≡ 0) → count_by is_parity_io (flat_map f xs) ≡ 0
flat_none f [] each = refl
flat_none f (x ∷ xs) each = count_both (f x) (flat_map f xs) (each x) (flat_none f xs each)

no_level_read : (start : TableValue) (readings : List StripeReading) → count_by is_parity_io (events_of start readings) ≡ 0
no_level_read start readings = flat_none (stripe_events start) readings (λ reading. flat_none (events_at start reading) (range_with_len 0 (length start.columns)) (λ d.
    cell_none reading.stripe d (column_at start.columns d) (cell_in (column_at start.columns d) reading.stripe) (slot_of d reading)))

-- ---- the vault, by its states

pub never : {P : Type 0} → IsTrue false → P
never told = absurd (let clash : false ≡ true = told in cc)

pub changes_of : (step : Files → Files → Type 0) (old new : VaultView) → ChangesBy step old new → ChangesBy step (view_of (state_of old)) (view_of (state_of new))
changes_of step old new changes = record {
  reads = changes.reads;
  leaves = record { told = λ t. t; later = λ t. never t; within = λ t u files le left. never t; at_end = λ t files left. never t };
}

pub holds_of : (P : Files → Type 0) (v : VaultView) → Holds P v → Holds P (view_of (state_of v))
holds_of P v holds = record { reads = holds.reads; leaves = λ told files left. never told }

touches_of : (plan : SyncPlan) (failed : Bool) (readings : List StripeReading) (old new : VaultView) → TouchesVault plan failed readings old new → TouchesVault plan failed readings (view_of (state_of old)) (view_of (state_of new))
touches_of plan failed readings old new touches = record {
  calls = some_calls_of old new touches.calls;
  ran = touches.ran;
  broke = λ is. let broke = touches.broke is in record { rose = broke.rose; call = broke.call };
  changes = changes_of (MayStand plan readings) old new touches.changes;
}

-- a call that is none of a reading reads no parity
one_more : (call : VaultCall) (answer : CallAnswer) → IsTrue (broke_sync (record { call = call; answer = answer })) → IsTrue (broke_vault (record { call = call; answer = answer }))
one_more (ParityLen level) answer is = is
one_more (ParityRead level at n) answer is = never is
one_more (ParityWrite level at bytes) answer is = is
one_more (ParitySetLen level len) answer is = is
one_more (ParitySync level) answer is = is
one_more (ContentSize copy) answer is = never is
one_more (ContentRead copy at n) answer is = never is
one_more (DraftBegin copy) answer is = is
one_more (DraftAppend copy bytes) answer is = is
one_more (DraftSeal copy) answer is = is
one_more (Publish copy) answer is = is

-- where one test is met, so is a wider one
pub any_more : {A : Type 0} (p q : A → Bool) → ((x : A) → IsTrue (p x) → IsTrue (q x)) → (xs : List A) → IsTrue (list_any p xs) → IsTrue (list_any q xs)
any_more p q each [] is = is
any_more p q each (x ∷ xs) is = either (p x) (q x) (list_any p xs) (list_any q xs) (each x) (any_more p q each xs) is
  where
    either : (a b c d : Bool) → (IsTrue a → IsTrue b) → (IsTrue c → IsTrue d) → IsTrue (a || c) → IsTrue (b || d)
    either true true c d one two is' = refl
    either true false c d one two is' = never (one refl)
    either false true c d one two is' = refl
    either false false c d one two is' = two is'

pub broke_more : (calls : List VaultDone) → IsTrue (list_any broke_sync calls) → IsTrue (list_any broke_vault calls)
broke_more calls is = any_more broke_sync broke_vault (λ (done : VaultDone). one_more done.call done.answer) calls is

-- ---- what was printed

settled_tells : (text : List ℕ) (out : SinkView) (w : Written) → Tells text (between false out) w → Settled w → Tells text (between false out) (between w.failed w.sink)
settled_tells text out w tells settled = record {
  goes_on = tells.goes_on;
  stays = λ was. never was;
  unfailed = tells.unfailed;
  cause = tells.cause;
  whole = λ no told. ap (λ held. w.sink.written ++ held) (sym (settled no)) ∙ tells.whole no told;
  part = tells.part;
}

module _ {W : Type 0} (view : W → SinkView) (text : List ℕ) (out out_new : SinkView) (lines lines_new : Lines W) where
  pub printed_lines : told_of view lines ≡ between false out → (told_of view lines_new).sink ≡ out_new → Puts view text lines lines_new → (Settled (told_of view lines) → Settled (told_of view lines_new))
      → Tells text (between false out) (between lines_new.failed out_new)
  printed_lines start last puts settled =
      let first : Settled (told_of view lines) = subst Settled (sym start) (λ no. refl) in
      let told : Tells text (between false out) (told_of view lines_new) = subst (λ w. Tells text w (told_of view lines_new)) start puts.tells in
      subst (λ s. Tells text (between false out) (between lines_new.failed s)) last (settled_tells text out (told_of view lines_new) told (settled first))

-- what a sync that ended leaves
leaves_synced : (run : SyncRun) (old : Files) (v : VaultView) → Holds (HasSaved run.plan.copies (spelling (end_table run))) v → Holds (HasParityAfter run.plan run.readings (length run.readings) old) v
    → Holds (LeavesSynced run old) v
leaves_synced run old v saved parity = record {
  reads = λ told. record { saved = saved.reads told; parity = parity.reads told };
  leaves = λ told files left. record { saved = saved.leaves told files left; parity = parity.leaves told files left };
}

-- ---- the whole

-- by the answer of an engine that is done
ends_by : (counted : ℕ) (failed : Bool) (task : Task) (way : SyncWay) (table : TableValue) (before after : World) (left : Left) (did : Did) → SyncEnds task way table before after left did
    → SyncsBy (done_answer counted failed) task way table before after left did
ends_by counted true task way table before after left did ends = ends
ends_by counted false task way table before after left did ends = by (counted == 0)
  where
    by : (none : Bool) → SyncsBy (if none then answers.Clean else answers.Found) task way table before after left did
    by true = ends
    by false = ends

refuses_by : (fault : SyncFault) (task : Task) (way : SyncWay) (table : TableValue) (before after : World) (left : Left) (did : Did) → BeginsNot task.setup way table before.folders after.folders fault
    → SyncRefuses task way table before after left did → SyncsBy (answer_of fault) task way table before after left did
refuses_by (Scan (scans.Zeroed disk rec) of) task way table before after left did why refuses = refuses
refuses_by (Scan (scans.Emptied disk) of) task way table before after left did why refuses = refuses
refuses_by (Scan (scans.Full blocks files) of) task way table before after left did why refuses = refuses
refuses_by (Scan scans.Memory of) task way table before after left did why refuses = refuses
refuses_by (Run (runs.Folder disk)) task way table before after left did why refuses = refuses
refuses_by (Run runs.Memory) task way table before after left did why refuses = refuses
refuses_by (Run runs.Vault) task way table before after left did why refuses = absurd why

-- a folder that could not be listed failed so that the run ends
pub listing_failed : (disk : ℕ) (old new : FolderView) → IsFolderReading ListFiles given.Failed old new → FolderFailed disk [] old new
listing_failed disk old new is = record {
  rose = is.called.cause refl;
  call = λ told. record { gained = record { call = ListFiles; answer = given.Failed } ∷ []; now_is = is.called.goes_on.calls.more told; one = refl };
}

refusal_caused : (fault : SyncFault) (task : Task) (way : SyncWay) (table : TableValue) (olds news : List FolderView) (old new : Outside) → old.folders ≡ olds → new.folders ≡ news
    → BeginsNot task.setup way table olds news fault → IsCaused (answer_of fault) 0 [] old new
refusal_caused (Scan (scans.Zeroed disk rec) of) task way table olds news old new os ns why = tt
refusal_caused (Scan (scans.Emptied disk) of) task way table olds news old new os ns why = tt
refusal_caused (Scan (scans.Full blocks files) of) task way table olds news old new os ns why = tt
refusal_caused (Scan scans.Memory of) task way table olds news old new os ns why = tt
refusal_caused (Run (runs.Folder disk)) task way table olds news old new os ns why = (
  subst (λ (fs : List FolderView). disk < length fs) (sym os) why.within,
  subst (λ (fs : List FolderView). FolderFailed disk [] (folder_at fs disk) (folder_at new.folders disk)) (sym os)
      (subst (λ (fs : List FolderView). FolderFailed disk [] (folder_at olds disk) (folder_at fs disk)) (sym ns) (listing_failed disk _ _ why.failed)),
)
refusal_caused (Run runs.Memory) task way table olds news old new os ns why = tt
refusal_caused (Run runs.Vault) task way table olds news old new os ns why = absurd why

module _ {R : Type 0} (standing : R → ReportView) (stands : R → List Event → Type 0) (task : Task) (way : SyncWay) (table : TableValue) (command : task.command ≡ commands.Sync way) where
  -- by the command of the task
  as_command : (before after : World) (left : Left) (did : Did) → SyncsBy left.answer task way table before after left did → DoesCommand task.command task table before after left did
  as_command before after left did does = subst (λ (c : Command). DoesCommand c task table before after left did) (sym command) does

  refused_done : (folders folders_new : List FolderView) (vault : VaultView) (out : SinkView) (reports : List R) (fault : SyncFault) → length folders_new ≡ length folders
      → BeginsNot task.setup way table folders folders_new fault
      → IsDone standing stands task table (world_view folders vault out) (world_view folders_new vault out) reports reports (answer_of fault) (named_of fault)
  refused_done folders folders_new vault out reports fault many why =
      let before = world_of (world_view folders vault out) in
      let after = world_of (world_view folders_new vault out) in
      let left : Left = record { answer = answer_of fault; named = named_of fault; counted = 0; told = [] } in
      record {
        left = left;
        answer_is = refl;
        named_is = refl;
        did = reads_only;
        does = as_command before after left reads_only (refuses_by fault task way table before after left reads_only why
            (record { fault = fault; why = why; left_is = refl; did_is = refl; others = refl }));
        changes = changes_start Stays vault (λ files. refl);
        ends = λ tells. nothing_more vault.files vault;
        caused = refusal_caused fault task way table folders folders_new (outside_of before) (outside_of after) refl refl why;
        keeps = record { folders = begun_not task way table folders folders_new fault many why; vault = no_calls (view_of (state_of vault)); writes = refl; out = sink_stays out };
        reports = all_given_nothing standing stands reports;
      }

  module _ {W : Type 0} (view : W → SinkView) (folders folders_new : List FolderView) (vault vault_new : VaultView) (out out_new : SinkView) (lines lines_new : Lines W) (olds news : List R)
      (start_is : told_of view lines ≡ between false out) (last_is : (told_of view lines_new).sink ≡ out_new) where
    pub ended_done : (end : SyncEnd) → Syncs view standing stands task.setup way table task.moment (outside folders vault lines olds) (outside folders_new vault_new lines_new news) end
        → IsDone standing stands task table (world_view folders vault out) (world_view folders_new vault_new out_new) olds news (done_answer end.findings lines_new.failed) None
    ended_done end syncs_is =
        let ends = syncs_is.ends in
        let course = ends.course in
        let start = syncs_is.start in
        let events = events_of start ends.readings in
        let plan = plan_for task way start (world_of (world_view folders vault out)) in
        let run : SyncRun = run_of task way table (world_of (world_view folders vault out)) (world_of (world_view folders_new vault_new out_new)) start syncs_is.listed ends.readings [] in
        let did : Did = syncs false run in
        let left : Left = record { answer = done_answer end.findings lines_new.failed; named = None; counted = end.findings; told = events } in
        let told = printed_lines view _ out out_new lines lines_new start_is last_is course.tells.puts course.tells.settled in
        record {
          left = left;
          answer_is = refl;
          named_is = refl;
          did = did;
          does = as_command (world_of (world_view folders vault out)) (world_of (world_view folders_new vault_new out_new)) left did
              (ends_by end.findings lines_new.failed task way table (world_of (world_view folders vault out)) (world_of (world_view folders_new vault_new out_new)) left did (record {
                course = record {
                  start = start;
                  listed = syncs_is.listed;
                  laid = syncs_is.laid;
                  readings = ends.readings;
                  ahead = [];
                  did_is = refl;
                  reads = course.reads;
                  vault = touches_of plan false ends.readings vault vault_new course.vault;
                  told_is = refl;
                };
                all = ends.all;
                synced = end.synced;
                pending = end.pending;
                synced_is = ends.synced;
                pending_is = ends.pending;
                saved = holds_of _ vault_new (subst (λ t. Holds (HasSaved plan.copies (spelling t)) vault_new) ends.table_is ends.saved);
                parity = holds_of _ vault_new ends.parity;
                no_draft = ends.no_draft;
                named_is = refl;
                counted_is = ends.findings;
                prints = record { failed = lines_new.failed; told = told; answer_is = refl };
              }));
          changes = course.vault.changes;
          ends = λ tells. leaves_synced run vault.files vault_new (subst (λ t. Holds (HasSaved plan.copies (spelling t)) vault_new) ends.table_is ends.saved) ends.parity;
          caused = by_output end.findings lines_new.failed events (outside_of (world_of (world_view folders vault out))) (outside_of (world_of (world_view folders_new vault_new out_new))) (λ failed. told.cause refl failed);
          keeps = record {
            folders = all_read_then folders syncs_is.listed folders_new (all_listed folders syncs_is.listed syncs_is.laid.lists syncs_is.laid.as_many syncs_is.laid.listed) (stripes_read start _ syncs_is.listed folders_new course.reads);
            vault = some_calls_of vault vault_new course.vault.calls;
            writes = tt;
            out = told.goes_on;
          };
          reports = course.tells.given;
        }

    broken_done : BreaksOff view standing stands task.setup way table task.moment (outside folders vault lines olds) (outside folders_new vault_new lines_new news)
        → IsDone standing stands task table (world_view folders vault out) (world_view folders_new vault_new out_new) olds news (answers.Broken runs.Vault) None
    broken_done breaks_off =
        let breaks = breaks_off.breaks in
        let course = breaks.course in
        let start = breaks_off.start in
        let events = events_of start breaks.readings in
        let plan = plan_for task way start (world_of (world_view folders vault out)) in
        let run : SyncRun = run_of task way table (world_of (world_view folders vault out)) (world_of (world_view folders_new vault_new out_new)) start breaks_off.listed breaks.readings breaks.ahead in
        let did : Did = syncs true run in
        let left : Left = record { answer = answers.Broken runs.Vault; named = None; counted = 0; told = events } in
        let told = printed_lines view _ out out_new lines lines_new start_is last_is course.tells.puts course.tells.settled in
        let broke = course.vault.broke refl in
        record {
          left = left;
          answer_is = refl;
          named_is = refl;
          did = did;
          does = as_command (world_of (world_view folders vault out)) (world_of (world_view folders_new vault_new out_new)) left did (record {
            course = record {
              start = start;
              listed = breaks_off.listed;
              laid = breaks_off.laid;
              readings = breaks.readings;
              ahead = breaks.ahead;
              did_is = refl;
              reads = course.reads;
              vault = touches_of plan true breaks.readings vault vault_new course.vault;
              told_is = refl;
            };
            few = breaks.few;
            window = breaks.window;
            answer_is = refl;
            named_is = refl;
            counted_is = refl;
            output_failed = lines_new.failed;
            printed = subst (λ text. Tells text (between false out) (between lines_new.failed out_new)) (append-nil (lines_of start.columns events)) told;
          });
          changes = course.vault.changes;
          ends = λ tells. record { reads = λ told. tt; leaves = λ told files left. tt };
          caused = record {
            rose = rose_by_one (count_by is_parity_io events) vault.faults vault_new.faults (no_level_read start breaks.readings) broke.rose;
            call = λ now. let gained = broke.call now in record { gained = gained.gained; now_is = gained.now_is; one = broke_more gained.gained gained.one };
          };
          keeps = record {
            folders = all_read_then folders breaks_off.listed folders_new (all_listed folders breaks_off.listed breaks_off.laid.lists breaks_off.laid.as_many breaks_off.laid.listed) (stripes_read start _ breaks_off.listed folders_new course.reads);
            vault = some_calls_of vault vault_new course.vault.calls;
            writes = tt;
            out = told.goes_on;
          };
          reports = course.tells.given;
        }
      where
        rose_by_one : (n old new : ℕ) → n ≡ 0 → Rose old new → RoseBy (n + 1) old new
        rose_by_one n old new none rose = omega (arith, none, rose)

    same_refused : (untouched : Type 0) (fault : SyncFault) → length folders_new ≡ length folders → (untouched → (P : VaultView → Type 0) → P vault → P vault_new) → (untouched → told_of view lines_new ≡ told_of view lines)
        → (untouched → news ≡ olds) → untouched → BeginsNot task.setup way table folders folders_new fault
        → IsDone standing stands task table (world_view folders vault out) (world_view folders_new vault_new out_new) olds news (answer_of fault) (named_of fault)
    same_refused untouched fault many same_vault same_lines same_reports still why =
        let out_same : out_new ≡ out = sym last_is ∙ ap (λ (w : Written). w.sink) (same_lines still ∙ start_is) in
        subst (λ rs. IsDone standing stands task table (world_view folders vault out) (world_view folders_new vault_new out_new) olds rs (answer_of fault) (named_of fault)) (sym (same_reports still))
        (subst (λ o. IsDone standing stands task table (world_view folders vault out) (world_view folders_new vault_new o) olds olds (answer_of fault) (named_of fault)) (sym out_same)
        (same_vault still (λ v. IsDone standing stands task table (world_view folders vault out) (world_view folders_new v out) olds olds (answer_of fault) (named_of fault))
        (refused_done folders folders_new vault out olds fault many why)))

    pub not_ended_done : (untouched : Type 0) (fault : SyncFault) → length folders_new ≡ length folders → (untouched → (P : VaultView → Type 0) → P vault → P vault_new) → (untouched → told_of view lines_new ≡ told_of view lines) → (untouched → news ≡ olds)
        → SyncsNot view standing stands task.setup way table task.moment (outside folders vault lines olds) (outside folders_new vault_new lines_new news) untouched fault
        → IsDone standing stands task table (world_view folders vault out) (world_view folders_new vault_new out_new) olds news (answer_of fault) (named_of fault)
    not_ended_done untouched (Run runs.Vault) many same_vault same_lines same_reports not = broken_done not
    not_ended_done untouched (Run (runs.Folder disk)) many same_vault same_lines same_reports not = same_refused untouched (Run (runs.Folder disk)) many same_vault same_lines same_reports not.0 not.1
    not_ended_done untouched (Run runs.Memory) many same_vault same_lines same_reports not = same_refused untouched (Run runs.Memory) many same_vault same_lines same_reports not.0 not.1
    not_ended_done untouched (Scan fault of) many same_vault same_lines same_reports not = same_refused untouched (Scan fault of) many same_vault same_lines same_reports not.0 not.1

-- by an answer that is known otherwise
pub with_answer : {R : Type 0} (standing : R → ReportView) (stands : R → List Event → Type 0) (task : Task) (table : TableValue) (before after : WorldView) (olds news : List R) (answer known : Answer) (named known_named : Option TableValue)
    → answer ≡ known → named ≡ known_named → IsDone standing stands task table before after olds news known known_named → IsDone standing stands task table before after olds news answer named
with_answer standing stands task table before after olds news answer known named known_named answer_is named_is done =
    subst (λ a. IsDone standing stands task table before after olds news a named) (sym answer_is) (subst (λ n. IsDone standing stands task table before after olds news known n) (sym named_is) done)

-- the lines are those that were lent
pub same_output : {W R : Type 0} (view : W → SinkView) (standing : R → ReportView) (stands : R → List Event → Type 0) (task : Task) (way : SyncWay) (table : TableValue) (folders folders_new : List FolderView) (vault vault_new : VaultView)
    (lines lines_new : Lines W) (olds news : List R) (untouched : Type 0) (fault : SyncFault) → (untouched → lines_new.out.ghost_name ≡ lines.out.ghost_name)
    → SyncsNot view standing stands task.setup way table task.moment (outside folders vault lines olds) (outside folders_new vault_new lines_new news) untouched fault → lines_new.out.ghost_name ≡ lines.out.ghost_name
same_output view standing stands task way table folders folders_new vault vault_new lines lines_new olds news untouched (Run runs.Vault) same not = not.breaks.course.tells.puts.same_reference
same_output view standing stands task way table folders folders_new vault vault_new lines lines_new olds news untouched (Run (runs.Folder disk)) same not = same not.0
same_output view standing stands task way table folders folders_new vault vault_new lines lines_new olds news untouched (Run runs.Memory) same not = same not.0
same_output view standing stands task way table folders folders_new vault vault_new lines lines_new olds news untouched (Scan fault of) same not = same not.0
