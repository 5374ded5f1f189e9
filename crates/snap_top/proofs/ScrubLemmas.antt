-- What a scrub leaves, as a command that was carried out.
use Rattle.std.proofs.Common.{◌≡◌, ◌≢◌, ℕ, ◌+◌, ◌==◌, List, [], ◌∷◌, ◌++◌, All, sum_by, count_by, Bool, true, false, if◌then◌else◌, None, refl, sym, ap, ◌∙◌, subst, arith, append_assoc, length}
use Rattle.std.specs.List.{flat_map}
use Rattle.std.proofs.lemmas.List.{append-nil}
use Rattle.std.proofs.lemmas.List.Elements.{All-nil}
use Rattle.content_file.specs.Save.{HasSaved, piece_size}
use Rattle.content_file.specs.Spelling.{spelling}
use Rattle.disk_model.specs.Cause.{Rose, RoseBy}
use Rattle.disk_model.specs.Files.{Stays}
use Rattle.disk_model.specs.Folder.{FolderView}
use Rattle.disk_model.specs.Ran.{Log}
use Rattle.disk_model.specs.Sink.{SinkView}
use Rattle.disk_model.specs.Vault.{VaultView, VaultDone, Holds, copies_of, state_of}
use Rattle.disk_model.proofs.VaultLemmas.{no_calls, changes_start}
use Rattle.file_table.specs.Table.{TableValue}
use Rattle.snap_config.specs.declared.options.Command.{Command}
use Rattle.snap_config.specs.declared.options.Command.TheVariants as commands
use Rattle.array_setup.specs.declared.ways.ScrubWay.{ScrubWay}
use Rattle.snap_report.specs.Answer.{VaultFailed, done_answer, is_parity_io}
use Rattle.snap_report.specs.EndLines.{scrub_text}
use Rattle.snap_report.specs.EventLines.{lines_of}
use Rattle.snap_report.specs.Report.{ReportView}
use Rattle.snap_report.specs.State.{state_of as told_of}
use Rattle.snap_report.specs.Telling.{Tells, Written, between}
use Rattle.snap_report.specs.declared.answer.Answer.TheVariants as answers
use Rattle.snap_report.specs.declared.answer.RunFault.{RunFault}
use Rattle.snap_report.specs.declared.answer.RunFault.TheVariants as runs
use Rattle.snap_report.specs.declared.events.Event.{Event}
use Rattle.snap_report.specs.declared.pages.Lines.{Lines}
use Rattle.snap_report.proofs.ReportLemmas.{all_given_nothing}
use Rattle.snap_scrub.specs.Course.{Breaks, MayStandScrubbed, Scrubs, ScrubsNot, TouchesVault, outside, save_calls}
use Rattle.snap_scrub.specs.Findings.{events_of}
use Rattle.snap_scrub.specs.Marks.{scrubbed}
use Rattle.snap_scrub.specs.Reading.{ScrubReading, level_calls, unread_levels}
use Rattle.snap_scrub.specs.declared.scrubbing.ScrubEnd.{ScrubEnd}
use Rattle.snap_sync.specs.Work.{VaultBroke, broke_sync}
use Rattle.snap_sync.proofs.BrokeLemmas.{Changing, broke_among, pieces_change}
use Rattle.stripe_findings.specs.Reading.{AreRead, StripeReading}
use Rattle.snap_top.specs.Does.{DoesCommand, IsDone}
use Rattle.snap_top.specs.Scrub.{LeavesMarked, ScrubRun}
use Rattle.snap_top.specs.Scrubbing.{ScrubEnds, ScrubsBy, scrub_of}
use Rattle.snap_top.specs.Task.{Left, Task, outside_of}
use Rattle.snap_top.specs.Did.{Did, reads_only, scrubs}
use Rattle.snap_top.specs.Views.{AllReadOnly, World, view_of, world_of, world_view}
use Rattle.snap_top.proofs.DoneLemmas.{by_output, nothing_more}
use Rattle.snap_top.proofs.FolderLemmas.{column_reads_only}
use Rattle.snap_top.proofs.RunLemmas.{any_later}
use Rattle.snap_top.proofs.SyncLemmas.{broke_more, changes_of, holds_of, printed_lines}
use Rattle.snap_top.proofs.ViewsLemmas.{all_read_nothing, sink_stays, some_calls_of}

-- ---- what snap_scrub says of what it tells

abbrev pub UnreadAreTold : Type 0
UnreadAreTold = (table : TableValue) (readings : List ScrubReading) → count_by is_parity_io (events_of table readings) ≡ sum_by unread_levels readings

-- ---- the folders were only read

cells_read : (table : TableValue) (readings : List StripeReading) (olds news : List FolderView) → AreRead table readings olds news → AllReadOnly olds news
cells_read table readings olds news read = record {
  count = read.folders;
  each = λ d below. column_reads_only (read.each d below);
}

-- ---- the vault

touches_of : (table after : TableValue) (readings : List ScrubReading) (failed : Bool) (old new : VaultView) → TouchesVault table after readings failed old new
    → TouchesVault table after readings failed (view_of (state_of old)) (view_of (state_of new))
touches_of table after readings failed old new touches = record {
  calls = some_calls_of old new touches.calls;
  are = touches.are;
  read = touches.read;
  unread = touches.unread;
  made = touches.made;
  ran = touches.ran;
  changes = changes_of (MayStandScrubbed after readings) old new touches.changes;
  drafts = touches.drafts;
  rests = λ none. let stay = touches.rests none in record { state = stay.state; bytes = stay.bytes };
  unwritten = touches.unwritten;
}

-- the calls that save read nothing
saving_changes : (copies : ℕ) (after : TableValue) (readings : List ScrubReading) → All Changing (save_calls copies after readings)
saving_changes copies after [] = All-nil Changing
saving_changes copies after (reading ∷ readings) = pieces_change piece_size copies (spelling after)

-- one of them failed since levels were read
pub scrub_broke : (table after : TableValue) (readings : List ScrubReading) (old new : VaultView) → TouchesVault table after readings true old new → VaultBroke old new
scrub_broke table after readings old new touches =
    let read : Log = touches.read in
    let mid : VaultView = record (view_of (state_of old)) { faults = read.faults; tells_calls = read.tells; calls = read.calls } in
    let levels : List VaultDone = flat_map (level_calls table.shape.block_size) readings in
    let broke : VaultBroke mid new = broke_among (save_calls (copies_of old) after readings) mid new (saving_changes (copies_of old) after readings) touches.ran in
    record {
      rose = rose_since (sum_by unread_levels readings) old.faults read.faults new.faults touches.unread broke.rose;
      call = λ told. let gained = broke.call told in record {
        gained = levels ++ gained.gained;
        now_is = gained.now_is ∙ ap (λ (calls : List VaultDone). calls ++ gained.gained) (touches.made.more (touches.ran.grown.told told)) ∙ append_assoc old.calls levels gained.gained;
        one = any_later broke_sync levels gained.gained gained.one;
      };
    }
  where
    rose_since : (n a b c : ℕ) → RoseBy n a b → Rose b c → Rose a c
    rose_since n a b c first rose = omega (arith, first, rose)

-- what a scrub that ended leaves
leaves_marked : (run : ScrubRun) (v : VaultView) → (run.readings ≢ [] → Holds (HasSaved run.copies (spelling (scrubbed run.now run.loaded run.readings))) v) → Holds (LeavesMarked run) v
leaves_marked run v saved = record {
  reads = λ told some. (saved some).reads told;
  leaves = λ told files left some. (saved some).leaves told files left;
}

-- ---- by its answer

ends_by : (counted : ℕ) (failed : Bool) (way : ScrubWay) (task : Task) (table : TableValue) (before after : World) (left : Left) (did : Did) → ScrubEnds way task table before after left did
    → ScrubsBy (done_answer counted failed) way task table before after left did
ends_by counted true way task table before after left did ends = ends
ends_by counted false way task table before after left did ends = by (counted == 0)
  where
    by : (none : Bool) → ScrubsBy (if none then answers.Clean else answers.Found) way task table before after left did
    by true = ends
    by false = ends

-- ---- the whole

module _ {W R : Type 0} (unread_are_told : UnreadAreTold) (standing : R → ReportView) (stands : R → List Event → Type 0) (view : W → SinkView) (way : ScrubWay) (task : Task) (table : TableValue) (command : task.command ≡ commands.Scrub way)
    (folders folders_new : List FolderView) (vault vault_new : VaultView) (out out_new : SinkView) (lines lines_new : Lines W) (olds news : List R)
    (start_is : told_of view lines ≡ between false out) (last_is : (told_of view lines_new).sink ≡ out_new) where
  abbrev before : World
  before = world_of (world_view folders vault out)

  abbrev after : World
  after = world_of (world_view folders_new vault_new out_new)

  -- by the command
  as_command : (first last : World) (left : Left) (did : Did) → ScrubsBy left.answer way task table first last left did → DoesCommand task.command task table first last left did
  as_command first last left did does = subst (λ (c : Command). DoesCommand c task table first last left did) (sym command) does

  pub scrub_done : (end : ScrubEnd) → Scrubs view standing stands table way task.moment (outside folders vault lines olds) (outside folders_new vault_new lines_new news) end
      → IsDone standing stands task table (world_view folders vault out) (world_view folders_new vault_new out_new) olds news (done_answer end.findings lines_new.failed) None
  scrub_done end is =
      let course = is.course in
      let readings = is.readings in
      let marked : TableValue = scrubbed task.moment table readings in
      let events = events_of table readings in
      let run : ScrubRun = scrub_of way task table before after readings in
      let did : Did = scrubs false run in
      let told : Tells (lines_of table.columns events ++ scrub_text (length readings) end.findings) (between false out) (between lines_new.failed out_new)
      = subst (λ (n : ℕ). Tells (lines_of table.columns events ++ scrub_text n end.findings) (between false out) (between lines_new.failed out_new)) is.checked
      (printed_lines view (lines_of table.columns events ++ scrub_text end.checked end.findings) out out_new lines lines_new start_is last_is course.puts (λ settled. is.settled)) in
      let left : Left = record { answer = done_answer end.findings lines_new.failed; named = None; counted = end.findings; told = events } in
      let saved : readings ≢ [] → Holds (HasSaved (copies_of vault) (spelling marked)) vault_new
      = λ some. subst (λ (t : TableValue). Holds (HasSaved (copies_of vault) (spelling t)) vault_new) is.table_is (is.saved some) in
      record {
        left = left;
        answer_is = refl;
        named_is = refl;
        did = did;
        does = as_command before after left did (ends_by end.findings lines_new.failed way task table before after left did (record {
          course = record {
            readings = readings;
            did_is = refl;
            stripes = course.stripes;
            cells = course.cells;
            due = course.due;
            vault = touches_of table marked readings false vault vault_new course.vault;
            told_is = refl;
          };
          saved = λ some. holds_of _ vault_new (saved some);
          no_draft = is.no_draft;
          named_is = refl;
          counted_is = is.findings;
          prints = record { failed = lines_new.failed; told = told; answer_is = refl };
        }));
        changes = course.vault.changes;
        ends = λ tells. leaves_marked run vault_new saved;
        caused = by_output end.findings lines_new.failed events (outside_of before) (outside_of after) (λ failed. told.cause refl failed);
        keeps = record {
          folders = cells_read table _ folders folders_new course.cells;
          vault = some_calls_of vault vault_new course.vault.calls;
          writes = course.vault.unwritten;
          out = told.goes_on;
        };
        reports = course.given;
      }

  -- where a call that saves failed
  broken_caused : (readings : List ScrubReading) → TouchesVault table (scrubbed task.moment table readings) readings true vault vault_new → RoseBy (sum_by unread_levels readings + 1) vault.faults vault_new.faults
      → VaultFailed (events_of table readings) (state_of vault) (state_of vault_new)
  broken_caused readings touches rose =
      let broke = scrub_broke table (scrubbed task.moment table readings) readings vault vault_new touches in
      record {
        rose = subst (λ (n : ℕ). RoseBy (n + 1) vault.faults vault_new.faults) (sym (unread_are_told table readings)) rose;
        call = λ now. let gained = broke.call now in record { gained = gained.gained; now_is = gained.now_is; one = broke_more gained.gained gained.one };
      }

  scrub_broken : Breaks view standing stands table way task.moment (outside folders vault lines olds) (outside folders_new vault_new lines_new news)
      → IsDone standing stands task table (world_view folders vault out) (world_view folders_new vault_new out_new) olds news (answers.Broken runs.Vault) None
  scrub_broken is =
      let course = is.course in
      let readings = is.readings in
      let marked : TableValue = scrubbed task.moment table readings in
      let events = events_of table readings in
      let run : ScrubRun = scrub_of way task table before after readings in
      let did : Did = scrubs true run in
      let told = printed_lines view (lines_of table.columns events ++ []) out out_new lines lines_new start_is last_is course.puts is.settled in
      let left : Left = record { answer = answers.Broken runs.Vault; named = None; counted = 0; told = events } in
      record {
        left = left;
        answer_is = refl;
        named_is = refl;
        did = did;
        does = as_command before after left did (record {
          course = record {
            readings = readings;
            did_is = refl;
            stripes = course.stripes;
            cells = course.cells;
            due = course.due;
            vault = touches_of table marked readings true vault vault_new course.vault;
            told_is = refl;
          };
          rose = is.rose;
          answer_is = refl;
          named_is = refl;
          counted_is = refl;
          output_failed = lines_new.failed;
          printed = subst (λ (text : List ℕ). Tells text (between false out) (between lines_new.failed out_new)) (append-nil (lines_of table.columns events)) told;
        });
        changes = course.vault.changes;
        ends = λ tells. record { reads = λ told. tt; leaves = λ told files left. tt };
        caused = broken_caused readings course.vault is.rose;
        keeps = record {
          folders = cells_read table _ folders folders_new course.cells;
          vault = some_calls_of vault vault_new course.vault.calls;
          writes = course.vault.unwritten;
          out = told.goes_on;
        };
        reports = course.given;
      }

  -- memory ran out, and nothing was touched
  scrub_refused : IsDone standing stands task table (world_view folders vault out) (world_view folders vault out) olds olds (answers.Broken runs.Memory) None
  scrub_refused =
      let left : Left = record { answer = answers.Broken runs.Memory; named = None; counted = 0; told = [] } in
      record {
        left = left;
        answer_is = refl;
        named_is = refl;
        did = reads_only;
        does = as_command before before left reads_only (record { left_is = refl; did_is = refl; untouched = refl });
        changes = changes_start Stays vault (λ files. refl);
        ends = λ tells. nothing_more vault.files vault;
        caused = tt;
        keeps = record { folders = all_read_nothing folders; vault = no_calls (view_of (state_of vault)); writes = refl; out = sink_stays out };
        reports = all_given_nothing standing stands olds;
      }

  pub scrub_not_done : (untouched : Type 0) (fault : RunFault) → (untouched → folders_new ≡ folders) → (untouched → (P : VaultView → Type 0) → P vault → P vault_new) → (untouched → told_of view lines_new ≡ told_of view lines)
      → (untouched → news ≡ olds)
      → ScrubsNot view standing stands table way task.moment (outside folders vault lines olds) (outside folders_new vault_new lines_new news) untouched fault
      → IsDone standing stands task table (world_view folders vault out) (world_view folders_new vault_new out_new) olds news (answers.Broken fault) None
  scrub_not_done untouched (runs.Folder disk) same_folders same_vault same_lines same_reports not = absurd not
  scrub_not_done untouched runs.Vault same_folders same_vault same_lines same_reports not = scrub_broken not
  scrub_not_done untouched runs.Memory same_folders same_vault same_lines same_reports still =
      let out_same : out_new ≡ out = sym last_is ∙ ap (λ (w : Written). w.sink) (same_lines still ∙ start_is) in
      subst (λ rs. IsDone standing stands task table (world_view folders vault out) (world_view folders_new vault_new out_new) olds rs (answers.Broken runs.Memory) None) (sym (same_reports still))
      (subst (λ fs. IsDone standing stands task table (world_view folders vault out) (world_view fs vault_new out_new) olds olds (answers.Broken runs.Memory) None) (sym (same_folders still))
      (subst (λ o. IsDone standing stands task table (world_view folders vault out) (world_view folders vault_new o) olds olds (answers.Broken runs.Memory) None) (sym out_same)
      (same_vault still (λ v. IsDone standing stands task table (world_view folders vault out) (world_view folders v out) olds olds (answers.Broken runs.Memory) None) scrub_refused)))

-- the lines are those that were lent
pub same_output : {W R : Type 0} (view : W → SinkView) (standing : R → ReportView) (stands : R → List Event → Type 0) (way : ScrubWay) (task : Task) (table : TableValue) (folders folders_new : List FolderView) (vault vault_new : VaultView)
    (lines lines_new : Lines W) (olds news : List R) (untouched : Type 0) (fault : RunFault) → (untouched → lines_new.out.ghost_name ≡ lines.out.ghost_name)
    → ScrubsNot view standing stands table way task.moment (outside folders vault lines olds) (outside folders_new vault_new lines_new news) untouched fault → lines_new.out.ghost_name ≡ lines.out.ghost_name
same_output view standing stands way task table folders folders_new vault vault_new lines lines_new olds news untouched (runs.Folder disk) same not = absurd not
same_output view standing stands way task table folders folders_new vault vault_new lines lines_new olds news untouched runs.Vault same not = not.course.puts.same_reference
same_output view standing stands way task table folders folders_new vault vault_new lines lines_new olds news untouched runs.Memory same still = same still
