-- What a fix leaves, as a command that was carried out.
use Rattle.std.proofs.Common.{◌≡◌, ◌⊎◌, inl, inr, ℕ, zero, suc, ◌+◌, ◌<◌, ◌≤◌, ◌==◌, ◌&&◌, ◌||◌, List, [], ◌∷◌, ◌++◌, length, get_or, All, Bool, true, false, if◌then◌else◌, IsTrue, None, refl, sym, ap, ◌∙◌, subst, arith, append_assoc}
use Rattle.std.proofs.lemmas.Bool.{cases_lt}
use Rattle.std.proofs.lemmas.List.{get_or_past}
use Rattle.std.proofs.lemmas.List.Elements.{All-cons, All-weaker}
use Rattle.folder_listing.specs.Kept.{ListedFile}
use Rattle.folder_listing.specs.Listings.{ListsAll}
use Rattle.disk_model.specs.declared.answer.Answer.{Answer as CallAnswer}
use Rattle.disk_model.specs.declared.answer.Answer.TheVariants as given
use Rattle.disk_model.specs.Cause.{RoseBy}
use Rattle.disk_model.specs.Folder.{FolderView, FolderDone, IsFolderReading, ListFiles}
use Rattle.disk_model.specs.Sink.{SinkView}
use Rattle.disk_model.specs.Stopped.{MayBeLeft}
use Rattle.disk_model.specs.Tree.{Tree, IsTree}
use Rattle.disk_model.specs.Vault.{VaultView, VaultCall, VaultDone, ParityLen, ParityRead, ParityWrite, ParitySetLen, ParitySync, ContentSize, ContentRead, DraftBegin, DraftAppend, DraftSeal, Publish, Holds, state_of}
use Rattle.disk_model.specs.declared.meta.Stamp.{Stamp}
use Rattle.disk_model.proofs.CountLemmas.{folder_writes_then}
use Rattle.file_table.proofs.PrefixLemmas.{All-left}
use Rattle.file_table.specs.Table.{TableValue}
use Rattle.parity_writer.specs.LevelReading.{LevelReading}
use Rattle.parity_writer.specs.LevelsValue.{LevelValue, no_level}
use Rattle.parity_writer.specs.Parity.{HasLevel}
use Rattle.snap_config.specs.declared.options.Command.{Command}
use Rattle.snap_config.specs.declared.options.Command.TheVariants as commands
use Rattle.array_setup.specs.declared.ways.Selection.{Selection}
use Rattle.snap_fix.specs.Beginning.{BeginsNot}
use Rattle.file_restorer.specs.Breaking.{broke_parity}
use Rattle.snap_fix.specs.Course.{IsPlan, outside}
use Rattle.stripe_examiner.specs.Facts.{StripeFacts, gift_of}
use Rattle.stripe_examiner.specs.Findings.{is_wrong, may_write_level}
use Rattle.snap_fix.specs.FixBreaking.{FixBreaks, FixesNot}
use Rattle.snap_fix.specs.FixCourse.{Fixes, FixesVault, IsFixCall, MakeFixCalls, fix_events}
use Rattle.snap_fix.specs.FixRun.{FolderFailedBy, HasBroken}
use Rattle.snap_fix.specs.Fixing.{facts_of, was_written}
use Rattle.stripe_examiner.specs.Known.{AreFacts, IsTried}
use Rattle.stripe_examiner.specs.Looking.{unread_cells}
use Rattle.snap_fix.proofs.FixCountLemmas.{count_append}
use Rattle.snap_fix.specs.Mended.{Mended, is_wrong_level}
use Rattle.repair_scope.specs.Plan.{FixPlan, is_searched, names_of}
use Rattle.stripe_examiner.specs.Place.{starts_of}
use Rattle.stripe_examiner.specs.Spare.{nothing}
use Rattle.file_restorer.specs.State.{AnyCall, FolderMakes}
use Rattle.snap_fix.specs.Underway.{HoldsWrong}
use Rattle.snap_fix.specs.declared.checks.FixEnd.{FixEnd}
use Rattle.repair_scope.specs.declared.scope.Mode.TheVariants as modes
use Rattle.snap_report.specs.Answer.{FolderFailed, IsCaused, Outside, broke_vault, done_answer}
use Rattle.snap_report.specs.EndLines.{fix_text}
use Rattle.snap_report.specs.EventLines.{lines_of}
use Rattle.snap_report.specs.Report.{ReportView}
use Rattle.snap_report.specs.State.{state_of as told_of}
use Rattle.snap_report.specs.Telling.{between}
use Rattle.snap_report.specs.declared.answer.Answer.TheVariants as answers
use Rattle.snap_report.specs.declared.answer.RunFault.{RunFault}
use Rattle.snap_report.specs.declared.answer.RunFault.TheVariants as runs
use Rattle.snap_report.specs.declared.events.Event.{Event}
use Rattle.snap_report.specs.declared.pages.Lines.{Lines}
use Rattle.snap_top.specs.Checking.{CheckRefuses}
use Rattle.snap_top.specs.Does.{DoesCommand, IsDone}
use Rattle.snap_top.specs.Fix.{AllFixed, FixRun, IsRunCall}
use Rattle.snap_top.specs.Fixing.{FixBroke, FixEnds, FixesBy, fix_of}
use Rattle.snap_top.specs.Syncing.{IsOpened}
use Rattle.snap_top.specs.Task.{Left, Task, outside_of}
use Rattle.snap_top.specs.Did.{Did, fixes, reads_only}
use Rattle.snap_top.specs.Views.{World, world_of, world_view}
use Rattle.snap_top.proofs.CheckedLemmas.{none_given, not_begun_done, refusal_of}
use Rattle.snap_top.proofs.DoneLemmas.{by_output}
use Rattle.snap_top.proofs.FixStatesLemmas.{broken_of, finds_of, looked_of, mends_of, off_of, rose_of, vault_of}
use Rattle.snap_top.proofs.SyncLemmas.{any_more, never, printed_lines}
use Rattle.snap_top.proofs.ViewsLemmas.{some_calls_of}

-- ---- what it leaves in the levels that it wrote

-- a level past those of a stripe is not wrong
none_past : (plan : FixPlan) (facts : StripeFacts) (r : ℕ) → length facts.levels ≤ r → is_wrong_level plan facts r ≡ false
none_past plan facts r past = ap (λ (level : LevelValue). is_wrong plan facts.stripe level facts.row r) (get_or_past facts.levels r no_level past) ∙ by (may_write_level plan facts.stripe r)
  where
    by : (selected : Bool) → (selected && false) ≡ false
    by false = refl
    by true = refl

-- one that is wrong is a level of the table
wrong_within : (plan : FixPlan) (facts : StripeFacts) (r : ℕ) → AreFacts plan facts → is_wrong_level plan facts r ≡ true → r < plan.table.shape.levels
wrong_within plan facts r are wrong = by (cases_lt r (length facts.levels))
  where
    tried : (searched : Bool) → IsTried plan facts searched → r < length facts.levels → r < plan.table.shape.levels
    tried true is below = let many = is.0 in omega (arith, many, below)
    tried false is below = let none : length facts.levels ≡ 0 = ap length is.1 in absurd (omega (arith, none, below))

    by : (r < length facts.levels) ⊎ (length facts.levels ≤ r) → r < plan.table.shape.levels
    by (inl below) = tried (is_searched plan facts.stripe) are.tried below
    by (inr past) = absurd (let clash : true ≡ false = sym wrong ∙ none_past plan facts r past in cc)

-- where it is wrong in one of the stripes, it was written
wrong_written : (plan : FixPlan) (stripes : List Mended) (k : ℕ) (d : StripeFacts) (r : ℕ) → k < length (facts_of stripes) → is_wrong_level plan (get_or (facts_of stripes) k d) r ≡ true
    → was_written plan stripes r ≡ true
wrong_written plan [] k d r below wrong = absurd (omega (arith, below))
wrong_written plan (mended ∷ stripes) zero d r below wrong = ap (λ (b : Bool). b || was_written plan stripes r) wrong
wrong_written plan (mended ∷ stripes) (suc k) d r below wrong =
    ap (λ (b : Bool). is_wrong_level plan mended.facts r || b) (wrong_written plan stripes k d r (omega (arith, below)) wrong) ∙ or_true (is_wrong_level plan mended.facts r)
  where
    or_true : (b : Bool) → (b || true) ≡ true
    or_true true = refl
    or_true false = refl

-- a count of faults rose by the cells of the first stripes, where it did by those of more
rose_front : (d : ℕ) (xs ys : List StripeFacts) (before after : ℕ) → RoseBy (unread_cells d (xs ++ ys)) before after → RoseBy (unread_cells d xs) before after
rose_front d xs ys before after rose =
    let counted : unread_cells d (xs ++ ys) ≡ unread_cells d xs + unread_cells d ys = count_append _ xs ys in
    omega (arith, counted, rose)

-- each wrong level holds the sum of its row, as it reads and in each image: it was synced
leaves_fixed : (plan : FixPlan) (stripes : List Mended) (readings : List (List LevelReading)) (old new : VaultView) → All (AreFacts plan) (facts_of stripes) → FixesVault plan stripes readings old new → IsTrue old.tells
    → Holds (λ files. All (λ (facts : StripeFacts). HoldsWrong plan facts files) (facts_of stripes)) new
leaves_fixed plan stripes readings old new are vault tells = record {
  reads = vault.holds;
  leaves = λ told files left k d below r row wrong row_is.
      let facts = get_or (facts_of stripes) k d in
      let synced = vault.synced r (wrong_within plan facts r (are k d below) wrong) (wrong_written plan stripes k d r below wrong) in
      subst (λ (level : List ℕ). HasLevel plan.table.shape.block_size r facts.stripe row level) (sym (synced.leaves told files left)) (vault.holds (vault.ran.tells ∙ tells) k d below r row wrong row_is);
}

-- ---- what it does to the folders

abbrev listed_call : FolderDone
listed_call = record { call = ListFiles; answer = given.Done }

-- a folder that was listed, and of which only calls of a fix were made since
listed_then : (run : FixRun) (d : ℕ) (old mid new : FolderView) → IsFolderReading ListFiles given.Done old mid → FolderMakes (AnyCall (IsFixCall run.plan (starts_of run.loaded run.lists) d run.stripes)) mid new
    → FolderMakes (AnyCall (IsRunCall run d)) old new
listed_then run d old mid new listing makes =
    let a = listing.called.goes_on in
    let b = makes.goes_on in
    record {
      done = listed_call ∷ makes.done;
      each = All-cons (AnyCall (IsRunCall run d)) listed_call makes.done (inl refl)
          (All-weaker (AnyCall (IsFixCall run.plan (starts_of run.loaded run.lists) d run.stripes)) (AnyCall (IsRunCall run d)) (λ done is. inr is) makes.done makes.each);
      goes_on = record {
        later = omega (arith, a.later, b.later);
        writes = folder_writes_then (listed_call ∷ []) makes.done old.writes mid.writes new.writes a.writes b.writes;
        keeps = b.keeps ∙ a.keeps;
        closed = b.closed ∙ a.closed;
        tells = b.tells ∙ a.tells;
        calls = record {
          told = λ t. a.calls.told (b.calls.told t);
          more = λ t. b.calls.more t ∙ ap (λ xs. xs ++ makes.done) (a.calls.more (b.calls.told t)) ∙ append_assoc old.calls (listed_call ∷ []) makes.done;
        };
      };
      left = λ told is_tree.
          let same : mid.tree ≡ old.tree = listing.tree told in
          let is_tree_mid : IsTree mid.tree = subst (λ (t : Tree). IsTree t) (sym same) is_tree in (
            old.tree,
            is_tree,
            (false, refl),
            subst (λ (keeps : Stamp → Bool). MayBeLeft keeps makes.done old.tree new.tree) a.keeps (subst (λ (t : Tree). MayBeLeft mid.keeps makes.done t new.tree) same (makes.left (a.tells ∙ told) is_tree_mid)),
          );
    }

all_fixed : (run : FixRun) (olds mids news : List FolderView) → length news ≡ length olds → length olds ≡ length run.plan.table.columns → ListsAll olds mids run.lists
    → MakeFixCalls run.plan (starts_of run.loaded run.lists) run.stripes mids news → AllFixed run olds news
all_fixed run olds mids news count as_many listed calls = record { count = count; each = λ d below. listed_then run d _ _ _ (listed.each d below).call (calls d (omega (arith, below, as_many))) }

-- ---- why it broke off

-- a call that writes or syncs parity reads none
one_more : (call : VaultCall) (answer : CallAnswer) → IsTrue (broke_parity (record { call = call; answer = answer })) → IsTrue (broke_vault (record { call = call; answer = answer }))
one_more (ParityLen level) answer is = never is
one_more (ParityRead level at n) answer is = never is
one_more (ParityWrite level at bytes) answer is = is
one_more (ParitySetLen level len) answer is = never is
one_more (ParitySync level) answer is = is
one_more (ContentSize copy) answer is = never is
one_more (ContentRead copy at n) answer is = never is
one_more (DraftBegin copy) answer is = never is
one_more (DraftAppend copy bytes) answer is = never is
one_more (DraftSeal copy) answer is = never is
one_more (Publish copy) answer is = never is

rose_since : (n old mid new : ℕ) → old ≤ mid → RoseBy n mid new → RoseBy n old new
rose_since n old mid new later rose = omega (arith, later, rose)

-- a folder that failed since it was listed
failed_since : (run : FixRun) (disk : ℕ) (told : List Event) (old mid new : FolderView) → IsFolderReading ListFiles given.Done old mid → FolderMakes (AnyCall (IsFixCall run.plan (starts_of run.loaded run.lists) disk run.stripes)) mid new
    → FolderFailedBy disk told mid new → FolderFailed disk told old new
failed_since run disk told old mid new listing makes broke =
    let a = listing.called.goes_on in
    record {
      rose = rose_since _ old.faults mid.faults new.faults a.later broke.rose;
      call = λ now. let gained = broke.call now in record {
        gained = listed_call ∷ gained.gained;
        now_is = gained.now_is ∙ ap (λ xs. xs ++ gained.gained) (a.calls.more (makes.goes_on.calls.told now)) ∙ append_assoc old.calls (listed_call ∷ []) gained.gained;
        one = gained.one;
      };
    }

broke_caused : (run : FixRun) (fault : RunFault) (told : List Event) (olds mids news : List FolderView) (old new : VaultView) (first last : Outside) → length olds ≡ length run.plan.table.columns → ListsAll olds mids run.lists
    → MakeFixCalls run.plan (starts_of run.loaded run.lists) run.stripes mids news → HasBroken run.plan fault told mids news old new
    → first ≡ record { folders = olds; vault = state_of old; output_faults = first.output_faults } → last ≡ record { folders = news; vault = state_of new; output_faults = last.output_faults }
    → IsCaused (answers.Broken fault) 0 told first last
broke_caused run (runs.Folder disk) told olds mids news old new first last as_many listed calls broke first_is last_is =
    let below : disk < length olds = omega (arith, as_many, broke.0) in
    rw (first_is, last_is) (below, failed_since run disk told _ _ _ (listed.each disk below).call (calls disk broke.0) broke.1)
broke_caused run runs.Vault told olds mids news old new first last as_many listed calls broke first_is last_is =
    rw (first_is, last_is) (record {
      rose = broke.rose;
      call = λ now. let gained = broke.call now in record {
        gained = gained.gained;
        now_is = gained.now_is;
        one = any_more broke_parity broke_vault (λ (done : VaultDone). one_more done.call done.answer) gained.gained gained.one;
      };
    })
broke_caused run runs.Memory told olds mids news old new first last as_many listed calls broke first_is last_is = tt

-- ---- by its answer

ends_by : (counted : ℕ) (failed : Bool) (selection : Selection) (task : Task) (table : TableValue) (before after : World) (left : Left) (did : Did) → FixEnds selection task table before after left did
    → FixesBy (done_answer counted failed) selection task table before after left did
ends_by counted true selection task table before after left did ends = ends
ends_by counted false selection task table before after left did ends = by (counted == 0)
  where
    by : (none : Bool) → FixesBy (if none then answers.Clean else answers.Found) selection task table before after left did
    by true = ends
    by false = ends

refuses_by : (fault : RunFault) (selection : Selection) (task : Task) (table : TableValue) (before after : World) (left : Left) (did : Did) → BeginsNot before.folders after.folders fault
    → CheckRefuses before after left did → FixesBy (answers.Broken fault) selection task table before after left did
refuses_by (runs.Folder disk) selection task table before after left did why refuses = inl refuses
refuses_by runs.Memory selection task table before after left did why refuses = refuses
refuses_by runs.Vault selection task table before after left did why refuses = absurd why

breaks_by : (fault : RunFault) (plan : FixPlan) (told : List Event) (olds news : List FolderView) (old new : VaultView) (selection : Selection) (task : Task) (table : TableValue) (before after : World) (left : Left) (did : Did)
    → HasBroken plan fault told olds news old new → FixBroke fault selection task table before after left did → FixesBy (answers.Broken fault) selection task table before after left did
breaks_by (runs.Folder disk) plan told olds news old new selection task table before after left did why broke = inr broke
breaks_by runs.Vault plan told olds news old new selection task table before after left did why broke = broke
breaks_by runs.Memory plan told olds news old new selection task table before after left did why broke = absurd why

-- ---- the whole

module _ {W R : Type 0} (standing : R → ReportView) (stands : R → List Event → Type 0) (view : W → SinkView) (selection : Selection) (task : Task) (table : TableValue) (command : task.command ≡ commands.Fix selection)
    (folders folders_new : List FolderView) (vault vault_new : VaultView) (opened : IsOpened task.setup table folders vault) (out out_new : SinkView) (lines lines_new : Lines W) (olds news : List R)
    (start_is : told_of view lines ≡ between false out) (last_is : (told_of view lines_new).sink ≡ out_new) where
  abbrev before : World
  before = world_of (world_view folders vault out)

  abbrev after : World
  after = world_of (world_view folders_new vault_new out_new)

  -- by the command
  as_command : (first last : World) (left : Left) (did : Did) → FixesBy left.answer selection task table first last left did → DoesCommand task.command task table first last left did
  as_command first last left did does = subst (λ (c : Command). DoesCommand c task table first last left did) (sym command) does

  -- there is a folder for each column of its plan
  as_many_columns : (lists : List (List ListedFile)) (plan : FixPlan) → IsPlan modes.Fix selection (names_of task.setup) table lists plan → length folders ≡ length plan.table.columns
  as_many_columns lists plan plan_is = opened.folders_are ∙ sym opened.columns ∙ sym (ap (λ (t : TableValue). length t.columns) plan_is.table_is)

  pub fix_done : (end : FixEnd) → Fixes view standing stands modes.Fix selection (names_of task.setup) table (outside folders vault nothing lines olds) (outside folders_new vault_new nothing lines_new news) end
      → IsDone standing stands task table (world_view folders vault out) (world_view folders_new vault_new out_new) olds news (done_answer end.left lines_new.failed) None
  fix_done end is =
      let events = fix_events is.plan is.stripes is.finishes in
      let run : FixRun = fix_of selection task table before after is.lists is.mids is.plan is.stripes is.readings in
      let did : Did = fixes false run in
      let told = printed_lines view (lines_of table.columns events ++ fix_text end.blocks end.parities end.left) out out_new lines lines_new start_is last_is is.puts (λ settled. is.settled) in
      let left : Left = record { answer = done_answer end.left lines_new.failed; named = None; counted = end.left; told = events } in
      record {
        left = left;
        answer_is = refl;
        named_is = refl;
        did = did;
        does = as_command before after left did (ends_by end.left lines_new.failed selection task table before after left did (record {
          course = record {
            lists = is.lists;
            listed = is.mids;
            as_many = is.as_many;
            lists_are = is.listed;
            plan = is.plan;
            plan_is = is.plan_is;
            stripes = is.stripes;
            readings = is.readings;
            did_is = refl;
            finds = finds_of is.plan (starts_of table is.lists) is.mids vault is.stripes is.readings is.finds;
            no_gifts = none_given is.plan (facts_of is.stripes) nothing is.spare;
            unread = is.unread;
          };
          numbers = is.numbers;
          vault = vault_of is.plan is.stripes is.readings vault vault_new is.vault;
          finishes = is.finishes;
          files = is.files;
          io = is.io;
          told_is = refl;
          named_is = refl;
          counted_is = is.left;
          blocks = end.blocks;
          blocks_are = is.blocks;
          parities = end.parities;
          parities_are = is.parities;
          prints = record { failed = lines_new.failed; told = told; answer_is = refl };
        }));
        changes = is.vault.mends.changes;
        ends = λ tells. leaves_fixed is.plan is.stripes is.readings vault vault_new is.finds.are is.vault tells;
        caused = by_output end.left lines_new.failed events (outside_of before) (outside_of after) (λ failed. told.cause refl failed);
        keeps = record {
          folders = all_fixed run folders is.mids folders_new (is.files.folders ∙ is.as_many) (as_many_columns is.lists is.plan is.plan_is) is.listed is.files.calls;
          vault = some_calls_of vault vault_new is.vault.mends.calls;
          writes = tt;
          out = told.goes_on;
        };
        reports = is.given;
      }

  fix_broken : (fault : RunFault) → FixBreaks view standing stands modes.Fix selection (names_of task.setup) table (outside folders vault nothing lines olds) (outside folders_new vault_new nothing lines_new news) fault
      → IsDone standing stands task table (world_view folders vault out) (world_view folders_new vault_new out_new) olds news (answers.Broken fault) None
  fix_broken fault is =
      let run : FixRun = fix_of selection task table before after is.lists is.mids is.plan is.stripes is.readings in
      let did : Did = fixes true run in
      let told = printed_lines view (lines_of table.columns is.first) out out_new lines lines_new start_is last_is is.told.puts is.told.settled in
      let left : Left = record { answer = answers.Broken fault; named = None; counted = 0; told = is.first } in
      record {
        left = left;
        answer_is = refl;
        named_is = refl;
        did = did;
        does = as_command before after left did (breaks_by fault is.plan is.first is.mids folders_new vault vault_new selection task table before after left did is.broke (record {
          course = record {
            lists = is.lists;
            listed = is.mids;
            as_many = is.as_many;
            lists_are = is.listed;
            plan = is.plan;
            plan_is = is.plan_is;
            stripes = is.stripes;
            readings = is.readings;
            did_is = refl;
            finds = finds_of is.plan (starts_of table is.lists) is.mids vault is.stripes is.readings is.finds;
            no_gifts = All-left (λ (facts : StripeFacts). (d : ℕ) → gift_of facts d ≡ None) (facts_of is.stripes) is.ahead.stripes
                (none_given is.plan (facts_of is.stripes ++ is.ahead.stripes) nothing is.spare);
            unread = λ d below. rose_front d (facts_of is.stripes) is.ahead.stripes _ _ (is.unread_cells_of d below);
          };
          behind = is.behind;
          numbers = is.numbers;
          vault = mends_of is.plan (facts_of is.stripes) vault vault_new is.vault;
          ahead = is.ahead;
          cells_ahead = is.cells_ahead;
          unread_ahead = is.unread_cells_of;
          looked = looked_of is.plan (length is.stripes) is.ahead is.behind vault is.looked;
          unread = is.unread;
          off = off_of is.plan (starts_of table is.lists) fault is.stripes is.behind is.readings is.ahead is.first is.mids folders_new vault vault_new is.off;
          calls = is.calls;
          reads = is.reads;
          broke = broken_of is.plan fault is.first is.mids folders_new vault vault_new is.broke;
          rose = rose_of fault (facts_of is.stripes ++ is.ahead.stripes) (is.readings ++ is.ahead.readings) is.mids folders_new vault vault_new is.rose;
          answer_is = refl;
          named_is = refl;
          counted_is = refl;
          output_failed = lines_new.failed;
          printed = told;
        }));
        changes = is.vault.changes;
        ends = λ tells. record { reads = λ told. tt; leaves = λ told files left. tt };
        caused = broke_caused run fault is.first folders is.mids folders_new vault vault_new (outside_of before) (outside_of after) (as_many_columns is.lists is.plan is.plan_is) is.listed is.calls is.broke refl refl;
        keeps = record {
          folders = all_fixed run folders is.mids folders_new is.folders (as_many_columns is.lists is.plan is.plan_is) is.listed is.calls;
          vault = some_calls_of vault vault_new is.vault.calls;
          writes = tt;
          out = told.goes_on;
        };
        reports = is.told.given;
      }

  pub fix_not_done : (untouched : Type 0) (fault : RunFault) → length folders_new ≡ length folders → (untouched → (P : VaultView → Type 0) → P vault → P vault_new) → (untouched → told_of view lines_new ≡ told_of view lines)
      → (untouched → news ≡ olds)
      → FixesNot view standing stands modes.Fix selection (names_of task.setup) table (outside folders vault nothing lines olds) (outside folders_new vault_new nothing lines_new news) untouched fault
      → IsDone standing stands task table (world_view folders vault out) (world_view folders_new vault_new out_new) olds news (answers.Broken fault) None
  fix_not_done untouched fault many same_vault same_lines same_reports (inl not) =
      not_begun_done standing stands view task table folders folders_new vault vault_new out out_new lines lines_new olds news start_is last_is untouched fault many same_vault same_lines same_reports not.1 not.0
      (λ first last why refuses. as_command first last (refusal_of fault) reads_only (refuses_by fault selection task table first last (refusal_of fault) reads_only why refuses))
  fix_not_done untouched fault many same_vault same_lines same_reports (inr breaks) = fix_broken fault breaks

-- the lines are those that were lent
pub same_output : {W R : Type 0} (view : W → SinkView) (standing : R → ReportView) (stands : R → List Event → Type 0) (selection : Selection) (task : Task) (table : TableValue) (folders folders_new : List FolderView) (vault vault_new : VaultView)
    (lines lines_new : Lines W) (olds news : List R) (untouched : Type 0) (why : RunFault) → (untouched → lines_new.out.ghost_name ≡ lines.out.ghost_name)
    → FixesNot view standing stands modes.Fix selection (names_of task.setup) table (outside folders vault nothing lines olds) (outside folders_new vault_new nothing lines_new news) untouched why → lines_new.out.ghost_name ≡ lines.out.ghost_name
same_output view standing stands selection task table folders folders_new vault vault_new lines lines_new olds news untouched why same (inl not) = same not.1
same_output view standing stands selection task table folders folders_new vault vault_new lines lines_new olds news untouched why same (inr breaks) = breaks.told.puts.same_reference
