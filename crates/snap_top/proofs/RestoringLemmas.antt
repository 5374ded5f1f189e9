-- A fix that is done restores what can be had of the snapshot, and tells what can't.
use Rattle.std.proofs.Common.{◌≡◌, ◌↔◌, ⊎_elim, ℕ, ◌<◌, ◌≤◌, List, [], ◌++◌, length, count_by, Bool, true, false, if◌then◌else◌, IsTrue, Option, None, is_some, refl, sym, ap, ◌∙◌, subst, arith}
use Rattle.std.specs.Prelude.{sum_by}
use Rattle.std.specs.List.{Contains}
use Rattle.cauchy.specs.Matrix.{byte_of}
use Rattle.cauchy.specs.Recovery.{AreBytes}
use Rattle.disk_model.specs.Cause.{RoseBy}
use Rattle.disk_model.specs.Files.{Files}
use Rattle.disk_model.specs.Folder.{FolderView}
use Rattle.disk_model.specs.Vault.{Holds, copies_of, VaultState}
use Rattle.file_table.specs.Table.{TableValue}
use Rattle.file_table.specs.Valid.{IsValid}
use Rattle.file_table.specs.declared.block.Cell.{Cell}
use Rattle.parity_writer.specs.Parity.{Row}
use Rattle.parity_writer.specs.Sound.{Sound, Closed, last_row}
use Rattle.stripe_reader.specs.Columns.{folder_at}
use Rattle.stripe_reader.specs.Starts.{StartsValue}
use Rattle.array_setup.specs.Setup.{SetupValue}
use Rattle.snap_config.specs.declared.options.Command.{Command}
use Rattle.snap_config.specs.declared.options.Command.TheVariants as commands
use Rattle.snap_config.specs.declared.options.Options.{Options}
use Rattle.array_setup.specs.declared.ways.Selection.{Selection}
use Rattle.stripe_examiner.specs.Counts.{at_most}
use Rattle.snap_fix.specs.Ending.{Finishes}
use Rattle.stripe_examiner.specs.Facts.{StripeFacts, gift_of}
use Rattle.stripe_examiner.specs.Findings.{is_lost}
use Rattle.snap_fix.specs.FixCourse.{fix_events}
use Rattle.snap_fix.specs.Fixing.{facts_of}
use Rattle.snap_fix.specs.Genuine.{AreGenuine, AreGenuineOf, HasGenuineFacts, TellsIntactLevels}
use Rattle.stripe_examiner.specs.Looking.{numbers_of, unread_in}
use Rattle.snap_fix.specs.Mended.{Mended, has_lost, is_repaired, wrong_in, written_in}
use Rattle.stripe_examiner.specs.Showing.{known_block, known_by}
use Rattle.repair_scope.specs.Plan.{FixPlan, entry_at, is_audit, is_synced, stripes_of}
use Rattle.stripe_examiner.specs.Place.{starts_of}
use Rattle.snap_fix.specs.Restored.{CanBeHad, HasFixed, HoldsCell, IsDamagedCell, IsUnknownCell}
use Rattle.snap_fix.specs.Underway.{AddsZeros, IsMendedLevel, KeepsLevels}
use Rattle.snap_report.specs.Answer.{status_of as answer_status}
use Rattle.snap_report.specs.EndLines.{fix_text}
use Rattle.snap_report.specs.EventLines.{lines_of}
use Rattle.snap_report.specs.Kind.{is_left}
use Rattle.snap_report.specs.Telling.{Tells, between}
use Rattle.snap_report.specs.declared.answer.Answer.{Answer}
use Rattle.snap_report.specs.declared.answer.Answer.TheVariants as answers
use Rattle.snap_report.specs.declared.answer.RunFault.TheVariants as runs
use Rattle.snap_report.specs.declared.events.Event.{Event}
use Rattle.snap_report.specs.declared.events.Event.TheVariants as events
use Rattle.snap_sync.specs.Part.{AllTell}
use Rattle.snap_top.specs.Does.{DoesCommand}
use Rattle.snap_top.specs.End.{status_of}
use Rattle.snap_top.specs.Effect.{effect}
use Rattle.snap_top.specs.Output.{IsEndStatus}
use Rattle.snap_top.specs.Fix.{FixRun, LeavesFixed, MayStandFixed}
use Rattle.snap_top.specs.Fixing.{FixEnds, FixesBy, fix_of as run_fixed}
use Rattle.snap_top.specs.Lost.{IsDamagedOfSynced, IsToldLost, NamesPending}
use Rattle.snap_top.specs.Began.{IsFixOf}
use Rattle.snap_top.specs.Stands.{TellsAll}
use Rattle.snap_top.specs.Asked.{asked_by, WorksOnArray}
use Rattle.snap_top.specs.Restoring.{EndsFixed, Restores, events_in}
use Rattle.snap_top.specs.AsAsked.{FixesEnd}
use Rattle.snap_top.specs.Run.{IsAnswered, IsRun, Ran}
use Rattle.snap_top.specs.Entry.{Entry, Exit}
use Rattle.snap_top.specs.Task.{Task, Left}
use Rattle.snap_top.specs.Did.{Did}
use Rattle.snap_top.specs.Views.{World, world_of}
use Rattle.snap_top.specs.declared.end.End.{End}
use Rattle.snap_top.specs.declared.end.Ending.TheVariants.{Answered}
use Rattle.snap_top.proofs.CompleteLemmas.{same_ok}
use Rattle.snap_top.proofs.EndedLemmas.{IsDoneAnswer, done_status, goes_to_its_end, only_read, output_rose, well_as}
use Rattle.snap_top.proofs.LostLemmas.{AreAscending, FactsAreGenuine, same_facts, stripes_ascending}
use Rattle.snap_top.proofs.OfFixLemmas.{HasFixCourse, all_looked_at, fix_of, genuine_by}
use Rattle.snap_top.proofs.OfSyncLemmas.{given_is, start_files as files_held, start_out as out_held, start_tells as tells_held}

-- ---- what snap_fix says of a fix that ended

abbrev pub CellsAreRestored : Type 0
CellsAreRestored = (plan : FixPlan) (starts : StartsValue) (stripes : List Mended) (finishes : Finishes) (firsts news : List FolderView) (facts : StripeFacts) (d : ℕ) (cell : Cell) (snapshot : Row) (is_intact : ℕ → Bool)
    → HasFixed plan starts stripes finishes firsts news → IsDamagedCell plan (facts_of stripes) facts d cell → HasGenuineFacts plan starts firsts snapshot facts → AreBytes snapshot → TellsIntactLevels plan facts snapshot is_intact
    → (entry_at plan d cell.rec).blocked ≡ false → IsTrue (folder_at firsts d).tells → CanBeHad plan facts is_intact d
    → HoldsCell plan.table d cell (has_lost plan stripes d cell.rec) (byte_of snapshot d) (folder_at news d).tree

abbrev pub CellsAreLost : Type 0
CellsAreLost = (plan : FixPlan) (starts : StartsValue) (stripes : List Mended) (finishes : Finishes) (firsts : List FolderView) (facts : StripeFacts) (d : ℕ) (cell : Cell) (snapshot : Row) (is_intact : ℕ → Bool)
    → IsDamagedCell plan (facts_of stripes) facts d cell → HasGenuineFacts plan starts firsts snapshot facts → AreBytes snapshot → TellsIntactLevels plan facts snapshot is_intact → (CanBeHad plan facts is_intact d → ⊥)
    → (is_lost plan facts d ≡ true)
    × Contains (fix_events plan stripes finishes) (events.Lost facts.stripe d cell.rec cell.index)
    × (is_repaired plan facts d ≡ false)

-- a cell without a known block is told to be lost, no other cell is, and a block is known exactly where it can be had
abbrev pub UnknownAreLost : Type 0
UnknownAreLost = (plan : FixPlan) (stripes : List Mended) (finishes : Finishes) (facts : StripeFacts) (d : ℕ) (cell : Cell)
    → IsDamagedCell plan (facts_of stripes) facts d cell → is_audit plan.scope.mode ≡ false → is_some (known_block plan facts d) ≡ false
    → (is_lost plan facts d ≡ true)
    × Contains (fix_events plan stripes finishes) (events.Lost facts.stripe d cell.rec cell.index)
    × (is_repaired plan facts d ≡ false)

abbrev pub LostAreUnknown : Type 0
LostAreUnknown = (plan : FixPlan) (starts : StartsValue) (stripes : List Mended) (finishes : Finishes) (firsts news : List FolderView) (stripe d : ℕ) (cell : Cell)
    → HasFixed plan starts stripes finishes firsts news → IsTrue (folder_at firsts d).tells → Contains (fix_events plan stripes finishes) (events.Lost stripe d cell.rec cell.index)
    → IsUnknownCell plan (facts_of stripes) stripe d cell

abbrev pub BlocksAreKnown : Type 0
BlocksAreKnown = (plan : FixPlan) (starts : StartsValue) (firsts : List FolderView) (snapshot : Row) (facts : StripeFacts) (is_intact : ℕ → Bool) (d : ℕ)
    → HasGenuineFacts plan starts firsts snapshot facts → AreBytes snapshot → TellsIntactLevels plan facts snapshot is_intact
    → (is_some (known_block plan facts d) ≡ true) ↔ CanBeHad plan facts is_intact d

-- ---- counts

pub none_left : (n : ℕ) → (at_most n ≡ 0) ↔ (n ≡ 0)
none_left n = (λ none. omega (arith, none), λ none. omega (arith, none))

-- ---- what is known of a block

-- nothing is known of a pending stripe
none_known : (plan : FixPlan) (facts : StripeFacts) (d : ℕ) → is_synced plan facts.stripe ≡ false → is_some (known_block plan facts d) ≡ false
none_known plan facts d pending =
    ap (λ (synced : Bool). let it : Option (List ℕ) = (if synced then known_by synced (gift_of facts d) facts.row d else None) in is_some it) pending

-- a count that rose since the table was loaded rose since the opening
pub rose_from : (n held given start last : ℕ) → given ≡ held → given ≤ start → RoseBy n start last → RoseBy n held last
rose_from n held given start last same later rose = omega (arith, same, later, rose)

-- ---- a fix that went to its end, by what it did

pub done_by_did : (answer : Answer) (selection : Selection) (task : Task) (table : TableValue) (before after : World) (left : Left) (did : Did) → FixesBy answer selection task table before after left did → (effect did).has_ended ≡ true → IsDoneAnswer answer
done_by_did answers.Clean selection task table before after left did does ended = tt
done_by_did answers.Found selection task table before after left did does ended = tt
done_by_did answers.OutputFailed selection task table before after left did does ended = tt
done_by_did (answers.Zeroed disk rec) selection task table before after left did does ended = absurd does
done_by_did (answers.Emptied disk) selection task table before after left did does ended = absurd does
done_by_did (answers.Full blocks files) selection task table before after left did does ended = absurd does
done_by_did (answers.Broken (runs.Folder disk)) selection task table before after left did does ended = ⊎_elim
    (λ refuses. absurd (only_read did refuses.did_is ended))
    (λ broke. absurd (let clash : false ≡ true = ap (λ (did : Did). (effect did).has_ended) (sym broke.course.did_is) ∙ ended in cc))
    does
done_by_did (answers.Broken runs.Vault) selection task table before after left did does ended = absurd (let clash : false ≡ true = ap (λ (did : Did). (effect did).has_ended) (sym does.course.did_is) ∙ ended in cc)
done_by_did (answers.Broken runs.Memory) selection task table before after left did does ended = absurd (only_read did does.did_is ended)

module _ (restored : CellsAreRestored) (lost : CellsAreLost) (unknown_lost : UnknownAreLost) (lost_unknown : LostAreUnknown) (known : BlocksAreKnown) (genuine_facts : FactsAreGenuine) (before : Entry) (exit : Exit) (tells : TellsAll before) where
  module _ (setup : SetupValue) (answer : Answer) (named : Option TableValue) (told : List Event) (ran : IsRun before exit setup (Answered answer named) told) (left : Left)
      (one : IsAnswered ran.task ran.given (world_of exit.after) left ran.did) (selection : Selection) (command : ran.task.command ≡ commands.Fix selection) (status : ℕ) (status_is : status ≡ answer_status left.answer)
      (ends : FixEnds selection ran.task one.table one.start (world_of exit.after) left ran.did) where
    abbrev course_of : HasFixCourse ran.task.command ran.task one.table one.start (world_of exit.after) ran.did
    course_of = record {
      selection = selection;
      command_is = command;
      failed = false;
      course = ends.course;
      behind = [];
      numbers = all_looked_at (numbers_of (facts_of ends.course.stripes)) (stripes_of ends.course.plan) ends.numbers;
      calls = ends.vault.mends.calls;
    }

    abbrev run : FixRun
    run = run_fixed selection ran.task one.table one.start (world_of exit.after) ends.course.lists ends.course.listed ends.course.plan ends.course.stripes ends.course.readings

    abbrev starts : StartsValue
    starts = starts_of run.loaded run.lists

    abbrev old : Files
    old = before.opener.vault.files

    abbrev all : List Event
    all = events_in run ends.finishes

    abbrev all_facts : List StripeFacts
    all_facts = facts_of run.stripes

    abbrev IsHeld : Row → ℕ → Cell → Type 0
    IsHeld row d cell = HoldsCell run.plan.table d cell (has_lost run.plan run.stripes d cell.rec) (byte_of row d) (folder_at run.ended d).tree

    is_fix : IsFixOf before exit run
    is_fix = fix_of before exit tells.tells tells.tells_vault setup (Answered answer named) told ran left one course_of

    -- what it began with is what the opener held
    start_tells : IsTrue one.start.vault.tells
    start_tells = tells_held before exit tells.tells tells.tells_vault setup (Answered answer named) told ran left one

    start_files : one.start.vault.files ≡ old
    start_files = files_held before exit tells.tells tells.tells_vault setup (Answered answer named) told ran left one

    start_out : one.start.out ≡ before.out
    start_out = out_held before exit tells.tells tells.tells_vault setup (Answered answer named) told ran left one

    fixed : HasFixed run.plan starts run.stripes ends.finishes run.listed run.ended
    fixed = record {
      valid = subst IsValid (sym ends.course.plan_is.table_is) one.valid;
      numbers = ends.numbers;
      are = ends.course.finds.are;
      answered = ends.course.finds.answered;
      files = ends.files;
    }

    unread_levels : RoseBy (unread_in run.readings) before.opener.vault.faults exit.after.vault.faults
    unread_levels = rose_from (unread_in run.readings) before.opener.vault.faults ran.given.vault.faults one.start.vault.faults exit.after.vault.faults
        ran.is_given.state.faults one.reads.vault.calls.goes_on.later ends.vault.unread

    moment : MayStandFixed run old exit.after.vault.files
    moment = subst (λ (fs : Files). KeepsLevels run.plan.table.shape.block_size (IsMendedLevel run.plan (facts_of run.stripes)) fs exit.after.vault.files) start_files (ends.vault.mends.changes.reads start_tells)

    leaves : Holds (LeavesFixed run) exit.after.vault
    leaves = subst (λ (did : Did). Holds ((effect did).stands_after old) exit.after.vault) ends.course.did_is (ran.ends tells.tells tells.tells_vault)

    zeros : AddsZeros run.plan.table.shape.block_size (IsMendedLevel run.plan (facts_of run.stripes)) old exit.after.vault.files
    zeros = subst (λ (fs : Files). AddsZeros run.plan.table.shape.block_size (IsMendedLevel run.plan (facts_of run.stripes)) fs exit.after.vault.files) start_files (ends.vault.zeros start_tells)

    -- the folders tell their files also once they were listed
    listed_tells : (d : ℕ) → d < length run.plan.table.columns → IsTrue (folder_at run.listed d).tells
    listed_tells d below =
        let columns : length run.plan.table.columns ≡ length one.table.columns = ap (λ (t : TableValue). length t.columns) ends.course.plan_is.table_is in
        let within : d < length run.folders = omega (arith, below, columns, one.columns) in
        let all_tell : AllTell run.folders = subst AllTell (sym is_fix.folders_are) tells.tells_folders in
        (ends.course.lists_are.each d within).call.called.goes_on.tells ∙ all_tell d within

    -- the text of its last line, by what it counts
    abbrev blocks : ℕ
    blocks = at_most (sum_by (written_in run.plan) run.stripes)

    abbrev parities : ℕ
    parities = at_most (sum_by (wrong_in run.plan) run.stripes)

    last_line : fix_text ends.blocks ends.parities left.counted ≡ fix_text blocks parities (at_most (count_by is_left all))
    last_line =
        ap (λ (n : ℕ). fix_text n ends.parities left.counted) ends.blocks_are
        ∙ ap (λ (n : ℕ). fix_text blocks n left.counted) ends.parities_are
        ∙ ap (λ (n : ℕ). fix_text blocks parities n) ends.counted_is

    printed : Tells (lines_of run.loaded.columns all ++ fix_text blocks parities (at_most (count_by is_left all))) (between false before.out) (between ends.prints.failed exit.after.out)
    printed =
        subst (λ (text : List ℕ). Tells (lines_of run.loaded.columns all ++ text) (between false before.out) (between ends.prints.failed exit.after.out)) last_line
        (subst (λ out. Tells (lines_of run.loaded.columns all ++ fix_text ends.blocks ends.parities left.counted) (between false out) (between ends.prints.failed exit.after.out)) start_out ends.prints.told)

    status_well : IsEndStatus status ends.prints.failed (count_by is_left all ≡ 0)
    status_well =
        let none = none_left (count_by is_left all) in
        well_as status ends.prints.failed (λ zero. none.0 (sym ends.counted_is ∙ zero), λ nothing. ends.counted_is ∙ none.1 nothing)
        (done_status left.counted status ends.prints.failed (status_is ∙ ap answer_status ends.prints.answer_is))

    ascending : AreAscending (numbers_of all_facts)
    ascending = subst AreAscending (sym ends.numbers) (stripes_ascending run.plan)

    restores : (snapshot : Closed) (is_changed : ℕ → ℕ → Bool) → Sound run.loaded old snapshot is_changed → AreGenuine run.plan (last_row snapshot) (facts_of run.stripes) → Restores run ends.finishes snapshot
    restores snapshot is_changed sound supposed = record {
      restored = λ facts d cell is_intact it free can.
          restored run.plan starts run.stripes ends.finishes run.listed run.ended facts d cell (last_row snapshot facts.stripe) is_intact
          fixed it.is (genuine_at facts d cell is_intact it) it.bytes it.tells free (listed_tells d it.is.column) can;
      named = λ facts d cell is_intact it. (not_told facts d cell is_intact it, few_told facts d cell is_intact it);
    }
      where
        genuine : AreGenuineOf run.plan starts run.listed old snapshot is_changed all_facts
        genuine = genuine_by (copies_of before.opener.vault) before.opener.vault run snapshot is_changed tells.tells_vault is_fix.over sound supposed

        genuine_at : (facts : StripeFacts) (d : ℕ) (cell : Cell) (is_intact : ℕ → Bool) → IsDamagedOfSynced run.plan all_facts snapshot facts d cell is_intact → HasGenuineFacts run.plan starts run.listed (last_row snapshot facts.stripe) facts
        genuine_at facts d cell is_intact it = genuine_facts run.plan starts run.listed old snapshot is_changed all_facts facts genuine it.is.one it.synced

        not_told : (facts : StripeFacts) (d : ℕ) (cell : Cell) (is_intact : ℕ → Bool) → IsDamagedOfSynced run.plan all_facts snapshot facts d cell is_intact → IsToldLost all facts d cell → ¬ (CanBeHad run.plan facts is_intact d)
        not_told facts d cell is_intact it told_lost can =
            let other : IsUnknownCell run.plan all_facts facts.stripe d cell
            = lost_unknown run.plan starts run.stripes ends.finishes run.listed run.ended facts.stripe d cell fixed (listed_tells d it.is.column) told_lost in
            let same : other.facts ≡ facts = same_facts all_facts ascending other.facts facts other.is.one it.is.one other.number in
            let had : is_some (known_block run.plan facts d) ≡ true
            = (known run.plan starts run.listed (last_row snapshot facts.stripe) facts is_intact d (genuine_at facts d cell is_intact it) it.bytes it.tells).1 can in
            let clash : false ≡ true = sym other.unknown ∙ ap (λ (it' : StripeFacts). is_some (known_block run.plan it' d)) same ∙ had in cc

        few_told : (facts : StripeFacts) (d : ℕ) (cell : Cell) (is_intact : ℕ → Bool) → IsDamagedOfSynced run.plan all_facts snapshot facts d cell is_intact → ¬ (CanBeHad run.plan facts is_intact d) → IsToldLost all facts d cell
        few_told facts d cell is_intact it never =
            (lost run.plan starts run.stripes ends.finishes run.listed facts d cell (last_row snapshot facts.stripe) is_intact
            it.is (genuine_at facts d cell is_intact it) it.bytes it.tells never).1

    pending : NamesPending run.plan all_facts all
    pending facts d cell it unsynced =
        (unknown_lost run.plan run.stripes ends.finishes facts d cell it (ap is_audit ends.course.plan_is.scope.mode_is)
        (none_known run.plan facts d unsynced)).1

    pub ended_fixed : EndsFixed before exit status
    ended_fixed = record {
      run = run;
      is_fix = is_fix;
      tells = ran.keeps.vault.goes_on.tells ∙ ap (λ (s : VaultState). s.tells) (given_is before exit tells.tells tells.tells_vault setup (Answered answer named) told ran) ∙ tells.tells_vault;
      finishes = ends.finishes;
      fixed = fixed;
      unread = ends.course.unread;
      unread_levels = unread_levels;
      moment = moment;
      leaves = leaves;
      zeros = zeros;
      output_failed = ends.prints.failed;
      printed = printed;
      status_is = status_well;
      output = output_rose before exit setup (Answered answer named) told ran left one ends.prints.failed ends.prints.answer_is;
      pending = pending;
      restores = restores;
    }

    pub ended_fixed_run : ended_fixed.run ≡ run
    unfolding ended_fixed
    ended_fixed_run = refl

  -- by the answer
  by_answer : (setup : SetupValue) (answer : Answer) (named : Option TableValue) (told : List Event) (ran : IsRun before exit setup (Answered answer named) told) (left_answer : Answer) (left_named : Option TableValue) (counted : ℕ)
      → (let left : Left = record { answer = left_answer; named = left_named; counted = counted; told = told } in
      (one : IsAnswered ran.task ran.given (world_of exit.after) left ran.did) (selection : Selection) (command : ran.task.command ≡ commands.Fix selection) (status : ℕ) → status ≡ answer_status left_answer → IsDoneAnswer left_answer
      → FixesBy left_answer selection ran.task one.table one.start (world_of exit.after) left ran.did → EndsFixed before exit status)
  by_answer setup answer named told ran answers.Clean left_named counted one selection command status is done ends = ended_fixed setup answer named told ran _ one selection command status is ends
  by_answer setup answer named told ran answers.Found left_named counted one selection command status is done ends = ended_fixed setup answer named told ran _ one selection command status is ends
  by_answer setup answer named told ran answers.OutputFailed left_named counted one selection command status is done ends = ended_fixed setup answer named told ran _ one selection command status is ends
  by_answer setup answer named told ran (answers.Zeroed disk rec) left_named counted one selection command status is done ends = absurd done
  by_answer setup answer named told ran (answers.Emptied disk) left_named counted one selection command status is done ends = absurd done
  by_answer setup answer named told ran (answers.Full _ _) left_named counted one selection command status is done ends = absurd done
  by_answer setup answer named told ran (answers.Broken (runs.Folder disk)) left_named counted one selection command status is done ends = absurd done
  by_answer setup answer named told ran (answers.Broken runs.Vault) left_named counted one selection command status is done ends = absurd done
  by_answer setup answer named told ran (answers.Broken runs.Memory) left_named counted one selection command status is done ends = absurd done

-- of each run
pub fixes_end : CellsAreRestored → CellsAreLost → UnknownAreLost → LostAreUnknown → BlocksAreKnown → FactsAreGenuine → (before : Entry) (exit : Exit) (end : End) (told : List Event) (status : ℕ) → status ≡ status_of end → Ran before exit end told → FixesEnd before exit status
fixes_end restored lost unknown_lost lost_unknown known genuine_facts before exit end told status is ran tells went asked selection words command =
    let to = goes_to_its_end before exit end told status tells.tells is ran asked words (subst WorksOnArray (sym command) tt) went in
    let configured = to.ran.is_given.configured in
    let left : Left = record { answer = to.answer; named = to.named; counted = to.ran.goes.0; told = to.told } in
    let one : IsAnswered to.ran.task to.ran.given (world_of exit.after) left to.ran.did = to.ran.goes.1 in
    let same : configured.asked ≡ asked = same_ok (asked_by before.texts) configured.asked asked configured.read words in
    let command_is : to.ran.task.command ≡ commands.Fix selection = configured.command_is ∙ ap (λ (a : Options). a.command) same ∙ command in
    let does : DoesCommand (commands.Fix selection) to.ran.task one.table one.start (world_of exit.after) left to.ran.did
    = subst (λ (c : Command). DoesCommand c to.ran.task one.table one.start (world_of exit.after) left to.ran.did) command_is one.does in
    let done : IsDoneAnswer to.answer = ⊎_elim (λ done. done) (λ ended. done_by_did to.answer selection to.ran.task one.table one.start (world_of exit.after) left to.ran.did does ended) to.how in
    by_answer restored lost unknown_lost lost_unknown known genuine_facts before exit tells to.setup to.answer to.named to.told to.ran to.answer to.named to.ran.goes.0 one selection command_is status to.status_is done does
