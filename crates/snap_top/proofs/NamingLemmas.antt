-- A check that is done tells which damaged cells are lost, and an audit what is changed.
use Rattle.std.proofs.Common.{◌≡◌, ◌↔◌, ◌⊎◌, inl, inr, ⊎_elim, ℕ, ◌<◌, List, ◌++◌, length, get_or, count_by, Bool, true, false, if◌then◌else◌, IsTrue, Option, None, Some, is_some, refl, sym, ap, ◌∙◌, subst, arith}
use Rattle.std.specs.Prelude.{not}
use Rattle.std.proofs.lemmas.Bool.{and_from, and_left, and_parts}
use Rattle.std.proofs.lemmas.List.{get_or-map, length-map}
use Rattle.std.proofs.lemmas.List.Elements.{All-contains}
use Rattle.cauchy.specs.Recovery.{AreBytes}
use Rattle.disk_model.specs.Cause.{RoseBy}
use Rattle.disk_model.specs.Files.{Files}
use Rattle.disk_model.specs.Folder.{FolderView}
use Rattle.file_table.specs.Table.{TableValue}
use Rattle.file_table.specs.Valid.{IsValid}
use Rattle.file_table.specs.declared.block.Cell.{Cell}
use Rattle.parity_writer.specs.Parity.{Row}
use Rattle.parity_writer.specs.Sound.{Sound, Closed, last_row}
use Rattle.stripe_reader.specs.Column.{IsReadingOf, no_task}
use Rattle.stripe_reader.specs.Columns.{folder_at}
use Rattle.stripe_reader.specs.Reading.{CellReading, NoBlock, Task, task_at, tasks_at}
use Rattle.stripe_reader.specs.Slot.{kept}
use Rattle.stripe_reader.specs.SlotValue.{SlotValue}
use Rattle.stripe_reader.specs.Starts.{StartsValue}
use Rattle.stripe_reader.specs.WindowValue.{no_slot}
use Rattle.array_setup.specs.Setup.{SetupValue}
use Rattle.snap_config.specs.declared.options.Command.{Command}
use Rattle.snap_config.specs.declared.options.Command.TheVariants as commands
use Rattle.snap_config.specs.declared.options.Options.{Options}
use Rattle.array_setup.specs.declared.ways.Selection.{Selection}
use Rattle.stripe_examiner.specs.Counts.{at_most}
use Rattle.stripe_examiner.specs.Facts.{StripeFacts, damaged_at, gift_of, is_sought, slot_of}
use Rattle.stripe_examiner.specs.Showing.{is_unknown, known_block, known_by}
use Rattle.stripe_examiner.specs.Findings.{is_lost}
use Rattle.stripe_examiner.specs.Present.{ArePresent}
use Rattle.snap_fix.specs.Audited.{FindsNothing}
use Rattle.snap_fix.specs.Genuine.{AreGenuine, AreGenuineOf, HasGenuineFacts, IsRestorableStripe, TellsIntactLevels}
use Rattle.stripe_examiner.specs.Known.{AreFacts, IsTried}
use Rattle.stripe_examiner.specs.Looking.{AreRead, numbers_of, unread_in}
use Rattle.repair_scope.specs.Plan.{FixPlan, is_audit, is_searched, is_synced, selects_cell}
use Rattle.stripe_examiner.specs.Place.{starts_of}
use Rattle.repair_scope.specs.declared.scope.Mode.{Mode}
use Rattle.repair_scope.specs.declared.scope.Mode.TheVariants as modes
use Rattle.snap_report.specs.Answer.{status_of as answer_status}
use Rattle.snap_report.specs.EndLines.{check_text}
use Rattle.snap_report.specs.EventLines.{lines_of}
use Rattle.snap_report.specs.Kind.{is_finding}
use Rattle.snap_report.specs.ListText.{list_text}
use Rattle.snap_report.specs.StatusText.{bad_in, status_text}
use Rattle.snap_report.specs.Telling.{Tells, between}
use Rattle.snap_report.specs.declared.answer.Answer.{Answer}
use Rattle.snap_report.specs.declared.answer.Answer.TheVariants as answers
use Rattle.snap_report.specs.declared.answer.RunFault.TheVariants as runs
use Rattle.snap_report.specs.declared.events.Event.{Event}
use Rattle.snap_top.specs.Check.{CheckRun}
use Rattle.snap_top.specs.Checking.{CheckEnds, ChecksBy}
use Rattle.snap_top.specs.Does.{DoesCommand, StaysIdle}
use Rattle.snap_top.specs.Dup.{dup_text}
use Rattle.snap_top.specs.End.{status_of}
use Rattle.snap_top.specs.Output.{IsEndStatus}
use Rattle.snap_fix.specs.Restored.{CanBeHad, IsDamagedCell, IsGivenBlock}
use Rattle.snap_top.specs.Lost.{IsToldLost, NamesLost, NamesPending}
use Rattle.snap_top.specs.Stands.{TellsVault}
use Rattle.snap_top.specs.Naming.{EndsAudited, EndsChecked, HasChecked, events_found}
use Rattle.snap_top.specs.AsAsked.{ChecksEnd, EndsAsAsked}
use Rattle.snap_top.specs.Began.{command_in, IsCheckOf}
use Rattle.snap_top.specs.Asked.{asked_by, WorksOnArray}
use Rattle.snap_top.specs.Run.{IsAnswered, IsRun, Ran}
use Rattle.snap_top.specs.Entry.{Entry, Exit}
use Rattle.snap_top.specs.Task.{Left}
use Rattle.snap_top.specs.Views.{view_of, world_of}
use Rattle.snap_top.specs.declared.end.End.{End}
use Rattle.snap_top.specs.declared.end.Ending.TheVariants.{Answered}
use Rattle.snap_top.proofs.CompleteLemmas.{same_ok}
use Rattle.snap_top.proofs.EndedLemmas.{GoesToItsEnd, IsDoneAnswer, done_status, goes_to_its_end, only_read, output_rose, well_as}
use Rattle.snap_top.proofs.ExercisingLemmas.{works_or_exercises}
use Rattle.snap_top.proofs.LostEvents.{lost_is_told, told_is_lost}
use Rattle.snap_top.proofs.LostLemmas.{AreAscending, FactsAreGenuine, same_facts, stripes_ascending}
use Rattle.snap_top.proofs.OfFixLemmas.{check_did, levels_held, levels_in}
use Rattle.snap_top.proofs.OfSyncLemmas.{configured_for, start_files as files_held, start_folders, start_out as out_held, start_tells as tells_held, table_among, table_loading, table_loaded}
use Rattle.snap_top.proofs.PrintingLemmas.{ended_printed}
use Rattle.snap_top.proofs.RestoringLemmas.{none_left, rose_from}

-- what snap_fix says of a row: it is known exactly where its stripe is restorable
abbrev pub RowsAreKnown : Type 0
RowsAreKnown = (plan : FixPlan) (starts : StartsValue) (firsts : List FolderView) (snapshot : Row) (facts : StripeFacts) (is_intact : ℕ → Bool)
    → HasGenuineFacts plan starts firsts snapshot facts → AreBytes snapshot → TellsIntactLevels plan facts snapshot is_intact
    → (is_some facts.row ≡ true) ↔ IsRestorableStripe plan facts is_intact

-- ---- what was read of the folders stood there when they were listed

module _ (plan : FixPlan) (starts : StartsValue) (stripes : List StripeFacts) (olds news : List FolderView) (read : AreRead plan starts stripes olds news)
    (many : length olds ≡ length plan.table.columns) where
  are_present : ArePresent plan starts olds stripes
  are_present k other within d below =
      let its = read.each d (omega (arith, many, below)) in
      let facts : StripeFacts = get_or stripes k other in
      let number : StripeFacts → ℕ = λ (it : StripeFacts). it.stripe in
      let slot_at : StripeFacts → SlotValue = λ (it : StripeFacts). slot_of it d in
      let task_of : ℕ → Task = task_at plan.table starts d in
      let reading : CellReading = get_or its.readings k NoBlock in
      let as_many = its.as_many in
      let few : k < length (numbers_of stripes) = omega (arith, within, length-map stripes number) in
      let near : k < length its.readings = omega (arith, few, as_many, length-map (numbers_of stripes) task_of) in
      let slot_is : slot_of facts d ≡ kept plan.table.shape reading =
      sym (get_or-map slot_at stripes k other no_slot within)
      ∙ ap (λ (slots : List SlotValue). get_or slots k no_slot) its.are_kept
      ∙ get_or-map (kept plan.table.shape) its.readings k NoBlock no_slot near in
      let task_is : get_or (tasks_at plan.table starts d (numbers_of stripes)) k no_task ≡ task_of facts.stripe =
      get_or-map task_of (numbers_of stripes) k 0 no_task few ∙ ap task_of (get_or-map number stripes k other 0 within) in
      record {
        reading = reading;
        is_of = subst (λ (task : Task). IsReadingOf (folder_at olds d) task reading) task_is
            (its.are_of k (omega (arith, few, length-map (numbers_of stripes) task_of)));
        found = ap (λ (slot : SlotValue). slot.cell.found) slot_is;
        got = ap (λ (slot : SlotValue). slot.cell.got) slot_is;
        digest = ap (λ (slot : SlotValue). slot.digest) slot_is;
        block = ap (λ (slot : SlotValue). slot.block) slot_is;
      }

-- ---- which cells are lost

no_row : (plan : FixPlan) (facts : StripeFacts) → AreFacts plan facts → is_synced plan facts.stripe ≡ false → is_some facts.row ≡ false
no_row plan facts are pending =
    let unsearched : is_searched plan facts.stripe ≡ false = and_left (is_synced plan facts.stripe) (not (is_audit plan.scope.mode)) pending in
    let none : IsTried plan facts false = subst (IsTried plan facts) unsearched are.tried in
    ap (λ (row : Option Row). is_some row) none.2

no_block : (sought synced : Bool) (gift : Option (List ℕ)) (row : Option Row) (d : ℕ) → gift ≡ None → is_some row ≡ false
    → (let it : Option (List ℕ) = (if sought then known_by synced gift row d else None) in is_some it ≡ false)
no_block false synced gift row d none unknown = refl
no_block true true (Some given) row d none unknown = absurd (let clash : Some given ≡ None = none in cc)
no_block true true None (Some row) d none unknown = absurd (let clash : true ≡ false = unknown in cc)
no_block true true None None d none unknown = refl
no_block true false gift (Some row) d none unknown = absurd (let clash : true ≡ false = unknown in cc)
no_block true false gift None d none unknown = refl

-- a selected damaged cell that was not given is lost where the row is not known
lost_where : (plan : FixPlan) (stripes : List StripeFacts) (facts : StripeFacts) (d : ℕ) (cell : Cell) → IsDamagedCell plan stripes facts d cell → gift_of facts d ≡ None → is_some facts.row ≡ false
    → is_lost plan facts d ≡ true
lost_where plan stripes facts d cell it none unknown =
    and_from _ _ it.selected (and_from _ _ it.damaged (ap not (no_block (is_sought plan facts.stripe d) (is_synced plan facts.stripe) (gift_of facts d) facts.row d none unknown)))

-- and no cell of a synced stripe is lost where the row is known
some_block : (synced : Bool) (gift : Option (List ℕ)) (row : Option Row) (d : ℕ) → synced ≡ true → is_some row ≡ true
    → (let it : Option (List ℕ) = (if synced then known_by synced gift row d else None) in is_some it ≡ true)
some_block false gift row d synced known = absurd (let clash : false ≡ true = synced in cc)
some_block true (Some given) row d synced known = refl
some_block true None (Some row) d synced known = refl
some_block true None None d synced known = absurd (let clash : false ≡ true = known in cc)

unknown_where : (plan : FixPlan) (facts : StripeFacts) (d : ℕ) → is_lost plan facts d ≡ true → is_synced plan facts.stripe ≡ true → is_some facts.row ≡ true → ⊥
unknown_where plan facts d lost synced known =
    let unknown = (and_parts (selects_cell plan facts.stripe d) (is_unknown plan facts d) lost).1 in
    let none = (and_parts (damaged_at plan facts d) (not (is_some (known_block plan facts d))) unknown).1 in
    let clash : false ≡ true = sym (ap not (some_block (is_synced plan facts.stripe) (gift_of facts d) facts.row d synced known)) ∙ none in cc

not_known : (b : Bool) → (b ≡ true → ⊥) → b ≡ false
not_known true never = absurd (never refl)
not_known false never = refl

-- ---- a check that went to its end

module _ (rows : RowsAreKnown) (genuine_facts : FactsAreGenuine) (before : Entry) (exit : Exit) (tells : TellsVault before) where
  module _ (setup : SetupValue) (answer : Answer) (named : Option TableValue) (told : List Event) (ran : IsRun before exit setup (Answered answer named) told) (left : Left)
      (one : IsAnswered ran.task ran.given (world_of exit.after) left ran.did) (mode : Mode) (selection : Selection) (command : ran.task.command ≡ command_in mode selection) (status : ℕ) (status_is : status ≡ answer_status left.answer)
      (ends : CheckEnds mode selection ran.task one.table one.start (world_of exit.after) left ran.did) where
    abbrev run : CheckRun
    run = record {
      selection = selection;
      setup = ran.task.setup;
      loaded = one.table;
      lists = ends.lists;
      plan = ends.plan;
      stripes = ends.stripes;
      readings = ends.levels.readings;
      folders = one.start.folders;
      listed = ends.listed;
      ended = exit.after.folders;
    }

    abbrev old : Files
    old = before.opener.vault.files

    abbrev all : List Event
    all = events_found run

    start_tells : IsTrue one.start.vault.tells
    start_tells = tells_held before exit tells.tells tells.tells_vault setup (Answered answer named) told ran left one

    start_files : one.start.vault.files ≡ old
    start_files = files_held before exit tells.tells tells.tells_vault setup (Answered answer named) told ran left one

    start_out : one.start.out ≡ before.out
    start_out = out_held before exit tells.tells tells.tells_vault setup (Answered answer named) told ran left one

    is_check : IsCheckOf mode before exit run
    is_check = record {
      readers = ran.task.readers;
      configured = configured_for before exit tells.tells tells.tells_vault setup (Answered answer named) told ran (command_in mode selection) command;
      folders_are = start_folders before exit tells.tells tells.tells_vault setup (Answered answer named) told ran left one;
      ended_is = refl;
      over = record {
        valid = one.valid;
        is_loaded = table_loaded before exit tells.tells tells.tells_vault setup (Answered answer named) told ran left one;
        columns = one.columns;
        as_many = ends.as_many;
        listed = ends.lists_are;
        plan_is = ends.plan_is;
        numbers = ends.numbers;
        are = ends.are;
        read = ends.read;
        levels = levels_held run.plan.table.shape.block_size before.opener.vault (view_of one.start.vault) (λ held. start_tells) (λ held. start_files)
            run.stripes run.readings ends.levels.are;
        no_gifts = ends.no_gifts;
      };
      begins = table_among before exit tells.tells tells.tells_vault setup (Answered answer named) told ran left one;
      loading = table_loading before exit tells.tells tells.tells_vault setup (Answered answer named) told ran left one (record { done = _; goes_on = ends.levels.goes_on });
    }

    unread_levels : RoseBy (unread_in run.readings) before.opener.vault.faults exit.after.vault.faults
    unread_levels = rose_from (unread_in run.readings) before.opener.vault.faults ran.given.vault.faults one.start.vault.faults exit.after.vault.faults
        ran.is_given.state.faults one.reads.vault.calls.goes_on.later ends.levels.unread

    printed : Tells (lines_of run.loaded.columns all ++ check_text (at_most (count_by is_finding all))) (between false before.out) (between ends.prints.failed exit.after.out)
    printed =
        subst (λ (n : ℕ). Tells (lines_of run.loaded.columns all ++ check_text n) (between false before.out) (between ends.prints.failed exit.after.out)) ends.counted_is
        (subst (λ out. Tells (lines_of run.loaded.columns all ++ check_text left.counted) (between false out) (between ends.prints.failed exit.after.out)) start_out ends.prints.told)

    status_well : IsEndStatus status ends.prints.failed (count_by is_finding all ≡ 0)
    status_well =
        let none = none_left (count_by is_finding all) in
        well_as status ends.prints.failed (λ zero. none.0 (sym ends.counted_is ∙ zero), λ nothing. ends.counted_is ∙ none.1 nothing)
        (done_status left.counted status ends.prints.failed (status_is ∙ ap answer_status ends.prints.answer_is))

    has_checked : HasChecked mode before exit status run
    has_checked = record {
      is_check = is_check;
      unread_levels = unread_levels;
      output_failed = ends.prints.failed;
      printed = printed;
      status_is = status_well;
      output = output_rose before exit setup (Answered answer named) told ran left one ends.prints.failed ends.prints.answer_is;
    }

    -- ---- a check

    parity : mode ≡ modes.Check → is_audit run.plan.scope.mode ≡ false
    parity is = ap is_audit (ends.plan_is.scope.mode_is ∙ is)

    no_gift : (facts : StripeFacts) (d : ℕ) (cell : Cell) → IsDamagedCell run.plan run.stripes facts d cell → gift_of facts d ≡ None
    no_gift facts d cell it = All-contains (λ (other : StripeFacts). (k : ℕ) → gift_of other k ≡ None) run.stripes facts ends.no_gifts it.one d

    told_where : mode ≡ modes.Check → (facts : StripeFacts) (d : ℕ) (cell : Cell) (it : IsDamagedCell run.plan run.stripes facts d cell) → is_some facts.row ≡ false → IsToldLost all facts d cell
    told_where is facts d cell it unknown =
        lost_is_told run.plan run.stripes facts d cell it (parity is) (lost_where run.plan run.stripes facts d cell it (no_gift facts d cell it) unknown)

    pending : mode ≡ modes.Check → NamesPending run.plan run.stripes all
    pending is facts d cell it unsynced =
        told_where is facts d cell it (no_row run.plan facts (All-contains (AreFacts run.plan) run.stripes facts ends.are it.one) unsynced)

    ascending : AreAscending (numbers_of run.stripes)
    ascending = subst AreAscending (sym ends.numbers) (stripes_ascending run.plan)

    names : mode ≡ modes.Check → (snapshot : Closed) (is_changed : ℕ → ℕ → Bool) → Sound run.loaded old snapshot is_changed → AreGenuine run.plan (last_row snapshot) run.stripes → NamesLost run.plan run.stripes snapshot all
    names is snapshot is_changed sound supposed facts d cell is_intact it = (not_told, few_told)
      where
        table_is : run.loaded ≡ run.plan.table
        table_is = sym ends.plan_is.table_is

        columns : length run.listed ≡ length run.plan.table.columns
        columns = ends.as_many ∙ one.columns ∙ ap (λ (t : TableValue). length t.columns) table_is

        genuine : AreGenuineOf run.plan (starts_of run.loaded run.lists) run.listed old snapshot is_changed run.stripes
        genuine = record {
          valid = subst IsValid table_is one.valid;
          are = ends.are;
          present = are_present run.plan (starts_of run.loaded run.lists) run.stripes run.listed run.ended ends.read columns;
          levels = levels_in run.plan.table.shape.block_size before.opener.vault run.stripes run.readings tells.tells_vault is_check.over.levels;
          sound = subst (λ (t : TableValue). Sound t old snapshot is_changed) table_is sound;
          genuine = supposed;
        }

        known : (is_some facts.row ≡ true) ↔ IsRestorableStripe run.plan facts is_intact
        known = rows run.plan (starts_of run.loaded run.lists) run.listed (last_row snapshot facts.stripe) facts is_intact
            (genuine_facts run.plan (starts_of run.loaded run.lists) run.listed old snapshot is_changed run.stripes facts genuine it.is.one it.synced) it.bytes it.tells

        -- nothing was given, so what can be had is had by its stripe
        by_stripe : IsGivenBlock run.plan facts d ⊎ IsRestorableStripe run.plan facts is_intact → IsRestorableStripe run.plan facts is_intact
        by_stripe (inl given) = absurd (let clash : false ≡ true = sym (ap (λ (gift : Option (List ℕ)). is_some gift) (no_gift facts d cell it.is)) ∙ given.1 in cc)
        by_stripe (inr enough) = enough

        not_told : IsToldLost all facts d cell → ¬ (CanBeHad run.plan facts is_intact d)
        not_told is_told can =
            let lost = told_is_lost run.plan run.stripes facts.stripe d cell.rec cell.index is_told in
            let same : lost.facts ≡ facts = same_facts run.stripes ascending lost.facts facts lost.one it.is.one lost.number in
            let synced : is_synced run.plan facts.stripe ≡ true = (and_parts (is_synced run.plan facts.stripe) _ it.synced).0 in
            unknown_where run.plan lost.facts d lost.lost (ap (λ (other : StripeFacts). is_synced run.plan other.stripe) same ∙ synced)
            (ap (λ (other : StripeFacts). is_some other.row) same ∙ known.1 (by_stripe can.had))

        few_told : ¬ (CanBeHad run.plan facts is_intact d) → IsToldLost all facts d cell
        few_told never =
            told_where is facts d cell it.is (not_known (is_some facts.row) (λ found. never (record { sought = (and_parts (is_synced run.plan facts.stripe) _ it.synced).0; had = inr (known.0 found) })))

    ended_checked : mode ≡ modes.Check → EndsChecked before exit status
    ended_checked is = record {
      run = run;
      has = subst (λ (m : Mode). HasChecked m before exit status run) is has_checked;
      pending = pending is;
      named = names is;
    }

    -- ---- an audit

    ended_audited : mode ≡ modes.Audit → EndsAudited before exit status
    ended_audited is =
        let none = none_left (count_by is_finding all) in
        let clean : (left.counted ≡ 0) ↔ FindsNothing run.plan run.stripes = ends.audited is in
        record {
          run = run;
          has = subst (λ (m : Mode). HasChecked m before exit status run) is has_checked;
          clean = (λ nothing. clean.0 (ends.counted_is ∙ none.1 nothing), λ finds. none.0 (sym ends.counted_is ∙ clean.1 finds));
        }

    pub ended_in : (m : Mode) → mode ≡ m → EndsAsAsked (command_in m selection) before exit status
    ended_in modes.Check is = ended_checked is
    ended_in modes.Audit is = ended_audited is
    ended_in modes.Fix is = tt

  -- by the answer
  by_answer : (setup : SetupValue) (answer : Answer) (named : Option TableValue) (told : List Event) (ran : IsRun before exit setup (Answered answer named) told) (left_answer : Answer) (left_named : Option TableValue) (counted : ℕ)
      → (let left : Left = record { answer = left_answer; named = left_named; counted = counted; told = told } in
      (one : IsAnswered ran.task ran.given (world_of exit.after) left ran.did) (mode : Mode) (selection : Selection) (command : ran.task.command ≡ command_in mode selection) (status : ℕ) → status ≡ answer_status left_answer → IsDoneAnswer left_answer
      → ChecksBy left_answer mode selection ran.task one.table one.start (world_of exit.after) left ran.did → EndsAsAsked (command_in mode selection) before exit status)
  by_answer setup answer named told ran answers.Clean left_named counted one mode selection command status is done ends = ended_in setup answer named told ran _ one mode selection command status is ends mode refl
  by_answer setup answer named told ran answers.Found left_named counted one mode selection command status is done ends = ended_in setup answer named told ran _ one mode selection command status is ends mode refl
  by_answer setup answer named told ran answers.OutputFailed left_named counted one mode selection command status is done ends = ended_in setup answer named told ran _ one mode selection command status is ends mode refl
  by_answer setup answer named told ran (answers.Zeroed disk rec) left_named counted one mode selection command status is done ends = absurd done
  by_answer setup answer named told ran (answers.Emptied disk) left_named counted one mode selection command status is done ends = absurd done
  by_answer setup answer named told ran (answers.Full _ _) left_named counted one mode selection command status is done ends = absurd done
  by_answer setup answer named told ran (answers.Broken (runs.Folder disk)) left_named counted one mode selection command status is done ends = absurd done
  by_answer setup answer named told ran (answers.Broken runs.Vault) left_named counted one mode selection command status is done ends = absurd done
  by_answer setup answer named told ran (answers.Broken runs.Memory) left_named counted one mode selection command status is done ends = absurd done

  -- by the command
  module _ (status : ℕ) (to : GoesToItsEnd before exit status) where
    abbrev left : Left
    left = record { answer = to.answer; named = to.named; counted = to.ran.goes.0; told = to.told }

    abbrev one : IsAnswered to.ran.task to.ran.given (world_of exit.after) left to.ran.did
    one = to.ran.goes.1

    in_mode : (mode : Mode) (selection : Selection) → to.ran.task.command ≡ command_in mode selection
        → ChecksBy to.answer mode selection to.ran.task one.table one.start (world_of exit.after) left to.ran.did → EndsAsAsked (command_in mode selection) before exit status
    in_mode mode selection command does =
        let reads = check_did to.answer mode selection to.ran.task one.table one.start (world_of exit.after) left to.ran.did does in
        let done : IsDoneAnswer to.answer = ⊎_elim (λ done. done) (λ ended. absurd (only_read to.ran.did reads ended)) to.how in
        by_answer to.setup to.answer to.named to.told to.ran to.answer to.named to.ran.goes.0 one mode selection command status to.status_is done does

    -- a command that stays idle does not go to its end
    ends_not_idle : StaysIdle one.start (world_of exit.after) left to.ran.did → ⊥
    ends_not_idle idle = ⊎_elim (λ done. subst IsDoneAnswer (ap (λ (l : Left). l.answer) idle.left_is) done) (λ ended. only_read to.ran.did idle.did_is ended) to.how

    pub by_command : (command : Command) → to.ran.task.command ≡ command → DoesCommand command to.ran.task one.table one.start (world_of exit.after) left to.ran.did → EndsAsAsked command before exit status
    by_command commands.List command does =
        ended_printed before exit tells to.setup (Answered to.answer to.named) to.told to.ran left one commands.List command (λ (table : TableValue). list_text table.columns) (λ (table : TableValue). 0) status to.status_is does
    by_command commands.Status command does =
        ended_printed before exit tells to.setup (Answered to.answer to.named) to.told to.ran left one commands.Status command status_text (λ (table : TableValue). bad_in table.infos) status to.status_is does
    by_command commands.Dup command does =
        ⊎_elim
        (λ alone. ended_printed before exit tells to.setup (Answered to.answer to.named) to.told to.ran left one commands.Dup command dup_text (λ (table : TableValue). 0) status to.status_is alone)
        (λ idle. absurd (ends_not_idle idle))
        does
    by_command (commands.Sync way) command does = tt
    by_command (commands.Check selection) command does = in_mode modes.Check selection command does
    by_command (commands.Audit selection) command does = in_mode modes.Audit selection command does
    by_command (commands.Fix selection) command does = tt
    by_command (commands.Scrub way) command does = tt
    by_command (commands.Exercise n) command does = tt

-- of each run
pub checks_end : RowsAreKnown → FactsAreGenuine → (before : Entry) (exit : Exit) (end : End) (told : List Event) (status : ℕ) → status ≡ status_of end → Ran before exit end told → ChecksEnd before exit status
checks_end rows genuine_facts before exit end told status is ran tells went asked words =
    ⊎_elim on_array (λ exercises. subst (λ (c : Command). EndsAsAsked c before exit status) (sym exercises.1) tt) (works_or_exercises asked.command)
  where
    on_array : WorksOnArray asked.command → EndsAsAsked asked.command before exit status
    on_array array =
        let to = goes_to_its_end before exit end told status tells.tells is ran asked words array went in
        let configured = to.ran.is_given.configured in
        let same : configured.asked ≡ asked = same_ok (asked_by before.texts) configured.asked asked configured.read words in
        let command_is : to.ran.task.command ≡ asked.command = configured.command_is ∙ ap (λ (a : Options). a.command) same in
        let left : Left = record { answer = to.answer; named = to.named; counted = to.ran.goes.0; told = to.told } in
        let one : IsAnswered to.ran.task to.ran.given (world_of exit.after) left to.ran.did = to.ran.goes.1 in
        by_command rows genuine_facts before exit tells status to asked.command command_is
        (subst (λ (c : Command). DoesCommand c to.ran.task one.table one.start (world_of exit.after) left to.ran.did) command_is one.does)
