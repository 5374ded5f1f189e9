-- Two syncs of one array, and two scrubs of one at the same moment, read, leave and print the same.
use Rattle.std.proofs.Common.{◌≡◌, inl, inr, ℕ, zero, suc, ◌+◌, ◌-◌, ◌*◌, ◌/◌, ◌%◌, ◌<◌, ◌≤◌, List, [], ◌∷◌, ◌++◌, length, get_or, Bool, true, false, IsTrue, if◌then◌else◌, Option, None, Some, refl, sym, ap, ap₂, ◌∙◌, subst, arith}
use Rattle.std.specs.Prelude.{All, sum_by}
use Rattle.std.proofs.lemmas.Bool.{cases_lt}
use Rattle.std.proofs.lemmas.List.{ext_get_or, get_or-map, length-map, map-set}
use Rattle.std.proofs.lemmas.List.Sums.{sum_by-cons}
use Rattle.std.proofs.lemmas.Nat.{div-add-mod'}
use Rattle.std.proofs.Math.Nat.{mod-lt}
use Rattle.array_scan.specs.Layout.{pending_stripes}
use Rattle.disk_model.specs.Bytes.{read_from, resized}
use Rattle.disk_model.specs.Files.{Files, parity_of}
use Rattle.disk_model.specs.Folder.{FolderView}
use Rattle.disk_model.specs.Tree.{Tree}
use Rattle.disk_model.specs.Vault.{VaultView}
use Rattle.disk_model.proofs.BytesLemmas.{length-resized}
use Rattle.file_table.specs.Table.{TableValue}
use Rattle.file_table.specs.declared.info.Info.{Info}
use Rattle.parity_writer.specs.Keeps.{HasByte}
use Rattle.parity_writer.specs.LevelReading.{LevelReading}
use Rattle.parity_writer.specs.Parity.{Row, Rows}
use Rattle.array_setup.specs.Setup.{SetupValue}
use Rattle.snap_config.specs.declared.options.Command.{Command}
use Rattle.snap_config.specs.declared.options.Command.TheVariants as commands
use Rattle.array_setup.specs.declared.ways.ScrubWay.{ScrubWay}
use Rattle.snap_report.specs.EndLines.{scrub_text}
use Rattle.snap_report.specs.EventLines.{lines_of}
use Rattle.snap_report.specs.Telling.{Tells, between}
use Rattle.snap_report.specs.Text.{sync_text}
use Rattle.snap_scrub.specs.Course.{MayStandScrubbed}
use Rattle.snap_scrub.specs.Findings.{events_of as events_scrubbed_in}
use Rattle.snap_scrub.specs.Marks.{at_most, scrubbed}
use Rattle.snap_scrub.specs.Plan.{plan_of}
use Rattle.snap_scrub.specs.Reading.{AreLevelsOf, HasLevels, ScrubReading, cells_of, unread_levels}
use Rattle.snap_sync.specs.Calls.{level_bytes}
use Rattle.snap_sync.specs.Closing.{closed, closed_by, rows_of, synced_now, verified_in, with_closed}
use Rattle.snap_sync.specs.Images.{HasParity, IsOutsideRows}
use Rattle.snap_sync.specs.Part.{AllTell, AllVerified, NoneRose, layout_by, readings_by, run_trees, trees_of, verified_stripes, without_check, without_checks}
use Rattle.snap_sync.proofs.RowsLemmas.{other_place}
use Rattle.stripe_findings.specs.Findings.{events_of}
use Rattle.stripe_findings.specs.Reading.{StripeReading, is_verified}
use Rattle.snap_top.specs.Alike.{HoldAlike}
use Rattle.snap_top.specs.Unbroken.{NothingRose}
use Rattle.snap_top.specs.LeftAlike.{AskSame, PrintAlike, ScrubsAlike, SyncsAlike}
use Rattle.snap_top.specs.InPart.{EndsInPart}
use Rattle.snap_top.specs.Entry.{Entry, Exit}
use Rattle.snap_top.specs.Scrubbed.{EndsScrubbed}
use Rattle.snap_top.proofs.AskedLemmas.{command_asked, one_setup, same_loaded, same_status, unfailed}
use Rattle.snap_top.proofs.HeldLemmas.{level_is, none_failed, none_risen}
use Rattle.snap_top.proofs.SyncEndLemmas.{stands_then}
use Rattle.snap_top.proofs.SyncedLemmas.{OneTable}

-- ---- parity that holds the same rows over the same files is the same

module _ (levels size bytes : ℕ) (rows : Rows) (old one other : Files) (has : HasParity levels size bytes rows old one) (has_then : HasParity levels size bytes rows old other) where
  same_byte : (level : ℕ) → level < levels → (i : ℕ) → i < bytes → get_or (parity_of other level) i 0 ≡ get_or (parity_of one level) i 0
  same_byte level below i within = elim (cases_lt 0 size) [
    | inl some ↦ by some (rows (i / size)) refl
    | inr none ↦
        let no_size : 0 ≡ size = omega (arith, none) in
        outside (λ stripe row is. inr (subst (λ (n : ℕ). stripe * n + n ≤ i) no_size (omega arith)))
  ]
    where
      outside : IsOutsideRows size rows i → get_or (parity_of other level) i 0 ≡ get_or (parity_of one level) i 0
      outside out =
          let byte : HasByte (resized (parity_of old level) bytes) i (get_or (resized (parity_of old level) bytes) i 0)
          = record { within = omega (arith, within, length-resized (parity_of old level) bytes); is = refl } in
          (has_then.others level i _ below out byte).is ∙ sym (has.others level i _ below out byte).is

      no : (row : Row) → None ≡ Some row → ⊥
      no row is = cc

      by : 0 < size → (o : Option Row) → rows (i / size) ≡ o → get_or (parity_of other level) i 0 ≡ get_or (parity_of one level) i 0
      by some None is =
          let place : i / size * size + i % size ≡ i = div-add-mod' i size in
          let small : i % size < size = mod-lt i some in
          outside (λ stripe row its. other_place size (i / size) stripe i (λ same. no row (sym is ∙ ap rows same ∙ its)) (omega (arith, place)) (omega (arith, place, small)))
      by some (Some row) is =
          let place : i / size * size + i % size ≡ i = div-add-mod' i size in
          let small : i % size < size = mod-lt i some in
          subst (λ (k : ℕ). get_or (parity_of other level) k 0 ≡ get_or (parity_of one level) k 0) place
          ((has_then.rows_held.level level (i / size) row below is (i % size) small).is ∙ sym (has.rows_held.level level (i / size) row below is (i % size) small).is)

  same_parity : (level : ℕ) → level < levels → parity_of other level ≡ parity_of one level
  same_parity level below = ext_get_or 0 (parity_of other level) (parity_of one level) (has_then.lengths level below ∙ sym (has.lengths level below))
      (λ i within. same_byte level below i (omega (arith, within, has_then.lengths level below)))

-- ---- the time of a check is not seen

unchecked_closed : (now : ℕ) (reading : StripeReading) (table : TableValue) → without_checks (with_closed now reading table) ≡ with_closed 0 reading (without_checks table)
unchecked_closed now reading table = ap (λ (infos : List Info). let t : TableValue = record (with_closed 0 reading (without_checks table)) { infos = infos } in t)
    (map-set without_check table.infos reading.stripe (synced_now now))

unchecked : (start : TableValue) (now : ℕ) (readings : List StripeReading) (table : TableValue) → without_checks (closed_by start now readings table) ≡ closed_by start 0 readings (without_checks table)
unchecked start now [] table = refl
unchecked start now (reading ∷ readings) table =
    unchecked start now readings (if is_verified start reading then with_closed now reading table else table)
    ∙ ap (closed_by start 0 readings) (by (is_verified start reading))
  where
    by : (b : Bool) → without_checks (if b then with_closed now reading table else table) ≡ (if b then with_closed 0 reading (without_checks table) else without_checks table)
    by true = unchecked_closed now reading table
    by false = refl

-- ---- two syncs

-- parity of the verified stripes of some readings
abbrev ParityBy : TableValue → List Tree → List StripeReading → Files → Files → Type 0
ParityBy start trees readings old new =
    HasParity start.shape.levels start.shape.block_size (level_bytes start) (rows_of start (readings_by start trees (verified_stripes start readings))) old new

-- what a sync prints
abbrev sync_lines : TableValue → List StripeReading → List ℕ
sync_lines start readings = lines_of start.columns (events_of start readings) ++ sync_text (verified_in start readings) (length readings - verified_in start readings)

pub none_rose : (folders olds news : List FolderView) → folders ≡ olds → NoneRose olds news → NoneRose folders news
none_rose folders olds news are none = subst (λ (fs : List FolderView). NoneRose fs news) (sym are) none

-- that began with the same, laid out the same and read the same
pub syncs_read_alike : (before before_then : Entry) (exit exit_then : Exit) (status status_then : ℕ) (one : EndsInPart before exit status) (other : EndsInPart before_then exit_then status_then) → HoldAlike before before_then
    → one.run.loaded ≡ other.run.loaded → one.run.plan.start ≡ other.run.plan.start → one.run.readings ≡ other.run.readings
    → SyncsAlike one.run other.run exit exit_then × PrintAlike before before_then exit exit_then status status_then
syncs_read_alike before before_then exit exit_then status status_then one other hold loaded start readings =
    let run = one.run in
    let again = other.run in
    let trees : run_trees run ≡ run_trees again = ap trees_of one.is_sync.folders_are ∙ hold.trees ∙ sym (ap trees_of other.is_sync.folders_are) in
    let lines : sync_lines run.plan.start run.readings ≡ sync_lines again.plan.start again.readings = ap₂ sync_lines start readings in (
      record {
        loaded = loaded;
        start = start;
        readings = readings;
        tables = unchecked run.plan.start run.plan.now run.readings run.plan.start
            ∙ ap₂ (λ (t : TableValue) (rs : List StripeReading). closed_by t 0 rs (without_checks t)) start readings
            ∙ sym (unchecked again.plan.start again.plan.now again.readings again.plan.start);
        at_once = λ now. ap (λ (n : ℕ). closed n run.plan.start run.readings) now ∙ ap₂ (closed again.plan.now) start readings;
        parity = λ files files_then stands stands_again.
            let has : ParityBy run.plan.start (run_trees run) run.readings before.opener.vault.files files = (stands_then _ exit files one.tells one.part stands).parity in
            let has_then : ParityBy again.plan.start (run_trees again) again.readings before_then.opener.vault.files files_then
            = (stands_then _ exit_then files_then other.tells other.part stands_again).parity in
            let here : ParityBy run.plan.start (run_trees run) run.readings before.opener.vault.files files_then =
            subst (λ (t : TableValue). ParityBy t (run_trees run) run.readings before.opener.vault.files files_then) (sym start)
            (subst (λ (ts : List Tree). ParityBy again.plan.start ts run.readings before.opener.vault.files files_then) (sym trees)
            (subst (λ (rs : List StripeReading). ParityBy again.plan.start (run_trees again) rs before.opener.vault.files files_then) (sym readings)
            (subst (λ (fs : Files). ParityBy again.plan.start (run_trees again) again.readings fs files_then) (sym hold.files) has_then))) in
            same_parity _ _ _ _ _ files_then files here has;
      },
      record {
        text = sync_lines run.plan.start run.readings;
        printed = record { failed = one.output_failed; status_is = one.status_is.failed; told = one.printed };
        printed_then = record {
          failed = other.output_failed;
          status_is = other.status_is.failed;
          told = subst (λ (text : List ℕ). Tells text (between false before_then.out) (between other.output_failed exit_then.after.out)) (sym lines) other.printed;
        };
        statuses = same_status status status_then one.output_failed other.output_failed (AllVerified run.plan.start run.readings) (AllVerified again.plan.start again.readings)
            (λ all. subst (λ (t : TableValue). AllVerified t again.readings) start (subst (AllVerified run.plan.start) readings all))
            (λ all. subst (λ (t : TableValue). AllVerified t run.readings) (sym start) (subst (AllVerified again.plan.start) (sym readings) all))
            one.status_is other.status_is;
      },
    )

pub syncs_of_one_array : OneTable → (before before_then : Entry) (exit exit_then : Exit) (status status_then : ℕ) (one : EndsInPart before exit status) (other : EndsInPart before_then exit_then status_then)
    → HoldAlike before before_then → AskSame before before_then → NothingRose before exit → NothingRose before_then exit_then
    → SyncsAlike one.run other.run exit exit_then × PrintAlike before before_then exit exit_then status status_then
syncs_of_one_array one_table before before_then exit exit_then status status_then one other hold ask well well_then =
    let is = one.is_sync in
    let is_then = other.is_sync in
    let run = one.run in
    let again = other.run in
    let set : run.setup ≡ again.setup = one_setup before before_then hold ask.asked ask.asked_then ask.words ask.words_then ask.log _ _ is.readers is_then.readers run.setup again.setup is.configured is_then.configured in
    let loaded : run.loaded ≡ again.loaded = same_loaded one_table before before_then hold run.setup again.setup run.loaded again.loaded set
    (is.loading.from (unfailed before exit is.loading well)) (is_then.loading.from (unfailed before_then exit_then is_then.loading well_then)) in
    let trees : run_trees run ≡ run_trees again = ap trees_of is.folders_are ∙ hold.trees ∙ sym (ap trees_of is_then.folders_are) in
    let start : run.plan.start ≡ again.plan.start = one.laid ∙ ap (λ (s : SetupValue). layout_by s run.loaded (run_trees run)) set
    ∙ ap (λ (t : TableValue). layout_by again.setup t (run_trees run)) loaded ∙ ap (layout_by again.setup again.loaded) trees ∙ sym other.laid in
    let readings : run.readings ≡ again.readings =
    one.given (none_rose run.folders before.opener.folders exit.after.folders is.folders_are well.folders)
    ∙ ap (λ (t : TableValue). readings_by t (run_trees run) (pending_stripes t.infos)) start
    ∙ ap (λ (ts : List Tree). readings_by again.plan.start ts (pending_stripes again.plan.start.infos)) trees
    ∙ sym (other.given (none_rose again.folders before_then.opener.folders exit_then.after.folders is_then.folders_are well_then.folders)) in
    syncs_read_alike before before_then exit exit_then status status_then one other hold loaded start readings

-- ---- two scrubs

-- what a command scrubs
way_of : ScrubWay → Command → ScrubWay
way_of none (commands.Scrub way) = way
way_of none _ = none

one_way : (a b : ScrubWay) → commands.Scrub a ≡ commands.Scrub b → a ≡ b
unfolding way_of
one_way a b same = ap (way_of a) same

-- where none of a sum is more than none, none of them is
none_of : {X : Type 0} (f : X → ℕ) (xs : List X) → sum_by f xs ≡ 0 → (k : ℕ) (d : X) → k < length xs → f (get_or xs k d) ≡ 0
none_of f [] none k d within = absurd (omega (arith, within))
none_of f (x ∷ xs) none zero d within = omega (arith, none, sum_by-cons f x xs)
none_of f (x ∷ xs) none (suc k) d within = none_of f xs (omega (arith, none, sum_by-cons f x xs)) k d (omega (arith, within))

-- parity stays
marked_stays : (after : TableValue) (readings : List ScrubReading) (old new : Files) → MayStandScrubbed after readings old new → new.parities ≡ old.parities
marked_stays after [] old new stays = ap (λ (files : Files). files.parities) stays
marked_stays after (reading ∷ readings) old new saved = saved.parities

-- what was read of the levels of stripes is what the files hold, where none failed
module _ (table : TableValue) (v v_then : VaultView) (tells : IsTrue v.tells) (tells_then : IsTrue v_then.tells) (files : v.files ≡ v_then.files) (ones others : List ScrubReading) (due : All (HasLevels table) ones)
    (due_then : All (HasLevels table) others) (are : All (AreLevelsOf v table.shape.block_size) ones) (are_then : All (AreLevelsOf v_then table.shape.block_size) others) (none : sum_by unread_levels ones ≡ 0)
    (none_then : sum_by unread_levels others ≡ 0) (cells : cells_of ones ≡ cells_of others) where
  abbrev cells_in : ScrubReading → StripeReading
  cells_in reading = reading.cells

  abbrev size : ℕ
  size = table.shape.block_size

  abbrev no_reading : ScrubReading
  no_reading = record { cells = record { stripe = 0; slots = [] }; levels = [] }

  as_many : length ones ≡ length others
  as_many = sym (length-map ones cells_in) ∙ ap length cells ∙ length-map others cells_in

  module _ (k : ℕ) (within : k < length ones) where
    abbrev one : ScrubReading
    one = get_or ones k no_reading

    abbrev other : ScrubReading
    other = get_or others k no_reading

    within_then : k < length others
    within_then = omega (arith, within, as_many)

    cells_same : one.cells ≡ other.cells
    cells_same = sym (get_or-map cells_in ones k no_reading no_reading.cells within) ∙ ap (λ (cs : List StripeReading). get_or cs k no_reading.cells) cells
        ∙ get_or-map cells_in others k no_reading no_reading.cells within_then

    many : length one.levels ≡ length other.levels
    many = due k no_reading within ∙ ap (λ (c : StripeReading). if is_verified table c then table.shape.levels else 0) cells_same ∙ sym (due_then k no_reading within_then)

    level_same : (r : ℕ) → r < length one.levels → get_or one.levels r None ≡ get_or other.levels r None
    level_same r below =
        level_is v size one.cells.stripe r (get_or one.levels r None) tells (none_failed one.levels (none_of unread_levels ones none k no_reading within) r below) (are k no_reading within r below)
        ∙ ap₂ (λ (fs : Files) (s : ℕ). Some (read_from (parity_of fs r) (s * size) size)) files (ap (λ (c : StripeReading). c.stripe) cells_same)
        ∙ sym (level_is v_then size other.cells.stripe r (get_or other.levels r None) tells_then
        (none_failed other.levels (none_of unread_levels others none_then k no_reading within_then) r (omega (arith, below, many)))
        (are_then k no_reading within_then r (omega (arith, below, many))))

    reading_same : one ≡ other
    reading_same = ap₂ (λ (c : StripeReading) (ls : List LevelReading). let it : ScrubReading = record { cells = c; levels = ls } in it) cells_same
        (ext_get_or None one.levels other.levels many level_same)

  pub same_readings : ones ≡ others
  same_readings = ext_get_or no_reading ones others as_many reading_same

-- what a scrub prints
abbrev scrub_lines : TableValue → List ScrubReading → List ℕ
scrub_lines table readings = lines_of table.columns (events_scrubbed_in table readings) ++ scrub_text (length readings) (at_most (length (events_scrubbed_in table readings)))

-- that began with the same at one moment, and read the same
pub scrubs_read_alike : (before before_then : Entry) (exit exit_then : Exit) (status status_then : ℕ) (one : EndsScrubbed before exit status) (other : EndsScrubbed before_then exit_then status_then) → HoldAlike before before_then
    → before.moment ≡ before_then.moment → one.run.loaded ≡ other.run.loaded → one.run.readings ≡ other.run.readings
    → ScrubsAlike one.run other.run exit exit_then × PrintAlike before before_then exit exit_then status status_then
scrubs_read_alike before before_then exit exit_then status status_then one other hold moments loaded readings =
    let run = one.run in
    let again = other.run in
    let now : run.now ≡ again.now = one.is_scrub.moment_is ∙ moments ∙ sym other.is_scrub.moment_is in
    let lines : scrub_lines run.loaded run.readings ≡ scrub_lines again.loaded again.readings = ap₂ scrub_lines loaded readings in
    let events : events_scrubbed_in run.loaded run.readings ≡ events_scrubbed_in again.loaded again.readings = ap₂ events_scrubbed_in loaded readings in (
      record {
        loaded = loaded;
        readings = readings;
        table = ap (λ (n : ℕ). scrubbed n run.loaded run.readings) now ∙ ap₂ (scrubbed again.now) loaded readings;
        parity = marked_stays _ run.readings before.opener.vault.files exit.after.vault.files one.moment
            ∙ ap (λ (files : Files). files.parities) hold.files
            ∙ sym (marked_stays _ again.readings before_then.opener.vault.files exit_then.after.vault.files other.moment);
      },
      record {
        text = scrub_lines run.loaded run.readings;
        printed = record { failed = one.output_failed; status_is = one.status_is.failed; told = one.printed };
        printed_then = record {
          failed = other.output_failed;
          status_is = other.status_is.failed;
          told = subst (λ (text : List ℕ). Tells text (between false before_then.out) (between other.output_failed exit_then.after.out)) (sym lines) other.printed;
        };
        statuses = same_status status status_then one.output_failed other.output_failed _ _ (λ clean. sym events ∙ clean) (λ clean. events ∙ clean) one.status_is other.status_is;
      },
    )

pub scrubs_of_one_array : OneTable → (before before_then : Entry) (exit exit_then : Exit) (status status_then : ℕ) (one : EndsScrubbed before exit status) (other : EndsScrubbed before_then exit_then status_then)
    → HoldAlike before before_then → AskSame before before_then → before.moment ≡ before_then.moment → NothingRose before exit → NothingRose before_then exit_then
    → ScrubsAlike one.run other.run exit exit_then × PrintAlike before before_then exit exit_then status status_then
scrubs_of_one_array one_table before before_then exit exit_then status status_then one other hold ask moments well well_then =
    let is = one.is_scrub in
    let is_then = other.is_scrub in
    let run = one.run in
    let again = other.run in
    let set : run.setup ≡ again.setup = one_setup before before_then hold ask.asked ask.asked_then ask.words ask.words_then ask.log _ _ is.readers is_then.readers run.setup again.setup is.configured is_then.configured in
    let loaded : run.loaded ≡ again.loaded = same_loaded one_table before before_then hold run.setup again.setup run.loaded again.loaded set
    (is.loading.from (unfailed before exit is.loading well)) (is_then.loading.from (unfailed before_then exit_then is_then.loading well_then)) in
    let way : run.way ≡ again.way = one_way run.way again.way (command_asked before hold.tells.tells ask.asked ask.words _ is.readers run.setup is.configured ∙ ask.command
    ∙ sym (command_asked before_then hold.tells_then.tells ask.asked_then ask.words_then _ is_then.readers again.setup is_then.configured)) in
    let now : run.now ≡ again.now = is.moment_is ∙ moments ∙ sym is_then.moment_is in
    let trees : trees_of run.folders ≡ trees_of again.folders = ap trees_of is.folders_are ∙ hold.trees ∙ sym (ap trees_of is_then.folders_are) in
    let cells : cells_of run.readings ≡ cells_of again.readings =
    one.given (subst AllTell (sym is.folders_are) hold.tells.tells_folders) (none_rose run.folders before.opener.folders exit.after.folders is.folders_are well.folders)
    ∙ ap (λ (t : TableValue). readings_by t (trees_of run.folders) (plan_of t run.way run.now)) loaded
    ∙ ap (λ (ts : List Tree). readings_by again.loaded ts (plan_of again.loaded run.way run.now)) trees
    ∙ ap₂ (λ (w : ScrubWay) (n : ℕ). readings_by again.loaded (trees_of again.folders) (plan_of again.loaded w n)) way now
    ∙ sym (other.given (subst AllTell (sym is_then.folders_are) hold.tells_then.tells_folders) (none_rose again.folders before_then.opener.folders exit_then.after.folders is_then.folders_are well_then.folders)) in
    let readings : run.readings ≡ again.readings = same_readings again.loaded before.opener.vault before_then.opener.vault hold.tells.tells_vault hold.tells_then.tells_vault hold.files run.readings again.readings
    (subst (λ (t : TableValue). All (HasLevels t) run.readings) loaded is.over.due) is_then.over.due
    (subst (λ (t : TableValue). All (AreLevelsOf before.opener.vault t.shape.block_size) run.readings) loaded is.over.levels) is_then.over.levels
    (none_risen (sum_by unread_levels run.readings) before.opener.vault.faults exit.after.vault.faults well.vault one.unread_levels_of)
    (none_risen (sum_by unread_levels again.readings) before_then.opener.vault.faults exit_then.after.vault.faults well_then.vault other.unread_levels_of) cells in
    scrubs_read_alike before before_then exit exit_then status status_then one other hold moments loaded readings
