-- Two syncs, two scrubs and two fixes of one array leave and print the same.
use Rattle.std.proofs.Common.{◌≡◌, ◌≢◌, ℕ, ◌<◌, ◌≤◌, ◌-◌, List, [], ◌∷◌, ◌++◌, length, map, Bool, true, false, IsTrue, Ok, refl, sym, ap, ◌∙◌, subst, arith, append-nil, codes}
use Rattle.std.specs.Fmt.{digits}
use Rattle.disk_model.specs.Cause.{Rose}
use Rattle.disk_model.specs.Folder.{FolderView}
use Rattle.disk_model.specs.Opener.{OpenerView}
use Rattle.disk_model.specs.Sink.{SinkView}
use Rattle.disk_model.specs.Tree.{Tree}
use Rattle.disk_model.specs.Vault.{VaultView, copies_of}
use Rattle.disk_memory.specs.Folder.{fresh_folder}
use Rattle.disk_memory.specs.Vault.{VaultValue, fresh_vault, view_of}
use Rattle.file_table.specs.Table.{TableValue}
use Rattle.snap_config.specs.declared.options.Command.{Command}
use Rattle.snap_config.specs.declared.options.Command.TheVariants as commands
use Rattle.snap_config.specs.declared.options.Options.{Options}
use Rattle.snap_report.specs.EndLines.{scrub_text}
use Rattle.snap_report.specs.EventLines.{lines_of}
use Rattle.snap_report.specs.Telling.{Tells, between}
use Rattle.snap_report.specs.Text.{sync_text}
use Rattle.snap_scrub.specs.Findings.{events_of as scrub_events}
use Rattle.snap_scrub.specs.Marks.{at_most}
use Rattle.snap_scrub.specs.Reading.{ScrubReading}
use Rattle.snap_sync.specs.Closing.{verified_in}
use Rattle.snap_sync.specs.Part.{tree_at, trees_of}
use Rattle.stripe_findings.specs.Findings.{events_of}
use Rattle.stripe_findings.specs.Reading.{StripeReading}
use Rattle.stripe_reader.specs.Columns.{folder_at}
use Rattle.snap_top.specs.Alike.{HoldAlike, SeenAlike, seen_by}
use Rattle.snap_top.specs.Unbroken.{NothingRose}
use Rattle.snap_top.specs.FixedAlike.{FixesAlike, KeepStampsAlike}
use Rattle.snap_top.specs.LastSynced.{LastSynced}
use Rattle.snap_top.specs.LeftAlike.{AskSame, PrintAlike, ScrubsAlike, SyncsAlike}
use Rattle.snap_top.specs.InPart.{EndsInPart}
use Rattle.snap_top.specs.Stands.{TellsAll}
use Rattle.snap_top.specs.Asked.{asked_by}
use Rattle.snap_top.specs.Restoring.{EndsFixed}
use Rattle.snap_top.specs.RunOf.{RunOf}
use Rattle.snap_top.specs.Entry.{Entry, Exit}
use Rattle.snap_top.specs.Scrubbed.{EndsScrubbed}
use Rattle.snap_top.specs.Standing.{IsOrigin, Runs, Standing, after_of, before_of, nothing_synced}
use Rattle.snap_top.specs.Did.{fixes, scrubs, syncs}
use Rattle.snap_top.proofs.CompleteLemmas.{same_ok}
use Rattle.snap_top_histories.specs.Lived.{IsLeftOf, standing_of}
use Rattle.snap_top_histories.specs.Repeated.{are_calm}
use Rattle.snap_top_histories.proofs.LivedLemmas.{goes_with, trees_kept}
use Rattle.snap_top_histories.proofs.RepeatedLemmas.{few_is, hold_alike, nothing_rose}
use Rattle.snap_top_histories.proofs.ResumedLemmas.{HoldsAlways, begins_nothing, not_risen, same_first}
use Rattle.snap_top_instances.specs.Asked.{AsksFor, everything, full_scrub, plain_sync}
use Rattle.snap_top_instances.specs.Told.{HoldsFile, RunsTold}
use Rattle.snap_top_instances.proofs.EndsLemmas.{ask_same, ends_fixed, ends_scrubbed, ends_synced, no_fix_of}
use Rattle.snap_top_pairs.specs.Twice.{AreOfOneArray, AskForOthers, IsFixedTwice, IsScrubbedTwice, IsSyncedTwice}

-- ---- what was asked for

-- by other numbers of readers
readers_of : (one other : Entry) (asked asked_then : Options) → asked_by one.texts ≡ Ok asked → asked_by other.texts ≡ Ok asked_then → AskForOthers one.texts other.texts → asked.readers ≢ asked_then.readers
readers_of one other asked asked_then words words_then others same =
    others.readers (
    ap (λ (options : Options). options.readers) (same_ok (asked_by one.texts) others.asked asked others.words words) ∙ same
    ∙ ap (λ (options : Options). options.readers) (same_ok (asked_by other.texts) asked_then others.asked_then words_then others.words_then))

-- ---- something was read

-- what a sync, and a scrub, prints that read none
pub none_synced : sync_text 0 0 ≡ codes "sync: 0 stripes synced, 0 pending\n"
unfolding digits
none_synced = refl

pub none_checked : scrub_text 0 0 ≡ codes "scrub: 0 stripes checked, 0 findings\n"
unfolding digits
none_checked = refl

-- the output did not fail
unfailed : (before : Entry) (exit : Exit) (failed : Bool) → exit.after.out.faults ≡ 0 → (IsTrue failed → Rose before.out.faults exit.after.out.faults) → failed ≡ false
unfailed before exit false calm rose = refl
unfailed before exit true calm rose = absurd (not_risen before.out.faults exit.after.out.faults calm (rose refl))

-- what a sync, and a scrub, prints that read these stripes
abbrev text_synced : TableValue → List StripeReading → List ℕ
text_synced start readings = lines_of start.columns (events_of start readings) ++ sync_text (verified_in start readings) (length readings - verified_in start readings)

abbrev text_checked : TableValue → List ScrubReading → List ℕ
text_checked table readings = lines_of table.columns (scrub_events table readings) ++ scrub_text (length readings) (at_most (length (scrub_events table readings)))

some_of_synced : (start : TableValue) (readings : List StripeReading) (written : List ℕ) → written ≡ text_synced start readings → written ≢ sync_text 0 0 → 0 < length readings
some_of_synced start [] written is other = absurd (other is)
some_of_synced start (reading ∷ readings) written is other = omega arith

some_of_checked : (table : TableValue) (readings : List ScrubReading) (written : List ℕ) → written ≡ text_checked table readings → written ≢ scrub_text 0 0 → 0 < length readings
some_of_checked table [] written is other = absurd (other is)
some_of_checked table (reading ∷ readings) written is other = omega arith

-- all of a text was written
written_whole : (text : List ℕ) (out out_new : SinkView) (failed : Bool) → IsTrue out.tells → out.written ≡ [] → failed ≡ false → Tells text (between false out) (between failed out_new) → out_new.written ≡ text
written_whole text out out_new failed tells none well told =
    sym (append-nil out_new.written) ∙ told.whole well tells ∙ ap (λ (front : List ℕ). front ++ text) none

module _ (before : Entry) (exit : Exit) (tells : IsTrue before.out.tells) (none : before.out.written ≡ []) (calm : exit.after.out.faults ≡ 0) where
  some_synced : (status : ℕ) (ends : EndsInPart before exit status) → exit.after.out.written ≢ sync_text 0 0 → 0 < length ends.run.readings
  some_synced status ends other =
      some_of_synced ends.run.plan.start ends.run.readings exit.after.out.written
      (written_whole (text_synced ends.run.plan.start ends.run.readings) before.out exit.after.out ends.output_failed tells none (unfailed before exit ends.output_failed calm ends.output) ends.printed) other

  some_checked : (status : ℕ) (ends : EndsScrubbed before exit status) → exit.after.out.written ≢ scrub_text 0 0 → 0 < length ends.run.readings
  some_checked status ends other =
      some_of_checked ends.run.loaded ends.run.readings exit.after.out.written
      (written_whole (text_checked ends.run.loaded ends.run.readings) before.out exit.after.out ends.output_failed tells none (unfailed before exit ends.output_failed calm ends.output) ends.printed) other

module _ {O F V W : Type 0} (opener_view : O → OpenerView) (folder_view : F → FolderView) (vault_view : V → VaultView) (sink_view : W → SinkView) where
  abbrev begun : RunOf O F V W → Entry
  begun run = before_of opener_view folder_view vault_view sink_view run

  abbrev ended : RunOf O F V W → Exit
  ended run = after_of opener_view folder_view vault_view sink_view run

  abbrev IsTold : List ℕ → List (List ℕ) → List ℕ → List FolderView → VaultView → ℕ → List F → V → List ℕ → Type 0
  IsTold config texts seed folders vault status left_folders left printed =
      RunsTold opener_view folder_view vault_view sink_view config texts seed folders vault status left_folders left printed

  -- what the laws say of two of them
  abbrev pub SyncsLeaveAlike : Type 0
  SyncsLeaveAlike = (run again : RunOf O F V W) (one : EndsInPart (begun run) (ended run) run.status) (other : EndsInPart (begun again) (ended again) again.status) → HoldAlike (begun run) (begun again)
      → AskSame (begun run) (begun again) → NothingRose (begun run) (ended run) → NothingRose (begun again) (ended again)
      → SyncsAlike one.run other.run (ended run) (ended again) × PrintAlike (begun run) (begun again) (ended run) (ended again) run.status again.status

  abbrev pub ScrubsLeaveAlike : Type 0
  ScrubsLeaveAlike = (run again : RunOf O F V W) (one : EndsScrubbed (begun run) (ended run) run.status) (other : EndsScrubbed (begun again) (ended again) again.status) → HoldAlike (begun run) (begun again)
      → AskSame (begun run) (begun again) → run.moment ≡ again.moment → NothingRose (begun run) (ended run) → NothingRose (begun again) (ended again)
      → ScrubsAlike one.run other.run (ended run) (ended again) × PrintAlike (begun run) (begun again) (ended run) (ended again) run.status again.status

  abbrev pub FixesLeaveAlike : Type 0
  FixesLeaveAlike = (run again : RunOf O F V W) (one : EndsFixed (begun run) (ended run) run.status) (other : EndsFixed (begun again) (ended again) again.status) → HoldAlike (begun run) (begun again)
      → AskSame (begun run) (begun again) → KeepStampsAlike (begun run) (begun again) → NothingRose (begun run) (ended run) → NothingRose (begun again) (ended again)
      → FixesAlike one.run other.run one.finishes other.finishes (ended run) (ended again) × PrintAlike (begun run) (begun again) (ended run) (ended again) run.status again.status

  -- and of two that read the same
  abbrev pub SyncsReadAlike : Type 0
  SyncsReadAlike = (run again : RunOf O F V W) (one : EndsInPart (begun run) (ended run) run.status) (other : EndsInPart (begun again) (ended again) again.status) → HoldAlike (begun run) (begun again)
      → one.run.loaded ≡ other.run.loaded → one.run.plan.start ≡ other.run.plan.start → one.run.readings ≡ other.run.readings
      → SyncsAlike one.run other.run (ended run) (ended again) × PrintAlike (begun run) (begun again) (ended run) (ended again) run.status again.status

  abbrev pub ScrubsReadAlike : Type 0
  ScrubsReadAlike = (run again : RunOf O F V W) (one : EndsScrubbed (begun run) (ended run) run.status) (other : EndsScrubbed (begun again) (ended again) again.status) → HoldAlike (begun run) (begun again)
      → run.moment ≡ again.moment → one.run.loaded ≡ other.run.loaded → one.run.readings ≡ other.run.readings
      → ScrubsAlike one.run other.run (ended run) (ended again) × PrintAlike (begun run) (begun again) (ended run) (ended again) run.status again.status

  abbrev pub FixesSeenAlike : Type 0
  FixesSeenAlike = (run again : RunOf O F V W) (one : EndsFixed (begun run) (ended run) run.status) (other : EndsFixed (begun again) (ended again) again.status) → HoldAlike (begun run) (begun again)
      → KeepStampsAlike (begun run) (begun again) → SeenAlike (seen_by one.run) (seen_by other.run)
      → FixesAlike one.run other.run one.finishes other.finishes (ended run) (ended again) × PrintAlike (begun run) (begun again) (ended run) (ended again) run.status again.status

  -- two runs over what is the same, for the same
  module _ (config : List ℕ) (texts others : List (List ℕ)) (seed : List ℕ) (folders folders_then : List FolderView) (vault vault_then : VaultView) (last : LastSynced) (status status_then : ℕ)
      (left_folders then_folders : List F) (left left_then : V) (printed printed_then : List ℕ)
      (runs : IsTold config texts seed folders vault status left_folders left printed) (again : IsTold config others seed folders_then vault_then status_then then_folders left_then printed_then)
      (faults : (vault_view left).faults ≡ 0) (calm : are_calm folder_view left_folders ≡ true) (faults_then : (vault_view left_then).faults ≡ 0) (calm_then : are_calm folder_view then_folders ≡ true)
      (few : status ≤ 1) (few_then : status_then ≤ 1) (same : standing_of config folders_then vault_then last ≡ standing_of config folders vault last) where
    abbrev run : RunOf O F V W
    run = runs.over.run

    abbrev run_then : RunOf O F V W
    run_then = again.over.run

    of_one : (command : Command) → AsksFor command texts → AsksFor command others → AskForOthers texts others → AreOfOneArray opener_view folder_view vault_view sink_view run run_then
    of_one command asks asks_then differ =
        let same_asked : AskSame (begun run) (begun run_then)
        = ask_same command (begun run) (begun run_then) (subst (AsksFor command) (sym runs.over.texts_are) asks) (subst (AsksFor command) (sym again.over.texts_are) asks_then) in
        record {
          hold = hold_alike opener_view folder_view vault_view sink_view (standing_of config folders vault last) (standing_of config folders_then vault_then last) (begun run) (begun run_then)
              (runs.over.begins last) (again.over.begins last) same (runs.over.seed_is ∙ sym again.over.seed_is);
          ask = same_asked;
          readers = readers_of (begun run) (begun run_then) same_asked.asked same_asked.asked_then same_asked.words same_asked.words_then
              (subst (λ (ts : List (List ℕ)). AskForOthers ts run_then.texts) (sym runs.over.texts_are)
              (subst (λ (ts : List (List ℕ)). AskForOthers texts ts) (sym again.over.texts_are) differ));
          well = nothing_rose opener_view folder_view vault_view sink_view config texts seed folders vault status left_folders left runs.over faults calm;
          well_then = nothing_rose opener_view folder_view vault_view sink_view config others seed folders_then vault_then status_then then_folders left_then again.over faults_then calm_then;
        }

    few_ran : run.status ≤ 1
    few_ran = few_is run.status status 1 runs.over.status_is few

    few_ran_then : run_then.status ≤ 1
    few_ran_then = few_is run_then.status status_then 1 again.over.status_is few_then

    words_of : (command : Command) (asks : AsksFor command texts) → asked_by run.texts ≡ Ok asks.asked
    words_of command asks = subst (λ (ts : List (List ℕ)). asked_by ts ≡ Ok asks.asked) (sym runs.over.texts_are) asks.words

    words_then : (command : Command) (asks : AsksFor command others) → asked_by run_then.texts ≡ Ok asks.asked
    words_then command asks = subst (λ (ts : List (List ℕ)). asked_by ts ≡ Ok asks.asked) (sym again.over.texts_are) asks.words

    tells_here : TellsAll (begun run)
    tells_here = (runs.over.begins last).tells

    tells_there : TellsAll (begun run_then)
    tells_there = (again.over.begins last).tells

    says_other : (text : List ℕ) → printed ≢ text → (ended run).after.out.written ≢ text
    says_other text other is = other (sym runs.printed_is ∙ is)

    pub synced_alike : SyncsLeaveAlike → SyncsReadAlike → AsksFor (commands.Sync plain_sync) texts → AsksFor (commands.Sync plain_sync) others → AskForOthers texts others → printed ≢ sync_text 0 0
        → IsSyncedTwice opener_view folder_view vault_view sink_view status_then
    synced_alike law reads_alike asks asks_then differ other =
        let both = of_one (commands.Sync plain_sync) asks asks_then differ in
        let one : EndsInPart (begun run) (ended run) run.status
        = ends_synced (begun run) (ended run) run.status tells_here asks.asked (words_of (commands.Sync plain_sync) asks) runs.over.step few_ran plain_sync asks.command_is in
        let one_then : EndsInPart (begun run_then) (ended run_then) run_then.status
        = ends_synced (begun run_then) (ended run_then) run_then.status tells_there asks_then.asked (words_then (commands.Sync plain_sync) asks_then) again.over.step few_ran_then plain_sync asks_then.command_is in
        let left_alike = law run run_then one one_then both.hold both.ask both.well both.well_then in
        let alike = reads_alike run run_then one one_then both.hold left_alike.0.loaded left_alike.0.start left_alike.0.readings in
        record {
          run = run;
          again = run_then;
          one = one;
          other = one_then;
          of_one = both;
          some = some_synced (begun run) (ended run) runs.out_tells runs.out_begins runs.out_faults run.status one (says_other (sync_text 0 0) other);
          alike = alike.0;
          printed = alike.1;
          status_is = again.over.status_is;
        }

    pub scrubbed_alike : ScrubsLeaveAlike → ScrubsReadAlike → AsksFor (commands.Scrub full_scrub) texts → AsksFor (commands.Scrub full_scrub) others → AskForOthers texts others → printed ≢ scrub_text 0 0
        → IsScrubbedTwice opener_view folder_view vault_view sink_view status_then
    scrubbed_alike law reads_alike asks asks_then differ other =
        let both = of_one (commands.Scrub full_scrub) asks asks_then differ in
        let one : EndsScrubbed (begun run) (ended run) run.status
        = ends_scrubbed (begun run) (ended run) run.status tells_here asks.asked (words_of (commands.Scrub full_scrub) asks) runs.over.step few_ran full_scrub asks.command_is in
        let one_then : EndsScrubbed (begun run_then) (ended run_then) run_then.status
        = ends_scrubbed (begun run_then) (ended run_then) run_then.status tells_there asks_then.asked (words_then (commands.Scrub full_scrub) asks_then) again.over.step few_ran_then full_scrub asks_then.command_is in
        let at_once : run.moment ≡ run_then.moment = runs.moment_is ∙ sym again.moment_is in
        let left_alike = law run run_then one one_then both.hold both.ask at_once both.well both.well_then in
        let alike = reads_alike run run_then one one_then both.hold at_once left_alike.0.loaded left_alike.0.readings in
        record {
          run = run;
          again = run_then;
          one = one;
          other = one_then;
          of_one = both;
          at_once = at_once;
          some = some_checked (begun run) (ended run) runs.out_tells runs.out_begins runs.out_faults run.status one (says_other (scrub_text 0 0) other);
          alike = alike.0;
          printed = alike.1;
          status_is = again.over.status_is;
        }

    pub fixed_alike : FixesLeaveAlike → FixesSeenAlike → AsksFor (commands.Fix everything) texts → AsksFor (commands.Fix everything) others → AskForOthers texts others → folders ≡ fresh_folder true ∷ [] → folders_then ≡ folders
        → HoldsFile (map folder_view left_folders) → IsFixedTwice opener_view folder_view vault_view sink_view status_then
    fixed_alike law seen_alike asks asks_then differ are_new are_same holds =
        let both = of_one (commands.Fix everything) asks asks_then differ in
        let one : EndsFixed (begun run) (ended run) run.status
        = ends_fixed (begun run) (ended run) run.status tells_here asks.asked (words_of (commands.Fix everything) asks) runs.over.step few_ran everything asks.command_is in
        let one_then : EndsFixed (begun run_then) (ended run_then) run_then.status
        = ends_fixed (begun run_then) (ended run_then) run_then.status tells_there asks_then.asked (words_then (commands.Fix everything) asks_then) again.over.step few_ran_then everything asks_then.command_is in
        let stamps : KeepStampsAlike (begun run) (begun run_then) = λ d. ap (λ (fs : List FolderView). (folder_at fs d).keeps) (runs.held ∙ sym are_same ∙ sym again.held) in
        let left_alike = law run run_then one one_then both.hold both.ask stamps both.well both.well_then in
        let alike = seen_alike run run_then one one_then both.hold stamps left_alike.0.seen in
        record {
          run = run;
          again = run_then;
          one = one;
          other = one_then;
          of_one = both;
          stamps = stamps;
          lost = ap (λ (fs : List FolderView). tree_at (trees_of fs) 0) (runs.held ∙ are_new);
          there = λ none. holds (ap (λ (fs : List F). tree_at (trees_of (map folder_view fs)) 0) (sym runs.over.folders_are) ∙ none);
          wrote = λ kept. holds (ap (λ (fs : List F). tree_at (trees_of (map folder_view fs)) 0) (sym runs.over.folders_are) ∙ kept ∙ ap (λ (fs : List FolderView). tree_at (trees_of fs) 0) (runs.held ∙ are_new));
          alike = alike.0;
          printed = alike.1;
          status_is = again.over.status_is;
        }

  pub synced_twice : (config : List ℕ) (texts others : List (List ℕ)) (seed : List ℕ) (levels copies : ℕ) (value other : VaultValue) (folders : List FolderView) (status status_then : ℕ) (left_folders then_folders : List F)
      (left left_then : V) (printed printed_then : List ℕ) → HoldsAlways opener_view folder_view vault_view sink_view → SyncsLeaveAlike → SyncsReadAlike → value ≡ fresh_vault levels copies → other ≡ fresh_vault levels copies
      → AsksFor (commands.Sync plain_sync) texts → AsksFor (commands.Sync plain_sync) others → AskForOthers texts others
      → IsTold config texts seed folders (view_of value) status left_folders left printed → (vault_view left).faults ≡ 0 → are_calm folder_view left_folders ≡ true → status ≤ 1 → printed ≢ sync_text 0 0
      → IsTold config others seed (map folder_view left_folders) (view_of other) status_then then_folders left_then printed_then → (vault_view left_then).faults ≡ 0 → are_calm folder_view then_folders ≡ true
      → status_then ≤ 1 → IsSyncedTwice opener_view folder_view vault_view sink_view status_then
  synced_twice config texts others seed levels copies value other folders status status_then left_folders then_folders left left_then printed printed_then
      holds law reads_alike fresh fresh_too asks asks_then differ runs faults calm few says again faults_then calm_then few_then =
      let first : Standing = standing_of config folders (view_of value) nothing_synced in
      let headline = holds first first [] (begins_nothing opener_view folder_view vault_view sink_view config folders levels copies value fresh) refl in
      let same = trees_kept opener_view folder_view vault_view sink_view config texts seed folders (view_of value) nothing_synced status left_folders left headline runs.over (no_fix_of (commands.Sync plain_sync) texts tt asks) in
      synced_alike config texts others seed folders (map folder_view left_folders) (view_of value) (view_of other) nothing_synced status status_then left_folders then_folders left left_then printed printed_then
      runs again faults calm faults_then calm_then few few_then
      (same_first opener_view folder_view vault_view sink_view config folders (map folder_view left_folders) levels copies value other fresh fresh_too same) law reads_alike asks asks_then differ says

  pub scrubbed_twice : (config : List ℕ) (begin texts others : List (List ℕ)) (seed : List ℕ) (levels copies : ℕ) (value one other : VaultValue) (folders : List FolderView) (before status status_then : ℕ)
      (synced_folders left_folders then_folders : List F) (synced left left_then : V) (first_printed printed printed_then : List ℕ) → HoldsAlways opener_view folder_view vault_view sink_view → ScrubsLeaveAlike → ScrubsReadAlike
      → value ≡ fresh_vault levels copies → AsksFor (commands.Sync plain_sync) begin → AsksFor (commands.Scrub full_scrub) texts → AsksFor (commands.Scrub full_scrub) others → AskForOthers texts others
      → IsTold config begin seed folders (view_of value) before synced_folders synced first_printed → IsLeftOf (vault_view synced) (view_of one) → copies_of (view_of one) ≡ copies_of (view_of value) → other ≡ one
      → IsTold config texts seed (map folder_view synced_folders) (view_of one) status left_folders left printed → (vault_view left).faults ≡ 0 → are_calm folder_view left_folders ≡ true → status ≤ 1
      → printed ≢ scrub_text 0 0
      → IsTold config others seed (map folder_view left_folders) (view_of other) status_then then_folders left_then printed_then → (vault_view left_then).faults ≡ 0 → are_calm folder_view then_folders ≡ true
      → status_then ≤ 1 → IsScrubbedTwice opener_view folder_view vault_view sink_view status_then
  scrubbed_twice config begin texts others seed levels copies value one other folders before status status_then synced_folders left_folders then_folders synced left left_then first_printed printed printed_then
      holds law reads_alike fresh begins asks asks_then differ syncing left_of as_many same_value runs faults calm few says again faults_then calm_then few_then =
      let first : Standing = standing_of config folders (view_of value) nothing_synced in
      let is_first : IsOrigin first = begins_nothing opener_view folder_view vault_view sink_view config folders levels copies value fresh in
      let going = goes_with opener_view folder_view vault_view sink_view config begin seed folders (view_of value) (view_of one) nothing_synced before synced_folders synced (holds first first [] is_first refl) syncing.over
      (no_fix_of (commands.Sync plain_sync) begin tt begins) left_of as_many in
      let last : LastSynced = going.0 in
      let standing : Standing = standing_of config (map folder_view synced_folders) (view_of one) last in
      let headline = holds first standing (record { change = Runs syncing.over.run; next = standing } ∷ []) is_first (going.1, refl) in
      let same : trees_of (map folder_view left_folders) ≡ trees_of (map folder_view synced_folders)
      = trees_kept opener_view folder_view vault_view sink_view config texts seed (map folder_view synced_folders) (view_of one) last status left_folders left headline runs.over
      (no_fix_of (commands.Scrub full_scrub) texts tt asks) in
      let as_it_was : standing_of config (map folder_view left_folders) (view_of other) last ≡ standing
      = ap (λ (v : VaultValue). standing_of config (map folder_view left_folders) (view_of v) last) same_value
      ∙ ap (λ (trees : List Tree). record standing { trees = trees }) same in
      scrubbed_alike config texts others seed (map folder_view synced_folders) (map folder_view left_folders) (view_of one) (view_of other) last status status_then left_folders then_folders left left_then
      printed printed_then runs again faults calm faults_then calm_then few few_then as_it_was law reads_alike asks asks_then differ says

  pub fixed_twice : (config : List ℕ) (texts others : List (List ℕ)) (seed : List ℕ) (folders folders_then : List FolderView) (one other : VaultValue) (status status_then : ℕ) (left_folders then_folders : List F)
      (left left_then : V) (printed printed_then : List ℕ) → FixesLeaveAlike → FixesSeenAlike → AsksFor (commands.Fix everything) texts → AsksFor (commands.Fix everything) others → AskForOthers texts others → other ≡ one
      → folders ≡ fresh_folder true ∷ [] → folders_then ≡ fresh_folder true ∷ []
      → IsTold config texts seed folders (view_of one) status left_folders left printed → (vault_view left).faults ≡ 0 → are_calm folder_view left_folders ≡ true → status ≤ 1
      → HoldsFile (map folder_view left_folders)
      → IsTold config others seed folders_then (view_of other) status_then then_folders left_then printed_then → (vault_view left_then).faults ≡ 0 → are_calm folder_view then_folders ≡ true
      → status_then ≤ 1 → IsFixedTwice opener_view folder_view vault_view sink_view status_then
  fixed_twice config texts others seed folders folders_then one other status status_then left_folders then_folders left left_then printed printed_then
      law seen_alike asks asks_then differ same_value are_new are_new_then runs faults calm few holds again faults_then calm_then few_then =
      let same : standing_of config folders_then (view_of other) nothing_synced ≡ standing_of config folders (view_of one) nothing_synced
      = ap (λ (v : VaultValue). standing_of config folders_then (view_of v) nothing_synced) same_value
      ∙ ap (λ (fs : List FolderView). standing_of config fs (view_of one) nothing_synced) (are_new_then ∙ sym are_new) in
      fixed_alike config texts others seed folders folders_then (view_of one) (view_of other) nothing_synced status status_then left_folders then_folders left left_then printed printed_then
      runs again faults calm faults_then calm_then few few_then same law seen_alike asks asks_then differ are_new (are_new_then ∙ sym are_new) holds
