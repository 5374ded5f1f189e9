-- Syncs that are stopped, over a history.
use Rattle.std.proofs.Common.{◌≡◌, inl, ⊎_elim, ℕ, List, [], ◌∷◌, length, take, true, Ok, refl, sym, ap, ◌∙◌, subst, arith}
use Rattle.content_file.specs.Save.{HasSaved}
use Rattle.content_file.specs.Spelling.{spelling}
use Rattle.disk_model.specs.Files.{Files}
use Rattle.disk_model.specs.Folder.{FolderView}
use Rattle.disk_model.specs.Opener.{OpenerView}
use Rattle.disk_model.specs.Sink.{SinkView}
use Rattle.disk_model.specs.Tree.{Tree}
use Rattle.disk_model.specs.Vault.{VaultView}
use Rattle.file_table.specs.Table.{TableValue}
use Rattle.snap_config.specs.Config.{read_setup}
use Rattle.array_setup.specs.Setup.{SetupValue}
use Rattle.snap_config.specs.declared.options.Command.TheVariants as commands
use Rattle.snap_config.specs.declared.options.Options.{Options}
use Rattle.snap_sync.specs.Part.{IsFullSync, IsToldRun, SyncRun, layout_by, run_trees}
use Rattle.snap_top.specs.Effect.{effect}
use Rattle.snap_top.specs.Headline.{AreStoppedSyncs, EndsInFull, IsAskedToSync, IsResumed, IsSoundStanding, IsSyncOver, Syncs, SyncsClean}
use Rattle.snap_top.specs.LastSynced.{AreSoundBy}
use Rattle.snap_top.specs.Loading.{ReadsWell}
use Rattle.snap_top.specs.InPart.{EndsInPart}
use Rattle.snap_top.specs.Began.{IsSyncOf}
use Rattle.snap_top.specs.Asked.{asked_by}
use Rattle.snap_top.specs.Resumed.{AreStoppedRuns, AsksForSync, EndsClean, AreStopped, IsOfArray, Stop, SyncsFrom}
use Rattle.snap_top.specs.RunOf.{RunOf, StoppedRun}
use Rattle.snap_top.specs.Entry.{Entry, Exit}
use Rattle.snap_top.specs.Standing.{Change, Configures, Damages, Edits, GoesOver, IsHistory, Runs, Stage, Standing, after_of, before_of}
use Rattle.snap_top.specs.Step.{ChangesFiles}
use Rattle.snap_top.specs.Sync.{BeginsFrom, end_table}
use Rattle.snap_top.specs.Did.{Did, fixes, reads_only, scrubs, syncs}
use Rattle.snap_top.proofs.CompleteLemmas.{same_ok}
use Rattle.snap_top.proofs.EndedLemmas.{only_read}
use Rattle.snap_top.proofs.MomentLemmas.{LayoutIsOfTrees}
use Rattle.snap_top.proofs.ResumeLemmas.{FullKeepsShape, begins_same, by_shape}
use Rattle.snap_top.proofs.ResumedRuns.{SyncsAreResumed, from_files, full_of, of_array, runs_resumed, same_copies, saved_by, stops_are}
use Rattle.snap_top.proofs.SyncedLemmas.{OneTable}

-- a sync that went to its end, and no reading of a copy failed while its table was loaded
record EndsWell (before : Entry) (exit : Exit) (status : ℕ) : Type 0 where
  ends : EndsInPart before exit status
  reads_well : ReadsWell before ends.is_sync.loading.at

-- it is one where none failed of the sync that it is
ends_well : (before : Entry) (exit : Exit) (status : ℕ) (sync : SyncRun) (is : IsSyncOf before exit sync) → ReadsWell before is.loading.at → (ends : EndsInPart before exit status) → ends.run ≡ sync → EndsWell before exit status
ends_well before exit status sync is well ends same =
    let its = subst (λ (run : SyncRun). (there : IsSyncOf before exit run) × ReadsWell before there.loading.at) (sym same) (is, well) in
    record { ends = record ends { is_sync = its.0 }; reads_well = its.1 }

module _ {O F V W : Type 0} (opener_view : O → OpenerView) (folder_view : F → FolderView) (vault_view : V → VaultView) (sink_view : W → SinkView) where
  abbrev begun : RunOf O F V W → Entry
  begun run = before_of opener_view folder_view vault_view sink_view run

  abbrev after : RunOf O F V W → Exit
  after run = after_of opener_view folder_view vault_view sink_view run

  abbrev Goes : RunOf O F V W → Standing → Standing → Type 0
  Goes run standing next = GoesOver opener_view folder_view vault_view sink_view run standing next

  module _ (setup : SetupValue) (trees : List Tree) (seed : List ℕ) where
    abbrev Asked : Standing → RunOf O F V W → Type 0
    Asked standing run = IsAskedToSync opener_view folder_view vault_view sink_view setup trees seed standing run

    asks : (run : RunOf O F V W) (standing next : Standing) → Goes run standing next → Asked standing run → AsksForSync setup trees seed standing.files (begun run)
    asks run standing next goes asked =
        let over = goes.over in
        record {
          asked = asked.asked;
          way = asked.way;
          words = asked.words;
          command_is = asked.command_is;
          says = subst (λ (config : List ℕ). read_setup (take 1048577 config) asked.asked.log ≡ Ok setup) (sym over.config) asked.says;
          tells = over.tells;
          settled = over.settled;
          trees_are = over.trees ∙ asked.trees_are;
          files_are = over.files;
          seed_is = asked.seed_is;
        }

    abbrev StopsTo : Files → Files → Type 0
    StopsTo files left = (stops : List (StoppedRun O F V W)) × AreStoppedRuns opener_view folder_view vault_view sink_view setup trees seed stops files left

    sync_first : (change : Change O F V W) (standing next : Standing) (left : Files)
        → Syncs opener_view folder_view vault_view sink_view setup trees seed standing change next → StopsTo next.files left → StopsTo standing.files left
    sync_first (Runs run) standing next left sync rest = (
      record { run = run; left = next.files } ∷ rest.0,
      (inl (record { asks = asks run standing next sync.goes sync.asked; always = sync.goes.step.always; reads_well = sync.reads_well; stands = sync.goes.files }), rest.1),
    )
    sync_first Edits standing next left none rest = absurd none
    sync_first Damages standing next left none rest = absurd none
    sync_first Configures standing next left none rest = absurd none

    stops_to : (stages : List (Stage O F V W)) (standing later : Standing) → IsHistory opener_view folder_view vault_view sink_view standing stages later
        → AreStoppedSyncs opener_view folder_view vault_view sink_view setup trees seed standing stages → StopsTo standing.files later.files
    stops_to [] standing later history are = ([], ap (λ (s : Standing). s.files) history)
    stops_to (stage ∷ stages) standing later history are =
        let rest : StopsTo stage.next.files later.files = stops_to stages stage.next later history.1 are.1 in
        ⊎_elim
        (λ synced. sync_first stage.change standing stage.next later.files synced rest)
        (λ still. subst (λ (fs : Files). StopsTo fs later.files) still rest)
        are.0

    -- with status 0 it ended as the part sync of its layout
    part_by : (before : Entry) (exit : Exit) (status : ℕ) → AsksForSync setup trees seed before.opener.vault.files before → (did : Did) (is : (effect did).is_of before exit) → (effect did).loads_well before exit is → (effect did).has_ended ≡ true
        → (effect did).ends before exit status → EndsWell before exit status
    part_by before exit status asks reads_only is well ended ends = absurd (only_read reads_only refl ended)
    part_by before exit status asks (syncs failed sync) is well ended ends =
        let its = ends asks.tells.tells_folders in ends_well before exit status sync is well its.0 its.1
    part_by before exit status asks (fixes failed fix) is well ended ends =
        let same : is.configured.asked ≡ asks.asked = same_ok (asked_by before.texts) is.configured.asked asks.asked is.configured.read asks.words in
        let clash : commands.Fix fix.selection ≡ commands.Sync asks.way = is.configured.command_is ∙ ap (λ (a : Options). a.command) same ∙ asks.command_is in
        absurd cc
    part_by before exit status asks (scrubs failed scrub) is well ended ends =
        let same : is.configured.asked ≡ asks.asked = same_ok (asked_by before.texts) is.configured.asked asks.asked is.configured.read asks.words in
        let clash : commands.Scrub scrub.way ≡ commands.Sync asks.way = is.configured.command_is ∙ ap (λ (a : Options). a.command) same ∙ asks.command_is in
        absurd cc

    ends_in_its_part : (run : RunOf O F V W) (standing next : Standing) → IsSyncOver opener_view folder_view vault_view sink_view setup trees seed standing run next → run.status ≡ 0
        → EndsWell (begun run) (after run) run.status
    ends_in_its_part run standing next sync zero =
        let asked = sync.asked in
        let step = sync.goes.step in
        let ended : (effect step.always.did).has_ended ≡ true = step.done asked.asked asked.words (subst ChangesFiles (sym asked.command_is) tt) (inl (omega (arith, zero))) in
        part_by (begun run) (after run) run.status
        (subst (λ (fs : Files). AsksForSync setup trees seed fs (begun run)) (sym sync.goes.over.files) (asks run standing next sync.goes asked))
        step.always.did step.always.is_did sync.reads_well ended (step.at_end ended)

    abbrev Clean : Standing → RunOf O F V W → Standing → Type 0
    Clean standing run next = SyncsClean opener_view folder_view vault_view sink_view setup trees seed standing run next

    clean_of : (run : RunOf O F V W) (standing next : Standing) → Clean standing run next → EndsClean opener_view folder_view vault_view sink_view setup trees seed standing.files run next.files
    clean_of run standing next clean =
        let well = ends_in_its_part run standing next clean.sync clean.clean in
        record {
          asks = asks run standing next clean.sync.goes clean.sync.asked;
          ends = well.ends;
          reads_well = well.reads_well;
          clean = clean.clean;
          stands = clean.stands;
        }

    -- there are as many copies as its configuration names
    copies_named : (run : RunOf O F V W) (standing next : Standing) → Clean standing run next → standing.copies ≡ length setup.contents
    copies_named run standing next clean =
        let part = (clean_of run standing next clean).ends in
        sym clean.sync.goes.over.copies ∙ same_copies setup trees seed standing.files (begun run) (after run) (asks run standing next clean.sync.goes clean.sync.asked) part.run part.is_sync

  -- a sync that was never stopped
  pub resumed_over : SyncsAreResumed → FullKeepsShape → (standing : Standing) → IsSoundStanding standing → IsResumed opener_view folder_view vault_view sink_view standing
  resumed_over resumed keeps standing sound setup trees seed stages later once again whole last history are clean later_clean =
      let stops = stops_to setup trees seed stages standing later history are in
      runs_resumed resumed keeps opener_view folder_view vault_view sink_view setup trees seed stops.0 standing.files later.files once.files again.files whole last standing.last.snapshot standing.last.is_changed
      (clean_of setup trees seed whole standing once clean)
      (subst (λ (n : ℕ). AreSoundBy n standing.files standing.last) (copies_named setup trees seed whole standing once clean) sound.sound)
      stops.1 (clean_of setup trees seed last later again later_clean)

  -- ---- the full sync of what stood before the first of them

  module _ (laid : LayoutIsOfTrees) (one_table : OneTable) (setup : SetupValue) (trees : List Tree) (seed : List ℕ) where
    abbrev copies_here : ℕ
    copies_here = length setup.contents

    -- the first sync of all
    first_sync : (stops : List Stop) (files left : Files) (last : SyncRun) → AreStopped setup trees seed copies_here stops files left → SyncsFrom seed copies_here left last → IsOfArray setup trees last
        → (first : SyncRun) × SyncsFrom seed copies_here files first × IsOfArray setup trees first
    first_sync [] files left last stopped from is_of = (last, subst (λ (fs : Files). SyncsFrom seed copies_here fs last) stopped from, is_of)
    first_sync (stop ∷ stops) files left last stopped from is_of = (stop.run, stopped.0.syncs, stopped.0.of_array)

    pub full_over : SyncsAreResumed → FullKeepsShape → (standing later again : Standing) (stages : List (Stage O F V W)) (last : RunOf O F V W) (loaded table : TableValue) (now : ℕ) (full : Files) → IsSoundStanding standing
        → standing.copies ≡ copies_here → IsHistory opener_view folder_view vault_view sink_view standing stages later
        → AreStoppedSyncs opener_view folder_view vault_view sink_view setup trees seed standing stages → Clean setup trees seed later last again
        → BeginsFrom setup seed standing.copies standing.files loaded → IsFullSync setup loaded trees now standing.files table full
        → EndsInFull standing.copies standing.last.is_changed table full again.files
    full_over resumed keeps standing later again stages last loaded table now full sound many history are clean begins is_full =
        let stops = stops_to setup trees seed stages standing later history are in
        let list = stops_are opener_view folder_view vault_view sink_view setup trees seed stops.0 standing.files later.files stops.1 in
        let ends : EndsClean opener_view folder_view vault_view sink_view setup trees seed later.files last again.files = clean_of setup trees seed last later again clean in
        let part = ends.ends in
        let last_from : SyncsFrom seed copies_here later.files part.run = from_files setup trees seed later.files (begun last) (after last) ends.asks part.run part.is_sync ends.reads_well in
        let last_of : IsOfArray setup trees part.run = of_array setup trees seed later.files (begun last) (after last) ends.asks part.run part.is_sync in
        let first = first_sync list.0 standing.files later.files part.run list.1 last_from last_of in
        let first_begins : BeginsFrom setup seed copies_here standing.files first.0.loaded
        = subst (λ (s : SetupValue). BeginsFrom s seed copies_here standing.files first.0.loaded) first.2.setup_is first.1.begins in
        let same : loaded ≡ first.0.loaded = begins_same one_table setup seed copies_here standing.files loaded first.0.loaded
        (subst (λ (n : ℕ). BeginsFrom setup seed n standing.files loaded) many begins) first_begins in
        let full_here : IsFullSync setup first.0.loaded trees now standing.files table full = subst (λ (t : TableValue). IsFullSync setup t trees now standing.files table full) same is_full in
        let shapes = keeps setup loaded trees now table standing.files full is_full in
        let told : IsToldRun first.0 = record { told = first.2.told; of_lists = first.1.over.listed } in
        let start_is : first.0.plan.start ≡ layout_by setup loaded trees
        = laid first.0 told ∙ ap (λ (s : SetupValue). layout_by s first.0.loaded (run_trees first.0)) first.2.setup_is
        ∙ ap (λ (t : TableValue). layout_by setup t (run_trees first.0)) (sym same) ∙ ap (layout_by setup loaded) first.2.trees_are in
        record {
          other_table = end_table part.run;
          saved = subst (λ (n : ℕ). HasSaved n (spelling (end_table part.run)) again.files) (sym many)
              (saved_by opener_view folder_view vault_view sink_view setup trees seed later.files last again.files ends);
          alike = by_shape first.0.plan.start table (ap (λ (t : TableValue). t.shape) start_is ∙ sym shapes.0) (ap (λ (t : TableValue). length t.infos) start_is ∙ sym shapes.1) standing.last.is_changed table
              (end_table part.run) full again.files
              (resumed setup trees seed copies_here list.0 standing.files later.files first.0 part.run standing.last.snapshot standing.last.is_changed now part.run.plan.now table (end_table part.run) full again.files first.1
              first.2 (subst (λ (n : ℕ). AreSoundBy n standing.files standing.last) many sound.sound) list.1 last_from last_of full_here
              (full_of opener_view folder_view vault_view sink_view setup trees seed later.files last again.files ends));
        }
