-- Runs that are stopped one after another: their syncs are those of the law on syncs.
use Rattle.std.proofs.Common.{◌≡◌, ◌⊎◌, inl, inr, ⊎_elim, ℕ, List, [], ◌∷◌, length, take, Bool, Ok, sym, ap, ◌∙◌, subst}
use Rattle.content_file.specs.Save.{HasSaved}
use Rattle.content_file.specs.Spelling.{spelling}
use Rattle.disk_model.specs.Files.{Files}
use Rattle.disk_model.specs.Folder.{FolderView}
use Rattle.disk_model.specs.Opener.{OpenerView}
use Rattle.disk_model.specs.Sink.{SinkView}
use Rattle.disk_model.specs.Tree.{Tree}
use Rattle.disk_model.specs.Vault.{VaultView, copies_of}
use Rattle.file_table.specs.Table.{TableValue}
use Rattle.snap_config.specs.Config.{read_setup}
use Rattle.array_setup.specs.Setup.{SetupValue}
use Rattle.snap_config.specs.declared.options.Command.TheVariants as commands
use Rattle.snap_config.specs.declared.options.Options.{Options}
use Rattle.snap_sync.specs.Images.{MayStand}
use Rattle.snap_sync.specs.Part.{AllTell, AllVerified, IsFullSync, SyncRun, run_trees, trees_of}
use Rattle.snap_sync.specs.Resumed.{EndsAs}
use Rattle.snap_sync.specs.Soundness.{AreSound}
use Rattle.snap_top.specs.Array.{empty_table}
use Rattle.snap_top.specs.Loading.{ReadsWell}
use Rattle.snap_top.specs.Moment.{IsSoundAlways}
use Rattle.snap_top.specs.Effect.{effect}
use Rattle.snap_top.specs.Began.{IsSyncOf}
use Rattle.snap_top.specs.Stands.{StandsIn}
use Rattle.snap_top.specs.Asked.{asked_by}
use Rattle.snap_top.specs.Resumed.{AreStoppedRuns, AsksForSync, EndsClean, IsBetween, IsStopped, AreStopped, IsOfArray, Stop, SyncsFrom}
use Rattle.snap_top.specs.RunOf.{end_of, entry_of, RunOf, StoppedRun}
use Rattle.snap_top.specs.Entry.{Entry, Exit}
use Rattle.snap_top.specs.Sync.{EndAlike, end_table}
use Rattle.snap_top.specs.Did.{Did, fixes, reads_only, scrubs, syncs}
use Rattle.snap_top.proofs.CompleteLemmas.{same_ok}
use Rattle.snap_top.proofs.ResumeLemmas.{FullKeepsShape, by_shape}
use Rattle.snap_top.proofs.SyncEndLemmas.{stands_then}
use Rattle.parity_writer.specs.Sound.{Closed}

abbrev pub SyncsAreResumed : Type 0
SyncsAreResumed = (setup : SetupValue) (trees : List Tree) (seed : List ℕ) (copies : ℕ) (stops : List Stop) (files left : Files) (whole last : SyncRun) (snapshot : Closed) (is_changed : ℕ → ℕ → Bool) (now again : ℕ)
    (table other_table : TableValue) (one other : Files) → SyncsFrom seed copies files whole → IsOfArray setup trees whole → AreSound copies files snapshot is_changed
    → AreStopped setup trees seed copies stops files left → SyncsFrom seed copies left last → IsOfArray setup trees last → IsFullSync setup whole.loaded trees now files table one
    → IsFullSync setup last.loaded trees again left other_table other → EndsAs whole.plan.start is_changed table other_table one other

-- ---- the sync of a run that was asked for one

module _ (setup : SetupValue) (trees : List Tree) (seed : List ℕ) (files : Files) (before : Entry) (exit : Exit) (asks : AsksForSync setup trees seed files before) (run : SyncRun) (is : IsSyncOf before exit run) where
  abbrev copies : ℕ
  copies = length setup.contents

  same_setup : run.setup ≡ setup
  same_setup =
      let configured = is.configured in
      let same : configured.asked ≡ asks.asked = same_ok (asked_by before.texts) configured.asked asks.asked configured.read asks.words in
      let read : read_setup (take 1048577 before.opener.config) asks.asked.log ≡ Ok run.setup
      = ap (λ (a : Options). read_setup (take 1048577 before.opener.config) a.log) (sym same)
      ∙ ap (λ (bytes : List ℕ). read_setup bytes configured.asked.log) (sym (configured.says.held asks.tells.tells)) ∙ configured.says.says in
      same_ok (read_setup (take 1048577 before.opener.config) asks.asked.log) run.setup setup read asks.says

  pub same_copies : copies_of before.opener.vault ≡ copies
  same_copies = is.copies_are ∙ ap (λ (s : SetupValue). length s.contents) same_setup

  pub of_array : IsOfArray setup trees run
  of_array = record {
    setup_is = same_setup;
    told = subst AllTell (sym is.folders_are) asks.tells.tells_folders;
    trees_are = ap trees_of is.folders_are ∙ asks.trees_are;
  }

  pub from_files : ReadsWell before is.loading.at → SyncsFrom seed copies files run
  from_files well =
      let here : SyncsFrom before.seed copies files run
      = subst (λ (fs : Files). SyncsFrom before.seed copies fs run) asks.files_are
      (subst (λ (n : ℕ). SyncsFrom before.seed n before.opener.vault.files run) same_copies (record { over = is.over; begins = is.loading.from well })) in
      record {
        over = here.over;
        begins = ⊎_elim
            (λ first. inl first)
            (λ none. inr (none.0, none.1 ∙ ap (empty_table run.setup) (asks.seed_is none.0)))
            here.begins;
      }

-- ---- the stops

-- what a run did is to read, so that all is as it was, or to sync: it was asked for that
by_did : (setup : SetupValue) (trees : List Tree) (seed : List ℕ) (files : Files) (before : Entry) (exit : Exit) → AsksForSync setup trees seed files before
    → (old left : Files) (did : Did) (is : (effect did).is_of before exit) → (effect did).loads_well before exit is → (effect did).may_stand old left
    → (left ≡ old) ⊎ ((run : SyncRun) × (is_sync : IsSyncOf before exit run) × ReadsWell before is_sync.loading.at × MayStand run.plan run.readings old left)
by_did setup trees seed files before exit asks old left reads_only is well moment = inl moment
by_did setup trees seed files before exit asks old left (syncs failed run) is well moment = inr (run, is, well, moment)
by_did setup trees seed files before exit asks old left (fixes failed run) is well moment =
    let same : is.configured.asked ≡ asks.asked = same_ok (asked_by before.texts) is.configured.asked asks.asked is.configured.read asks.words in
    let clash : commands.Fix run.selection ≡ commands.Sync asks.way = is.configured.command_is ∙ ap (λ (a : Options). a.command) same ∙ asks.command_is in
    absurd cc
by_did setup trees seed files before exit asks old left (scrubs failed run) is well moment =
    let same : is.configured.asked ≡ asks.asked = same_ok (asked_by before.texts) is.configured.asked asks.asked is.configured.read asks.words in
    let clash : commands.Scrub run.way ≡ commands.Sync asks.way = is.configured.command_is ∙ ap (λ (a : Options). a.command) same ∙ asks.command_is in
    absurd cc

module _ {O F V W : Type 0} (opener_view : O → OpenerView) (folder_view : F → FolderView) (vault_view : V → VaultView) (sink_view : W → SinkView) (setup : SetupValue) (trees : List Tree) (seed : List ℕ) where
  abbrev copies_here : ℕ
  copies_here = length setup.contents

  abbrev StopsTo : Files → Files → Type 0
  StopsTo files left = (list : List Stop) × AreStopped setup trees seed copies_here list files left

  -- one that was stopped before, by what it began with and left
  stopped_at : (before : Entry) (exit : Exit) (status : ℕ) (files mid left : Files) → AsksForSync setup trees seed files before → (always : IsSoundAlways before exit status) → (effect always.did).loads_well before exit always.is_did
      → StandsIn before exit mid → StopsTo mid left → StopsTo files left
  stopped_at before exit status files mid left asks always well stands rest =
      ⊎_elim
      (λ still. (rest.0, subst (λ (fs : Files). AreStopped setup trees seed copies_here rest.0 fs left) (still ∙ asks.files_are) rest.1))
      (λ did. (
        record { run = did.0; left = mid } ∷ rest.0,
        (
          record {
            syncs = from_files setup trees seed files before exit asks did.0 did.1 did.2;
            of_array = of_array setup trees seed files before exit asks did.0 did.1;
            moment = subst (λ (fs : Files). MayStand did.0.plan did.0.readings fs mid) asks.files_are did.3;
          },
          rest.1,
        ),
      ))
      (by_did setup trees seed files before exit asks before.opener.vault.files mid always.did always.is_did well (always.moments mid stands))

  stopped_before : (stop : StoppedRun O F V W) (files left : Files) → IsStopped opener_view folder_view vault_view sink_view setup trees seed files stop → StopsTo stop.left left → StopsTo files left
  stopped_before stop files left stopped rest =
      stopped_at (entry_of opener_view sink_view stop.run) (end_of opener_view folder_view vault_view sink_view stop.run) stop.run.status files stop.left left stopped.asks stopped.always stopped.reads_well stopped.stands rest

  -- one that changed nothing before
  between_before : (stop : StoppedRun O F V W) (files left : Files) → IsBetween opener_view folder_view vault_view sink_view setup trees seed files stop → StopsTo stop.left left → StopsTo files left
  between_before stop files left between rest =
      let before : Entry = entry_of opener_view sink_view stop.run in
      let exit : Exit = end_of opener_view folder_view vault_view sink_view stop.run in
      let always : IsSoundAlways before exit stop.run.status = between.sound between.fresh in
      let still : stop.left ≡ before.opener.vault.files
      = subst (λ (did : Did). (effect did).may_stand before.opener.vault.files stop.left) (always.reads between.asked between.words between.command_is) (always.moments stop.left between.stands) in
      (rest.0, subst (λ (fs : Files). AreStopped setup trees seed copies_here rest.0 fs left) (still ∙ between.files_are) rest.1)

  pub stops_are : (stops : List (StoppedRun O F V W)) (files left : Files) → AreStoppedRuns opener_view folder_view vault_view sink_view setup trees seed stops files left → StopsTo files left
  stops_are [] files left are = ([], are)
  stops_are (stop ∷ stops) files left are = ⊎_elim
      (λ stopped. stopped_before stop files left stopped (stops_are stops stop.left left are.1))
      (λ between. between_before stop files left between (stops_are stops stop.left left are.1))
      are.0

  -- a run that ended with status 0: so all is verified
  pub all_verified : (files : Files) (run : RunOf O F V W) (left : Files) (clean : EndsClean opener_view folder_view vault_view sink_view setup trees seed files run left)
      → (let sync = clean.ends.run in AllVerified sync.plan.start sync.readings)
  all_verified files run left clean = (clean.ends.status_is.clean.0 clean.clean).1

  pub full_of : (files : Files) (run : RunOf O F V W) (left : Files) (clean : EndsClean opener_view folder_view vault_view sink_view setup trees seed files run left)
      → (let sync = clean.ends.run in IsFullSync setup sync.loaded trees sync.plan.now files (end_table sync) left)
  full_of files run left clean =
      let before : Entry = entry_of opener_view sink_view run in
      let exit : Exit = end_of opener_view folder_view vault_view sink_view run in
      let part = clean.ends in
      let sync : SyncRun = part.run in
      let of : IsOfArray setup trees sync = of_array setup trees seed files before exit clean.asks sync part.is_sync in
      let full : IsFullSync sync.setup sync.loaded (run_trees sync) sync.plan.now before.opener.vault.files (end_table sync) left
      = stands_then (λ (new : Files). IsFullSync sync.setup sync.loaded (run_trees sync) sync.plan.now before.opener.vault.files (end_table sync) new) exit left part.tells (part.full (all_verified files run left clean)) clean.stands in
      subst (λ (fs : Files). IsFullSync setup sync.loaded trees sync.plan.now fs (end_table sync) left) clean.asks.files_are
      (subst (λ (ts : List Tree). IsFullSync setup sync.loaded ts sync.plan.now before.opener.vault.files (end_table sync) left) of.trees_are
      (subst (λ (s : SetupValue). IsFullSync s sync.loaded (run_trees sync) sync.plan.now before.opener.vault.files (end_table sync) left) of.setup_is full))

  pub saved_by : (files : Files) (run : RunOf O F V W) (left : Files) (clean : EndsClean opener_view folder_view vault_view sink_view setup trees seed files run left)
      → HasSaved copies_here (spelling (end_table clean.ends.run)) left
  saved_by files run left clean =
      let before : Entry = entry_of opener_view sink_view run in
      let exit : Exit = end_of opener_view folder_view vault_view sink_view run in
      let part = clean.ends in
      subst (λ (n : ℕ). HasSaved n (spelling (end_table part.run)) left) (same_copies setup trees seed files before exit clean.asks part.run part.is_sync)
      (stands_then (HasSaved (copies_of before.opener.vault) (spelling (end_table part.run))) exit left part.tells part.saved clean.stands)

  ends_alike : SyncsAreResumed → FullKeepsShape → (stops : List (StoppedRun O F V W)) (files left one other : Files) (whole last : RunOf O F V W) (snapshot : Closed) (is_changed : ℕ → ℕ → Bool)
      → EndsClean opener_view folder_view vault_view sink_view setup trees seed files whole one → AreSound copies_here files snapshot is_changed
      → AreStoppedRuns opener_view folder_view vault_view sink_view setup trees seed stops files left → EndsClean opener_view folder_view vault_view sink_view setup trees seed left last other
      → EndAlike copies_here is_changed one other
  ends_alike resumed keeps stops files left one other whole last snapshot is_changed clean are stopped later =
      let list = stops_are stops files left stopped in
      let first = clean.ends in
      let second = later.ends in
      let shapes = keeps first.run.setup first.run.loaded (run_trees first.run) first.run.plan.now (end_table first.run) (entry_of opener_view sink_view whole).opener.vault.files one
      (stands_then _ (end_of opener_view folder_view vault_view sink_view whole) one first.tells (first.full (all_verified files whole one clean)) clean.stands) in
      let same : (first.run.plan.start.shape ≡ (end_table first.run).shape) × (length first.run.plan.start.infos ≡ length (end_table first.run).infos)
      = (ap (λ (t : TableValue). t.shape) first.laid ∙ sym shapes.0, ap (λ (t : TableValue). length t.infos) first.laid ∙ sym shapes.1) in
      record {
        table = end_table first.run;
        other_table = end_table second.run;
        saved = saved_by files whole one clean;
        other_saved = saved_by left last other later;
        alike = by_shape first.run.plan.start (end_table first.run) same.0 same.1 is_changed (end_table first.run) (end_table second.run) one other (resumed setup trees seed copies_here list.0 files left first.run second.run snapshot is_changed first.run.plan.now second.run.plan.now (end_table first.run) (end_table second.run) one other
            (from_files setup trees seed files _ _ clean.asks first.run first.is_sync clean.reads_well) (of_array setup trees seed files _ _ clean.asks first.run first.is_sync) are list.1
            (from_files setup trees seed left _ _ later.asks second.run second.is_sync later.reads_well) (of_array setup trees seed left _ _ later.asks second.run second.is_sync)
            (full_of files whole one clean) (full_of left last other later));
      }

pub runs_resumed : SyncsAreResumed → FullKeepsShape → {O F V W : Type 0} (opener_view : O → OpenerView) (folder_view : F → FolderView) (vault_view : V → VaultView) (sink_view : W → SinkView) (setup : SetupValue) (trees : List Tree) (seed : List ℕ)
    (stops : List (StoppedRun O F V W)) (files left one other : Files) (whole last : RunOf O F V W) (snapshot : Closed) (is_changed : ℕ → ℕ → Bool)
    → EndsClean opener_view folder_view vault_view sink_view setup trees seed files whole one → AreSound (length setup.contents) files snapshot is_changed
    → AreStoppedRuns opener_view folder_view vault_view sink_view setup trees seed stops files left → EndsClean opener_view folder_view vault_view sink_view setup trees seed left last other
    → EndAlike (length setup.contents) is_changed one other
runs_resumed resumed keeps opener_view folder_view vault_view sink_view setup trees seed = ends_alike opener_view folder_view vault_view sink_view setup trees seed resumed keeps
