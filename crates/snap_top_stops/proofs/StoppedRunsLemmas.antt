-- A sync that was stopped, a run that changes nothing, and one more sync are as the laws on stopped syncs suppose.
use Rattle.std.proofs.Common.{◌≡◌, ◌≢◌, inl, inr, ℕ, zero, suc, ◌<◌, List, [], ◌∷◌, length, map, get_or, replicate, take, Bool, true, false, Option, None, Ok, IsTrue, is_some, refl, sym, ap, ◌∙◌, subst, arith}
use Rattle.std.specs.Option.{option_map}
use Rattle.std.proofs.lemmas.List.{get_or-replicate, length-replicate}
use Rattle.content_file.specs.Load.{HasFailed}
use Rattle.content_file.specs.Spelling.{spelling}
use Rattle.disk_model.specs.Files.{Files, content_of, parity_of}
use Rattle.disk_model.specs.Folder.{FolderView}
use Rattle.disk_model.specs.Opener.{OpenerView}
use Rattle.disk_model.specs.Sink.{SinkView}
use Rattle.disk_model.specs.Tree.{Tree}
use Rattle.disk_model.specs.Vault.{VaultView, copies_of}
use Rattle.disk_model.specs.declared.draft.Draft.TheVariants.{Absent}
use Rattle.disk_memory.specs.Vault.{VaultValue, fresh_vault, view_of}
use Rattle.snap_config.specs.Config.{read_setup}
use Rattle.array_setup.specs.Setup.{SetupValue}
use Rattle.snap_config.specs.declared.options.Command.TheVariants as commands
use Rattle.array_setup.specs.declared.ways.SyncWay.{SyncWay}
use Rattle.snap_config.specs.declared.options.Options.{Options}
use Rattle.snap_sync.specs.Images.{MayStand}
use Rattle.snap_sync.specs.Part.{AllTell, SyncRun, trees_of}
use Rattle.snap_top.specs.Effect.{effect}
use Rattle.snap_top.specs.LastSynced.{AreSoundBy, LastSynced}
use Rattle.snap_top.specs.Levels.{said_by}
use Rattle.snap_top.specs.Moment.{IsSoundAlways}
use Rattle.snap_top.specs.InPart.{EndsInPart}
use Rattle.snap_top.specs.Asked.{asked_by, ChangesNothing}
use Rattle.snap_top.specs.Stands.{StandsIn}
use Rattle.snap_top.specs.Resumed.{AreStoppedRuns, AsksForSync, EndsClean, IsBetween, IsStopped, AreStopped, Stop, StopsFrom}
use Rattle.snap_top.specs.RunOf.{RunOf, StoppedRun}
use Rattle.snap_top.specs.Entry.{Entry, Exit}
use Rattle.snap_top.specs.Standing.{IsOrigin, Runs, Standing, after_of, before_of, nothing_synced}
use Rattle.snap_top.specs.Step.{ChangesFiles}
use Rattle.snap_top.specs.Sync.{HasNoCopy, EndAlike, end_table}
use Rattle.snap_top.specs.Did.{Did, fixes, reads_only, scrubs, syncs}
use Rattle.snap_top.proofs.AskedLemmas.{command_asked, well_in}
use Rattle.snap_top.proofs.ResumedRuns.{SyncsAreResumed, from_files, full_of, of_array, same_copies}
use Rattle.snap_top_histories.specs.Lived.{AskForNoFix, AskForSync, IsLeftOf, IsNoFix, RunsOver, files_seen, standing_of}
use Rattle.snap_top_histories.proofs.LivedLemmas.{goes_with, stands_left, trees_kept}
use Rattle.snap_top_histories.proofs.ResumedLemmas.{HoldsAlways, begins_nothing, no_fix, none_failed}
use Rattle.snap_top_histories.proofs.SeenLemmas.{contents_seen, files_whole, splits}
use Rattle.snap_top_instances.specs.Asked.{AsksFor, HasWholeLevels}
use Rattle.snap_top_stops.specs.StoppedRuns.{AreResumedRuns, AreResumedSyncs, IsLoadedWell, IsResumedAll}
use Rattle.snap_top_instances.proofs.FullLemmas.{files_left}

-- a copy of which a size was told is there
pub is_there : (size : Option ℕ) (found : Option (List ℕ)) → size ≡ option_map length found → IsTrue (is_some size) → found ≢ None
is_there size found same some none =
    let gone : size ≡ None = same ∙ ap (option_map length) none in
    let clash : true ≡ false = sym some ∙ ap (λ (s : Option ℕ). is_some s) gone in
    absurd cc

-- where no copy is a content file, all of them are sound
pub nothing_sound : (standing : Standing) → IsOrigin standing → (copies : ℕ) → standing.copies ≡ copies → (last : LastSynced) → AreSoundBy copies standing.files last
nothing_sound standing origin copies many last copy table below valid spells =
    absurd (origin.none copy (omega (arith, below, many)) (spelling table) spells (record { table = table; valid = valid; spelled = refl }))

-- a new vault has no copy
nothing_there : (levels copies copy : ℕ) → copy < length (replicate copies Absent) → content_of (view_of (fresh_vault levels copies)).files copy ≡ None
nothing_there levels copies copy below = get_or-replicate copies copy None None (omega (arith, below, length-replicate copies Absent))

pub no_copy : (config : List ℕ) (levels copies : ℕ) (value : VaultValue) (many : ℕ) → value ≡ fresh_vault levels copies → copies_of (view_of value) ≡ many → HasNoCopy many (files_seen config (view_of value))
no_copy config levels copies value many fresh same copy below =
    let within : copy < copies_of (view_of value) = subst (λ (n : ℕ). copy < n) (sym same) below in
    ap (λ (cs : List (Option (List ℕ))). get_or cs copy None) (contents_seen (said_by config) (view_of value))
    ∙ ap (λ (v : VaultValue). content_of (view_of v).files copy) fresh
    ∙ nothing_there levels copies copy (subst (λ (v : VaultValue). copy < copies_of (view_of v)) fresh within)

-- and no parity
level_empty : (levels copies : ℕ) → length (parity_of (view_of (fresh_vault levels copies)).files 0) ≡ 0
level_empty zero copies = refl
level_empty (suc levels) copies = refl

pub no_parity : (config : List ℕ) (levels copies : ℕ) (value : VaultValue) → value ≡ fresh_vault levels copies → splits (said_by config) ≡ false → length (parity_of (files_seen config (view_of value)) 0) ≡ 0
no_parity config levels copies value fresh one_each =
    ap (λ (fs : Files). length (parity_of fs 0)) (files_whole (said_by config) (view_of value) one_each)
    ∙ ap (λ (v : VaultValue). length (parity_of (view_of v).files 0)) fresh
    ∙ level_empty levels copies

-- words that ask for the status ask for no fix
pub status_no_fix : (texts : List (List ℕ)) → AsksFor commands.Status texts → AskForNoFix texts
status_no_fix texts asks = record { asked = asks.asked; words = asks.words; is_none = subst IsNoFix (sym asks.command_is) tt }

-- how a sync ended that went to its end, by what the run did
pub record EndsSynced (before : Entry) (exit : Exit) (status : ℕ) (did : Did) : Type 0 where
  pub ends : EndsInPart before exit status
  pub did_is : did ≡ syncs false ends.run

module _ (before : Entry) (exit : Exit) (status : ℕ) (tells : IsTrue before.opener.tells) (asked : Options) (words : asked_by before.texts ≡ Ok asked) (way : SyncWay) (command : asked.command ≡ commands.Sync way) where
  pub synced_did : (did : Did) → (effect did).is_of before exit → (effect did).has_ended ≡ true → (effect did).ends before exit status → AllTell before.opener.folders → EndsSynced before exit status did
  synced_did reads_only is done ends told = absurd (let clash : false ≡ true = done in cc)
  synced_did (syncs true sync) is done ends told = absurd (let clash : false ≡ true = done in cc)
  synced_did (syncs false sync) is done ends told = record { ends = (ends told).0; did_is = ap (λ (run : SyncRun). syncs false run) (sym (ends told).1) }
  synced_did (fixes failed fix) is done ends told =
      let clash : commands.Fix fix.selection ≡ commands.Sync way = command_asked before tells asked words (commands.Fix fix.selection) is.readers fix.setup is.configured ∙ command in
      absurd cc
  synced_did (scrubs failed scrub) is done ends told =
      let clash : commands.Scrub scrub.way ≡ commands.Sync way = command_asked before tells asked words (commands.Scrub scrub.way) is.readers scrub.setup is.configured ∙ command in
      absurd cc

module _ {O F V W : Type 0} (opener_view : O → OpenerView) (folder_view : F → FolderView) (vault_view : V → VaultView) (sink_view : W → SinkView) where
  abbrev begun : RunOf O F V W → Entry
  begun run = before_of opener_view folder_view vault_view sink_view run

  abbrev ended : RunOf O F V W → Exit
  ended run = after_of opener_view folder_view vault_view sink_view run

  abbrev Ran : List ℕ → List (List ℕ) → List ℕ → List FolderView → VaultView → ℕ → List F → V → Type 0
  Ran config texts seed folders vault status left_folders left = RunsOver opener_view folder_view vault_view sink_view config texts seed folders vault status left_folders left

  -- no reading of a copy failed in a run
  abbrev NoneFailed : RunOf O F V W → Type 0
  NoneFailed run = (copy : ℕ) → ¬ (HasFailed (begun run).opener.vault (ended run).after.vault copy)

  -- ---- what the laws say

  abbrev pub RunsAreResumed : Type 0
  RunsAreResumed = (setup : SetupValue) (trees : List Tree) (seed : List ℕ) (stops : List (StoppedRun O F V W)) (files left one other : Files) (whole last : RunOf O F V W)
      (snapshot : ℕ → List (List (List ℕ))) (is_changed : ℕ → ℕ → Bool) → EndsClean opener_view folder_view vault_view sink_view setup trees seed files whole one
      → AreSoundBy (length setup.contents) files (record { snapshot = snapshot; is_changed = is_changed })
      → AreStoppedRuns opener_view folder_view vault_view sink_view setup trees seed stops files left → EndsClean opener_view folder_view vault_view sink_view setup trees seed left last other
      → EndAlike (length setup.contents) is_changed one other

  abbrev pub IsKnownByNone : Type 0
  IsKnownByNone = (run : RunOf O F V W) (always : IsSoundAlways (begun run) (ended run) run.status) → NoneFailed run → (effect always.did).loads_well (begun run) (ended run) always.is_did

  -- ---- a sync that ended with status 0

  -- of these files, and no reading of a copy failed in it
  record Synced (setup : SetupValue) (trees : List Tree) (seed : List ℕ) (files : Files) (run : RunOf O F V W) : Type 0 where
    asks : AsksForSync setup trees seed files (begun run)
    always : IsSoundAlways (begun run) (ended run) run.status
    ends : EndsInPart (begun run) (ended run) run.status
    did_is : always.did ≡ syncs false ends.run
    none : NoneFailed run
    clean : run.status ≡ 0

  pub asks_sync : (config : List ℕ) (texts : List (List ℕ)) (seed : List ℕ) (folders : List FolderView) (vault : VaultView) (trees : List Tree) (status : ℕ) (left_folders : List F) (left : V)
      → (runs : Ran config texts seed folders vault status left_folders left) → (asks : AskForSync texts config) → trees_of folders ≡ trees
      → AsksForSync asks.setup.setup trees seed (files_seen config vault) (begun runs.run)
  asks_sync config texts seed folders vault trees status left_folders left runs asks same =
      let over = runs.begins nothing_synced in
      record {
        asked = asks.asked;
        way = asks.way;
        words = subst (λ (ts : List (List ℕ)). asked_by ts ≡ Ok asks.asked) (sym runs.texts_are) asks.words;
        command_is = asks.command_is;
        says = subst (λ (bytes : List ℕ). read_setup (take 1048577 bytes) asks.asked.log ≡ Ok asks.setup.setup) (sym over.config) asks.setup.says;
        tells = over.tells;
        settled = over.settled;
        trees_are = over.trees ∙ same;
        files_are = over.files;
        seed_is = λ none. runs.seed_is;
      }

  synced : (config : List ℕ) (texts : List (List ℕ)) (seed : List ℕ) (folders : List FolderView) (vault : VaultView) (trees : List Tree) (status : ℕ) (left_folders : List F) (left : V)
      → (runs : Ran config texts seed folders vault status left_folders left) → (vault_view left).faults ≡ 0 → status ≡ 0 → (asks : AskForSync texts config) → trees_of folders ≡ trees
      → Synced asks.setup.setup trees seed (files_seen config vault) runs.run
  synced config texts seed folders vault trees status left_folders left runs calm well asks same =
      let step = runs.step in
      let for_sync = asks_sync config texts seed folders vault trees status left_folders left runs asks same in
      let words : asked_by (begun runs.run).texts ≡ Ok asks.asked = subst (λ (ts : List (List ℕ)). asked_by ts ≡ Ok asks.asked) (sym runs.texts_are) asks.words in
      let done : (effect step.always.did).has_ended ≡ true = step.done asks.asked words (subst ChangesFiles (sym asks.command_is) tt) (inl (omega (arith, runs.status_is, well))) in
      let its : EndsSynced (begun runs.run) (ended runs.run) runs.run.status step.always.did
      = synced_did (begun runs.run) (ended runs.run) runs.run.status for_sync.tells.tells asks.asked words asks.way asks.command_is step.always.did step.always.is_did done (step.at_end done) for_sync.tells.tells_folders in
      record {
        asks = for_sync;
        always = step.always;
        ends = its.ends;
        did_is = its.did_is;
        none = none_failed opener_view folder_view vault_view sink_view config texts seed folders vault status left_folders left runs calm;
        clean = runs.status_is ∙ well;
      }

  module _ (setup : SetupValue) (trees : List Tree) (seed : List ℕ) where
    abbrev Clean : Files → RunOf O F V W → Files → Type 0
    Clean files run left = EndsClean opener_view folder_view vault_view sink_view setup trees seed files run left

    abbrev clean_of : (files : Files) (run : RunOf O F V W) → Synced setup trees seed files run → Clean files run (ended run).after.vault.files
    clean_of files run did = record {
      asks = did.asks;
      ends = did.ends;
      reads_well = well_in (begun run) (ended run) did.ends.is_sync.loading did.none;
      clean = did.clean;
      stands = inl refl;
    }

    abbrev stop_at : RunOf O F V W → Files → StoppedRun O F V W
    stop_at run left = record { run = run; left = left }

    is_stopped : IsKnownByNone → (files left : Files) (run : RunOf O F V W) → Synced setup trees seed files run → StandsIn (begun run) (ended run) left
        → IsStopped opener_view folder_view vault_view sink_view setup trees seed files (stop_at run left)
    is_stopped known files left run did stands = record {
      asks = did.asks;
      always = did.always;
      reads_well = known run did.always did.none;
      stands = stands;
    }

    stops_from : (files left : Files) (run : RunOf O F V W) → (did : Synced setup trees seed files run) → StandsIn (begun run) (ended run) left
        → StopsFrom setup trees seed (length setup.contents) files (record { run = did.ends.run; left = left })
    stops_from files left run did stands =
        let its : SyncRun = did.ends.run in
        let moved : MayStand its.plan its.readings (begun run).opener.vault.files left
        = subst (λ (d : Did). (effect d).may_stand (begun run).opener.vault.files left) did.did_is (did.always.moments left stands) in
        record {
          syncs = from_files setup trees seed files (begun run) (ended run) did.asks its did.ends.is_sync (clean_of files run did).reads_well;
          of_array = of_array setup trees seed files (begun run) (ended run) did.asks its did.ends.is_sync;
          moment = subst (λ (fs : Files). MayStand its.plan its.readings fs left) did.asks.files_are moved;
        }

    -- ---- a run between that changes nothing

    abbrev Between : Files → StoppedRun O F V W → Type 0
    Between files stop = IsBetween opener_view folder_view vault_view sink_view setup trees seed files stop

    is_between : (config : List ℕ) (texts : List (List ℕ)) (its_seed : List ℕ) (folders : List FolderView) (vault made : VaultView) (status : ℕ) (left_folders : List F) (left : V)
        → (runs : Ran config texts its_seed folders vault status left_folders left) → AsksFor commands.Status texts
        → IsLeftOf (vault_view left) made → Between (files_seen config vault) (stop_at runs.run (files_seen config made))
    is_between config texts its_seed folders vault made status left_folders left runs asks left_of =
        let over = runs.begins nothing_synced in
        record {
          asked = asks.asked;
          words = subst (λ (ts : List (List ℕ)). asked_by ts ≡ Ok asks.asked) (sym runs.texts_are) asks.words;
          command_is = subst ChangesNothing (sym asks.command_is) tt;
          fresh = record { tells = over.tells.tells; tells_vault = over.tells.tells_vault; settled = over.settled };
          files_are = over.files;
          sound = λ fresh. runs.step.always;
          stands = stands_left opener_view folder_view vault_view sink_view config texts its_seed folders vault made status left_folders left runs left_of;
        }

    stays : (files : Files) (stop : StoppedRun O F V W) → Between files stop → stop.left ≡ files
    stays files stop between =
        let always : IsSoundAlways (begun stop.run) (ended stop.run) stop.run.status = between.sound between.fresh in
        subst (λ (did : Did). (effect did).may_stand (begun stop.run).opener.vault.files stop.left) (always.reads between.asked between.words between.command_is) (always.moments stop.left between.stands)
        ∙ between.files_are

    -- ---- all of them

    module _ (files made kept : Files) (whole stopped between last : RunOf O F V W) (first : Synced setup trees seed files whole) (second : Synced setup trees seed files stopped)
        (stands : StandsIn (begun stopped) (ended stopped) made) (third : Between made (stop_at between kept)) (fourth : Synced setup trees seed kept last)
        (sound : AreSoundBy (length setup.contents) files nothing_synced) (bare : HasNoCopy (length setup.contents) files) (there : content_of kept 0 ≢ None) (wrote : 0 < length (parity_of (ended whole).after.vault.files 0)) where
      resumed_runs : RunsAreResumed → IsKnownByNone → AreResumedRuns opener_view folder_view vault_view sink_view
      resumed_runs law known =
          let stop = is_stopped known files made stopped second stands in
          let are : AreStoppedRuns opener_view folder_view vault_view sink_view setup trees seed (stop_at stopped made ∷ stop_at between kept ∷ []) files kept = (inl stop, (inr third, refl)) in
          record {
            setup = setup;
            trees = trees;
            seed = seed;
            stop = stop_at stopped made;
            between = stop_at between kept;
            files = files;
            one = (ended whole).after.vault.files;
            other = (ended last).after.vault.files;
            whole = whole;
            last = last;
            synced = nothing_synced;
            none = bare;
            there = there;
            wrote = wrote;
            unchanged = λ stripe level. refl;
            clean = clean_of files whole first;
            sound = sound;
            is_stopped = stop;
            is_between = third;
            stopped = are;
            resumed = clean_of kept last fourth;
            alike = law setup trees seed (stop_at stopped made ∷ stop_at between kept ∷ []) files kept (ended whole).after.vault.files (ended last).after.vault.files whole last
                nothing_synced.snapshot nothing_synced.is_changed (clean_of files whole first) sound are (clean_of kept last fourth);
          }

      resumed_syncs : SyncsAreResumed → AreResumedSyncs
      resumed_syncs law =
          let copies : ℕ = length setup.contents in
          let one : Files = (ended whole).after.vault.files in
          let other : Files = (ended last).after.vault.files in
          let its : SyncRun = first.ends.run in
          let its_last : SyncRun = fourth.ends.run in
          let stop : Stop = record { run = second.ends.run; left = made } in
          let from = from_files setup trees seed files (begun whole) (ended whole) first.asks its first.ends.is_sync (clean_of files whole first).reads_well in
          let is_of = of_array setup trees seed files (begun whole) (ended whole) first.asks its first.ends.is_sync in
          let last_from = from_files setup trees seed kept (begun last) (ended last) fourth.asks its_last fourth.ends.is_sync (clean_of kept last fourth).reads_well in
          let last_of = of_array setup trees seed kept (begun last) (ended last) fourth.asks its_last fourth.ends.is_sync in
          let full = full_of opener_view folder_view vault_view sink_view setup trees seed files whole one (clean_of files whole first) in
          let last_full = full_of opener_view folder_view vault_view sink_view setup trees seed kept last other (clean_of kept last fourth) in
          let are : AreStopped setup trees seed copies (stop ∷ []) files kept = (stops_from files made stopped second stands, stays made (stop_at between kept) third) in
          record {
            setup = setup;
            trees = trees;
            seed = seed;
            copies = copies;
            stops = stop ∷ [];
            files = files;
            left = kept;
            whole = its;
            last = its_last;
            synced = nothing_synced;
            now = its.plan.now;
            again = its_last.plan.now;
            table = end_table its;
            other_table = end_table its_last;
            one = one;
            other = other;
            some = omega arith;
            none = bare;
            there = there;
            wrote = wrote;
            unchanged = λ stripe level. refl;
            from = from;
            of_array = is_of;
            sound = sound;
            stopped = are;
            last_from = last_from;
            last_of = last_of;
            full = full;
            last_full = last_full;
            alike = law setup trees seed copies (stop ∷ []) files kept its its_last nothing_synced.snapshot nothing_synced.is_changed its.plan.now its_last.plan.now (end_table its) (end_table its_last) one other
                from is_of sound are last_from last_of full last_full;
          }

      loaded_well : IsKnownByNone → IsLoadedWell opener_view folder_view vault_view sink_view
      loaded_well known = record {
        run = last;
        sync = fourth.ends.run;
        always = fourth.always;
        there = subst (λ (fs : Files). content_of fs 0 ≢ None) (sym fourth.asks.files_are) there;
        did_is = fourth.did_is;
        none = fourth.none;
        loads = known last fourth.always fourth.none;
      }

      resumed_all : RunsAreResumed → SyncsAreResumed → IsKnownByNone → IsResumedAll opener_view folder_view vault_view sink_view
      resumed_all runs_law syncs_law known = record { runs = resumed_runs runs_law known; syncs = resumed_syncs syncs_law; loaded = loaded_well known }

  pub all_resumed : (config : List ℕ) (texts others : List (List ℕ)) (seed : List ℕ) (levels copies : ℕ) (value other kept seen : VaultValue) (folders : List FolderView) (made : VaultView)
      (status status_then status_between status_last : ℕ) (whole_folders then_folders between_folders last_folders : List F) (left left_then left_between left_last : V)
      → RunsAreResumed → SyncsAreResumed → IsKnownByNone → HoldsAlways opener_view folder_view vault_view sink_view → value ≡ fresh_vault levels copies → other ≡ fresh_vault levels copies
      → (asks : AskForSync texts config) → HasWholeLevels config → AsksFor commands.Status others
      → Ran config texts seed folders (view_of value) status whole_folders left → (vault_view left).faults ≡ 0 → status ≡ 0 → 0 < length (parity_of (vault_view left).files 0)
      → Ran config texts seed (map folder_view whole_folders) (view_of other) status_then then_folders left_then → (vault_view left_then).faults ≡ 0 → status_then ≡ 0
      → IsLeftOf (vault_view left_then) made → copies_of made ≡ copies_of (view_of other)
      → Ran config others seed (map folder_view then_folders) made status_between between_folders left_between
      → IsLeftOf (vault_view left_between) (view_of kept) → seen ≡ kept → content_of (view_of seen).files 0 ≢ None
      → Ran config texts seed (map folder_view between_folders) (view_of kept) status_last last_folders left_last → (vault_view left_last).faults ≡ 0 → status_last ≡ 0
      → IsResumedAll opener_view folder_view vault_view sink_view
  all_resumed config texts others seed levels copies value other kept seen folders made status status_then status_between status_last whole_folders then_folders between_folders last_folders
      left left_then left_between left_last runs_law syncs_law known holds fresh fresh_too asks whole_levels looks whole calm well wrote stopped calm_then zero_then left_of as_many
      looked kept_of same_kept there last calm_last zero_last =
      let setup : SetupValue = asks.setup.setup in
      let trees : List Tree = trees_of folders in
      let first : Standing = standing_of config folders (view_of value) nothing_synced in
      let first_too : Standing = standing_of config (map folder_view whole_folders) (view_of other) nothing_synced in
      let is_first : IsOrigin first = begins_nothing opener_view folder_view vault_view sink_view config folders levels copies value fresh in
      let is_first_too : IsOrigin first_too = begins_nothing opener_view folder_view vault_view sink_view config (map folder_view whole_folders) levels copies other fresh_too in
      let headline = holds first first [] is_first refl in
      let headline_too = holds first_too first_too [] is_first_too refl in
      let asks_no_fix = no_fix texts config asks in
      let same : trees_of (map folder_view whole_folders) ≡ trees
      = trees_kept opener_view folder_view vault_view sink_view config texts seed folders (view_of value) nothing_synced status whole_folders left headline whole asks_no_fix in
      let same_too : trees_of (map folder_view then_folders) ≡ trees
      = trees_kept opener_view folder_view vault_view sink_view config texts seed (map folder_view whole_folders) (view_of other) nothing_synced status_then then_folders left_then headline_too stopped asks_no_fix ∙ same in
      let going = goes_with opener_view folder_view vault_view sink_view config texts seed (map folder_view whole_folders) (view_of other) made nothing_synced status_then then_folders left_then headline_too stopped asks_no_fix left_of as_many in
      let later : Standing = standing_of config (map folder_view then_folders) made going.0 in
      let headline_later = holds first_too later (record { change = Runs stopped.run; next = later } ∷ []) is_first_too (going.1, refl) in
      let same_last : trees_of (map folder_view between_folders) ≡ trees
      = trees_kept opener_view folder_view vault_view sink_view config others seed (map folder_view then_folders) made going.0 status_between between_folders left_between headline_later looked (status_no_fix others looks) ∙ same_too in
      let files : Files = files_seen config (view_of value) in
      let one : Synced setup trees seed files whole.run = synced config texts seed folders (view_of value) trees status whole_folders left whole calm well asks refl in
      let two : Synced setup trees seed files stopped.run = subst (λ (v : VaultValue). Synced setup trees seed (files_seen config (view_of v)) stopped.run) (fresh_too ∙ sym fresh)
      (synced config texts seed (map folder_view whole_folders) (view_of other) trees status_then then_folders left_then stopped calm_then zero_then asks same) in
      let stands = stands_left opener_view folder_view vault_view sink_view config texts seed (map folder_view whole_folders) (view_of other) made status_then then_folders left_then stopped left_of in
      let three = is_between setup trees seed config others seed (map folder_view then_folders) made (view_of kept) status_between between_folders left_between looked looks kept_of in
      let four : Synced setup trees seed (files_seen config (view_of kept)) last.run = synced config texts seed (map folder_view between_folders) (view_of kept) trees status_last last_folders left_last last calm_last zero_last asks same_last in
      let many : first.copies ≡ length setup.contents = sym (whole.begins nothing_synced).copies ∙ same_copies setup trees seed files (begun whole.run) (ended whole.run) one.asks one.ends.run one.ends.is_sync in
      let has : content_of (files_seen config (view_of kept)) 0 ≢ None
      = λ gone. there (ap (λ (v : VaultValue). content_of (view_of v).files 0) same_kept
      ∙ sym (ap (λ (cs : List (Option (List ℕ))). get_or cs 0 None) (contents_seen (said_by config) (view_of kept))) ∙ gone) in
      let wrote_it : 0 < length (parity_of (ended whole.run).after.vault.files 0)
      = subst (λ (fs : Files). 0 < length (parity_of fs 0)) (sym (files_left opener_view folder_view vault_view sink_view config texts seed folders (view_of value) status whole_folders left whole whole_levels)) wrote in
      resumed_all setup trees seed files (files_seen config made) (files_seen config (view_of kept)) whole.run stopped.run looked.run last.run one two stands three four
      (nothing_sound first is_first (length setup.contents) many nothing_synced) (no_copy config levels copies value (length setup.contents) fresh many) has wrote_it runs_law syncs_law known
