-- A sync that was stopped and made again, and a fix of what stands after a history.
use Rattle.std.proofs.Common.{◌≡◌, inl, inr, ℕ, ◌≤◌, List, [], ◌∷◌, map, is_some, true, Option, Ok, refl, sym, ap, ◌∙◌, subst, arith}
use Rattle.content_file.specs.Load.{HasFailed}
use Rattle.disk_model.specs.Cause.{Rose}
use Rattle.disk_model.specs.Folder.{FolderView}
use Rattle.disk_model.specs.Opener.{OpenerView}
use Rattle.disk_model.specs.Sink.{SinkView}
use Rattle.disk_model.specs.Tree.{Tree}
use Rattle.disk_model.specs.Vault.{VaultView, copies_of}
use Rattle.disk_memory.specs.Vault.{VaultValue, fresh_vault, view_of}
use Rattle.array_setup.specs.Setup.{SetupValue}
use Rattle.snap_config.specs.declared.options.Command.{Command}
use Rattle.snap_config.specs.declared.options.Command.TheVariants as commands
use Rattle.snap_sync.specs.Part.{trees_of}
use Rattle.snap_top.specs.Headline.{FixesToItsEnd, Headline, IsAskedToSync, IsSyncOver, SyncsClean, SyncsWell}
use Rattle.snap_top.specs.LastSynced.{LastSynced}
use Rattle.snap_top.specs.Levels.{said_by}
use Rattle.snap_top.specs.Asked.{asked_by, ChangesNothing}
use Rattle.snap_top.specs.RunOf.{RunOf}
use Rattle.snap_top.specs.Entry.{Entry, Exit, vault_in}
use Rattle.snap_top.specs.Standing.{GoesOver, IsHistory, IsOrigin, Runs, Stage, Standing, after_of, before_of, nothing_synced}
use Rattle.snap_top.proofs.AskedLemmas.{loads_well}
use Rattle.snap_top_histories.specs.Lived.{AskForFix, AskForNoChange, AskForNoFix, AskForSync, HasHistory, IsFixedAtLast, IsLeftOf, IsNoFix, IsResumedOnce, IsSyncedAtLast, RunsOver, files_seen, standing_of}
use Rattle.snap_top_histories.proofs.BeginLemmas.{origin}
use Rattle.snap_top_histories.proofs.SeenLemmas.{faults_seen}
use Rattle.snap_top_histories.proofs.LivedLemmas.{goes_with, no_chance, quiet_run, trees_kept}

pub not_risen : (before now : ℕ) → now ≡ 0 → Rose before now → ⊥
not_risen before now none rose = omega (arith, none, rose)

pub no_fix : (texts : List (List ℕ)) (config : List ℕ) → AskForSync texts config → AskForNoFix texts
no_fix texts config asks = record { asked = asks.asked; words = asks.words; is_none = subst IsNoFix (sym asks.command_is) tt }

quiet_no_fix : (command : Command) → ChangesNothing command → IsNoFix command
quiet_no_fix commands.List quiet = tt
quiet_no_fix commands.Status quiet = tt
quiet_no_fix commands.Dup quiet = tt
quiet_no_fix (commands.Check _) quiet = tt
quiet_no_fix (commands.Audit _) quiet = tt
quiet_no_fix (commands.Sync _) quiet = absurd quiet
quiet_no_fix (commands.Fix _) quiet = absurd quiet
quiet_no_fix (commands.Scrub _) quiet = absurd quiet
quiet_no_fix (commands.Exercise _) quiet = tt

no_fix_of : (texts : List (List ℕ)) → AskForNoChange texts → AskForNoFix texts
no_fix_of texts asks = record { asked = asks.asked; words = asks.words; is_none = quiet_no_fix asks.asked.command asks.changes_nothing }

module _ {O F V W : Type 0} (opener_view : O → OpenerView) (folder_view : F → FolderView) (vault_view : V → VaultView) (sink_view : W → SinkView) where
  abbrev begun : RunOf O F V W → Entry
  begun run = before_of opener_view folder_view vault_view sink_view run

  abbrev ended : RunOf O F V W → Exit
  ended run = after_of opener_view folder_view vault_view sink_view run

  abbrev Goes : RunOf O F V W → Standing → Standing → Type 0
  Goes run standing next = GoesOver opener_view folder_view vault_view sink_view run standing next

  abbrev pub HoldsAlways : Type 0
  HoldsAlways = (first standing : Standing) (stages : List (Stage O F V W)) → IsOrigin first → IsHistory opener_view folder_view vault_view sink_view first stages standing
      → Headline opener_view folder_view vault_view sink_view standing

  -- a vault of which no call failed has none that failed by its levels
  pub none_rose : (config : List ℕ) (texts : List (List ℕ)) (seed : List ℕ) (folders : List FolderView) (vault : VaultView) (status : ℕ) (left_folders : List F) (left : V)
      → (runs : RunsOver opener_view folder_view vault_view sink_view config texts seed folders vault status left_folders left) → (vault_view left).faults ≡ 0 → (ended runs.run).after.vault.faults ≡ 0
  none_rose config texts seed folders vault status left_folders left runs calm =
      faults_seen (said_by (opener_view runs.run.opener).config) (vault_in vault_view (opener_view runs.run.opener_new).vault runs.run.vault)
      ∙ ap (λ (v : Option V). (vault_in vault_view (opener_view runs.run.opener_new).vault v).faults) runs.vault_is ∙ calm

  pub none_failed : (config : List ℕ) (texts : List (List ℕ)) (seed : List ℕ) (folders : List FolderView) (vault : VaultView) (status : ℕ) (left_folders : List F) (left : V)
      → (runs : RunsOver opener_view folder_view vault_view sink_view config texts seed folders vault status left_folders left) → (vault_view left).faults ≡ 0
      → (copy : ℕ) → ¬ (HasFailed (begun runs.run).opener.vault (ended runs.run).after.vault copy)
  none_failed config texts seed folders vault status left_folders left runs calm copy failed =
      not_risen (begun runs.run).opener.vault.faults (ended runs.run).after.vault.faults (none_rose config texts seed folders vault status left_folders left runs calm) failed.rose

  -- it was asked for a sync
  is_asked : (config : List ℕ) (texts : List (List ℕ)) (seed : List ℕ) (folders : List FolderView) (vault : VaultView) (last : LastSynced) (trees : List Tree) (status : ℕ) (left_folders : List F) (left : V)
      → (runs : RunsOver opener_view folder_view vault_view sink_view config texts seed folders vault status left_folders left)
      → (asks : AskForSync texts config) → trees_of folders ≡ trees
      → IsAskedToSync opener_view folder_view vault_view sink_view asks.setup.setup trees seed (standing_of config folders vault last) runs.run
  is_asked config texts seed folders vault last trees status left_folders left runs asks same =
      record {
        asked = asks.asked;
        way = asks.way;
        words = subst (λ (ts : List (List ℕ)). asked_by ts ≡ Ok asks.asked) (sym runs.texts_are) asks.words;
        command_is = asks.command_is;
        says = asks.setup.says;
        trees_are = same;
        seed_is = λ none. runs.seed_is;
      }

  pub is_sync : (config : List ℕ) (texts : List (List ℕ)) (seed : List ℕ) (folders : List FolderView) (vault : VaultView) (last : LastSynced) (trees : List Tree) (status : ℕ) (left_folders : List F) (left : V) (next : Standing)
      → (runs : RunsOver opener_view folder_view vault_view sink_view config texts seed folders vault status left_folders left) → (vault_view left).faults ≡ 0
      → (asks : AskForSync texts config) → trees_of folders ≡ trees → Goes runs.run (standing_of config folders vault last) next
      → IsSyncOver opener_view folder_view vault_view sink_view asks.setup.setup trees seed (standing_of config folders vault last) runs.run next
  is_sync config texts seed folders vault last trees status left_folders left next runs calm asks same goes =
      record {
        goes = goes;
        asked = is_asked config texts seed folders vault last trees status left_folders left runs asks same;
        reads_well = loads_well (begun runs.run) (ended runs.run) goes.step.always.did goes.step.always.is_did (none_failed config texts seed folders vault status left_folders left runs calm);
      }

  -- a sync that ended with status 0
  pub syncs_clean : (config : List ℕ) (texts : List (List ℕ)) (seed : List ℕ) (folders : List FolderView) (vault : VaultView) (last : LastSynced) (trees : List Tree) (status : ℕ) (left_folders : List F) (left : V)
      → Headline opener_view folder_view vault_view sink_view (standing_of config folders vault last)
      → (runs : RunsOver opener_view folder_view vault_view sink_view config texts seed folders vault status left_folders left) → (vault_view left).faults ≡ 0
      → (asks : AskForSync texts config) → trees_of folders ≡ trees → status ≡ 0
      → (next : Standing) × SyncsClean opener_view folder_view vault_view sink_view asks.setup.setup trees seed (standing_of config folders vault last) runs.run next
  syncs_clean config texts seed folders vault last trees status left_folders left headline runs calm asks same zero =
      let step = runs.step in
      let has : (ended runs.run).has_vault ≡ true = ap (λ (v : Option V). is_some v) runs.vault_is in
      let at_end = headline.arrives runs.run (runs.begins last) step has
      (no_chance step.always.did (quiet_run opener_view folder_view vault_view sink_view config texts seed folders vault status left_folders left runs (no_fix texts config asks) step.always.did step.always.is_did) last.snapshot) in (
        at_end.0,
        record {
          sync = is_sync config texts seed folders vault last trees status left_folders left at_end.0 runs calm asks same at_end.3;
          clean = runs.status_is ∙ zero;
          stands = inl at_end.1;
        },
      )

  pub begins_nothing : (config : List ℕ) (folders : List FolderView) (levels copies : ℕ) (value : VaultValue) → value ≡ fresh_vault levels copies
      → IsOrigin (standing_of config folders (view_of value) nothing_synced)
  begins_nothing config folders levels copies value fresh =
      subst (λ (v : VaultValue). IsOrigin (standing_of config folders (view_of v) nothing_synced)) (sym fresh) (origin config folders levels copies)

  -- what stands before two syncs of one array
  pub same_first : (config : List ℕ) (folders others : List FolderView) (levels copies : ℕ) (value other : VaultValue) → value ≡ fresh_vault levels copies → other ≡ fresh_vault levels copies
      → trees_of others ≡ trees_of folders → standing_of config others (view_of other) nothing_synced ≡ standing_of config folders (view_of value) nothing_synced
  same_first config folders others levels copies value other fresh fresh_too same =
      ap (λ (v : VaultValue). standing_of config others (view_of v) nothing_synced) (fresh_too ∙ sym fresh)
      ∙ ap (λ (trees : List Tree). record { config = config; trees = trees; copies = copies_of (view_of value); files = files_seen config (view_of value); last = nothing_synced }) same

  -- a run that changes nothing leaves what stands
  kept_by : (standing next : Standing) (run : RunOf O F V W) → Headline opener_view folder_view vault_view sink_view standing → Goes run standing next → AskForNoChange run.texts → next ≡ standing
  kept_by standing next run headline goes asks = headline.quiet run next goes (inr (asks.asked, asks.words, asks.changes_nothing))

  -- one array is synced whole; and it is synced and stopped, read, and synced again
  resumed_by : (setup : SetupValue) (trees : List Tree) (seed : List ℕ) (first later still once again : Standing) (stopped between whole last : RunOf O F V W)
      → IsOrigin first → Headline opener_view folder_view vault_view sink_view first → IsSyncOver opener_view folder_view vault_view sink_view setup trees seed first stopped later
      → Goes between later still → still ≡ later → SyncsClean opener_view folder_view vault_view sink_view setup trees seed first whole once
      → SyncsClean opener_view folder_view vault_view sink_view setup trees seed still last again → IsResumedOnce opener_view folder_view vault_view sink_view
  resumed_by setup trees seed first later still once again stopped between whole last is_first headline sync goes_between same clean resumed =
      let stays : still.files ≡ later.files = ap (λ (standing : Standing). standing.files) same in
      record {
        first = first;
        later = later;
        still = still;
        once = once;
        again = again;
        setup = setup;
        trees = trees;
        seed = seed;
        stopped = stopped;
        between = between;
        whole = whole;
        last = last;
        origin = is_first;
        sync = sync;
        goes_between = goes_between;
        stays = stays;
        clean = clean;
        resumed = resumed;
        alike = headline.resumed setup trees seed (record { change = Runs stopped; next = later } ∷ record { change = Runs between; next = still } ∷ [])
            still once again whole last (sync.goes, (goes_between, refl)) (inl sync, (inr stays, tt)) clean resumed;
      }

  -- the last sync, of what stands after the run between
  resumed_last : (config : List ℕ) (texts : List (List ℕ)) (seed : List ℕ) (trees : List Tree) (first later once : Standing) (stopped between whole : RunOf O F V W) (folders : List FolderView) (kept : VaultView)
      (then : LastSynced) (status : ℕ) (last_folders : List F) (left : V)
      → HoldsAlways → IsOrigin first → (asks : AskForSync texts config) → IsSyncOver opener_view folder_view vault_view sink_view asks.setup.setup trees seed first stopped later
      → Goes between later (standing_of config folders kept then) → standing_of config folders kept then ≡ later → later.trees ≡ trees
      → SyncsClean opener_view folder_view vault_view sink_view asks.setup.setup trees seed first whole once
      → RunsOver opener_view folder_view vault_view sink_view config texts seed folders kept status last_folders left → (vault_view left).faults ≡ 0 → status ≡ 0
      → IsResumedOnce opener_view folder_view vault_view sink_view
  resumed_last config texts seed trees first later once stopped between whole folders kept then status last_folders left holds is_first asks sync goes_between same trees_are clean last calm zero =
      let still : Standing = standing_of config folders kept then in
      let history : IsHistory opener_view folder_view vault_view sink_view first (record { change = Runs stopped; next = later } ∷ record { change = Runs between; next = still } ∷ []) still
      = (sync.goes, (goes_between, refl)) in
      let again = syncs_clean config texts seed folders kept then trees status last_folders left
      (holds first still (record { change = Runs stopped; next = later } ∷ record { change = Runs between; next = still } ∷ []) is_first history) last calm asks
      (ap (λ (standing : Standing). standing.trees) same ∙ trees_are) zero in
      resumed_by asks.setup.setup trees seed first later still once again.0 stopped between whole last.run is_first (holds first first [] is_first refl) sync goes_between same clean again.1

  -- the run between, over what the stopped sync left
  resumed_between : (config : List ℕ) (texts other_texts : List (List ℕ)) (seed : List ℕ) (trees : List Tree) (first once : Standing) (stopped whole : RunOf O F V W) (folders : List FolderView) (made kept : VaultView)
      (then : LastSynced) (status_between status_last : ℕ) (between_folders last_folders : List F) (left_between left_last : V)
      → HoldsAlways → IsOrigin first → (asks : AskForSync texts config) → AskForNoChange other_texts
      → IsSyncOver opener_view folder_view vault_view sink_view asks.setup.setup trees seed first stopped (standing_of config folders made then) → trees_of folders ≡ trees
      → SyncsClean opener_view folder_view vault_view sink_view asks.setup.setup trees seed first whole once
      → RunsOver opener_view folder_view vault_view sink_view config other_texts seed folders made status_between between_folders left_between
      → IsLeftOf (vault_view left_between) kept → copies_of kept ≡ copies_of made
      → RunsOver opener_view folder_view vault_view sink_view config texts seed (map folder_view between_folders) kept status_last last_folders left_last → (vault_view left_last).faults ≡ 0 → status_last ≡ 0
      → IsResumedOnce opener_view folder_view vault_view sink_view
  resumed_between config texts other_texts seed trees first once stopped whole folders made kept then status_between status_last between_folders last_folders left_between left_last
      holds is_first asks asks_nothing sync trees_are clean between kept_of as_many last calm zero =
      let later : Standing = standing_of config folders made then in
      let headline = holds first later (record { change = Runs stopped; next = later } ∷ []) is_first (sync.goes, refl) in
      let going = goes_with opener_view folder_view vault_view sink_view config other_texts seed folders made kept then status_between between_folders left_between
      headline between (no_fix_of other_texts asks_nothing) kept_of as_many in
      resumed_last config texts seed trees first later once stopped between.run whole (map folder_view between_folders) kept going.0 status_last last_folders left_last holds is_first asks sync going.1
      (kept_by later (standing_of config (map folder_view between_folders) kept going.0) between.run headline going.1 (subst AskForNoChange (sym between.texts_are) asks_nothing)) trees_are clean last calm zero

  pub resumed_once : (config : List ℕ) (texts other_texts : List (List ℕ)) (seed : List ℕ) (levels copies : ℕ) (value other : VaultValue) (folders : List FolderView) (made kept : VaultView)
      (status status_then status_between status_last : ℕ) (left_folders then_folders between_folders last_folders : List F) (left left_then left_between left_last : V)
      → HoldsAlways → value ≡ fresh_vault levels copies → other ≡ fresh_vault levels copies → AskForSync texts config → AskForNoChange other_texts
      → RunsOver opener_view folder_view vault_view sink_view config texts seed folders (view_of value) status left_folders left → (vault_view left).faults ≡ 0 → status ≡ 0
      → RunsOver opener_view folder_view vault_view sink_view config texts seed (map folder_view left_folders) (view_of other) status_then then_folders left_then → (vault_view left_then).faults ≡ 0
      → IsLeftOf (vault_view left_then) made → copies_of made ≡ copies_of (view_of other)
      → RunsOver opener_view folder_view vault_view sink_view config other_texts seed (map folder_view then_folders) made status_between between_folders left_between
      → IsLeftOf (vault_view left_between) kept → copies_of kept ≡ copies_of made
      → RunsOver opener_view folder_view vault_view sink_view config texts seed (map folder_view between_folders) kept status_last last_folders left_last → (vault_view left_last).faults ≡ 0 → status_last ≡ 0
      → IsResumedOnce opener_view folder_view vault_view sink_view
  resumed_once config texts other_texts seed levels copies value other folders made kept status status_then status_between status_last left_folders then_folders between_folders last_folders
      left left_then left_between left_last holds fresh fresh_too asks asks_nothing whole calm zero stopped calm_then left_of as_many between kept_of as_many_still last calm_last zero_last =
      let first : Standing = standing_of config folders (view_of value) nothing_synced in
      let first_too : Standing = standing_of config (map folder_view left_folders) (view_of other) nothing_synced in
      let is_first : IsOrigin first = begins_nothing config folders levels copies value fresh in
      let headline = holds first first [] is_first refl in
      let headline_too = holds first_too first_too [] (begins_nothing config (map folder_view left_folders) levels copies other fresh_too) refl in
      let asks_no_fix = no_fix texts config asks in
      let same : trees_of (map folder_view left_folders) ≡ trees_of folders = trees_kept opener_view folder_view vault_view sink_view config texts seed folders (view_of value) nothing_synced status left_folders left headline whole asks_no_fix in
      let same_too : trees_of (map folder_view then_folders) ≡ trees_of folders
      = trees_kept opener_view folder_view vault_view sink_view config texts seed (map folder_view left_folders) (view_of other) nothing_synced status_then then_folders left_then headline_too stopped asks_no_fix ∙ same in
      let are_one : first_too ≡ first = same_first config folders (map folder_view left_folders) levels copies value other fresh fresh_too same in
      let once = syncs_clean config texts seed folders (view_of value) nothing_synced (trees_of folders) status left_folders left headline whole calm asks refl zero in
      let going = goes_with opener_view folder_view vault_view sink_view config texts seed (map folder_view left_folders) (view_of other) made nothing_synced status_then then_folders left_then headline_too stopped asks_no_fix left_of as_many in
      resumed_between config texts other_texts seed (trees_of folders) first once.0 stopped.run whole.run (map folder_view then_folders) made kept going.0 status_between status_last between_folders last_folders
      left_between left_last holds is_first asks asks_nothing
      (subst (λ (s : Standing). IsSyncOver opener_view folder_view vault_view sink_view asks.setup.setup (trees_of folders) seed s stopped.run (standing_of config (map folder_view then_folders) made going.0)) are_one
      (is_sync config texts seed (map folder_view left_folders) (view_of other) nothing_synced (trees_of folders) status_then then_folders left_then (standing_of config (map folder_view then_folders) made going.0)
      stopped calm_then asks same going.1))
      same_too once.1 between kept_of as_many_still last calm_last zero_last

  pub synced_at_last : (config : List ℕ) (texts : List (List ℕ)) (seed : List ℕ) (folders : List FolderView) (vault : VaultView) (statuses : List ℕ) (status : ℕ) (left_folders : List F) (left : V)
      → HoldsAlways → HasHistory opener_view folder_view vault_view sink_view config folders vault statuses → AskForSync texts config
      → RunsOver opener_view folder_view vault_view sink_view config texts seed folders vault status left_folders left → status ≤ 1
      → IsSyncedAtLast opener_view folder_view vault_view sink_view status
  synced_at_last config texts seed folders vault statuses status left_folders left holds has asks runs well =
      let standing : Standing = standing_of config folders vault has.last in
      let headline = holds has.first standing has.stages has.origin has.history in
      let step = runs.step in
      let given : (ended runs.run).has_vault ≡ true = ap (λ (v : Option V). is_some v) runs.vault_is in
      let quiet = quiet_run opener_view folder_view vault_view sink_view config texts seed folders vault status left_folders left runs (no_fix texts config asks) step.always.did step.always.is_did in
      let at_end = headline.arrives runs.run (runs.begins has.last) step given (no_chance step.always.did quiet has.last.snapshot) in
      let syncs : SyncsWell opener_view folder_view vault_view sink_view runs.run = record {
        asked = asks.asked;
        way = asks.way;
        words = subst (λ (ts : List (List ℕ)). asked_by ts ≡ Ok asks.asked) (sym runs.texts_are) asks.words;
        command_is = asks.command_is;
        well = inl (omega (arith, well, runs.status_is));
      } in
      record {
        first = has.first;
        standing = standing;
        next = at_end.0;
        stages = has.stages;
        run = runs.run;
        origin = has.origin;
        history = has.history;
        status_is = runs.status_is;
        goes = at_end.3;
        syncs = syncs;
        stands = inl at_end.1;
        synced = headline.synced runs.run at_end.0 at_end.3 syncs (inl at_end.1);
      }

  pub fixed_at_last : (config : List ℕ) (texts : List (List ℕ)) (seed : List ℕ) (folders : List FolderView) (vault : VaultView) (statuses : List ℕ) (status : ℕ) (left_folders : List F) (left : V)
      → HoldsAlways → HasHistory opener_view folder_view vault_view sink_view config folders vault statuses → AskForFix texts
      → RunsOver opener_view folder_view vault_view sink_view config texts seed folders vault status left_folders left → status ≤ 1
      → IsFixedAtLast opener_view folder_view vault_view sink_view status
  fixed_at_last config texts seed folders vault statuses status left_folders left holds has asks runs well =
      let standing : Standing = standing_of config folders vault has.last in
      let headline = holds has.first standing has.stages has.origin has.history in
      let given : (ended runs.run).has_vault ≡ true = ap (λ (v : Option V). is_some v) runs.vault_is in
      let fixes : FixesToItsEnd opener_view folder_view vault_view sink_view runs.run = record {
        asked = asks.asked;
        selection = asks.selection;
        words = subst (λ (ts : List (List ℕ)). asked_by ts ≡ Ok asks.asked) (sym runs.texts_are) asks.words;
        command_is = asks.command_is;
        well = inl (omega (arith, well, runs.status_is));
      } in
      record {
        first = has.first;
        standing = standing;
        stages = has.stages;
        run = runs.run;
        origin = has.origin;
        history = has.history;
        status_is = runs.status_is;
        begins = runs.begins has.last;
        step = runs.step;
        fixes = fixes;
        restores = λ genuine.
            let at_end = headline.arrives runs.run (runs.begins has.last) runs.step given genuine in
            (at_end.0, at_end.3, at_end.2, headline.restores runs.run at_end.0 at_end.3 fixes at_end.2);
      }
