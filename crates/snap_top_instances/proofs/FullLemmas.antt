-- A sync of an array without content, a stopped one, and one more: the last one is the full sync of what there was before.
use Rattle.std.proofs.Common.{◌≡◌, inl, ℕ, ◌<◌, List, [], ◌∷◌, length, map, take, Option, Ok, refl, sym, ap, ◌∙◌, subst, arith}
use Rattle.content_file.specs.Load.{HasFailed}
use Rattle.disk_model.specs.Files.{Files, parity_of}
use Rattle.disk_model.specs.Folder.{FolderView}
use Rattle.disk_model.specs.Opener.{OpenerView}
use Rattle.disk_model.specs.Sink.{SinkView}
use Rattle.disk_model.specs.Tree.{Tree}
use Rattle.disk_model.specs.Vault.{VaultView, copies_of}
use Rattle.disk_memory.specs.Vault.{VaultValue, fresh_vault, view_of}
use Rattle.file_table.specs.Table.{TableValue}
use Rattle.snap_config.specs.Config.{read_setup}
use Rattle.array_setup.specs.Setup.{SetupValue}
use Rattle.snap_config.specs.declared.options.Options.{Options}
use Rattle.snap_sync.specs.Part.{IsFullSync, run_trees, trees_of}
use Rattle.snap_top.specs.Headline.{Headline, IsSyncOver, SyncsClean, SyncsWell}
use Rattle.snap_top.specs.Levels.{by_setup, said_by}
use Rattle.snap_top.specs.InPart.{EndsInPart}
use Rattle.snap_top.specs.Asked.{asked_by}
use Rattle.snap_top.specs.RunOf.{RunOf}
use Rattle.snap_top.specs.Entry.{Entry, Exit, vault_in}
use Rattle.snap_top.specs.Standing.{BeginsOver, IsOrigin, Runs, Stage, Standing, after_of, before_of, nothing_synced}
use Rattle.snap_top.specs.Sync.{BeginsFrom, end_table}
use Rattle.snap_top.proofs.AskedLemmas.{setup_read, well_in}
use Rattle.snap_top.proofs.CompleteLemmas.{same_ok}
use Rattle.snap_top_histories.specs.Lived.{AskForSync, IsLeftOf, RunsOver, files_seen, standing_of}
use Rattle.snap_top_histories.proofs.LivedLemmas.{goes_with, trees_kept}
use Rattle.snap_top_histories.proofs.ResumedLemmas.{HoldsAlways, begins_nothing, is_sync, no_fix, none_failed, same_first, syncs_clean}
use Rattle.snap_top_histories.proofs.SeenLemmas.{files_whole, splits}
use Rattle.snap_top_instances.specs.Asked.{HasWholeLevels}
use Rattle.snap_top_instances.specs.Resumed.{IsResumedWhole}

-- the full sync of what stands, from the table that its copies hold, leaves these files
pub record HasFull (setup : SetupValue) (trees : List Tree) (seed : List ℕ) (standing : Standing) (full : Files) : Type 0 where
  pub loaded : TableValue
  pub table : TableValue
  pub now : ℕ
  pub copies_are : standing.copies ≡ length setup.contents
  pub begins : BeginsFrom setup seed standing.copies standing.files loaded
  pub is_full : IsFullSync setup loaded trees now standing.files table full

-- so it is of a sync with status 0, of which no reading of a copy failed
full_in : (setup : SetupValue) (trees : List Tree) (seed : List ℕ) (standing : Standing) (before : Entry) (exit : Exit) (status : ℕ) → BeginsOver standing before → (asked : Options) → asked_by before.texts ≡ Ok asked
    → read_setup (take 1048577 standing.config) asked.log ≡ Ok setup → standing.trees ≡ trees → before.seed ≡ seed → EndsInPart before exit status → status ≡ 0
    → ((copy : ℕ) → ¬ (HasFailed before.opener.vault exit.after.vault copy)) → HasFull setup trees seed standing exit.after.vault.files
full_in setup trees seed standing before exit status over asked words says trees_are seed_is ends zero calm =
    let is = ends.is_sync in
    let same : ends.run.setup ≡ setup = same_ok (read_setup (take 1048577 standing.config) asked.log) ends.run.setup setup
    (ap (λ (bytes : List ℕ). read_setup (take 1048577 bytes) asked.log) (sym over.config) ∙ setup_read before over.tells.tells asked words _ is.readers ends.run.setup is.configured) says in
    let full : Files = exit.after.vault.files in
    let now : ℕ = ends.run.plan.now in
    let loaded : TableValue = ends.run.loaded in
    let table : TableValue = end_table ends.run in
    let clean = ends.status_is.clean.0 zero in
    let holds : IsFullSync ends.run.setup loaded (run_trees ends.run) now before.opener.vault.files table full = (ends.full clean.1).reads ends.tells in
    let begins : BeginsFrom ends.run.setup before.seed (copies_of before.opener.vault) before.opener.vault.files loaded = is.loading.from (well_in before exit is.loading calm) in
    record {
      loaded = loaded;
      table = table;
      now = now;
      copies_are = sym over.copies ∙ is.copies_are ∙ ap (λ (s : SetupValue). length s.contents) same;
      begins =
          subst (λ (s : SetupValue). BeginsFrom s seed standing.copies standing.files loaded) same
          (subst (λ (it : List ℕ). BeginsFrom ends.run.setup it standing.copies standing.files loaded) seed_is
          (subst (λ (n : ℕ). BeginsFrom ends.run.setup before.seed n standing.files loaded) over.copies
          (subst (λ (fs : Files). BeginsFrom ends.run.setup before.seed (copies_of before.opener.vault) fs loaded) over.files begins)));
      is_full =
          subst (λ (s : SetupValue). IsFullSync s loaded trees now standing.files table full) same
          (subst (λ (ts : List Tree). IsFullSync ends.run.setup loaded ts now standing.files table full) (ap trees_of is.folders_are ∙ over.trees ∙ trees_are)
          (subst (λ (fs : Files). IsFullSync ends.run.setup loaded (run_trees ends.run) now fs table full) over.files holds));
    }

module _ {O F V W : Type 0} (opener_view : O → OpenerView) (folder_view : F → FolderView) (vault_view : V → VaultView) (sink_view : W → SinkView) where
  abbrev begun : RunOf O F V W → Entry
  begun run = before_of opener_view folder_view vault_view sink_view run

  abbrev ended : RunOf O F V W → Exit
  ended run = after_of opener_view folder_view vault_view sink_view run

  -- what a run left in the vault, where each level has one file
  pub files_left : (config : List ℕ) (texts : List (List ℕ)) (seed : List ℕ) (folders : List FolderView) (vault : VaultView) (status : ℕ) (left_folders : List F) (left : V)
      → (runs : RunsOver opener_view folder_view vault_view sink_view config texts seed folders vault status left_folders left) → HasWholeLevels config
      → (ended runs.run).after.vault.files ≡ (vault_view left).files
  files_left config texts seed folders vault status left_folders left runs whole =
      ap (λ (v : Option V). (by_setup (said_by (opener_view runs.run.opener).config) (vault_in vault_view (opener_view runs.run.opener_new).vault v)).files) runs.vault_is
      ∙ ap (λ (cs : List ℕ). files_seen cs (vault_view left)) (runs.begins nothing_synced).config
      ∙ files_whole (said_by config) (vault_view left) (ap splits whole.says ∙ whole.whole)

  -- the full sync that a sync with status 0 was
  full_of : (setup : SetupValue) (trees : List Tree) (seed : List ℕ) (standing next : Standing) (run : RunOf O F V W) → Headline opener_view folder_view vault_view sink_view standing
      → SyncsClean opener_view folder_view vault_view sink_view setup trees seed standing run next → (begun run).seed ≡ seed
      → ((copy : ℕ) → ¬ (HasFailed (begun run).opener.vault (ended run).after.vault copy)) → HasFull setup trees seed standing (ended run).after.vault.files
  full_of setup trees seed standing next run headline clean seed_is calm =
      let asks = clean.sync.asked in
      let syncs : SyncsWell opener_view folder_view vault_view sink_view run = record {
        asked = asks.asked;
        way = asks.way;
        words = asks.words;
        command_is = asks.command_is;
        well = inl (omega (arith, clean.clean));
      } in
      let last = headline.synced run next clean.sync.goes syncs clean.stands in
      full_in setup trees seed standing (begun run) (ended run) run.status clean.sync.goes.over asks.asked asks.words asks.says asks.trees_are seed_is last.ends clean.clean calm

  -- by all that stands
  whole_by : (setup : SetupValue) (trees : List Tree) (seed : List ℕ) (first later again : Standing) (stopped last : RunOf O F V W) (full : Files)
      → IsOrigin first → Headline opener_view folder_view vault_view sink_view first → IsSyncOver opener_view folder_view vault_view sink_view setup trees seed first stopped later
      → SyncsClean opener_view folder_view vault_view sink_view setup trees seed later last again → HasFull setup trees seed first full → 0 < length (parity_of full 0)
      → IsResumedWhole opener_view folder_view vault_view sink_view
  whole_by setup trees seed first later again stopped last full is_first headline sync resumed has wrote =
      let stop : Stage O F V W = record { change = Runs stopped; next = later } in
      let stages : List (Stage O F V W) = stop ∷ [] in
      record {
        first = first;
        still = later;
        again = again;
        setup = setup;
        trees = trees;
        seed = seed;
        stages = stages;
        last = last;
        loaded = has.loaded;
        table = has.table;
        now = has.now;
        full = full;
        wrote = wrote;
        stop = stop;
        stages_are = refl;
        is_sync = sync;
        origin = is_first;
        copies_are = has.copies_are;
        history = (sync.goes, refl);
        stopped = (inl sync, tt);
        resumed = resumed;
        begins = has.begins;
        is_full = has.is_full;
        ends = headline.in_full setup trees seed stages later again last has.loaded has.table has.now full has.copies_are (sync.goes, refl) (inl sync, tt) resumed has.begins has.is_full;
      }

  pub resumed_whole : (config : List ℕ) (texts : List (List ℕ)) (seed : List ℕ) (levels copies : ℕ) (value other : VaultValue) (folders : List FolderView) (made : VaultView)
      (status status_then status_last : ℕ) (left_folders then_folders last_folders : List F) (left left_then left_last : V)
      → HoldsAlways opener_view folder_view vault_view sink_view → value ≡ fresh_vault levels copies → other ≡ fresh_vault levels copies → AskForSync texts config → HasWholeLevels config
      → RunsOver opener_view folder_view vault_view sink_view config texts seed folders (view_of value) status left_folders left → (vault_view left).faults ≡ 0 → status ≡ 0
      → 0 < length (parity_of (vault_view left).files 0)
      → RunsOver opener_view folder_view vault_view sink_view config texts seed (map folder_view left_folders) (view_of other) status_then then_folders left_then → (vault_view left_then).faults ≡ 0
      → IsLeftOf (vault_view left_then) made → copies_of made ≡ copies_of (view_of other)
      → RunsOver opener_view folder_view vault_view sink_view config texts seed (map folder_view then_folders) made status_last last_folders left_last → (vault_view left_last).faults ≡ 0 → status_last ≡ 0
      → IsResumedWhole opener_view folder_view vault_view sink_view
  resumed_whole config texts seed levels copies value other folders made status status_then status_last left_folders then_folders last_folders left left_then left_last
      holds fresh fresh_too asks whole_levels whole calm zero wrote stopped calm_then left_of as_many last calm_last zero_last =
      let setup : SetupValue = asks.setup.setup in
      let first : Standing = standing_of config folders (view_of value) nothing_synced in
      let first_too : Standing = standing_of config (map folder_view left_folders) (view_of other) nothing_synced in
      let is_first : IsOrigin first = begins_nothing opener_view folder_view vault_view sink_view config folders levels copies value fresh in
      let is_first_too : IsOrigin first_too = begins_nothing opener_view folder_view vault_view sink_view config (map folder_view left_folders) levels copies other fresh_too in
      let headline = holds first first [] is_first refl in
      let headline_too = holds first_too first_too [] is_first_too refl in
      let asks_no_fix = no_fix texts config asks in
      let same : trees_of (map folder_view left_folders) ≡ trees_of folders
      = trees_kept opener_view folder_view vault_view sink_view config texts seed folders (view_of value) nothing_synced status left_folders left headline whole asks_no_fix in
      let same_too : trees_of (map folder_view then_folders) ≡ trees_of folders
      = trees_kept opener_view folder_view vault_view sink_view config texts seed (map folder_view left_folders) (view_of other) nothing_synced status_then then_folders left_then headline_too stopped asks_no_fix ∙ same in
      let are_one : first_too ≡ first = same_first opener_view folder_view vault_view sink_view config folders (map folder_view left_folders) levels copies value other fresh fresh_too same in
      let once = syncs_clean opener_view folder_view vault_view sink_view config texts seed folders (view_of value) nothing_synced (trees_of folders) status left_folders left headline whole calm asks refl zero in
      let going = goes_with opener_view folder_view vault_view sink_view config texts seed (map folder_view left_folders) (view_of other) made nothing_synced status_then then_folders left_then headline_too stopped asks_no_fix left_of as_many in
      let later : Standing = standing_of config (map folder_view then_folders) made going.0 in
      let sync : IsSyncOver opener_view folder_view vault_view sink_view setup (trees_of folders) seed first stopped.run later
      = subst (λ (s : Standing). IsSyncOver opener_view folder_view vault_view sink_view setup (trees_of folders) seed s stopped.run later) are_one
      (is_sync opener_view folder_view vault_view sink_view config texts seed (map folder_view left_folders) (view_of other) nothing_synced (trees_of folders) status_then then_folders left_then later
      stopped calm_then asks same going.1) in
      let again = syncs_clean opener_view folder_view vault_view sink_view config texts seed (map folder_view then_folders) made going.0 (trees_of folders) status_last last_folders left_last
      (holds first later (record { change = Runs stopped.run; next = later } ∷ []) is_first (sync.goes, refl)) last calm_last asks same_too zero_last in
      let has = full_of setup (trees_of folders) seed first once.0 whole.run headline once.1 whole.seed_is
      (none_failed opener_view folder_view vault_view sink_view config texts seed folders (view_of value) status left_folders left whole calm) in
      whole_by setup (trees_of folders) seed first later again.0 stopped.run last.run (ended whole.run).after.vault.files is_first headline sync again.1 has
      (subst (λ (fs : Files). 0 < length (parity_of fs 0)) (sym (files_left config texts seed folders (view_of value) status left_folders left whole whole_levels)) wrote)
