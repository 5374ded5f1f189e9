-- A check of an array whose disks were lost, and a fix of it that leaves something: the check names a cell that can't be restored.
use Rattle.std.proofs.Common.{◌≡◌, inl, inr, ⊎_elim, ℕ, zero, suc, ◌<◌, ◌≤◌, List, [], ◌∷◌, length, map, get_or, Bool, true, false, IsTrue, Option, None, Some, refl, sym, ap, ◌∙◌, subst, arith}
use Rattle.std.specs.Prelude.{count_by}
use Rattle.std.specs.Cmp.Lexicographic.{slice_cmp}
use Rattle.std.specs.FinMap as finite_map
use Rattle.std.specs.Ordering.{nat_cmp}
use Rattle.std.specs.List.{Contains}
use Rattle.std.proofs.lemmas.Bool.{cases_lt}
use Rattle.std.proofs.lemmas.List.{get_or_past}
use Rattle.content_file.specs.Load.{Loads}
use Rattle.disk_memory.specs.Folder.{fresh_folder}
use Rattle.disk_memory.specs.Vault.{VaultValue, fresh_vault, view_of}
use Rattle.disk_model.specs.Files.{Files}
use Rattle.disk_model.specs.Folder.{FolderView}
use Rattle.disk_model.specs.Opener.{OpenerView}
use Rattle.disk_model.specs.Sink.{SinkView}
use Rattle.disk_model.specs.Tree.{File, Tree, file_of, listing_of, meta_of, path_of}
use Rattle.disk_model.specs.Vault.{VaultView, copies_of}
use Rattle.file_table.specs.Table.{TableValue, info_at, is_synced_mark}
use Rattle.file_table.specs.declared.info.Mark.{Mark}
use Rattle.parity_writer.specs.Sound.{Sound, Closed, last_row}
use Rattle.snap_config.specs.declared.options.Command.TheVariants as commands
use Rattle.snap_fix.specs.Fixing.{facts_of}
use Rattle.snap_fix.specs.Genuine.{AreGenuine, IsIntactLevel, TellsIntactLevels}
use Rattle.snap_report.specs.Kind.{is_finding, is_left}
use Rattle.snap_report.specs.declared.events.Event.{Event}
use Rattle.snap_sync.specs.Part.{AllTell, tree_at, trees_of}
use Rattle.stripe_examiner.specs.Facts.{StripeFacts}
use Rattle.stripe_examiner.specs.Known.{whole_level}
use Rattle.repair_scope.specs.Plan.{is_audit, names_of}
use Rattle.repair_scope.specs.declared.scope.Mode.TheVariants as modes
use Rattle.snap_top.specs.Alike.{AskAlike, FixAlike}
use Rattle.snap_top.specs.Check.{CheckRun}
use Rattle.snap_top.specs.Ended.{ByStatus}
use Rattle.snap_top.specs.Fix.{FixRun}
use Rattle.snap_top.specs.Headline.{Headline}
use Rattle.snap_top.specs.LastSynced.{AreSoundBy, LastSynced, synced_by}
use Rattle.snap_top.specs.Levels.{said_by}
use Rattle.snap_top.specs.Lost.{IsDamagedOfSynced, NamesLost}
use Rattle.snap_top.specs.Effect.{effect}
use Rattle.snap_top.specs.Began.{IsFixOf}
use Rattle.snap_top.specs.Naming.{EndsChecked, events_found}
use Rattle.snap_top.specs.Restoring.{EndsFixed, events_in}
use Rattle.snap_top.specs.RunOf.{RunOf}
use Rattle.snap_top.specs.Entry.{Entry, Exit}
use Rattle.snap_top.specs.Standing.{BeginsOver, Edits, GoesOver, IsHistory, IsOrigin, Runs, Stage, Standing, after_of, before_of, nothing_synced}
use Rattle.snap_top.specs.Taken.{IsTakenFrom}
use Rattle.snap_top.specs.Did.{fixes}
use Rattle.snap_top.specs.Undamaged.{IsUndamaged}
use Rattle.snap_top.proofs.AlikeLemmas.{FixFindsWhatACheckFinds}
use Rattle.snap_top.proofs.AskedLemmas.{unfailed}
use Rattle.snap_top.proofs.HeldLemmas.{list_is}
use Rattle.snap_top.proofs.KeptLemmas.{kept_in}
use Rattle.snap_top.proofs.OfFixLemmas.{loaded_sound}
use Rattle.snap_top.proofs.OneArrayLemmas.{FactsInMode, check_tells}
use Rattle.snap_top.proofs.ResumeLemmas.{begins_same}
use Rattle.snap_top.proofs.SeenLemmas.{IsDetermined}
use Rattle.snap_top.proofs.SyncedLemmas.{OneTable}
use Rattle.snap_top_histories.specs.Lived.{AskForNoFix, IsLeftOf, IsNoFix, standing_of}
use Rattle.snap_top_histories.specs.Repeated.{are_calm}
use Rattle.snap_top_histories.proofs.OnceLemmas.{MeetsNone, left_of_one}
use Rattle.snap_top_histories.proofs.RepeatedLemmas.{few_is, hold_alike, nothing_rose}
use Rattle.snap_top_histories.proofs.ResumedLemmas.{HoldsAlways}
use Rattle.snap_top_histories.proofs.SeenLemmas.{contents_seen}
use Rattle.snap_top_instances.specs.Asked.{AsksFor, everything, plain_sync}
use Rattle.snap_top_instances.specs.Told.{RunsTold}
use Rattle.snap_top_instances.proofs.SmoothLemmas.{content_by, first_content}
use Rattle.snap_top_restores.specs.Named.{AllSynced, AreRunOverLost, HoldsSynced, IsNamedLost}
use Rattle.snap_top_restores.proofs.AsFixedLemmas.{alike, genuine_then, intact_then}
use Rattle.snap_top_restores.proofs.LostCellLemmas.{LostCell, left_found, left_lost, none_blocked, searched_of}
use Rattle.snap_top_restores.proofs.CountLemmas.{some_counted}
use Rattle.snap_top_instances.proofs.EndsLemmas.{asks_alike, counted_some, ended_as}
use Rattle.snap_top.proofs.HistoryLemmas.{last_bytes}
use Rattle.snap_top.proofs.UnchangedLemmas.{unchanged_without}

-- ---- the stripes of a table

-- one stripe, which is synced
pub synced_of : (table : TableValue) (count : ℕ) (mark : Mark) → count ≡ length table.infos → count ≡ 1 → mark ≡ (info_at table.infos 0).mark → is_synced_mark mark ≡ true → AllSynced table
synced_of table count mark many one marked synced stripe within =
    let here : stripe ≡ 0 = omega (arith, many, one, within) in
    subst (λ (k : ℕ). is_synced_mark (info_at table.infos k).mark ≡ true) (sym here) (sym (ap is_synced_mark marked) ∙ synced)

-- what was loaded, if no call failed
pub synced_loaded : (old new : VaultView) (loaded : Option TableValue) (table : TableValue) → IsTrue old.tells → Loads old new loaded → loaded ≡ Some table → new.faults ≡ 0 → AllSynced table → HoldsSynced old
synced_loaded old new loaded table tells loads is calm synced = record {
  table = table;
  content = first_content old new table tells (subst (Loads old new) is loads) calm;
  synced = synced;
}

-- so it is of another vault with the same copies
synced_in : (v w : VaultView) → copies_of v ≡ copies_of w → w.files.contents ≡ v.files.contents → HoldsSynced v → HoldsSynced w
synced_in v w many same holds = record { table = holds.table; content = content_by (copies_of v) (copies_of w) v.files w.files holds.table many same holds.content; synced = holds.synced }

-- ---- new disks

abbrev two_new : List FolderView
two_new = fresh_folder true ∷ fresh_folder true ∷ []

are_bare : (d : ℕ) → tree_at (trees_of two_new) d ≡ finite_map.empty
are_bare zero = refl
are_bare (suc zero) = refl
are_bare (suc (suc d)) = refl

abbrev bare_tree : Tree
bare_tree = finite_map.empty

nothing_there : (name : List ℕ) → file_of bare_tree name ≡ None
nothing_there name = finite_map.get-empty (slice_cmp nat_cmp) name

-- all files were taken away
all_taken : (old : Tree) → IsTakenFrom old bare_tree
all_taken old = record { plain = λ path. inr (nothing_there (path_of path false), nothing_there (path_of path true)); lost = λ path. inr (nothing_there (path_of path true)) }

no_elements : {X : Type 0} (xs : List X) → length xs ≡ 0 → xs ≡ []
no_elements [] none = refl
no_elements (x ∷ xs) none = absurd (omega (arith, none))

nothing_listed : listing_of bare_tree ≡ []
nothing_listed =
    ap (λ (entries : List (List ℕ × File)). map (λ (e : List ℕ × File). (e.0, meta_of e.1)) entries)
    (no_elements (finite_map.entries bare_tree) (sym (finite_map.len-entries bare_tree) ∙ finite_map.len-empty (slice_cmp nat_cmp) File))

module _ {O F V W : Type 0} (opener_view : O → OpenerView) (folder_view : F → FolderView) (vault_view : V → VaultView) (sink_view : W → SinkView) where
  abbrev begun : RunOf O F V W → Entry
  begun run = before_of opener_view folder_view vault_view sink_view run

  abbrev ended : RunOf O F V W → Exit
  ended run = after_of opener_view folder_view vault_view sink_view run

  abbrev IsTold : List ℕ → List (List ℕ) → List ℕ → List FolderView → VaultView → ℕ → List F → V → List ℕ → Type 0
  IsTold config texts seed folders vault status left_folders left printed =
      RunsTold opener_view folder_view vault_view sink_view config texts seed folders vault status left_folders left printed

  -- what the laws say
  abbrev Always : Type 0
  Always = HoldsAlways opener_view folder_view vault_view sink_view

  abbrev pub LevelsAreIntact : Type 0
  LevelsAreIntact = (run : RunOf O F V W) (fix : FixRun) (snapshot : Closed) (is_changed : ℕ → ℕ → Bool) (facts : StripeFacts) (r : ℕ) → IsFixOf (begun run) (ended run) fix
      → IsTrue (begun run).opener.vault.tells → Sound fix.loaded (begun run).opener.vault.files snapshot is_changed → IsUndamaged fix is_changed facts r
      → (whole_level facts.levels r ≡ true) × IsIntactLevel fix.plan facts (last_row snapshot facts.stripe) r

  -- ---- both runs over what is left

  pub run_over_lost : (config : List ℕ) (line texts others : List (List ℕ)) (seed : List ℕ) (levels copies : ℕ) (value one other seen : VaultValue) (disks folders folders_then : List FolderView) (before status status_then : ℕ)
      (left_folders made_folders then_folders : List F) (left left_made left_then : V) (printed printed_made printed_then : List ℕ)
      → Always → value ≡ fresh_vault levels copies → AsksFor (commands.Sync plain_sync) line
      → IsTold config line seed disks (view_of value) before left_folders left printed
      → IsLeftOf (vault_view left) (view_of one) → copies_of (view_of one) ≡ copies_of (view_of value) → other ≡ one → seen ≡ one → HoldsSynced (view_of seen)
      → folders ≡ two_new → folders_then ≡ two_new
      → IsTold config texts seed folders (view_of one) status made_folders left_made printed_made → (vault_view left_made).faults ≡ 0 → are_calm folder_view made_folders ≡ true → status ≤ 1
      → IsTold config others seed folders_then (view_of other) status_then then_folders left_then printed_then → (vault_view left_then).faults ≡ 0 → are_calm folder_view then_folders ≡ true → status_then ≤ 1
      → AreRunOverLost opener_view folder_view vault_view sink_view texts others status status_then
  run_over_lost config line texts others seed levels copies value one other seen disks folders folders_then before status status_then left_folders made_folders then_folders left left_made left_then printed printed_made printed_then
      holds fresh asks ran left_of as_many same_value same_seen synced are_new are_new_then runs faults calm few again faults_then calm_then few_then =
      let no_fix : AskForNoFix line = record { asked = asks.asked; words = asks.words; is_none = subst IsNoFix (sym asks.command_is) tt } in
      let once = left_of_one opener_view folder_view vault_view sink_view config line seed levels copies value disks (view_of one) before left_folders left holds fresh no_fix ran.over left_of as_many in
      let last : LastSynced = once.next.last in
      let standing : Standing = standing_of config folders (view_of one) last in
      let then_standing : Standing = standing_of config folders_then (view_of other) last in
      let trees : List Tree = trees_of folders in
      let same : then_standing ≡ standing
      = ap (λ (v : VaultValue). standing_of config folders_then (view_of v) last) same_value
      ∙ ap (λ (fs : List FolderView). standing_of config fs (view_of one) last) (are_new_then ∙ sym are_new) in
      let stands : standing ≡ record once.next { trees = trees } = ap (λ (s : Standing). record s { trees = trees }) once.stands in
      let bare : (d : ℕ) → tree_at trees d ≡ finite_map.empty
      = subst (λ (fs : List FolderView). (d : ℕ) → tree_at (trees_of fs) d ≡ finite_map.empty) (sym are_new) are_bare in
      let run : RunOf O F V W = runs.over.run in
      let run_then : RunOf O F V W = again.over.run in
      let begins : BeginsOver standing (begun run) = runs.over.begins last in
      let begins_then : BeginsOver then_standing (begun run_then) = again.over.begins last in
      record {
        first = once.first;
        next = once.next;
        trees = trees;
        once = once.run;
        run = run;
        again = run_then;
        origin = once.origin;
        goes = once.goes;
        taken = λ d. subst (IsTakenFrom (tree_at once.next.trees d)) (sym (bare d)) (all_taken (tree_at once.next.trees d));
        bare = bare;
        texts_are = runs.over.texts_are;
        others_are = again.over.texts_are;
        begins = subst (λ (s : Standing). BeginsOver s (begun run)) stands begins;
        begins_then = subst (λ (s : Standing). BeginsOver s (begun run_then)) (same ∙ stands) begins_then;
        hold = hold_alike opener_view folder_view vault_view sink_view standing then_standing (begun run) (begun run_then) begins begins_then same (runs.over.seed_is ∙ sym again.over.seed_is);
        well = nothing_rose opener_view folder_view vault_view sink_view config texts seed folders (view_of one) status made_folders left_made runs.over faults calm;
        well_then = nothing_rose opener_view folder_view vault_view sink_view config others seed folders_then (view_of other) status_then then_folders left_then again.over faults_then calm_then;
        clauses = runs.clauses;
        clauses_then = again.clauses;
        few = few_is run.status status 1 runs.over.status_is few;
        few_then = few_is run_then.status status_then 1 again.over.status_is few_then;
        holds = synced_in (view_of one) (begun run).opener.vault (sym begins.copies) (ap (λ (files : Files). files.contents) begins.files ∙ contents_seen (said_by config) (view_of one))
            (subst (λ (v : VaultValue). HoldsSynced (view_of v)) same_seen synced);
        status_is = runs.over.status_is;
        status_then_is = again.over.status_is;
      }

  -- ---- what the check names

  unchanged_then : (once : RunOf O F V W) (first next : Standing) → IsOrigin first → GoesOver opener_view folder_view vault_view sink_view once first next
      → (stripe level : ℕ) → next.last.is_changed stripe level ≡ false
  unchanged_then once first next origin goes stripe level =
      ap (λ (last : LastSynced). last.is_changed stripe level) (goes.last ∙ ap (λ (last : LastSynced). synced_by goes.step.always.did goes.count last) origin.nothing)
      ∙ unchanged_without (effect goes.step.always.did).levels_closed ((effect goes.step.always.did).rows_closed goes.count) nothing_synced.is_changed stripe level refl

  module _ (holds : Always) (meets : MeetsNone opener_view folder_view vault_view sink_view) (intact : LevelsAreIntact) (determined : IsDetermined) (in_mode : FactsInMode) (says : FixFindsWhatACheckFinds)
      (one_table : OneTable) (texts others : List (List ℕ)) (status status_then : ℕ) (two : AreRunOverLost opener_view folder_view vault_view sink_view texts others status status_then)
      (asks : AsksFor (commands.Check everything) texts) (asks_fix : AsksFor (commands.Fix everything) others) (left : status_then ≡ 1) where
    abbrev standing : Standing
    standing = record two.next { trees = two.trees }

    abbrev stages : List (Stage O F V W)
    stages = record { change = Runs two.once; next = two.next } ∷ record { change = Edits; next = standing } ∷ []

    history : IsHistory opener_view folder_view vault_view sink_view two.first stages standing
    history = (two.goes, (refl, refl))

    headline : Headline opener_view folder_view vault_view sink_view standing
    headline = holds two.first standing stages two.origin history

    asks_here : AsksFor (commands.Check everything) two.run.texts
    asks_here = subst (AsksFor (commands.Check everything)) (sym two.texts_are) asks

    asks_then : AsksFor (commands.Fix everything) two.again.texts
    asks_then = subst (AsksFor (commands.Fix everything)) (sym two.others_are) asks_fix

    checks : EndsChecked (begun two.run) (ended two.run) two.run.status
    checks = ended_as (commands.Check everything) (begun two.run) (ended two.run) two.run.status two.hold.tells two.clauses.checked two.few asks_here

    ends : EndsFixed (begun two.again) (ended two.again) two.again.status
    ends = two.clauses_then.fixed two.hold.tells_then (ByStatus two.few_then) asks_then.asked everything asks_then.words asks_then.command_is

    ask : AskAlike modes.Check modes.Fix (begun two.run) (begun two.again)
    ask = asks_alike modes.Check modes.Fix (begun two.run) (begun two.again) asks_here asks_then

    abbrev one : CheckRun
    one = checks.run

    abbrev fix : FixRun
    fix = ends.run

    synced : AllSynced one.plan.table
    synced =
        let is = checks.has.is_check in
        let same : one.loaded ≡ two.holds.table
        = begins_same one_table one.setup (begun two.run).seed (copies_of (begun two.run).opener.vault) (begun two.run).opener.vault.files one.loaded two.holds.table
        (is.loading.from (unfailed (begun two.run) (ended two.run) is.loading two.well)) (inl two.holds.content) in
        subst AllSynced (sym (is.over.plan_is.table_is ∙ same)) two.holds.synced

    parity : is_audit one.plan.scope.mode ≡ false
    parity = ap is_audit checks.has.is_check.over.plan_is.scope.mode_is

    fixed_genuine : AreGenuine fix.plan (last_row two.next.last.snapshot) (facts_of fix.stripes)
    fixed_genuine = meets two.once two.again two.first two.next two.trees (fixes false fix) two.origin two.goes two.taken two.begins_then ends.is_fix

    genuine : AreGenuine one.plan (last_row two.next.last.snapshot) one.stripes
    genuine = genuine_then determined in_mode says one_table (begun two.run) (begun two.again) (ended two.run) (ended two.again) two.run.status two.again.status one ends two.hold ask two.well two.well_then checks.has
        two.next.last.snapshot synced fixed_genuine

    -- nothing was listed
    bare_lists : (d : ℕ) → get_or one.lists d [] ≡ []
    bare_lists d =
        let is = checks.has.is_check in
        let tell : AllTell one.folders = check_tells modes.Check (begun two.run) (ended two.run) two.run.status two.hold.tells two.well one checks.has in
        ⊎_elim
        (λ below.
        list_is one.folders one.listed one.lists is.over.listed tell d below
        ∙ ap (λ (trees : List Tree). listing_of (tree_at trees d)) (ap trees_of is.folders_are ∙ two.begins.trees)
        ∙ ap listing_of (two.bare d)
        ∙ nothing_listed)
        (λ past. get_or_past one.lists d [] (omega (arith, past, is.over.listed.as_many)))
        (cases_lt d (length one.folders))

    lost : LostCell one.plan one.stripes
    lost =
        let is = checks.has.is_check in
        let events : List Event = events_in fix ends.finishes in
        let some = some_counted is_left events (counted_some two.again.status ends.output_failed (count_by is_left events) ends.status_is (two.status_then_is ∙ left)) in
        let both : FixAlike one fix ends.finishes
        = alike determined in_mode says one_table (begun two.run) (begun two.again) (ended two.run) (ended two.again) two.run.status two.again.status one ends two.hold ask two.well two.well_then checks.has in
        let told : Contains (events_found one) some.0
        = subst (λ (its : List Event). Contains its some.0) both.events (kept_in is_finding events some.0 some.1 (left_found some.0 some.2)) in
        left_lost one.plan one.stripes parity is.over.are synced (none_blocked modes.Check one.selection (names_of one.setup) one.loaded one.lists one.plan is.over.plan_is bare_lists) some.0 some.2 told

    abbrev facts : StripeFacts
    facts = lost.facts

    -- the levels that the fix read whole are intact
    fixed_intact : (its : StripeFacts) (r : ℕ) → IsUndamaged fix two.next.last.is_changed its r → IsIntactLevel fix.plan its (last_row two.next.last.snapshot its.stripe) r
    fixed_intact its r undamaged =
        let over = ends.is_fix.over in
        let last : LastSynced = two.next.last in
        let files : Files = (begun two.again).opener.vault.files in
        let sound : Sound fix.loaded files last.snapshot last.is_changed
        = loaded_sound (copies_of (begun two.again).opener.vault) fix.loaded files last.snapshot last.is_changed over.valid over.is_loaded
        (subst (λ (n : ℕ). AreSoundBy n files last) (sym two.begins_then.copies) (subst (λ (fs : Files). AreSoundBy standing.copies fs last) (sym two.begins_then.files) headline.sound.sound)) in
        (intact two.again fix last.snapshot last.is_changed its r ends.is_fix two.hold.tells_then.tells_vault sound undamaged).1

    tells : TellsIntactLevels one.plan facts (last_row two.next.last.snapshot facts.stripe) (λ (r : ℕ). true)
    tells = intact_then determined in_mode says one_table (begun two.run) (begun two.again) (ended two.run) (ended two.again) two.run.status two.again.status one ends two.hold ask two.well two.well_then checks.has
        two.next.last.snapshot two.next.last.is_changed synced (unchanged_then two.once two.first two.next two.origin two.goes) fixed_intact facts lost.is.one

    damaged : IsDamagedOfSynced one.plan one.stripes two.next.last.snapshot facts lost.d lost.cell (λ (r : ℕ). true)
    damaged =
        let at = lost.is.one in
        let within : facts.stripe < length one.plan.table.infos
        = subst (λ (it : StripeFacts). it.stripe < length one.plan.table.infos) at.2 (let its = checks.has.is_check.over.are at.0 facts at.1 in its.within) in
        record { is = lost.is; synced = searched_of one.plan facts.stripe synced within parity; bytes = last_bytes two.next.last.snapshot facts.stripe headline.sound.bytes; tells = tells }

    names : NamesLost one.plan one.stripes two.next.last.snapshot (events_found one)
    names = headline.names two.run two.begins checks genuine

    pub named_lost : IsNamedLost opener_view folder_view vault_view sink_view status
    named_lost = record {
      first = two.first;
      standing = standing;
      stages = stages;
      run = two.run;
      origin = two.origin;
      history = history;
      bare = two.bare;
      begins = two.begins;
      ends = checks;
      genuine = genuine;
      names = names;
      facts = facts;
      d = lost.d;
      cell = lost.cell;
      is_intact = λ (r : ℕ). true;
      damaged = damaged;
      too_many = (names facts lost.d lost.cell (λ (r : ℕ). true) damaged).0 lost.told;
      told = lost.told;
      status_is = two.status_is;
    }
