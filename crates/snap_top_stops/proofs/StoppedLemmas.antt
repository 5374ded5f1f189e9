-- A fix that is stopped before any call of its folders was done.
use Rattle.std.proofs.Common.{◌≡◌, ◌≢◌, inl, inr, ℕ, zero, suc, ◌<◌, ◌≤◌, List, [], ◌∷◌, ◌++◌, length, map, get_or, set, Bool, true, false, IsTrue, None, Result, Ok, Err, refl, sym, ap, ◌∙◌, subst, arith}
use Rattle.std.specs.Prelude.{IfOk}
use Rattle.std.proofs.lemmas.Bool.{and_parts}
use Rattle.std.proofs.lemmas.List.{length-map}
use Rattle.disk_model.specs.Files.{Files}
use Rattle.disk_model.specs.Folder.{FolderDone, FolderView}
use Rattle.disk_model.specs.Opener.{OpenerView, folder_held}
use Rattle.disk_model.specs.Sink.{SinkView}
use Rattle.disk_model.specs.Stopped.{MayBeLeft}
use Rattle.disk_model.specs.Tree.{IsTree, Tree, file_of}
use Rattle.disk_model.specs.Vault.{VaultView, copies_of}
use Rattle.disk_model.specs.declared.meta.Stamp.{Stamp}
use Rattle.file_table.specs.Table.{TableValue}
use Rattle.snap_fix.specs.Fixing.{facts_of}
use Rattle.snap_sync.specs.Part.{tree_at, trees_of}
use Rattle.stripe_examiner.specs.Looking.{numbers_of}
use Rattle.repair_scope.specs.Plan.{stripes_of}
use Rattle.snap_top.specs.Effect.{effect}
use Rattle.snap_top.specs.Fix.{FixRun}
use Rattle.snap_top.specs.Levels.{said_by}
use Rattle.snap_top.specs.Began.{IsFixOf}
use Rattle.snap_top.specs.RunOf.{RunOf}
use Rattle.snap_top.specs.Entry.{Entry, Exit}
use Rattle.snap_top.specs.Spared.{SparesRest}
use Rattle.snap_top.specs.Standing.{BeginsOver, GoesOver, LeavesTrees, Stage, Standing, after_of, before_of}
use Rattle.snap_top.specs.Step.{ChangesFiles}
use Rattle.snap_top.specs.Stopping.{FolderStandsIn}
use Rattle.snap_top.specs.Sync.{IsFirstContent}
use Rattle.snap_top.specs.Taken.{OnlyTakenAway}
use Rattle.snap_top.specs.Did.{Did, fixes}
use Rattle.snap_top.specs.Views.{calls_since, folder_at}
use Rattle.snap_top.proofs.SyncedLemmas.{OneTable}
use Rattle.snap_top_histories.specs.Lived.{AskForFix, IsLeftOf, RunsOver, files_seen, standing_of}
use Rattle.snap_top_histories.specs.Repeated.{are_calm}
use Rattle.snap_top_histories.proofs.OnceLemmas.{Always, LeftOfOne, MeetsNone, goes_left, history, stages}
use Rattle.snap_top_histories.proofs.RepeatedLemmas.{few_is, fix_of, nothing_rose}
use Rattle.snap_top_histories.proofs.SeenLemmas.{contents_seen}
use Rattle.snap_top_stops.specs.Stopped.{HasStripe, HoldsAt, IsCellAt, IsSparedAtStop, IsSparedStop, LacksAt, all_tell_calls}
use Rattle.snap_top_instances.proofs.SmoothLemmas.{content_by}
use Rattle.snap_top_stops.proofs.SparedLemmas.{AsksMissing, as_many_trees, fix_asked, planned_at, spares_one, tree_held}

-- ---- before any call

-- what the law on folders says of a later stop: before any call, the files may stay
abbrev pub StandsLater : Type 0
StandsLater = (keeps : Stamp → Bool) (first more : List FolderDone) (old new : Tree) → IsTree old → MayBeLeft keeps first old new → MayBeLeft keeps (first ++ more) old new

-- so each folder stands as it did
stands_in : StandsLater → (standing : Standing) (before : Entry) (exit : Exit) → BeginsOver standing before → (d : ℕ) → d < length standing.trees
    → IsTrue (folder_at exit.after.folders d).tells_calls → FolderStandsIn before exit d (tree_at standing.trees d)
stands_in later standing before exit over d below told =
    let within : d < length before.opener.folders = omega (arith, below, as_many_trees standing before over) in
    let held : FolderView = folder_held before.opener d in
    let is_tree : IsTree held.tree = over.are_trees d within in
    let calls : List FolderDone = calls_since held (folder_at exit.after.folders d) in
    record {
      within = within;
      tells = over.tells.tells_folders d within;
      is_tree = is_tree;
      stands = inr (
        told,
        subst (λ (tree : Tree). MayBeLeft held.keeps calls held.tree tree) (tree_held standing before over d)
            (later held.keeps [] calls held.tree held.tree is_tree refl),
      );
    }

-- ---- what a disk holds

module _ {F : Type 0} (folder_view : F → FolderView) where
  -- each of the folders tells its calls
  pub tells_at : (folders : List F) → all_tell_calls folder_view folders ≡ true → (d : ℕ) → d < length folders → IsTrue (folder_at (map folder_view folders) d).tells_calls
  tells_at [] told d below = absurd (omega (arith, below))
  tells_at (folder ∷ folders) told zero below = (and_parts (folder_view folder).tells_calls (all_tell_calls folder_view folders) told).0
  tells_at (folder ∷ folders) told (suc d) below = tells_at folders (and_parts (folder_view folder).tells_calls (all_tell_calls folder_view folders) told).1 d (omega (arith, below))

  tree_in : (folders : List F) (k : ℕ) (default : F) → k < length folders → tree_at (trees_of (map folder_view folders)) k ≡ (folder_view (get_or folders k default)).tree
  tree_in [] k default within = absurd (omega (arith, within))
  tree_in (folder ∷ folders) zero default within = refl
  tree_in (folder ∷ folders) (suc k) default within = tree_in folders k default (omega (arith, within))

  set_same_tree : (folders : List F) (k : ℕ) (folder default : F) → k < length folders → (folder_view folder).tree ≡ (folder_view (get_or folders k default)).tree
      → trees_of (map folder_view (set folders k folder)) ≡ trees_of (map folder_view folders)
  set_same_tree [] k folder default within same = absurd (omega (arith, within))
  set_same_tree (first ∷ folders) zero folder default within same = ap (λ (tree : Tree). tree ∷ trees_of (map folder_view folders)) same
  set_same_tree (first ∷ folders) (suc k) folder default within same = ap (λ (trees : List Tree). (folder_view first).tree ∷ trees) (set_same_tree folders k folder default (omega (arith, within)) same)

  -- a folder was looked at
  looked_at_one : (folders : List F) (k : ℕ) (old new : F) → k < length folders → old ≡ get_or folders k old → (folder_view new).tree ≡ (folder_view old).tree
      → trees_of (map folder_view (set folders k new)) ≡ trees_of (map folder_view folders)
  looked_at_one folders k old new within is same = set_same_tree folders k new old within (same ∙ ap (λ (folder : F). (folder_view folder).tree) is)

  file_at : (folders : List F) (k : ℕ) (folder : F) (name : List ℕ) → k < length folders → folder ≡ get_or folders k folder
      → file_of (tree_at (trees_of (map folder_view folders)) k) name ≡ file_of (folder_view folder).tree name
  file_at folders k folder name within is =
      ap (λ (tree : Tree). file_of tree name) (tree_in folders k folder within) ∙ sym (ap (λ (it : F). file_of (folder_view it).tree name) is)

  -- what was seen of a folder is so of the folders
  pub kept_trees : {E : Type 0} (folders : List F) (k : ℕ) (old new : F) (result : Result Bool E) → k < length folders → old ≡ get_or folders k old → (folder_view new).tree ≡ (folder_view old).tree
      → IfOk result (λ _. trees_of (map folder_view (set folders k new)) ≡ trees_of (map folder_view folders))
  kept_trees folders k old new (Ok there) within is same = looked_at_one folders k old new within is same
  kept_trees folders k old new (Err fault) within is same = tt

  pub seen_there : {E : Type 0} (folders : List F) (k : ℕ) (folder : F) (name : List ℕ) (result : Result Bool E) → k < length folders → folder ≡ get_or folders k folder
      → IfOk result (λ there. IsTrue there → file_of (folder_view folder).tree name ≢ None) → IfOk result (λ there. IsTrue there → HoldsAt (map folder_view folders) k name)
  seen_there folders k folder name (Ok there) within is says = λ yes none. says yes (sym (file_at folders k folder name within is) ∙ none)
  seen_there folders k folder name (Err fault) within is says = tt

  pub seen_none : {E : Type 0} (folders : List F) (k : ℕ) (folder : F) (name : List ℕ) (result : Result Bool E) → k < length folders → folder ≡ get_or folders k folder
      → IfOk result (λ there. there ≡ false → file_of (folder_view folder).tree name ≡ None) → IfOk result (λ there. there ≡ false → LacksAt (map folder_view folders) k name)
  seen_none folders k folder name (Ok there) within is says = λ no. file_at folders k folder name within is ∙ says no
  seen_none folders k folder name (Err fault) within is says = tt

-- it stays so where the trees do
pub holds_still : (folders others : List FolderView) (d : ℕ) (name : List ℕ) → trees_of others ≡ trees_of folders → HoldsAt folders d name → HoldsAt others d name
holds_still folders others d name same there none = there (sym (ap (λ (trees : List Tree). file_of (tree_at trees d) name) same) ∙ none)

pub lacks_still : (folders others : List FolderView) (d : ℕ) (name : List ℕ) → trees_of others ≡ trees_of folders → LacksAt folders d name → LacksAt others d name
lacks_still folders others d name same gone = ap (λ (trees : List Tree). file_of (tree_at trees d) name) same ∙ gone

module _ {O F V W : Type 0} (opener_view : O → OpenerView) (folder_view : F → FolderView) (vault_view : V → VaultView) (sink_view : W → SinkView) where
  abbrev begun : RunOf O F V W → Entry
  begun run = before_of opener_view folder_view vault_view sink_view run

  abbrev ended : RunOf O F V W → Exit
  ended run = after_of opener_view folder_view vault_view sink_view run

  -- folders with the same trees are as much left of it
  pub left_with : (config : List ℕ) (folders others : List FolderView) (vault : VaultView) (status : ℕ) → LeftOfOne opener_view folder_view vault_view sink_view config folders vault status
      → trees_of others ≡ trees_of folders → LeftOfOne opener_view folder_view vault_view sink_view config others vault status
  left_with config folders others vault status left same = record {
    first = left.first;
    next = left.next;
    run = left.run;
    origin = left.origin;
    goes = left.goes;
    status_is = left.status_is;
    taken = subst (λ (trees : List Tree). OnlyTakenAway left.next.trees trees) (sym same) left.taken;
    stands = ap (λ (s : Standing). record s { trees = trees_of others }) left.stands;
  }

  module _ (config : List ℕ) (texts : List (List ℕ)) (seed : List ℕ) (folders : List FolderView) (vault made : VaultView) (before status : ℕ) (left_folders : List F) (left : V)
      (holds : Always opener_view folder_view vault_view sink_view) (meets : MeetsNone opener_view folder_view vault_view sink_view)
      (once : LeftOfOne opener_view folder_view vault_view sink_view config folders vault before)
      (runs : RunsOver opener_view folder_view vault_view sink_view config texts seed folders vault status left_folders left) where
    abbrev standing : Standing
    standing = standing_of config folders vault once.next.last

    abbrev run : RunOf O F V W
    run = runs.run

    abbrev all : List (Stage O F V W)
    all = stages opener_view folder_view vault_view sink_view config texts seed folders vault made before status left_folders left holds meets once runs

    -- as many folders as stood tell their calls at the end of a fix
    told_at : (next : Standing) (fix : FixRun) → (goes : GoesOver opener_view folder_view vault_view sink_view run standing next) → goes.step.always.did ≡ fixes false fix
        → length next.trees ≡ length left_folders → all_tell_calls folder_view left_folders ≡ true
        → (d : ℕ) → d < length standing.trees → IsTrue (folder_at (ended run).after.folders d).tells_calls
    told_at next fix goes did_is as_many told d below =
        let leaves : LeavesTrees (effect (fixes false fix)).writes_files (begun run) (ended run) standing.trees next.trees
        = subst (λ (did : Did). LeavesTrees (effect did).writes_files (begun run) (ended run) standing.trees next.trees) did_is goes.trees in
        subst (λ (fs : List F). IsTrue (folder_at (map folder_view fs) d).tells_calls) (sym runs.folders_are)
        (tells_at folder_view left_folders told d (omega (arith, below, leaves.0, as_many)))

    -- where something stands next, a stop with the same files of the vault may leave the trees as they were
    spared_stop : StandsLater → AskForFix run.texts → run.status ≤ 1 → (next : Standing) → GoesOver opener_view folder_view vault_view sink_view run standing next
        → length next.trees ≡ length left_folders → all_tell_calls folder_view left_folders ≡ true → IsSparedStop opener_view folder_view vault_view sink_view run standing
    spared_stop later asks few next its as_many told =
        let first_fix = fix_of opener_view folder_view vault_view sink_view run its.over.tells.tells asks its.step few in
        let stay : LeavesTrees (effect (fixes false first_fix.0)).writes_files (begun run) (ended run) standing.trees standing.trees
        = (refl, λ d below. stands_in later standing (begun run) (ended run) its.over d below (told_at next first_fix.0 its first_fix.1 as_many told d below)) in
        let leaves : LeavesTrees (effect its.step.always.did).writes_files (begun run) (ended run) standing.trees standing.trees
        = subst (λ (did : Did). LeavesTrees (effect did).writes_files (begun run) (ended run) standing.trees standing.trees) (sym first_fix.1) stay in
        let is_history = history opener_view folder_view vault_view sink_view config texts seed folders vault made before status left_folders left holds meets once runs in
        let headline = holds once.first standing all once.origin is_history in
        let at = headline.goes_on run next.files standing.trees its.over its.step its.files leaves its.genuine in
        let fix = fix_of opener_view folder_view vault_view sink_view run at.3.over.tells.tells asks at.3.step few in
        record {
          next = at.0;
          failed = false;
          fix = fix.0;
          goes = at.3;
          did_is = fix.1;
          stopped = at.2;
          spares = subst (λ (did : Did). (effect did).spares standing.trees at.0.trees standing.files at.0.files) fix.1 (headline.spares run at.0 at.3);
        }

    -- the table that was loaded of what the run left of the vault is that of the first copy that stood before it
    content_before : (next : Standing) → next.files ≡ files_seen config made → GoesOver opener_view folder_view vault_view sink_view run standing next → AskForFix run.texts → run.status ≤ 1
        → copies_of made ≡ copies_of vault → (table : TableValue) → IsFirstContent (copies_of made) made.files table
        → IsFirstContent (copies_of (begun run).opener.vault) (begun run).opener.vault.files table
    content_before next files_are its asks few as_many table content =
        let fix = fix_of opener_view folder_view vault_view sink_view run its.over.tells.tells asks its.step few in
        let is_history = history opener_view folder_view vault_view sink_view config texts seed folders vault made before status left_folders left holds meets once runs in
        let headline = holds once.first standing all once.origin is_history in
        let spares : SparesRest fix.0 standing.trees next.trees standing.files next.files
        = subst (λ (did : Did). (effect did).spares standing.trees next.trees standing.files next.files) fix.1 (headline.spares run next its) in
        let contents : (begun run).opener.vault.files.contents ≡ made.files.contents
        = ap (λ (files : Files). files.contents) its.over.files ∙ sym spares.vault.contents ∙ ap (λ (files : Files). files.contents) files_are ∙ contents_seen (said_by config) made in
        content_by (copies_of made) (copies_of (begun run).opener.vault) made.files (begun run).opener.vault.files table (as_many ∙ sym its.over.copies) contents content

    -- a fix that went to its end looked at all its stripes
    all_looked_at : (next : Standing) (failed : Bool) (fix : FixRun) → (goes : GoesOver opener_view folder_view vault_view sink_view run standing next) → goes.step.always.did ≡ fixes failed fix
        → AskForFix run.texts → run.status ≤ 1 → numbers_of (facts_of fix.stripes) ≡ stripes_of fix.plan
    all_looked_at next failed fix goes did_is asks few =
        let done : (effect goes.step.always.did).has_ended ≡ true = goes.step.done asks.asked asks.words (subst ChangesFiles (sym asks.command_is) tt) (inl few) in
        let ends : (effect (fixes failed fix)).ends (begun run) (ended run) run.status = subst (λ (did : Did). (effect did).ends (begun run) (ended run) run.status) did_is (goes.step.at_end done) in
        let its = ends goes.over.tells.tells_folders in
        subst (λ (it : FixRun). numbers_of (facts_of it.stripes) ≡ stripes_of it.plan) its.1 its.0.fixed.numbers

    pub spared_at_stop : StandsLater → OneTable → AsksMissing texts → (vault_view left).faults ≡ 0 → are_calm folder_view left_folders ≡ true → status ≤ 1
        → IsLeftOf (vault_view left) made → copies_of made ≡ copies_of vault → all_tell_calls folder_view left_folders ≡ true
        → (stripe d : ℕ) (path name : List ℕ) → HasStripe made stripe d path name → HoldsAt folders d path → LacksAt folders 0 name → HoldsAt (map folder_view left_folders) 0 name
        → IsSparedAtStop opener_view folder_view vault_view sink_view
    spared_at_stop later one_table asks faults calm few left_of as_many told stripe d path name has there gone restored =
        let going = goes_left opener_view folder_view vault_view sink_view config texts seed folders vault made before status left_folders left holds meets once runs left_of as_many in
        let next : Standing = standing_of config (map folder_view left_folders) made going.0 in
        let many : length next.trees ≡ length left_folders = length-map (map folder_view left_folders) (λ (folder : FolderView). folder.tree) ∙ length-map left_folders folder_view in
        let asks_run : AsksMissing run.texts = subst AsksMissing (sym runs.texts_are) asks in
        let asks_fix : AskForFix run.texts = fix_asked run.texts asks_run in
        let few_ran : run.status ≤ 1 = few_is run.status status 1 runs.status_is few in
        let stop = spared_stop later asks_fix few_ran next going.1 many told in
        let is : IsFixOf (begun run) (ended run) stop.fix = subst (λ (did : Did). (effect did).is_of (begun run) (ended run)) stop.did_is stop.goes.step.always.is_did in
        let content = content_before next refl going.1 asks_fix few_ran as_many has.table has.content in
        let well = nothing_rose opener_view folder_view vault_view sink_view config texts seed folders vault status left_folders left runs faults calm in
        let kept : IsCellAt stop.fix.plan.table stripe d path = planned_at stop.fix (begun run) (ended run) has.table stripe d path one_table is well content has.kept in
        let lost : IsCellAt stop.fix.plan.table stripe 0 name = planned_at stop.fix (begun run) (ended run) has.table stripe 0 name one_table is well content has.lost in
        let is_history = history opener_view folder_view vault_view sink_view config texts seed folders vault made before status left_folders left holds meets once runs in
        let at_end = fix_of opener_view folder_view vault_view sink_view run going.1.over.tells.tells asks_fix going.1.step few_ran in
        let is_then : IsFixOf (begun run) (ended run) at_end.0 = subst (λ (did : Did). (effect did).is_of (begun run) (ended run)) at_end.1 going.1.step.always.is_did in
        let headline = holds once.first standing all once.origin is_history in
        let spares : SparesRest at_end.0 standing.trees next.trees standing.files next.files
        = subst (λ (did : Did). (effect did).spares standing.trees next.trees standing.files next.files) at_end.1 (headline.spares run next going.1) in
        record {
          first = once.first;
          standing = standing;
          stages = all;
          run = run;
          origin = once.origin;
          history = is_history;
          wrote = λ same. restored (ap (λ (fs : List F). file_of (tree_at (trees_of (map folder_view fs)) 0) name) (sym runs.folders_are) ∙ ap (λ (tree : Tree). file_of tree name) same ∙ gone);
          stops = stop;
          one = spares_one standing stop.next stop.fix (begun run) (ended run) stripe d path name stop.goes.over is asks_run
              (all_looked_at stop.next stop.failed stop.fix stop.goes stop.did_is asks_fix few_ran) kept lost there gone stop.spares;
          end = next;
          fix = at_end.0;
          goes = going.1;
          did_is = at_end.1;
          at_end = ap (λ (fs : List F). trees_of (map folder_view fs)) (sym runs.folders_are);
          one_at_end = spares_one standing next at_end.0 (begun run) (ended run) stripe d path name going.1.over is_then asks_run
              (all_looked_at next false at_end.0 going.1 at_end.1 asks_fix few_ran) (planned_at at_end.0 (begun run) (ended run) has.table stripe d path one_table is_then well content has.kept)
              (planned_at at_end.0 (begun run) (ended run) has.table stripe 0 name one_table is_then well content has.lost) there gone spares;
        }
