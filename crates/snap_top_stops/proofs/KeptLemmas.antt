-- A sync of an array without content leaves the files of the first disk as they are.
use Rattle.std.proofs.Common.{◌≡◌, ◌≢◌, inl, ℕ, ◌<◌, List, [], ◌∷◌, length, map, is_some, true, false, IsTrue, Option, refl, sym, ap, ◌∙◌, subst, arith}
use Rattle.std.proofs.lemmas.List.{length-map}
use Rattle.std.specs.FinMap as finite_map
use Rattle.disk_model.specs.Folder.{FolderView}
use Rattle.disk_model.specs.Opener.{OpenerView}
use Rattle.disk_model.specs.Sink.{SinkView}
use Rattle.disk_model.specs.Tree.{Tree}
use Rattle.disk_model.specs.Vault.{VaultView}
use Rattle.disk_memory.specs.Vault.{VaultValue, fresh_vault, view_of}
use Rattle.snap_config.specs.declared.options.Command.TheVariants as commands
use Rattle.snap_sync.specs.Part.{tree_at, trees_of}
use Rattle.snap_top.specs.RunOf.{RunOf}
use Rattle.snap_top.specs.Entry.{Entry, Exit}
use Rattle.snap_top.specs.Standing.{IsOrigin, Standing, after_of, before_of, nothing_synced}
use Rattle.snap_top.specs.Stopping.{FolderStandsIn}
use Rattle.snap_top.specs.Effect.{effect}
use Rattle.snap_top.specs.Did.{Did, fixes, reads_only, scrubs, syncs}
use Rattle.snap_top.specs.Views.{folder_at}
use Rattle.snap_top_histories.specs.Lived.{AskForNoFix, IsNoFix, standing_of}
use Rattle.snap_top_histories.proofs.LivedLemmas.{IsNotFixing, quiet_run, trees_kept}
use Rattle.snap_top_histories.proofs.ResumedLemmas.{HoldsAlways, begins_nothing}
use Rattle.snap_top_instances.specs.Asked.{AsksFor, plain_sync}
use Rattle.snap_top_stops.specs.Kept.{IsTreeKept}
use Rattle.snap_top_stops.specs.Stopped.{all_tell_calls}
use Rattle.snap_top_instances.specs.Told.{HoldsFile, RunsTold}
use Rattle.snap_top_stops.proofs.StoppedLemmas.{tells_at}

fixed_nothing : (did : Did) → IsNotFixing did → (effect did).writes_files ≡ false
fixed_nothing reads_only not = refl
fixed_nothing (syncs failed run) not = refl
fixed_nothing (scrubs failed run) not = refl
fixed_nothing (fixes failed run) not = absurd not

-- the first of some trees is there, if it holds a file
first_tree : (trees : List Tree) → tree_at trees 0 ≢ finite_map.empty → 0 < length trees
first_tree [] holds = absurd (holds refl)
first_tree (tree ∷ trees) holds = omega arith

first_folder : (folders : List FolderView) → tree_at (trees_of folders) 0 ≢ finite_map.empty → 0 < length folders
first_folder folders holds =
    let some = first_tree (trees_of folders) holds in
    omega (arith, some, length-map folders (λ (folder : FolderView). folder.tree))

module _ {O F V W : Type 0} (opener_view : O → OpenerView) (folder_view : F → FolderView) (vault_view : V → VaultView) (sink_view : W → SinkView) where
  abbrev begun : RunOf O F V W → Entry
  begun run = before_of opener_view folder_view vault_view sink_view run

  abbrev ended : RunOf O F V W → Exit
  ended run = after_of opener_view folder_view vault_view sink_view run

  pub tree_kept : (config : List ℕ) (texts : List (List ℕ)) (seed : List ℕ) (levels copies : ℕ) (value : VaultValue) (folders : List FolderView) (status : ℕ) (left_folders : List F) (left : V) (printed : List ℕ)
      → HoldsAlways opener_view folder_view vault_view sink_view → value ≡ fresh_vault levels copies → AsksFor (commands.Sync plain_sync) texts
      → RunsTold opener_view folder_view vault_view sink_view config texts seed folders (view_of value) status left_folders left printed
      → all_tell_calls folder_view left_folders ≡ true → HoldsFile (map folder_view left_folders) → IsTreeKept opener_view folder_view vault_view sink_view status
  tree_kept config texts seed levels copies value folders status left_folders left printed holds fresh asks runs told there =
      let run : RunOf O F V W = runs.over.run in
      let first : Standing = standing_of config folders (view_of value) nothing_synced in
      let is_first : IsOrigin first = begins_nothing opener_view folder_view vault_view sink_view config folders levels copies value fresh in
      let headline = holds first first [] is_first refl in
      let no_fix : AskForNoFix texts = record { asked = asks.asked; words = asks.words; is_none = subst IsNoFix (sym asks.command_is) tt } in
      let begins = runs.over.begins nothing_synced in
      let step = runs.over.step in
      let opened : (ended run).has_vault ≡ true = ap (λ (v : Option V). is_some v) runs.over.vault_is in
      let did : Did = step.always.did in
      let none : (effect did).writes_files ≡ false
      = fixed_nothing did (quiet_run opener_view folder_view vault_view sink_view config texts seed folders (view_of value) status left_folders left runs.over no_fix did step.always.is_did) in
      let kept : trees_of (map folder_view left_folders) ≡ trees_of folders
      = trees_kept opener_view folder_view vault_view sink_view config texts seed folders (view_of value) nothing_synced status left_folders left headline runs.over no_fix in
      let some : tree_at (trees_of folders) 0 ≢ finite_map.empty = λ empty. there (ap (λ (ts : List Tree). tree_at ts 0) kept ∙ empty) in
      let within : 0 < length (begun run).opener.folders = subst (λ (fs : List FolderView). 0 < length fs) (sym runs.held) (first_folder folders some) in
      let many : 0 < length (map folder_view left_folders) = first_folder (map folder_view left_folders) there in
      let stands : FolderStandsIn (begun run) (ended run) 0 (folder_at (ended run).after.folders 0).tree
      = record { within = within; tells = begins.tells.tells_folders 0 within; is_tree = begins.are_trees 0 within; stands = inl refl } in
      record {
        first = first;
        standing = first;
        stages = [];
        run = run;
        origin = is_first;
        history = refl;
        begins = begins;
        step = step;
        opened = opened;
        none = none;
        left = (folder_at (ended run).after.folders 0).tree;
        stands = stands;
        some = some;
        stays = headline.trees run 0 (folder_at (ended run).after.folders 0).tree begins step opened none stands;
        tells_calls = subst (λ (fs : List F). IsTrue (folder_at (map folder_view fs) 0).tells_calls) (sym runs.over.folders_are)
            (tells_at folder_view left_folders told 0 (omega (arith, many, length-map left_folders folder_view)));
        stays_within = λ tree stood. headline.trees run 0 tree begins step opened none stood;
        status_is = runs.over.status_is;
      }
