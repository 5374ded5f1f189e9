-- A run over an array without content, files that are taken away, and a fix of what is left.
use Rattle.std.proofs.Common.{◌≡◌, inl, ℕ, ◌<◌, ◌≤◌, List, [], ◌∷◌, ◌++◌, length, map, get_or, set, is_some, Option, Ok, refl, sym, ap, ◌∙◌, subst, arith}
use Rattle.disk_model.specs.Folder.{FolderView}
use Rattle.disk_model.specs.Opener.{OpenerView}
use Rattle.disk_model.specs.Sink.{SinkView}
use Rattle.disk_model.specs.Tree.{Tree}
use Rattle.disk_model.specs.Vault.{VaultView, copies_of}
use Rattle.disk_memory.specs.Vault.{VaultValue, fresh_vault, view_of}
use Rattle.snap_sync.specs.Part.{tree_at, trees_of}
use Rattle.snap_top.specs.Headline.{FixesToItsEnd}
use Rattle.snap_top.specs.LastSynced.{LastSynced}
use Rattle.snap_top.specs.Effect.{effect}
use Rattle.snap_top.specs.Asked.{asked_by}
use Rattle.snap_top.specs.RunOf.{RunOf}
use Rattle.snap_top.specs.Standing.{BeginsOver, Edits, GoesOver, IsHistory, IsOrigin, Runs, Stage, Standing, after_of, before_of, nothing_synced}
use Rattle.snap_top.specs.Did.{Did}
use Rattle.snap_top_histories.specs.Lived.{AskForFix, AskForNoFix, HasHistory, IsLeftOf, RunsOver, files_seen, standing_of}
use Rattle.snap_top_histories.specs.Once.{IsFixedWhole, IsLeftOfOne}
use Rattle.snap_top.specs.Taken.{IsTakenFrom, OnlyTakenAway}
use Rattle.snap_top_histories.proofs.LivedLemmas.{goes_with, stands_left, stands_next}
use Rattle.snap_top_histories.proofs.ResumedLemmas.{HoldsAlways, begins_nothing}
use Rattle.snap_top_histories.proofs.TakenTrees.{more_taken, nothing_taken}

module _ {O F V W : Type 0} (opener_view : O → OpenerView) (folder_view : F → FolderView) (vault_view : V → VaultView) (sink_view : W → SinkView) where
  abbrev pub Always : Type 0
  Always = HoldsAlways opener_view folder_view vault_view sink_view

  abbrev pub LeftOfOne : List ℕ → List FolderView → VaultView → ℕ → Type 0
  LeftOfOne config folders vault status = IsLeftOfOne opener_view folder_view vault_view sink_view config folders vault status

  -- what the law says of a fix of what is left
  abbrev pub MeetsNone : Type 0
  MeetsNone = (once fix : RunOf O F V W) (first next : Standing) (trees : List Tree) (did : Did) → IsOrigin first → GoesOver opener_view folder_view vault_view sink_view once first next → OnlyTakenAway next.trees trees
      → BeginsOver (record next { trees = trees }) (before_of opener_view folder_view vault_view sink_view fix)
      → (effect did).is_of (before_of opener_view folder_view vault_view sink_view fix) (after_of opener_view folder_view vault_view sink_view fix) → (effect did).meets_no_chance next.last.snapshot

  pub left_of_one : (config : List ℕ) (texts : List (List ℕ)) (seed : List ℕ) (levels copies : ℕ) (value : VaultValue) (folders : List FolderView) (made : VaultView) (status : ℕ) (left_folders : List F) (left : V)
      → Always → value ≡ fresh_vault levels copies → AskForNoFix texts
      → RunsOver opener_view folder_view vault_view sink_view config texts seed folders (view_of value) status left_folders left
      → IsLeftOf (vault_view left) made → copies_of made ≡ copies_of (view_of value) → LeftOfOne config (map folder_view left_folders) made status
  left_of_one config texts seed levels copies value folders made status left_folders left holds fresh asks runs left_of as_many =
      let first : Standing = standing_of config folders (view_of value) nothing_synced in
      let is_first : IsOrigin first = begins_nothing opener_view folder_view vault_view sink_view config folders levels copies value fresh in
      let goes = goes_with opener_view folder_view vault_view sink_view config texts seed folders (view_of value) made nothing_synced status left_folders left (holds first first [] is_first refl) runs asks left_of as_many in
      record {
        first = first;
        next = standing_of config (map folder_view left_folders) made goes.0;
        run = runs.run;
        origin = is_first;
        goes = goes.1;
        status_is = runs.status_is;
        taken = λ d. nothing_taken (tree_at (trees_of (map folder_view left_folders)) d);
        stands = refl;
      }

  -- a file of a folder is taken away
  pub taken_on : (config : List ℕ) (folders others : List F) (vault : VaultView) (status k : ℕ) (folder default : F) → LeftOfOne config (map folder_view folders) vault status → k < length folders
      → IsTakenFrom (folder_view (get_or folders k default)).tree (folder_view folder).tree → others ≡ set folders k folder → LeftOfOne config (map folder_view others) vault status
  taken_on config folders others vault status k folder default left within taken same =
      subst (λ (fs : List F). LeftOfOne config (map folder_view fs) vault status) (sym same) (record {
        first = left.first;
        next = left.next;
        run = left.run;
        origin = left.origin;
        goes = left.goes;
        status_is = left.status_is;
        taken = more_taken folder_view left.next.trees folders k folder default left.taken within taken;
        stands = ap (λ (s : Standing). record s { trees = trees_of (map folder_view (set folders k folder)) }) left.stands;
      })

  -- ---- a fix of what is left

  module _ (config : List ℕ) (texts : List (List ℕ)) (seed : List ℕ) (folders : List FolderView) (vault made : VaultView) (before status : ℕ) (left_folders : List F) (left : V)
      (holds : Always) (meets : MeetsNone) (once : LeftOfOne config folders vault before)
      (runs : RunsOver opener_view folder_view vault_view sink_view config texts seed folders vault status left_folders left) where
    abbrev standing : Standing
    standing = standing_of config folders vault once.next.last

    abbrev run : RunOf O F V W
    run = runs.run

    pub stages : List (Stage O F V W)
    stages = record { change = Runs once.run; next = once.next } ∷ record { change = Edits; next = standing } ∷ []

    abbrev Begins : Standing → Type 0
    Begins s = BeginsOver s (before_of opener_view folder_view vault_view sink_view runs.run)

    pub history : IsHistory opener_view folder_view vault_view sink_view once.first stages standing
    unfolding stages
    history = (once.goes, (once.stands, refl))

    genuine : (effect runs.step.always.did).meets_no_chance once.next.last.snapshot
    genuine = meets once.run runs.run once.first once.next (trees_of folders) runs.step.always.did once.origin once.goes once.taken (subst Begins once.stands (runs.begins once.next.last)) runs.step.always.is_did

    at_end : (next : Standing) × (next.files ≡ (after_of opener_view folder_view vault_view sink_view runs.run).after.vault.files)
        × (next.trees ≡ trees_of (after_of opener_view folder_view vault_view sink_view runs.run).after.folders)
        × (goes : GoesOver opener_view folder_view vault_view sink_view runs.run standing next) × (goes.step ≡ runs.step)
    at_end = (holds once.first standing stages once.origin history).arrives runs.run (runs.begins once.next.last) runs.step (ap (λ (v : Option V). is_some v) runs.vault_is) genuine

    at_end_trees : at_end.0.trees ≡ trees_of (map folder_view left_folders)
    at_end_trees = at_end.2 ∙ ap (λ (fs : List F). trees_of (map folder_view fs)) runs.folders_are

    pub fixed_whole : AskForFix texts → status ≤ 1 → IsFixedWhole opener_view folder_view vault_view sink_view (map folder_view left_folders)
    fixed_whole asks well =
        let fixes : FixesToItsEnd opener_view folder_view vault_view sink_view runs.run = record {
          asked = asks.asked;
          selection = asks.selection;
          words = subst (λ (ts : List (List ℕ)). asked_by ts ≡ Ok asks.asked) (sym runs.texts_are) asks.words;
          command_is = asks.command_is;
          well = inl (omega (arith, well, runs.status_is));
        } in
        record {
          first = once.first;
          standing = standing;
          next = at_end.0;
          stages = stages;
          run = runs.run;
          origin = once.origin;
          history = history;
          goes = at_end.3;
          fixes = fixes;
          trees_are = at_end_trees;
          restored = (holds once.first standing stages once.origin history).restores runs.run at_end.0 at_end.3 fixes at_end.2;
        }

    -- what a stop at some moment of it leaves stands next
    pub goes_left : IsLeftOf (vault_view left) made → copies_of made ≡ copies_of vault
        → (then : LastSynced) × GoesOver opener_view folder_view vault_view sink_view runs.run standing (standing_of config (map folder_view left_folders) made then)
    goes_left left_of as_many =
        let its = at_end.3 in
        let at = (holds once.first standing stages once.origin history).goes_on runs.run (files_seen config made) at_end.0.trees its.over its.step
        (stands_left opener_view folder_view vault_view sink_view config texts seed folders vault made status left_folders left runs left_of) its.trees its.genuine in
        stands_next opener_view folder_view vault_view sink_view config folders (map folder_view left_folders) vault made once.next.last runs.run at.0 at.3 at.1 (at.2 ∙ at_end_trees) as_many

    pub fixed_on : (told : List ℕ) → IsLeftOf (vault_view left) made → copies_of made ≡ copies_of vault → told ≡ before ∷ status ∷ []
        → HasHistory opener_view folder_view vault_view sink_view config (map folder_view left_folders) made told
    unfolding stages
    fixed_on told left_of as_many told_is =
        let going = goes_left left_of as_many in
        record {
          first = once.first;
          stages = stages ++ record { change = Runs runs.run; next = standing_of config (map folder_view left_folders) made going.0 } ∷ [];
          last = going.0;
          origin = once.origin;
          history = (once.goes, (once.stands, (going.1, refl)));
          statuses_are = ap (λ (s : ℕ). s ∷ runs.run.status ∷ []) once.status_is ∙ ap (λ (s : ℕ). before ∷ s ∷ []) runs.status_is ∙ sym told_is;
        }
