-- A run over an array whose history is known goes on with it.
use Rattle.std.proofs.Common.{◌≡◌, inr, ℕ, List, [], ◌∷◌, ◌++◌, map, is_some, true, Option, Result, Ok, refl, sym, ap, ◌∙◌, subst, append_assoc, append-nil}
use Rattle.disk_model.specs.Files.{Files}
use Rattle.disk_model.specs.Folder.{FolderView}
use Rattle.disk_model.specs.Opener.{OpenerView}
use Rattle.disk_model.specs.Sink.{SinkView}
use Rattle.disk_model.specs.Tree.{Tree}
use Rattle.disk_model.specs.Vault.{VaultView, copies_of}
use Rattle.disk_memory.specs.Vault.{VaultValue, fresh_vault, view_of}
use Rattle.snap_config.specs.declared.options.Options.{Options}
use Rattle.snap_sync.specs.Part.{trees_of}
use Rattle.snap_top.specs.Headline.{Headline}
use Rattle.snap_top.specs.LastSynced.{LastSynced}
use Rattle.snap_top.specs.Levels.{by_setup, said_by}
use Rattle.snap_top.specs.Effect.{effect}
use Rattle.snap_top.specs.Stands.{StandsIn}
use Rattle.snap_top.specs.Asked.{asked_by}
use Rattle.snap_top.specs.RunOf.{RunOf}
use Rattle.snap_top.specs.Entry.{Entry, Exit, vault_in}
use Rattle.snap_top.specs.Standing.{Change, Follows, GoesOver, IsHistory, IsOrigin, LeavesTrees, Runs, Stage, Standing, after_of, before_of, nothing_synced}
use Rattle.snap_top.specs.Did.{Did, fixes, reads_only, scrubs, syncs}
use Rattle.snap_top_histories.specs.Lived.{AskForNoFix, HasHistory, IsLeftOf, IsNoFix, RunsOver, ended_by, files_seen, standing_of, statuses_of}
use Rattle.snap_top_histories.proofs.BeginLemmas.{origin}
use Rattle.snap_top_histories.proofs.SeenLemmas.{LeavesAt, left_seen}
use Rattle.parity_writer.specs.Sound.{Closed}

-- ---- a run that is no fix

same_ok : {A E : Type 0} (said : Result A E) (x y : A) → said ≡ Ok x → said ≡ Ok y → x ≡ y
same_ok said x y one other = let same : Ok x ≡ Ok y = sym one ∙ other in cc

abbrev pub IsNotFixing : Did → Type 0
IsNotFixing (fixes failed run) = ⊥
IsNotFixing _ = Unit {0}

not_fixing : (before : Entry) (exit : Exit) (did : Did) → (effect did).is_of before exit → AskForNoFix before.texts → IsNotFixing did
not_fixing before exit reads_only is asks = tt
not_fixing before exit (syncs failed run) is asks = tt
not_fixing before exit (scrubs failed run) is asks = tt
not_fixing before exit (fixes failed run) is asks =
    let same : is.configured.asked ≡ asks.asked = same_ok (asked_by before.texts) is.configured.asked asks.asked is.configured.read asks.words in
    subst IsNoFix (sym (is.configured.command_is ∙ ap (λ (a : Options). a.command) same)) asks.is_none

pub no_chance : (did : Did) → IsNotFixing did → (snapshot : Closed) → (effect did).meets_no_chance snapshot
no_chance reads_only not snapshot = tt
no_chance (syncs failed run) not snapshot = tt
no_chance (scrubs failed run) not snapshot = tt
no_chance (fixes failed run) not snapshot = absurd not

left_same : (before : Entry) (exit : Exit) (did : Did) → IsNotFixing did → (old new : List Tree) → LeavesTrees (effect did).writes_files before exit old new → new ≡ old
left_same before exit reads_only not old new leaves = leaves
left_same before exit (syncs failed run) not old new leaves = leaves
left_same before exit (scrubs failed run) not old new leaves = leaves
left_same before exit (fixes failed run) not old new leaves = absurd not

same_left : (before : Entry) (exit : Exit) (did : Did) → IsNotFixing did → (old new : List Tree) → new ≡ old → LeavesTrees (effect did).writes_files before exit old new
same_left before exit reads_only not old new same = same
same_left before exit (syncs failed run) not old new same = same
same_left before exit (scrubs failed run) not old new same = same
same_left before exit (fixes failed run) not old new same = absurd not

-- ---- a history goes on

-- what stands, said by its parts
stands_as : (standing next : Standing) (trees : List Tree) (files : Files) (copies : ℕ) → next ≡ record standing { trees = next.trees; files = next.files; last = next.last }
    → next.trees ≡ trees → next.files ≡ files → standing.copies ≡ copies
    → next ≡ record { config = standing.config; trees = trees; copies = copies; files = files; last = next.last }
stands_as standing next trees files copies array trees_are files_are copies_are =
    array
    ∙ ap (λ (ts : List Tree). record standing { trees = ts; files = next.files; last = next.last }) trees_are
    ∙ ap (λ (fs : Files). record standing { trees = trees; files = fs; last = next.last }) files_are
    ∙ ap (λ (k : ℕ). record { config = standing.config; trees = trees; copies = k; files = files; last = next.last }) copies_are

module _ {O F V W : Type 0} (opener_view : O → OpenerView) (folder_view : F → FolderView) (vault_view : V → VaultView) (sink_view : W → SinkView) where
  abbrev begun : RunOf O F V W → Entry
  begun run = before_of opener_view folder_view vault_view sink_view run

  abbrev ended : RunOf O F V W → Exit
  ended run = after_of opener_view folder_view vault_view sink_view run

  abbrev Goes : RunOf O F V W → Standing → Standing → Type 0
  Goes run standing next = GoesOver opener_view folder_view vault_view sink_view run standing next

  pub quiet_run : (config : List ℕ) (texts : List (List ℕ)) (seed : List ℕ) (folders : List FolderView) (vault : VaultView) (status : ℕ) (left_folders : List F) (left : V)
      → (runs : RunsOver opener_view folder_view vault_view sink_view config texts seed folders vault status left_folders left)
      → AskForNoFix texts → (did : Did) → (effect did).is_of (begun runs.run) (ended runs.run) → IsNotFixing did
  quiet_run config texts seed folders vault status left_folders left runs asks did is =
      not_fixing (begun runs.run) (ended runs.run) did is (subst AskForNoFix (sym runs.texts_are) asks)

  -- the trees stay
  stay_same : (run : RunOf O F V W) (standing next : Standing) → Goes run standing next → ((did : Did) → (effect did).is_of (begun run) (ended run) → IsNotFixing did) → next.trees ≡ standing.trees
  stay_same run standing next goes quiet =
      left_same (begun run) (ended run) goes.step.always.did (quiet goes.step.always.did goes.step.always.is_did) standing.trees next.trees goes.trees

  pub trees_kept : (config : List ℕ) (texts : List (List ℕ)) (seed : List ℕ) (folders : List FolderView) (vault : VaultView) (last : LastSynced) (status : ℕ) (left_folders : List F) (left : V)
      → Headline opener_view folder_view vault_view sink_view (standing_of config folders vault last)
      → (runs : RunsOver opener_view folder_view vault_view sink_view config texts seed folders vault status left_folders left)
      → AskForNoFix texts → trees_of (map folder_view left_folders) ≡ trees_of folders
  trees_kept config texts seed folders vault last status left_folders left headline runs asks =
      let run : RunOf O F V W = runs.run in
      let standing : Standing = standing_of config folders vault last in
      let quiet = quiet_run config texts seed folders vault status left_folders left runs asks in
      let did : Did = runs.step.always.did in
      let has : (ended run).has_vault ≡ true = ap (λ (v : Option V). is_some v) runs.vault_is in
      let at_end = headline.arrives run (runs.begins last) runs.step has (no_chance did (quiet did runs.step.always.is_did) last.snapshot) in
      ap (λ (fs : List F). trees_of (map folder_view fs)) (sym runs.folders_are) ∙ sym at_end.2 ∙ stay_same run standing at_end.0 at_end.3 quiet

  -- what a stop at some moment of it leaves stands in it
  pub stands_left : (config : List ℕ) (texts : List (List ℕ)) (seed : List ℕ) (folders : List FolderView) (vault made : VaultView) (status : ℕ) (left_folders : List F) (left : V)
      → (runs : RunsOver opener_view folder_view vault_view sink_view config texts seed folders vault status left_folders left)
      → IsLeftOf (vault_view left) made → StandsIn (begun runs.run) (ended runs.run) (files_seen config made)
  stands_left config texts seed folders vault made status left_folders left runs left_of =
      let run : RunOf O F V W = runs.run in
      let held : List ℕ = (opener_view run.opener).config in
      let is_left : LeavesAt (by_setup (said_by held) (vault_view left)) 0 (files_seen held made)
      = left_seen (said_by held) (vault_view left) made 0 (left_of.told, left_of.left) in
      let left_here : LeavesAt (by_setup (said_by held) (vault_view left)) (begun run).opener.vault.images.moment (files_seen config made)
      = subst (λ (m : ℕ). LeavesAt (by_setup (said_by held) (vault_view left)) m (files_seen config made)) (sym runs.moment)
      (subst (λ (cs : List ℕ). LeavesAt (by_setup (said_by held) (vault_view left)) 0 (files_seen cs made)) (runs.begins nothing_synced).config is_left) in
      inr (subst
      (λ (v : Option V). LeavesAt (by_setup (said_by held) (vault_in vault_view (opener_view run.opener_new).vault v)) (begun run).opener.vault.images.moment (files_seen config made))
      (sym runs.vault_is) left_here)

  -- what stands next, said by its parts
  pub stands_next : (config : List ℕ) (folders left_folders : List FolderView) (vault made : VaultView) (last : LastSynced) (run : RunOf O F V W) (next : Standing)
      → Goes run (standing_of config folders vault last) next → next.files ≡ files_seen config made → next.trees ≡ trees_of left_folders → copies_of made ≡ copies_of vault
      → (then : LastSynced) × Goes run (standing_of config folders vault last) (standing_of config left_folders made then)
  stands_next config folders left_folders vault made last run next goes files_are trees_are as_many = (
    next.last,
    subst (λ (s : Standing). Goes run (standing_of config folders vault last) s)
        (stands_as (standing_of config folders vault last) next (trees_of left_folders) (files_seen config made) (copies_of made) goes.array trees_are files_are (sym as_many)) goes,
  )

  pub goes_with : (config : List ℕ) (texts : List (List ℕ)) (seed : List ℕ) (folders : List FolderView) (vault made : VaultView) (last : LastSynced) (status : ℕ) (left_folders : List F) (left : V)
      → Headline opener_view folder_view vault_view sink_view (standing_of config folders vault last)
      → (runs : RunsOver opener_view folder_view vault_view sink_view config texts seed folders vault status left_folders left)
      → AskForNoFix texts → IsLeftOf (vault_view left) made → copies_of made ≡ copies_of vault
      → (then : LastSynced) × Goes runs.run (standing_of config folders vault last) (standing_of config (map folder_view left_folders) made then)
  goes_with config texts seed folders vault made last status left_folders left headline runs asks left_of as_many =
      let run : RunOf O F V W = runs.run in
      let standing : Standing = standing_of config folders vault last in
      let over = runs.begins last in
      let step = runs.step in
      let did : Did = step.always.did in
      let not : IsNotFixing did = quiet_run config texts seed folders vault status left_folders left runs asks did step.always.is_did in
      let trees : trees_of (map folder_view left_folders) ≡ standing.trees = trees_kept config texts seed folders vault last status left_folders left headline runs asks in
      let at = headline.goes_on run (files_seen config made) (trees_of (map folder_view left_folders)) over step (stands_left config texts seed folders vault made status left_folders left runs left_of)
      (same_left (begun run) (ended run) did not standing.trees (trees_of (map folder_view left_folders)) trees) (no_chance did not last.snapshot) in
      stands_next config folders (map folder_view left_folders) vault made last run at.0 at.3 at.1 at.2 as_many

  pub extended : (first middle next : Standing) (stages : List (Stage O F V W)) (change : Change O F V W) → IsHistory opener_view folder_view vault_view sink_view first stages middle
      → Follows opener_view folder_view vault_view sink_view change middle next
      → IsHistory opener_view folder_view vault_view sink_view first (stages ++ record { change = change; next = next } ∷ []) next
  extended first middle next [] change history follows = (subst (λ (s : Standing). Follows opener_view folder_view vault_view sink_view change s next) history follows, refl)
  extended first middle next (stage ∷ stages) change history follows = (history.0, extended stage.next middle next stages change history.1 follows)

  pub told_more : (stages : List (Stage O F V W)) (stage : Stage O F V W) → statuses_of (stages ++ stage ∷ []) ≡ statuses_of stages ++ ended_by stage.change
  told_more [] stage = append-nil (ended_by stage.change)
  told_more (one ∷ stages) stage =
      ap (λ (told : List ℕ). ended_by one.change ++ told) (told_more stages stage) ∙ sym (append_assoc (ended_by one.change) (statuses_of stages) (ended_by stage.change))

  pub history_begins : (config : List ℕ) (folders : List FolderView) (levels copies : ℕ) (value : VaultValue) (statuses : List ℕ) → value ≡ fresh_vault levels copies → statuses ≡ []
      → HasHistory opener_view folder_view vault_view sink_view config folders (view_of value) statuses
  history_begins config folders levels copies value statuses fresh none =
      subst (λ (v : VaultValue). HasHistory opener_view folder_view vault_view sink_view config folders (view_of v) statuses) (sym fresh)
      (record {
        first = standing_of config folders (view_of (fresh_vault levels copies)) nothing_synced;
        stages = [];
        last = nothing_synced;
        origin = origin config folders levels copies;
        history = refl;
        statuses_are = sym none;
      })

  pub history_goes_on : (config : List ℕ) (texts : List (List ℕ)) (seed : List ℕ) (folders : List FolderView) (vault made : VaultView) (statuses told : List ℕ) (status : ℕ) (left_folders : List F) (left : V)
      → ((first standing : Standing) (stages : List (Stage O F V W)) → IsOrigin first → IsHistory opener_view folder_view vault_view sink_view first stages standing
      → Headline opener_view folder_view vault_view sink_view standing)
      → HasHistory opener_view folder_view vault_view sink_view config folders vault statuses
      → RunsOver opener_view folder_view vault_view sink_view config texts seed folders vault status left_folders left
      → AskForNoFix texts → IsLeftOf (vault_view left) made → copies_of made ≡ copies_of vault → told ≡ statuses ++ status ∷ []
      → HasHistory opener_view folder_view vault_view sink_view config (map folder_view left_folders) made told
  history_goes_on config texts seed folders vault made statuses told status left_folders left headline has runs asks left_of as_many told_is =
      let standing : Standing = standing_of config folders vault has.last in
      let goes = goes_with config texts seed folders vault made has.last status left_folders left (headline has.first standing has.stages has.origin has.history) runs asks left_of as_many in
      let next : Standing = standing_of config (map folder_view left_folders) made goes.0 in
      record {
        first = has.first;
        stages = has.stages ++ record { change = Runs runs.run; next = next } ∷ [];
        last = goes.0;
        origin = has.origin;
        history = extended has.first standing next has.stages (Runs runs.run) has.history goes.1;
        statuses_are = told_more has.stages (record { change = Runs runs.run; next = next })
            ∙ ap (λ (ends : List ℕ). ends ++ runs.run.status ∷ []) has.statuses_are ∙ ap (λ (s : ℕ). statuses ++ s ∷ []) runs.status_is ∙ sym told_is;
      }
