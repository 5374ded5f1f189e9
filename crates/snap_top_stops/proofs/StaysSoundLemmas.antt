-- A sync that was stopped, a level that was lost, and one more sync are a history of runs over which the copies stay sound.
use Rattle.std.proofs.Common.{◌≡◌, ◌≢◌, inl, ℕ, ◌<◌, ◌≤◌, ◌==◌, List, [], ◌∷◌, length, map, get_or, set, slice_index, Bool, true, false, Option, None, Ok, refl, sym, ap, ◌∙◌, subst, arith}
use Rattle.std.proofs.lemmas.Bool.Decides.{Decides-eqb}
use Rattle.disk_model.specs.Files.{Files, content_of, parity_of}
use Rattle.disk_model.specs.Folder.{FolderView}
use Rattle.disk_model.specs.Opener.{OpenerView}
use Rattle.disk_model.specs.Sink.{SinkView}
use Rattle.disk_model.specs.Vault.{VaultView, copies_of}
use Rattle.disk_memory.specs.Vault.{VaultValue, fresh_vault, view_of}
use Rattle.snap_top.specs.Ended.{ByStatus}
use Rattle.snap_top.specs.History.{IsHistory, RunsOver as RunsFrom, StaysSound, Step}
use Rattle.snap_top.specs.LastSynced.{AreSoundBy, IsChange, LastSynced, synced_by}
use Rattle.snap_top.specs.Levels.{said_by}
use Rattle.snap_top.specs.Moment.{SyncsToItsEnd}
use Rattle.snap_top.specs.Effect.{effect}
use Rattle.snap_top.specs.Stands.{StandsIn}
use Rattle.snap_top.specs.Asked.{asked_by}
use Rattle.snap_top.specs.RunOf.{RunOf, StoppedRun}
use Rattle.snap_top.specs.Entry.{Entry, Exit}
use Rattle.snap_top.specs.Standing.{IsOrigin, Standing, after_of, before_of, nothing_synced}
use Rattle.snap_top.specs.Did.{Did}
use Rattle.snap_top_histories.specs.Changed.{IsChangedLevel}
use Rattle.snap_top_histories.specs.Lived.{AskForSync, IsLeftOf, RunsOver, files_seen, standing_of}
use Rattle.snap_top_histories.proofs.LivedLemmas.{stands_left}
use Rattle.snap_top_histories.proofs.ResumedLemmas.{begins_nothing}
use Rattle.snap_top_histories.proofs.SeenLemmas.{contents_seen, files_whole, splits}
use Rattle.snap_top_instances.specs.Asked.{HasWholeLevels}
use Rattle.snap_top_stops.specs.StaysSound.{IsSoundHistory, first_level, steps_of}
use Rattle.snap_top_instances.proofs.FullLemmas.{files_left}
use Rattle.snap_top_stops.proofs.StoppedRunsLemmas.{no_copy, no_parity, nothing_sound}
use Rattle.snap_top.proofs.UnchangedLemmas.{unchanged_without}

-- ---- a level that was lost

pub either_way : (told : Bool) (n m : ℕ) → (told ≡ true → n ≡ m) → (told ≡ false → n ≡ m) → n ≡ m
either_way true n m known lost = known refl
either_way false n m known lost = lost refl

pub emptied : (levels : List (List ℕ)) → length (get_or (set levels 0 []) 0 []) ≡ 0
emptied [] = refl
emptied (level ∷ levels) = refl

other_level : (level : ℕ) → (level == 0) ≡ false → level ≢ 0
other_level level apart same = let clash : true ≡ false = sym ((Decides-eqb level 0).1 same) ∙ apart in absurd cc

-- whatever a run had closed before, where nothing had been changed
level_lost : (config : List ℕ) (old new : VaultView) (copies : ℕ) → IsChangedLevel 0 old new → HasWholeLevels config → (did : Did) (count : ℕ)
    → IsChange copies copies (synced_by did count nothing_synced).is_changed first_level (files_seen config old) (files_seen config new)
level_lost config old new copies changed whole did count =
    let one_each : splits (said_by config) ≡ false = ap splits whole.says ∙ whole.whole in
    record {
      contents = λ copy below. inl (copy, below, ap (λ (cs : List (Option (List ℕ))). get_or cs copy None) (contents_seen (said_by config) new ∙ changed.contents ∙ sym (contents_seen (said_by config) old)));
      counted = λ stripe level is. unchanged_without (effect did).levels_closed ((effect did).rows_closed count) nothing_synced.is_changed stripe level refl;
      parity = λ copy table stripe level below valid spells is.
          let same : parity_of (files_seen config new) level ≡ parity_of (files_seen config old) level
          = ap (λ (fs : Files). parity_of fs level) (files_whole (said_by config) new one_each) ∙ changed.others level (other_level level is)
          ∙ ap (λ (fs : Files). parity_of fs level) (sym (files_whole (said_by config) old one_each)) in
          record {
            bytes = λ i x from before has. record {
              within = subst (λ (bytes : List ℕ). i < length bytes) (sym same) has.within;
              is = ap (λ (bytes : List ℕ). slice_index bytes i) same ∙ has.is;
            };
          };
    }

module _ {O F V W : Type 0} (opener_view : O → OpenerView) (folder_view : F → FolderView) (vault_view : V → VaultView) (sink_view : W → SinkView) where
  abbrev begun : RunOf O F V W → Entry
  begun run = before_of opener_view folder_view vault_view sink_view run

  abbrev ended : RunOf O F V W → Exit
  ended run = after_of opener_view folder_view vault_view sink_view run

  abbrev Ran : List ℕ → List (List ℕ) → List ℕ → List FolderView → VaultView → ℕ → List F → V → Type 0
  Ran config texts seed folders vault status left_folders left = RunsOver opener_view folder_view vault_view sink_view config texts seed folders vault status left_folders left

  -- what the law says
  abbrev pub CopiesStaySound : Type 0
  CopiesStaySound = (copies : ℕ) (steps : List (Step O F V W)) (files : Files) (last : LastSynced) → IsHistory opener_view folder_view vault_view sink_view copies steps files
      → AreSoundBy copies files last → StaysSound opener_view folder_view vault_view sink_view copies steps files last

  abbrev stop_at : RunOf O F V W → Files → StoppedRun O F V W
  stop_at run left = record { run = run; left = left }

  -- a run as one of a history
  runs_from : (config : List ℕ) (texts : List (List ℕ)) (seed : List ℕ) (folders : List FolderView) (vault : VaultView) (status : ℕ) (left_folders : List F) (left : V) (copies : ℕ) (stop : Files)
      → (runs : Ran config texts seed folders vault status left_folders left) → copies_of vault ≡ copies → StandsIn (begun runs.run) (ended runs.run) stop
      → RunsFrom opener_view folder_view vault_view sink_view copies (files_seen config vault) (stop_at runs.run stop)
  runs_from config texts seed folders vault status left_folders left copies stop runs many stands =
      let over = runs.begins nothing_synced in
      record {
        fresh = record { tells = over.tells.tells; tells_vault = over.tells.tells_vault; settled = over.settled };
        copies_are = over.copies ∙ many;
        files_are = over.files;
        sound = λ fresh. runs.step.always;
        stands = stands;
      }

  pub sound_history : (config : List ℕ) (texts : List (List ℕ)) (seed : List ℕ) (levels copies : ℕ) (value made seen shown : VaultValue) (hurt : VaultView) (folders : List FolderView)
      (status status_last : ℕ) (left_folders last_folders : List F) (left left_last : V)
      → CopiesStaySound → value ≡ fresh_vault levels copies → AskForSync texts config → HasWholeLevels config
      → Ran config texts seed folders (view_of value) status left_folders left → IsLeftOf (vault_view left) (view_of made) → copies_of (view_of made) ≡ copies_of (view_of value)
      → seen ≡ made → 0 < length (parity_of (view_of seen).files 0) → shown ≡ made → content_of (view_of shown).files 0 ≢ None → IsChangedLevel 0 (view_of made) hurt → length (parity_of hurt.files 0) ≡ 0
      → Ran config texts seed (map folder_view left_folders) hurt status_last last_folders left_last → status_last ≤ 1 → 0 < length (parity_of (vault_view left_last).files 0)
      → IsSoundHistory opener_view folder_view vault_view sink_view
  sound_history config texts seed levels copies value made seen shown hurt folders status status_last left_folders last_folders left left_last
      law fresh asks whole runs left_of as_many same wrote same_shown there changed lost again few wrote_again =
      let one_each : splits (said_by config) ≡ false = ap splits whole.says ∙ whole.whole in
      let first : Standing = standing_of config folders (view_of value) nothing_synced in
      let is_first : IsOrigin first = begins_nothing opener_view folder_view vault_view sink_view config folders levels copies value fresh in
      let many : ℕ = copies_of (view_of value) in
      let mid : Files = files_seen config (view_of made) in
      let after : Files = files_seen config hurt in
      let last_left : Files = (ended again.run).after.vault.files in
      let one : StoppedRun O F V W = stop_at runs.run mid in
      let other : StoppedRun O F V W = stop_at again.run last_left in
      let stands : StandsIn (begun runs.run) (ended runs.run) mid
      = stands_left opener_view folder_view vault_view sink_view config texts seed folders (view_of value) (view_of made) status left_folders left runs left_of in
      let history : IsHistory opener_view folder_view vault_view sink_view many (steps_of many one after other) first.files = (
        runs_from config texts seed folders (view_of value) status left_folders left many mid runs refl stands,
        (runs_from config texts seed (map folder_view left_folders) hurt status_last last_folders left_last many last_left again (changed.copies ∙ as_many) (inl refl), tt),
      ) in
      let sound : AreSoundBy many first.files nothing_synced = nothing_sound first is_first many refl nothing_synced in
      let went : SyncsToItsEnd (begun again.run) (ended again.run) again.run.status = record {
        asked = asks.asked;
        way = asks.way;
        words = subst (λ (ts : List (List ℕ)). asked_by ts ≡ Ok asks.asked) (sym again.texts_are) asks.words;
        command_is = asks.command_is;
        went = ByStatus (omega (arith, few, again.status_is));
      } in
      record {
        copies = many;
        files = first.files;
        synced = nothing_synced;
        sync = one;
        hurt = after;
        last = other;
        history = history;
        sound = sound;
        asked = asks.asked;
        way = asks.way;
        words = subst (λ (ts : List (List ℕ)). asked_by ts ≡ Ok asks.asked) (sym runs.texts_are) asks.words;
        command_is = asks.command_is;
        bare = no_copy config levels copies value many fresh refl;
        none = no_parity config levels copies value fresh one_each;
        there = λ gone. there (ap (λ (v : VaultValue). content_of (view_of v).files 0) same_shown
            ∙ ap (λ (fs : Files). content_of fs 0) (sym (files_whole (said_by config) (view_of made) one_each)) ∙ gone);
        wrote = subst (λ (fs : Files). 0 < length (parity_of fs 0)) (sym (files_whole (said_by config) (view_of made) one_each)) (subst (λ (v : VaultValue). 0 < length (parity_of (view_of v).files 0)) same wrote);
        lost = ap (λ (fs : Files). length (parity_of fs 0)) (files_whole (said_by config) hurt one_each) ∙ lost;
        change = λ did count. level_lost config (view_of made) hurt many changed whole did count;
        went = went;
        stands = inl refl;
        wrote_again = subst (λ (fs : Files). 0 < length (parity_of fs 0))
            (sym (files_left opener_view folder_view vault_view sink_view config texts seed (map folder_view left_folders) hurt status_last last_folders left_last again whole)) wrote_again;
        stays = law many (steps_of many one after other) first.files nothing_synced history sound;
      }
