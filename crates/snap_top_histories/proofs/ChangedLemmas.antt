-- What happens to an array between two runs goes on with its history.
use Rattle.std.proofs.Common.{◌≡◌, ◌≢◌, inl, ℕ, ◌<◌, ◌==◌, ◌||◌, List, [], ◌∷◌, ◌++◌, length, get_or, Bool, true, false, Option, None, refl, sym, ap, ◌∙◌, subst, append-nil}
use Rattle.std.proofs.lemmas.Bool.Decides.{Decides-eqb}
use Rattle.std.proofs.lemmas.List.{get_or-set_other}
use Rattle.disk_model.specs.Files.{Files, content_of, parity_of}
use Rattle.disk_model.specs.Folder.{FolderView}
use Rattle.disk_model.specs.Opener.{OpenerView}
use Rattle.disk_model.specs.Sink.{SinkView}
use Rattle.disk_model.specs.Vault.{IsSettled, VaultView, copies_of}
use Rattle.disk_memory.specs.Given.{HasNoDraft}
use Rattle.disk_calm.specs.Held.{Held}
use Rattle.disk_calm.specs.Store.{with_level}
use Rattle.disk_memory.specs.Vault.{IsDamaged, VaultValue, opened_with_these, view_of}
use Rattle.parity_writer.specs.Keeps.{HasByte}
use Rattle.snap_sync.specs.Part.{trees_of}
use Rattle.snap_top.specs.LastSynced.{BlockStays, IsChange, LastSynced}
use Rattle.snap_top.specs.Levels.{said_by}
use Rattle.snap_top.specs.Standing.{Change, Configures, Damages, Edits, Follows, IsChanged, IsHistory, Stage, Standing}
use Rattle.snap_top_histories.specs.Changed.{IsChangedLevel}
use Rattle.snap_top_histories.specs.Lived.{HasHistory, IsNew, ended_by, files_seen, standing_of, statuses_of}
use Rattle.snap_top_histories.proofs.LivedLemmas.{extended, told_more}
use Rattle.snap_top_histories.proofs.SeenLemmas.{contents_seen, files_whole, splits}

-- ---- a level that was changed

-- all its blocks count as changed; where levels have several files, so do those of all levels
abbrev changed_at : Bool → ℕ → LastSynced → LastSynced
changed_at all level last = record { snapshot = last.snapshot; is_changed = λ (stripe other : ℕ). all || (other == level || last.is_changed stripe other) }

neither : (a b : Bool) → (a || b) ≡ false → (a ≡ false) × (b ≡ false)
neither true b is = absurd (let clash : true ≡ false = is in cc)
neither false b is = (refl, is)

other_level : (other level : ℕ) → (other == level) ≡ false → other ≢ level
other_level other level apart same = let clash : true ≡ false = sym ((Decides-eqb other level).1 same) ∙ apart in absurd cc

-- some level has several files, by one of two configurations
abbrev split_in : List ℕ → List ℕ → Bool
split_in config other = splits (said_by config) || splits (said_by other)

-- where none has, another level stays
level_stays : (config other : List ℕ) (old new : VaultView) (level one : ℕ) → IsChangedLevel level old new → split_in config other ≡ false → one ≢ level
    → parity_of (files_seen other new) one ≡ parity_of (files_seen config old) one
level_stays config other old new level one changed whole apart =
    let each = neither (splits (said_by config)) (splits (said_by other)) whole in
    ap (λ (fs : Files). parity_of fs one) (files_whole (said_by other) new each.1) ∙ changed.others one apart ∙ ap (λ (fs : Files). parity_of fs one) (sym (files_whole (said_by config) old each.0))

copy_stays : (config other : List ℕ) (old new : VaultView) (level copy : ℕ) → IsChangedLevel level old new → content_of (files_seen other new) copy ≡ content_of (files_seen config old) copy
copy_stays config other old new level copy changed =
    ap (λ (found : List (Option (List ℕ))). get_or found copy None) (contents_seen (said_by other) new ∙ changed.contents ∙ sym (contents_seen (said_by config) old))

is_changed : (config other : List ℕ) (folders : List FolderView) (old new : VaultView) (level : ℕ) (last : LastSynced) → IsChangedLevel level old new
    → IsChanged (standing_of config folders old last) (standing_of other folders new (changed_at (split_in config other) level last))
is_changed config other folders old new level last changed = record {
  snapshot = refl;
  change = record {
    contents = λ copy below. inl (copy, subst (λ (n : ℕ). copy < n) changed.copies below, copy_stays config other old new level copy changed);
    counted = λ stripe one is. (neither (one == level) (last.is_changed stripe one) (neither (split_in config other) (one == level || last.is_changed stripe one) is).1).1;
    parity = λ copy table stripe one below valid spells is.
        let each = neither (split_in config other) (one == level || last.is_changed stripe one) is in
        let apart : one ≢ level = other_level one level (neither (one == level) (last.is_changed stripe one) each.1).0 in
        record {
          bytes = λ i x from before has. subst (λ (bytes : List ℕ). HasByte bytes i x) (sym (level_stays config other old new level one changed each.0 apart)) has;
        };
  };
}

-- ---- a vault in memory

-- the vault with this held, whatever else of it is as before
module _ (level : ℕ) (bytes : List ℕ) (old : VaultValue) where
  abbrev now : Held
  now = with_level old.held_now level bytes

  others_stay : (new : VaultValue) → new.held_now ≡ now → (other : ℕ) → other ≢ level → parity_of (view_of new).files other ≡ parity_of (view_of old).files other
  others_stay new held other apart =
      ap (λ (h : Held). parity_of h.files other) held ∙ get_or-set_other old.held_now.files.parities level other bytes [] apart

  changed_level : (new : VaultValue) → new.held_now ≡ now → IsNew (view_of new) → IsChangedLevel level (view_of old) (view_of new)
  changed_level new held is_new = record {
    is_new = is_new;
    copies = ap (λ (h : Held). length h.drafts) held;
    contents = ap (λ (h : Held). h.files.contents) held;
    others = others_stay new held;
  }

  pub damaged_new : (new : VaultValue) → IsDamaged now old new → IsNew (view_of old) → IsSettled (view_of new) → (HasNoDraft (view_of old) → HasNoDraft (view_of new))
      → IsChangedLevel level (view_of old) (view_of new)
  damaged_new new damaged was settled drafts = by old.told refl
    where
      by : (b : Bool) → old.told ≡ b → IsChangedLevel level (view_of old) (view_of new)
      by true is =
          let same : new ≡ opened_with_these now old = damaged.told is in
          changed_level new (ap (λ (v : VaultValue). v.held_now) same) (record {
            settled = settled;
            drafts = drafts was.drafts;
            moment = ap (λ (v : VaultValue). (view_of v).images.moment) same;
            faults = ap (λ (v : VaultValue). v.faults) same ∙ was.faults;
          })
      by false is =
          let same : new ≡ record old { held_now = now } = damaged.lost is in
          changed_level new (ap (λ (v : VaultValue). v.held_now) same) (record {
            settled = settled;
            drafts = drafts was.drafts;
            moment = ap (λ (v : VaultValue). (view_of v).images.moment) same ∙ was.moment;
            faults = ap (λ (v : VaultValue). v.faults) same ∙ was.faults;
          })

-- ---- histories

module _ {O F V W : Type 0} (opener_view : O → OpenerView) (folder_view : F → FolderView) (vault_view : V → VaultView) (sink_view : W → SinkView) where
  goes_on_by : (change : Change O F V W) (config other : List ℕ) (folders others : List FolderView) (vault made : VaultView) (statuses : List ℕ)
      → (has : HasHistory opener_view folder_view vault_view sink_view config folders vault statuses) (then : LastSynced) → ended_by change ≡ []
      → Follows opener_view folder_view vault_view sink_view change (standing_of config folders vault has.last) (standing_of other others made then)
      → HasHistory opener_view folder_view vault_view sink_view other others made statuses
  goes_on_by change config other folders others vault made statuses has then none follows =
      let standing : Standing = standing_of config folders vault has.last in
      let next : Standing = standing_of other others made then in
      let stage : Stage O F V W = record { change = change; next = next } in
      record {
        first = has.first;
        stages = has.stages ++ stage ∷ [];
        last = then;
        origin = has.origin;
        history = extended opener_view folder_view vault_view sink_view has.first standing next has.stages change has.history follows;
        statuses_are = told_more opener_view folder_view vault_view sink_view has.stages stage ∙ ap (λ (ends : List ℕ). statuses_of has.stages ++ ends) none ∙ append-nil (statuses_of has.stages) ∙ has.statuses_are;
      }

  pub edited : (config : List ℕ) (folders others : List FolderView) (vault : VaultView) (statuses : List ℕ) → HasHistory opener_view folder_view vault_view sink_view config folders vault statuses
      → HasHistory opener_view folder_view vault_view sink_view config others vault statuses
  edited config folders others vault statuses has = goes_on_by Edits config config folders others vault vault statuses has has.last refl refl

  pub damaged : (config : List ℕ) (folders : List FolderView) (vault made : VaultView) (level : ℕ) (statuses : List ℕ) → HasHistory opener_view folder_view vault_view sink_view config folders vault statuses
      → IsChangedLevel level vault made → HasHistory opener_view folder_view vault_view sink_view config folders made statuses
  damaged config folders vault made level statuses has changed =
      let then : LastSynced = changed_at (split_in config config) level has.last in
      goes_on_by Damages config config folders folders vault made statuses has then refl
      (ap (λ (n : ℕ). record { config = config; trees = trees_of folders; copies = n; files = files_seen config made; last = then }) changed.copies, is_changed config config folders vault made level has.last changed)

  pub configured : (config other : List ℕ) (folders : List FolderView) (vault made : VaultView) (level : ℕ) (statuses : List ℕ) → HasHistory opener_view folder_view vault_view sink_view config folders vault statuses
      → IsChangedLevel level vault made → HasHistory opener_view folder_view vault_view sink_view other folders made statuses
  configured config other folders vault made level statuses has changed =
      goes_on_by Configures config other folders folders vault made statuses has (changed_at (split_in config other) level has.last) refl (is_changed config other folders vault made level has.last changed)
