-- What stands after a history is sound.
use Rattle.std.proofs.Common.{◌≡◌, ℕ, ◌<◌, ◌≤◌, List, [], ◌∷◌, ◌++◌, length, get_or, Bool, Option, None, Some, refl, sym, ap, ◌∙◌, subst, arith}
use Rattle.content_file.specs.Spelling.{spelling}
use Rattle.disk_model.specs.Files.{Files, content_of}
use Rattle.disk_model.specs.Folder.{FolderView}
use Rattle.disk_model.specs.Opener.{OpenerView}
use Rattle.disk_model.specs.Sink.{SinkView}
use Rattle.disk_model.specs.Vault.{VaultView, copies_of}
use Rattle.file_table.specs.Table.{TableValue}
use Rattle.file_table.specs.Valid.{IsValid}
use Rattle.snap_sync.specs.Calls.{SyncPlan}
use Rattle.snap_sync.specs.Images.{StandsBy, rows_after}
use Rattle.stripe_findings.specs.Reading.{StripeReading}
use Rattle.snap_sync.specs.Reading.{ReadsFirst}
use Rattle.snap_sync.specs.Soundness.{AreSound, StandsOn, changed_without, snapshot_with}
use Rattle.snap_top.specs.Headline.{HaveOneSize, IsSoundStanding}
use Rattle.snap_top.specs.LastSynced.{AreSoundBy, IsOfBytes, LastSynced, synced_by}
use Rattle.snap_top.specs.Moment.{IsSoundAlways, IsSoundIn}
use Rattle.snap_top.specs.Effect.{effect}
use Rattle.snap_top.specs.RunOf.{RunOf}
use Rattle.snap_top.specs.Entry.{Entry, Exit}
use Rattle.snap_top.specs.Standing.{Change, Configures, Damages, Edits, Follows, GoesOver, IsChanged, IsHistory, IsOrigin, Runs, Stage, Standing, after_of, before_of}
use Rattle.snap_top.specs.Did.{Did, fixes, reads_only, scrubs, syncs}
use Rattle.snap_top.proofs.HistoryLemmas.{change_sound, stays_of_bytes}
use Rattle.snap_top.proofs.OfScrubLemmas.{ScrubKeepsValid}
use Rattle.snap_top.proofs.OneSizeLemmas.{SavesValidTables, changed_size, one_of_size, scrubbed_size, size_begun, synced_size}
use Rattle.snap_top.proofs.SyncedLemmas.{OneTable}
use Rattle.parity_writer.specs.Sound.{Closed}

-- what snap_sync says of its moments
abbrev pub MomentsAreSoundByRows : Type 0
MomentsAreSoundByRows = (plan : SyncPlan) (loaded : TableValue) (readings ahead : List StripeReading) (olds news : List FolderView) (old new : Files) (snapshot : Closed) (is_changed : ℕ → ℕ → Bool) (count : ℕ)
    → length olds ≡ length plan.start.columns → ReadsFirst plan.start (readings ++ ahead) olds news → StandsOn plan loaded old → AreSound plan.copies old snapshot is_changed
    → StandsBy plan readings count old new
    → (count ≤ length readings) × AreSound plan.copies new (snapshot_with (rows_after plan readings count) snapshot) (changed_without plan.start.shape.levels (rows_after plan readings count) is_changed)

module _ (by_rows : MomentsAreSoundByRows) (one_table : OneTable) (saves_valid : SavesValidTables) (marks_valid : ScrubKeepsValid) where
  -- ---- a run

  module _ (before : Entry) (exit : Exit) (new : Files) (last : LastSynced) where
    abbrev copies : ℕ
    copies = copies_of before.opener.vault

    abbrev old : Files
    old = before.opener.vault.files

    -- it is sound by the rows that parity has
    sound_by : (did : Did) → (effect did).is_of before exit → (AreSoundBy copies old last → (effect did).supposes copies old last.snapshot → IsSoundIn did copies new last.snapshot last.is_changed)
        → (effect did).meets_no_chance last.snapshot → (count : ℕ) → (effect did).has_closed count old new → HaveOneSize copies old → AreSoundBy copies old last → AreSoundBy copies new (synced_by did count last)
    sound_by reads_only is at genuine count closed one are = (at are tt).sound
    sound_by (syncs failed run) is at genuine count closed one are =
        let over = is.over in
        subst (λ (n : ℕ). AreSound n new (snapshot_with (rows_after run.plan run.readings count) last.snapshot) (changed_without run.plan.start.shape.levels (rows_after run.plan run.readings count) last.is_changed)) over.copies_are
        (by_rows run.plan run.loaded run.readings run.ahead run.listed run.ended old new last.snapshot last.is_changed count (over.listed.as_many ∙ over.listed.folders ∙ sym over.stands.keeps.columns) over.listed.reads over.stands
        (subst (λ (n : ℕ). AreSound n old last.snapshot last.is_changed) (sym over.copies_are) are) closed).1
    sound_by (fixes failed run) is at genuine count closed one are =
        (at are (record { genuine = genuine; one_size = size_begun run.setup before.seed copies old run.loaded is.over.valid is.begins one })).sound
    sound_by (scrubs failed run) is at genuine count closed one are = (at are tt).sound

    -- and of one size
    size_by : (did : Did) → (effect did).is_of before exit → (effect did).may_stand old new → (count : ℕ) → (effect did).has_closed count old new → HaveOneSize copies old → HaveOneSize copies new
    size_by reads_only is moment count closed one = subst (HaveOneSize copies) (sym moment) one
    size_by (syncs failed run) is moment count closed one =
        one_of_size run.loaded.shape.block_size copies new
        (synced_size one_table saves_valid run copies old new is.over (size_begun run.setup before.seed copies old run.loaded is.over.stands.valid is.begins one) count closed)
    size_by (fixes failed run) is moment count closed one = λ copy other table other_table within other_within valid other_valid spells other_spells.
        one copy other table other_table within other_within valid other_valid (was copy table spells) (was other other_table other_spells)
      where
        was : (copy : ℕ) (table : TableValue) → content_of new copy ≡ Some (spelling table) → content_of old copy ≡ Some (spelling table)
        was copy table spells = ap (λ (contents : List (Option (List ℕ))). get_or contents copy None) (sym moment.contents) ∙ spells
    size_by (scrubs failed run) is moment count closed one =
        one_of_size run.loaded.shape.block_size copies new
        (scrubbed_size one_table marks_valid run copies old new before.opener.vault is.over (size_begun run.setup before.seed copies old run.loaded is.over.valid is.begins one) moment)

  module _ {O F V W : Type 0} (opener_view : O → OpenerView) (folder_view : F → FolderView) (vault_view : V → VaultView) (sink_view : W → SinkView) where
    run_sound : (run : RunOf O F V W) (standing next : Standing) → GoesOver opener_view folder_view vault_view sink_view run standing next → IsSoundStanding standing → IsSoundStanding next
    run_sound run standing next goes sound =
        let before : Entry = before_of opener_view folder_view vault_view sink_view run in
        let exit : Exit = after_of opener_view folder_view vault_view sink_view run in
        let over = goes.over in
        let always : IsSoundAlways before exit run.status = goes.step.always in
        let n : ℕ = copies_of before.opener.vault in
        let was : Files = before.opener.vault.files in
        let are : AreSoundBy n was standing.last
        = subst (λ (k : ℕ). AreSoundBy k was standing.last) (sym over.copies) (subst (λ (fs : Files). AreSoundBy standing.copies fs standing.last) (sym over.files) sound.sound) in
        let one : HaveOneSize n was
        = subst (λ (k : ℕ). HaveOneSize k was) (sym over.copies) (subst (λ (fs : Files). HaveOneSize standing.copies fs) (sym over.files) sound.one_size) in
        let closed : (effect always.did).has_closed goes.count was next.files = subst (λ (fs : Files). (effect always.did).has_closed goes.count fs next.files) (sym over.files) goes.closed in
        let copies_are : n ≡ next.copies = over.copies ∙ sym (ap (λ (s : Standing). s.copies) goes.array) in
        let after : AreSoundBy n next.files (synced_by always.did goes.count standing.last)
        = sound_by before exit next.files standing.last always.did always.is_did (λ sound_then supposed. always.sound next.files standing.last.snapshot standing.last.is_changed goes.files sound_then supposed)
        goes.genuine goes.count closed one are in
        record {
          sound = subst (λ (k : ℕ). AreSoundBy k next.files next.last) copies_are (subst (λ (l : LastSynced). AreSoundBy n next.files l) (sym goes.last) after);
          bytes = λ stripe. subst (λ (l : LastSynced). IsOfBytes l.snapshot) (sym goes.last) (stays_of_bytes before exit always.did goes.count standing.last always.is_did sound.bytes) stripe;
          one_size = subst (λ (k : ℕ). HaveOneSize k next.files) copies_are
              (size_by before exit next.files standing.last always.did always.is_did (always.moments next.files goes.files) goes.count closed one);
        }

    -- ---- whatever happens

    change_is_sound : (standing next : Standing) → IsChanged standing next → IsSoundStanding standing → IsSoundStanding next
    change_is_sound standing next changed sound = record {
      sound = subst (λ (s : Closed). AreSound next.copies next.files s next.last.is_changed) (sym changed.snapshot)
          (change_sound standing.copies next.copies standing.last.is_changed next.last.is_changed standing.files next.files standing.last.snapshot changed.change sound.sound);
      bytes = λ stripe. subst IsOfBytes (sym changed.snapshot) sound.bytes stripe;
      one_size = changed_size standing.copies next.copies standing.last.is_changed next.last.is_changed standing.files next.files changed.change sound.one_size;
    }

    stage_sound : (change : Change O F V W) (standing next : Standing) → Follows opener_view folder_view vault_view sink_view change standing next → IsSoundStanding standing → IsSoundStanding next
    stage_sound (Runs run) standing next follows sound = run_sound run standing next follows sound
    stage_sound Edits standing next follows sound = subst IsSoundStanding (sym follows) (record { sound = sound.sound; bytes = sound.bytes; one_size = sound.one_size })
    stage_sound Damages standing next follows sound = change_is_sound standing next follows.1 sound
    stage_sound Configures standing next follows sound = change_is_sound standing next follows sound

    pub history_is_sound : (first : Standing) (stages : List (Stage O F V W)) (standing : Standing) → IsHistory opener_view folder_view vault_view sink_view first stages standing → IsSoundStanding first → IsSoundStanding standing
    history_is_sound first [] standing history sound = subst IsSoundStanding (sym history) sound
    history_is_sound first (stage ∷ stages) standing history sound = history_is_sound stage.next stages standing history.1 (stage_sound stage.change first stage.next history.0 sound)

-- before the first run
pub origin_sound : (standing : Standing) → IsOrigin standing → IsSoundStanding standing
origin_sound standing origin = record {
  sound = λ copy table within valid is. absurd (none copy table within valid is);
  bytes = subst (λ (l : LastSynced). IsOfBytes l.snapshot) (sym origin.nothing) (λ stripe k other within. absurd (omega (arith, within)));
  one_size = λ one other table other_table within other_within valid other_valid is other_is. absurd (none one table within valid is);
}
  where
    none : (copy : ℕ) (table : TableValue) → copy < standing.copies → IsValid table → content_of standing.files copy ≡ Some (spelling table) → ⊥
    none copy table within valid is = origin.none copy within (spelling table) is (record { table = table; valid = valid; spelled = refl })
