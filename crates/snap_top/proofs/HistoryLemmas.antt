-- The copies stay sound over a history.
use Rattle.std.proofs.Common.{◌≡◌, ⊎_elim, ℕ, zero, suc, ◌+◌, ◌*◌, ◌==◌, List, [], ◌∷◌, length, take, Bool, true, false, All, IfSome, Option, None, Some, if◌then◌else◌, refl, sym, ◌∙◌, subst, arith}
use Rattle.std.proofs.lemmas.List.Elements.{All-cons, All-take}
use Rattle.cauchy.specs.Recovery.{AreBytes}
use Rattle.content_file.specs.Save.{HasSaved}
use Rattle.content_file.specs.Spelling.{spelling}
use Rattle.disk_model.specs.Files.{Files}
use Rattle.disk_model.specs.Folder.{FolderView}
use Rattle.disk_model.specs.Opener.{OpenerView}
use Rattle.disk_model.specs.Sink.{SinkView}
use Rattle.disk_model.specs.Vault.{VaultView, copies_of}
use Rattle.file_table.specs.Table.{TableValue}
use Rattle.parity_writer.specs.Parity.{Row, Rows, no_rows, with_row}
use Rattle.parity_writer.specs.Sound.{Sound, Closed, last_row, newest}
use Rattle.snap_sync.specs.Closing.{rows_with}
use Rattle.snap_sync.specs.Images.{rows_after}
use Rattle.stripe_findings.specs.Reading.{StripeReading, is_verified, row_of}
use Rattle.snap_sync.specs.Soundness.{AreSound, in_front}
use Rattle.snap_sync.specs.Part.{SyncRun}
use Rattle.snap_top.specs.History.{Changes, IsSoundSynced, IsHistory, Runs, StaysSound, Step}
use Rattle.snap_top.specs.LastSynced.{AreSoundBy, IsChange, IsOfBytes, LastSynced, synced_by}
use Rattle.snap_top.specs.Moment.{IsSoundAlways}
use Rattle.snap_top.specs.Effect.{effect}
use Rattle.snap_top.specs.SoundAtEnd.{IsSoundAtEnd}
use Rattle.snap_top.specs.Stands.{StandsAfter}
use Rattle.snap_top.specs.RunOf.{end_of, entry_of}
use Rattle.snap_top.specs.Entry.{Entry, Exit}
use Rattle.snap_top.specs.Did.{Did, fixes, reads_only, scrubs, syncs}
use Rattle.snap_top.specs.Sync.{end_table}
use Rattle.snap_top.proofs.OfFixLemmas.{loaded_sound}

-- a change from outside keeps what it doesn't count as changed
pub change_sound : (copies copies_then : ℕ) (is_changed is_changed_then : ℕ → ℕ → Bool) (old new : Files) (snapshot : Closed) → IsChange copies copies_then is_changed is_changed_then old new → AreSound copies old snapshot is_changed
    → AreSound copies_then new snapshot is_changed_then
change_sound copies copies_then is_changed is_changed_then old new snapshot change are copy table below valid spells =
    ⊎_elim
    (λ same. kept (are same.0 table same.1 valid (sym same.2 ∙ spells)))
    (λ none. absurd (none (spelling table) spells (record { table = table; valid = valid; spelled = refl })))
    (change.contents copy below)
  where
    kept : Sound table old snapshot is_changed → Sound table new snapshot is_changed_then
    kept sound = record {
      was_closed = sound.was_closed;
      rows = sound.rows;
      sums = λ stripe level synced within unchanged i less.
          let stays = change.parity copy table stripe level below valid spells unchanged in
          stays.bytes (stripe * table.shape.block_size + i) _ (omega arith) (omega (arith, less)) (sound.sums stripe level synced within (change.counted stripe level unchanged) i less);
    }

-- ---- rows of bytes

abbrev HasBytes : Option Row → Type 0
HasBytes found = IfSome found AreBytes

-- those that a sync closes are, where all that it read are
rows_bytes : (start : TableValue) (readings : List StripeReading) (rows : Rows) → All (λ (reading : StripeReading). AreBytes (row_of reading)) readings → ((stripe : ℕ) → HasBytes (rows stripe)) → (stripe : ℕ) → HasBytes (rows_with start readings rows stripe)
rows_bytes start [] rows all were stripe = were stripe
rows_bytes start (x ∷ xs) rows all were stripe =
    rows_bytes start xs (if is_verified start x then with_row x.stripe (row_of x) rows else rows) (λ k d within. all (suc k) d (omega (arith, within))) (λ s. by (is_verified start x) s) stripe
  where
    one : (same : Bool) (s : ℕ) → HasBytes (if same then Some (row_of x) else rows s)
    one true s = all 0 x (omega arith)
    one false s = were s

    by : (b : Bool) (s : ℕ) → HasBytes ((if b then with_row x.stripe (row_of x) rows else rows) s)
    by true s = one (s == x.stripe) s
    by false s = were s

front_bytes : (found : Option Row) (rows : List Row) → HasBytes found → All AreBytes rows → All AreBytes (in_front found rows)
front_bytes None rows has bytes = bytes
front_bytes (Some read) rows has bytes = All-cons AreBytes read rows has bytes

newest_bytes : (rows : List Row) → All AreBytes rows → AreBytes (newest rows)
newest_bytes [] bytes = λ c p. omega arith
newest_bytes (row ∷ rows) bytes = bytes 0 row (omega arith)

-- so the row that a stripe was last closed with is of bytes
pub last_bytes : (snapshot : Closed) (stripe : ℕ) → IsOfBytes snapshot → AreBytes (last_row snapshot stripe)
last_bytes snapshot stripe bytes = newest_bytes (snapshot stripe) (bytes stripe)

-- a snapshot stays of bytes over a run
pub stays_of_bytes : (before : Entry) (exit : Exit) (did : Did) (count : ℕ) (last : LastSynced) → (effect did).is_of before exit → IsOfBytes last.snapshot → IsOfBytes (synced_by did count last).snapshot
stays_of_bytes before exit reads_only count last is bytes stripe = bytes stripe
stays_of_bytes before exit (fixes failed run) count last is bytes stripe = bytes stripe
stays_of_bytes before exit (scrubs failed run) count last is bytes stripe = bytes stripe
stays_of_bytes before exit (syncs failed run) count last is bytes stripe =
    front_bytes (rows_after run.plan run.readings count stripe) (last.snapshot stripe)
    (rows_bytes run.plan.start (take count run.readings) no_rows
    (All-take (λ (reading : StripeReading). AreBytes (row_of reading)) count run.readings is.bytes) (λ s. tt) stripe)
    (bytes stripe)

-- ---- a history

module _ {O F V W : Type 0} (opener_view : O → OpenerView) (folder_view : F → FolderView) (vault_view : V → VaultView) (sink_view : W → SinkView) where
  stays_sound : (copies : ℕ) (steps : List (Step O F V W)) (files : Files) (last : LastSynced) → IsHistory opener_view folder_view vault_view sink_view copies steps files → AreSoundBy copies files last
      → StaysSound opener_view folder_view vault_view sink_view copies steps files last
  stays_sound copies [] files last history are = tt
  stays_sound copies (Changes copies_then left is_changed ∷ steps) files last history are = λ change.
      let after : AreSoundBy copies_then left (record { snapshot = last.snapshot; is_changed = is_changed }) = change_sound copies copies_then last.is_changed is_changed files left last.snapshot change are in
      (after, stays_sound copies_then steps left (record { snapshot = last.snapshot; is_changed = is_changed }) history after)
  stays_sound copies (Runs stop ∷ steps) files last history are =
      let before : Entry = entry_of opener_view sink_view stop.run in
      let exit : Exit = end_of opener_view folder_view vault_view sink_view stop.run in
      let runs = history.0 in
      let always : IsSoundAlways before exit stop.run.status = runs.sound runs.fresh in
      let here : AreSound (copies_of before.opener.vault) before.opener.vault.files last.snapshot last.is_changed
      = subst (λ (n : ℕ). AreSound n before.opener.vault.files last.snapshot last.is_changed) (sym runs.copies_are)
      (subst (λ (fs : Files). AreSound copies fs last.snapshot last.is_changed) (sym runs.files_are) are) in
      let synced_of : (ended : IsSoundAtEnd before exit stop.run.status) → StandsAfter exit stop.left
      → IsSoundSynced before exit stop.run.status ended.run copies stop.left last (StaysSound opener_view folder_view vault_view sink_view copies steps stop.left)
      = λ ended stands.
      let did : Did = syncs false ended.run in
      let count : ℕ = length ended.run.readings in
      let after : AreSoundBy copies stop.left (synced_by did count last)
      = subst (λ (n : ℕ). AreSoundBy n stop.left (synced_by did count last)) runs.copies_are (ended.sound stop.left last.snapshot last.is_changed stands here) in
      record {
        is_sync = ended.is_sync;
        all = ended.all;
        saved = subst (λ (n : ℕ). HasSaved n (spelling (end_table ended.run)) stop.left) runs.copies_are (ended.saved stop.left stands);
        clean = ended.clean;
        once = record {
          sound = after;
          bytes = stays_of_bytes before exit did count last ended.is_sync;
          goes_on = stays_sound copies steps stop.left (synced_by did count last) history.1 after;
        };
      } in
      record {
        did = always.did;
        is_did = always.is_did;
        sound = λ supposed.
            let supposed_here : (effect always.did).supposes (copies_of before.opener.vault) before.opener.vault.files last.snapshot
            = subst (λ (n : ℕ). (effect always.did).supposes n before.opener.vault.files last.snapshot) (sym runs.copies_are)
            (subst (λ (fs : Files). (effect always.did).supposes copies fs last.snapshot) (sym runs.files_are) supposed) in
            let next = always.sound stop.left last.snapshot last.is_changed runs.stands here supposed_here in
            let after : AreSoundBy copies stop.left (synced_by always.did next.count last)
            = subst (λ (n : ℕ). AreSoundBy n stop.left (synced_by always.did next.count last)) runs.copies_are next.sound in
            record {
              count = next.count;
              within = next.within;
              once = record {
                sound = after;
                bytes = stays_of_bytes before exit always.did next.count last always.is_did;
                goes_on = stays_sound copies steps stop.left (synced_by always.did next.count last) history.1 after;
              };
            };
        at_end = λ run did_is stands.
            let ends : (ends : IsSoundAtEnd before exit stop.run.status) × (ends.run ≡ run)
            = subst (λ (did : Did). (effect did).sound_at_end before exit stop.run.status) did_is always.at_end in
            subst (λ (its : SyncRun). IsSoundSynced before exit stop.run.status its copies stop.left last (StaysSound opener_view folder_view vault_view sink_view copies steps stop.left))
            ends.1 (synced_of ends.0 stands);
        synced = λ asked stands. let ended : IsSoundAtEnd before exit stop.run.status = always.synced asked in (ended.run, synced_of ended stands);
        restores = λ ends genuine.
            let over = ends.is_fix.over in
            ends.restores last.snapshot last.is_changed
            (loaded_sound (copies_of before.opener.vault) ends.run.loaded before.opener.vault.files last.snapshot last.is_changed over.valid over.is_loaded here) genuine;
      }

pub history_sound : {O F V W : Type 0} (opener_view : O → OpenerView) (folder_view : F → FolderView) (vault_view : V → VaultView) (sink_view : W → SinkView) (copies : ℕ) (steps : List (Step O F V W)) (files : Files) (last : LastSynced)
    → IsHistory opener_view folder_view vault_view sink_view copies steps files → AreSoundBy copies files last → StaysSound opener_view folder_view vault_view sink_view copies steps files last
history_sound opener_view folder_view vault_view sink_view = stays_sound opener_view folder_view vault_view sink_view
