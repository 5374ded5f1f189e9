-- Runs of any commands, one after another, each of which ended or was stopped at some moment, and what others do to the vault in between.
use Rattle.std.specs.Prelude.{◌≡◌, ℕ, ◌≤◌, List, [], ◌∷◌, length, Bool, false}
use Rattle.array_scan.specs.Layout.{pending_stripes}
use Rattle.content_file.specs.Save.{HasSaved}
use Rattle.content_file.specs.Spelling.{spelling}
use Rattle.disk_model.specs.Files.{Files}
use Rattle.disk_model.specs.Folder.{FolderView}
use Rattle.disk_model.specs.Opener.{OpenerView}
use Rattle.disk_model.specs.Sink.{SinkView}
use Rattle.disk_model.specs.Vault.{VaultView, copies_of}
use Rattle.snap_fix.specs.Fixing.{facts_of}
use Rattle.snap_fix.specs.Genuine.{AreGenuine, held_row}
use Rattle.snap_sync.specs.Part.{AllVerified, SyncRun}
use Rattle.stripe_findings.specs.Reading.{stripes_of}
use Rattle.snap_top.specs.Moment.{EveryMomentIsSound, SyncsToItsEnd}
use Rattle.snap_top.specs.Effect.{effect}
use Rattle.snap_top.specs.Stands.{HoldsFresh, StandsAfter, StandsIn}
use Rattle.snap_top.specs.Began.{IsSyncOf}
use Rattle.snap_top.specs.Restoring.{EndsFixed, Restores}
use Rattle.snap_top.specs.RunOf.{end_of, entry_of, StoppedRun}
use Rattle.snap_top.specs.Entry.{Entry, Exit}
use Rattle.snap_top.specs.Sync.{end_table}
use Rattle.snap_top.specs.Did.{Did, syncs}
use Rattle.snap_top.specs.LastSynced.{AreSoundBy, IsChange, IsOfBytes, LastSynced, synced_by}

-- A step of a history: a run with the files that a stop at some moment of it leaves; or a change of the vault from outside, also by another
-- configuration, with so many copies and the files that there are then, and what counts as changed from then on.
pub data Step (O F V W : Type 0) : Type 0 where
  Runs : StoppedRun O F V W → Step O F V W
  Changes : (copies : ℕ) (left : Files) (is_changed : ℕ → ℕ → Bool) → Step O F V W

-- ---- a history

-- Sound once a run read so many stripes, and then goes on so. A snapshot of bytes stays one.
pub record IsSoundOnce (did : Did) (count copies : ℕ) (left : Files) (last : LastSynced) (GoesOn : LastSynced → Type 0) : Type 0 where
  pub sound : AreSoundBy copies left (synced_by did count last)
  pub bytes : IsOfBytes last.snapshot → IsOfBytes (synced_by did count last).snapshot
  pub goes_on : GoesOn (synced_by did count last)

-- At a moment of a run this is some number, and which is open.
pub record IsSoundThen (did : Did) (copies : ℕ) (left : Files) (last : LastSynced) (GoesOn : LastSynced → Type 0) : Type 0 where
  pub count : ℕ
  pub within : count ≤ (effect did).stripes_read
  pub once : IsSoundOnce did count copies left last GoesOn

-- At the end of a sync it is all, and these are the pending stripes of its layout. Each copy spells the table that calls those synced whose rows
-- count; with status 0 they are all.
pub record IsSoundSynced (before : Entry) (exit : Exit) (status : ℕ) (run : SyncRun) (copies : ℕ) (left : Files) (last : LastSynced)
    (GoesOn : LastSynced → Type 0) : Type 0 where
  pub is_sync : IsSyncOf before exit run
  pub all : stripes_of run.readings ≡ pending_stripes run.plan.start.infos
  pub saved : HasSaved copies (spelling (end_table run)) left
  pub clean : status ≡ 0 → AllVerified run.plan.start run.readings
  pub once : IsSoundOnce (syncs false run) (length run.readings) copies left last GoesOn

module _ {O F V W : Type 0} (opener_view : O → OpenerView) (folder_view : F → FolderView) (vault_view : V → VaultView) (sink_view : W → SinkView) where
  -- a run over a vault of so many copies, opened anew, that holds these files; it leaves others at some moment, or at its end
  pub record RunsOver (copies : ℕ) (files : Files) (stop : StoppedRun O F V W) : Type 0 where
    pub fresh : HoldsFresh (entry_of opener_view sink_view stop.run)
    pub copies_are : copies_of (entry_of opener_view sink_view stop.run).opener.vault ≡ copies
    pub files_are : (entry_of opener_view sink_view stop.run).opener.vault.files ≡ files
    pub sound : EveryMomentIsSound (entry_of opener_view sink_view stop.run) (end_of opener_view folder_view vault_view sink_view stop.run) stop.run.status
    pub stands : StandsIn (entry_of opener_view sink_view stop.run) (end_of opener_view folder_view vault_view sink_view stop.run) stop.left

  -- Sound after a run. What it did is to read, to sync, to fix or to scrub. Unless a fix met a hash by chance, or a content file has blocks of another
  -- size, the copies that it left are sound with the rows that it had closed by then, and so it goes on from there. Where it synced and did not break
  -- off, and this is what stands then, these are the rows of all that it closed, and each copy spells its table (`at_end`). So it is also of each
  -- account of a sync that shows that it went to its end (`synced`). Of each account of a fix that went to its end, and met no hash by chance: it
  -- restores the blocks of the snapshot.
  pub record IsSoundAfter (copies : ℕ) (files : Files) (last : LastSynced) (stop : StoppedRun O F V W) (GoesOn : LastSynced → Type 0) : Type 0 where
    pub did : Did
    pub is_did : (effect did).is_of (entry_of opener_view sink_view stop.run) (end_of opener_view folder_view vault_view sink_view stop.run)
    pub sound : (effect did).supposes copies files last.snapshot → IsSoundThen did copies stop.left last GoesOn
    pub at_end : (run : SyncRun) → did ≡ syncs false run → StandsAfter (end_of opener_view folder_view vault_view sink_view stop.run) stop.left
        → IsSoundSynced (entry_of opener_view sink_view stop.run) (end_of opener_view folder_view vault_view sink_view stop.run) stop.run.status run copies
        stop.left last GoesOn
    pub synced : SyncsToItsEnd (entry_of opener_view sink_view stop.run) (end_of opener_view folder_view vault_view sink_view stop.run) stop.run.status
        → StandsAfter (end_of opener_view folder_view vault_view sink_view stop.run) stop.left
        → (run : SyncRun) × IsSoundSynced (entry_of opener_view sink_view stop.run) (end_of opener_view folder_view vault_view sink_view stop.run)
        stop.run.status run copies stop.left last GoesOn
    pub restores : (ends : EndsFixed (entry_of opener_view sink_view stop.run) (end_of opener_view folder_view vault_view sink_view stop.run) stop.run.status)
        → AreGenuine ends.run.plan (held_row ends.run.plan.table last.snapshot) (facts_of ends.run.stripes) → Restores ends.run ends.finishes last.snapshot

  -- each step begins with what the one before it left
  abbrev pub IsHistory : ℕ → List (Step O F V W) → Files → Type 0
  IsHistory copies [] files = Unit {0}
  IsHistory copies (Runs stop ∷ steps) files = RunsOver copies files stop × IsHistory copies steps stop.left
  IsHistory copies (Changes copies_then left is_changed ∷ steps) files = IsHistory copies_then steps left

  -- and so the copies are sound after each of them
  abbrev pub StaysSound : ℕ → List (Step O F V W) → Files → LastSynced → Type 0
  StaysSound copies [] files last = Unit {0}
  StaysSound copies (Runs stop ∷ steps) files last = IsSoundAfter copies files last stop (StaysSound copies steps stop.left)
  StaysSound copies (Changes copies_then left is_changed ∷ steps) files last =
      IsChange copies copies_then last.is_changed is_changed files left
      → AreSoundBy copies_then left (record { snapshot = last.snapshot; is_changed = is_changed })
      × StaysSound copies_then steps left (record { snapshot = last.snapshot; is_changed = is_changed })
