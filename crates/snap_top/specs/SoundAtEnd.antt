-- What a sync leaves at its end is sound.
use Rattle.std.specs.Prelude.{◌≡◌, ℕ, length, Bool}
use Rattle.array_scan.specs.Layout.{pending_stripes}
use Rattle.content_file.specs.Save.{HasSaved}
use Rattle.content_file.specs.Spelling.{spelling}
use Rattle.disk_model.specs.Files.{Files}
use Rattle.disk_model.specs.Vault.{copies_of}
use Rattle.parity_writer.specs.Parity.{Rows}
use Rattle.snap_sync.specs.Images.{rows_after}
use Rattle.snap_sync.specs.Part.{AllVerified, SyncRun}
use Rattle.stripe_findings.specs.Reading.{stripes_of}
use Rattle.snap_sync.specs.Soundness.{AreSound, changed_without, snapshot_with}
use Rattle.snap_top.specs.Entry.{Entry, Exit}
use Rattle.snap_top.specs.Sync.{end_table}
use Rattle.parity_writer.specs.Sound.{Closed}
use Rattle.snap_top.specs.Began.{IsSyncOf}
use Rattle.snap_top.specs.Stands.{StandsAfter}

-- Sound once a run has closed these rows, of so many levels: with these rows in front in the snapshot, and none of these levels changed from
-- outside in their stripes.
abbrev pub IsSoundWith : ℕ → Rows → ℕ → Files → Closed → (ℕ → ℕ → Bool) → Type 0
IsSoundWith levels rows copies files snapshot is_changed = AreSound copies files (snapshot_with rows snapshot) (changed_without levels rows is_changed)

-- Its sync read all pending stripes of its layout, and each copy that it left spells its table. With status 0 all of them are verified.
-- Where all copies were sound at its beginning, those that it left are with the rows of all that it closed.
pub record IsSoundAtEnd (before : Entry) (exit : Exit) (status : ℕ) : Type 0 where
  pub run : SyncRun
  pub is_sync : IsSyncOf before exit run
  pub all : stripes_of run.readings ≡ pending_stripes run.plan.start.infos
  pub saved : (files : Files) → StandsAfter exit files
      → HasSaved (copies_of before.opener.vault) (spelling (end_table run)) files
  pub clean : status ≡ 0 → AllVerified run.plan.start run.readings
  pub sound : (files : Files) (snapshot : Closed) (is_changed : ℕ → ℕ → Bool) → StandsAfter exit files
      → AreSound (copies_of before.opener.vault) before.opener.vault.files snapshot is_changed
      → IsSoundWith run.plan.start.shape.levels (rows_after run.plan run.readings (length run.readings)) (copies_of before.opener.vault) files snapshot is_changed
