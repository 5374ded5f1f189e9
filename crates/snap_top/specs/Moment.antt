-- What stands at each moment of a run, wherever it is stopped, and what a sync leaves at its end.
use Rattle.std.specs.Prelude.{◌≡◌, ℕ, ◌≤◌, Bool, Ok}
use Rattle.disk_model.specs.Files.{Files}
use Rattle.disk_model.specs.Vault.{copies_of}
use Rattle.snap_config.specs.declared.options.Command.TheVariants as commands
use Rattle.snap_config.specs.declared.options.Options.{Options}
use Rattle.array_setup.specs.declared.ways.SyncWay.{SyncWay}
use Rattle.snap_sync.specs.Soundness.{AreSound}
use Rattle.snap_top.specs.Ended.{WentToItsEnd}
use Rattle.snap_top.specs.Asked.{asked_by, ChangesNothing}
use Rattle.snap_top.specs.Entry.{Entry, Exit}
use Rattle.snap_top.specs.Effect.{effect}
use Rattle.snap_top.specs.Did.{Did, reads_only}
use Rattle.parity_writer.specs.Sound.{Closed}
use Rattle.snap_top.specs.Stands.{HoldsFresh, StandsIn}
use Rattle.snap_top.specs.SoundAtEnd.{IsSoundAtEnd, IsSoundWith}

-- ---- each moment

-- Sound at a moment of a run: once it read some number of its stripes.
pub record IsSoundIn (did : Did) (copies : ℕ) (files : Files) (snapshot : Closed) (is_changed : ℕ → ℕ → Bool) : Type 0 where
  pub count : ℕ
  pub within : count ≤ (effect did).stripes_read
  pub sound : IsSoundWith (effect did).levels_closed ((effect did).rows_closed count) copies files snapshot is_changed

-- A run was asked for a sync, and went to its end.
pub record SyncsToItsEnd (before : Entry) (exit : Exit) (status : ℕ) : Type 0 where
  pub asked : Options
  pub way : SyncWay
  pub words : asked_by before.texts ≡ Ok asked
  pub command_is : asked.command ≡ commands.Sync way
  pub went : WentToItsEnd before exit status

-- Where all copies are sound at the beginning of a run, they are at each moment of it, whatever it answers. What a run did is to read,
-- to sync, to fix or to scrub; of a fix this rests on that no hash was met by chance, and that all content files have blocks of its
-- size. How many of its stripes a sync has read at a moment is open; at its end it has read all (`at_end`). So it is also of each
-- account that shows that it went there (`synced`).
pub record IsSoundAlways (before : Entry) (exit : Exit) (status : ℕ) : Type 0 where
  pub did : Did
  pub is_did : (effect did).is_of before exit
  pub broke : (effect did).breaks_behind before exit is_did
  pub reads : (asked : Options) → asked_by before.texts ≡ Ok asked → ChangesNothing asked.command → did ≡ reads_only
  pub moments : (files : Files) → StandsIn before exit files → (effect did).may_stand before.opener.vault.files files
  pub copies : (files : Files) → StandsIn before exit files
      → (effect did).copies_are (copies_of before.opener.vault) before.opener.vault.files files
  pub sound : (files : Files) (snapshot : Closed) (is_changed : ℕ → ℕ → Bool) → StandsIn before exit files
      → AreSound (copies_of before.opener.vault) before.opener.vault.files snapshot is_changed
      → (effect did).supposes (copies_of before.opener.vault) before.opener.vault.files snapshot
      → IsSoundIn did (copies_of before.opener.vault) files snapshot is_changed
  pub at_end : (effect did).sound_at_end before exit status
  pub synced : SyncsToItsEnd before exit status → IsSoundAtEnd before exit status

abbrev pub EveryMomentIsSound : Entry → Exit → ℕ → Type 0
EveryMomentIsSound before exit status = HoldsFresh before → IsSoundAlways before exit status
