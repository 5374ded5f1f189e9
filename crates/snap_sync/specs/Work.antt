-- What a sync works with, and how far the vault is.
use Rattle.std.specs.Prelude.{◌≡◌, ℕ, ◌+◌, ◌<◌, ◌≤◌, ◌⊎◌, List, length, min, max, ◌^◌, ◌-◌, All, Bool, true, false, if◌then◌else◌, IsTrue}
use Rattle.content_file.specs.Save.{MaySave, HasSaved, piece_size}
use Rattle.content_file.specs.Spelling.{spelling}
use Rattle.disk_model.specs.Answer.{is_failure}
use Rattle.disk_model.specs.Cause.{Rose}
use Rattle.disk_model.specs.Files.{Files}
use Rattle.disk_model.specs.Ran.{log_of}
use Rattle.disk_model.specs.Vault.{VaultView, VaultCall, VaultDone, ParityRead, ContentSize, ContentRead, SomeCalls, ChangesBy, Reads, Holds, copies_of, state_of}
use Rattle.file_table.specs.Table.{TableValue}
use Rattle.parity_writer.specs.Keeps.{SameParities}
use Rattle.parity_writer.specs.Parity.{HoldsRows}
use Rattle.parity_writer.specs.Summing.{HaveSize}
use Rattle.parity_writer.specs.declared.summing.Sums.{Sums}
use Rattle.snap_report.specs.Answer.{Gained}
use Rattle.stripe_reader.specs.Starts.{recorded_starts}
use Rattle.stripe_reader.specs.WindowValue.{Fits, stripe_count}
use Rattle.snap_sync.specs.declared.room.Room.{Room}
use Rattle.snap_sync.specs.Calls.{SyncPlan, RanOpened, stripe_calls}
use Rattle.snap_sync.specs.Images.{MayStand, HasParityAfter, table_after, rows_after}
use Rattle.stripe_findings.specs.Reading.{StripeReading}

-- room for the sums of so many stripes of a table
pub record AreSumsFor (table : TableValue) (stripes : ℕ) (sums : List Sums) : Type 0 where
  pub as_many : length sums ≡ stripes
  pub each : All (HaveSize table.shape.block_size) sums

-- Room for the windows of a table, of which so many stripes are pending: each has room for as many stripes as one of any run over it, but
-- for no more than are pending, and for one at least. There is a choice and room for the sums of each of its stripes, and a piece for the
-- drafts besides.
pub record IsRoomFor (table : TableValue) (pending : ℕ) (room : Room) : Type 0 where
  pub starts : room.starts ≡ recorded_starts table
  pub some : 0 < room.near.room
  pub size : room.near.room ≡ max 1 (min (stripe_count (length table.columns) table.shape.block_size) pending)
  pub near : Fits table room.near
  pub far : Fits table room.far
  pub as_much : room.far.room ≡ room.near.room
  pub chosen : length room.chosen.items ≡ room.near.room
  pub sums : AreSumsFor table room.near.room room.sums.items
  pub piece : length room.piece.items ≡ piece_size

-- a call that reads parity or a copy, and a failed one that does not
abbrev pub is_vault_reading : VaultCall → Bool
is_vault_reading (ParityRead level at n) = true
is_vault_reading (ContentSize copy) = true
is_vault_reading (ContentRead copy at n) = true
is_vault_reading _ = false

abbrev pub broke_sync : VaultDone → Bool
broke_sync done = if is_vault_reading done.call then false else is_failure done.answer

-- a call of the vault failed that reads neither parity nor a copy, and its count rose
pub record VaultBroke (old new : VaultView) : Type 0 where
  pub rose : Rose old.faults new.faults
  pub call : IsTrue new.tells_calls → Gained broke_sync old.calls new.calls

-- a plan for a vault
pub record IsPlanFor (plan : SyncPlan) (v : VaultView) : Type 0 where
  pub levels : v.levels ≡ plan.start.shape.levels
  pub copies : copies_of v ≡ plan.copies

-- The vault once the first k of these stripes were read and written: the table closed by the first c of them is in every copy.
pub record IsUnderway (plan : SyncPlan) (readings : List StripeReading) (c k : ℕ) (old new : VaultView) : Type 0 where
  pub order : c ≤ k
  pub within : k ≤ length readings
  pub calls : SomeCalls old new
  pub ran : RanOpened plan (stripe_calls plan readings k) false (state_of old) (log_of (state_of new))
  pub changes : ChangesBy (MayStand plan readings) old new
  pub copies : Holds (HasSaved plan.copies (spelling (table_after plan readings c))) new
  pub rows : Holds (HoldsRows plan.start.shape.levels plan.start.shape.block_size (rows_after plan readings c)) new
  pub parity : Reads (HasParityAfter plan readings k old.files) new

-- nothing is changed yet or parity is settled as these files are, and a table is being saved
pub record MaySettle (levels : ℕ) (read : Files) (bytes : List ℕ) (old new : Files) : Type 0 where
  pub saves : MaySave bytes old new
  pub settled : (new ≡ old) ⊎ SameParities levels read new

-- how many more findings: the number stays at the greatest u64
abbrev pub more_findings : ℕ → ℕ → ℕ
more_findings findings more = min (findings + more) (2 ^ 64 - 1)
