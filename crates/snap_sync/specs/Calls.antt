-- Which calls a sync makes of the vault, and in which order.
use Rattle.std.specs.Prelude.{◌≡◌, ℕ, ◌+◌, ◌*◌, ◌==◌, ◌&&◌, not, List, [], ◌++◌, length, take, get_or, All, Bool, if◌then◌else◌, IsTrue, Option}
use Rattle.std.specs.List.{range_with_len, flat_map}
use Rattle.content_file.specs.Save.{piecewise_calls}
use Rattle.content_file.specs.Spelling.{spelling}
use Rattle.disk_model.specs.Ran.{Log, RanLog, log_of}
use Rattle.disk_model.specs.Vault.{VaultCall, VaultState}
use Rattle.file_table.specs.Table.{TableValue}
use Rattle.parity_writer.specs.Calls.{IsLengthCall, length_calls, sum_calls, sync_calls}
use Rattle.snap_sync.specs.Closing.{closed}
use Rattle.stripe_findings.specs.Reading.{StripeReading, is_verified, row_of}
use Rattle.snap_sync.specs.Schedule.{is_checkpoint}

-- what the calls of a sync depend on, beside what it reads: the laid out table, how many pending stripes that has, after how many of
-- them it saves, when it began, how many copies there are, and how many bytes it writes to a draft at once
pub record SyncPlan : Type 0 where
  pub start : TableValue
  pub all : ℕ
  pub every : Option ℕ
  pub now : ℕ
  pub copies : ℕ
  pub piece : ℕ

-- the length of the levels in bytes
abbrev pub level_bytes : TableValue → ℕ
level_bytes table = length table.infos * table.shape.block_size

-- Calls by which the levels get their lengths: each asks for the length of a level, or sets it to that of the laid out table. Where the vault
-- tells its files, each level is asked in order, and is set where it has another length.
pub record AreLengthCalls (plan : SyncPlan) (old : VaultState) (calls : List VaultCall) : Type 0 where
  pub each : All (IsLengthCall (level_bytes plan.start)) calls
  pub as_read : IsTrue old.tells → calls ≡ length_calls plan.start.shape.levels (level_bytes plan.start) old.files

-- the laid out table is saved to every copy, and then the levels get their lengths by these calls
abbrev pub opening_calls : SyncPlan → List VaultCall → List VaultCall
opening_calls plan lengths = piecewise_calls plan.piece plan.copies (spelling plan.start) ++ lengths

-- the writes for a stripe that was read: where it is verified, its sum to each level in order
abbrev pub writes_of : TableValue → StripeReading → List VaultCall
writes_of start reading =
    if is_verified start reading then sum_calls start.shape.levels start.shape.block_size reading.stripe (row_of reading) else []

-- a checkpoint: each level is synced, and then a table is saved to every copy
abbrev pub checkpoint_calls : SyncPlan → TableValue → List VaultCall
checkpoint_calls plan table = sync_calls plan.start.shape.levels ++ piecewise_calls plan.piece plan.copies (spelling table)

-- a checkpoint stands after so many pending stripes, and it is not the end
abbrev pub saves_after : SyncPlan → ℕ → Bool
saves_after plan count = is_checkpoint plan.every count && not (count == plan.all)

-- the calls for the stripe of a number: its writes, and the checkpoint behind it, if one stands there
abbrev pub no_reading : StripeReading
no_reading = record { stripe = 0; slots = [] }

abbrev pub calls_at : SyncPlan → List StripeReading → ℕ → List VaultCall
calls_at plan readings i =
    writes_of plan.start (get_or readings i no_reading)
    ++ (if saves_after plan (i + 1) then checkpoint_calls plan (closed plan.now plan.start (take (i + 1) readings)) else [])

-- the calls for the first so many stripes
abbrev pub stripe_calls : SyncPlan → List StripeReading → ℕ → List VaultCall
stripe_calls plan readings count = flat_map (calls_at plan readings) (range_with_len 0 count)

-- all calls behind the opening of a sync that read these stripes; it ends with a checkpoint once all were read
abbrev pub ending_calls : SyncPlan → List StripeReading → List VaultCall
ending_calls plan readings = if length readings == plan.all then checkpoint_calls plan (closed plan.now plan.start readings) else []

abbrev pub reading_calls : SyncPlan → List StripeReading → List VaultCall
reading_calls plan readings = stripe_calls plan readings (length readings) ++ ending_calls plan readings

-- The vault was opened so, and then got these calls: just these were made, in this order, up to the first that failed.
pub record RanOpened (plan : SyncPlan) (calls : List VaultCall) (failed : Bool) (old : VaultState) (new : Log) : Type 0 where
  pub lengths : List VaultCall
  pub are : AreLengthCalls plan old lengths
  pub ran : RanLog (opening_calls plan lengths ++ calls) failed (log_of old) new
