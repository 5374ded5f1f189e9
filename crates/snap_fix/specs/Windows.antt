-- The windows of a fix: of the stripes of one all levels are read first, and then the wrong ones written.
use Rattle.std.specs.Prelude.{◌≡◌, ℕ, ◌+◌, ◌*◌, ◌<◌, ◌≤◌, List, [], ◌++◌, length, map, get_or, All}
use Rattle.std.specs.List.{flat_map}
use Rattle.disk_model.specs.Vault.{VaultCall, VaultDone}
use Rattle.parity_writer.specs.LevelReading.{LevelReading}
use Rattle.stripe_examiner.specs.Facts.{StripeFacts}
use Rattle.stripe_examiner.specs.Looking.{level_reads}
use Rattle.stripe_examiner.specs.Room.{window_room}
use Rattle.repair_scope.specs.Plan.{FixPlan}
use Rattle.snap_fix.specs.Underway.{done_well, wrong_writes}

-- the stripes of a window, and what was read of the levels of each
pub record FixWindow : Type 0 where
  pub stripes : List StripeFacts
  pub readings : List (List LevelReading)

abbrev pub stripes_in : List FixWindow → List StripeFacts
stripes_in windows = flat_map (λ (window : FixWindow). window.stripes) windows

-- the stripes of each window
abbrev pub cut_of : List FixWindow → List (List StripeFacts)
cut_of windows = map (λ (window : FixWindow). window.stripes) windows

abbrev pub readings_in : List FixWindow → List (List LevelReading)
readings_in windows = flat_map (λ (window : FixWindow). window.readings) windows

-- how many stripes a window of a fix has: as many as one of any run over its table, but no more than the table has
abbrev pub window_size : FixPlan → ℕ
window_size plan = window_room plan.table

-- the readings are one list for each stripe, and there is a stripe, and no more of them than a window has
pub record IsFixWindow (plan : FixPlan) (window : FixWindow) : Type 0 where
  pub as_many : length window.readings ≡ length window.stripes
  pub some : 0 < length window.stripes
  pub few : length window.stripes ≤ window_size plan

-- it has just so many
abbrev pub IsFull : FixPlan → FixWindow → Type 0
IsFull plan window = length window.stripes ≡ window_size plan

-- a window of these stripes, of whose levels this was read
abbrev pub window_of : List StripeFacts → List (List LevelReading) → FixWindow
window_of stripes readings = record { stripes = stripes; readings = readings }

-- what stands for a window that is not there
abbrev pub no_window : FixWindow
no_window = record { stripes = []; readings = [] }

-- Stripes, and what was read of their levels, cut into windows: each but the last one is full. So there is one such cut.
pub record AreWindows (plan : FixPlan) (windows : List FixWindow) (stripes : List StripeFacts) (readings : List (List LevelReading)) : Type 0 where
  pub stripes_are : stripes ≡ stripes_in windows
  pub readings_are : readings ≡ readings_in windows
  pub each : All (IsFixWindow plan) windows
  pub full : (k : ℕ) → k + 1 < length windows → IsFull plan (get_or windows k no_window)

-- so many stripes fill some windows
abbrev pub FillWindows : FixPlan → ℕ → Type 0
FillWindows plan count = (k : ℕ) × (count ≡ k * window_size plan)

-- ---- the calls of the vault

-- the levels of all stripes of a window are read, stripe after stripe
abbrev pub window_reads : FixPlan → FixWindow → List VaultDone
window_reads plan window = level_reads plan.table.shape.block_size window.stripes window.readings

-- the wrong levels of stripes are written, stripe after stripe
abbrev pub all_wrong_writes : FixPlan → List StripeFacts → List VaultCall
all_wrong_writes plan stripes = flat_map (wrong_writes plan) stripes

-- all calls for a window, and for windows, one after another
abbrev pub window_calls : FixPlan → FixWindow → List VaultDone
window_calls plan window = window_reads plan window ++ done_well (all_wrong_writes plan window.stripes)

abbrev pub mend_calls : FixPlan → List FixWindow → List VaultDone
mend_calls plan windows = flat_map (window_calls plan) windows
