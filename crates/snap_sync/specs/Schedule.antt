-- When a sync saves the table, and which stripes it reads into a window.
use Rattle.std.specs.Prelude.{ℕ, zero, suc, ◌+◌, ◌-◌, ◌/◌, ◌%◌, ◌==◌, min, max, Bool, false, if◌then◌else◌, Option, None, Some}

-- `autosave`: after how many stripes so many bytes of data are synced, at least one; never where that is 0
abbrev pub stripes_in : ℕ → ℕ → Option ℕ
stripes_in bytes stripe_bytes = if bytes == 0 then None else Some (max 1 (bytes / stripe_bytes))

-- after how many pending stripes a sync saves besides at its end: `--save-every`, else by `autosave`
abbrev pub save_after : Option ℕ → ℕ → ℕ → Option ℕ
save_after (Some count) bytes stripe_bytes = Some count
save_after None bytes stripe_bytes = stripes_in bytes stripe_bytes

-- a checkpoint stands after so many pending stripes
abbrev pub is_checkpoint : Option ℕ → ℕ → Bool
is_checkpoint None count = false
is_checkpoint (Some every) count = count % every == 0

-- how many stripes there are till the next checkpoint, after so many
abbrev pub till_checkpoint : Option ℕ → ℕ → ℕ → ℕ
till_checkpoint None count most = most
till_checkpoint (Some every) count most = min most (every - count % every)

-- how many stripes a window takes, after so many of all: as many as it has room for, at most to the next checkpoint
abbrev pub window_count : Option ℕ → ℕ → ℕ → ℕ → ℕ
window_count every room all count = min (all - count) (till_checkpoint every count room)

-- how many stripes so many windows of a run take, one after another
abbrev pub windows_end : Option ℕ → ℕ → ℕ → ℕ → ℕ
windows_end every room all zero = 0
windows_end every room all (suc windows) =
    windows_end every room all windows + window_count every room all (windows_end every room all windows)
