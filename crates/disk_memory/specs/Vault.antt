-- Vaults in memory.
use Rattle.std.specs.Prelude.{◌≡◌, ℕ, List, [], length, Bool, true, false, not}
use Rattle.disk_model.specs.Cause.{WriteCount}
use Rattle.disk_model.specs.Files.{Files}
use Rattle.disk_model.specs.Machine.{images_of}
use Rattle.disk_model.specs.Vault.{VaultView, VaultDone, vault_writes}
use Rattle.disk_memory.specs.Calls.{vault_calls}
use Rattle.disk_memory.specs.Choice.{picked_image}
use Rattle.disk_calm.specs.Held.{Held}
use Rattle.disk_memory.specs.Recorded.{opened_by, calls_since}
use Rattle.disk_memory.specs.Schedule.{Plan, plan_of, ObeysExactly, ObeysUnless}
use Rattle.disk_calm.specs.Store.{held, nothing_held, opened_held}
use Rattle.disk_memory.specs.declared.recorded.Recorded.{Recorded}
use Rattle.disk_memory.specs.declared.vault.MemVault.{MemVault}

-- What a vault in memory tells: what reads give and its drafts are now; it tells its calls and what a stop may leave until
-- memory refuses an entry; what it held when it was opened, and the calls since then, tell what a stop may leave.
pub record VaultValue : Type 0 where
  pub faults : ℕ
  pub levels : ℕ
  pub held_now : Held
  pub told : Bool
  pub calls : List VaultDone
  pub opened : Held
  pub since : List VaultDone

abbrev pub value_of : ℕ → Recorded → VaultValue
value_of faults r = record {
  faults = faults;
  levels = r.store.levels;
  held_now = held r.store;
  told = not r.past.lost;
  calls = vault_calls r.past.made.items;
  opened = held r.opened;
  since = calls_since r.base r.past.made.items;
}

abbrev pub vault_value : MemVault → VaultValue
vault_value v = value_of v.schedule.faults v.recorded

-- the writing calls that it wrote down: it is not exact, since memory may refuse an entry
abbrev pub noted : List VaultDone → WriteCount
noted calls = record { exact = false; count = vault_writes calls }

abbrev pub view_of : VaultValue → VaultView
view_of v = record {
  faults = v.faults;
  writes = noted v.calls;
  levels = v.levels;
  drafts = v.held_now.drafts;
  tells = true;
  files = v.held_now.files;
  staged = v.held_now.staged;
  tells_calls = v.told;
  calls = v.calls;
  images = images_of v.told (opened_by v.opened) v.since;
}

abbrev pub vault_view : MemVault → VaultView
vault_view v = view_of (vault_value v)

abbrev pub vault_plan : MemVault → Plan
vault_plan v = plan_of v.schedule

-- the image that the bytes pick, at the moment that they pick
abbrev pub image_at : VaultValue → List ℕ → Files
image_at v choice = picked_image (opened_by v.opened) v.since choice

-- another vault that was just opened with these files
abbrev pub opened_anew : VaultValue → Files → VaultValue
opened_anew v files = record {
  faults = 0;
  levels = v.levels;
  held_now = opened_held (length v.held_now.drafts) files;
  told = true;
  calls = [];
  opened = opened_held (length v.held_now.drafts) files;
  since = [];
}

-- one call of it was counted, and failed exactly where it was to, or memory refused its entry in the record
abbrev pub VaultObeysExactly : Bool → MemVault → MemVault → Type 0
VaultObeysExactly failed old new = ObeysExactly failed (vault_plan old) (vault_plan new) (not old.recorded.past.lost) (not new.recorded.past.lost)

-- and it failed nowhere else, unless P
abbrev pub VaultObeysUnless : Type 0 → Bool → MemVault → MemVault → Type 0
VaultObeysUnless P failed old new = ObeysUnless P failed (vault_plan old) (vault_plan new) (not old.recorded.past.lost) (not new.recorded.past.lost)

-- with this held and nothing else left by a stop: opened anew, in the midst of its calls
abbrev pub opened_with_these : Held → VaultValue → VaultValue
opened_with_these h v = record v { held_now = h; opened = h; since = [] }

-- Its files were damaged from outside, and are these now. A record that is lost stays as it was.
pub record IsDamaged (now : Held) (old new : VaultValue) : Type 0 where
  pub told : old.told ≡ true → new ≡ opened_with_these now old
  pub lost : old.told ≡ false → new ≡ record old { held_now = now }

-- empty parity files, no content copy, no draft, no call yet
abbrev pub fresh_vault : ℕ → ℕ → VaultValue
fresh_vault levels copies = record {
  faults = 0;
  levels = levels;
  held_now = nothing_held levels copies;
  told = true;
  calls = [];
  opened = nothing_held levels copies;
  since = [];
}
