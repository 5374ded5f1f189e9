-- What a vault in memory held when it was opened, the calls since then, and what reads give after them.
use Rattle.std.specs.Prelude.{◌≡◌, ℕ, ◌≤◌, List, [], ◌++◌, length, map, drop, Some, Bool, true, false, if◌then◌else◌}
use Rattle.disk_model.specs.Bytes.{put, resized}
use Rattle.disk_model.specs.Files.{parity_of}
use Rattle.disk_model.specs.Machine.{Machine, AllGiveBytes, settled, files_of, replay}
use Rattle.disk_model.specs.Unsynced.{synced}
use Rattle.disk_model.specs.Vault.{VaultCall, VaultDone, ParityLen, ParityRead, ParityWrite, ParitySetLen, ParitySync, ContentSize, ContentRead, DraftBegin, DraftAppend, DraftSeal, Publish}
use Rattle.disk_model.specs.declared.draft.Draft.TheVariants.{Absent, Open, Sealed}
use Rattle.disk_memory.specs.Calls.{vault_calls}
use Rattle.disk_calm.specs.Held.{Held}
use Rattle.disk_calm.specs.Store.{with_level, with_copy, with_draft, staged_held}
use Rattle.disk_memory.specs.declared.calls.VaultEntry.{VaultEntry}
use Rattle.disk_memory.specs.declared.past.Made.{Made}

-- a vault that was opened with these files and drafts, with nothing unsynced
abbrev pub opened_by : Held → Machine
opened_by h = record { levels = map synced h.files.parities; copies = map settled h.files.contents; drafts = h.drafts; staged = h.staged }

-- what reads give
abbrev pub held_by : Machine → Held
held_by m = record { files = files_of m; drafts = m.drafts; staged = m.staged }

-- the calls since it was opened, which was after so many
abbrev pub calls_since : ℕ → List (Made VaultEntry) → List VaultDone
calls_since base entries = drop base (vault_calls entries)

-- what reads give after a call, of which they show nothing where it failed, but that there is no draft
abbrev pub held_after : Held → VaultCall → Bool → Held
held_after h (ParityLen level) failed = h
held_after h (ParityRead level at n) failed = h
held_after h (ParityWrite level at bytes) false = with_level h level (put (parity_of h.files level) at bytes)
held_after h (ParityWrite level at bytes) true = h
held_after h (ParitySetLen level len) false = with_level h level (resized (parity_of h.files level) len)
held_after h (ParitySetLen level len) true = h
held_after h (ParitySync level) failed = h
held_after h (ContentSize copy) failed = h
held_after h (ContentRead copy at n) failed = h
held_after h (DraftBegin copy) failed = with_draft h copy (if failed then Absent else Open) []
held_after h (DraftAppend copy bytes) failed = with_draft h copy (if failed then Absent else Open) (if failed then [] else (staged_held h copy ++ bytes))
held_after h (DraftSeal copy) failed = with_draft h copy (if failed then Absent else Sealed) (if failed then [] else staged_held h copy)
held_after h (Publish copy) false = with_draft (with_copy h copy (Some (staged_held h copy))) copy Absent []
held_after h (Publish copy) true = with_draft h copy Absent []

-- a call of which reads show nothing
abbrev pub is_quiet : VaultCall → Bool
is_quiet (ParityLen level) = true
is_quiet (ParityRead level at n) = true
is_quiet (ParityWrite level at bytes) = false
is_quiet (ParitySetLen level len) = false
is_quiet (ParitySync level) = true
is_quiet (ContentSize copy) = true
is_quiet (ContentRead copy at n) = true
is_quiet (DraftBegin copy) = false
is_quiet (DraftAppend copy bytes) = false
is_quiet (DraftSeal copy) = false
is_quiet (Publish copy) = false

-- The record tells how what is held came about, until memory refused an entry.
pub record IsRecorded (lost : Bool) (base : ℕ) (entries : List (Made VaultEntry)) (opened now : Held) : Type 0 where
  pub within : base ≤ length entries
  pub gives : AllGiveBytes (calls_since base entries)
  pub parities : lost ≡ false → (held_by (replay (opened_by opened) (calls_since base entries))).files.parities ≡ now.files.parities
  pub contents : lost ≡ false → (held_by (replay (opened_by opened) (calls_since base entries))).files.contents ≡ now.files.contents
  pub drafts : lost ≡ false → (held_by (replay (opened_by opened) (calls_since base entries))).drafts ≡ now.drafts
  pub staged : lost ≡ false → (held_by (replay (opened_by opened) (calls_since base entries))).staged ≡ now.staged
