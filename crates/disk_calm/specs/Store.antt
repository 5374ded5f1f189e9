-- The files and drafts that a vault in memory holds.
use Rattle.std.specs.Prelude.{◌≡◌, ℕ, List, [], get_or, set, replicate, Option, None}
use Rattle.disk_model.specs.Files.{Files, with_parity, with_content}
use Rattle.disk_model.specs.declared.draft.Draft.{Draft}
use Rattle.disk_model.specs.declared.draft.Draft.TheVariants.{Absent}
use Rattle.disk_calm.specs.Held.{Held, held_of}
use Rattle.disk_calm.specs.declared.store.Store.{Store}

abbrev pub held : Store → Held
held s = held_of s.parities.items s.contents.items s.drafts.items s.staged.items

-- with other bytes in a parity file
abbrev pub with_level : Held → ℕ → List ℕ → Held
with_level h level bytes = record h { files = with_parity h.files level bytes }

-- with other bytes in a copy, or without that copy
abbrev pub with_copy : Held → ℕ → Option (List ℕ) → Held
with_copy h copy content = record h { files = with_content h.files copy content }

-- with this draft of a copy
abbrev pub with_draft : Held → ℕ → Draft → List ℕ → Held
with_draft h copy draft bytes = record h { drafts = set h.drafts copy draft; staged = set h.staged copy bytes }

-- the draft of a copy, and its bytes
abbrev pub draft_held : Held → ℕ → Draft
draft_held h copy = get_or h.drafts copy Absent

abbrev pub staged_held : Held → ℕ → List ℕ
staged_held h copy = get_or h.staged copy []

-- as many levels and copies
pub record SameCounts (old new : Store) : Type 0 where
  pub levels : new.levels ≡ old.levels
  pub copies : new.copies ≡ old.copies

-- these files, and no draft
abbrev pub opened_held : ℕ → Files → Held
opened_held copies files = record { files = files; drafts = replicate copies Absent; staged = replicate copies [] }

-- empty parity files, no copy, no draft
abbrev pub nothing_held : ℕ → ℕ → Held
nothing_held levels copies = held_of (replicate levels []) (replicate copies None) (replicate copies Absent) (replicate copies [])
