-- What saving leaves of a vault, and which calls it makes.
use Rattle.std.specs.Prelude.{◌≡◌, ◌⊎◌, ℕ, ◌*◌, ◌<◌, List, [], ◌∷◌, ◌++◌, length, take, drop, map, Some}
use Rattle.std.specs.Int.{div_ceil}
use Rattle.std.specs.List.{flat_map, range_with_len}
use Rattle.disk_model.specs.Files.{Files, content_of}
use Rattle.disk_model.specs.Vault.{VaultView, VaultCall, DraftBegin, DraftAppend, DraftSeal, Publish, draft_of}
use Rattle.disk_model.specs.declared.draft.Draft.TheVariants.{Absent}

-- all parity files are as before, and each copy is as before or holds these bytes
pub record MaySave (bytes : List ℕ) (old new : Files) : Type 0 where
  pub parities : new.parities ≡ old.parities
  pub contents : (copy : ℕ) → (content_of new copy ≡ content_of old copy) ⊎ (content_of new copy ≡ Some bytes)

-- each of the first copies holds these bytes
abbrev pub HasSaved : ℕ → List ℕ → Files → Type 0
HasSaved copies bytes files = (copy : ℕ) → copy < copies → content_of files copy ≡ Some bytes

-- no copy has a draft
abbrev pub HasNoDraft : VaultView → Type 0
HasNoDraft v = (copy : ℕ) → draft_of v copy ≡ Absent

-- how many bytes of a copy are read, or written to a draft, at once
abbrev pub piece_size : ℕ
piece_size = 65536

-- bytes in pieces of a size, of which the last may be shorter: the n-th, and how many they are
abbrev pub piece_of : ℕ → List ℕ → ℕ → List ℕ
piece_of size bytes n = take size (drop (n * size) bytes)

abbrev pub piece_count : ℕ → List ℕ → ℕ
piece_count size bytes = div_ceil (length bytes) size

-- the call that appends one of the pieces to the draft of a copy
abbrev pub append_call : ℕ → ℕ → List ℕ → ℕ → VaultCall
append_call size copy bytes n = DraftAppend copy (piece_of size bytes n)

-- one such call for each piece, in order
abbrev pub append_calls : ℕ → ℕ → List ℕ → List VaultCall
append_calls size copy bytes = map (append_call size copy bytes) (range_with_len 0 (piece_count size bytes))

-- the calls that make a sealed draft of bytes: it is begun, filled by pieces of this size and sealed
abbrev pub draft_calls : ℕ → List ℕ → ℕ → List VaultCall
draft_calls size bytes copy = DraftBegin copy ∷ (append_calls size copy bytes ++ DraftSeal copy ∷ [])

-- the calls that save bytes to one copy: those of its draft, and then it is published
abbrev pub copy_calls : ℕ → List ℕ → ℕ → List VaultCall
copy_calls size bytes copy = draft_calls size bytes copy ++ Publish copy ∷ []

-- the calls that save bytes to each of the first copies, in order
abbrev pub piecewise_calls : ℕ → ℕ → List ℕ → List VaultCall
piecewise_calls size copies bytes = flat_map (copy_calls size bytes) (range_with_len 0 copies)
