-- What loading from the content copies gives, and why.
use Rattle.std.specs.Prelude.{◌≡◌, ◌≢◌, ◌⊎◌, ℕ, ◌+◌, ◌/◌, ◌<◌, ◌≤◌, ◌==◌, List, ◌∷◌, ◌++◌, length, Bool, true, false, IsTrue, Option, None, Some}
use Rattle.std.specs.List.{AllByRecursion, count_by}
use Rattle.disk_model.specs.Answer.{is_failure}
use Rattle.disk_model.specs.Cause.{Rose, Grows}
use Rattle.disk_model.specs.Calls.{MakesOnly}
use Rattle.disk_model.specs.Files.{Stays, content_of}
use Rattle.disk_model.specs.Vault.{VaultView, VaultCall, VaultDone, plain_done, SomeCalls, ChangesBy, DraftsStay, ContentSize, ContentRead, copies_of}
use Rattle.file_table.specs.Table.{TableValue}
use Rattle.file_table.specs.Valid.{IsValid}
use Rattle.content_file.specs.Save.{piece_size}
use Rattle.content_file.specs.Spelling.{HoldsTable, IsContent}
use Rattle.content_file.specs.Flaw.{Damage}
use Rattle.content_file.specs.FirstFlaw.{first_flaw}
use Rattle.content_file.specs.Damages.{damages_below}
use Rattle.content_file.specs.Decoding.{HasFed}
use Rattle.content_file.specs.declared.decoder.Decoder.{Decoder}
use Rattle.content_file.specs.declared.loading.CopyFault.{CopyFault}
use Rattle.content_file.specs.declared.loading.CopyFault.TheVariants as copies
use Rattle.content_file.specs.declared.loading.LoadFault.{LoadFault}
use Rattle.content_file.specs.declared.loading.LoadFault.TheVariants as loads

-- how many bytes of a copy are read at once, at most
abbrev pub most_read : ℕ
most_read = piece_size

-- a call that reads a piece of a copy, or its size
abbrev pub IsReadOf : ℕ → VaultCall → Type 0
IsReadOf copy call = (call ≡ ContentSize copy) ⊎ ((at : ℕ) × (n : ℕ) × (n ≤ most_read) × (call ≡ ContentRead copy at n))

-- a call that reads a piece of one of the first copies, or its size
abbrev pub IsReadBelow : ℕ → VaultCall → Type 0
IsReadBelow copies call = (copy : ℕ) × (copy < copies) × IsReadOf copy call

-- The reading of a copy failed: the count rose, and such a call is among those since.
pub record HasFailed (old new : VaultView) (copy : ℕ) : Type 0 where
  pub within : copy < copies_of old
  pub rose : Rose old.faults new.faults
  pub earlier : List VaultDone
  pub call : VaultCall
  pub later : List VaultDone
  pub read : IsReadOf copy call
  pub made : IsTrue new.tells_calls → new.calls ≡ (old.calls ++ earlier) ++ plain_done call true ∷ later

-- none of the calls since failed
pub record NoneFailed (old new : VaultView) : Type 0 where
  pub done : List VaultDone
  pub grown : Grows old.tells_calls old.calls new.tells_calls new.calls done
  pub each : AllByRecursion (λ (d : VaultDone). is_failure d.answer ≡ false) done

-- none of the calls since that read this copy failed
pub record IsReadWell (old new : VaultView) (copy : ℕ) : Type 0 where
  pub done : List VaultDone
  pub grown : Grows old.tells_calls old.calls new.tells_calls new.calls done
  pub each : AllByRecursion (λ (d : VaultDone). IsReadOf copy d.call → is_failure d.answer ≡ false) done

-- a copy holds bytes that are no content file
pub record IsDamaged (v : VaultView) (copy : ℕ) : Type 0 where
  pub bytes : List ℕ
  pub held : content_of v.files copy ≡ Some bytes
  pub damaged : ¬ (IsContent bytes)

-- a copy is absent, or damaged
abbrev pub IsUseless : VaultView → ℕ → Type 0
IsUseless v copy = (content_of v.files copy ≡ None) ⊎ IsDamaged v copy

-- ---- how often a copy is asked for

-- whether a call asks the size of this copy
abbrev pub is_size_of : ℕ → VaultCall → Bool
is_size_of copy (ContentSize k) = k == copy
is_size_of copy _ = false

-- whether a call reads a piece of this copy
abbrev pub is_piece_of : ℕ → VaultCall → Bool
is_piece_of copy (ContentRead k at n) = k == copy
is_piece_of copy _ = false

-- how many of these calls ask the size of this copy
abbrev pub sizes_of : ℕ → List VaultDone → ℕ
sizes_of copy done = count_by (λ (d : VaultDone). is_size_of copy d.call) done

-- how many of these calls read a piece of this copy
abbrev pub pieces_of : ℕ → List VaultDone → ℕ
pieces_of copy done = count_by (λ (d : VaultDone). is_piece_of copy d.call) done

-- none of these calls asks the size of this copy or reads a piece of it
pub record AsksNothing (copy : ℕ) (done : List VaultDone) : Type 0 where
  pub size : sizes_of copy done ≡ 0
  pub pieces : pieces_of copy done ≡ 0

-- a copy of so many bytes is read in so many pieces at most
abbrev pub most_pieces : ℕ → ℕ
most_pieces size = size / most_read + 1

-- and one that holds this, where that is a file: one that is not there in none
abbrev pub most_pieces_of : Option (List ℕ) → ℕ
most_pieces_of None = 0
most_pieces_of (Some bytes) = most_pieces (length bytes)

-- Of the calls since, none asks a size, at most so many read a piece of this copy, and none a piece of another.
pub record ReadsPieces (copy most : ℕ) (old new : VaultView) : Type 0 where
  pub done : List VaultDone
  pub grown : Grows old.tells_calls old.calls new.tells_calls new.calls done
  pub size : sizes_of copy done ≡ 0
  pub few : pieces_of copy done ≤ most
  pub others : (k : ℕ) → k ≢ copy → AsksNothing k done

-- Of the calls since, at most one asks the size of this copy, at most as many as are allowed read a piece of it, and none
-- reads one where there is no such file. No call asks for another copy.
pub record ReadsCopyInPieces (copy : ℕ) (old new : VaultView) : Type 0 where
  pub done : List VaultDone
  pub grown : Grows old.tells_calls old.calls new.tells_calls new.calls done
  pub size : sizes_of copy done ≤ 1
  pub few : IsTrue old.tells → pieces_of copy done ≤ most_pieces_of (content_of old.files copy)
  pub others : (k : ℕ) → k ≢ copy → AsksNothing k done

-- Of the calls since, at most one asks the size of each of the first copies, at most as many as are allowed read a piece
-- of it, and none reads one where there is no such file. No call asks for another copy.
pub record ReadsInPieces (copies : ℕ) (old new : VaultView) : Type 0 where
  pub done : List VaultDone
  pub grown : Grows old.tells_calls old.calls new.tells_calls new.calls done
  pub size : (k : ℕ) → sizes_of k done ≤ 1
  pub few : IsTrue old.tells → (k : ℕ) → pieces_of k done ≤ most_pieces_of (content_of old.files k)
  pub others : (k : ℕ) → copies ≤ k → AsksNothing k done

-- ---- one copy

-- what reading a copy does to the vault, whatever it answers
pub record ReadsCopy (copy : ℕ) (old new : VaultView) : Type 0 where
  pub calls : SomeCalls old new
  pub made : MakesOnly (IsReadOf copy) old new
  pub changes : ChangesBy Stays old new
  pub drafts : DraftsStay old new

-- a decoder was fed all bytes of a copy, if it is so long
abbrev pub IsFedAll : Option (List ℕ) → ℕ → Decoder → Type 0
IsFedAll held size decoder = (bytes : List ℕ) → held ≡ Some bytes → length bytes ≡ size → HasFed decoder bytes

-- a decoder was fed the bytes of a copy, or there is no such copy
abbrev pub IsFedBy : Option Decoder → Option (List ℕ) → Type 0
IsFedBy None held = held ≡ None
IsFedBy (Some decoder) held = (bytes : List ℕ) × (held ≡ Some bytes) × HasFed decoder bytes

-- what a copy that was read holds: this table, or nothing
abbrev pub IsCopyOf : VaultView → ℕ → Option TableValue → Type 0
IsCopyOf v copy None = IsTrue v.tells → content_of v.files copy ≡ None
IsCopyOf v copy (Some table) = IsValid table × (IsTrue v.tells → HoldsTable table (content_of v.files copy))

-- a copy holds bytes whose first wrong field is this
pub record HasDamage (v : VaultView) (copy : ℕ) (damage : Damage) : Type 0 where
  pub bytes : List ℕ
  pub held : content_of v.files copy ≡ Some bytes
  pub flaw : first_flaw bytes ≡ Some damage

-- a damaged copy was read without failure
pub record IsFoundDamaged (old new : VaultView) (copy : ℕ) (damage : Damage) : Type 0 where
  pub damaged : IsTrue old.tells → HasDamage old copy damage
  pub none_failed : NoneFailed old new

-- why a copy gave no table
abbrev pub GivesNoTable : VaultView → VaultView → ℕ → CopyFault → Type 0
GivesNoTable old new copy copies.Failed = HasFailed old new copy
GivesNoTable old new copy (copies.Damaged damage) = IsFoundDamaged old new copy damage
GivesNoTable old new copy copies.Memory = Unit {0}

-- ---- all copies

-- what reading the first copies does to the vault, whatever it answers
pub record ReadsBelow (copies : ℕ) (old new : VaultView) : Type 0 where
  pub calls : SomeCalls old new
  pub made : MakesOnly (IsReadBelow copies) old new
  pub changes : ChangesBy Stays old new
  pub drafts : DraftsStay old new

-- The table of the first copy that was read and is a content file. No copy behind it was asked for.
pub record LoadsTable (old new : VaultView) (table : TableValue) : Type 0 where
  pub copy : ℕ
  pub within : copy < copies_of old
  pub valid : IsValid table
  pub held : IsTrue old.tells → HoldsTable table (content_of old.files copy)
  pub read : IsReadWell old new copy
  pub pieces : ReadsInPieces (copy + 1) old new
  pub earlier : IsTrue old.tells → (k : ℕ) → k < copy → IsUseless old k ⊎ HasFailed old new k

-- there is no copy
pub record LoadsNothing (old new : VaultView) : Type 0 where
  pub none : IsTrue old.tells → (k : ℕ) → k < copies_of old → content_of old.files k ≡ None
  pub none_failed : NoneFailed old new

abbrev pub Loads : VaultView → VaultView → Option TableValue → Type 0
Loads old new None = LoadsNothing old new
Loads old new (Some table) = LoadsTable old new table

-- the reading of some copy failed, and that of each copy that is a content file
pub record LoadFails (old new : VaultView) : Type 0 where
  pub some : (copy : ℕ) × HasFailed old new copy
  pub useless : IsTrue old.tells → (k : ℕ) → k < copies_of old → IsUseless old k ⊎ HasFailed old new k

-- Some copy is there, each is absent or damaged, and no reading failed. The damaged ones are all listed, in order.
pub record LoadIsDamaged (old new : VaultView) (damages : List (ℕ × Damage)) : Type 0 where
  pub some : IsTrue old.tells → (k : ℕ) × (k < copies_of old) × IsDamaged old k
  pub useless : IsTrue old.tells → (k : ℕ) → k < copies_of old → IsUseless old k
  pub none_failed : NoneFailed old new
  pub not_empty : 0 < length damages
  pub listed : IsTrue old.tells → damages ≡ damages_below (copies_of old) old.files

-- why no table was loaded
abbrev pub LoadsNot : VaultView → VaultView → LoadFault → Type 0
LoadsNot old new loads.Failed = LoadFails old new
LoadsNot old new (loads.Damaged damages) = LoadIsDamaged old new damages
LoadsNot old new loads.Memory = Unit {0}
