-- In which order the content copies are read, up to where, and that what is decoded is what came.
use Rattle.std.specs.Prelude.{◌≡◌, ◌⊎◌, ℕ, ◌+◌, ◌-◌, ◌*◌, ◌<◌, ◌≤◌, min, List, [], ◌∷◌, ◌++◌, length, map, true, Option, None, Some, Result, Ok, Err}
use Rattle.std.specs.List.{AllByRecursion, range_with_len}
use Rattle.disk_model.specs.Cause.{Grows}
use Rattle.disk_model.specs.Vault.{VaultView, VaultCall, VaultDone, ContentSize, ContentRead, plain_done}
use Rattle.disk_model.specs.declared.answer.Answer.{Answer}
use Rattle.disk_model.specs.declared.answer.Answer.TheVariants as answers
use Rattle.file_table.specs.Table.{TableValue}
use Rattle.content_file.specs.Damages.{damage_in}
use Rattle.content_file.specs.Decoding.{HasFed}
use Rattle.content_file.specs.FirstFlaw.{first_flaw}
use Rattle.content_file.specs.Flaw.{Damage}
use Rattle.content_file.specs.Load.{most_read}
use Rattle.content_file.specs.Spelling.{spelling, IsContent}
use Rattle.content_file.specs.declared.decoder.Decoder.{Decoder}
use Rattle.content_file.specs.declared.loading.CopyFault.{CopyFault}
use Rattle.content_file.specs.declared.loading.CopyFault.TheVariants as copies
use Rattle.content_file.specs.declared.loading.LoadFault.{LoadFault}
use Rattle.content_file.specs.declared.loading.LoadFault.TheVariants as loads

-- ---- the pieces of a copy

-- how many bytes the n-th piece of a copy of this size is asked for
abbrev pub piece_length : ℕ → ℕ → ℕ
piece_length size n = min most_read (size - n * most_read)

-- the call that reads it: it begins where the one before it ends
abbrev pub piece_call : ℕ → ℕ → ℕ → VaultCall
piece_call copy size n = ContentRead copy (n * most_read) (piece_length size n)

-- so many bytes of it came
abbrev pub piece_done : ℕ → ℕ → ℕ → ℕ → VaultDone
piece_done copy size n count = record { call = piece_call copy size n; answer = answers.Bytes count }

-- the first pieces, in order, each of which gave all that it was asked for
abbrev pub whole_pieces : ℕ → ℕ → ℕ → List VaultDone
whole_pieces copy size n = map (λ (k : ℕ). piece_done copy size k (piece_length size k)) (range_with_len 0 n)

-- whole pieces reach the size, and no piece begins there
pub record EndsWhole (size whole : ℕ) (last : List VaultDone) (count : ℕ) : Type 0 where
  pub nothing : last ≡ []
  pub reached : size ≤ whole * most_read
  pub begun : whole * most_read < size + most_read
  pub all : count ≡ size

-- the piece behind the whole ones gave fewer bytes than it was asked for
pub record EndsShort (copy size whole : ℕ) (last : List VaultDone) (count : ℕ) : Type 0 where
  pub got : ℕ
  pub piece : last ≡ piece_done copy size whole got ∷ []
  pub short : got < piece_length size whole
  pub all : count ≡ whole * most_read + got

-- A copy of this size was read to its end, piece after piece: to its size, or to a piece that is shorter than what was
-- asked for, behind which none is read. So many bytes came.
pub record ReadsToEnd (copy size : ℕ) (done : List VaultDone) (count : ℕ) : Type 0 where
  pub whole : ℕ
  pub last : List VaultDone
  pub calls : done ≡ whole_pieces copy size whole ++ last
  pub end : EndsWhole size whole last count ⊎ EndsShort copy size whole last count

-- The pieces before it came whole, and this one failed. No other is read.
pub record FailsAtPiece (copy size : ℕ) (done : List VaultDone) : Type 0 where
  pub whole : ℕ
  pub more : whole * most_read < size
  pub calls : done ≡ whole_pieces copy size whole ++ plain_done (piece_call copy size whole) true ∷ []

-- a decoder was fed what came of a copy, to its end
pub record FeedsToEnd (copy size : ℕ) (decoder : Decoder) (old new : VaultView) : Type 0 where
  pub bytes : List ℕ
  pub fed : HasFed decoder bytes
  pub done : List VaultDone
  pub grown : Grows old.tells_calls old.calls new.tells_calls new.calls done
  pub end : ReadsToEnd copy size done (length bytes)

-- a piece of a copy failed
pub record StopsAtPiece (copy size : ℕ) (old new : VaultView) : Type 0 where
  pub done : List VaultDone
  pub grown : Grows old.tells_calls old.calls new.tells_calls new.calls done
  pub fails : FailsAtPiece copy size done

-- ---- one copy

-- What the reading of a copy gave: there is none, it failed, there was no memory to decode it, or these bytes came.
pub data CopyReading : Type 0 where
  Absent : CopyReading
  Broken : CopyReading
  Unread : CopyReading
  Came : (bytes : List ℕ) → CopyReading

-- its size was asked, with this answer
abbrev pub size_done : ℕ → Answer → VaultDone
size_done copy answer = record { call = ContentSize copy; answer = answer }

-- The calls on a copy, by what they gave: first its size is asked, and what came was read to the end.
abbrev pub AreCallsOf : ℕ → CopyReading → List VaultDone → Type 0
AreCallsOf copy Absent done = done ≡ size_done copy answers.Missing ∷ []
AreCallsOf copy Broken done = (done ≡ size_done copy answers.Failed ∷ [])
    ⊎ ((size : ℕ) × (pieces : List VaultDone) × (done ≡ size_done copy (answers.Bytes size) ∷ pieces) × FailsAtPiece copy size pieces)
AreCallsOf copy Unread done = (size : ℕ) × (done ≡ size_done copy (answers.Bytes size) ∷ [])
AreCallsOf copy (Came bytes) done =
    (size : ℕ) × (pieces : List VaultDone) × (done ≡ size_done copy (answers.Bytes size) ∷ pieces) × ReadsToEnd copy size pieces (length bytes)

-- One copy was read, with P of what that gave.
pub record ReadsCopyInOrder (copy : ℕ) (P : CopyReading → Type 0) (old new : VaultView) : Type 0 where
  pub reading : CopyReading
  pub done : List VaultDone
  pub grown : Grows old.tells_calls old.calls new.tells_calls new.calls done
  pub calls : AreCallsOf copy reading done
  pub gives : P reading

-- what a decoder of a copy was fed is what came
abbrev pub IsReadInto : Result (Option Decoder) CopyFault → CopyReading → Type 0
IsReadInto (Ok (Some decoder)) reading = (bytes : List ℕ) × (reading ≡ Came bytes) × HasFed decoder bytes
IsReadInto (Ok None) reading = reading ≡ Absent
IsReadInto (Err copies.Failed) reading = reading ≡ Broken
IsReadInto (Err (copies.Damaged damage)) reading = ⊥
IsReadInto (Err copies.Memory) reading = reading ≡ Unread

-- a table is what came, spelled, and a damage its first wrong field
abbrev pub IsReadFor : Result (Option TableValue) CopyFault → CopyReading → Type 0
IsReadFor (Ok (Some table)) reading = reading ≡ Came (spelling table)
IsReadFor (Ok None) reading = reading ≡ Absent
IsReadFor (Err copies.Failed) reading = reading ≡ Broken
IsReadFor (Err (copies.Damaged damage)) reading = (bytes : List ℕ) × (reading ≡ Came bytes) × (first_flaw bytes ≡ Some damage)
IsReadFor (Err copies.Memory) reading = Unit {0}

-- ---- all copies

-- the calls on the copies from this one on, one copy after another
abbrev pub AreCallsFrom : ℕ → List CopyReading → List VaultDone → Type 0
AreCallsFrom copy [] done = done ≡ []
AreCallsFrom copy (reading ∷ readings) done =
    (own : List VaultDone) × (later : List VaultDone) × (done ≡ own ++ later) × AreCallsOf copy reading own × AreCallsFrom (copy + 1) readings later

-- The first copies were read, in order, with P of what each gave.
pub record ReadsInOrder (P : List CopyReading → Type 0) (old new : VaultView) : Type 0 where
  pub readings : List CopyReading
  pub done : List VaultDone
  pub grown : Grows old.tells_calls old.calls new.tells_calls new.calls done
  pub calls : AreCallsFrom 0 readings done
  pub gives : P readings

abbrev pub IsAbsent : CopyReading → Type 0
IsAbsent reading = reading ≡ Absent

-- a copy gave no table, and not for want of memory: what came, if anything, is no content file
abbrev pub IsPassed : CopyReading → Type 0
IsPassed Absent = Unit {0}
IsPassed Broken = Unit {0}
IsPassed Unread = ⊥
IsPassed (Came bytes) = ¬ (IsContent bytes)

-- the bytes that came of a copy, if any
abbrev pub bytes_of : CopyReading → Option (List ℕ)
bytes_of Absent = None
bytes_of Broken = None
bytes_of Unread = None
bytes_of (Came bytes) = Some bytes

-- the copies from this one on whose bytes have a wrong field, in order
abbrev pub damages_from : ℕ → List CopyReading → List (ℕ × Damage)
damages_from copy [] = []
damages_from copy (reading ∷ readings) = damage_in copy (bytes_of reading) ++ damages_from (copy + 1) readings

-- What the copies that were read gave, by the answer: a table is the last one's, after copies that gave none. Without a
-- table all were read: none is there, or the damaged ones are listed.
abbrev pub AreReadFor : ℕ → Result (Option TableValue) LoadFault → List CopyReading → Type 0
AreReadFor copies (Ok (Some table)) readings =
    (earlier : List CopyReading) × (readings ≡ earlier ++ Came (spelling table) ∷ []) × (length earlier < copies) × AllByRecursion IsPassed earlier
AreReadFor copies (Ok None) readings = (length readings ≡ copies) × AllByRecursion IsAbsent readings
AreReadFor copies (Err loads.Failed) readings = (length readings ≡ copies) × AllByRecursion IsPassed readings
AreReadFor copies (Err (loads.Damaged damages)) readings = (length readings ≡ copies) × AllByRecursion IsPassed readings × (damages ≡ damages_from 0 readings)
AreReadFor copies (Err loads.Memory) readings = length readings ≤ copies
