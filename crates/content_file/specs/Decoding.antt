-- What decoding bytes gives, in one piece or in several.
use Rattle.std.specs.Prelude.{◌≡◌, ◌≢◌, ℕ, ◌-◌, ◌<◌, ◌≤◌, List, ◌++◌, length, Option, None, Some, Result, Ok, Err, All, IsSome}
use Rattle.sha2.specs.Hashers.{Holds256}
use Rattle.file_table.specs.Table.{TableValue}
use Rattle.file_table.specs.Valid.{IsValid}
use Rattle.content_file.specs.ReadingOn.{BodyValue}
use Rattle.content_file.specs.declared.decoder.Decoder.{Decoder}
use Rattle.content_file.specs.declared.fault.DecodeFault.{DecodeFault}
use Rattle.content_file.specs.declared.fault.DecodeFault.TheVariants as faults
use Rattle.content_file.specs.declared.fault.Refusal.{Refusal}
use Rattle.content_file.specs.declared.fault.Refusal.TheVariants as refusals
use Rattle.content_file.specs.Flaw.{Short, Length, Damage, Good, Bad}
use Rattle.content_file.specs.FirstFlaw.{first_flaw, read_content, read_end}
use Rattle.content_file.specs.Spelling.{Spells}
use Rattle.content_file.specs.Body.{IsAtEnd, StopsAt, table_of}
use Rattle.content_file.specs.ReadingOn.{read_rest}

-- bytes are refused with their first wrong field, or for want of memory
abbrev pub IsFaultOf : List ℕ → DecodeFault → Type 0
IsFaultOf bytes (faults.Damaged damage) = first_flaw bytes ≡ Some damage
IsFaultOf bytes faults.Memory = Unit {0}

-- Bytes give the table that they spell, or are refused.
abbrev pub Decodes : List ℕ → Result TableValue DecodeFault → Type 0
Decodes bytes (Ok table) = IsValid table × Spells table bytes
Decodes bytes (Err fault) = IsFaultOf bytes fault

-- No field of bytes is wrong, but for one that may be cut off.
abbrev pub MayGoOn : List ℕ → Type 0
MayGoOn bytes = (damage : Damage) → first_flaw bytes ≡ Some damage → damage.why ≡ Short

-- bytes are refused with a wrong field that no more bytes mend, or for want of memory
abbrev pub IsRefused : List ℕ → DecodeFault → Type 0
IsRefused bytes (faults.Damaged damage) = (first_flaw bytes ≡ Some damage) × (damage.why ≢ Short)
IsRefused bytes faults.Memory = Unit {0}

-- a field is cut off
abbrev pub IsCut : DecodeFault → Type 0
IsCut (faults.Damaged damage) = damage.why ≡ Short
IsCut faults.Memory = ⊥

-- what a decoder answers when it was fed these bytes in all
abbrev pub Feeds : List ℕ → Result Unit DecodeFault → Type 0
Feeds bytes (Ok _) = MayGoOn bytes
Feeds bytes (Err fault) = IsRefused bytes fault

-- with what a decoder refused, if it did
abbrev pub refusal_of : Decoder → Option DecodeFault
refusal_of decoder = decoder.fault

abbrev pub fault_in : {T : Type 0} → Result T DecodeFault → Option DecodeFault
fault_in (Ok _) = None
fault_in (Err fault) = Some fault

-- where the head was read, so many bytes stand before
abbrev pub IsPlace : Option BodyValue → ℕ → Type 0
IsPlace None count = Unit {0}
IsPlace (Some body) count = 30 ≤ count

-- Of all bytes fed the first were read, and the others are held.
pub record IsHolding (decoder : Decoder) (fed : List ℕ) : Type 0 where
  pub read : List ℕ
  pub parts : fed ≡ read ++ decoder.held.items
  pub hashed : Holds256 decoder.hasher read
  pub counted : decoder.fed ≡ length fed
  pub place : IsPlace decoder.body (length read)
  pub goes : (more : List ℕ) → read_content (fed ++ more) ≡ read_rest decoder.body (fed ++ more) (decoder.held.items ++ more)

-- what is kept of these bytes, by what was answered
abbrev pub IsKept : Decoder → List ℕ → Option DecodeFault → Type 0
IsKept decoder fed None = IsHolding decoder fed × MayGoOn fed
IsKept decoder fed (Some fault) = IsRefused fed fault

-- A decoder was fed these bytes in all.
pub record HasFed (decoder : Decoder) (fed : List ℕ) : Type 0 where
  pub bytes : All (λ byte. byte < 256) fed
  pub kept : IsKept decoder fed decoder.fault

-- what a refusal among the last bytes of so many is to one who sees them all
abbrev pub fault_of : ℕ → Refusal → DecodeFault
fault_of fed (refusals.Flawed why field) = faults.Damaged (record { offset = fed - length field.now; why = why })
fault_of fed refusals.Length = faults.Damaged (record { offset = 30; why = Length })
fault_of fed refusals.Memory = faults.Memory

abbrev pub told : ℕ → Result Unit Refusal → Result Unit DecodeFault
told fed (Ok x) = Ok x
told fed (Err refusal) = Err (fault_of fed refusal)

-- reading came to the digest, or stopped before
abbrev pub StopsOn : Option BodyValue → List ℕ → Result Unit Refusal → Type 0
StopsOn place rest (Ok _) = (body : BodyValue) × (place ≡ Some body) × IsAtEnd body rest
StopsOn place rest (Err refusals.Length) = IsSome place × StopsAt place rest refusals.Length
StopsOn place rest (Err refusal) = StopsAt place rest refusal

-- the digest is that of the bytes before it
abbrev pub EndsWith : List ℕ → List ℕ → Result Unit Refusal → Type 0
EndsWith whole last (Ok _) = (digest : List ℕ) × (read_end whole last ≡ Good digest)
EndsWith whole last (Err (refusals.Flawed why field)) = read_end whole last ≡ Bad why field.now
EndsWith whole last (Err refusals.Length) = ⊥
EndsWith whole last (Err refusals.Memory) = Unit {0}

-- a front of the piece was fed, and the rest is still to be
pub record FeedsFront (old : Decoder) (piece : List ℕ) (new : Decoder) (rest : List ℕ) : Type 0 where
  pub front : List ℕ
  pub parts : piece ≡ front ++ rest
  pub fed : (fed : List ℕ) → HasFed old fed → HasFed new (fed ++ front)

-- all fields before the digest were read, or a refusal is known
abbrev pub ReadsFields : Decoder → List ℕ → Result Unit DecodeFault → Type 0
ReadsFields decoder fed (Ok _) = (body : BodyValue) × (decoder.body ≡ Some body) × IsAtEnd body decoder.held.items
ReadsFields decoder fed (Err fault) = IsFaultOf fed fault

-- all was read, or a refusal is known
abbrev pub ReadsWhole : Decoder → List ℕ → Result Unit DecodeFault → Type 0
ReadsWhole decoder fed (Ok _) = (body : BodyValue) × (decoder.body ≡ Some body) × (read_content fed ≡ Good (table_of body.builder))
ReadsWhole decoder fed (Err fault) = IsFaultOf fed fault
