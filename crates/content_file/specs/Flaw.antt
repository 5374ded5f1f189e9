-- What may be wrong with a content file, and where; and reading that tells it.
use Rattle.std.specs.Prelude.{ℕ, ◌-◌, List, length, Bool, true, false, Option, None, Some}
pub use Rattle.content_file.specs.declared.fault.Flaw.{Flaw}
pub use Rattle.content_file.specs.declared.fault.Flaw.TheVariants.{Short, Magic, Version, Value, Name, Path, Order, Full, Position, Length, Hash, Digest, Extra}
pub use Rattle.content_file.specs.declared.fault.Damage.{Damage}

-- what was read; or why a field is refused, and the bytes from its first one on
pub data Read (A : Type 0) : Type 0 where
  Good : A → Read A
  Bad : Flaw → List ℕ → Read A

-- one field, and then what follows from it
unfoldable pub and_then : {A B : Type 0} → Read A → (A → Read B) → Read B
and_then (Good x) f = f x
and_then (Bad why field) f = Bad why field

infixl 10 ◌>>=◌
abbrev pub ◌>>=◌ : {A B : Type 0} → Read A → (A → Read B) → Read B
r >>= f = and_then r f

-- what was found; where nothing was, the field that begins with these bytes has this flaw
unfoldable pub found_or : {A : Type 0} → Flaw → List ℕ → Option A → Read A
found_or why field (Some x) = Good x
found_or why field None = Bad why field

-- what was found, where it passes a test; else the field that begins with these bytes has this flaw
unfoldable pub passed_or : {A : Type 0} → Flaw → List ℕ → Bool → A → Read A
passed_or why field true x = Good x
passed_or why field false x = Bad why field

-- where a field is wrong: before it are as many bytes as there are fewer from it on
abbrev pub damage_of : {A : Type 0} → List ℕ → Read A → Option Damage
damage_of bytes (Good x) = None
damage_of bytes (Bad why field) = Some (record { offset = length bytes - length field; why = why })
