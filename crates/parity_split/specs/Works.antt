-- What several calls on the parts of one level do.
use Rattle.std.specs.Prelude.{◌≡◌, ℕ, ◌+◌, ◌*◌, ◌^◌, ◌<◌, ◌≤◌, List, length, take, drop}
use Rattle.disk_model.specs.Files.{Files}
use Rattle.disk_model.specs.Moments.{Remembers}
use Rattle.disk_model.specs.Vault.{VaultView, SomeCalls, ChangesBy, DraftsStay, Holds, Reads}
use Rattle.parity_split.specs.Joined.{joined, level_bytes, part_of}
use Rattle.parity_split.specs.Parts.{IsEnd, IsNear}
use Rattle.parity_split.specs.declared.parts.End.{End}
use Rattle.parity_split.specs.declared.parts.Parts.{Parts}

abbrev pub parts_in : Parts → Files → List (List ℕ)
parts_in p files = take p.count (drop p.first files.parities)

-- there are such parts among so many files
pub record IsWithin (p : Parts) (files : ℕ) : Type 0 where
  pub within : p.first + p.count ≤ files
  pub fit : files < 2 ^ 32
  pub some : 0 < p.count
  pub capacity : 0 < p.capacity

-- the parts went on by a step, and all else stayed
pub record OnParts (p : Parts) (step : List (List ℕ) → List (List ℕ) → Type 0) (old new : Files) : Type 0 where
  pub before : take p.first new.parities ≡ take p.first old.parities
  pub after : drop (p.first + p.count) new.parities ≡ drop (p.first + p.count) old.parities
  pub contents : new.contents ≡ old.contents
  pub inside : step (parts_in p old) (parts_in p new)

-- the bytes of the level went on by a step
abbrev pub LevelBy : Parts → (List ℕ → List ℕ → Type 0) → Files → Files → Type 0
LevelBy p step old new = OnParts p (λ x y. step (joined p.capacity x) (joined p.capacity y)) old new

abbrev pub Same : List ℕ → List ℕ → Type 0
Same old new = new ≡ old

-- some calls, by which each image goes on by a step
pub record Works (step : Files → Files → Type 0) (old new : VaultView) : Type 0 where
  pub calls : SomeCalls old new
  pub remembers : Remembers old.images new.images
  pub changes : ChangesBy step old new
  pub drafts : DraftsStay old new

-- P of the parts as they read and of them in each image
abbrev pub HoldsOf : Parts → (List (List ℕ) → List (List ℕ) → Type 0) → VaultView → Type 0
HoldsOf p P v = Holds (λ files. P (parts_in p v.files) (parts_in p files)) v

-- what is so of the bytes of the level, as it reads
abbrev pub LevelReads : Parts → (List ℕ → Type 0) → VaultView → Type 0
LevelReads p P v = Reads (λ files. P (joined p.capacity (parts_in p files))) v

-- the bytes of the level, as it reads, went on by a step
abbrev pub ReadsBy : Parts → (List ℕ → List ℕ → Type 0) → VaultView → VaultView → Type 0
ReadsBy p step old new = LevelReads p (step (joined p.capacity (parts_in p old.files))) new

-- the bytes that a length of the level can tell went on so
abbrev pub BytesBy : Parts → (List ℕ → List ℕ → Type 0) → VaultView → VaultView → Type 0
BytesBy p step old new =
    Reads (λ files. step (level_bytes p.capacity (parts_in p old.files)) (level_bytes p.capacity (parts_in p files))) new

-- what is so of the parts, as they read
abbrev pub PartsRead : Parts → (List (List ℕ) → Type 0) → VaultView → Type 0
PartsRead p P v = Reads (λ files. P (parts_in p files)) v

-- the level ends at this place
pub record IsFound (p : Parts) (end : End) (files : Files) : Type 0 where
  pub is : IsEnd p.capacity end.part (parts_in p files)
  pub len : end.len ≡ length (part_of (parts_in p files) end.part)

-- the same parts from one on
abbrev pub SameFrom : ℕ → ℕ → List (List ℕ) → List (List ℕ) → Type 0
SameFrom from to old new = (j : ℕ) → from ≤ j → j < to → part_of new j ≡ part_of old j

-- nothing stands in the parts from one up to another
abbrev pub EmptyFrom : ℕ → ℕ → List (List ℕ) → Type 0
EmptyFrom from to parts = (j : ℕ) → from ≤ j → j < to → length (part_of parts j) ≡ 0

-- where the place has bytes before it in its part, the part holds some
abbrev pub HasBytes : Parts → End → Files → Type 0
HasBytes p end files = 0 < end.len → 0 < length (part_of (parts_in p files) end.part)

-- the place is that of a length of the level, and within the capacity of its part
pub record IsPlaceOf (p : Parts) (place : End) (len : ℕ) : Type 0 where
  pub within : place.part < p.count
  pub is : place.part * p.capacity + place.len ≡ len
  pub room : place.part + 1 < p.count → place.len ≤ p.capacity

-- a part holds at least so many bytes, and none where that is none
pub record HoldsSome (p : Parts) (end : End) (files : Files) : Type 0 where
  pub some : end.len ≤ length (part_of (parts_in p files) end.part)
  pub none : end.len ≡ 0 → length (part_of (parts_in p files) end.part) ≡ 0

-- a length of the level that ends before a place of it
pub record IsCutAt (p : Parts) (end : End) (len : ℕ) : Type 0 where
  pub within : end.part < p.count
  pub below : len < end.part * p.capacity + end.len
  pub room : end.part + 1 < p.count → end.len ≤ p.capacity

-- the parts were emptied down to that in which a length of the level ends
pub record EndsNear (p : Parts) (last : End) (len : ℕ) (v : VaultView) : Type 0 where
  pub cut : IsCutAt p last len
  pub from : last.part * p.capacity ≤ len
  pub near : HoldsOf p (IsNear p.capacity last.part) v
  pub held : Reads (HoldsSome p last) v
