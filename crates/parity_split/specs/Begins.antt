-- What a call on the parts of a level begins with.
use Rattle.std.specs.Prelude.{ℕ, ◌<◌}
use Rattle.disk_model.specs.Vault.{VaultView, Reads}
use Rattle.parity_split.specs.Parts.{IsNear, IsReady}
use Rattle.parity_split.specs.Works.{IsWithin, HoldsOf, HasBytes, HoldsSome, IsFound, IsPlaceOf, IsCutAt}
use Rattle.parity_split.specs.declared.parts.End.{End}
use Rattle.parity_split.specs.declared.parts.Parts.{Parts}

-- it is one of the parts
pub record HasPart (p : Parts) (part files : ℕ) : Type 0 where
  pub parts : IsWithin p files
  pub within : part < p.count

-- the parts keep in step near this one, where the level ends
pub record IsNearPart (p : Parts) (end : ℕ) (v : VaultView) : Type 0 where
  pub parts : IsWithin p v.levels
  pub within : end < p.count
  pub near : HoldsOf p (IsNear p.capacity end) v

-- a part before the one where the level ends
pub record IsPartBefore (p : Parts) (part end : ℕ) (v : VaultView) : Type 0 where
  pub parts : IsWithin p v.levels
  pub before : part < end
  pub within : end < p.count
  pub near : HoldsOf p (IsNear p.capacity end) v

-- a part behind the one where the level ends, which grows no further than it is
pub record IsPartBehind (p : Parts) (end part : ℕ) (v : VaultView) : Type 0 where
  pub parts : IsWithin p v.levels
  pub behind : end < part
  pub within : part < p.count
  pub ready : HoldsOf p (IsReady p.capacity end 0) v

-- the level ends in this part, which has bytes where the place says so
pub record MayGrow (p : Parts) (end : End) (v : VaultView) : Type 0 where
  pub parts : IsWithin p v.levels
  pub within : end.part < p.count
  pub near : HoldsOf p (IsNear p.capacity end.part) v
  pub held : Reads (HasBytes p end) v

-- the level ends in this part, which holds at least as many bytes as the place says
pub record MayBeCut (p : Parts) (end : End) (v : VaultView) : Type 0 where
  pub parts : IsWithin p v.levels
  pub within : end.part < p.count
  pub near : HoldsOf p (IsNear p.capacity end.part) v
  pub held : Reads (HoldsSome p end) v

-- a length of the level below the place where it ends
pub record IsCutFrom (p : Parts) (end : End) (len : ℕ) (v : VaultView) : Type 0 where
  pub parts : IsWithin p v.levels
  pub near : HoldsOf p (IsNear p.capacity end.part) v
  pub held : Reads (HoldsSome p end) v
  pub cut : IsCutAt p end len

-- the level ends at this place, as it reads
pub record EndsAt (p : Parts) (end : End) (v : VaultView) : Type 0 where
  pub parts : IsWithin p v.levels
  pub within : end.part < p.count
  pub found : Reads (IsFound p end) v

-- the level ends at this place, near which the parts keep in step
pub record EndsNearAt (p : Parts) (end : End) (v : VaultView) : Type 0 where
  pub parts : IsWithin p v.levels
  pub within : end.part < p.count
  pub near : HoldsOf p (IsNear p.capacity end.part) v
  pub found : Reads (IsFound p end) v

-- the part in which a length of the level ends is ready for it
pub record IsReadyFor (p : Parts) (end : End) (len : ℕ) (v : VaultView) : Type 0 where
  pub parts : IsWithin p v.levels
  pub place : IsPlaceOf p end len
  pub ready : HoldsOf p (IsReady p.capacity end.part end.len) v
