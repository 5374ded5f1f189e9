-- What a spare holds, and what it gives.
use Rattle.std.specs.Prelude.{◌≡◌, ◌⊎◌, ℕ, ◌==◌, ◌≤◌, ◌&&◌, List, [], length, Contains, Option, None, Some, Bool, true, false, IsTrue, Result, IfOk, OnErr, bytes_eq}
use Rattle.std.specs.List.{list_any}
use Rattle.block_hash.specs.Hash.{hash}
use Rattle.block_hash.specs.declared.Digest16.{Digest16}
use Rattle.block_hash.specs.declared.Kind.{Kind}
use Rattle.disk_model.specs.Cause.{Rose}
use Rattle.disk_model.specs.declared.fault.Failed.{Failed}
use Rattle.file_table.specs.declared.shape.Shape.{Shape}

-- by which kind, and with which seed, blocks are hashed
pub record Hashing : Type 0 where
  pub kind : Kind
  pub seed : List ℕ

-- Its count of faults and, if it is not for every one, for which hashing it is. Where `tells` is true, `blocks` are the hashes and
-- lengths of all blocks that it holds.
pub record SpareView : Type 0 where
  pub faults : ℕ
  pub hashing : Option Hashing
  pub tells : Bool
  pub blocks : List (List ℕ × ℕ)

-- one that holds nothing, and is for every hashing
abbrev pub nothing : SpareView
nothing = record { faults = 0; hashing = None; tells = true; blocks = [] }

-- the bytes have this hash, by the hashing of the spare
abbrev pub HasHash : Option Hashing → Digest16 → List ℕ → Type 0
HasHash None asked bytes = ⊥
HasHash (Some hashing) asked bytes = hash hashing.kind hashing.seed bytes ≡ asked.0

-- what one call answers, where the spare tells what it holds
abbrev pub Gives : SpareView → Digest16 → List ℕ → Bool → Type 0
Gives spare asked bytes true = Contains spare.blocks (asked.0, length bytes) × HasHash spare.hashing asked bytes
Gives spare asked bytes false = ¬ (Contains spare.blocks (asked.0, length bytes))

-- one call: it changes nothing of what the spare holds, and fails only where the count rose
pub record IsSpareCall (asked : Digest16) (bytes : List ℕ) (result : Result Bool Failed) (old new : SpareView) : Type 0 where
  pub later : old.faults ≤ new.faults
  pub same : new ≡ record old { faults = new.faults }
  pub gives : IsTrue old.tells → IfOk result (Gives old asked bytes)
  pub cause : OnErr result (Rose old.faults new.faults)

-- it holds a block with this hash and length
abbrev pub holds_block : SpareView → List ℕ → ℕ → Bool
holds_block spare hash_is long = list_any (λ (block : List ℕ × ℕ). bytes_eq block.0 hash_is && block.1 == long) spare.blocks

-- it is for the hashing of a table, or for every one
abbrev pub IsSpareFor : Shape → SpareView → Type 0
IsSpareFor shape spare = (spare.hashing ≡ None) ⊎ (spare.hashing ≡ Some (record { kind = shape.kind; seed = shape.seed }))
