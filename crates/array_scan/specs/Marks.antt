-- Which positions are marked while a column is laid out.
use Rattle.std.specs.Prelude.{◌≡◌, ◌≢◌, ℕ, ◌<◌, List, length, slice_index_or, nat_eq, Bool, false, All, AllPairs}
use Rattle.std.specs.List.{list_any}
use Rattle.std.specs.Ordering.{nat_cmp}
use Rattle.std.specs.FinSet.{FinSet, contains}
use Rattle.file_table.specs.declared.block.Block.{Block}
use Rattle.file_table.specs.Table.{positions_of}

-- the positions that are held are those of the set
abbrev pub AreHeld : List Bool → FinSet nat_cmp → Type 0
AreHeld held set = (position : ℕ) → slice_index_or held position false ≡ contains set position

-- the stripes that are marked are those of the list
abbrev pub AreTouched : List Bool → List ℕ → Type 0
AreTouched marks touched = (stripe : ℕ) → stripe < length marks → slice_index_or marks stripe false ≡ list_any (λ (p : ℕ). nat_eq p stripe) touched

-- the blocks stand below a length
abbrev pub StandBelow : ℕ → List Block → Type 0
StandBelow count blocks = All (λ (block : Block). block.position < count) blocks

-- the blocks stand at positions that a set does not hold, each at another
pub record AreFree (set : FinSet nat_cmp) (blocks : List Block) : Type 0 where
  pub free : All (λ (block : Block). contains set block.position ≡ false) blocks
  pub once : AllPairs (λ a b. a ≢ b) (positions_of blocks)
