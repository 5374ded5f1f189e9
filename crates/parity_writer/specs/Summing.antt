-- The sums of the stripes of a window, which are made before they are written or compared.
use Rattle.std.specs.Prelude.{◌≡◌, ℕ, ◌*◌, ◌<◌, List, length, slice_index_or}
use Rattle.cauchy.specs.Levels.{HoldsLevel}
use Rattle.stripe_reader.specs.WindowValue.{WindowValue}
use Rattle.parity_writer.specs.Parity.{Row}
use Rattle.parity_writer.specs.WindowRow.{row_at}
use Rattle.parity_writer.specs.declared.summing.Sums.{Sums}

-- room for six blocks of a size
abbrev pub HaveSize : ℕ → Sums → Type 0
HaveSize block_size sums = length sums.blocks.items ≡ 6 * block_size

-- blocks, one after another, that are the first so many levels of a row
abbrev pub HoldSums : ℕ → Row → ℕ → List ℕ → Type 0
HoldSums block_size row count sums = (r : ℕ) → r < count → HoldsLevel block_size row r sums

-- room for six blocks has the first levels of the stripe of a number of a window, where there is one
pub record AreSums (window : WindowValue) (k levels : ℕ) (sums : Sums) : Type 0 where
  pub size : HaveSize window.block_size sums
  pub hold : k < window.count → HoldSums window.block_size (row_at window k) levels sums.blocks.items

-- the same of each stripe, each in the room of its number
abbrev pub AreSumsOf : WindowValue → ℕ → List Sums → Type 0
AreSumsOf window levels sums = (k : ℕ) (other : Sums) → k < length sums → AreSums window k levels (slice_index_or sums k other)
