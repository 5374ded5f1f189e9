-- What has to hold before blocks are hashed, and what a sum of a level leaves.
use Rattle.std.specs.Prelude.{◌≡◌, ℕ, ◌*◌, ◌<◌, ◌≤◌, List, length, slice_index, true}
use Rattle.std.specs.List.{All}
use Rattle.cauchy.specs.Matrix.{parity_byte}
use Rattle.file_table.specs.declared.shape.Shape.{Shape}
use Rattle.gf256.specs.Field.{field_sum}
use Rattle.parity_writer.specs.LevelsValue.{LevelsValue, level_at}
use Rattle.parity_writer.specs.Parity.{Row}
use Rattle.stripe_examiner.specs.declared.search.Wanted.{Wanted}
use Rattle.stripe_examiner.specs.Known.{is_whole}

-- as many blocks as are searched for stand end to end, none of them is longer than a block of the array, which has at most 4 MiB
pub record HaveBlocks (shape : Shape) (wanteds : List Wanted) (blocks : List ℕ) : Type 0 where
  pub at_most : shape.block_size ≤ 4194304
  pub lengths : All (λ (wanted : Wanted). wanted.length ≤ shape.block_size) wanteds
  pub bytes : length blocks ≡ length wanteds * shape.block_size

-- these bytes are what is left of a level less the sum of a row, where the level was read whole
abbrev pub IsLeftOf : LevelsValue → Row → ℕ → List ℕ → Type 0
IsLeftOf levels row r left =
    is_whole (level_at levels r).state ≡ true → (p : ℕ) → p < length left
    → slice_index left p ≡ field_sum (slice_index (level_at levels r).block p) (parity_byte r row p)

-- the first so many levels, at most six, are those that were read, and there is a place for each of them
pub record HasLevels (count : ℕ) (levels : LevelsValue) : Type 0 where
  pub count_is : count ≡ levels.count
  pub room : count ≤ length levels.levels
  pub most : count ≤ 6

-- six blocks of so many bytes stand end to end, none of them longer than the longest that is hashed
pub record AreSixBlocks (size : ℕ) (blocks : List ℕ) : Type 0 where
  pub most : size ≤ 4194304
  pub long : length blocks ≡ 6 * size
