-- What has to hold before the missing blocks of a stripe are searched for, and the row with what was found.
use Rattle.std.specs.Prelude.{◌≡◌, ℕ, ◌*◌, ◌<◌, ◌≤◌, List, length}
use Rattle.file_table.specs.Table.{TableValue}
use Rattle.file_table.specs.declared.shape.Shape.{Shape}
use Rattle.parity_writer.specs.LevelsValue.{LevelsValue}
use Rattle.parity_writer.specs.Parity.{Row}
use Rattle.parity_writer.specs.WindowRow.{row_at}
use Rattle.stripe_reader.specs.WindowValue.{Fits, WindowValue}
use Rattle.stripe_examiner.specs.declared.search.Wanted.{Wanted}
use Rattle.stripe_examiner.specs.Judged.{AreMissingIn}
use Rattle.stripe_examiner.specs.Restorable.{filled}
use Rattle.stripe_examiner.specs.Search.{found_in}

-- all levels of a table were read, and there is a place for each of them
pub record LevelsFit (table : TableValue) (levels : LevelsValue) : Type 0 where
  pub count : levels.count ≡ table.shape.levels
  pub room : levels.count ≤ length levels.levels
  pub block_size : levels.block_size ≡ table.shape.block_size

-- at most six blocks are missing in the row of a stripe of a window, whose levels were read
pub record CanFind (table : TableValue) (i : ℕ) (window : WindowValue) (levels : LevelsValue) (wanteds : List Wanted) : Type 0 where
  pub number : i < window.count
  pub fits : Fits table window
  pub levels_fit : LevelsFit table levels
  pub few : length wanteds ≤ 6
  pub missing : AreMissingIn (row_at window i) table.shape.block_size wanteds

-- there is room for six remainders and for six blocks
pub record IsSearchRoom (block_size : ℕ) (remainders blocks : List ℕ) : Type 0 where
  pub remainders_are : length remainders ≡ 6 * block_size
  pub blocks_are : length blocks ≡ 6 * block_size

-- a row with the blocks that stand at the beginning of these bytes
abbrev pub row_with_found : Shape → List Wanted → List ℕ → Row → Row
row_with_found shape wanteds blocks row = filled shape.block_size (found_in shape wanteds blocks) wanteds row
