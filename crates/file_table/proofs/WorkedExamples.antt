-- Values of the definitions.
use Rattle.std.specs.Prelude.{◌≡◌, ℕ, List, [], ◌∷◌, map, refl}
use Rattle.file_table.specs.Table.{block_count, end_of}

-- files of 0, 1, 1,024 and 1,025 bytes in blocks of 1 KiB
pub four_files : let sizes : List ℕ = 0 ∷ 1 ∷ 1024 ∷ 1025 ∷ [] in map (block_count 1024) sizes ≡ 0 ∷ 1 ∷ 1 ∷ 2 ∷ []
four_files = refl

-- the end of no position, and of some
pub no_end : end_of [] ≡ 0
no_end = refl

pub some_end : let positions : List ℕ = 3 ∷ 0 ∷ 7 ∷ 2 ∷ [] in end_of positions ≡ 8
some_end = refl
