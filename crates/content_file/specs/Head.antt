-- What stands before the columns of a content file.
use Rattle.std.specs.Prelude.{ℕ, ◌≤◌, List, [], ◌∷◌, ◌++◌, Option, Some}
use Rattle.std.specs.Int.{w32, to_le_bytes}
use Rattle.file_table.specs.Valid.{IsShape}
use Rattle.content_file.specs.declared.head.Head.{Head}
use Rattle.content_file.specs.Spelling.{magic, shape_bytes}
use Rattle.content_file.specs.Reading.{◌>>=◌, magic_at, shape_at, length_at, count_at}

-- the fields before the columns, as they are spelled, and as they are read
abbrev pub head_bytes : Head → List ℕ
head_bytes head = magic ++ shape_bytes head.shape ++ to_le_bytes w32 head.length ++ head.columns ∷ []

unfoldable pub head_at : List ℕ → Option (Head × List ℕ)
head_at bytes = do
  rest ← magic_at bytes
  shape ← shape_at rest
  size ← length_at shape.1
  count ← count_at size.1
  Some (record { shape = shape.0; length = size.0; columns = count.0 }, count.1)

-- fields that a table may have
pub record IsHead (head : Head) : Type 0 where
  pub shape : IsShape head.shape
  pub short : head.length ≤ 67108864
  pub some_column : 1 ≤ head.columns
  pub few_columns : head.columns ≤ 251
