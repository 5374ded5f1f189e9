-- What a hasher holds of a table's spelling.
use Rattle.std.specs.Prelude.{◌≡◌, ℕ, List, ◌++◌}
use Rattle.sha2.specs.declared.Sha256.{Sha256}
use Rattle.sha2.specs.Hashers.{Holds256}
use Rattle.file_table.specs.Table.{TableValue}
use Rattle.content_file.specs.Spelling.{body}

-- a hasher holds all of a table's body but for these last bytes
pub record HoldsFront (table : TableValue) (hasher : Sha256) (rest : List ℕ) : Type 0 where
  pub message : List ℕ
  pub held : Holds256 hasher message
  pub front : body table ≡ message ++ rest
