-- How far a table's spelling was written.
use Rattle.std.specs.Prelude.{ℕ, List}
use Rattle.sha2.specs.Sha256.{sha256}
use Rattle.content_file.specs.Spelling.{body}
use Rattle.content_file.specs.Encoding.{IsDigestOf, IsPlace, from}
use Rattle.content_file.specs.declared.remaining.Remaining.TheInside.{Inside}

-- the bytes from the place on
abbrev pub left_of : Inside → List ℕ
left_of f = from f.table.now (sha256 (body f.table.now)) f.place

-- the place is one of the table, and the digest is that of its fields
pub record IsUnderway (f : Inside) : Type 0 where
  pub place : IsPlace f.table.now f.place
  pub digest : IsDigestOf f.table.now f.digest
