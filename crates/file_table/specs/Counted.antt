-- What is counted of a table while it is built.
use Rattle.std.specs.Prelude.{◌≡◌, ℕ, ◌+◌, length, Bool}
use Rattle.file_table.specs.Table.{block_count, records_of, blocks_of, positions_of, blocks_due, end_of}
use Rattle.file_table.specs.Building.{BuildingValue, IsBuilding, last_record}
use Rattle.file_table.specs.Marks.{AreUsers, AreLacking}

-- what was pushed is well formed, and these are its users, stripes without hashes, records, blocks due, blocks that the last record lacks, and end
pub record IsCounted (built : BuildingValue) (used : ℕ → ℕ) (unhashed : ℕ → Bool) (records due lacking end : ℕ) : Type 0 where
  pub building : IsBuilding built
  pub users : AreUsers built.columns built.length used
  pub hashes : AreLacking built.columns built.length unhashed
  pub record_count : records ≡ length (records_of built.columns)
  pub due_count : due ≡ blocks_due built.shape.block_size (records_of built.columns)
  pub last_lacks : length (last_record (records_of built.columns)).blocks + lacking ≡ block_count built.shape.block_size (last_record (records_of built.columns)).meta.size
  pub end_is : end ≡ end_of (positions_of (blocks_of built.columns))
