-- How a table is kept.
use Rattle.std.specs.Prelude.{◌≡◌, length}
use Rattle.file_table.specs.declared.table.Table.TheInside.{Inside}
use Rattle.file_table.specs.Table.{TableValue, blocks_of}
use Rattle.file_table.specs.Valid.{IsValid}
use Rattle.file_table.specs.Index.{AreIndexes}

abbrev pub table_of : Inside → TableValue
table_of table = record { shape = table.shape; columns = table.disks.items; infos = table.infos.items }

-- the table is valid, each column has its index, and the blocks are counted
pub record IsKept (table : Inside) : Type 0 where
  pub valid : IsValid (table_of table)
  pub indexed : AreIndexes table.disks.items table.indexes.items
  pub total : table.total ≡ length (blocks_of table.disks.items)
