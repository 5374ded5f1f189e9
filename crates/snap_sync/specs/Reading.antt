-- Which stripes a sync reads.
use Rattle.std.specs.Prelude.{◌≡◌, List, length, take}
use Rattle.array_scan.specs.Layout.{pending_stripes}
use Rattle.disk_model.specs.Folder.{FolderView}
use Rattle.file_table.specs.Table.{TableValue}
use Rattle.stripe_findings.specs.Reading.{StripeReading, AreRead, stripes_of}

-- Stripes were read: they are the first pending ones of a table.
pub record ReadsFirst (start : TableValue) (readings : List StripeReading) (olds news : List FolderView) : Type 0 where
  pub stripes : stripes_of readings ≡ take (length readings) (pending_stripes start.infos)
  pub read : AreRead start readings olds news
