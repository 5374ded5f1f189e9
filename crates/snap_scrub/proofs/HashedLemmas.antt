-- A window that was fetched fits a table as before.
use Rattle.std.proofs.Common.{ℕ, List, sym, ◌∙◌}
use Rattle.disk_model.specs.Folder.{FolderView}
use Rattle.file_table.specs.Table.{TableValue}
use Rattle.stripe_reader.specs.Fetched.{FetchesWindow}
use Rattle.stripe_reader.specs.Starts.{StartsValue}
use Rattle.stripe_reader.specs.WindowValue.{WindowValue, Fits}
use Rattle.stripe_reader.proofs.HashedLemmas.{lanes_hashed}

pub fits_after : (table : TableValue) (starts : StartsValue) (stripes : List ℕ) (before after : WindowValue) (olds news : List FolderView) → FetchesWindow table starts stripes before after olds news → Fits table before → Fits table after
fits_after table starts stripes before after olds news fetched fits = record {
  lanes = sym (lanes_hashed table.shape after) ∙ fetched.read.lanes ∙ fits.lanes;
  block_size = fetched.read.block_size ∙ fits.block_size;
}
