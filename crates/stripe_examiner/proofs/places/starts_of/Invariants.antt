use Rattle.std.proofs.Common.{◌≡◌, map}
use Rattle.folder_listing.specs.Kept.{each_column, lists_of}
use Rattle.stripe_examiner.specs.Place.{column_starts}
use Rattle.stripe_examiner.proofs.places.starts_of.Given as goal

abbrev pub invariant-loop-d : goal.invariant-loop-d
invariant-loop-d l = map (λ column. column.items) l.columns.items ≡ each_column (column_starts l.table (lists_of l.lists)) l.d
