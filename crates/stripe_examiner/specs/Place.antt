-- Where the files of records stood when a run began, by what their folders listed.
use Rattle.std.specs.Prelude.{ℕ, List, [], length, map, get_or, true, Option, None, Some}
use Rattle.disk_model.specs.Tree.{path_of}
use Rattle.disk_model.specs.declared.meta.Meta.{Meta}
use Rattle.folder_listing.specs.Kept.{ListedFile, each_column}
use Rattle.file_table.specs.Table.{Record, TableValue, records_in}
use Rattle.repair_scope.specs.Blocked.{found_in}
use Rattle.stripe_reader.specs.Starts.{StartsValue}
use Rattle.stripe_reader.specs.declared.starts.Start.{Start}
use Rattle.stripe_reader.specs.declared.starts.Place.TheVariants.{Plain, Lost, Nowhere}

-- the place of a record and the size of its file there, by what was listed under PATH and under PATH`.unrecoverable`
abbrev pub start_by : Option Meta → Option Meta → Start
start_by (Some meta) lost = record { place = Plain; size = meta.size }
start_by None (Some meta) = record { place = Lost; size = meta.size }
start_by None None = record { place = Nowhere; size = 0 }

abbrev pub start_of : List ListedFile → List ℕ → Start
start_of files path = start_by (found_in files path) (found_in files (path_of path true))

-- where the files of the records of a column stand, and those of all columns
abbrev pub column_starts : TableValue → List (List ListedFile) → ℕ → List Start
column_starts table lists d = map (λ (kept : Record). start_of (get_or lists d []) kept.path) (records_in table d)

abbrev pub starts_of : TableValue → List (List ListedFile) → StartsValue
starts_of table lists = record { columns = each_column (column_starts table lists) (length table.columns) }
