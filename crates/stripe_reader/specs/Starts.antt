-- Where the files of a table's records stood, and how long they were, when a run began.
use Rattle.std.specs.Prelude.{◌≡◌, ℕ, ◌<◌, List, [], length, map, slice_index_or}
use Rattle.file_table.specs.Table.{Record, Column, TableValue, column_at}
use Rattle.stripe_reader.specs.declared.starts.Start.{Start}
use Rattle.stripe_reader.specs.declared.starts.Place.TheVariants.{Plain, Nowhere}

-- the starts of records, column by column
pub record StartsValue : Type 0 where
  pub columns : List (List Start)

-- what stands for a start that is not there
abbrev pub no_start : Start
no_start = record { place = Nowhere; size = 0 }

-- the starts of a column, and the start of a record among them
abbrev pub starts_at : List (List Start) → ℕ → List Start
starts_at columns d = slice_index_or columns d []

abbrev pub start_in : List Start → ℕ → Start
start_in starts rec = slice_index_or starts rec no_start

-- there is a start for each record of each column of a table
pub record StartsFit (table : TableValue) (starts : StartsValue) : Type 0 where
  pub columns : length starts.columns ≡ length table.columns
  pub records : (d : ℕ) → d < length table.columns → length (starts_at starts.columns d) ≡ length (column_at table.columns d).records

-- a file that stands as it was recorded
abbrev pub recorded_start : Record → Start
recorded_start kept = record { place = Plain; size = kept.meta.size }

-- each file stands as it was recorded
abbrev pub recorded_starts : TableValue → StartsValue
recorded_starts table = record { columns = map (λ (column : Column). map recorded_start column.records) table.columns }
