-- The table and the rows of parity after stripes were read: those that are verified are synced.
use Rattle.std.specs.Prelude.{ℕ, ◌<◌, List, [], ◌∷◌, length, count_by, IsSome, false, true, if◌then◌else◌}
use Rattle.file_table.specs.Cells.{cell_in, columns_closed, closed_at}
use Rattle.file_table.specs.Table.{TableValue, column_at}
use Rattle.file_table.specs.declared.info.Info.{Info}
use Rattle.file_table.specs.declared.info.Mark.TheVariants.{Synced}
use Rattle.parity_writer.specs.Parity.{Rows, no_rows, with_row}
use Rattle.stripe_findings.specs.Reading.{StripeReading, slot_of, is_verified, digests_of, row_of}

-- a stripe that is synced now: fresh, and not bad
abbrev pub synced_now : ℕ → Info
synced_now now = record { mark = Synced; last = now; bad = false; fresh = true }

-- each block of the stripe of a reading came whole
abbrev pub HasDigests : TableValue → StripeReading → Type 0
HasDigests table reading = (d : ℕ) → d < length table.columns →
    IsSome (cell_in (column_at table.columns d) reading.stripe) → IsSome (slot_of d reading).digest

-- a table whose cells at the stripe of a reading have the hashes of the blocks that came
abbrev pub with_hashes : StripeReading → TableValue → TableValue
with_hashes reading table = record table { columns = columns_closed reading.stripe (digests_of reading) table.columns }

-- a table in which the stripe of a reading is synced now, with the hashes of the blocks that came
abbrev pub with_closed : ℕ → StripeReading → TableValue → TableValue
with_closed now reading table = closed_at reading.stripe (digests_of reading) (synced_now now) table

-- a table with those stripes closed that are verified by another
abbrev pub closed_by : TableValue → ℕ → List StripeReading → TableValue → TableValue
closed_by start now [] table = table
closed_by start now (reading ∷ readings) table =
    closed_by start now readings (if is_verified start reading then with_closed now reading table else table)

-- the table after these stripes were read
abbrev pub closed : ℕ → TableValue → List StripeReading → TableValue
closed now start readings = closed_by start now readings start

-- the rows that parity then holds, beside some that it held
abbrev pub rows_with : TableValue → List StripeReading → Rows → Rows
rows_with start [] rows = rows
rows_with start (reading ∷ readings) rows =
    rows_with start readings (if is_verified start reading then with_row reading.stripe (row_of reading) rows else rows)

abbrev pub rows_of : TableValue → List StripeReading → Rows
rows_of start readings = rows_with start readings no_rows

-- how many stripes are verified
abbrev pub verified_in : TableValue → List StripeReading → ℕ
verified_in start readings = count_by (is_verified start) readings
