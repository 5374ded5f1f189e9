-- The parts of columns that may stand in a table fit their fields.
use Rattle.std.proofs.Common.{ℕ, ◌<◌, ◌≤◌, List, [], ◌∷◌, ◌++◌, length, ap, subst, arith, All}
use Rattle.std.specs.List.{flat_map, AllByRecursion}
use Rattle.std.proofs.lemmas.List.{length-append, map-append}
use Rattle.std.proofs.lemmas.List.Elements.{All-head, All-tail, recursion_from_All}
use Rattle.std.proofs.lemmas.Grind.{flat_map-append}
use Rattle.file_table.specs.declared.block.Block.{Block}
use Rattle.file_table.specs.Table.{Record, Column, records_of, positions_of}
use Rattle.file_table.specs.Valid.{AreColumns, IsColumn, IsRecord, HasDigest, IsWhole, most_blocks, most_records}
use Rattle.content_file.proofs.Columns.{column_of}
use Rattle.content_file.proofs.Fronts.{All-left, All-right, positions_in, positions_in-append}
use Rattle.content_file.proofs.Parts.{FitsBlock}
use Rattle.content_file.proofs.Apart.{FitsRecord, FitsColumn}

abbrev AllBelow : ℕ → List ℕ → Type 0
AllBelow the_length positions = All (λ p. p < the_length) positions

each_block : (the_length : ℕ) (blocks : List Block) → the_length ≤ most_blocks → AllByRecursion HasDigest blocks → AllBelow the_length (positions_of blocks) → AllByRecursion FitsBlock blocks
each_block the_length [] short digests below = tt
each_block the_length (b ∷ blocks) short digests below =
    let first = All-head (λ p. p < the_length) b.position (positions_of blocks) below in
    (record { position = omega arith; digest = digests.0 }, each_block the_length blocks short digests.1 (All-tail (λ p. p < the_length) b.position (positions_of blocks) below))

each_record : (the_length size : ℕ) (records : List Record) → the_length ≤ most_blocks → AllByRecursion IsRecord records → AllByRecursion (IsWhole size) records → AllBelow the_length (positions_in records) → AllByRecursion (FitsRecord size) records
each_record the_length size [] short are whole below = tt
each_record the_length size (r ∷ records) short are whole below =
    let rest = flat_map (λ (k : Record). k.blocks) records in
    let both : AllBelow the_length (positions_of r.blocks ++ positions_of rest) = subst (AllBelow the_length) (map-append (λ (b : Block). b.position) r.blocks rest) below in
    let blocks = each_block the_length r.blocks short (recursion_from_All HasDigest r.blocks are.0.digests) (All-left (λ p. p < the_length) (positions_of r.blocks) (positions_of rest) both) in (
      record { path = omega (arith, are.0.path.short); meta = are.0.meta; blocks = blocks; whole = whole.0 },
      each_record the_length size records short are.1 whole.1 (All-right (λ p. p < the_length) (positions_of r.blocks) (positions_of rest) both),
    )

records_of_column : (the_length size : ℕ) (name : List ℕ) (before records : List Record) → the_length ≤ most_blocks → IsColumn the_length (column_of name (before ++ records)) → All (IsWhole size) records → AllByRecursion (FitsRecord size) records
records_of_column the_length size name before records short column whole =
    let are = recursion_from_All IsRecord records (All-right IsRecord before records column.records) in
    let below = All-right (λ p. p < the_length) (positions_in before) (positions_in records) (subst (AllBelow the_length) (positions_in-append before records) column.below) in
    each_record the_length size records short are (recursion_from_All (IsWhole size) records whole) below

each_column : (the_length size : ℕ) (columns : List Column) → the_length ≤ most_blocks → AllByRecursion (IsColumn the_length) columns → All (IsWhole size) (records_of columns) → length (records_of columns) ≤ most_records → AllByRecursion (FitsColumn size) columns
each_column the_length size [] short are whole few = tt
each_column the_length size (c ∷ columns) short are whole few =
    let count = length-append c.records (records_of columns) in (
      record { name = omega (arith, are.0.name.short); count = omega (arith, few, count); records = records_of_column the_length size c.name [] c.records short are.0 (All-left (IsWhole size) c.records (records_of columns) whole) },
      each_column the_length size columns short are.1 (All-right (IsWhole size) c.records (records_of columns) whole) (omega (arith, few, count)),
    )

pub columns_fit : (the_length size : ℕ) (before columns : List Column) → the_length ≤ most_blocks → AreColumns the_length size (before ++ columns) → All (IsWhole size) (records_of columns) → AllByRecursion (FitsColumn size) columns
columns_fit the_length size before columns short are whole =
    let all = flat_map-append (λ (c : Column). c.records) before columns in
    each_column the_length size columns short (recursion_from_All (IsColumn the_length) columns (All-right (IsColumn the_length) before columns are.each)) whole
    (omega (arith, are.few_records, ap length all, length-append (records_of before) (records_of columns)))
