-- Columns stay well formed when a column, a record or a block is pushed.
use Rattle.std.proofs.Common.{◌≡◌, ◌≢◌, ◌⊎◌, inl, inr, ℕ, ◌+◌, ◌-◌, ◌<◌, ◌≤◌, List, [], ◌∷◌, ◌++◌, length, get_or, take, sym, ap, ◌∙◌, subst, arith, append-nil}
use Rattle.std.specs.List.{All, AllPairs, Contains}
use Rattle.std.specs.Cmp.Lexicographic.{nat_list_cmp_total}
use Rattle.std.proofs.lemmas.List.{map_push, length_push, length-take-le, get_or-take, get_or_default}
use Rattle.std.proofs.lemmas.List.Elements.{All-push, All-take, All-nil, Contains-get_or}
use Rattle.std.proofs.lemmas.List.Quantifiers.{all_pairs_push}
use Rattle.std.proofs.lemmas.Bool.Decides.{eqb_tells}
use Rattle.file_table.specs.declared.block.Block.{Block}
use Rattle.file_table.specs.Table.{Record, Column, records_of, column_blocks, positions_of, blocks_due, no_column, no_record}
use Rattle.file_table.specs.Valid.{IsRecord, HasDigest, IsLessPath, ComesBefore, IsColumn, AreColumns, most_columns, most_records, most_blocks}
use Rattle.disk_model.specs.Name.{IsName}
use Rattle.file_table.specs.Building.{last_column, last_record, with_last_column, with_column, records_with_block, record_with_block, IsNewName, IsGreatest, IsNested, Uses}
use Rattle.file_table.proofs.ListFacts.{AllPairs-take}
use Rattle.file_table.proofs.BuildingLemmas.{front_columns, blocks_in-push, blocks_in-with_block, records_of-with_column, length-with_last}

eq_or_not : (a b : ℕ) → (a ≡ b) ⊎ (a ≢ b)
eq_or_not a b = elim (eqb_tells a b) [ inl same ↦ inl same.1 | inr other ↦ inr other.1 ]

-- each record's path is less than one that is greater than the last
pub all_less : (column : Column) (path : List ℕ) → AllPairs ComesBefore column.records → IsGreatest column path → (k : ℕ) (d : Record) → k < length column.records → IsLessPath (get_or column.records k d).path path
all_less column path order greatest k d within =
    let n : ℕ = length column.records - 1 in
    let some : 0 < length column.records = omega arith in
    let below : n < length column.records = omega arith in
    let last : IsLessPath (last_record column.records).path path = greatest some in
    elim (eq_or_not k n) [
      | inl same ↦ subst (λ (r : Record). IsLessPath r.path path) (get_or_default column.records n no_record d below ∙ ap (λ (i : ℕ). get_or column.records i d) (sym same)) last
      | inr other ↦
          let earlier : k < n = omega arith in
          let less : IsLessPath (get_or column.records k d).path (get_or column.records n d).path = (order k n d earlier below).less in
          let end : IsLessPath (get_or column.records n d).path path = subst (λ (r : Record). IsLessPath r.path path) (get_or_default column.records n no_record d below) last in
          nat_list_cmp_total.trans (get_or column.records k d).path (get_or column.records n d).path path less end
    ]

-- a column with one more record
pub IsColumn-record : (the_length : ℕ) (column : Column) (kept : Record) → IsColumn the_length column → IsRecord kept → kept.blocks ≡ []
    → IsGreatest column kept.path → ¬ (IsNested column kept.path) → IsColumn the_length (record { name = column.name; records = column.records ++ kept ∷ [] })
IsColumn-record the_length column kept is new empty greatest not_nested =
    let same : column_blocks (record { name = column.name; records = column.records ++ kept ∷ [] }) ≡ column_blocks column =
    blocks_in-push column.records kept ∙ ap (λ (bs : List Block). column_blocks column ++ bs) empty ∙ append-nil (column_blocks column) in
    let before : (k : ℕ) (d : Record) → k < length column.records → ComesBefore (get_or column.records k d) kept =
    λ k d within. record {
      less = all_less column kept.path is.order greatest k d within;
      not_nested = λ nested. not_nested (k, get_or column.records k d, within, get_or_default column.records k (get_or column.records k d) d within, nested);
    } in
    record {
      name = is.name;
      records = All-push IsRecord column.records kept is.records new;
      order = all_pairs_push ComesBefore column.records kept is.order before;
      below = subst (λ (bs : List Block). All (λ position. position < the_length) (positions_of bs)) (sym same) is.below;
      once = subst (λ (bs : List Block). AllPairs (λ a b. a ≢ b) (positions_of bs)) (sym same) is.once;
    }

-- a record with one more block
IsRecord-block : (kept : Record) (block : Block) → IsRecord kept → HasDigest block → IsRecord (record_with_block kept block)
IsRecord-block kept block is has = record { path = is.path; meta = is.meta; digests = All-push HasDigest kept.blocks block is.digests has }

-- a list of positions with one more
positions_of-push : (blocks : List Block) (block : Block) → positions_of (blocks ++ block ∷ []) ≡ positions_of blocks ++ block.position ∷ []
positions_of-push blocks block = map_push (λ (b : Block). b.position) blocks block

pub IsColumn-block : (the_length : ℕ) (column : Column) (block : Block) → 0 < length column.records → IsColumn the_length column → HasDigest block → block.position < the_length → ¬ (Uses column block.position)
    → IsColumn the_length (record { name = column.name; records = records_with_block column.records block })
IsColumn-block the_length column block some is has below unused =
    let n : ℕ = length column.records - 1 in
    let end : n < length column.records = omega arith in
    let front : List Record = take n column.records in
    let last : Record = last_record column.records in
    let short : length front ≡ n = length-take-le n column.records (omega arith) in
    let more : positions_of (column_blocks (record { name = column.name; records = records_with_block column.records block })) ≡ positions_of (column_blocks column) ++ block.position ∷ [] =
    ap positions_of (blocks_in-with_block column.records block some) ∙ positions_of-push (column_blocks column) block in
    let before : (k : ℕ) (d : Record) → k < length front → ComesBefore (get_or front k d) (record_with_block last block) =
    λ k d within.
    let earlier : k < n = omega arith in
    let old : ComesBefore (get_or column.records k no_record) last = is.order k n no_record earlier end in
    let there : k < length column.records = omega arith in
    let read : get_or front k d ≡ get_or column.records k no_record = get_or-take n column.records k d earlier ∙ get_or_default column.records k d no_record there in
    subst (λ (r : Record). ComesBefore r (record_with_block last block)) (sym read) (record { less = old.less; not_nested = old.not_nested }) in
    let other : (k : ℕ) (d : ℕ) → k < length (positions_of (column_blocks column)) → get_or (positions_of (column_blocks column)) k d ≢ block.position =
    λ k d within same. unused (subst (Contains (positions_of (column_blocks column))) same (Contains-get_or (positions_of (column_blocks column)) k d within)) in
    record {
      name = is.name;
      records = All-push IsRecord front (record_with_block last block) (All-take IsRecord n column.records is.records) (IsRecord-block last block (is.records n no_record end) has);
      order = all_pairs_push ComesBefore front (record_with_block last block) (AllPairs-take ComesBefore n column.records is.order) before;
      below = subst (All (λ position. position < the_length)) (sym more) (All-push (λ position. position < the_length) (positions_of (column_blocks column)) block.position is.below below);
      once = subst (AllPairs (λ a b. a ≢ b)) (sym more) (all_pairs_push (λ a b. a ≢ b) (positions_of (column_blocks column)) block.position is.once other);
    }

-- a column without records
IsColumn-new : (the_length : ℕ) (name : List ℕ) → IsName name → IsColumn the_length (record { name = name; records = [] })
IsColumn-new the_length name is = record {
  name = is;
  records = All-nil IsRecord;
  order = λ i j d less within. absurd (omega arith);
  below = All-nil (λ position. position < the_length);
  once = λ i j d less within. absurd (omega arith);
}

pub AreColumns-column : (the_length block_size : ℕ) (columns : List Column) (name : List ℕ) → AreColumns the_length block_size columns → IsNewName columns name → AreColumns the_length block_size (with_column columns name)
AreColumns-column the_length block_size columns name are new =
    let column : Column = record { name = name; records = [] } in
    let long : length (with_column columns name) ≡ length columns + 1 = length_push columns column in
    let room : length columns < most_columns = new.room in
    let same : records_of (with_column columns name) ≡ records_of columns = records_of-with_column columns name in
    record {
      few = omega arith;
      each = All-push (IsColumn the_length) columns column are.each (IsColumn-new the_length name new.allowed);
      names = all_pairs_push (λ (earlier later : Column). earlier.name ≢ later.name) columns column are.names new.new;
      few_records = subst (λ (rs : List Record). length rs ≤ most_records) (sym same) are.few_records;
      few_blocks = subst (λ (rs : List Record). blocks_due block_size rs ≤ most_blocks) (sym same) are.few_blocks;
    }

-- another column of the same name in the place of the last
pub AreColumns-last : (the_length block_size : ℕ) (columns : List Column) (column : Column) → 0 < length columns → AreColumns the_length block_size columns
    → IsColumn the_length column → column.name ≡ (last_column columns).name
    → length (records_of (with_last_column columns column)) ≤ most_records → blocks_due block_size (records_of (with_last_column columns column)) ≤ most_blocks
    → AreColumns the_length block_size (with_last_column columns column)
AreColumns-last the_length block_size columns column some are is same few_records few_blocks =
    let n : ℕ = length columns - 1 in
    let end : n < length columns = omega arith in
    let front : List Column = front_columns columns in
    let short : length front ≡ n = length-take-le n columns (omega arith) in
    let other : (k : ℕ) (d : Column) → k < length front → (get_or front k d).name ≢ column.name =
    λ k d within equal.
    let earlier : k < n = omega arith in
    let there : k < length columns = omega arith in
    let read : get_or front k d ≡ get_or columns k no_column = get_or-take n columns k d earlier ∙ get_or_default columns k d no_column there in
    are.names k n no_column earlier end (ap (λ (c : Column). c.name) (sym read) ∙ equal ∙ same) in
    let long : length (with_last_column columns column) ≡ length columns = length-with_last columns column some in
    record {
      few = subst (λ (m : ℕ). m ≤ most_columns) (sym long) are.few;
      each = All-push (IsColumn the_length) front column (All-take (IsColumn the_length) n columns are.each) is;
      names = all_pairs_push (λ (earlier later : Column). earlier.name ≢ later.name) front column (AllPairs-take (λ (earlier later : Column). earlier.name ≢ later.name) n columns are.names) other;
      few_records = few_records;
      few_blocks = few_blocks;
    }
