-- A table stays valid when a block is given its hash, and only that block changes.
use Rattle.std.proofs.Common.{◌≡◌, ◌≢◌, inl, inr, ℕ, zero, suc, ◌+◌, ◌-◌, ◌<◌, ◌≤◌, List, [], ◌∷◌, ◌++◌, length, get_or, set, take, refl, sym, ap, ◌∙◌, subst, arith, Some, IsSome}
use Rattle.std.specs.List.{All, AllPairs, flat_map}
use Rattle.std.proofs.lemmas.List.{length-set, get_or-set_same, get_or-set_other, set-append_left, set-append_right, map-set, set-get_or, get_or-map, get_or_default, length-append}
use Rattle.std.proofs.lemmas.List.Elements.{All-set}
use Rattle.std.proofs.lemmas.List.Concat.{get_or-flat_map}
use Rattle.std.proofs.lemmas.List.Sums.{sum_by-set}
use Rattle.std.proofs.lemmas.Bool.Decides.{eqb_tells}
use Rattle.block_hash.specs.declared.Digest16.{Digest16}
use Rattle.file_table.specs.declared.block.Block.{Block}
use Rattle.file_table.specs.Table.{Record, Column, TableValue, block_count, records_of, column_blocks, blocks_of, positions_of, blocks_due, end_of, column_at, record_in, record_at, block_in, no_column, no_record, no_block, record_with_hash, column_with_hash, with_hash}
use Rattle.file_table.specs.Valid.{IsSixteenBytes, HasDigest, IsRecord, IsColumn, ComesBefore, IsWhole, IsValid, most_columns, most_records, most_blocks}
use Rattle.file_table.proofs.BuildingLemmas.{blocks_in}

-- a write to one list that a function gives is a write to all of them joined
flat_map-set : {X A : Type 0} (f : X → List A) (xs : List X) (i j : ℕ) (d y : X) (v : A) → i < length xs → j < length (f (get_or xs i d)) → f y ≡ set (f (get_or xs i d)) j v
    → flat_map f (set xs i y) ≡ set (flat_map f xs) (length (flat_map f (take i xs)) + j) v
flat_map-set f [] i j d y v within inside is = absurd (omega arith)
flat_map-set {X} {A} f (x ∷ xs) zero j d y v within inside is =
    let at : 0 + j ≡ j = omega arith in
    ap (λ (ys : List A). ys ++ flat_map f xs) is
    ∙ sym (set-append_left (f x) (flat_map f xs) j v inside)
    ∙ ap (λ (n : ℕ). set (f x ++ flat_map f xs) n v) (sym at)
flat_map-set {X} {A} f (x ∷ xs) (suc i) j d y v within inside is =
    let rest : flat_map f (set xs i y) ≡ set (flat_map f xs) (length (flat_map f (take i xs)) + j) v = flat_map-set f xs i j d y v (omega arith) inside is in
    let n : ℕ = length (flat_map f (take i xs)) + j in
    let long : length (f x ++ flat_map f (take i xs)) + j ≡ length (f x) + n = omega (arith, length-append (f x) (flat_map f (take i xs))) in
    let past : length (f x) ≤ length (f x) + n = omega arith in
    let less : (length (f x) + n) - length (f x) ≡ n = omega arith in
    ap (λ (ys : List A). f x ++ ys) (rest ∙ ap (λ (k : ℕ). set (flat_map f xs) k v) (sym less))
    ∙ sym (set-append_right (f x) (flat_map f xs) (length (f x)) (length (f x) + n) v refl past)
    ∙ ap (λ (k : ℕ). set (f x ++ flat_map f xs) k v) (sym long)

-- a list that is written with an element that reads the same
AllPairs-set : {X : Type 0} (R : X → X → Type 0) (xs : List X) (i : ℕ) (d new : X) → i < length xs
    → ((y : X) → R y (get_or xs i d) → R y new) → ((y : X) → R (get_or xs i d) y → R new y) → AllPairs R xs → AllPairs R (set xs i new)
AllPairs-set {X} R xs i d new within later earlier all a b e less below =
    let long : length (set xs i new) ≡ length xs = length-set xs i new in
    let b_in : b < length xs = omega arith in
    let a_in : a < length xs = omega arith in
    let old : R (get_or xs a d) (get_or xs b d) = all a b d less b_in in
    let here : (k : ℕ) → k ≡ i → get_or (set xs i new) k e ≡ new = λ k is. ap (λ (n : ℕ). get_or (set xs i new) n e) is ∙ get_or-set_same xs i new e within in
    let there : (k : ℕ) → k < length xs → k ≢ i → get_or (set xs i new) k e ≡ get_or xs k d = λ k inside is. get_or-set_other xs i k new e is ∙ get_or_default xs k e d inside in
    elim (eqb_tells a i) [
      | inl a_is ↦ elim (eqb_tells b i) [
        | inl b_is ↦ absurd (omega (arith, a_is.1, b_is.1))
        | inr b_not ↦
            let first : R (get_or xs i d) (get_or xs b d) = subst (λ (n : ℕ). R (get_or xs n d) (get_or xs b d)) a_is.1 old in
            rw (here a a_is.1, there b b_in b_not.1) (earlier (get_or xs b d) first)
      ]
      | inr a_not ↦ elim (eqb_tells b i) [
        | inl b_is ↦
            let second : R (get_or xs a d) (get_or xs i d) = subst (λ (n : ℕ). R (get_or xs a d) (get_or xs n d)) b_is.1 old in
            rw (there a a_in a_not.1, here b b_is.1) (later (get_or xs a d) second)
        | inr b_not ↦ rw (there a a_in a_not.1, there b b_in b_not.1) old
      ]
    ]

-- positions stay where a block is written with its position
pub positions-set : (blocks : List Block) (n : ℕ) (block : Block) → n < length blocks → block.position ≡ (get_or blocks n no_block).position → positions_of (set blocks n block) ≡ positions_of blocks
positions-set blocks n block within same =
    let read : get_or (positions_of blocks) n 0 ≡ block.position = get_or-map (λ (b : Block). b.position) blocks n no_block 0 within ∙ sym same in
    map-set (λ (b : Block). b.position) blocks n block ∙ ap (λ (p : ℕ). set (positions_of blocks) n p) (sym read) ∙ set-get_or (positions_of blocks) n 0

-- an element of one of the lists is among all
flat_map_within : {X A : Type 0} (f : X → List A) (xs : List X) (i j : ℕ) (d : X) → i < length xs → j < length (f (get_or xs i d)) → length (flat_map f (take i xs)) + j < length (flat_map f xs)
flat_map_within f [] i j d within inside = absurd (omega arith)
flat_map_within f (x ∷ xs) zero j d within inside = omega (arith, length-append (f x) (flat_map f xs), inside)
flat_map_within f (x ∷ xs) (suc i) j d within inside =
    omega (arith, flat_map_within f xs i j d (omega arith) inside, length-append (f x) (flat_map f (take i xs)), length-append (f x) (flat_map f xs))

-- one block of one record of a column
module _ (column : Column) (i index : ℕ) (hash : Digest16) (i_in : i < length column.records) (index_in : index < length (record_in column i).blocks) where
  abbrev new_block : Block
  new_block = record { position = (block_in (record_in column i) index).position; hash = Some hash }

  abbrev place_in_column : ℕ
  place_in_column = length (blocks_in (take i column.records)) + index

  column_blocks-set : column_blocks (column_with_hash column i index hash) ≡ set (column_blocks column) place_in_column new_block
  column_blocks-set = flat_map-set (λ (r : Record). r.blocks) column.records i index no_record (record_with_hash (record_in column i) index hash) new_block i_in index_in refl

  column_reads : get_or (column_blocks column) place_in_column no_block ≡ block_in (record_in column i) index
  column_reads = get_or-flat_map (λ (r : Record). r.blocks) column.records i index no_record no_block i_in index_in

  column_within : place_in_column < length (column_blocks column)
  column_within = flat_map_within (λ (r : Record). r.blocks) column.records i index no_record i_in index_in

  pub column_positions : positions_of (column_blocks (column_with_hash column i index hash)) ≡ positions_of (column_blocks column)
  column_positions = ap positions_of column_blocks-set ∙ positions-set (column_blocks column) place_in_column new_block column_within (ap (λ (b : Block). b.position) (sym column_reads))

  record_digest : IsSixteenBytes hash.0 → IsRecord (record_in column i) → IsRecord (record_with_hash (record_in column i) index hash)
  record_digest digest is = record { path = is.path; meta = is.meta; digests = All-set HasDigest (record_in column i).blocks index new_block digest is.digests }

  pub IsColumn-hash : (the_length : ℕ) → IsSixteenBytes hash.0 → IsColumn the_length column → IsColumn the_length (column_with_hash column i index hash)
  IsColumn-hash the_length digest is =
      let new : Record = record_with_hash (record_in column i) index hash in
      record {
        name = is.name;
        records = All-set IsRecord column.records i new (record_digest digest (is.records i no_record i_in)) is.records;
        order = AllPairs-set ComesBefore column.records i no_record new i_in
            (λ y before. record { less = before.less; not_nested = before.not_nested })
            (λ y before. record { less = before.less; not_nested = before.not_nested }) is.order;
        below = subst (All (λ position. position < the_length)) (sym column_positions) is.below;
        once = subst (AllPairs (λ a b. a ≢ b)) (sym column_positions) is.once;
      }

-- and of a column among all
module _ (columns : List Column) (d i index : ℕ) (hash : Digest16) (d_in : d < length columns) (i_in : i < length (column_at columns d).records) (index_in : index < length (record_at columns d i).blocks) where
  abbrev new_column : Column
  new_column = column_with_hash (column_at columns d) i index hash

  abbrev new_record : Record
  new_record = record_with_hash (record_at columns d i) index hash

  abbrev block_now : Block
  block_now = record { position = (block_in (record_at columns d i) index).position; hash = Some hash }

  abbrev place_in_all : ℕ
  place_in_all = length (blocks_of (take d columns)) + (length (blocks_in (take i (column_at columns d).records)) + index)

  abbrev place_in_records : ℕ
  place_in_records = length (records_of (take d columns)) + i

  blocks_of-set : blocks_of (with_hash columns d i index hash) ≡ set (blocks_of columns) place_in_all block_now
  blocks_of-set = flat_map-set column_blocks columns d (length (blocks_in (take i (column_at columns d).records)) + index) no_column new_column block_now d_in
      (column_within (column_at columns d) i index hash i_in index_in) (column_blocks-set (column_at columns d) i index hash i_in index_in)

  all_within : place_in_all < length (blocks_of columns)
  all_within = flat_map_within column_blocks columns d (length (blocks_in (take i (column_at columns d).records)) + index) no_column d_in (column_within (column_at columns d) i index hash i_in index_in)

  all_reads : get_or (blocks_of columns) place_in_all no_block ≡ block_in (record_at columns d i) index
  all_reads = get_or-flat_map column_blocks columns d (length (blocks_in (take i (column_at columns d).records)) + index) no_column no_block d_in (column_within (column_at columns d) i index hash i_in index_in)
      ∙ column_reads (column_at columns d) i index hash i_in index_in

  records_of-set : records_of (with_hash columns d i index hash) ≡ set (records_of columns) place_in_records new_record
  records_of-set = flat_map-set (λ (c : Column). c.records) columns d i no_column new_column new_record d_in i_in refl

  records_within : place_in_records < length (records_of columns)
  records_within = flat_map_within (λ (c : Column). c.records) columns d i no_column d_in i_in

  records_reads : get_or (records_of columns) place_in_records no_record ≡ record_at columns d i
  records_reads = get_or-flat_map (λ (c : Column). c.records) columns d i no_column no_record d_in i_in

  all_positions : positions_of (blocks_of (with_hash columns d i index hash)) ≡ positions_of (blocks_of columns)
  all_positions = ap positions_of blocks_of-set ∙ positions-set (blocks_of columns) place_in_all block_now all_within (ap (λ (b : Block). b.position) (sym all_reads))

  due_same : (block_size : ℕ) → blocks_due block_size (records_of (with_hash columns d i index hash)) ≡ blocks_due block_size (records_of columns)
  due_same block_size =
      let count : Record → ℕ = λ (r : Record). block_count block_size r.meta.size in
      let both : blocks_due block_size (set (records_of columns) place_in_records new_record) + block_count block_size (get_or (records_of columns) place_in_records no_record).meta.size ≡ blocks_due block_size (records_of columns) + block_count block_size (record_at columns d i).meta.size =
      sum_by-set (λ (r : Record). block_count block_size r.meta.size) (records_of columns) place_in_records new_record no_record records_within in
      let read : block_count block_size (get_or (records_of columns) place_in_records no_record).meta.size ≡ block_count block_size (record_at columns d i).meta.size = ap (λ (r : Record). block_count block_size r.meta.size) records_reads in
      let set_due : blocks_due block_size (set (records_of columns) place_in_records new_record) ≡ blocks_due block_size (records_of columns) = omega arith in
      ap (blocks_due block_size) records_of-set ∙ set_due

  pub valid-set_hash : (table : TableValue) → table.columns ≡ columns → IsSixteenBytes hash.0 → IsValid table → IsValid (record table { columns = with_hash columns d i index hash })
  valid-set_hash table same digest valid =
      let is : IsValid (record table { columns = columns }) = subst (λ (cs : List Column). IsValid (record table { columns = cs })) same valid in
      let bs : ℕ = table.shape.block_size in
      let old_column : IsColumn (length table.infos) (column_at columns d) = is.columns.each d no_column d_in in
      let long : length (with_hash columns d i index hash) ≡ length columns = length-set columns d new_column in
      let records_long : length (records_of (with_hash columns d i index hash)) ≡ length (records_of columns) = ap length records_of-set ∙ length-set (records_of columns) place_in_records new_record in
      let old_whole : IsWhole bs (record_at columns d i) = subst (IsWhole bs) records_reads (is.whole place_in_records no_record records_within) in
      let new_whole : IsWhole bs new_record = length-set (record_at columns d i).blocks index block_now ∙ old_whole in
      record {
        shape = is.shape;
        some_column = subst (λ (n : ℕ). 1 ≤ n) (sym long) is.some_column;
        columns = record {
          few = subst (λ (n : ℕ). n ≤ most_columns) (sym long) is.columns.few;
          each = All-set (IsColumn (length table.infos)) columns d new_column (IsColumn-hash (column_at columns d) i index hash i_in index_in (length table.infos) digest old_column) is.columns.each;
          names = AllPairs-set (λ (earlier later : Column). earlier.name ≢ later.name) columns d no_column new_column d_in (λ y other. other) (λ y other. other) is.columns.names;
          few_records = subst (λ (n : ℕ). n ≤ most_records) (sym records_long) is.columns.few_records;
          few_blocks = subst (λ (n : ℕ). n ≤ most_blocks) (sym (due_same bs)) is.columns.few_blocks;
        };
        whole = subst (All (IsWhole bs)) (sym records_of-set) (All-set (IsWhole bs) (records_of columns) place_in_records new_record new_whole is.whole);
        short = is.short;
        length_is = is.length_is ∙ ap end_of (sym all_positions);
        infos = record {
          each = is.infos.each;
          hashed = λ stripe below synced. subst (All (λ (b : Block). b.position ≡ stripe → IsSome b.hash)) (sym blocks_of-set)
              (All-set (λ (b : Block). b.position ≡ stripe → IsSome b.hash) (blocks_of columns) place_in_all block_now (λ at. refl) (is.infos.hashed stripe below synced));
        };
      }

  pub length-blocks_of-hash : length (blocks_of (with_hash columns d i index hash)) ≡ length (blocks_of columns)
  length-blocks_of-hash = ap length blocks_of-set ∙ length-set (blocks_of columns) place_in_all block_now
