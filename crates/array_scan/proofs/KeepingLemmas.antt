-- What a layout calls synced was so, with the same blocks.
use Rattle.std.proofs.Common.{◌≡◌, ◌≢◌, inl, inr, ℕ, zero, suc, ◌+◌, ◌<◌, ◌==◌, nat_eq, nat_lt, List, [], ◌∷◌, length, take, drop, get_or, Bool, true, false, not, ◌&&◌, if◌then◌else◌, Option, None, Some, slice_get, refl, sym, ap, ◌∙◌, subst, arith}
use Rattle.std.specs.List.{All, AllPairs, Contains, flat_map, list_any, range_with_len}
use Rattle.std.specs.FinSet.{contains, contains-from_list_nat}
use Rattle.std.specs.Option.{option_map}
use Rattle.std.proofs.lemmas.Bool.{and_parts, both_ways, cases_lt, not-true, eqb-true, ltb-true, true_from_ne_false}
use Rattle.std.proofs.lemmas.List.{get_or-map, get_or_default, get_or_past, length-map}
use Rattle.std.proofs.lemmas.List.FromFn.{get_or-map-range_with_len, length-map-range_with_len, length-range_with_len, get_or-range_with_len}
use Rattle.array_scan.specs.Fates.{fate_by, fate_with, file_of as listed_at, is_listed, is_vanished, may_move, origin, record_of, record_with, rivals, sorted_file, sorted_files, source_of, vanished}
use Rattle.folder_listing.specs.Kept.{same_meta}
use Rattle.folder_listing.specs.Kept.{ListedFile}
use Rattle.array_scan.specs.Laying.{bare, blocks_by, freed, given, kept_blocks, laid_column, laid_record, laid_records, needed, staying, taken, touched}
use Rattle.array_scan.specs.Layout.{all_sorted, all_touched, column_laid, is_as_before, laid_info, layout, sorted_at, touched_at}
use Rattle.array_scan.specs.declared.sorting.Fate.TheVariants.{New}
use Rattle.array_scan.specs.declared.sorting.Sorted.{Sorted}
use Rattle.disk_model.specs.declared.meta.Meta.{Meta}
use Rattle.file_table.specs.Cells.{CellView, cell_in, cell_seen, cell_view, stripe_view}
use Rattle.file_table.specs.Table.{Record, Column, TableValue, IsAt, block_count, block_in, blocks_of, column_at, column_blocks, end_of, info_at, no_block, no_column, no_info, no_record, positions_of, record_in}
use Rattle.file_table.specs.Valid.{IsValid}
use Rattle.file_table.specs.declared.block.Block.{Block}
use Rattle.file_table.specs.declared.block.Cell.{Cell}
use Rattle.file_table.specs.declared.info.Info.{Info}
use Rattle.file_table.specs.declared.info.Mark.TheVariants.{Synced}
use Rattle.array_scan.specs.Keeping.{IsMarkedSynced, KeepsStripes, SameBlock}
use Rattle.array_scan.proofs.ContainsLemmas.{IsGivenBy, any_contains, contains_any, contains_first, contains_joined, contains_kept, contains_left, contains_positions, contains_right, contains_drop, given_by_one, kept_pass}

-- what file_table says of cells
abbrev pub FindsCells : Type 0
FindsCells = (column : Column) (position : ℕ) (cell : Cell) → cell_in column position ≡ Some cell → IsAt column position cell.rec cell.index

abbrev pub IsOnlyCell : Type 0
IsOnlyCell = (column : Column) (position : ℕ) (cell : Cell) → AllPairs (λ a b. a ≢ b) (positions_of (column_blocks column)) → IsAt column position cell.rec cell.index → cell_in column position ≡ Some cell

-- where no cell is found, none stands
abbrev pub IsNoCell : Type 0
IsNoCell = (column : Column) (position : ℕ) → cell_in column position ≡ None → (i index : ℕ) → IsAt column position i index → ⊥

-- ---- the sizes of files that keep their blocks

same_size : (one other : Meta) → same_meta one other ≡ true → one.size ≡ other.size
same_size one other same = eqb-true one.size other.size (first_part (one.size == other.size) _ _ same)
  where
    first_part : (a b c : Bool) → (a && b && c) ≡ true → a ≡ true
    first_part true b c is = refl
    first_part false b c is = cc

slice_get_contains : (xs : List ℕ) (n i : ℕ) → slice_get xs n ≡ Some i → Contains xs i
slice_get_contains [] n i is = cc
slice_get_contains (x ∷ xs) zero i is = (0, omega arith, same)
  where
    same : x ≡ i
    same = cc
slice_get_contains (x ∷ xs) (suc n) i is = let rest : Contains xs i = slice_get_contains xs n i is in (suc rest.0, omega (arith, rest.1), rest.2)

-- a file whose blocks are those of a record has its size
abbrev KeepsSize : List Record → Sorted → Type 0
KeepsSize records file = (i : ℕ) → origin file.fate ≡ Some i → (record_of records i).meta.size ≡ file.meta.size

fate_keeps : (records : List Record) (files : List ListedFile) (k : ℕ) → KeepsSize records (sorted_file records files k)
fate_keeps records files k i = by_named (record_with records (listed_at files k).0)
  where
    meta : Meta
    meta = (listed_at files k).1

    size_of : (b : Bool) (j : ℕ) → same_meta (record_of records j).meta meta ≡ b → origin (fate_with b j) ≡ Some i → (record_of records i).meta.size ≡ meta.size
    size_of true j same is = subst (λ (n : ℕ). (record_of records n).meta.size ≡ meta.size) (some_is j is) (same_size (record_of records j).meta meta same)
      where
        some_is : (n : ℕ) → Some n ≡ Some i → n ≡ i
        some_is n both = cc
    size_of false j same is = cc

    by_source : (b : Bool) → (source : Option ℕ) → (if b then slice_get (vanished records files meta) (rivals records (take k files) meta) else None) ≡ source
        → origin (fate_by records meta None source) ≡ Some i → (record_of records i).meta.size ≡ meta.size
    by_source b None found is = cc
    by_source false (Some j) found is = cc
    by_source true (Some j) found is =
        let among : Contains (vanished records files meta) j = slice_get_contains (vanished records files meta) (rivals records (take k files) meta) j found in
        let passes : is_vanished records files meta j ≡ true = subst (λ (n : ℕ). is_vanished records files meta n ≡ true) among.2
        (kept_pass (is_vanished records files meta) (λ (n : ℕ). is_vanished records files meta n ≡ true) (range_with_len 0 (length records)) (λ m d within it. it) among.0 j among.1) in
        let parts = and_parts (not (is_listed records files j)) (same_meta (record_of records j).meta meta) passes in
        let moved : j ≡ i = cc in
        subst (λ (n : ℕ). (record_of records n).meta.size ≡ meta.size) moved (same_size (record_of records j).meta meta parts.1)

    by_named : (named : Option ℕ) → origin (fate_by records meta named (source_of records files k meta)) ≡ Some i → (record_of records i).meta.size ≡ meta.size
    by_named (Some j) is = size_of (same_meta (record_of records j).meta meta) j refl is
    by_named None is = by_source (may_move meta) (source_of records files k meta) refl is

sizes_keep : (records : List Record) (files : List ListedFile) → All (KeepsSize records) (sorted_files records files)
sizes_keep records files k d within =
    let long : length (sorted_files records files) ≡ length files = length-map-range_with_len (sorted_file records files) 0 (length files) in
    subst (KeepsSize records) (sym (get_or-map-range_with_len (sorted_file records files) 0 (length files) k k d (omega (arith, within, long)) (zero_more k))) (fate_keeps records files k)
  where
    zero_more : (n : ℕ) → 0 + n ≡ n
    zero_more n = omega arith

-- ---- a column

-- the record of a number of a column that is laid out: some of the positions that are given out are left for it
record IsLaidAt (size : ℕ) (records : List Record) (free : List ℕ) (files : List Sorted) (r : ℕ) (e : Sorted) : Type 0 where
  rest : List ℕ
  is : get_or (laid_records size records free files) r no_record ≡ laid_record size records rest (get_or files r e)
  left : (p : ℕ) → Contains rest p → Contains free p

laid_at : (size : ℕ) (records : List Record) (free : List ℕ) (files : List Sorted) (r : ℕ) (e : Sorted) → r < length files → IsLaidAt size records free files r e
laid_at size records free [] r e within = absurd (omega (arith, within))
laid_at size records free (file ∷ files) zero e within = record { rest = free; is = refl; left = λ p has. has }
laid_at size records free (file ∷ files) (suc r) e within =
    let later : IsLaidAt size records (drop (needed size file) free) files r e = laid_at size records (drop (needed size file) free) files r e (omega (arith, within)) in
    record { rest = later.rest; is = later.is; left = λ p has. contains_drop (needed size file) free p (later.left p has) }

length-laid_records : (size : ℕ) (records : List Record) (free : List ℕ) (files : List Sorted) → length (laid_records size records free files) ≡ length files
length-laid_records size records free [] = refl
length-laid_records size records free (file ∷ files) = ap (λ (n : ℕ). suc n) (length-laid_records size records (drop (needed size file) free) files)

module _ (finds : FindsCells) (only : IsOnlyCell) (none : IsNoCell) (size : ℕ) (column : Column) (once : AllPairs (λ a b. a ≢ b) (positions_of (column_blocks column))) (files : List Sorted) (sizes : All (KeepsSize column.records) files)
    (stripe : ℕ) (not_given : ¬ (Contains (given size column files) stripe)) (not_freed : ¬ (Contains (freed column files) stripe)) where
  abbrev laid : Column
  laid = laid_column size column files

  abbrev records : List Record
  records = column.records

  abbrev none_sorted : Sorted
  none_sorted = record { path = []; meta = no_record.meta; fate = New }

  -- a block that stands there stood there
  block_was : (cell : Cell) → IsAt laid stripe cell.rec cell.index → SameBlock (Some (cell_seen laid cell)) (cell_view column stripe)
  block_was cell at = by_origin (origin file.fate) refl
    where
      r : ℕ
      r = cell.rec

      r_in : r < length files
      r_in = omega (arith, at.within, length-laid_records size records (given size column files) files)

      file : Sorted
      file = get_or files cell.rec none_sorted

      here : IsLaidAt size records (given size column files) files cell.rec none_sorted
      here = laid_at size records (given size column files) files cell.rec none_sorted r_in

      by_origin : (o : Option ℕ) → origin file.fate ≡ o → SameBlock (Some (cell_seen laid cell)) (cell_view column stripe)
      by_origin None is = absurd (not_given (here.left stripe among))
        where
          blocks_are : (record_in laid cell.rec).blocks ≡ bare (take (block_count size file.meta.size) here.rest)
          blocks_are = ap (λ (kept : Record). kept.blocks) here.is ∙ ap (blocks_by records here.rest (block_count size file.meta.size)) is

          among : Contains here.rest stripe
          among =
              let few : List ℕ = take (block_count size file.meta.size) here.rest in
              let inside : cell.index < length (bare few) = subst (λ (blocks : List Block). cell.index < length blocks) blocks_are at.index_within in
              let long : length (bare few) ≡ length few = length-map few _ in
              let position : (get_or (bare few) cell.index no_block).position ≡ stripe = subst (λ (blocks : List Block). (get_or blocks cell.index no_block).position ≡ stripe) blocks_are at.position_is in
              let bare_is : (get_or (bare few) cell.index no_block).position ≡ get_or few cell.index stripe = ap (λ (block : Block). block.position) (get_or-map _ few cell.index stripe no_block (omega (arith, inside, long))) in
              contains_first here.rest (block_count size file.meta.size) stripe (cell.index, omega (arith, inside, long), sym bare_is ∙ position)
      by_origin (Some i) is = by_view
        where
          kept : Record
          kept = record_of records i

          blocks_are : (record_in laid cell.rec).blocks ≡ kept.blocks
          blocks_are = ap (λ (one : Record). one.blocks) here.is ∙ ap (blocks_by records here.rest (block_count size file.meta.size)) is

          inside : cell.index < length kept.blocks
          inside = subst (λ (blocks : List Block). cell.index < length blocks) blocks_are at.index_within

          i_in : i < length records
          i_in = elim (cases_lt i (length records)) [
            | inl within ↦ within
            | inr past ↦ let gone : length kept.blocks ≡ 0 = ap (λ (one : Record). length one.blocks) (get_or_past records i no_record past) in absurd (omega (arith, gone, inside))
          ]

          was : IsAt column stripe i cell.index
          was = record { within = i_in; index_within = inside; position_is = subst (λ (blocks : List Block). (get_or blocks cell.index no_block).position ≡ stripe) blocks_are at.position_is }

          old_cell : cell_in column stripe ≡ Some (record { rec = i; index = cell.index })
          old_cell = only column stripe (record { rec = i; index = cell.index }) once was

          by_view : SameBlock (Some (cell_seen laid cell)) (cell_view column stripe)
          by_view = subst (λ (found : Option Cell). SameBlock (Some (cell_seen laid cell)) (option_map (cell_seen column) found)) (sym old_cell)
              (ap (λ (one : Record). one.meta.size) here.is ∙ sym (sizes cell.rec none_sorted r_in i is), refl, ap (λ (blocks : List Block). (get_or blocks cell.index no_block).hash) blocks_are)

  -- one that stood there stands there
  block_stands : (cell : Cell) → cell_in column stripe ≡ Some cell → cell_in laid stripe ≡ None → ⊥
  block_stands cell is gone = none laid stripe gone one.at index (record {
    within = omega (arith, one.within, length-laid_records size records (given size column files) files);
    index_within = subst (λ (blocks : List Block). index < length blocks) (sym blocks_are) index_in;
    position_is = subst (λ (blocks : List Block). (get_or blocks index no_block).position ≡ stripe) (sym blocks_are) stands;
  })
    where
      at : IsAt column stripe cell.rec cell.index
      at = finds column stripe cell is

      block : Block
      block = block_in (record_in column cell.rec) cell.index

      in_column : Contains (positions_of (column_blocks column)) stripe
      in_column = contains_positions (column_blocks column) stripe block at.position_is
          (contains_joined (λ (kept : Record). kept.blocks) records cell.rec no_record block at.within (cell.index, at.index_within, get_or_default (record_in column cell.rec).blocks cell.index block no_block at.index_within))

      is_taken : contains (taken records files) stripe ≡ true
      is_taken = true_from_ne_false (contains (taken records files) stripe) (λ out.
          not_freed (contains_kept (λ (p : ℕ). not (contains (taken records files) p)) (positions_of (column_blocks column)) stripe in_column (ap (λ (b : Bool). not b) out)))

      stays : Contains (staying records files) stripe
      stays = any_contains (staying records files) stripe (sym (contains-from_list_nat (staying records files) stripe) ∙ is_taken)

      stay_blocks : List Block
      stay_blocks = flat_map (λ (file : Sorted). kept_blocks records (origin file.fate)) files

      place_in : stays.0 < length stay_blocks
      place_in = omega (arith, stays.1, length-map stay_blocks (λ (b : Block). b.position))

      found : Block
      found = get_or stay_blocks stays.0 no_block

      found_at : found.position ≡ stripe
      found_at = sym (get_or-map (λ (b : Block). b.position) stay_blocks stays.0 no_block stripe place_in) ∙ stays.2

      one : IsGivenBy (λ (file : Sorted). kept_blocks records (origin file.fate)) files none_sorted found
      one = given_by_one (λ (file : Sorted). kept_blocks records (origin file.fate)) files none_sorted found (stays.0, place_in, get_or_default stay_blocks stays.0 found no_block place_in)

      index : ℕ
      index = one.has.0

      file : Sorted
      file = get_or files one.at none_sorted

      here : IsLaidAt size records (given size column files) files one.at none_sorted
      here = laid_at size records (given size column files) files one.at none_sorted one.within

      kept_are : (o : Option ℕ) → origin file.fate ≡ o → index < length (kept_blocks records o) → blocks_by records here.rest (block_count size file.meta.size) o ≡ kept_blocks records o
      kept_are None o_is within = absurd (omega (arith, within))
      kept_are (Some i) o_is within = refl

      blocks_are : (record_in laid one.at).blocks ≡ kept_blocks records (origin file.fate)
      blocks_are = ap (λ (kept : Record). kept.blocks) here.is ∙ kept_are (origin file.fate) refl one.has.1

      index_in : index < length (kept_blocks records (origin file.fate))
      index_in = one.has.1

      stands : (get_or (kept_blocks records (origin file.fate)) index no_block).position ≡ stripe
      stands = ap (λ (b : Block). b.position) (get_or_default (kept_blocks records (origin file.fate)) index no_block found one.has.1 ∙ one.has.2) ∙ found_at

  pub column_keeps : SameBlock (cell_view laid stripe) (cell_view column stripe)
  column_keeps = by_new (cell_in laid stripe) refl
    where
      by_old : (found : Option Cell) → cell_in column stripe ≡ found → cell_in laid stripe ≡ None → SameBlock None (option_map (cell_seen column) found)
      by_old None is gone = tt
      by_old (Some cell) is gone = block_stands cell is gone

      by_new : (found : Option Cell) → cell_in laid stripe ≡ found → SameBlock (option_map (cell_seen laid) found) (cell_view column stripe)
      by_new None is = by_old (cell_in column stripe) refl is
      by_new (Some cell) is = block_was cell (finds laid stripe cell is)

-- ---- the table

module _ (finds : FindsCells) (only : IsOnlyCell) (none : IsNoCell) (old : TableValue) (valid : IsValid old) (kept : List (List ListedFile)) where
  abbrev files : List (List Sorted)
  files = all_sorted old kept

  abbrev new : TableValue
  new = layout old kept

  abbrev count : ℕ
  count = length old.columns

  new_long : length new.columns ≡ count
  new_long = length-map-range_with_len (column_laid old files) 0 count

  zero_more : (n : ℕ) → 0 + n ≡ n
  zero_more n = omega arith

  abbrev ends : ℕ
  ends = end_of (positions_of (blocks_of new.columns))

  infos_long : length new.infos ≡ ends
  infos_long = length-map-range_with_len (laid_info old (all_touched old files)) 0 ends

  module _ (stripe : ℕ) (synced : IsMarkedSynced new stripe) where
    info_is : info_at new.infos stripe ≡ laid_info old (all_touched old files) stripe
    info_is = get_or-map-range_with_len (laid_info old (all_touched old files)) 0 ends stripe stripe no_info (omega (arith, synced.within, infos_long)) (zero_more stripe)

    as_before : is_as_before old (all_touched old files) stripe ≡ true
    as_before = true_from_ne_false (is_as_before old (all_touched old files) stripe) (λ other.
        pending_not (ap (λ (info : Info). info.mark) (sym (info_is ∙ ap (λ (b : Bool). if b then info_at old.infos stripe else no_info) other)) ∙ synced.mark))
      where
        pending_not : no_info.mark ≡ Synced → ⊥
        pending_not is = cc

    was_synced : IsMarkedSynced old stripe
    was_synced = record {
      within = ltb-true stripe (length old.infos) (and_parts (nat_lt stripe (length old.infos)) (not (list_any (λ (p : ℕ). nat_eq p stripe) (all_touched old files))) as_before).0;
      mark = ap (λ (info : Info). info.mark) (sym (info_is ∙ ap (λ (b : Bool). if b then info_at old.infos stripe else no_info) as_before)) ∙ synced.mark;
    }

    untouched : Contains (all_touched old files) stripe → ⊥
    untouched has = both_ways (list_any (λ (p : ℕ). nat_eq p stripe) (all_touched old files))
        (not-true (list_any (λ (p : ℕ). nat_eq p stripe) (all_touched old files)) (and_parts (nat_lt stripe (length old.infos)) (not (list_any (λ (p : ℕ). nat_eq p stripe) (all_touched old files))) as_before).1)
        (contains_any (all_touched old files) stripe has)

    module _ (d : ℕ) (below : d < count) where
      abbrev column : Column
      column = column_at old.columns d

      abbrev its_files : List Sorted
      its_files = get_or files d []

      touched_here : Contains (touched old.shape.block_size column its_files) stripe → ⊥
      touched_here has =
          let long : length (range_with_len 0 count) ≡ count = length-range_with_len 0 count in
          let at : get_or (range_with_len 0 count) d d ≡ d = get_or-range_with_len 0 count d d below ∙ zero_more d in
          untouched (contains_joined (touched_at old files) (range_with_len 0 count) d d stripe (omega (arith, below, long)) (subst (λ (k : ℕ). Contains (touched_at old files k) stripe) (sym at) has))

      files_are : its_files ≡ sorted_files column.records (get_or kept d [])
      files_are = get_or-map-range_with_len (sorted_at old kept) 0 count d d [] below (zero_more d)

      keeps_here : SameBlock (cell_view (laid_column old.shape.block_size column its_files) stripe) (cell_view column stripe)
      keeps_here = column_keeps finds only none old.shape.block_size column (valid.columns.each d no_column below).once its_files
          (subst (All (KeepsSize column.records)) (sym files_are) (sizes_keep column.records (get_or kept d []))) stripe
          (λ has. touched_here (contains_left (given old.shape.block_size column its_files) (freed column its_files) stripe has))
          (λ has. touched_here (contains_right (given old.shape.block_size column its_files) (freed column its_files) stripe has))

      new_column : column_at new.columns d ≡ laid_column old.shape.block_size column its_files
      new_column = get_or-map-range_with_len (column_laid old files) 0 count d d no_column below (zero_more d)

      block_keeps : SameBlock (get_or (stripe_view new stripe).cells d None) (get_or (stripe_view old stripe).cells d None)
      block_keeps =
          let view : Column → Option CellView = λ (c : Column). cell_view c stripe in
          let of_new : get_or (stripe_view new stripe).cells d None ≡ cell_view (laid_column old.shape.block_size column its_files) stripe =
          get_or-map view new.columns d no_column None (omega (arith, below, new_long)) ∙ ap view new_column in
          let of_old : get_or (stripe_view old stripe).cells d None ≡ cell_view column stripe = get_or-map view old.columns d no_column None below in
          subst (λ (one : Option CellView). SameBlock one (get_or (stripe_view old stripe).cells d None)) (sym of_new)
          (subst (SameBlock (cell_view (laid_column old.shape.block_size column its_files) stripe)) (sym of_old) keeps_here)

  pub layout_keeps : KeepsStripes new old
  layout_keeps = record {
    shape = refl;
    columns = new_long;
    synced = was_synced;
    blocks = λ stripe d synced below. block_keeps stripe synced d (omega (arith, below, new_long));
  }
