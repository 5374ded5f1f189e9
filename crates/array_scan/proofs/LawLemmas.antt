-- A table whose records are just the kept files is laid out as it is.
use Rattle.std.proofs.Common.{◌≡◌, ℕ, zero, suc, ◌+◌, ◌<◌, ◌≤◌, ◌==◌, ◌&&◌, ◌||◌, List, [], ◌∷◌, ◌++◌, length, map, get_or, filter, cond, not, Bool, true, false, refl, sym, ap, ◌∙◌, subst, arith, nat_eq, nat_lt, All, AllPairs, Option, None, Some, inl, inr, length-append}
use Rattle.std.specs.List.{flat_map, list_any, range_with_len}
use Rattle.std.specs.Option.{option_map}
use Rattle.std.specs.Ordering.{nat_cmp, int_eq}
use Rattle.std.specs.Cmp.{tied_itself}
use Rattle.std.proofs.lemmas.Cmp.{nat_list_cmp_total}
use Rattle.std.specs.Cmp.Lexicographic.{slice_cmp}
use Rattle.std.specs.declared.cmp.Ordering.TheVariants.{Less, Equal}
use Rattle.std.specs.FinSet.{FinSet, contains, contains-from_list_nat}
use Rattle.std.proofs.lemmas.Bool.{cases_lt, eq-eqb, lt-ltb}
use Rattle.std.proofs.lemmas.Bool.Decides.{Decides-int_eq, nat_tests}
use Rattle.std.proofs.lemmas.List.{length-map, get_or-map}
use Rattle.std.proofs.lemmas.List.FromFn.{fill_by_all, length-map-range_with_len, get_or-map-range_with_len}
use Rattle.std.proofs.lemmas.List.Elements.{All-head, All-tail}
use Rattle.std.proofs.lemmas.List.Sums.{sum_by-cons, sum_by-append}
use Rattle.disk_model.specs.declared.meta.Meta.{Meta}
use Rattle.file_table.specs.declared.block.Block.{Block}
use Rattle.file_table.specs.declared.info.Info.{Info}
use Rattle.file_table.specs.Table.{Record, Column, TableValue, column_at, records_of, column_blocks, blocks_of, positions_of, blocks_due, block_count, end_of, info_at, no_meta, no_record, no_column, no_info}
use Rattle.file_table.specs.Valid.{IsValid, IsColumn, ComesBefore, most_blocks, most_records}
use Rattle.array_scan.specs.declared.fault.ScanFault.{ScanFault}
use Rattle.array_scan.specs.declared.fault.ScanFault.TheVariants.{Zeroed, Emptied, Full}
use Rattle.array_scan.specs.declared.sorting.Fate.{Fate}
use Rattle.array_scan.specs.declared.sorting.Fate.TheVariants.{Unchanged}
use Rattle.array_scan.specs.declared.sorting.Sorted.{Sorted}
use Rattle.folder_listing.specs.Kept.{ListedFile}
use Rattle.array_scan.specs.Fates.{record_of, file_of, record_with, fate_with, fate_by, fate_of, source_of, sorted_file, sorted_files, origin}
use Rattle.folder_listing.specs.Kept.{same_meta}
use Rattle.array_scan.specs.Laying.{kept_blocks, staying, taken, needed, all_needed, free_positions, given, laid_records, laid_column, freed, touched}
use Rattle.array_scan.specs.Layout.{sorted_at, all_sorted, column_laid, columns_laid, touched_at, all_touched, laid_info, layout}
use Rattle.array_scan.specs.Refusals.{or_else, first_some, first_zeroed, zeroed_at, is_emptied, emptied_at, size_of, blocks_in, files_in, capped, full, unless, in_columns, refusal}
use Rattle.array_scan.specs.Own.{own_files, HoldsJust}
use Rattle.array_scan.proofs.FatesLemmas.{record_found}

-- ---- the fates of a column's own files

itself : (a : Meta) → same_meta a a ≡ true
itself a =
    ap (λ (t : Bool). (t && int_eq a.stamp.seconds a.stamp.seconds) && (a.stamp.nanos == a.stamp.nanos)) (eq-eqb a.size a.size refl)
    ∙ ap (λ (t : Bool). t && (a.stamp.nanos == a.stamp.nanos)) ((Decides-int_eq a.stamp.seconds a.stamp.seconds).1 refl)
    ∙ eq-eqb a.stamp.nanos a.stamp.nanos refl

pub own_at : (records : List Record) (k : ℕ) → k < length records → file_of (own_files records) k ≡ ((record_of records k).path, (record_of records k).meta)
own_at records k within = get_or-map (λ (kept : Record). (kept.path, kept.meta)) records k no_record ([], no_meta) within

-- no path is less than itself
not_less : (path : List ℕ) → slice_cmp nat_cmp path path ≡ Less → ⊥
not_less path less = let tied : slice_cmp nat_cmp path path ≡ Equal = tied_itself nat_list_cmp_total path in cc

one_place : (records : List Record) (i k : ℕ) → AllPairs ComesBefore records → i < length records → k < length records → (record_of records i).path ≡ (record_of records k).path → i ≡ k
one_place records i k order here there same =
    elim (cases_lt i k) [
      | inl less ↦ absurd (not_less (record_of records k).path (subst (λ (p : List ℕ). slice_cmp nat_cmp p (record_of records k).path ≡ Less) same (order i k no_record less there).less))
      | inr more ↦
          elim (cases_lt k i) [
            | inl less ↦ absurd (not_less (record_of records i).path (subst (λ (p : List ℕ). slice_cmp nat_cmp p (record_of records i).path ≡ Less) (sym same) (order k i no_record less here).less))
            | inr other ↦ omega arith
          ]
    ]

own_record : (column : Column) (k : ℕ) → AllPairs ComesBefore column.records → k < length column.records → record_with column.records (record_of column.records k).path ≡ Some k
own_record column k order within =
    sym (record_found column (record_of column.records k).path (Some k) (record { within = within; path_is = refl })
    (λ i has. ap Some (sym (one_place column.records i k order has.within within has.path_is))))

own_fate : (column : Column) (k : ℕ) → AllPairs ComesBefore column.records → k < length column.records → fate_of column.records (own_files column.records) k ≡ Unchanged k
own_fate column k order within =
    let records = column.records in
    let files = own_files records in
    let kept = record_of records k in
    let at = own_at records k within in
    ap (λ (f : ListedFile). fate_by records f.1 (record_with records f.0) (source_of records files k f.1)) at
    ∙ ap (λ (o : Option ℕ). fate_by records kept.meta o (source_of records files k kept.meta)) (own_record column k order within)
    ∙ ap (λ (t : Bool). fate_with t k) (itself kept.meta)

abbrev own_sorted : List Record → ℕ → Sorted
own_sorted records k = record { path = (record_of records k).path; meta = (record_of records k).meta; fate = Unchanged k }

pub length-own : (records : List Record) → length (own_files records) ≡ length records
length-own records = length-map records (λ (kept : Record). (kept.path, kept.meta))

-- two lists made of a number each are equal where the elements are
same_made : {X : Type 0} (f g : ℕ → X) (n : ℕ) (d : X) → ((k : ℕ) → k < n → f k ≡ g k) → map f (range_with_len 0 n) ≡ map g (range_with_len 0 n)
same_made f g n d same =
    fill_by_all g (map f (range_with_len 0 n)) n d (length-map-range_with_len f 0 n)
    (λ k below. get_or-map-range_with_len f 0 n k k d below (omega arith) ∙ same k below)

own_sorted_files : (column : Column) → AllPairs ComesBefore column.records → sorted_files column.records (own_files column.records) ≡ map (own_sorted column.records) (range_with_len 0 (length column.records))
own_sorted_files column order =
    let records = column.records in
    ap (λ (n : ℕ). map (sorted_file records (own_files records)) (range_with_len 0 n)) (length-own records)
    ∙ same_made (sorted_file records (own_files records)) (own_sorted records) (length records) (own_sorted records 0)
    (λ k below.
    ap (λ (f : ListedFile). record { path = f.0; meta = f.1; fate = fate_of records (own_files records) k }) (own_at records k below)
    ∙ ap (λ (f : Fate). record { path = (record_of records k).path; meta = (record_of records k).meta; fate = f }) (own_fate column k order below))

-- ---- where all files keep their blocks

-- made of numbers, each of these files is unchanged
none_needed : (block_size : ℕ) (records : List Record) (ks : List ℕ) → all_needed block_size (map (own_sorted records) ks) ≡ 0
none_needed block_size records [] = refl
none_needed block_size records (k ∷ ks) =
    let here : needed block_size (own_sorted records k) ≡ 0 = refl in
    omega (arith, here, sum_by-cons (needed block_size) (own_sorted records k) (map (own_sorted records) ks), none_needed block_size records ks)

laid_own : (block_size : ℕ) (records : List Record) (ks : List ℕ) → laid_records block_size records [] (map (own_sorted records) ks) ≡ map (record_of records) ks
laid_own block_size records [] = refl
laid_own block_size records (k ∷ ks) = ap (λ (rs : List Record). record_of records k ∷ rs) (laid_own block_size records ks)

all_records : (records : List Record) → map (record_of records) (range_with_len 0 (length records)) ≡ records
all_records records = sym (fill_by_all (record_of records) records (length records) no_record refl (λ k below. refl))

staying_own : (records : List Record) (ks : List ℕ) → staying records (map (own_sorted records) ks) ≡ positions_of (flat_map (λ (kept : Record). kept.blocks) (map (record_of records) ks))
staying_own records ks = ap positions_of (flat ks)
  where
    flat : (ks : List ℕ) → flat_map (λ (file : Sorted). kept_blocks records (origin file.fate)) (map (own_sorted records) ks) ≡ flat_map (λ (kept : Record). kept.blocks) (map (record_of records) ks)
    flat [] = refl
    flat (k ∷ ks) = ap (λ (bs : List Block). (record_of records k).blocks ++ bs) (flat ks)

-- none of a set's numbers is outside it
or_true : (t : Bool) → (t || true) ≡ true
or_true true = refl
or_true false = refl

none_outside : (list : FinSet nat_cmp) (ps : List ℕ) → ((p : ℕ) → list_any (λ y. nat_eq y p) ps ≡ true → contains list p ≡ true) → filter (λ p. not (contains list p)) ps ≡ []
none_outside list [] each = refl
none_outside list (p ∷ ps) each =
    ap (λ (t : Bool). cond (not t) (p ∷ filter (λ q. not (contains list q)) ps) (filter (λ q. not (contains list q)) ps)) (each p (ap (λ (t : Bool). t || list_any (λ y. nat_eq y p) ps) (eq-eqb p p refl)))
    ∙ none_outside list ps (λ q there. each q (ap (λ (t : Bool). nat_eq p q || t) there ∙ or_true (nat_eq p q)))

-- ---- a column

own_column : (block_size : ℕ) (column : Column) → AllPairs ComesBefore column.records → (laid_column block_size column (sorted_files column.records (own_files column.records)) ≡ column)
    × (touched block_size column (sorted_files column.records (own_files column.records)) ≡ [])
own_column block_size column order =
    let records = column.records in
    let ks = range_with_len 0 (length records) in
    let sorted = own_sorted_files column order in
    let files = map (own_sorted records) ks in
    let bare : given block_size column files ≡ [] = ap (free_positions (taken records files)) (none_needed block_size records ks) in
    let laid : laid_records block_size records (given block_size column files) files ≡ records = ap (λ (free : List ℕ). laid_records block_size records free files) bare ∙ laid_own block_size records ks ∙ all_records records in
    let stay : staying records files ≡ positions_of (column_blocks column) = staying_own records ks ∙ ap (λ (rs : List Record). positions_of (flat_map (λ (kept : Record). kept.blocks) rs)) (all_records records) in
    let inside : freed column files ≡ [] = none_outside (taken records files) (positions_of (column_blocks column))
    (λ p there. contains-from_list_nat (staying records files) p ∙ ap (list_any (λ y. nat_eq y p)) stay ∙ there) in (
      ap (laid_column block_size column) sorted ∙ ap (λ (rs : List Record). record { name = column.name; records = rs }) laid,
      ap (touched block_size column) sorted ∙ ap (λ (free : List ℕ). free ++ freed column files) bare ∙ inside,
    )

-- ---- all columns

column_order : (table : TableValue) (d : ℕ) → IsValid table → d < length table.columns → AllPairs ComesBefore (column_at table.columns d).records
column_order table d valid below = let is : IsColumn (length table.infos) (column_at table.columns d) = valid.columns.each d no_column below in is.order

order_of : (table : TableValue) (d : ℕ) (e : Column) → IsValid table → d < length table.columns → AllPairs ComesBefore (get_or table.columns d e).records
order_of table d e valid below = let is : IsColumn (length table.infos) (get_or table.columns d e) = valid.columns.each d e below in is.order

sorted_each : (table : TableValue) (kept : List (List ListedFile)) (d : ℕ) → d < length table.columns → get_or (all_sorted table kept) d [] ≡ sorted_at table kept d
sorted_each table kept d below = get_or-map-range_with_len (sorted_at table kept) 0 (length table.columns) d d [] below (omega arith)

own_sorted_at : (table : TableValue) (kept : List (List ListedFile)) (d : ℕ) → HoldsJust table kept → d < length table.columns
    → get_or (all_sorted table kept) d [] ≡ sorted_files (column_at table.columns d).records (own_files (column_at table.columns d).records)
own_sorted_at table kept d holds below = sorted_each table kept d below ∙ ap (sorted_files (column_at table.columns d).records) (holds.each d below)

own_columns : (table : TableValue) (kept : List (List ListedFile)) → IsValid table → HoldsJust table kept → columns_laid table (all_sorted table kept) ≡ table.columns
own_columns table kept valid holds =
    sym (fill_by_all (column_laid table (all_sorted table kept)) table.columns (length table.columns) no_column refl
    (λ d below.
    sym (ap (laid_column table.shape.block_size (column_at table.columns d)) (own_sorted_at table kept d holds below)
    ∙ (own_column table.shape.block_size (column_at table.columns d) (column_order table d valid below)).0)))

none_in_any : (f : ℕ → List ℕ) (from n : ℕ) → ((d : ℕ) → from ≤ d → d < from + n → f d ≡ []) → flat_map f (range_with_len from n) ≡ []
none_in_any f from zero none = refl
none_in_any f from (suc n) none =
    ap (λ (first : List ℕ). first ++ flat_map f (range_with_len (from + 1) n)) (none from (omega arith) (omega arith))
    ∙ none_in_any f (from + 1) n (λ d low high. none d (omega arith) (omega arith))

own_touched : (table : TableValue) (kept : List (List ListedFile)) → IsValid table → HoldsJust table kept → all_touched table (all_sorted table kept) ≡ []
own_touched table kept valid holds =
    none_in_any (touched_at table (all_sorted table kept)) 0 (length table.columns)
    (λ d low high.
    let below : d < length table.columns = omega arith in
    ap (touched table.shape.block_size (column_at table.columns d)) (own_sorted_at table kept d holds below)
    ∙ (own_column table.shape.block_size (column_at table.columns d) (column_order table d valid below)).1)

own_infos : (table : TableValue) → map (laid_info table []) (range_with_len 0 (length table.infos)) ≡ table.infos
own_infos table =
    sym (fill_by_all (laid_info table []) table.infos (length table.infos) no_info refl
    (λ s below. sym (ap (λ (t : Bool). cond (t && true) (info_at table.infos s) no_info) (lt-ltb s (length table.infos) below))))

pub own_layout : (table : TableValue) (kept : List (List ListedFile)) → IsValid table → HoldsJust table kept → layout table kept ≡ table
own_layout table kept valid holds =
    ap (λ (columns : List Column). record { shape = table.shape; columns = columns; infos = map (laid_info table (all_touched table (all_sorted table kept))) (range_with_len 0 (end_of (positions_of (blocks_of columns)))) })
    (own_columns table kept valid holds)
    ∙ ap (λ (n : ℕ). record { shape = table.shape; columns = table.columns; infos = map (laid_info table (all_touched table (all_sorted table kept))) (range_with_len 0 n) }) (sym valid.length_is)
    ∙ ap (λ (ps : List ℕ). record { shape = table.shape; columns = table.columns; infos = map (laid_info table ps) (range_with_len 0 (length table.infos)) }) (own_touched table kept valid holds)
    ∙ ap (λ (infos : List Info). record { shape = table.shape; columns = table.columns; infos = infos }) (own_infos table)

-- ---- no refusal

none_in_columns : (fault : ℕ → Option ScanFault) (from n : ℕ) → ((d : ℕ) → from ≤ d → d < from + n → fault d ≡ None) → first_some (map fault (range_with_len from n)) ≡ None
none_in_columns fault from zero none = refl
none_in_columns fault from (suc n) none =
    ap (λ (o : Option ScanFault). or_else o (first_some (map fault (range_with_len (from + 1) n)))) (none from (omega arith) (omega arith))
    ∙ none_in_columns fault (from + 1) n (λ d low high. none d (omega arith) (omega arith))

none_zeroed : (records : List Record) (ks : List ℕ) → first_zeroed records (map (own_sorted records) ks) ≡ None
none_zeroed records [] = refl
none_zeroed records (k ∷ ks) = none_zeroed records ks

not_emptied : (records : List Record) → is_emptied records (map (own_sorted records) (range_with_len 0 (length records))) ≡ false
not_emptied [] = refl
not_emptied (kept ∷ records) = and_false (nat_lt 0 (length (kept ∷ records)))
  where
    and_false : (t : Bool) → (t && false) ≡ false
    and_false true = refl
    and_false false = refl

own_size : (block_size : ℕ) (records : List Record) (ks : List ℕ) → size_of block_size (map (own_sorted records) ks) ≡ blocks_due block_size (map (record_of records) ks)
own_size block_size records [] = refl
own_size block_size records (k ∷ ks) =
    sum_by-cons (λ (file : Sorted). block_count block_size file.meta.size) (own_sorted records k) (map (own_sorted records) ks)
    ∙ ap (λ (n : ℕ). block_count block_size (record_of records k).meta.size + n) (own_size block_size records ks)
    ∙ sym (sum_by-cons (λ (kept : Record). block_count block_size kept.meta.size) (record_of records k) (map (record_of records) ks))

own_column_size : (block_size : ℕ) (column : Column) → AllPairs ComesBefore column.records
    → (size_of block_size (sorted_files column.records (own_files column.records)) ≡ blocks_due block_size column.records) × (length (sorted_files column.records (own_files column.records)) ≡ length column.records)
own_column_size block_size column order =
    let records = column.records in
    let ks = range_with_len 0 (length records) in (
      ap (size_of block_size) (own_sorted_files column order) ∙ own_size block_size records ks ∙ ap (blocks_due block_size) (all_records records),
      ap length (own_sorted_files column order) ∙ length-map-range_with_len (own_sorted records) 0 (length records),
    )

due-append : (block_size : ℕ) (records more : List Record) → blocks_due block_size (records ++ more) ≡ blocks_due block_size records + blocks_due block_size more
due-append block_size records more = sum_by-append (λ (kept : Record). block_count block_size kept.meta.size) records more

-- as many blocks and files as the records have
sizes : (block_size : ℕ) (columns : List Column) → All (λ (column : Column). AllPairs ComesBefore column.records) columns
    → (blocks_in block_size (map (λ (column : Column). sorted_files column.records (own_files column.records)) columns) ≡ blocks_due block_size (records_of columns))
    × (files_in (map (λ (column : Column). sorted_files column.records (own_files column.records)) columns) ≡ length (records_of columns))
sizes block_size [] order = (refl, refl)
sizes block_size (column ∷ columns) order =
    let own : Column → List Sorted = λ c. sorted_files c.records (own_files c.records) in
    let rest = sizes block_size columns (All-tail (λ (c : Column). AllPairs ComesBefore c.records) column columns order) in
    let here = own_column_size block_size column (All-head (λ (c : Column). AllPairs ComesBefore c.records) column columns order) in (
      omega (arith, sum_by-cons (size_of block_size) (own column) (map own columns), rest.0, here.0, due-append block_size column.records (records_of columns)),
      omega (arith, sum_by-cons (λ (files : List Sorted). length files) (own column) (map own columns), rest.1, here.1, length-append column.records (records_of columns)),
    )

own_all_sorted : (table : TableValue) (kept : List (List ListedFile)) → HoldsJust table kept → all_sorted table kept ≡ map (λ (column : Column). sorted_files column.records (own_files column.records)) table.columns
own_all_sorted table kept holds =
    let own : Column → List Sorted = λ c. sorted_files c.records (own_files c.records) in
    sym (fill_by_all (sorted_at table kept) (map own table.columns) (length table.columns) [] (length-map table.columns own)
    (λ d below. get_or-map own table.columns d no_column [] below ∙ ap (sorted_files (column_at table.columns d).records) (sym (holds.each d below))))

not_full : (table : TableValue) (files : List (List Sorted)) → blocks_in table.shape.block_size files ≤ most_blocks → files_in files ≤ most_records → full table files ≡ None
not_full table files few_blocks few_files =
    let blocks : nat_lt most_blocks (blocks_in table.shape.block_size files) ≡ false = not_lt most_blocks (blocks_in table.shape.block_size files) few_blocks in
    let many : nat_lt most_records (files_in files) ≡ false = not_lt most_records (files_in files) few_files in
    ap (λ (t : Bool). cond (t || nat_lt most_records (files_in files)) (Some (Full (capped (blocks_in table.shape.block_size files)) (capped (files_in files)))) None) blocks
    ∙ ap (λ (t : Bool). cond t (Some (Full (capped (blocks_in table.shape.block_size files)) (capped (files_in files)))) None) many
  where
    not_lt : (a b : ℕ) → b ≤ a → nat_lt a b ≡ false
    not_lt a b le = grind (arith, nat_tests)

pub own_unrefused : (force_zero force_empty : Bool) (table : TableValue) (kept : List (List ListedFile)) → IsValid table → HoldsJust table kept → refusal force_zero force_empty table (all_sorted table kept) ≡ None
own_unrefused force_zero force_empty table kept valid holds =
    let files = all_sorted table kept in
    let zeroed : in_columns table (zeroed_at table files) ≡ None = none_in_columns (zeroed_at table files) 0 (length table.columns)
    (λ d low high.
    let below : d < length table.columns = omega arith in
    let column = column_at table.columns d in
    ap (λ (fs : List Sorted). option_map (λ (rec : ℕ). Zeroed d rec) (first_zeroed column.records fs)) (own_sorted_at table kept d holds below ∙ own_sorted_files column (column_order table d valid below))
    ∙ ap (option_map (λ (rec : ℕ). Zeroed d rec)) (none_zeroed column.records (range_with_len 0 (length column.records)))) in
    let emptied : in_columns table (emptied_at table files) ≡ None = none_in_columns (emptied_at table files) 0 (length table.columns)
    (λ d low high.
    let below : d < length table.columns = omega arith in
    let column = column_at table.columns d in
    ap (λ (fs : List Sorted). cond (is_emptied column.records fs) (Some (Emptied d)) None) (own_sorted_at table kept d holds below ∙ own_sorted_files column (column_order table d valid below))
    ∙ ap (λ (t : Bool). cond t (Some (Emptied d)) None) (not_emptied column.records)) in
    let counts = sizes table.shape.block_size table.columns (λ d e below. order_of table d e valid below) in
    let few_blocks : blocks_in table.shape.block_size files ≤ most_blocks = omega (arith, ap (blocks_in table.shape.block_size) (own_all_sorted table kept holds), counts.0, valid.columns.few_blocks) in
    let few_files : files_in files ≤ most_records = omega (arith, ap files_in (own_all_sorted table kept holds), counts.1, valid.columns.few_records) in
    three force_zero force_empty (in_columns table (zeroed_at table files)) (in_columns table (emptied_at table files)) (full table files) zeroed emptied (not_full table files few_blocks few_files)
  where
    none_unless : (t : Bool) (o : Option ScanFault) → o ≡ None → unless t o ≡ None
    none_unless true o is = refl
    none_unless false o is = is

    three : (s t : Bool) (a b c : Option ScanFault) → a ≡ None → b ≡ None → c ≡ None → or_else (unless s a) (or_else (unless t b) c) ≡ None
    three s t a b c first second third =
        ap (λ (o : Option ScanFault). or_else o (or_else (unless t b) c)) (none_unless s a first)
        ∙ ap (λ (o : Option ScanFault). or_else o c) (none_unless t b second) ∙ third
