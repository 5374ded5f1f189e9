-- The layout of a valid table over kept files is a valid table, where it does not pass the limits.
use Rattle.std.proofs.Common.{◌≡◌, ◌≢◌, ℕ, zero, suc, ◌+◌, ◌-◌, ◌<◌, ◌≤◌, ◌&&◌, ◌||◌, max, List, [], ◌∷◌, ◌++◌, length, map, get_or, cond, not, Bool, true, false, refl, sym, ap, ◌∙◌, subst, arith, nat_eq, nat_lt, sum_by, append_assoc, All, AllPairs, Option, None, Some, IsSome}
use Rattle.std.specs.List.{flat_map, range_with_len, list_any, Contains}
use Rattle.std.specs.FinSet.{contains, len}
use Rattle.std.proofs.lemmas.Bool.{eq-eqb}
use Rattle.std.proofs.lemmas.Bool.Decides.{Decides-ltb, Decides-eqb}
use Rattle.std.proofs.lemmas.Slice.Eq.{starts_is}
use Rattle.std.proofs.lemmas.List.{length-map, get_or-map, get_or_default}
use Rattle.std.proofs.lemmas.List.FromFn.{length-map-range_with_len, get_or-map-range_with_len}
use Rattle.std.proofs.lemmas.List.Elements.{All-nil, All-cons, All-head, All-tail, All-append, All-map, Contains-append_left, Contains-append_right}
use Rattle.std.proofs.lemmas.List.Folds.{list_any_at}
use Rattle.std.proofs.lemmas.List.Concat.{length-flat_map}
use Rattle.std.proofs.lemmas.List.Sums.{sum_by-cons, sum_by-append}
use Rattle.disk_model.specs.Path.{IsRecordPath, IsDirectoryOf}
use Rattle.disk_model.specs.Tree.{IsListedBefore, is_directory_of}
use Rattle.disk_model.specs.declared.meta.Meta.{Meta}
use Rattle.file_table.specs.declared.block.Block.{Block}
use Rattle.file_table.specs.declared.info.Info.{Info}
use Rattle.file_table.specs.declared.info.Mark.TheVariants.{Synced}
use Rattle.file_table.specs.Table.{Record, Column, TableValue, column_at, records_of, column_blocks, blocks_of, positions_of, blocks_due, block_count, end_of, info_at, no_meta, no_record, no_column, no_info}
use Rattle.file_table.specs.Valid.{IsValid, IsColumn, AreColumns, IsRecord, IsMeta, IsWhole, IsInfo, IsHashedAt, HasDigest, ComesBefore, most_blocks, most_records}
use Rattle.file_table.proofs.BuildingLemmas.{blocks_in}
use Rattle.file_table.proofs.PrefixLemmas.{All-left, All-right, positions_in}
use Rattle.array_scan.specs.declared.sorting.Sorted.{Sorted}
use Rattle.folder_listing.specs.Kept.{ListedFile}
use Rattle.disk_model.specs.Stamp.{IsStamp}
use Rattle.array_scan.specs.Fates.{record_of, file_of, sorted_file, sorted_files, IsSound, AreFates}
use Rattle.array_scan.specs.Laying.{staying, taken, needed, all_needed, given, bare_block, laid_records, laid_column, freed, touched}
use Rattle.array_scan.specs.Layout.{sorted_at, all_sorted, column_laid, columns_laid, touched_at, all_touched, is_as_before, laid_info, layout}
use Rattle.array_scan.specs.Own.{own_files, AreKeptFiles, AreKept}
use Rattle.array_scan.specs.Refusals.{size_of, blocks_in as blocks_in_all, files_in}
use Rattle.array_scan.proofs.ApartLemmas.{Distinct, Apart}
use Rattle.array_scan.proofs.ColumnLemmas.{origin_within}
use Rattle.array_scan.proofs.OriginLemmas.{sorted_fates}
use Rattle.array_scan.proofs.PlacedLemmas.{kept_all, laid_all, laid_distinct, KeepsWhole, laid_whole, staying_count, staying_distinct, in_set, set_within, given_below, given_fresh, given_distinct}
use Rattle.array_scan.proofs.PlacingLemmas.{column_within}
use Rattle.array_scan.proofs.PushingLemmas.{length-free}
use Rattle.array_scan.proofs.SortedLemmas.{fate_within}
use Rattle.array_scan.proofs.TwiceLemmas.{laid_files, files_again, sorted_each}
use Rattle.folder_listing.proofs.JoinedLemmas.{all_flat, all_of_flat}

-- ---- lists that a function gives each element, joined

in_flat : {A : Type 0} (f : ℕ → List A) (from n d : ℕ) (x : A) → from ≤ d → d < from + n → Contains (f d) x → Contains (flat_map f (range_with_len from n)) x
in_flat f from zero d x low high there = absurd (omega arith)
in_flat f from (suc n) d x low high there =
    elim (Rattle.std.proofs.lemmas.Bool.cases_lt from d) [
      | Rattle.std.proofs.Common.inl later ↦ Contains-append_right (f from) (flat_map f (range_with_len (from + 1) n)) x (in_flat f (from + 1) n d x (omega arith) (omega arith) there)
      | Rattle.std.proofs.Common.inr here ↦
          let same : d ≡ from = omega arith in
          Contains-append_left (f from) (flat_map f (range_with_len (from + 1) n)) x (subst (λ (m : ℕ). Contains (f m) x) same there)
    ]

sum_flat : {X A : Type 0} (f : A → ℕ) (g : X → List A) (xs : List X) → sum_by f (flat_map g xs) ≡ sum_by (λ (x : X). sum_by f (g x)) xs
sum_flat f g [] = refl
sum_flat {X} f g (x ∷ xs) = omega (arith, sum_by-append f (g x) (flat_map g xs), sum_flat f g xs, sum_by-cons (λ (y : X). sum_by f (g y)) x xs)

sum_same : {X Y : Type 0} (f : X → ℕ) (g : Y → ℕ) (h : ℕ → X) (k : ℕ → Y) (from n : ℕ) → ((d : ℕ) → from ≤ d → d < from + n → f (h d) ≡ g (k d))
    → sum_by f (map h (range_with_len from n)) ≡ sum_by g (map k (range_with_len from n))
sum_same f g h k from zero same = refl
sum_same f g h k from (suc n) same =
    omega (
      arith,
      sum_by-cons f (h from) (map h (range_with_len (from + 1) n)),
      sum_by-cons g (k from) (map k (range_with_len (from + 1) n)),
      same from (omega arith) (omega arith),
      sum_same f g h k (from + 1) n (λ d low high. same d (omega arith) (omega arith)),
    )

-- ---- the end of some blocks

pub within_end : (blocks : List Block) → All (λ (b : Block). b.position < end_of (positions_of blocks)) blocks
within_end [] = All-nil (λ (b : Block). b.position < 0)
within_end (block ∷ blocks) =
    All-cons (λ (b : Block). b.position < end_of (positions_of (block ∷ blocks))) block blocks (omega arith) (λ k d inside. omega (arith, within_end blocks k d inside))

end_least : (blocks : List Block) (m : ℕ) → All (λ (b : Block). b.position < m) blocks → end_of (positions_of blocks) ≤ m
end_least [] m all = omega arith
end_least (block ∷ blocks) m all =
    omega (arith, All-head (λ (b : Block). b.position < m) block blocks all, end_least blocks m (All-tail (λ (b : Block). b.position < m) block blocks all))

-- ---- a column

not_directory : (earlier later : List ℕ) → is_directory_of earlier later ≡ false → ¬ (IsDirectoryOf earlier later)
not_directory earlier later is nested =
    let begins : is_directory_of earlier later ≡ true = (starts_is Decides-eqb later (earlier ++ 47 ∷ []) (is_directory_of earlier later) refl).1 nested.0 (nested.1 ∙ sym (append_assoc earlier (47 ∷ []) nested.0)) in
    cc

due_is : (size : ℕ) (records : List Record) (free : List ℕ) (files : List Sorted) → blocks_due size (laid_records size records free files) ≡ size_of size files
due_is size records free [] = refl
due_is size records free (file ∷ files) =
    let rest = laid_records size records (Rattle.std.proofs.Common.drop (needed size file) free) files in
    omega (
      arith,
      sum_by-cons (λ (r : Record). block_count size r.meta.size) (Rattle.array_scan.specs.Laying.laid_record size records free file) rest,
      sum_by-cons (λ (f : Sorted). block_count size f.meta.size) file files,
      due_is size records (Rattle.std.proofs.Common.drop (needed size file) free) files,
    )

count_is : (size : ℕ) (records : List Record) (free : List ℕ) (files : List Sorted) → length (laid_records size records free files) ≡ length files
count_is size records free [] = refl
count_is size records free (file ∷ files) = ap suc (count_is size records (Rattle.std.proofs.Common.drop (needed size file) free) files)

-- a file keeps as many blocks as its size asks for
pub keeps_whole : (old : TableValue) (d : ℕ) (files : List Sorted) → IsValid old → d < length old.columns → AreFates (column_at old.columns d).records files
    → All (IsSound (length (column_at old.columns d).records)) files → All (KeepsWhole old.shape.block_size (column_at old.columns d).records) files
keeps_whole old d files valid d_in fates sound k e within i is =
    let size = old.shape.block_size in
    let records = (column_at old.columns d).records in
    let there : i < length records = origin_within (length records) (get_or files k e).fate i (sound k e within).rec is in
    let whole : IsWhole size (record_of records i) = all_of_flat (IsWhole size) (λ (c : Column). c.records) old.columns valid.whole d no_column d_in i no_record there in
    whole ∙ ap (λ (m : Meta). block_count size m.size) (fates.same k e within i is)

-- the positions that are taken in the end are no more than the blocks
pub room_left : (size : ℕ) (records : List Record) (files : List Sorted) → All (KeepsWhole size records) files → len (taken records files) + all_needed size files ≤ size_of size files
room_left size records files keeps = omega (arith, set_within (staying records files), staying_count size records files keeps)

module _ (old : TableValue) (d : ℕ) (files : List ListedFile) (valid : IsValid old) (d_in : d < length old.columns) (kept : AreKeptFiles files) where
  abbrev column : Column
  column = column_at old.columns d

  abbrev size : ℕ
  size = old.shape.block_size

  abbrev sorted : List Sorted
  sorted = sorted_files column.records files

  abbrev free : List ℕ
  free = given size column sorted

  abbrev laid : Column
  laid = laid_column size column sorted

  is_column : IsColumn (length old.infos) column
  is_column = valid.columns.each d no_column d_in

  pub fates : AreFates column.records sorted
  fates = sorted_fates column.records files kept.order

  pub stay_once : Distinct (staying column.records sorted)
  stay_once = staying_distinct column.records sorted is_column.once fates.apart

  away : Apart (staying column.records sorted) free
  away p one two =
      let there : contains (taken column.records sorted) p ≡ true = in_set (staying column.records sorted) p one in
      let absent : contains (taken column.records sorted) p ≡ false = given_fresh (taken column.records sorted) (all_needed size sorted) p two in
      cc

  once : Distinct (positions_in laid.records)
  once = laid_distinct size column.records free sorted stay_once (given_distinct (taken column.records sorted) (all_needed size sorted)) away

  keeps : All (KeepsWhole size column.records) sorted
  keeps = keeps_whole old d sorted valid d_in fates (λ k e within.
      let below : k < length files = omega (arith, within, length-map-range_with_len (sorted_file column.records files) 0 (length files)) in
      let at = get_or-map-range_with_len (sorted_file column.records files) 0 (length files) k k e below (omega arith) in
      let stamp : IsStamp (file_of files k).1.stamp = (kept.metas k ([], no_meta) below).nanos in
      let here : IsSound (length column.records) (sorted_file column.records files k) = record { rec = fate_within column.records files k; stamp = stamp } in
      subst (IsSound (length column.records)) (sym at) here)

  pub all_whole : All (IsWhole size) laid.records
  all_whole = laid_whole size column.records free sorted keeps (length-free (taken column.records sorted) (all_needed size sorted))

  enough : len (taken column.records sorted) + all_needed size sorted ≤ size_of size sorted
  enough = room_left size column.records sorted keeps

  kept_below : (i : ℕ) → All (λ (b : Block). b.position < length old.infos) (record_of column.records i).blocks
  kept_below = kept_all (λ (b : Block). b.position < length old.infos) column.records
      (λ k e within.
      subst (λ (p : ℕ). p < length old.infos) (get_or-map (λ (b : Block). b.position) (column_blocks column) k e 0 within)
      (is_column.below k 0 (omega (arith, within, length-map (column_blocks column) (λ (b : Block). b.position)))))

  pub low : size_of size sorted ≤ most_blocks → All (λ (b : Block). b.position < most_blocks) (column_blocks laid)
  low few =
      laid_all (λ (b : Block). b.position < most_blocks) size column.records free sorted (λ i k e within. omega (arith, kept_below i k e within, valid.short))
      (λ k e within. omega (arith, given_below (taken column.records sorted) (all_needed size sorted) k e within, enough, few))

  digests : All HasDigest (blocks_in laid.records)
  digests =
      laid_all HasDigest size column.records free sorted
      (kept_all HasDigest column.records (all_flat HasDigest (λ (r : Record). r.blocks) column.records (λ k e within. (is_column.records k e within).digests)))
      (λ k e within. tt)

  -- the records are the files
  own : own_files laid.records ≡ files
  own = laid_files size column.records free sorted ∙ files_again column.records files

  file_is : (k : ℕ) (e : Record) → k < length laid.records → get_or files k ([], no_meta) ≡ ((get_or laid.records k e).path, (get_or laid.records k e).meta)
  file_is k e within = ap (λ (fs : List ListedFile). get_or fs k ([], no_meta)) (sym own) ∙ get_or-map (λ (r : Record). (r.path, r.meta)) laid.records k e ([], no_meta) within

  as_many : length laid.records ≡ length files
  as_many = sym (length-map laid.records (λ (r : Record). (r.path, r.meta))) ∙ ap length own

  records_are : All IsRecord laid.records
  records_are k e within =
      let below : k < length files = omega (arith, within, as_many) in
      let is = file_is k e within in
      record {
        path = subst (λ (f : ListedFile). IsRecordPath f.0) is (kept.paths k ([], no_meta) below);
        meta = subst (λ (f : ListedFile). IsMeta f.1) is (kept.metas k ([], no_meta) below);
        digests = all_of_flat HasDigest (λ (r : Record). r.blocks) laid.records digests k e within;
      }

  in_order : AllPairs ComesBefore laid.records
  in_order i j e less within =
      let below : j < length files = omega (arith, within, as_many) in
      let before : IsListedBefore (get_or laid.records i e).path (get_or laid.records j e).path =
      subst (λ (f : ListedFile). IsListedBefore (get_or laid.records i e).path f.0) (file_is j e within)
      (subst (λ (f : ListedFile). IsListedBefore f.0 (get_or files j ([], no_meta)).0) (file_is i e (omega arith)) (kept.order i j ([], no_meta) less below)) in
      record { less = before.less; not_nested = not_directory (get_or laid.records i e).path (get_or laid.records j e).path before.no_directory }

  pub IsColumn-laid : (n : ℕ) → All (λ (b : Block). b.position < n) (column_blocks laid) → IsColumn n laid
  IsColumn-laid n below = record {
    name = is_column.name;
    records = records_are;
    order = in_order;
    below = All-map (λ (p : ℕ). p < n) (λ (b : Block). b.position) (column_blocks laid) below;
    once = once;
  }

  -- a stripe that no column touched has its hashes, if it had them
  pub hashed : (s : ℕ) → IsHashedAt old.columns s → ¬ (Contains free s) → All (λ (b : Block). b.position ≡ s → IsSome b.hash) (column_blocks laid)
  hashed s had absent =
      laid_all (λ (b : Block). b.position ≡ s → IsSome b.hash) size column.records free sorted
      (kept_all (λ (b : Block). b.position ≡ s → IsSome b.hash) column.records (all_of_flat (λ (b : Block). b.position ≡ s → IsSome b.hash) column_blocks old.columns had d no_column d_in))
      (λ k e within same. absurd (absent (subst (Contains free) same (Rattle.std.proofs.lemmas.List.Elements.Contains-get_or free k e within))))

-- ---- all columns

module _ (old : TableValue) (kept : List (List ListedFile)) (valid : IsValid old) (are : AreKept old kept)
    (few : blocks_in_all old.shape.block_size (all_sorted old kept) ≤ most_blocks) (few_files : files_in (all_sorted old kept) ≤ most_records) where
  abbrev all_files : List (List Sorted)
  all_files = all_sorted old kept

  abbrev columns : List Column
  columns = columns_laid old all_files

  abbrev block_size : ℕ
  block_size = old.shape.block_size

  sorted_is : (d : ℕ) → d < length old.columns → get_or all_files d [] ≡ sorted_files (column_at old.columns d).records (get_or kept d [])
  sorted_is d below = sorted_each old kept d below

  many_columns : length columns ≡ length old.columns
  many_columns = length-map-range_with_len (column_laid old all_files) 0 (length old.columns)

  many_files : length all_files ≡ length old.columns
  many_files = length-map-range_with_len (sorted_at old kept) 0 (length old.columns)

  laid_is : (d : ℕ) (e : Column) → d < length old.columns → get_or columns d e ≡ laid_column block_size (column_at old.columns d) (sorted_files (column_at old.columns d).records (get_or kept d []))
  laid_is d e below =
      get_or-map-range_with_len (column_laid old all_files) 0 (length old.columns) d d e below (omega arith) ∙ ap (laid_column block_size (column_at old.columns d)) (sorted_is d below)

  size_in : (d : ℕ) → d < length old.columns → size_of block_size (sorted_files (column_at old.columns d).records (get_or kept d [])) ≤ most_blocks
  size_in d below =
      subst (λ (fs : List Sorted). size_of block_size fs ≤ most_blocks) (sorted_is d below)
      (omega (arith, column_within block_size all_files d (omega (arith, many_files)), few))

  all_low : All (λ (b : Block). b.position < most_blocks) (blocks_of columns)
  all_low = all_flat (λ (b : Block). b.position < most_blocks) column_blocks columns (λ d e within.
      let below : d < length old.columns = omega (arith, within, many_columns) in
      subst (λ (c : Column). All (λ (b : Block). b.position < most_blocks) (column_blocks c)) (sym (laid_is d e below)) (low old d (get_or kept d []) valid below (are.each d below) (size_in d below)))

  abbrev end : ℕ
  end = end_of (positions_of (blocks_of columns))

  pub short : end ≤ most_blocks
  short = end_least (blocks_of columns) most_blocks all_low

  each_is : All (IsColumn end) columns
  each_is d e within =
      let below : d < length old.columns = omega (arith, within, many_columns) in
      let here : All (λ (b : Block). b.position < end) (column_blocks (get_or columns d e)) = all_of_flat (λ (b : Block). b.position < end) column_blocks columns (within_end (blocks_of columns)) d e within in
      subst (IsColumn end) (sym (laid_is d e below))
      (IsColumn-laid old d (get_or kept d []) valid below (are.each d below) end (subst (λ (c : Column). All (λ (b : Block). b.position < end) (column_blocks c)) (laid_is d e below) here))

  names_apart : AllPairs (λ (earlier later : Column). earlier.name ≢ later.name) columns
  names_apart i j e less within same =
      let below : j < length old.columns = omega (arith, within, many_columns) in
      valid.columns.names i j no_column less below
      (ap (λ (c : Column). c.name) (sym (laid_is i e (omega arith))) ∙ same ∙ ap (λ (c : Column). c.name) (laid_is j e below))

  few_records : length (records_of columns) ≤ most_records
  few_records =
      let all = length-flat_map (λ (c : Column). c.records) columns in
      let same = sum_same (λ (c : Column). length c.records) (λ (fs : List Sorted). length fs) (column_laid old all_files) (sorted_at old kept) 0 (length old.columns)
      (λ d low high.
      count_is block_size (column_at old.columns d).records (given block_size (column_at old.columns d) (get_or all_files d [])) (get_or all_files d []) ∙ ap length (sorted_is d (omega arith))) in
      omega (arith, all, same, few_files)

  few_blocks : blocks_due block_size (records_of columns) ≤ most_blocks
  few_blocks =
      let all = sum_flat (λ (r : Record). block_count block_size r.meta.size) (λ (c : Column). c.records) columns in
      let same = sum_same (λ (c : Column). blocks_due block_size c.records) (size_of block_size) (column_laid old all_files) (sorted_at old kept) 0 (length old.columns)
      (λ d low high.
      due_is block_size (column_at old.columns d).records (given block_size (column_at old.columns d) (get_or all_files d [])) (get_or all_files d []) ∙ ap (size_of block_size) (sorted_is d (omega arith))) in
      omega (arith, all, same, few)

  all_are_whole : All (IsWhole block_size) (records_of columns)
  all_are_whole = all_flat (IsWhole block_size) (λ (c : Column). c.records) columns (λ d e within.
      let below : d < length old.columns = omega (arith, within, many_columns) in
      subst (λ (c : Column). All (IsWhole block_size) c.records) (sym (laid_is d e below)) (all_whole old d (get_or kept d []) valid below (are.each d below)))

  -- ---- what is known of the stripes

  abbrev infos : List Info
  infos = map (laid_info old (all_touched old all_files)) (range_with_len 0 end)

  many_infos : length infos ≡ end
  many_infos = length-map-range_with_len (laid_info old (all_touched old all_files)) 0 end

  info_is : (s : ℕ) (e : Info) → s < end → get_or infos s e ≡ laid_info old (all_touched old all_files) s
  info_is s e below = get_or-map-range_with_len (laid_info old (all_touched old all_files)) 0 end s s e below (omega arith)

  pending_is : IsInfo no_info
  pending_is = record { state = λ is. record { last = refl; bad = refl; fresh = refl }; last = omega arith }

  -- a stripe as before was there, and no column touched it
  as_before : (s : ℕ) → is_as_before old (all_touched old all_files) s ≡ true → (s < length old.infos) × (list_any (λ (p : ℕ). nat_eq p s) (all_touched old all_files) ≡ false)
  as_before s is = both (nat_lt s (length old.infos)) (list_any (λ (p : ℕ). nat_eq p s) (all_touched old all_files)) refl refl is
    where
      both : (a b : Bool) → nat_lt s (length old.infos) ≡ a → list_any (λ (p : ℕ). nat_eq p s) (all_touched old all_files) ≡ b → (a && not b) ≡ true
          → (s < length old.infos) × (list_any (λ (p : ℕ). nat_eq p s) (all_touched old all_files) ≡ false)
      both true false one two h = ((Decides-ltb s (length old.infos)).0 one, two)
      both true true one two h = absurd cc
      both false b one two h = absurd cc

  infos_are : All IsInfo infos
  infos_are s e within =
      let below : s < end = omega (arith, within, many_infos) in
      subst IsInfo (sym (info_is s e below)) (by (is_as_before old (all_touched old all_files) s) refl)
    where
      by : (t : Bool) → is_as_before old (all_touched old all_files) s ≡ t → IsInfo (cond t (info_at old.infos s) no_info)
      by true is = valid.infos.each s no_info (as_before s is).0
      by false is = pending_is

  all_hashed : (s : ℕ) → s < length infos → (info_at infos s).mark ≡ Synced → IsHashedAt columns s
  all_hashed s within synced =
      let below : s < end = omega (arith, within, many_infos) in
      let here : (laid_info old (all_touched old all_files) s).mark ≡ Synced = ap (λ (i : Info). i.mark) (sym (info_is s no_info below)) ∙ synced in
      by (is_as_before old (all_touched old all_files) s) refl here
    where
      untouched : (d : ℕ) → d < length old.columns → list_any (λ (p : ℕ). nat_eq p s) (all_touched old all_files) ≡ false
          → ¬ (Contains (given block_size (column_at old.columns d) (sorted_files (column_at old.columns d).records (get_or kept d []))) s)
      untouched d below none there =
          let given_there : Contains (given block_size (column_at old.columns d) (get_or all_files d [])) s =
          subst (λ (fs : List Sorted). Contains (given block_size (column_at old.columns d) fs) s) (sym (sorted_is d below)) there in
          let column_there : Contains (touched_at old all_files d) s =
          Contains-append_left (given block_size (column_at old.columns d) (get_or all_files d [])) (freed (column_at old.columns d) (get_or all_files d [])) s given_there in
          let all_there : Contains (all_touched old all_files) s = in_flat (touched_at old all_files) 0 (length old.columns) d s (omega arith) (omega arith) column_there in
          let found : list_any (λ (p : ℕ). nat_eq p s) (all_touched old all_files) ≡ true =
          list_any_at (λ (p : ℕ). nat_eq p s) (all_touched old all_files) all_there.0 s all_there.1 (eq-eqb (get_or (all_touched old all_files) all_there.0 s) s all_there.2) in
          cc

      by : (t : Bool) → is_as_before old (all_touched old all_files) s ≡ t → (cond t (info_at old.infos s) no_info).mark ≡ Synced → IsHashedAt columns s
      by false is synced = absurd cc
      by true is synced =
          let before = as_before s is in
          let had : IsHashedAt old.columns s = valid.infos.hashed s before.0 synced in
          all_flat (λ (b : Block). b.position ≡ s → IsSome b.hash) column_blocks columns (λ d e within.
          let below : d < length old.columns = omega (arith, within, many_columns) in
          subst (λ (c : Column). All (λ (b : Block). b.position ≡ s → IsSome b.hash) (column_blocks c)) (sym (laid_is d e below))
          (hashed old d (get_or kept d []) valid below (are.each d below) s had (untouched d below before.1)))

  -- ---- the whole

  pub IsValid-layout : IsValid (layout old kept)
  IsValid-layout = record {
    shape = valid.shape;
    some_column = omega (arith, many_columns, valid.some_column);
    columns = subst (λ (n : ℕ). AreColumns n block_size columns) (sym many_infos) (record {
      few = omega (arith, many_columns, valid.columns.few);
      each = each_is;
      names = names_apart;
      few_records = few_records;
      few_blocks = few_blocks;
    });
    whole = all_are_whole;
    short = omega (arith, many_infos, short);
    length_is = many_infos;
    infos = record { each = infos_are; hashed = all_hashed };
  }
