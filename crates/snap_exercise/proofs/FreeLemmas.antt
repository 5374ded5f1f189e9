-- No name of a file of the array has a slash, so none stands in the way of a record.
use Rattle.std.proofs.Common.{◌≡◌, ℕ, suc, ◌<◌, ◌&&◌, ◌||◌, List, [], ◌∷◌, ◌++◌, length, map, get_or, drop, set, not, Bool, true, false, All, refl, sym, ap, ◌∙◌, subst, arith}
use Rattle.std.specs.Prelude.{is_some}
use Rattle.std.specs.Cmp.Lexicographic.{nat_list_cmp_total, slice_cmp}
use Rattle.std.specs.FinMap as finite
use Rattle.std.specs.FinMap.{put}
use Rattle.std.specs.FinMap.Entries.{by_order}
use Rattle.std.specs.List.{range_with_len}
use Rattle.std.specs.Ordering.{nat_cmp}
use Rattle.std.specs.declared.cmp.Ordering.{Ordering}
use Rattle.std.specs.declared.cmp.Ordering.TheVariants.{Less, Equal, Greater}
use Rattle.std.proofs.Math.Seq.{get_or-append_seam}
use Rattle.std.proofs.lemmas.List.{get_or-map, length-append, length-map, length-set}
use Rattle.std.proofs.lemmas.List.Elements.{All-cons, All-filter, All-map, All-nil, All-set}
use Rattle.std.proofs.lemmas.List.Folds.{list_any_none}
use Rattle.std.proofs.lemmas.List.FromFn.{get_or-map-range_with_len, length-range_with_len}
use Rattle.folder_listing.specs.Kept.{ListedFile, is_kept, kept_files, kept_lists}
use Rattle.array_scan.specs.Layout.{layout}
use Rattle.array_scan.specs.Own.{HoldsJust, own_files}
use Rattle.disk_calm.proofs.TreeLemmas.{dir_split}
use Rattle.disk_model.specs.Tree.{File, Tree, is_directory_of, listing_of, meta_of, path_of as name_of}
use Rattle.file_table.specs.Closing.{DiffersInHashesAndInfos}
use Rattle.file_table.specs.Table.{Record, TableValue, column_at, no_meta, no_record, record_in, records_in}
use Rattle.rand_pcg.specs.Lcg.{Lcg}
use Rattle.snap_exercise.specs.Exercised.{damaged_lists, damaged_trees, everything, fix_plan, readings_of, start_of, table_of_sync}
use Rattle.snap_exercise.specs.Generated.{before, columns, entries_from, entry_from, files_of, first_table, moment, setup, tree_from, tree_of, trees, turned_tree}
use Rattle.snap_exercise.proofs.AfterSyncLemmas.{length-trees}
use Rattle.snap_exercise.proofs.PathLemmas.{IsPlain, plain_name}
use Rattle.snap_sync.specs.Part.{tree_at}
use Rattle.snap_sync.proofs.StaysLemmas.{differs-closed}
use Rattle.repair_scope.specs.Blocked.{found_in, holds_one, is_blocked, is_inside_one}
use Rattle.repair_scope.specs.Plan.{column_entries, entry_at, entry_of, names_of, no_entry}
use Rattle.repair_scope.specs.declared.entry.Entry.{Entry}

-- ---- names without a slash

abbrev pub IsPlainName : List ℕ → Type 0
IsPlainName name = All IsPlain name

not_true : (b : Bool) → (b ≡ true → ⊥) → b ≡ false
not_true true wrong = absurd (wrong refl)
not_true false wrong = refl

not_inside : (directory name : List ℕ) → IsPlainName name → is_directory_of directory name ≡ false
not_inside directory name plain = not_true (is_directory_of directory name) (λ is.
    let rest : List ℕ = drop (length (directory ++ 47 ∷ [])) name in
    let split : name ≡ directory ++ 47 ∷ rest = dir_split directory name is in
    let slash : get_or name (length directory) 0 ≡ 47 = ap (λ (bytes : List ℕ). get_or bytes (length directory) 0) split ∙ get_or-append_seam directory 47 rest 0 in
    let long : length name ≡ length (directory ++ 47 ∷ rest) = ap length split in
    let within : length directory < length name = omega (arith, long, length-append directory (47 ∷ rest)) in
    let there = (plain (length directory) 0 within).0 in
    omega (arith, there, slash))

-- files with such names
abbrev pub ArePlain : List ListedFile → Type 0
ArePlain files = All (λ (file : ListedFile). IsPlainName file.0) files

blocked_by : (found inside holds lost : Bool) → inside ≡ false → holds ≡ false → lost ≡ false → ((not found && (inside || holds)) || lost) ≡ false
blocked_by found inside holds lost p q r =
    ap (λ (b : Bool). (not found && (b || holds)) || lost) p ∙ ap (λ (b : Bool). (not found && b) || lost) q ∙ ap (λ (b : Bool). (not found && false) || b) r ∙ last found
  where
    last : (b : Bool) → ((not b && false) || false) ≡ false
    last true = refl
    last false = refl

pub none_blocks : (files : List ListedFile) (name : List ℕ) → ArePlain files → IsPlainName name → is_blocked files name ≡ false
none_blocks files name plain its = blocked_by (is_some (found_in files name)) (is_inside_one files name) (holds_one files name) (holds_one files (name_of name true))
    (list_any_none (λ (file : ListedFile). is_directory_of file.0 name) files (λ k d within. not_inside (get_or files k d).0 name its))
    (holds_none name) (holds_none (name_of name true))
  where
    holds_none : (directory : List ℕ) → holds_one files directory ≡ false
    holds_none directory = list_any_none (λ (file : ListedFile). is_directory_of directory file.0) files (λ k d within. not_inside directory (get_or files k d).0 (plain k d within))

-- ---- the files of a tree

abbrev pub Files : Type 0
Files = List (List ℕ × File)

abbrev HavePlain : Files → Type 0
HavePlain entries = All (λ (e : List ℕ × File). IsPlainName e.0) entries

plain_put : (name : List ℕ) (file : File) (entries : Files) → IsPlainName name → HavePlain entries → HavePlain (put (slice_cmp nat_cmp) name file entries)
plain_put name file [] plain all = All-cons (λ (e : List ℕ × File). IsPlainName e.0) (name, file) [] plain all
plain_put name file (e ∷ entries) plain all =
    by (slice_cmp nat_cmp name e.0) (all 0 e (omega arith)) (λ k d within. all (suc k) d (omega (arith, within))) (plain_put name file entries plain (λ k d within. all (suc k) d (omega (arith, within))))
  where
    by : (o : Ordering) → IsPlainName e.0 → HavePlain entries → HavePlain (put (slice_cmp nat_cmp) name file entries)
        → HavePlain (by_order o ((name, file) ∷ e ∷ entries) ((e.0, file) ∷ entries) (e ∷ put (slice_cmp nat_cmp) name file entries))
    by Less first rest more = All-cons (λ (x : List ℕ × File). IsPlainName x.0) (name, file) (e ∷ entries) plain (All-cons (λ (x : List ℕ × File). IsPlainName x.0) e entries first rest)
    by Equal first rest more = All-cons (λ (x : List ℕ × File). IsPlainName x.0) (e.0, file) entries first rest
    by Greater first rest more = All-cons (λ (x : List ℕ × File). IsPlainName x.0) e (put (slice_cmp nat_cmp) name file entries) first more

abbrev pub made : Files → Tree
made entries = finite.from_entries entries

plain_made : (entries : Files) → HavePlain entries → HavePlain (finite.entries (made entries))
plain_made [] all = λ k d within.
    let none : length (finite.entries (made [])) ≡ 0 = sym (finite.len-entries (made [])) ∙ finite.len-empty (slice_cmp nat_cmp) File in
    absurd (omega (arith, within, none))
plain_made (e ∷ entries) all = subst HavePlain (sym (finite.entries-insert nat_list_cmp_total (made entries) e.0 e.1))
    (plain_put e.0 e.1 (finite.entries (made entries)) (all 0 e (omega arith)) (plain_made entries (λ k d within. all (suc k) d (omega (arith, within)))))

abbrev IsPlainTree : Tree → Type 0
IsPlainTree tree = ArePlain (listing_of tree)

listed_plain : (entries : Files) → HavePlain entries → IsPlainTree (made entries)
listed_plain entries all = All-map (λ (file : ListedFile). IsPlainName file.0) (λ (e : List ℕ × File). (e.0, meta_of e.1)) (finite.entries (made entries)) (plain_made entries all)

tree_plain : (g : Lcg) (column : ℕ) (turns : Bool) (count : ℕ) → IsPlainTree (tree_from g column turns count)
tree_plain g column turns count = listed_plain (entries_from g column turns count)
    (All-map (λ (e : List ℕ × File). IsPlainName e.0) (entry_from g column turns) (range_with_len 0 count) (λ k d within. plain_name (get_or (range_with_len 0 count) k d)))

trees_plain : (n : ℕ) → All IsPlainTree (trees n)
trees_plain n = All-map IsPlainTree (tree_of n) columns (λ k d within. tree_plain (before n (get_or columns k d)) (get_or columns k d) false (files_of n))

pub tree_plain_at : (n d : ℕ) → d < 8 → ArePlain (listing_of (tree_at (trees n) d))
tree_plain_at n d few = trees_plain n d finite.empty (omega (arith, few, length-trees n))

damaged_plain : (n : ℕ) → All IsPlainTree (damaged_trees n)
damaged_plain n =
    let none : IsPlainTree (made []) = listed_plain [] (All-nil (λ (e : List ℕ × File). IsPlainName e.0)) in
    All-set IsPlainTree (set (set (trees n) 0 (made [])) 1 (made [])) 2 (turned_tree n) (tree_plain (before n 2) 2 true (files_of n))
    (All-set IsPlainTree (set (trees n) 0 (made [])) 1 (made []) none (All-set IsPlainTree (trees n) 0 (made []) none (trees_plain n)))

many_damaged : (n : ℕ) → length (damaged_trees n) ≡ 8
many_damaged n = length-set (set (set (trees n) 0 (made [])) 1 (made [])) 2 (turned_tree n) ∙ length-set (set (trees n) 0 (made [])) 1 (made []) ∙ length-set (trees n) 0 (made []) ∙ length-trees n

-- ---- the records

-- what array_scan says of the records of a layout
abbrev pub IsOfKept : Type 0
IsOfKept = (table : TableValue) (kept : List (List ListedFile)) → length kept ≡ length table.columns → HoldsJust (layout table kept) kept

record_plain : (records : List Record) → ArePlain (own_files records) → (i : ℕ) → i < length records → IsPlainName (get_or records i no_record).path
record_plain records plain i inside =
    let own_of : Record → ListedFile = λ file. (file.path, file.meta) in
    let it : get_or (own_files records) i ([], no_meta) ≡ own_of (get_or records i no_record) = get_or-map own_of records i no_record ([], no_meta) inside in
    subst (λ (file : ListedFile). IsPlainName file.0) it (plain i ([], no_meta) (omega (arith, inside, length-map records own_of)))

module _ (just : IsOfKept) (n : ℕ) where
  abbrev lists : List (List ListedFile)
  lists = map listing_of (trees n)

  abbrev kept : List (List ListedFile)
  kept = kept_lists setup lists

  pub many_listed : length lists ≡ 8
  many_listed = length-map (trees n) listing_of ∙ length-trees n

  pub holds_just : HoldsJust (start_of n) kept
  holds_just = just first_table kept (length-map (range_with_len 0 (length lists)) (λ (d : ℕ). kept_files setup d (get_or lists d [])) ∙ length-range_with_len 0 (length lists) ∙ many_listed)

  own_plain : (d : ℕ) → d < 8 → d < length (start_of n).columns → ArePlain (own_files (column_at (start_of n).columns d).records)
  own_plain d few below =
      let tree_there : IsPlainTree (get_or (trees n) d finite.empty) = trees_plain n d finite.empty (omega (arith, few, length-trees n)) in
      let list_is : get_or lists d [] ≡ listing_of (get_or (trees n) d finite.empty) = get_or-map listing_of (trees n) d finite.empty [] (omega (arith, few, length-trees n)) in
      let kept_is : get_or kept d [] ≡ kept_files setup d (get_or lists d [])
      = get_or-map-range_with_len (λ (c : ℕ). kept_files setup c (get_or lists c [])) 0 (length lists) d d [] (omega (arith, few, many_listed)) (omega arith) in
      subst ArePlain (sym kept_is ∙ holds_just.each d below)
      (All-filter (is_kept setup d) (λ (file : ListedFile). IsPlainName file.0) (get_or lists d []) (subst ArePlain (sym list_is) tree_there))

  abbrev table : TableValue
  table = table_of_sync n

  differs : DiffersInHashesAndInfos (start_of n) table
  differs = differs-closed moment (start_of n) (readings_of n)

  pub path_plain : (d i : ℕ) → d < 8 → d < length table.columns → i < length (records_in table d) → IsPlainName (record_in (column_at table.columns d) i).path
  path_plain d i few below inside =
      let before : d < length (start_of n).columns = omega (arith, below, differs.columns) in
      let inside_then : i < length (records_in (start_of n) d) = omega (arith, inside, (differs.files d).count) in
      subst IsPlainName (sym ((differs.files d).path i)) (record_plain (records_in (start_of n) d) (own_plain d few before) i inside_then)

  -- no record of the table of its sync is blocked, when the fix lists the folders
  pub all_free : (d i : ℕ) → d < 8 → d < length table.columns → i < length (records_in table d) → (entry_at (fix_plan n) d i).blocked ≡ false
  all_free d i few below inside =
      let names : List (List ℕ) = names_of setup in
      let worn : List (List ListedFile) = damaged_lists n in
      ap (λ (column : List Entry). (get_or column i no_entry).blocked) (get_or-map-range_with_len (column_entries everything names table worn) 0 (length table.columns) d d [] below (omega arith))
      ∙ ap (λ (entry : Entry). entry.blocked) (get_or-map (entry_of everything (get_or names d []) (get_or worn d [])) (records_in table d) i no_record no_entry inside)
      ∙ none_blocks (get_or worn d []) (record_in (column_at table.columns d) i).path (worn_at d few) (path_plain d i few below inside)
    where
      worn_at : (c : ℕ) → c < 8 → ArePlain (get_or (damaged_lists n) c [])
      worn_at c under =
          let long : length (damaged_trees n) ≡ 8 = many_damaged n in
          let list_is : get_or (damaged_lists n) c [] ≡ listing_of (get_or (damaged_trees n) c finite.empty) = get_or-map listing_of (damaged_trees n) c finite.empty [] (omega (arith, under, long)) in
          subst ArePlain (sym list_is) (damaged_plain n c finite.empty (omega (arith, under, long)))
