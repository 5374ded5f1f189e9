-- The trees of the array: each of their files stands under its name, and nothing else stands there. The records of a column are these files.
use Rattle.std.proofs.Common.{◌≡◌, ◌≢◌, ◌⊎◌, inl, inr, ℕ, zero, suc, ◌+◌, ◌<◌, ◌≤◌, ◌&&◌, List, [], ◌∷◌, length, map, get_or, set, cond, not, Bool, true, false, if◌then◌else◌, All, None, Some, refl, sym, ap, ◌∙◌, subst, arith}
use Rattle.std.specs.Prelude.{bytes_eq, is_some, nat_eq, nat_le}
use Rattle.std.specs.Cmp.Lexicographic.{nat_list_cmp_total, slice_cmp}
use Rattle.std.specs.FinMap as finite
use Rattle.std.specs.FinMap.{nat_cmp-IsAntisymmetric, put, slice_cmp-IsAntisymmetric}
use Rattle.std.specs.FinMap.Entries as entries
use Rattle.std.specs.FinMap.Entries.{by_order}
use Rattle.std.specs.List.{ends_with, list_all, range_with_len}
use Rattle.std.specs.Option.{option_map}
use Rattle.std.specs.Ordering.{eq_by_cmp, is_eq, nat_cmp}
use Rattle.std.specs.declared.cmp.Ordering.{Ordering}
use Rattle.std.specs.declared.cmp.Ordering.TheVariants.{Less, Equal, Greater}
use Rattle.std.proofs.lemmas.Bool.{cases_eq}
use Rattle.std.proofs.lemmas.Cmp.{tied_itself}
use Rattle.std.proofs.lemmas.List.{get_or-map, length-map}
use Rattle.std.proofs.lemmas.List.Elements.{All-cons, All-map, All-set}
use Rattle.std.proofs.lemmas.List.FromFn.{get_or-map-range_with_len, get_or-range_with_len, length-range_with_len, map-range_with_len_more}
use Rattle.std.proofs.lemmas.Slice.Eq.{bytes_eq-Decides}
use Rattle.folder_listing.specs.Kept.{ListedFile, is_kept, kept_files}
use Rattle.array_scan.specs.Own.{own_files}
use Rattle.disk_model.specs.Path.{lost_suffix}
use Rattle.disk_model.specs.Tree.{File, Tree, file_of, listing_of, meta_of, path_of as name_of}
use Rattle.file_table.specs.Table.{Record, no_meta, no_record, records_in}
use Rattle.rand_pcg.specs.Lcg.{Lcg}
use Rattle.array_setup.specs.Keeps.{dir_of, filter_keeps, full_name, has_name, is_hidden, is_recordable, keeps, own_names}
use Rattle.snap_exercise.specs.Exercised.{damaged_trees, start_of}
use Rattle.snap_exercise.specs.Generated.{before, entries_from, entry_from, files_of, path_of, setup, tree_from, tree_of, trees, turned_tree}
use Rattle.snap_exercise.proofs.AfterSyncLemmas.{length-trees}
use Rattle.snap_exercise.proofs.FreeLemmas.{Files, IsOfKept, holds_just, made, many_listed}
use Rattle.snap_exercise.proofs.GeneratedLemmas.{digits_apart, new_path, not_tied}
use Rattle.snap_exercise.proofs.PathLemmas.{one_part, plain_name}
use Rattle.snap_exercise.proofs.UndamagedLemmas.{found_tree}
use Rattle.snap_sync.specs.Part.{tree_at}
use Rattle.snap_sync.proofs.ListFacts.{filter_all}
use Rattle.repair_scope.specs.Blocked.{found_in}

-- ---- what is found in a tree

find_more : (g : Lcg) (column : ℕ) (turns : Bool) (count : ℕ) (name : List ℕ) → count < 10000
    → finite.find (slice_cmp nat_cmp) name (entries_from g column turns (suc count))
    ≡ cond (eq_by_cmp (slice_cmp nat_cmp) name (path_of count)) (Some (entry_from g column turns count).1) (finite.find (slice_cmp nat_cmp) name (entries_from g column turns count))
find_more g column turns count name few =
    let next : suc count ≡ count + 1 = omega arith in
    ap (λ (k : ℕ). finite.find (slice_cmp nat_cmp) name (entries_from g column turns k)) next
    ∙ ap (finite.find (slice_cmp nat_cmp) name) (map-range_with_len_more (entry_from g column turns) 0 count count (omega arith))
    ∙ entries.find-append (slice_cmp nat_cmp) nat_list_cmp_total (entries_from g column turns count) (path_of count) (entry_from g column turns count).1 name (new_path g column turns count count (omega arith) few)

find_at : (g : Lcg) (column : ℕ) (turns : Bool) (count k : ℕ) → k < count → count ≤ 10000 → finite.find (slice_cmp nat_cmp) (path_of k) (entries_from g column turns count) ≡ Some (entry_from g column turns k).1
find_at g column turns zero k below few = absurd (omega (arith, below))
find_at g column turns (suc count) k below few = find_more g column turns count (path_of k) (omega (arith, few)) ∙ by (cases_eq k count) (λ less. find_at g column turns count k less (omega (arith, few)))
  where
    by : (k ≡ count) ⊎ (k ≢ count) → (k < count → finite.find (slice_cmp nat_cmp) (path_of k) (entries_from g column turns count) ≡ Some (entry_from g column turns k).1)
        → cond (eq_by_cmp (slice_cmp nat_cmp) (path_of k) (path_of count)) (Some (entry_from g column turns count).1) (finite.find (slice_cmp nat_cmp) (path_of k) (entries_from g column turns count))
        ≡ Some (entry_from g column turns k).1
    by (inl same) rest =
        subst (λ (j : ℕ). cond (eq_by_cmp (slice_cmp nat_cmp) (path_of j) (path_of count)) (Some (entry_from g column turns count).1) (finite.find (slice_cmp nat_cmp) (path_of j) (entries_from g column turns count)) ≡ Some (entry_from g column turns j).1) (sym same)
        (ap (λ (o : Ordering). cond (is_eq o) (Some (entry_from g column turns count).1) (finite.find (slice_cmp nat_cmp) (path_of count) (entries_from g column turns count))) (tied_itself nat_list_cmp_total (path_of count)))
    by (inr apart) rest =
        ap (λ (b : Bool). cond b (Some (entry_from g column turns count).1) (finite.find (slice_cmp nat_cmp) (path_of k) (entries_from g column turns count)))
        (not_tied (path_of k) (path_of count) (λ same. apart (digits_apart k count (omega (arith, below, few)) (omega (arith, few)) same)))
        ∙ rest (omega (arith, below, apart))

find_none : (g : Lcg) (column : ℕ) (turns : Bool) (count : ℕ) (name : List ℕ) → count ≤ 10000 → ((k : ℕ) → k < count → name ≡ path_of k → ⊥) → finite.find (slice_cmp nat_cmp) name (entries_from g column turns count) ≡ None
find_none g column turns zero name few none = refl
find_none g column turns (suc count) name few none =
    find_more g column turns count name (omega (arith, few))
    ∙ ap (λ (b : Bool). cond b (Some (entry_from g column turns count).1) (finite.find (slice_cmp nat_cmp) name (entries_from g column turns count))) (not_tied name (path_of count) (none count (omega arith)))
    ∙ find_none g column turns count name (omega (arith, few)) (λ k below. none k (omega (arith, below)))

-- the file of a number
abbrev pub made_file : Lcg → ℕ → Bool → ℕ → File
made_file g column turns k = (entry_from g column turns k).1

pub file_at : (g : Lcg) (column : ℕ) (turns : Bool) (count k : ℕ) → k < count → count ≤ 10000 → file_of (tree_from g column turns count) (path_of k) ≡ Some (made_file g column turns k)
file_at g column turns count k below few = finite.get-from_entries nat_list_cmp_total (entries_from g column turns count) (path_of k) ∙ find_at g column turns count k below few

-- a tree has no files but those of so many numbers
abbrev pub HasNoOthers : ℕ → Tree → Type 0
HasNoOthers count tree = (name : List ℕ) → ((k : ℕ) → k < count → name ≡ path_of k → ⊥) → file_of tree name ≡ None

pub no_others : (g : Lcg) (column : ℕ) (turns : Bool) (count : ℕ) → count ≤ 10000 → HasNoOthers count (tree_from g column turns count)
no_others g column turns count few name none = finite.get-from_entries nat_list_cmp_total (entries_from g column turns count) name ∙ find_none g column turns count name few none

empty_others : (count : ℕ) → HasNoOthers count finite.empty
empty_others count name none = finite.get-empty (slice_cmp nat_cmp) name

pub few_files : (n : ℕ) → files_of n ≤ 10000
few_files n = omega arith

pub damaged_others : (n : ℕ) → All (HasNoOthers (files_of n)) (damaged_trees n)
damaged_others n =
    All-set (HasNoOthers (files_of n)) (set (set (trees n) 0 finite.empty) 1 finite.empty) 2 (turned_tree n) (no_others (before n 2) 2 true (files_of n) (few_files n))
    (All-set (HasNoOthers (files_of n)) (set (trees n) 0 finite.empty) 1 finite.empty (empty_others (files_of n))
    (All-set (HasNoOthers (files_of n)) (trees n) 0 finite.empty (empty_others (files_of n))
    (All-map (HasNoOthers (files_of n)) (tree_of n) (range_with_len 0 8) (λ k d within. no_others (before n (get_or (range_with_len 0 8) k d)) (get_or (range_with_len 0 8) k d) false (files_of n) (few_files n)))))

-- a name with its ending is no file's
pub not_lost : (k j : ℕ) → name_of (path_of k) true ≡ path_of j → ⊥
not_lost k j same = let long : 19 ≡ 5 = ap length same in omega (arith, long)

-- ---- the entries of a tree

-- it is the file of a number
pub record IsMade (g : Lcg) (column : ℕ) (turns : Bool) (count : ℕ) (e : List ℕ × File) : Type 0 where
  pub k : ℕ
  pub below : k < count
  pub is : e ≡ entry_from g column turns k

module _ (P : List ℕ × File → Type 0) where
  put_each : (name : List ℕ) (file : File) (others : Files) → P (name, file) → All P others → All P (put (slice_cmp nat_cmp) name file others)
  put_each name file [] its all = All-cons P (name, file) [] its all
  put_each name file (e ∷ others) its all =
      by (slice_cmp nat_cmp name e.0) refl (all 0 e (omega arith)) (λ k d within. all (suc k) d (omega (arith, within))) (put_each name file others its (λ k d within. all (suc k) d (omega (arith, within))))
    where
      by : (o : Ordering) → slice_cmp nat_cmp name e.0 ≡ o → P e → All P others → All P (put (slice_cmp nat_cmp) name file others)
          → All P (by_order o ((name, file) ∷ e ∷ others) ((e.0, file) ∷ others) (e ∷ put (slice_cmp nat_cmp) name file others))
      by Less is first rest more = All-cons P (name, file) (e ∷ others) its (All-cons P e others first rest)
      by Equal is first rest more = All-cons P (e.0, file) others (subst (λ (x : List ℕ). P (x, file)) (slice_cmp-IsAntisymmetric nat_cmp-IsAntisymmetric name e.0 is) its) rest
      by Greater is first rest more = All-cons P e (put (slice_cmp nat_cmp) name file others) first more

  each_made : (all_entries : Files) → All P all_entries → All P (finite.entries (made all_entries))
  each_made [] all = λ k d within.
      let none : length (finite.entries (made [])) ≡ 0 = sym (finite.len-entries (made [])) ∙ finite.len-empty (slice_cmp nat_cmp) File in
      absurd (omega (arith, within, none))
  each_made (e ∷ others) all = subst (All P) (sym (finite.entries-insert nat_list_cmp_total (made others) e.0 e.1))
      (put_each e.0 e.1 (finite.entries (made others)) (all 0 e (omega arith)) (each_made others (λ k d within. all (suc k) d (omega (arith, within)))))

all_made : (g : Lcg) (column : ℕ) (turns : Bool) (count : ℕ) → All (IsMade g column turns count) (finite.entries (tree_from g column turns count))
all_made g column turns count = each_made (IsMade g column turns count) (entries_from g column turns count)
    (All-map (IsMade g column turns count) (entry_from g column turns) (range_with_len 0 count) (λ k d within.
    let few : k < count = omega (arith, within, length-range_with_len 0 count) in
    let at : get_or (range_with_len 0 count) k d ≡ 0 + k = get_or-range_with_len 0 count k d few in
    record { k = get_or (range_with_len 0 count) k d; below = omega (arith, at, few); is = refl }))

-- ---- all files of a tree are kept

recordable : (file : ℕ) → is_recordable (path_of file) ≡ true
recordable file = ap (λ (parts : List (List ℕ)). nat_le (length (path_of file)) 4082 && list_all (λ (part : List ℕ). not (ends_with nat_eq part lost_suffix)) parts) (one_part (path_of file) (plain_name file))

not_own : (d file : ℕ) → d < 8 → has_name (own_names setup) (full_name (dir_of setup d) (path_of file)) ≡ false
not_own zero file below = refl
not_own (suc zero) file below = refl
not_own (suc (suc zero)) file below = refl
not_own (suc (suc (suc zero))) file below = refl
not_own (suc (suc (suc (suc zero)))) file below = refl
not_own (suc (suc (suc (suc (suc zero))))) file below = refl
not_own (suc (suc (suc (suc (suc (suc zero)))))) file below = refl
not_own (suc (suc (suc (suc (suc (suc (suc zero))))))) file below = refl
not_own (suc (suc (suc (suc (suc (suc (suc (suc d)))))))) file below = absurd (omega (arith, below))

keeps_name : (d file : ℕ) → d < 8 → keeps setup d (path_of file) ≡ true
keeps_name d file below =
    ap (λ (b : Bool). b && not (has_name (own_names setup) (full_name (dir_of setup d) (path_of file))) && not (setup.nohidden && is_hidden (path_of file)) && filter_keeps setup.rules (path_of file)) (recordable file)
    ∙ ap (λ (b : Bool). true && not b && not (setup.nohidden && is_hidden (path_of file)) && filter_keeps setup.rules (path_of file)) (not_own d file below)

all_kept : (n d : ℕ) → d < 8 → kept_files setup d (listing_of (tree_of n d)) ≡ listing_of (tree_of n d)
all_kept n d below = filter_all (is_kept setup d) (listing_of (tree_of n d))
    (All-map (λ (file : ListedFile). is_kept setup d file ≡ true) (λ (e : List ℕ × File). (e.0, meta_of e.1)) (finite.entries (tree_of n d)) (λ k e within.
    let its = all_made (before n d) d false (files_of n) k e within in
    ap (λ (x : List ℕ × File). keeps setup d x.0) its.is ∙ keeps_name d its.k below))

-- ---- the records of a column

place_of : (files : List ListedFile) (name : List ℕ) → is_some (found_in files name) ≡ true → (i : ℕ) × (i < length files) × ((get_or files i ([], no_meta)).0 ≡ name)
place_of [] name some = absurd (let clash : false ≡ true = some in cc)
place_of (file ∷ files) name some = by (bytes_eq file.0 name) refl some (λ more. place_of files name more)
  where
    by : (b : Bool) → bytes_eq file.0 name ≡ b → is_some (if b then Some file.1 else found_in files name) ≡ true
        → (is_some (found_in files name) ≡ true → (i : ℕ) × (i < length files) × ((get_or files i ([], no_meta)).0 ≡ name))
        → (i : ℕ) × (i < length (file ∷ files)) × ((get_or (file ∷ files) i ([], no_meta)).0 ≡ name)
    by true same there further = (0, omega arith, (bytes_eq-Decides file.0 name).0 same)
    by false other there further = let its = further there in (suc its.0, omega (arith, its.1), its.2)

-- a record is of the file of a number
pub record IsOfFile (n d : ℕ) (kept : Record) : Type 0 where
  pub k : ℕ
  pub below : k < files_of n
  pub path : kept.path ≡ path_of k
  pub meta : kept.meta ≡ meta_of (made_file (before n d) d false k)

module _ (just : IsOfKept) (n d : ℕ) (few : d < 8) (within : d < length (start_of n).columns) where
  abbrev records : List Record
  records = records_in (start_of n) d

  pub tree_is : tree_at (trees n) d ≡ tree_of n d
  tree_is = get_or-map-range_with_len (tree_of n) 0 8 d d finite.empty few (omega arith)

  own_are : own_files records ≡ listing_of (tree_of n d)
  own_are =
      let lists : List (List ListedFile) = map listing_of (trees n) in
      sym ((holds_just just n).each d within)
      ∙ get_or-map-range_with_len (λ (c : ℕ). kept_files setup c (get_or lists c [])) 0 (length lists) d d [] (omega (arith, few, many_listed just n)) (omega arith)
      ∙ ap (kept_files setup d) (get_or-map listing_of (trees n) d finite.empty [] (omega (arith, few, length-trees n)) ∙ ap listing_of tree_is)
      ∙ all_kept n d few

  many_own : length records ≡ length (listing_of (tree_of n d))
  many_own = sym (length-map records (λ (kept : Record). let it : ListedFile = (kept.path, kept.meta) in it)) ∙ ap length own_are

  own_at : (i : ℕ) → i < length records → (let it : ListedFile = ((get_or records i no_record).path, (get_or records i no_record).meta) in it) ≡ get_or (listing_of (tree_of n d)) i ([], no_meta)
  own_at i inside =
      sym (get_or-map (λ (kept : Record). let it : ListedFile = (kept.path, kept.meta) in it) records i no_record ([], no_meta) inside)
      ∙ ap (λ (files : List ListedFile). get_or files i ([], no_meta)) own_are

  pub record_made : (i : ℕ) → i < length records → IsOfFile n d (get_or records i no_record)
  record_made i inside =
      let no_entry : List ℕ × File = ([], made_file (before n d) d false 0) in
      let there : i < length (finite.entries (tree_of n d)) = omega (arith, inside, many_own, length-map (finite.entries (tree_of n d)) (λ (e : List ℕ × File). let it : ListedFile = (e.0, meta_of e.1) in it)) in
      let its = all_made (before n d) d false (files_of n) i no_entry there in
      let listed : get_or (listing_of (tree_of n d)) i ([], no_meta) ≡ (let it : ListedFile = (path_of its.k, meta_of (made_file (before n d) d false its.k)) in it)
      = get_or-map (λ (e : List ℕ × File). let it : ListedFile = (e.0, meta_of e.1) in it) (finite.entries (tree_of n d)) i no_entry ([], no_meta) there
      ∙ ap (λ (e : List ℕ × File). let it : ListedFile = (e.0, meta_of e.1) in it) its.is in
      record {
        k = its.k;
        below = its.below;
        path = ap (λ (file : ListedFile). file.0) (own_at i inside ∙ listed);
        meta = ap (λ (file : ListedFile). file.1) (own_at i inside ∙ listed);
      }

  pub made_record : (k : ℕ) → k < files_of n → (i : ℕ) × (i < length records) × ((get_or records i no_record).path ≡ path_of k)
  made_record k below =
      let some : is_some (found_in (listing_of (tree_of n d)) (path_of k)) ≡ true
      = ap is_some (found_tree (tree_of n d) (path_of k) ∙ ap (option_map meta_of) (file_at (before n d) d false (files_of n) k below (few_files n))) in
      let its = place_of (listing_of (tree_of n d)) (path_of k) some in
      let inside : its.0 < length records = omega (arith, its.1, many_own) in
      (its.0, inside, ap (λ (file : ListedFile). file.0) (own_at its.0 inside) ∙ its.2)
