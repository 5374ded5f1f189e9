-- The files that a number makes, one after another.
use Rattle.std.proofs.Common.{◌≡◌, ℕ, zero, suc, ◌+◌, ◌<◌, ◌≤◌, List, [], ◌∷◌, ◌++◌, length, map, take, get_or, set, cond, Bool, false, None, Some, refl, sym, ap, ◌∙◌, arith}
use Rattle.std.proofs.Math.Seq.{take-append_seam}
use Rattle.std.proofs.lemmas.Grind.{flat_map-append}
use Rattle.std.proofs.lemmas.List.{append-nil, map-append, map-id, map-set}
use Rattle.std.proofs.lemmas.List.FromFn.{map-range_with_len_more}
use Rattle.std.specs.Cmp.Lexicographic.{nat_list_cmp_total, slice_cmp}
use Rattle.std.specs.FinMap as finite
use Rattle.std.specs.FinMap.Entries as entries
use Rattle.std.specs.FinMap.{nat_cmp-IsAntisymmetric, slice_cmp-IsAntisymmetric}
use Rattle.std.specs.List.{flat_map, range_with_len}
use Rattle.std.specs.Ordering.{eq_by_cmp, is_eq, nat_cmp}
use Rattle.std.specs.declared.cmp.Ordering.{Ordering}
use Rattle.std.specs.declared.cmp.Ordering.TheVariants.{Less, Equal, Greater}
use Rattle.disk_calm.specs.Calm.{calm_folder_view}
use Rattle.disk_calm.specs.declared.folder.CalmFolder.{CalmFolder}
use Rattle.disk_model.specs.Folder.{FolderView}
use Rattle.disk_model.specs.Tree.{File, Tree}
use Rattle.rand_pcg.specs.Lcg.{Lcg}
use Rattle.snap_exercise.specs.Exercised.{damaged}
use Rattle.snap_exercise.specs.Generated.{before, behind, bytes_from, drawn, entries_from, entry_from, file_with, files_of, generator, path_of, size_of, sizes_before, sizes_in, standing, tree_from, tree_of, turned_if, turned_tree}

-- what was lent and written stands in the place of what was there
pub written_back : {A : Type 0} (n : ℕ) (news olds : List A) → n ≡ length news → take n (news ++ olds) ≡ news
written_back n news olds is = ap (λ k. take k (news ++ olds)) is ∙ take-append_seam news olds

range_more : (n : ℕ) → range_with_len 0 (n + 1) ≡ range_with_len 0 n ++ n ∷ []
range_more n = sym (map-id (range_with_len 0 (n + 1))) ∙ map-range_with_len_more (λ (k : ℕ). k) 0 n n (omega arith) ∙ ap (λ (ks : List ℕ). ks ++ n ∷ []) (map-id (range_with_len 0 n))

flat_range_more : {X : Type 0} (f : ℕ → List X) (n : ℕ) → flat_map f (range_with_len 0 (n + 1)) ≡ flat_map f (range_with_len 0 n) ++ f n
flat_range_more f n = ap (flat_map f) (range_more n) ∙ flat_map-append f (range_with_len 0 n) (n ∷ []) ∙ ap (λ xs. flat_map f (range_with_len 0 n) ++ xs) (append-nil (f n))

-- ---- the generator

pub behind_both : (front back : List ℕ) (g : Lcg) → behind (front ++ back) g ≡ behind back (behind front g)
unfolding behind
behind_both [] back g = refl
behind_both (size ∷ front) back g = behind_both front back (drawn size g).1

behind_one : (size : ℕ) (g : Lcg) → behind (size ∷ []) g ≡ (drawn size g).1
unfolding behind
behind_one size g = refl

pub behind_none : (g : Lcg) → g ≡ behind [] g
unfolding behind
behind_none g = refl

-- behind one file more
pub file_more : (column file size : ℕ) (first mid last : Lcg) → mid ≡ behind (sizes_in column file) first → size ≡ size_of column file → last ≡ (drawn size mid).1
    → last ≡ behind (sizes_in column (file + 1)) first
file_more column file size first mid last at size_is drew =
    drew ∙ ap (λ (s : ℕ). (drawn s mid).1) size_is ∙ ap (λ (g : Lcg). (drawn (size_of column file) g).1) at
    ∙ sym (ap (λ (sizes : List ℕ). behind sizes first) (map-range_with_len_more (size_of column) 0 file file (omega arith)) ∙ behind_both (sizes_in column file) (size_of column file ∷ []) first
    ∙ behind_one (size_of column file) (behind (sizes_in column file) first))

-- behind one column more
pub column_more : (n column : ℕ) (mid last : Lcg) → mid ≡ before n column → last ≡ behind (sizes_in column (files_of n)) mid → last ≡ before n (column + 1)
column_more n column mid last at drew =
    drew ∙ ap (λ (g : Lcg). behind (sizes_in column (files_of n)) g) at
    ∙ sym (ap (λ (sizes : List ℕ). behind sizes (generator n)) (flat_range_more (λ (c : ℕ). sizes_in c (files_of n)) column) ∙ behind_both (sizes_before n column) (sizes_in column (files_of n)) (generator n))

pub before_none : (n : ℕ) → generator n ≡ before n 0
unfolding behind
before_none n = refl

-- ---- the trees

pub digits_apart : (i j : ℕ) → i < 10000 → j < 10000 → path_of i ≡ path_of j → i ≡ j
digits_apart i j first second same =
    let a = ap (λ (p : List ℕ). get_or p 1 0) same in
    let b = ap (λ (p : List ℕ). get_or p 2 0) same in
    let c = ap (λ (p : List ℕ). get_or p 3 0) same in
    let d = ap (λ (p : List ℕ). get_or p 4 0) same in
    omega (arith, a, b, c, d, first, second)

pub not_tied : (a b : List ℕ) → (a ≡ b → ⊥) → eq_by_cmp (slice_cmp nat_cmp) a b ≡ false
not_tied a b apart = by_cases (slice_cmp nat_cmp a b) refl
  where
    by_cases : (o : Ordering) → slice_cmp nat_cmp a b ≡ o → eq_by_cmp (slice_cmp nat_cmp) a b ≡ false
    by_cases Less at = ap is_eq at
    by_cases Equal at = absurd (apart (slice_cmp-IsAntisymmetric nat_cmp-IsAntisymmetric a b at))
    by_cases Greater at = ap is_eq at

-- no file before has the path of a file
pub new_path : (g : Lcg) (column : ℕ) (turns : Bool) (count file : ℕ) → count ≤ file → file < 10000 → finite.find (slice_cmp nat_cmp) (path_of file) (entries_from g column turns count) ≡ None
new_path g column turns zero file below few = refl
new_path g column turns (suc count) file below few =
    let next : suc count ≡ count + 1 = omega arith in
    let more = map-range_with_len_more (entry_from g column turns) 0 count count (omega arith) in
    let other : eq_by_cmp (slice_cmp nat_cmp) (path_of file) (path_of count) ≡ false = not_tied (path_of file) (path_of count) (λ same. let is = digits_apart file count few (omega arith) same in omega arith) in
    ap (λ k. finite.find (slice_cmp nat_cmp) (path_of file) (entries_from g column turns k)) next
    ∙ ap (finite.find (slice_cmp nat_cmp) (path_of file)) more
    ∙ entries.find-append (slice_cmp nat_cmp) nat_list_cmp_total (entries_from g column turns count) (path_of count) (entry_from g column turns count).1 (path_of file) (new_path g column turns count count (omega arith) (omega arith))
    ∙ ap (λ (b : Bool). cond b (Some (entry_from g column turns count).1) (finite.find (slice_cmp nat_cmp) (path_of file) (entries_from g column turns count))) other
    ∙ new_path g column turns count file (omega arith) few

-- one file more
pub tree_more : (g : Lcg) (column : ℕ) (turns : Bool) (count : ℕ) → count < 1000
    → tree_from g column turns (count + 1) ≡ finite.insert (tree_from g column turns count) (path_of count) (entry_from g column turns count).1
tree_more g column turns count few =
    ap (λ (es : List (List ℕ × File)). let t : Tree = finite.from_entries es in t) (map-range_with_len_more (entry_from g column turns) 0 count count (omega arith))
    ∙ finite.from_entries_push nat_list_cmp_total (slice_cmp-IsAntisymmetric nat_cmp-IsAntisymmetric) (entries_from g column turns count) (path_of count) (entry_from g column turns count).1
    (new_path g column turns count count (omega arith) (omega arith))

-- a folder with one file more
pub folder_more : (g : Lcg) (column : ℕ) (turns : Bool) (file : ℕ) (old new : FolderView) (mid : Lcg) (size : ℕ) (bytes : List ℕ) → file < 1000
    → old ≡ standing (tree_from g column turns file) → mid ≡ behind (sizes_in column file) g → size ≡ size_of column file → bytes ≡ turned_if turns (drawn size mid).0
    → new ≡ record old { tree = finite.insert old.tree (path_of file) (file_with column file bytes) }
    → new ≡ standing (tree_from g column turns (file + 1))
folder_more g column turns file old new mid size bytes few at behind_it size_is bytes_are put =
    let right : bytes ≡ turned_if turns (bytes_from g column file)
    = bytes_are ∙ ap (λ (s : ℕ). turned_if turns (drawn s mid).0) size_is ∙ ap (λ (r : Lcg). turned_if turns (drawn (size_of column file) r).0) behind_it in
    put ∙ ap (λ (v : FolderView). let w : FolderView = record v { tree = finite.insert v.tree (path_of file) (file_with column file bytes) } in w) at
    ∙ ap (λ (bs : List ℕ). standing (finite.insert (tree_from g column turns file) (path_of file) (file_with column file bs))) right
    ∙ sym (ap standing (tree_more g column turns file few))

pub no_files : (g : Lcg) (column : ℕ) (turns : Bool) → finite.empty ≡ tree_from g column turns 0
no_files g column turns = refl

-- one folder more
pub folders_more : (n column : ℕ) (folders : List CalmFolder) (folder : CalmFolder) (g : Lcg) → map calm_folder_view folders ≡ map standing (map (tree_of n) (range_with_len 0 column))
    → g ≡ before n column → calm_folder_view folder ≡ standing (tree_from g column false (files_of n))
    → map calm_folder_view (folders ++ folder ∷ []) ≡ map standing (map (tree_of n) (range_with_len 0 (column + 1)))
folders_more n column folders folder g before_it at made =
    map-append calm_folder_view folders (folder ∷ [])
    ∙ ap (λ (vs : List FolderView). vs ++ calm_folder_view folder ∷ []) before_it
    ∙ ap (λ (v : FolderView). map standing (map (tree_of n) (range_with_len 0 column)) ++ v ∷ []) (made ∙ ap (λ (r : Lcg). standing (tree_from r column false (files_of n))) at)
    ∙ sym (map-append standing (map (tree_of n) (range_with_len 0 column)) (tree_of n column ∷ []))
    ∙ sym (ap (map standing) (map-range_with_len_more (tree_of n) 0 column column (omega arith)))

-- three folders are others
pub damaged_by : (n : ℕ) (folders : List CalmFolder) (a b c : CalmFolder) → calm_folder_view a ≡ standing finite.empty → calm_folder_view b ≡ standing finite.empty → calm_folder_view c ≡ standing (turned_tree n)
    → map calm_folder_view (set (set (set folders 0 a) 1 b) 2 c) ≡ damaged n (map calm_folder_view folders)
damaged_by n folders a b c first second third =
    map-set calm_folder_view (set (set folders 0 a) 1 b) 2 c
    ∙ ap (λ (vs : List FolderView). set vs 2 (calm_folder_view c)) (map-set calm_folder_view (set folders 0 a) 1 b ∙ ap (λ (vs : List FolderView). set vs 1 (calm_folder_view b)) (map-set calm_folder_view folders 0 a))
    ∙ ap (λ (v : FolderView). set (set (set (map calm_folder_view folders) 0 v) 1 (calm_folder_view b)) 2 (calm_folder_view c)) first
    ∙ ap (λ (v : FolderView). set (set (set (map calm_folder_view folders) 0 (standing finite.empty)) 1 v) 2 (calm_folder_view c)) second
    ∙ ap (λ (v : FolderView). set (set (set (map calm_folder_view folders) 0 (standing finite.empty)) 1 (standing finite.empty)) 2 v) third
