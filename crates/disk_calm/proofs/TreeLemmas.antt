-- What a tree holds after a file was set or taken away.
use Rattle.std.proofs.Common.{◌≡◌, ◌⊎◌, inl, inr, ℕ, ◌+◌, ◌<◌, List, [], ◌∷◌, ◌++◌, length, take, drop, get_or, Bool, true, false, not, cond, Option, None, Some, is_some, IsSome, refl, sym, ap, ◌∙◌, subst, arith, append_assoc, length-append}
use Rattle.std.proofs.lemmas.List.{take-append-drop, drop_more, get_or_at, take_at}
use Rattle.std.proofs.lemmas.Bool.Decides.{Decides-eqb}
use Rattle.std.proofs.lemmas.Slice.Eq.{starts_is}
use Rattle.std.specs.FinMap as map
use Rattle.std.specs.FinMap.{nat_cmp-IsAntisymmetric, slice_cmp-IsAntisymmetric, find, put}
use Rattle.std.specs.FinMap.Entries.{where_key, find-where_key}
use Rattle.std.specs.Ordering.{is_eq, eq_by_cmp}
use Rattle.std.specs.Cmp.{eq_by_cmp_equiv}
use Rattle.std.specs.Cmp.Lexicographic.{nat_list_cmp_total}
use Rattle.std.specs.declared.cmp.Ordering.{Ordering}
use Rattle.std.specs.declared.cmp.Ordering.TheVariants.{Less, Equal, Greater}
use Rattle.disk_model.specs.Tree.{Tree, File, file_of, is_directory_of, IsTree, IsFile, IsApart}
use Rattle.disk_calm.specs.Files.{IsRising, IsKept, tree_of, entries_of, file_in, EndsDirectory, HasNoDirectory}
use Rattle.disk_calm.specs.declared.files.MemFile.{MemFile}
use Rattle.disk_calm.proofs.OrderLemmas.{path_cmp, tied_paths, entries_rise}

-- a directory and a slash begin the path
pub dir_split : (dir path : List ℕ) → is_directory_of dir path ≡ true → path ≡ dir ++ 47 ∷ drop (length (dir ++ 47 ∷ [])) path
dir_split dir path is = (starts_is Decides-eqb path (dir ++ 47 ∷ []) (is_directory_of dir path) refl).0 is ∙ append_assoc dir (47 ∷ []) (drop (length (dir ++ 47 ∷ [])) path)

pub dir_joined : (dir path rest : List ℕ) → path ≡ dir ++ 47 ∷ rest → is_directory_of dir path ≡ true
dir_joined dir path rest is = (starts_is Decides-eqb path (dir ++ 47 ∷ []) (is_directory_of dir path) refl).1 rest (is ∙ sym (append_assoc dir (47 ∷ []) rest))

not_true : (b : Bool) → (b ≡ true → ⊥) → b ≡ false
not_true true wrong = absurd (wrong refl)
not_true false wrong = refl

-- no path is its own directory
pub not_itself : (path : List ℕ) → is_directory_of path path ≡ false
not_itself path = not_true (is_directory_of path path) (λ is.
    let longer = ap length (dir_split path path is) in
    let sum = length-append path (47 ∷ drop (length (path ++ 47 ∷ [])) path) in omega arith)

some_of : {A : Type 0} (o : Option A) → IsSome o → (x : A) × (o ≡ Some x)
some_of None is = absurd (cc)
some_of (Some x) is = (x, refl)

pub ends_directory : (tree : Tree) (path : List ℕ) (end : ℕ) → end < length path → EndsDirectory tree path end → ¬ (HasNoDirectory tree path)
ends_directory tree path end within at none =
    let found = some_of (file_of tree (take end path)) at.file in
    let split : path ≡ take end path ++ 47 ∷ drop (end + 1) path
    = sym (take-append-drop end path) ∙ ap (λ (rest : List ℕ). take end path ++ rest) (drop_more path end 0 within) ∙ ap (λ (byte : ℕ). take end path ++ byte ∷ drop (end + 1) path) at.slash in
    let yes = dir_joined (take end path) path (drop (end + 1) path) split in
    let no = none (take end path) found.0 found.1 in
    let clash : true ≡ false = sym yes ∙ no in cc

pub nothing_ends : (tree : Tree) (path : List ℕ) → ((k : ℕ) → k < length path → ¬ (EndsDirectory tree path k)) → HasNoDirectory tree path
nothing_ends tree path none other file found = not_true (is_directory_of other path) (λ is.
    let rest = drop (length (other ++ 47 ∷ [])) path in
    let split : path ≡ other ++ 47 ∷ rest = dir_split other path is in
    let long = ap length split in
    let sum = length-append other (47 ∷ rest) in
    let slash : get_or path (length other) 0 ≡ 47 = ap (λ (bytes : List ℕ). get_or bytes (length other) 0) split ∙ get_or_at other 47 rest 0 (length other) refl in
    let front : take (length other) path ≡ other = ap (λ (bytes : List ℕ). take (length other) bytes) split ∙ take_at other (47 ∷ rest) (length other) refl in
    let there : file_of tree (take (length other) path) ≡ Some file = ap (file_of tree) front ∙ found in
    none (length other) (omega arith) (record { slash = slash; file = ap is_some there }))

-- what is found in a tree after a file was set
got : (tree : Tree) (path : List ℕ) (file : File) (other : List ℕ) (there : File) → file_of (map.insert tree path file) other ≡ Some there → ((other ≡ path) × (there ≡ file)) ⊎ (file_of tree other ≡ Some there)
got tree path file other there found = by_cases (path_cmp other path) refl
  where
    is : cond (eq_by_cmp path_cmp other path) (Some file) (file_of tree other) ≡ Some there
    is = sym (map.get-insert nat_list_cmp_total tree path file other) ∙ found

    by_cases : (o : Ordering) → path_cmp other path ≡ o → ((other ≡ path) × (there ≡ file)) ⊎ (file_of tree other ≡ Some there)
    by_cases Less at = inr (sym (ap (λ r. cond (is_eq r) (Some file) (file_of tree other)) at) ∙ is)
    by_cases Equal at = inl (tied_paths other path at, (let same : Some file ≡ Some there = sym (ap (λ r. cond (is_eq r) (Some file) (file_of tree other)) at) ∙ is in cc))
    by_cases Greater at = inr (sym (ap (λ r. cond (is_eq r) (Some file) (file_of tree other)) at) ∙ is)

pub insert_tree : (tree : Tree) (path : List ℕ) (file : File) → IsTree tree → IsFile tree path file → IsTree (map.insert tree path file)
insert_tree tree path file trees new other there found = elim (got tree path file other there found) [
  | inl here ↦
      let as_new : IsFile tree other there = subst (λ (p : List ℕ). IsFile tree p there) (sym here.0) (subst (IsFile tree path) (sym here.1) new) in
      record {
        valid = as_new.valid;
        stamp = as_new.stamp;
        bytes = as_new.bytes;
        size = as_new.size;
        apart = λ third f at. elim (got tree path file third f at) [
          | inl same ↦
              let one : third ≡ other = same.0 ∙ sym here.0 in
              let no : is_directory_of third other ≡ false = subst (λ (p : List ℕ). is_directory_of p other ≡ false) (sym one) (not_itself other) in
              let nor : is_directory_of other third ≡ false = subst (λ (p : List ℕ). is_directory_of other p ≡ false) (sym one) (not_itself other) in
              (no, nor)
          | inr old ↦ as_new.apart third f old
        ];
      }
  | inr was ↦
      let as_old = trees other there was in
      record {
        valid = as_old.valid;
        stamp = as_old.stamp;
        bytes = as_old.bytes;
        size = as_old.size;
        apart = λ third f at. elim (got tree path file third f at) [
          | inl same ↦
              let apart = new.apart other there was in (
                subst (λ (p : List ℕ). is_directory_of p other ≡ false) (sym same.0) apart.1,
                subst (λ (p : List ℕ). is_directory_of other p ≡ false) (sym same.0) apart.0,
              )
          | inr old ↦ as_old.apart third f old
        ];
      }
]

left_over : (tree : Tree) (path other : List ℕ) (there : File) → file_of (map.remove tree path) other ≡ Some there → file_of tree other ≡ Some there
left_over tree path other there found = by_cases (eq_by_cmp path_cmp other path) (sym (map.get-remove nat_list_cmp_total tree path other) ∙ found)
  where
    by_cases : (b : Bool) → cond b None (file_of tree other) ≡ Some there → file_of tree other ≡ Some there
    by_cases true is = absurd (cc)
    by_cases false is = is

pub remove_tree : (tree : Tree) (path : List ℕ) → IsTree tree → IsTree (map.remove tree path)
remove_tree tree path trees other there found =
    let as_old = trees other there (left_over tree path other there found) in
    record { valid = as_old.valid; stamp = as_old.stamp; bytes = as_old.bytes; size = as_old.size; apart = λ third f at. as_old.apart third f (left_over tree path third f at) }

-- a path that a tree has room for, it has room for without a file of its own
pub apart_without : (tree : Tree) (from path : List ℕ) → IsApart tree path → IsApart (map.remove tree from) path
apart_without tree from path apart other there found = apart other there (left_over tree from other there found)

-- to set a file as it is changes nothing
pub set_same : (tree : Tree) (path : List ℕ) (file : File) → file_of tree path ≡ Some file → tree ≡ map.insert tree path file
set_same tree path file found = map.same_map nat_list_cmp_total (slice_cmp-IsAntisymmetric nat_cmp-IsAntisymmetric) tree (map.insert tree path file) (λ q.
    by_cases q (path_cmp q path) refl ∙ sym (map.get-insert nat_list_cmp_total tree path file q))
  where
    by_cases : (q : List ℕ) (o : Ordering) → path_cmp q path ≡ o → file_of tree q ≡ cond (eq_by_cmp path_cmp q path) (Some file) (file_of tree q)
    by_cases q Less at = sym (ap (λ r. cond (is_eq r) (Some file) (file_of tree q)) at)
    by_cases q Equal at = ap (file_of tree) (tied_paths q path at) ∙ found ∙ sym (ap (λ r. cond (is_eq r) (Some file) (file_of tree q)) at)
    by_cases q Greater at = sym (ap (λ r. cond (is_eq r) (Some file) (file_of tree q)) at)

pub tree_find : (files : List MemFile) → IsRising files → (path : List ℕ) → file_of (tree_of files) path ≡ find path_cmp path (entries_of files)
tree_find files rising path = map.get-from_sorted path_cmp (entries_of files) path (entries_rise files rising)

pub tree_entries : (files : List MemFile) → IsRising files → map.entries (tree_of files) ≡ entries_of files
tree_entries files rising = map.entries-from_sorted path_cmp (entries_of files) (entries_rise files rising)

pub tree_put : (files later : List MemFile) (new : MemFile) → IsRising files → IsRising later → put path_cmp new.path (file_in new) (entries_of files) ≡ entries_of later
    → tree_of later ≡ map.insert (tree_of files) new.path (file_in new)
tree_put files later new rising still is = map.same_entries_map (tree_of later) (map.insert (tree_of files) new.path (file_in new))
    (tree_entries later still ∙ sym is ∙ ap (put path_cmp new.path (file_in new)) (sym (tree_entries files rising)) ∙ sym (map.entries-insert nat_list_cmp_total (tree_of files) new.path (file_in new)))

pub kept_put : (files later : List MemFile) (new : MemFile) → IsKept files → IsRising later → put path_cmp new.path (file_in new) (entries_of files) ≡ entries_of later
    → IsFile (tree_of files) new.path (file_in new) → IsKept later
kept_put files later new kept still is file = record {
  rising = still;
  tree = subst IsTree (sym (tree_put files later new kept.rising still is)) (insert_tree (tree_of files) new.path (file_in new) kept.tree file);
}

turned : {A : Type 0} (b : Bool) (x y : A) → cond (not b) x y ≡ cond b y x
turned true x y = refl
turned false x y = refl

pub tree_without : (files later : List MemFile) (path : List ℕ) → IsRising files → IsRising later → where_key path_cmp (λ x. not (eq_by_cmp path_cmp path x)) (entries_of files) ≡ entries_of later
    → tree_of later ≡ map.remove (tree_of files) path
tree_without files later path rising still is = map.same_map nat_list_cmp_total (slice_cmp-IsAntisymmetric nat_cmp-IsAntisymmetric) (tree_of later) (map.remove (tree_of files) path) (λ q.
    let passes : List ℕ → Bool = λ x. not (eq_by_cmp path_cmp path x) in
    tree_find later still q ∙ ap (find path_cmp q) (sym is)
    ∙ find-where_key path_cmp passes q (λ x tied. ap passes (sym (tied_paths q x tied))) (entries_of files)
    ∙ turned (eq_by_cmp path_cmp path q) (find path_cmp q (entries_of files)) None
    ∙ ap (λ b. cond b None (find path_cmp q (entries_of files))) ((eq_by_cmp_equiv nat_list_cmp_total).symm path q)
    ∙ ap (λ (o : Option File). cond (eq_by_cmp path_cmp q path) None o) (sym (tree_find files rising q))
    ∙ sym (map.get-remove nat_list_cmp_total (tree_of files) path q))

pub kept_without : (files later : List MemFile) (path : List ℕ) → IsKept files → IsRising later → where_key path_cmp (λ x. not (eq_by_cmp path_cmp path x)) (entries_of files) ≡ entries_of later → IsKept later
kept_without files later path kept still is = record {
  rising = still;
  tree = subst IsTree (sym (tree_without files later path kept.rising still is)) (remove_tree (tree_of files) path kept.tree);
}

-- to take away what is not there changes nothing
pub remove_nothing : (tree : Tree) (path : List ℕ) → file_of tree path ≡ None → tree ≡ map.remove tree path
remove_nothing tree path none = map.same_map nat_list_cmp_total (slice_cmp-IsAntisymmetric nat_cmp-IsAntisymmetric) tree (map.remove tree path) (λ q.
    by_cases q (path_cmp q path) refl ∙ sym (map.get-remove nat_list_cmp_total tree path q))
  where
    by_cases : (q : List ℕ) (o : Ordering) → path_cmp q path ≡ o → file_of tree q ≡ cond (eq_by_cmp path_cmp q path) None (file_of tree q)
    by_cases q Less at = sym (ap (λ r. cond (is_eq r) None (file_of tree q)) at)
    by_cases q Equal at = ap (file_of tree) (tied_paths q path at) ∙ none ∙ sym (ap (λ r. cond (is_eq r) None (file_of tree q)) at)
    by_cases q Greater at = sym (ap (λ r. cond (is_eq r) None (file_of tree q)) at)

pub kept_empty : IsKept []
kept_empty = record { rising = tt; tree = λ path file found. absurd (nothing path file found) }
  where
    nothing : (path : List ℕ) (file : File) → file_of (tree_of []) path ≡ Some file → ⊥
    nothing path file found = let clash : None ≡ Some file = sym (tree_find [] tt path) ∙ found in cc

pub tree_empty : tree_of [] ≡ map.empty
tree_empty = map.empty_of_len (tree_of []) (map.len-entries (tree_of []) ∙ ap length (tree_entries [] tt))
