-- Files that are taken away, one after another.
use Rattle.std.proofs.Common.{◌≡◌, ◌≢◌, ◌⊎◌, inl, inr, ⊎_elim, ℕ, zero, suc, ◌<◌, ◌++◌, List, [], ◌∷◌, length, map, get_or, set, Bool, true, false, None, refl, sym, ap, ◌∙◌, subst, arith, append-nil}
use Rattle.std.specs.Prelude.{bytes_eq}
use Rattle.std.specs.FinMap as finite_map
use Rattle.std.proofs.lemmas.Bool.{false≢true}
use Rattle.std.proofs.lemmas.Slice.Eq.{bytes_eq-Decides}
use Rattle.disk_model.specs.Folder.{FolderView}
use Rattle.disk_model.specs.Tree.{Tree, file_of, path_of}
use Rattle.disk_model.proofs.TreeLemmas.{gone_here, gone_other}
use Rattle.snap_sync.specs.Part.{tree_at, trees_of}
use Rattle.snap_top.specs.Taken.{IsTakenFrom, OnlyTakenAway}

pub nothing_taken : (tree : Tree) → IsTakenFrom tree tree
nothing_taken tree = record { plain = λ path. inl refl; lost = λ path. inl refl }

pub then_taken : (old mid new : Tree) → IsTakenFrom old mid → IsTakenFrom mid new → IsTakenFrom old new
then_taken old mid new first next = record {
  plain = λ path. ⊎_elim
      (λ same. ⊎_elim
      (λ before. inl (same ∙ before))
      (λ gone. inr (same ∙ gone.0, ⊎_elim (λ stays. stays ∙ gone.1) (λ none. none) (next.lost path)))
      (first.plain path))
      (λ gone. inr gone)
      (next.plain path);
  lost = λ path. ⊎_elim
      (λ same. ⊎_elim (λ before. inl (same ∙ before)) (λ none. inr (same ∙ none)) (first.lost path))
      (λ none. inr none)
      (next.lost path);
}

-- ---- one file is taken away

name_cases : (one other : List ℕ) → (one ≡ other) ⊎ (one ≢ other)
name_cases one other = by (bytes_eq one other) refl
  where
    by : (b : Bool) → bytes_eq one other ≡ b → (one ≡ other) ⊎ (one ≢ other)
    by true is = inl ((bytes_eq-Decides one other).0 is)
    by false is = inr (λ same. false≢true (sym is ∙ (bytes_eq-Decides one other).1 same))

-- under any other name stands what stood there
after_removal : (tree : Tree) (path name : List ℕ) → (file_of (finite_map.remove tree path) name ≡ file_of tree name) ⊎ (file_of (finite_map.remove tree path) name ≡ None)
after_removal tree path name = ⊎_elim
    (λ same. inr (ap (λ (it : List ℕ). file_of (finite_map.remove tree path) it) same ∙ gone_here tree path))
    (λ apart. inl (gone_other tree path name apart))
    (name_cases name path)

pub one_taken : (tree : Tree) (path : List ℕ) → file_of tree (path_of path true) ≡ None → IsTakenFrom tree (finite_map.remove tree path)
one_taken tree path none = record {
  plain = λ other. ⊎_elim
      (λ same.
      let here : other ≡ path = sym (append-nil other) ∙ same in
      let gone : file_of (finite_map.remove tree path) (path_of other false) ≡ None = ap (λ (it : List ℕ). file_of (finite_map.remove tree path) it) same ∙ gone_here tree path in
      let none_then : file_of (finite_map.remove tree path) (path_of path true) ≡ None = ⊎_elim (λ stays. stays ∙ none) (λ is. is) (after_removal tree path (path_of path true)) in
      inr (gone, ap (λ (it : List ℕ). file_of (finite_map.remove tree path) (path_of it true)) here ∙ none_then))
      (λ apart. inl (gone_other tree path (path_of other false) apart))
      (name_cases (path_of other false) path);
  lost = λ other. after_removal tree path (path_of other true);
}

-- ---- of one folder

module _ {F : Type 0} (folder_view : F → FolderView) where
  set_taken : (folders : List F) (k d : ℕ) (folder default : F) → k < length folders → IsTakenFrom (folder_view (get_or folders k default)).tree (folder_view folder).tree
      → IsTakenFrom (tree_at (trees_of (map folder_view folders)) d) (tree_at (trees_of (map folder_view (set folders k folder))) d)
  set_taken [] k d folder default within taken = absurd (omega (arith, within))
  set_taken (x ∷ folders) zero zero folder default within taken = taken
  set_taken (x ∷ folders) zero (suc d) folder default within taken = nothing_taken (tree_at (trees_of (map folder_view folders)) d)
  set_taken (x ∷ folders) (suc k) zero folder default within taken = nothing_taken (folder_view x).tree
  set_taken (x ∷ folders) (suc k) (suc d) folder default within taken = set_taken folders k d folder default (omega (arith, within)) taken

  pub more_taken : (olds : List Tree) (folders : List F) (k : ℕ) (folder default : F) → OnlyTakenAway olds (trees_of (map folder_view folders)) → k < length folders
      → IsTakenFrom (folder_view (get_or folders k default)).tree (folder_view folder).tree → OnlyTakenAway olds (trees_of (map folder_view (set folders k folder)))
  more_taken olds folders k folder default taken within one d =
      then_taken (tree_at olds d) (tree_at (trees_of (map folder_view folders)) d) (tree_at (trees_of (map folder_view (set folders k folder))) d) (taken d) (set_taken folders k d folder default within one)
