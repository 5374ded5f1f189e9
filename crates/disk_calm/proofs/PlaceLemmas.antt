-- What a binary search over files in order finds.
use Rattle.std.proofs.Common.{◌≡◌, inl, inr, ℕ, ◌≤◌, List, length, get_or, None, Some, Result, Ok, Err, IfOk, IfErr, refl, sym, ap, ◌∙◌, subst, arith}
use Rattle.std.specs.Ordering.{nat_cmp, ordering_index}
use Rattle.std.specs.Cmp.Lexicographic.{slice_cmp, nat_list_cmp_total}
use Rattle.std.specs.List.Sorted.{IsNonDecreasingBy, IsBinarySearchResult, IsSearchInRange}
use Rattle.std.specs.FinMap.{find}
use Rattle.std.specs.declared.cmp.Ordering.{Ordering}
use Rattle.std.specs.declared.cmp.Ordering.TheVariants.{Less, Equal, Greater}
use Rattle.std.proofs.lemmas.Bool.{cases_lt}
use Rattle.std.proofs.lemmas.Bool.Decides.{eqb_tells}
use Rattle.disk_model.specs.Tree.{file_of}
use Rattle.disk_calm.specs.Files.{IsRising, IsPlace, HasPath, LacksPath, tree_of, entries_of, file_in}
use Rattle.disk_calm.specs.declared.files.MemFile.{MemFile}
use Rattle.disk_calm.proofs.OrderLemmas.{path_cmp, tied_paths, tied_same, turned_less, paths_rise, find_at, find_none}
use Rattle.disk_calm.proofs.TreeLemmas.{tree_find}

-- the answers rise
rising : (path earlier later : List ℕ) → path_cmp earlier later ≡ Less → ordering_index (path_cmp earlier path) ≤ ordering_index (path_cmp later path)
rising path earlier later less = by_cases (path_cmp later path) refl
  where
    by_cases : (o : Ordering) → path_cmp later path ≡ o → ordering_index (path_cmp earlier path) ≤ ordering_index (path_cmp later path)
    by_cases Less is = let first : path_cmp earlier path ≡ Less = nat_list_cmp_total.trans earlier later path less is in rw (first, is) (omega arith)
    by_cases Equal is =
        let first : path_cmp earlier path ≡ Less = subst (λ (p : List ℕ). path_cmp earlier p ≡ Less) (tied_paths later path is) less in rw (first, is) (omega arith)
    by_cases Greater is = rw is (most (path_cmp earlier path))
      where
        most : (o : Ordering) → ordering_index o ≤ ordering_index Greater
        most Less = omega arith
        most Equal = omega arith
        most Greater = omega arith

answers_rise : (files : List MemFile) (path : List ℕ) → IsRising files → IsNonDecreasingBy (λ (f : MemFile). ordering_index (path_cmp f.path path)) files
answers_rise files path rises i j d le within =
    elim (eqb_tells i j) [
      | inl same ↦ rw same.1 (omega arith)
      | inr other ↦ rising path (get_or files i d).path (get_or files j d).path (paths_rise files rises i j d (omega (arith, other.1)) within)
    ]

module _ (files : List MemFile) (path : List ℕ) (rises : IsRising files) where
  pub ok_place : (r : Result ℕ ℕ) → IsSearchInRange r (length files) → IsBinarySearchResult (λ (f : MemFile). slice_cmp nat_cmp f.path path) files r → IfOk r (IsPlace files path)
  ok_place (Ok place) bound at = record {
    within = omega (arith, bound);
    before = λ i d below.
        let less = paths_rise files rises i place d below bound in
        subst (λ (p : List ℕ). path_cmp (get_or files i d).path p ≡ Less) (tied_paths (get_or files place d).path path (at d)) less;
    after = λ i d above within is. elim (eqb_tells place i) [
      | inl same ↦
          let tied : path_cmp (get_or files i d).path path ≡ Equal = subst (λ (n : ℕ). path_cmp (get_or files n d).path path ≡ Equal) same.1 (at d) in
          let clash : Less ≡ Equal = sym is ∙ tied in cc
      | inr other ↦
          let less = paths_rise files rises place i d (omega (arith, other.1)) within in
          let here = subst (λ (p : List ℕ). path_cmp p (get_or files i d).path ≡ Less) (tied_paths (get_or files place d).path path (at d)) less in
          let clash : Less ≡ Greater = sym is ∙ turned_less path (get_or files i d).path here in cc
    ];
  }
  ok_place (Err place) bound at = tt

  pub ok_has : (r : Result ℕ ℕ) → IsSearchInRange r (length files) → IsBinarySearchResult (λ (f : MemFile). slice_cmp nat_cmp f.path path) files r → IfOk r (HasPath files path)
  ok_has (Ok place) bound at = record { within = bound; is = λ d. tied_paths (get_or files place d).path path (at d) }
  ok_has (Err place) bound at = tt

  pub err_place : (r : Result ℕ ℕ) → IsSearchInRange r (length files) → IsBinarySearchResult (λ (f : MemFile). slice_cmp nat_cmp f.path path) files r → IfErr r (IsPlace files path)
  err_place (Ok place) bound at = tt
  err_place (Err place) bound at =
      let parts = at (answers_rise files path rises) in
      record {
        within = bound;
        before = λ i d below. parts.0 i d (omega arith) below;
        after = λ i d above within is. (let clash : Less ≡ Greater = sym is ∙ parts.1 i d above within in cc);
      }

  pub err_lacks : (r : Result ℕ ℕ) → IsSearchInRange r (length files) → IsBinarySearchResult (λ (f : MemFile). slice_cmp nat_cmp f.path path) files r → IfErr r (λ place. LacksPath files path)
  err_lacks (Ok place) bound at = tt
  err_lacks (Err place) bound at = λ i d within is.
      let parts = at (answers_rise files path rises) in
      let tied = tied_same (get_or files i d).path path is in
      elim (cases_lt i place) [
        | inl before ↦ (let clash : Less ≡ Equal = sym (parts.0 i d (omega arith) before) ∙ tied in cc)
        | inr after ↦ (let clash : Greater ≡ Equal = sym (parts.1 i d after within) ∙ tied in cc)
      ]

  -- the file at a place
  pub there_at : (place : ℕ) (f : MemFile) → HasPath files path place → f ≡ get_or files place f → Some (file_in f) ≡ file_of (tree_of files) path
  there_at place f at is =
      let found = find_at files place f rises at.within in
      ap (λ (g : MemFile). Some (file_in g)) is ∙ sym found ∙ ap (λ (p : List ℕ). find path_cmp p (entries_of files)) (at.is f) ∙ sym (tree_find files rises path)

  pub not_there : LacksPath files path → None ≡ file_of (tree_of files) path
  not_there lacks = sym (find_none path files lacks) ∙ sym (tree_find files rises path)
