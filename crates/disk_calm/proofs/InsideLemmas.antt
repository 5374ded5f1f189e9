-- Where the files that a path is a directory of stand.
use Rattle.std.proofs.Common.{◌≡◌, ◌≢◌, ◌↔◌, inl, inr, ℕ, ◌<◌, ◌≤◌, List, [], ◌∷◌, ◌++◌, length, drop, get_or, Bool, true, false, not, nat_eq, IsTrue, Some, refl, sym, ap, ◌∙◌, subst, arith, append_assoc}
use Rattle.std.specs.List.{starts_with}
use Rattle.std.specs.Ordering.{nat_cmp, ordering_then, ordering_reverse}
use Rattle.std.specs.Cmp.{nat_cmp_total}
use Rattle.std.specs.FinMap.{nat_cmp-IsAntisymmetric, find}
use Rattle.std.specs.declared.cmp.Ordering.{Ordering}
use Rattle.std.specs.declared.cmp.Ordering.TheVariants.{Less, Equal, Greater}
use Rattle.std.proofs.lemmas.Cmp.{tied_itself}
use Rattle.std.proofs.lemmas.Bool.{cases_lt}
use Rattle.std.proofs.lemmas.Bool.Decides.{eqb_tells, Decides-eqb}
use Rattle.std.proofs.lemmas.Slice.Eq.{starts_is}
use Rattle.disk_model.specs.Tree.{File, file_of, is_directory_of}
use Rattle.disk_calm.specs.Files.{IsRising, IsPlace, HoldsNone, tree_of, entries_of, file_in}
use Rattle.disk_calm.specs.declared.files.MemFile.{MemFile}
use Rattle.disk_calm.proofs.OrderLemmas.{path_cmp, tied_same, turned_less, paths_rise, find_at, found_somewhere}
use Rattle.disk_calm.proofs.TreeLemmas.{tree_find, dir_split}

-- what begins with a front is not less than it
pub not_below_front : (front rest : List ℕ) → path_cmp (front ++ rest) front ≢ Less
not_below_front [] [] is = cc
not_below_front [] (r ∷ rest) is = cc
not_below_front (b ∷ front) rest is = not_below_front front rest (sym (ap (λ o. ordering_then o (path_cmp (front ++ rest) front)) (tied_itself nat_cmp_total b)) ∙ is)

-- a path that begins so
pub record Begins (front path : List ℕ) : Type 0 where
  pub rest : List ℕ
  pub is : path ≡ front ++ rest

-- what stands between a front and a path that begins with it begins with it too
pub between : (front path rest : List ℕ) → path_cmp path front ≢ Less → path_cmp (front ++ rest) path ≢ Less → Begins front path
between [] path rest above below = record { rest = path; is = refl }
between (b ∷ front) [] rest above below = absurd (above refl)
between (b ∷ front) (c ∷ path) rest above below = by_cases (nat_cmp c b) refl (λ first second. between front path rest first second)
  where
    by_cases : (o : Ordering) → nat_cmp c b ≡ o → (path_cmp path front ≢ Less → path_cmp (front ++ rest) path ≢ Less → Begins front path) → Begins (b ∷ front) (c ∷ path)
    by_cases Less at on = absurd (above (ap (λ o. ordering_then o (path_cmp path front)) at))
    by_cases Equal at on =
        let turned : nat_cmp b c ≡ Equal = nat_cmp_total.antisymm b c ∙ ap ordering_reverse at in
        let tail = on (λ less. above (ap (λ o. ordering_then o (path_cmp path front)) at ∙ less)) (λ less. below (ap (λ o. ordering_then o (path_cmp (front ++ rest) path)) turned ∙ less)) in
        let heads : c ≡ b = nat_cmp-IsAntisymmetric c b at in
        record { rest = tail.rest; is = ap (λ n. n ∷ path) heads ∙ ap (λ (p : List ℕ). b ∷ p) tail.is }
    by_cases Greater at on =
        let turned : nat_cmp b c ≡ Less = nat_cmp_total.antisymm b c ∙ ap ordering_reverse at in
        absurd (below (ap (λ o. ordering_then o (path_cmp (front ++ rest) path)) turned))

module _ (files : List MemFile) (rises : IsRising files) (path : List ℕ) (place : ℕ) (at : IsPlace files (path ++ 47 ∷ []) place) where
  -- where there is such a file, one stands at the place
  pub record FirstInside : Type 0 where
    pub within : place < length files
    pub begins : (f : MemFile) → f ≡ get_or files place f → starts_with nat_eq f.path (path ++ 47 ∷ []) ≡ true

  first_inside : (other : List ℕ) (file : File) → file_of (tree_of files) other ≡ Some file → is_directory_of path other ≡ true → FirstInside
  first_inside other file found is =
      let front = path ++ 47 ∷ [] in
      let rest = drop (length front) other in
      let split : other ≡ front ++ rest = dir_split path other is ∙ sym (append_assoc path (47 ∷ []) rest) in
      let somewhere = found_somewhere other files file (sym (tree_find files rises other) ∙ found) in
      let j = somewhere.place in
      let too_early : j < place → ⊥ = λ before.
      let d = some_file files j somewhere.within in
      let less : path_cmp (front ++ rest) front ≡ Less = subst (λ (p : List ℕ). path_cmp p front ≡ Less) (somewhere.is d ∙ split) (at.before j d before) in
      not_below_front front rest less
      in
      let from : place ≤ j = elim (cases_lt j place) [ inl before ↦ absurd (too_early before) | inr after ↦ after ] in
      let inside : place < length files = omega (arith, from, somewhere.within) in
      record {
        within = inside;
        begins = λ f is_f.
            let above : path_cmp f.path front ≢ Less = subst (λ (g : MemFile). path_cmp g.path front ≢ Less) (sym is_f) (at.after place f (omega arith) inside) in
            let below : path_cmp (front ++ rest) f.path ≢ Less = λ less. elim (eqb_tells place j) [
              | inl same ↦
                  let one : f.path ≡ front ++ rest = ap (λ (g : MemFile). g.path) is_f ∙ ap (λ n. (get_or files n f).path) same.1 ∙ somewhere.is f ∙ split in
                  let clash : Less ≡ Equal = sym less ∙ tied_same (front ++ rest) f.path (sym one) in cc
              | inr other_place ↦
                  let up = paths_rise files rises place j f (omega (arith, other_place.1, from)) somewhere.within in
                  let here : path_cmp f.path (front ++ rest) ≡ Less = subst (λ (p : List ℕ). path_cmp f.path p ≡ Less) (somewhere.is f ∙ split) (subst (λ (g : MemFile). path_cmp g.path (get_or files j f).path ≡ Less) (sym is_f) up) in
                  let clash : Less ≡ Greater = sym less ∙ turned_less f.path (front ++ rest) here in cc
            ] in
            let whole = between front f.path rest above below in
            (starts_is Decides-eqb f.path front (starts_with nat_eq f.path front) refl).1 whole.rest whole.is;
      }
    where
      some_file : (files : List MemFile) (j : ℕ) → j < length files → MemFile
      some_file [] j within = absurd (omega (arith, within))
      some_file (f ∷ files) j within = f

  pub none_past : length files ≤ place → HoldsNone (tree_of files) path
  none_past past other file found = by_cases (is_directory_of path other) refl
    where
      by_cases : (b : Bool) → is_directory_of path other ≡ b → b ≡ false
      by_cases true is = (let first = first_inside other file found is in absurd (omega (arith, first.within, past)))
      by_cases false is = refl

  pub none_unless_first : (f : MemFile) (begins : Bool) → place < length files → f ≡ get_or files place f → begins ≡ starts_with nat_eq f.path (path ++ 47 ∷ []) → IsTrue (not begins) ↔ HoldsNone (tree_of files) path
  none_unless_first f begins within is_f tested = (none, holds)
    where
      none : IsTrue (not begins) → HoldsNone (tree_of files) path
      none unbegun other file found = by_cases (is_directory_of path other) refl
        where
          by_cases : (b : Bool) → is_directory_of path other ≡ b → b ≡ false
          by_cases true is =
              (let first = first_inside other file found is in
              let yes : begins ≡ true = tested ∙ first.begins f is_f in
              let clash : not true ≡ true = ap not (sym yes) ∙ unbegun in absurd (cc))
          by_cases false is = refl

      holds : HoldsNone (tree_of files) path → IsTrue (not begins)
      holds free =
          let found : file_of (tree_of files) f.path ≡ Some (file_in f) = tree_find files rises f.path ∙ subst (λ (g : MemFile). find path_cmp g.path (entries_of files) ≡ Some (file_in g)) (sym is_f) (find_at files place f rises within) in
          ap not (tested ∙ free f.path (file_in f) found)
